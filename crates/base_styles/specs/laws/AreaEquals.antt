-- `==` of borders for areas is equality of their values.
use Rattle.std.proofs.Common.{◌≡◌, refl, ap}
use Rattle.std.specs.Bool.{Decides}
use Rattle.std.proofs.lemmas.Bool.Decides.{Decides-like, Decides-and}
use Rattle.base_styles.specs.laws.BorderEquals.{border_item_equals}
use Rattle.base_styles.specs.declared.border_area.BorderType.{BorderType}
use Rattle.base_styles.specs.declared.border_area.BorderType.TheVariants as kind
use Rattle.base_styles.specs.contracts.border_area.BorderTypePartialEq.TheImpl as border_type
use Rattle.base_styles.specs.declared.border_area.BorderArea.{BorderArea}
use Rattle.base_styles.specs.contracts.border_area.BorderAreaPartialEq.TheImpl as border_area

pub border_type_equals : (a b : BorderType) → Decides (border_type.ghosts.eq a b) (a ≡ b)
border_type_equals kind.All kind.All = (λ _. refl, λ _. refl)
border_type_equals kind.Inner kind.Inner = (λ _. refl, λ _. refl)
border_type_equals kind.Outer kind.Outer = (λ _. refl, λ _. refl)
border_type_equals kind.Top kind.Top = (λ _. refl, λ _. refl)
border_type_equals kind.Right kind.Right = (λ _. refl, λ _. refl)
border_type_equals kind.Bottom kind.Bottom = (λ _. refl, λ _. refl)
border_type_equals kind.Left kind.Left = (λ _. refl, λ _. refl)
border_type_equals kind.CenterH kind.CenterH = (λ _. refl, λ _. refl)
border_type_equals kind.CenterV kind.CenterV = (λ _. refl, λ _. refl)
border_type_equals kind.None kind.None = (λ _. refl, λ _. refl)
border_type_equals _ _ = (λ e. cc, λ e. cc)

pub border_area_equals : (a b : BorderArea) → Decides (border_area.ghosts.eq a b) (a ≡ b)
border_area_equals a b =
    Decides-like _ (λ p i. record { item = p.0 i; kind = p.1 i })
    (λ e. (ap (λ x. x.item) e, ap (λ x. x.kind) e))
    (Decides-and _ _ (border_item_equals _ _) (border_type_equals _ _))
