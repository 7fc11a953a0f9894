-- `==` of borders is equality of their values.
use Rattle.std.proofs.Common.{◌≡◌, refl, ap}
use Rattle.std.specs.Bool.{Decides}
use Rattle.std.proofs.lemmas.Bool.Decides.{Decides-like, Decides-and}
use Rattle.base_values.specs.laws.Decided.{option_equals}
use Rattle.base_styles.specs.laws.ColorEquals.{color_equals}
use Rattle.base_styles.specs.declared.border.BorderStyle.{BorderStyle}
use Rattle.base_styles.specs.declared.border.BorderStyle.TheVariants.{Dotted, Thin, MediumDashDotDot, MediumDashDot, SlantDashDot, MediumDashed, Medium, Thick, Double}
use Rattle.base_styles.specs.contracts.border.BorderStylePartialEq.TheImpl as border_style
use Rattle.base_styles.specs.declared.border.BorderItem.{BorderItem}
use Rattle.base_styles.specs.contracts.border.BorderItemPartialEq.TheImpl as border_item
use Rattle.base_styles.specs.declared.border.Border.{Border}
use Rattle.base_styles.specs.contracts.border.BorderPartialEq.TheImpl as border

pub border_style_equals : (a b : BorderStyle) → Decides (border_style.ghosts.eq a b) (a ≡ b)
border_style_equals Dotted Dotted = (λ _. refl, λ _. refl)
border_style_equals Thin Thin = (λ _. refl, λ _. refl)
border_style_equals MediumDashDotDot MediumDashDotDot = (λ _. refl, λ _. refl)
border_style_equals MediumDashDot MediumDashDot = (λ _. refl, λ _. refl)
border_style_equals SlantDashDot SlantDashDot = (λ _. refl, λ _. refl)
border_style_equals MediumDashed MediumDashed = (λ _. refl, λ _. refl)
border_style_equals Medium Medium = (λ _. refl, λ _. refl)
border_style_equals Thick Thick = (λ _. refl, λ _. refl)
border_style_equals Double Double = (λ _. refl, λ _. refl)
border_style_equals _ _ = (λ e. cc, λ e. cc)

pub border_item_equals : (a b : BorderItem) → Decides (border_item.ghosts.eq a b) (a ≡ b)
border_item_equals a b =
    Decides-like _ (λ p i. record { style = p.0 i; color = p.1 i })
    (λ e. (ap (λ x. x.style) e, ap (λ x. x.color) e))
    (Decides-and _ _ (border_style_equals _ _) (color_equals _ _))

pub border_equals : (a b : Border) → Decides (border.ghosts.eq a b) (a ≡ b)
border_equals a b =
    Decides-like _ (λ p i. record { left = p.0 i; right = p.1.0 i; top = p.1.1.0 i; bottom = p.1.1.1 i })
    (λ e. (ap (λ x. x.left) e, (ap (λ x. x.right) e, (ap (λ x. x.top) e, ap (λ x. x.bottom) e))))
    (Decides-and _ _ (option_equals border_item_equals _ _) (Decides-and _ _ (option_equals border_item_equals _ _) (Decides-and _ _ (option_equals border_item_equals _ _) (option_equals border_item_equals _ _))))
