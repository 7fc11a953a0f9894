-- `==` of alignments is equality of their values.
use Rattle.std.proofs.Common.{◌≡◌, refl, ap}
use Rattle.std.specs.Bool.{Decides}
use Rattle.std.specs.Cmp.{booleans_Decides}
use Rattle.std.proofs.lemmas.Bool.Decides.{Decides-like, Decides-and}
use Rattle.base_styles.specs.declared.alignment.HorizontalAlignment.{HorizontalAlignment}
use Rattle.base_styles.specs.declared.alignment.HorizontalAlignment.TheVariants.{General as HGeneral, Left as HLeft, Center as HCenter, Right as HRight, Fill as HFill, Justify as HJustify, CenterContinuous as HCenterContinuous, Distributed as HDistributed}
use Rattle.base_styles.specs.contracts.alignment.HorizontalAlignmentPartialEq.TheImpl as horizontal
use Rattle.base_styles.specs.declared.alignment.VerticalAlignment.{VerticalAlignment}
use Rattle.base_styles.specs.declared.alignment.VerticalAlignment.TheVariants.{Bottom as VBottom, Center as VCenter, Distributed as VDistributed, Justify as VJustify, Top as VTop}
use Rattle.base_styles.specs.contracts.alignment.VerticalAlignmentPartialEq.TheImpl as vertical
use Rattle.base_styles.specs.declared.alignment.Alignment.{Alignment}
use Rattle.base_styles.specs.contracts.alignment.AlignmentPartialEq.TheImpl as alignment

pub horizontal_equals : (a b : HorizontalAlignment) → Decides (horizontal.ghosts.eq a b) (a ≡ b)
horizontal_equals HGeneral HGeneral = (λ _. refl, λ _. refl)
horizontal_equals HLeft HLeft = (λ _. refl, λ _. refl)
horizontal_equals HCenter HCenter = (λ _. refl, λ _. refl)
horizontal_equals HRight HRight = (λ _. refl, λ _. refl)
horizontal_equals HFill HFill = (λ _. refl, λ _. refl)
horizontal_equals HJustify HJustify = (λ _. refl, λ _. refl)
horizontal_equals HCenterContinuous HCenterContinuous = (λ _. refl, λ _. refl)
horizontal_equals HDistributed HDistributed = (λ _. refl, λ _. refl)
horizontal_equals _ _ = (λ e. cc, λ e. cc)

pub vertical_equals : (a b : VerticalAlignment) → Decides (vertical.ghosts.eq a b) (a ≡ b)
vertical_equals VBottom VBottom = (λ _. refl, λ _. refl)
vertical_equals VCenter VCenter = (λ _. refl, λ _. refl)
vertical_equals VDistributed VDistributed = (λ _. refl, λ _. refl)
vertical_equals VJustify VJustify = (λ _. refl, λ _. refl)
vertical_equals VTop VTop = (λ _. refl, λ _. refl)
vertical_equals _ _ = (λ e. cc, λ e. cc)

pub alignment_equals : (a b : Alignment) → Decides (alignment.ghosts.eq a b) (a ≡ b)
alignment_equals a b =
    Decides-like _ (λ p i. record { horizontal = p.0 i; vertical = p.1.0 i; wrap_text = p.1.1 i })
    (λ e. (ap (λ x. x.horizontal) e, (ap (λ x. x.vertical) e, ap (λ x. x.wrap_text) e)))
    (Decides-and _ _ (horizontal_equals _ _) (Decides-and _ _ (vertical_equals _ _) (booleans_Decides _ _)))
