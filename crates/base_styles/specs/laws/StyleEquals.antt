-- `==` of styles is equality of their values.
use Rattle.std.proofs.Common.{◌≡◌, ap}
use Rattle.std.specs.Bool.{Decides}
use Rattle.std.specs.Cmp.{booleans_Decides, signed_Decides}
use Rattle.std.specs.Cmp.Lexicographic.{bytes_decides}
use Rattle.std.proofs.lemmas.Bool.Decides.{Decides-like, Decides-and}
use Rattle.base_values.specs.laws.Decided.{option_equals}
use Rattle.base_styles.specs.laws.ColorEquals.{color_equals}
use Rattle.base_styles.specs.laws.BorderEquals.{border_equals}
use Rattle.base_styles.specs.laws.AlignmentEquals.{alignment_equals}
use Rattle.base_styles.specs.declared.style.Font.{Font}
use Rattle.base_styles.specs.contracts.style.FontPartialEq.TheImpl as font
use Rattle.base_styles.specs.declared.style.Style.{Style}
use Rattle.base_styles.specs.contracts.style.StylePartialEq.TheImpl as style

pub font_equals : (a b : Font) → Decides (font.ghosts.eq a b) (a ≡ b)
font_equals a b =
    Decides-like _ (λ p i. record { b = p.0 i; i = p.1.0 i; u = p.1.1.0 i; strike = p.1.1.1.0 i; sz = p.1.1.1.1.0 i; color = p.1.1.1.1.1 i })
    (λ e. (ap (λ x. x.b) e, (ap (λ x. x.i) e, (ap (λ x. x.u) e, (ap (λ x. x.strike) e, (ap (λ x. x.sz) e, ap (λ x. x.color) e))))))
    (Decides-and _ _ (booleans_Decides _ _) (Decides-and _ _ (booleans_Decides _ _) (Decides-and _ _ (booleans_Decides _ _) (Decides-and _ _ (booleans_Decides _ _) (Decides-and _ _ (signed_Decides _ _) (color_equals _ _))))))

pub style_equals : (a b : Style) → Decides (style.ghosts.eq a b) (a ≡ b)
style_equals a b =
    Decides-like _ (λ p i. record { font = p.0 i; fill = p.1.0 i; border = p.1.1.0 i; num_fmt = p.1.1.1.0 i; alignment = p.1.1.1.1 i })
    (λ e. (ap (λ x. x.font) e, (ap (λ x. x.fill) e, (ap (λ x. x.border) e, (ap (λ x. x.num_fmt) e, ap (λ x. x.alignment) e)))))
    (Decides-and _ _ (font_equals _ _) (Decides-and _ _ (color_equals _ _) (Decides-and _ _ (border_equals _ _) (Decides-and _ _ (bytes_decides _ _) (option_equals alignment_equals _ _)))))
