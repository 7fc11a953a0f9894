-- A style is the default one exactly where each of its parts is.
use Rattle.std.proofs.Common.{◌≡◌, Option, Some, None, refl, ap, sym}
use Rattle.std.specs.Prelude.{Bool, ◌&&◌, is_none}
use Rattle.std.specs.Bool.{Decides}
use Rattle.std.specs.Cmp.Lexicographic.{bytes_decides}
use Rattle.std.proofs.lemmas.Bool.Decides.{Decides-like, Decides-and}
use Rattle.base_values.specs.laws.CodedEq.{is_same_value}
use Rattle.base_styles.specs.laws.ColorEquals.{color_equals}
use Rattle.base_styles.specs.laws.BorderEquals.{border_equals}
use Rattle.base_styles.specs.laws.StyleEquals.{font_equals}
use Rattle.base_styles.specs.declared.alignment.Alignment.{Alignment}
use Rattle.base_styles.specs.declared.style.Style.{Style}
use Rattle.base_styles.specs.contracts.style.Style as style
use Rattle.base_styles.specs.DefaultStyle.{default_style}
use Rattle.sheet_grid.specs.DefaultParts.{is_default, is_default_font, is_default_border, is_default_fill, is_default_format}

-- each part is the default style's
abbrev pub has_default_parts : Style → Bool
has_default_parts given =
    is_default_font given.font && (is_default_fill given.fill && (is_default_border given.border && (is_default_format given.num_fmt && is_none given.alignment)))

no_alignment : (given : Option Alignment) → Decides (is_none given) (given ≡ None)
no_alignment None = (λ _. refl, λ _. refl)
no_alignment (Some given) = (λ h. cc, λ h. cc)

parts_decide : (given : Style) → Decides (has_default_parts given) (given ≡ default_style)
parts_decide given =
    Decides-like _ (λ p i. record { font = p.0 i; fill = p.1.0 i; border = p.1.1.0 i; num_fmt = p.1.1.1.0 i; alignment = p.1.1.1.1 i })
    (λ e. (ap (λ x. x.font) e, (ap (λ x. x.fill) e, (ap (λ x. x.border) e, (ap (λ x. x.num_fmt) e, ap (λ x. x.alignment) e)))))
    (Decides-and _ _ (font_equals _ _) (Decides-and _ _ (color_equals _ _) (Decides-and _ _ (border_equals _ _) (Decides-and _ _ (bytes_decides _ _) (no_alignment _)))))

-- a style is the default one where each of its parts is
pub default_parts : (given : Style) → is_default given ≡ has_default_parts given
default_parts given = sym (is_same_value style.the_row.coded given default_style _ (parts_decide given))
