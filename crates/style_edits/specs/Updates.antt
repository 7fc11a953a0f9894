-- A style with one attribute changed by a path and a value.
use Rattle.std.specs.Prelude.{ℕ, ◌==◌, List, length, if◌then◌else◌, Option, Some, None, Result}
use Rattle.std.specs.Option.{option_map, unwrap_or}
use Rattle.base_values.specs.Answers.{ok_or, and_then}
use Rattle.base_values.specs.declared.error.EditError.{EditError}
use Rattle.base_values.specs.declared.error.EditError.TheVariants.{StylePath as NoPath, StyleValue as NoValue}
use Rattle.base_tables.specs.Tables.{entry_named}
use Rattle.base_styles.specs.declared.style.Font.{Font}
use Rattle.base_styles.specs.declared.style.Style.{Style}
use Rattle.base_styles.specs.declared.alignment.Alignment.{Alignment}
use Rattle.base_styles.specs.Alignments.{default_alignment}
use Rattle.style_edits.specs.declared.path.FontPath.{FontPath}
use Rattle.style_edits.specs.declared.path.FontPath.TheVariants.{Bold, Italic, Underline, Strike, Color, Size, SizeDelta}
use Rattle.style_edits.specs.declared.path.AlignmentPath.{AlignmentPath}
use Rattle.style_edits.specs.declared.path.AlignmentPath.TheVariants.{Horizontal, Vertical, WrapText}
use Rattle.style_edits.specs.declared.path.StylePath.{StylePath}
use Rattle.style_edits.specs.declared.path.StylePath.TheVariants.{Font as OfFont, Fill, NumberFormat, Alignment as WholeAlignment, AlignmentPart}
use Rattle.style_edits.specs.Paths.{all_paths, path_name}
use Rattle.style_edits.specs.Values.{boolean_of, color_of, horizontal_of, vertical_of, size_of, grown_size}

-- how the value of each attribute of a font is read, and what it sets
abbrev pub font_after : FontPath → Font → List ℕ → Option Font
font_after Bold font value = option_map (λ b. record font { b = b }) (boolean_of value)
font_after Italic font value = option_map (λ i. record font { i = i }) (boolean_of value)
font_after Underline font value = option_map (λ u. record font { u = u }) (boolean_of value)
font_after Strike font value = option_map (λ strike. record font { strike = strike }) (boolean_of value)
font_after Color font value = option_map (λ color. record font { color = color }) (color_of value)
font_after Size font value = option_map (λ size. record font { sz = size }) (size_of value)
font_after SizeDelta font value = option_map (λ size. record font { sz = size }) (grown_size font.sz value)

-- the same of the attributes of an alignment
abbrev pub alignment_after : AlignmentPath → Alignment → List ℕ → Option Alignment
alignment_after Horizontal alignment value = option_map (λ horizontal. record alignment { horizontal = horizontal }) (horizontal_of value)
alignment_after Vertical alignment value = option_map (λ vertical. record alignment { vertical = vertical }) (vertical_of value)
alignment_after WrapText alignment value = option_map (λ wrap. record alignment { wrap_text = wrap }) (boolean_of value)

-- the alignment of a style, or the usual one where it has none
abbrev pub alignment_of : Style → Alignment
alignment_of style = unwrap_or style.alignment default_alignment

-- the style with another value at the path, if the value is one of this path
abbrev pub style_after : StylePath → Style → List ℕ → Option Style
style_after (OfFont path) style value = option_map (λ font. record style { font = font }) (font_after path style.font value)
style_after (Fill path) style value = option_map (λ color. record style { fill = color }) (color_of value)
style_after NumberFormat style value = Some (record style { num_fmt = value })
style_after WholeAlignment style value = if length value == 0 then Some (record style { alignment = None }) else None
style_after (AlignmentPart path) style value =
    option_map (λ alignment. record style { alignment = Some alignment }) (alignment_after path (alignment_of style) value)

-- the style with this value at the path of this name. First the path is tested, then the value
abbrev pub updated_style : Style → List ℕ → List ℕ → Result Style EditError
updated_style style path value = and_then (ok_or NoPath (entry_named path_name all_paths path)) (λ found. ok_or NoValue (style_after found style value))
