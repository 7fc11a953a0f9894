-- What is encoded of styles and cells is read again.
use Rattle.std.proofs.Common.{◌≡◌, ℕ, List, ◌++◌, Option, Some, None, Ok, refl}
use Rattle.std.specs.Prelude.{IfSome, FitsSigned}
use Rattle.std.specs.Int.{w32}
use Rattle.std.proofs.lemmas.List.{append-nil}
use Rattle.base_styles.specs.declared.ThemeColor.{ThemeColor}
use Rattle.base_styles.specs.declared.ThemeColor.TheVariants.{Light1, Dark1, Light2, Dark2, Accent1, Accent2, Accent3, Accent4, Accent5, Accent6, Hyperlink, FollowedHyperlink}
use Rattle.base_styles.specs.Colors.{theme_color_code, theme_color_of_code}
use Rattle.base_styles.specs.declared.Color.{Color}
use Rattle.base_styles.specs.declared.Color.TheVariants.{None as NoColor, Rgb, Theme}
use Rattle.base_styles.specs.declared.BorderStyle.{BorderStyle}
use Rattle.base_styles.specs.declared.BorderStyle.TheVariants.{Dotted, Thin, MediumDashDotDot, MediumDashDot, SlantDashDot, MediumDashed, Medium, Thick, Double}
use Rattle.base_styles.specs.declared.HorizontalAlignment.{HorizontalAlignment}
use Rattle.base_styles.specs.declared.HorizontalAlignment.TheVariants as horizontal
use Rattle.base_styles.specs.declared.VerticalAlignment.{VerticalAlignment}
use Rattle.base_styles.specs.declared.VerticalAlignment.TheVariants as vertical
use Rattle.cell_content.specs.declared.Content.{Content}
use Rattle.cell_content.specs.declared.Content.TheVariants.{Empty, Number, Boolean, Error as ErrorValue, Text, Formula, Dynamic, Array}
use Rattle.base_wire.specs.laws.Reading.{decoded, ◌⊗◌, signed_at}
use Rattle.formula_wire.specs.NodeBytes.{encode_node}
use Rattle.formula_wire.specs.laws.Reading.{node_at}
use Rattle.formula_wire.specs.Carried.{FitsNode}
use Rattle.base_wire.specs.Encoding.{Both, encode_both, encode_option, encode_signed}
use Rattle.grid_wire.specs.StyleBytes.{encode_color, FitsColor, encode_font, FitsFont, border_code, encode_border_item, FitsBorderItem, encode_border, FitsBorder, horizontal_code, vertical_code, encode_alignment, encode_style, FitsStyle}
use Rattle.grid_wire.specs.laws.CellReading.{color_at, font_made, font_at, border_styles, border_item_made, border_item_at, border_made, side_at, border_at, horizontals, verticals, alignment_made, alignment_at, alignment_option_at, style_made, style_at, position_made, position_at, content_at, cell_made, cell_at}
use Rattle.grid_wire.specs.CellBytes.{encode_position, FitsPosition, encode_content, FitsContent, encode_cell, FitsCell}
use Rattle.base_wire.specs.laws.Again.{ReadsAgain, both_again, map_again, code_again, wide32, signed_again, text_again, option_again}
use Rattle.base_wire.specs.Encoding.{Any}
use Rattle.base_wire.specs.laws.Parts.{boolean_again, error_again, decimal_again}
use Rattle.formula_wire.specs.laws.NodeLaws.{node_again}

-- ---- colours

theme_known : (x : ThemeColor) → theme_color_of_code (theme_color_code x) ≡ Some x
theme_known Light1 = refl
theme_known Dark1 = refl
theme_known Light2 = refl
theme_known Dark2 = refl
theme_known Accent1 = refl
theme_known Accent2 = refl
theme_known Accent3 = refl
theme_known Accent4 = refl
theme_known Accent5 = refl
theme_known Accent6 = refl
theme_known Hyperlink = refl
theme_known FollowedHyperlink = refl

pub color_again : ReadsAgain FitsColor encode_color color_at
unfolding color_at
color_again = record { again = one }
  where
    one : (x : Color) (rest : List ℕ) → FitsColor x → color_at (encode_color x ++ rest) ≡ Ok (x, rest)
    one NoColor rest fits = refl
    one (Rgb red green blue) rest fits = refl
    one (Theme theme) rest fits = rw (theme_known theme) refl

-- ---- fonts

font_again : ReadsAgain FitsFont encode_font font_at
unfolding font_at
font_again = record {
  again = λ x rest fits.
      (map_again (both_again boolean_again (both_again boolean_again (both_again boolean_again (both_again boolean_again (both_again (signed_again wide32) color_again)))))
      font_made (λ font. (font.b, (font.i, (font.u, (font.strike, (font.sz, font.color)))))) (λ y. refl)).again x rest (tt, (tt, (tt, (tt, (fits.size, fits.color)))));
}

-- ---- borders

border_known : (x : BorderStyle) → decoded border_code border_styles (border_code x) ≡ Some x
border_known Dotted = refl
border_known Thin = refl
border_known MediumDashDotDot = refl
border_known MediumDashDot = refl
border_known SlantDashDot = refl
border_known MediumDashed = refl
border_known Medium = refl
border_known Thick = refl
border_known Double = refl

pub border_item_again : ReadsAgain FitsBorderItem encode_border_item border_item_at
unfolding border_item_at
border_item_again = record {
  again = λ x rest fits.
      (map_again (both_again (code_again border_code border_styles border_known) color_again)
      border_item_made (λ item. (item.style, item.color)) (λ y. refl)).again x rest (tt, fits);
}

side_again : ReadsAgain (λ side. IfSome side FitsBorderItem) (encode_option encode_border_item) side_at
unfolding side_at
side_again = option_again border_item_again

border_again : ReadsAgain FitsBorder encode_border border_at
unfolding border_at
border_again = record {
  again = λ x rest fits.
      (map_again (both_again side_again (both_again side_again (both_again side_again side_again)))
      border_made (λ border. (border.left, (border.right, (border.top, border.bottom)))) (λ y. refl)).again x rest (fits.left, (fits.right, (fits.top, fits.bottom)));
}

-- ---- alignments

horizontal_known : (x : HorizontalAlignment) → decoded horizontal_code horizontals (horizontal_code x) ≡ Some x
horizontal_known horizontal.General = refl
horizontal_known horizontal.Left = refl
horizontal_known horizontal.Center = refl
horizontal_known horizontal.Right = refl
horizontal_known horizontal.Fill = refl
horizontal_known horizontal.Justify = refl
horizontal_known horizontal.CenterContinuous = refl
horizontal_known horizontal.Distributed = refl

vertical_known : (x : VerticalAlignment) → decoded vertical_code verticals (vertical_code x) ≡ Some x
vertical_known vertical.Bottom = refl
vertical_known vertical.Center = refl
vertical_known vertical.Distributed = refl
vertical_known vertical.Justify = refl
vertical_known vertical.Top = refl

pub alignment_again : ReadsAgain Any encode_alignment alignment_at
unfolding alignment_at
alignment_again = record {
  again = λ x rest fits.
      (map_again (both_again (code_again horizontal_code horizontals horizontal_known) (both_again (code_again vertical_code verticals vertical_known) boolean_again))
      alignment_made (λ alignment. (alignment.horizontal, (alignment.vertical, alignment.wrap_text))) (λ y. refl)).again x rest (tt, (tt, tt));
}

if_any : {A : Type 0} (o : Option A) → IfSome o Any
if_any None = tt
if_any (Some x) = tt

alignment_option_again : ReadsAgain Any (encode_option encode_alignment) alignment_option_at
unfolding alignment_option_at
alignment_option_again = record { again = λ x rest fits. (option_again alignment_again).again x rest (if_any x) }

-- ---- styles

pub style_again : ReadsAgain FitsStyle encode_style style_at
unfolding style_at
style_again = record {
  again = λ x rest fits.
      (map_again (both_again font_again (both_again color_again (both_again border_again (both_again text_again alignment_option_again))))
      style_made (λ style. (style.font, (style.fill, (style.border, (style.num_fmt, style.alignment))))) (λ y. refl)).again x rest (fits.font, (fits.fill, (fits.border, (fits.num_fmt, tt))));
}

-- ---- cells

pub position_again : ReadsAgain FitsPosition encode_position position_at
unfolding position_at encode_position
position_again = record {
  again = λ x rest fits.
      (map_again (both_again (signed_again wide32) (signed_again wide32))
      position_made (λ place. (place.row, place.column)) (λ y. refl)).again x rest (fits.row, fits.column);
}

array_parts_again : ReadsAgain (Both FitsNode (Both (FitsSigned w32) (FitsSigned w32))) (encode_both encode_node (encode_both (encode_signed w32) (encode_signed w32))) (node_at ⊗ signed_at w32 ⊗ signed_at w32)
array_parts_again = both_again node_again (both_again (signed_again wide32) (signed_again wide32))

pub content_again : ReadsAgain FitsContent encode_content content_at
unfolding content_at
content_again = record { again = one }
  where
    one : (x : Content) (rest : List ℕ) → FitsContent x → content_at (encode_content x ++ rest) ≡ Ok (x, rest)
    one Empty rest fits = refl
    one (Number number) rest fits = rw (decimal_again.again number rest fits.rest) refl
    one (Boolean value) rest fits = rw (boolean_again.again value rest tt) refl
    one (ErrorValue error) rest fits = rw (error_again.again error rest tt) refl
    one (Text text) rest fits = rw (text_again.again text rest fits.rest) refl
    one (Formula tree) rest fits = rw (append-nil (encode_node tree), node_again.again tree rest fits.tree) refl
    one (Dynamic tree) rest fits = rw (append-nil (encode_node tree), node_again.again tree rest fits.tree) refl
    one (Array tree width height) rest fits = rw (array_parts_again.again (tree, (width, height)) rest (fits.tree, (fits.rest.width, fits.rest.height))) refl

pub cell_again : ReadsAgain FitsCell encode_cell cell_at
unfolding cell_at
cell_again = record {
  again = λ x rest fits.
      (map_again (both_again content_again style_again) cell_made (λ cell. (cell.content, cell.style)) (λ y. refl)).again x rest (fits.content, fits.style);
}
