-- The only refusal of the readers of styles and cells is ParseDiffs.
use Rattle.std.proofs.Common.{eqb}
use Rattle.std.specs.Int.{w32}
use Rattle.base_styles.specs.declared.Color.TheVariants.{Theme}
use Rattle.base_styles.specs.Colors.{theme_color_of_code}
use Rattle.cell_content.specs.declared.Content.TheVariants.{Number, Boolean, Error as ErrorValue, Text, Formula, Dynamic}
use Rattle.base_wire.specs.laws.Refusals.{IsPlain, both_plain, map_plain, byte_plain, coded_plain, code_plain, signed_plain, text_plain, plain_plain, refused_plain, if_plain, tagged_plain, option_plain}
use Rattle.base_wire.specs.laws.Parts.{boolean_plain, error_plain, decimal_plain}
use Rattle.formula_wire.specs.laws.NodeLaws.{node_plain}
use Rattle.grid_wire.specs.StyleBytes.{border_code, horizontal_code, vertical_code}
use Rattle.grid_wire.specs.laws.CellReading.{rgb, color_of, color_at, font_made, font_at, border_styles, border_item_made, border_item_at, border_made, side_at, border_at, horizontals, verticals, alignment_made, alignment_at, alignment_option_at, style_made, style_at, position_made, position_at, array_made, content_of, content_at, cell_made, cell_at}

pub color_plain : IsPlain color_at
unfolding color_at
color_plain =
    tagged_plain color_of (λ kind.
    if_plain (eqb kind 0) (plain_plain _)
    (if_plain (eqb kind 1) (map_plain rgb (both_plain byte_plain (both_plain byte_plain byte_plain)))
    (if_plain (eqb kind 2) (map_plain Theme (coded_plain theme_color_of_code)) refused_plain)))

font_plain : IsPlain font_at
unfolding font_at
font_plain = map_plain font_made (both_plain boolean_plain (both_plain boolean_plain (both_plain boolean_plain (both_plain boolean_plain (both_plain (signed_plain w32) color_plain)))))

pub border_item_plain : IsPlain border_item_at
unfolding border_item_at
border_item_plain = map_plain border_item_made (both_plain (code_plain border_code border_styles) color_plain)

side_plain : IsPlain side_at
unfolding side_at
side_plain = option_plain border_item_plain

border_plain : IsPlain border_at
unfolding border_at
border_plain = map_plain border_made (both_plain side_plain (both_plain side_plain (both_plain side_plain side_plain)))

pub alignment_plain : IsPlain alignment_at
unfolding alignment_at
alignment_plain = map_plain alignment_made (both_plain (code_plain horizontal_code horizontals) (both_plain (code_plain vertical_code verticals) boolean_plain))

alignment_option_plain : IsPlain alignment_option_at
unfolding alignment_option_at
alignment_option_plain = option_plain alignment_plain

pub style_plain : IsPlain style_at
unfolding style_at
style_plain = map_plain style_made (both_plain font_plain (both_plain color_plain (both_plain border_plain (both_plain text_plain alignment_option_plain))))

pub position_plain : IsPlain position_at
unfolding position_at
position_plain = map_plain position_made (both_plain (signed_plain w32) (signed_plain w32))

content_plain : IsPlain content_at
unfolding content_at
content_plain =
    tagged_plain content_of (λ kind.
    if_plain (eqb kind 0) (plain_plain _)
    (if_plain (eqb kind 1) (map_plain Number decimal_plain)
    (if_plain (eqb kind 2) (map_plain Boolean boolean_plain)
    (if_plain (eqb kind 3) (map_plain ErrorValue error_plain)
    (if_plain (eqb kind 4) (map_plain Text text_plain)
    (if_plain (eqb kind 5) (map_plain Formula node_plain)
    (if_plain (eqb kind 6) (map_plain Dynamic node_plain)
    (if_plain (eqb kind 7) (map_plain array_made (both_plain node_plain (both_plain (signed_plain w32) (signed_plain w32)))) refused_plain))))))))

pub cell_plain : IsPlain cell_at
unfolding cell_at
cell_plain = map_plain cell_made (both_plain content_plain style_plain)
