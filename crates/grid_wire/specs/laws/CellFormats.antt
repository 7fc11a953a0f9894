-- The three laws of each part.
use Rattle.std.proofs.Common.{◌≤◌, length, arith}
use Rattle.std.proofs.lemmas.List.{length-append}
use Rattle.base_styles.specs.declared.Alignment.{Alignment}
use Rattle.base_styles.specs.declared.Color.{Color}
use Rattle.base_styles.specs.declared.Color.TheVariants.{None as NoColor, Rgb, Theme}
use Rattle.base_values.specs.declared.Position.{Position}
use Rattle.sheet_grid.specs.declared.Cell.{Cell}
use Rattle.base_wire.specs.Encoding.{Any}
use Rattle.base_wire.specs.laws.Format.{Format}
use Rattle.grid_wire.specs.StyleBytes.{encode_color, FitsColor, encode_border_item, FitsBorderItem, encode_alignment, encode_style, FitsStyle}
use Rattle.grid_wire.specs.laws.CellReading.{color_at, border_item_at, alignment_at, style_at, position_at, cell_at}
use Rattle.grid_wire.specs.CellBytes.{encode_position, FitsPosition, encode_content, encode_cell, FitsCell}
use Rattle.grid_wire.specs.laws.PartsAgain.{color_again, border_item_again, alignment_again, style_again, position_again, cell_again}
use Rattle.grid_wire.specs.laws.PartsEncoded.{color_encoded, border_item_encoded, alignment_encoded, style_encoded, position_encoded, cell_encoded}
use Rattle.grid_wire.specs.laws.Refusals.{color_plain, border_item_plain, alignment_plain, style_plain, position_plain, cell_plain}

pub color_format : Format FitsColor encode_color color_at
color_format = record { again = color_again; encoded = color_encoded; plain = color_plain }

pub border_item_format : Format FitsBorderItem encode_border_item border_item_at
border_item_format = record { again = border_item_again; encoded = border_item_encoded; plain = border_item_plain }

pub alignment_format : Format {A = Alignment} Any encode_alignment alignment_at
alignment_format = record { again = alignment_again; encoded = alignment_encoded; plain = alignment_plain }

pub style_format : Format FitsStyle encode_style style_at
style_format = record { again = style_again; encoded = style_encoded; plain = style_plain }

pub position_format : Format FitsPosition encode_position position_at
position_format = record { again = position_again; encoded = position_encoded; plain = position_plain }

pub cell_format : Format FitsCell encode_cell cell_at
cell_format = record { again = cell_again; encoded = cell_encoded; plain = cell_plain }

pub color_some : (x : Color) → 1 ≤ length (encode_color x)
color_some NoColor = omega arith
color_some (Rgb red green blue) = omega arith
color_some (Theme theme) = omega arith

pub position_some : (x : Position) → 1 ≤ length (encode_position x)
unfolding encode_position
position_some x = omega arith

pub cell_some : (x : Cell) → 1 ≤ length (encode_cell x)
cell_some x = omega (arith, length-append (encode_content x.content) (encode_style x.style))
