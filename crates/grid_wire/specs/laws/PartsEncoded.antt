-- What is read of styles and cells was encoded so.
use Rattle.std.proofs.Common.{◌∷◌, refl, ap}
use Rattle.std.specs.Prelude.{IfSome, FitsSigned}
use Rattle.std.specs.Int.{w32}
use Rattle.std.proofs.lemmas.List.{append-nil}
use Rattle.base_styles.specs.declared.Color.TheVariants.{None as NoColor, Theme}
use Rattle.base_styles.specs.Colors.{all_theme_colors, theme_color_code, theme_color_of_code}
use Rattle.base_tables.specs.laws.Tables.{found_number}
use Rattle.cell_content.specs.declared.Content.TheVariants.{Empty, Number, Boolean, Error as ErrorValue, Text, Formula, Dynamic}
use Rattle.base_wire.specs.Encoding.{encode_option}
use Rattle.grid_wire.specs.StyleBytes.{encode_color, FitsColor, encode_font, FitsFont, border_code, encode_border_item, FitsBorderItem, encode_border, FitsBorder, horizontal_code, vertical_code, encode_alignment, encode_style, FitsStyle}
use Rattle.grid_wire.specs.laws.CellReading.{color_at, font_made, font_at, border_styles, border_item_made, border_item_at, border_made, side_at, border_at, horizontals, verticals, alignment_made, alignment_at, alignment_option_at, style_made, style_at, position_made, position_at, content_at, cell_made, cell_at, rgb, color_of, array_made, content_of}
use Rattle.grid_wire.specs.CellBytes.{encode_position, FitsPosition, encode_content, FitsContent, encode_cell, FitsCell}
use Rattle.base_wire.specs.laws.Reading.{◌⊗◌, signed_at}
use Rattle.base_wire.specs.Encoding.{Any, Both, encode_both, encode_signed}
use Rattle.formula_wire.specs.NodeBytes.{encode_node}
use Rattle.formula_wire.specs.laws.Reading.{node_at}
use Rattle.formula_wire.specs.Carried.{FitsNode}
use Rattle.base_wire.specs.laws.Encoded.{ReadsEncoded, both_encoded, map_encoded, fits_otherwise, byte_encoded, coded_encoded, code_encoded, tag_map, tag_plain, tag_refused, tag_if, tagged_encoded, option_encoded, back32, signed_encoded, text_encoded}
use Rattle.base_wire.specs.laws.Parts.{boolean_encoded, error_encoded, decimal_encoded}
use Rattle.formula_wire.specs.laws.NodeLaws.{node_encoded}

-- ---- colours

pub color_encoded : ReadsEncoded FitsColor encode_color color_at
unfolding color_at
color_encoded =
    tagged_encoded color_of (λ kind.
    tag_if kind 0 (tag_plain FitsColor encode_color 0 NoColor refl tt)
    (tag_if kind 1 (tag_map (both_encoded byte_encoded (both_encoded byte_encoded byte_encoded)) rgb FitsColor encode_color 1 (λ x. refl) (λ x fits. fits))
    (tag_if kind 2 (tag_map (coded_encoded theme_color_code theme_color_of_code (found_number theme_color_code all_theme_colors refl)) Theme FitsColor encode_color 2 (λ x. refl) (λ x fits. tt))
    (tag_refused FitsColor encode_color kind))))

-- ---- fonts

font_encoded : ReadsEncoded FitsFont encode_font font_at
unfolding font_at
font_encoded =
    fits_otherwise (λ x fits. record { size = fits.1.1.1.1.0; color = fits.1.1.1.1.1 })
    (map_encoded (both_encoded boolean_encoded (both_encoded boolean_encoded (both_encoded boolean_encoded (both_encoded boolean_encoded (both_encoded (signed_encoded back32) color_encoded)))))
    font_made (λ font. (font.b, (font.i, (font.u, (font.strike, (font.sz, font.color)))))) (λ x. refl))

-- ---- borders

pub border_item_encoded : ReadsEncoded FitsBorderItem encode_border_item border_item_at
unfolding border_item_at
border_item_encoded =
    fits_otherwise (λ x fits. fits.1)
    (map_encoded (both_encoded (code_encoded border_code border_styles) color_encoded) border_item_made (λ item. (item.style, item.color)) (λ x. refl))

side_encoded : ReadsEncoded (λ side. IfSome side FitsBorderItem) (encode_option encode_border_item) side_at
unfolding side_at
side_encoded = option_encoded border_item_encoded

border_encoded : ReadsEncoded FitsBorder encode_border border_at
unfolding border_at
border_encoded =
    fits_otherwise (λ x fits. record { left = fits.0; right = fits.1.0; top = fits.1.1.0; bottom = fits.1.1.1 })
    (map_encoded (both_encoded side_encoded (both_encoded side_encoded (both_encoded side_encoded side_encoded)))
    border_made (λ border. (border.left, (border.right, (border.top, border.bottom)))) (λ x. refl))

-- ---- alignments

pub alignment_encoded : ReadsEncoded Any encode_alignment alignment_at
unfolding alignment_at
alignment_encoded =
    fits_otherwise (λ x fits. tt)
    (map_encoded (both_encoded (code_encoded horizontal_code horizontals) (both_encoded (code_encoded vertical_code verticals) boolean_encoded))
    alignment_made (λ alignment. (alignment.horizontal, (alignment.vertical, alignment.wrap_text))) (λ x. refl))

alignment_option_encoded : ReadsEncoded Any (encode_option encode_alignment) alignment_option_at
unfolding alignment_option_at
alignment_option_encoded = fits_otherwise (λ x fits. tt) (option_encoded alignment_encoded)

-- ---- styles

pub style_encoded : ReadsEncoded FitsStyle encode_style style_at
unfolding style_at
style_encoded =
    fits_otherwise (λ x fits. record { font = fits.0; fill = fits.1.0; border = fits.1.1.0; num_fmt = fits.1.1.1.0 })
    (map_encoded (both_encoded font_encoded (both_encoded color_encoded (both_encoded border_encoded (both_encoded text_encoded alignment_option_encoded))))
    style_made (λ style. (style.font, (style.fill, (style.border, (style.num_fmt, style.alignment))))) (λ x. refl))

-- ---- cells

pub position_encoded : ReadsEncoded FitsPosition encode_position position_at
unfolding position_at encode_position
position_encoded =
    fits_otherwise (λ x fits. record { row = fits.0; column = fits.1 })
    (map_encoded (both_encoded (signed_encoded back32) (signed_encoded back32)) position_made (λ place. (place.row, place.column)) (λ x. refl))

array_parts_encoded : ReadsEncoded (Both FitsNode (Both (FitsSigned w32) (FitsSigned w32))) (encode_both encode_node (encode_both (encode_signed w32) (encode_signed w32))) (node_at ⊗ signed_at w32 ⊗ signed_at w32)
array_parts_encoded = both_encoded node_encoded (both_encoded (signed_encoded back32) (signed_encoded back32))

pub content_encoded : ReadsEncoded FitsContent encode_content content_at
unfolding content_at
content_encoded =
    tagged_encoded content_of (λ kind.
    tag_if kind 0 (tag_plain FitsContent encode_content 0 Empty refl (record { tree = tt; rest = tt }))
    (tag_if kind 1 (tag_map decimal_encoded Number FitsContent encode_content 1 (λ x. refl) (λ x fits. record { tree = tt; rest = fits }))
    (tag_if kind 2 (tag_map boolean_encoded Boolean FitsContent encode_content 2 (λ x. refl) (λ x fits. record { tree = tt; rest = tt }))
    (tag_if kind 3 (tag_map error_encoded ErrorValue FitsContent encode_content 3 (λ x. refl) (λ x fits. record { tree = tt; rest = tt }))
    (tag_if kind 4 (tag_map text_encoded Text FitsContent encode_content 4 (λ x. refl) (λ x fits. record { tree = tt; rest = fits }))
    (tag_if kind 5 (tag_map node_encoded Formula FitsContent encode_content 5 (λ x. ap (λ b. 5 ∷ b) (append-nil (encode_node x))) (λ x fits. record { tree = fits; rest = tt }))
    (tag_if kind 6 (tag_map node_encoded Dynamic FitsContent encode_content 6 (λ x. ap (λ b. 6 ∷ b) (append-nil (encode_node x))) (λ x fits. record { tree = fits; rest = tt }))
    (tag_if kind 7 (tag_map array_parts_encoded array_made FitsContent encode_content 7 (λ x. refl) (λ x fits. record { tree = fits.0; rest = record { width = fits.1.0; height = fits.1.1 } }))
    (tag_refused FitsContent encode_content kind)))))))))

pub cell_encoded : ReadsEncoded FitsCell encode_cell cell_at
unfolding cell_at
cell_encoded =
    fits_otherwise (λ x fits. record { content = fits.0; style = fits.1 })
    (map_encoded (both_encoded content_encoded style_encoded) cell_made (λ cell. (cell.content, cell.style)) (λ x. refl))
