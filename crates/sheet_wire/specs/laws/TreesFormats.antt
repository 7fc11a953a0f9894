-- The three laws of the parts of a renamed sheet, and of a changed defined name.
use Rattle.std.proofs.Common.{◌^◌, ◌<◌, ◌≤◌, length, refl, arith}
use Rattle.std.specs.Prelude.{IfSome}
use Rattle.std.proofs.lemmas.Map.Lookups.{exact_unsigned}
use Rattle.std.specs.Cmp.{nat_cmp_total}
use Rattle.std.specs.Int.{w64, to_be_bytes}
use Rattle.std.specs.Ordering.{nat_cmp}
use Rattle.base_maps.specs.SheetIndexes.{sheet_index_cmp}
use Rattle.base_maps.specs.laws.SheetIndexes.{sheet_index_total, exact_sheet_indexes}
use Rattle.book_names.specs.declared.KeptTrees.{KeptTrees}
use Rattle.base_wire.specs.Encoding.{Both, encode_both, encode_option, encode_text, FitsText}
use Rattle.base_wire.specs.laws.Format.{Format, option_format}
use Rattle.base_wire.specs.laws.Formats.{both_format, made_format}
use Rattle.base_wire.specs.laws.Parts.{long_format, short_format, text_format}
use Rattle.formula_wire.specs.NodeBytes.{encode_node}
use Rattle.formula_wire.specs.Carried.{FitsNode}
use Rattle.formula_wire.specs.laws.NodeLaws.{node_format}
use Rattle.base_wire.specs.MapBytes.{encode_map, FitsMap}
use Rattle.base_wire.specs.laws.MapLaws.{map_format}
use Rattle.grid_wire.specs.NameBytes.{encode_name, FitsName}
use Rattle.grid_wire.specs.laws.NameLaws.{name_format}
use Rattle.grid_wire.specs.FormattingBytes.{encode_formatting, FitsFormatting}
use Rattle.grid_wire.specs.laws.FormattingLaws.{formatting_format}
use Rattle.sheet_wire.specs.PartBytes.{encode_sheet_index, FitsSheetIndex}
use Rattle.sheet_wire.specs.laws.PartLaws.{sheet_index_format, sheet_index_some}
use Rattle.sheet_wire.specs.laws.KeptLaws.{formulas_format}
use Rattle.sheet_wire.specs.TreesBytes.{encode_trees, FitsTrees}
use Rattle.sheet_wire.specs.laws.Reading.{name_trees_at, renamed_rules_at, trees_made, trees_at, rename_parts_at, name_there_at, name_parts_at}
use Rattle.sheet_wire.specs.laws.SheetsFormats.{IsShort, encode_short}

name_trees_format : Format (FitsMap {order = nat_cmp} (λ place. place < 2 ^ 64) FitsNode) (encode_map (to_be_bytes w64) encode_node) name_trees_at
unfolding name_trees_at
name_trees_format = map_format nat_cmp_total exact_unsigned long_format node_format (λ place. omega arith) (λ m. m) (λ m. m) (λ m. refl) (λ m. refl)

renamed_rules_format : Format (FitsMap {order = sheet_index_cmp} FitsSheetIndex FitsFormatting) (encode_map encode_sheet_index encode_formatting) renamed_rules_at
unfolding renamed_rules_at
renamed_rules_format = map_format sheet_index_total exact_sheet_indexes sheet_index_format formatting_format sheet_index_some (λ m. m) (λ m. m) (λ m. refl) (λ m. refl)

pub trees_format : Format FitsTrees encode_trees trees_at
unfolding encode_trees trees_at
trees_format =
    made_format (both_format formulas_format (both_format renamed_rules_format name_trees_format)) trees_made (λ kept. (kept.formulas, (kept.formattings, kept.names)))
    (λ kept fits. (refl, (fits.formulas, (fits.formattings, fits.names)))) (λ x fits. (refl, record { formulas = fits.0; names = fits.1.1; formattings = fits.1.0 }))

pub trees_some : (kept : KeptTrees) → 1 ≤ length (encode_trees kept)
unfolding encode_trees
trees_some kept = omega arith

pub rename_parts_format : Format (Both IsShort (Both FitsText (Both FitsText FitsTrees))) (encode_both encode_short (encode_both encode_text (encode_both encode_text encode_trees))) rename_parts_at
rename_parts_format = both_format short_format (both_format text_format (both_format text_format trees_format))

pub name_parts_format : Format (Both (λ index. index < 2 ^ 64) (Both (λ old. IfSome old FitsName) (Both (λ new. IfSome new FitsName) FitsTrees)))
    (encode_both (to_be_bytes w64) (encode_both (encode_option encode_name) (encode_both (encode_option encode_name) encode_trees))) name_parts_at
unfolding name_there_at
name_parts_format = both_format long_format (both_format (option_format name_format) (both_format (option_format name_format) trees_format))
