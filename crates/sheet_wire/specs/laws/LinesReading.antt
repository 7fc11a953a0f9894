-- Reading edits of lines, and what they keep. Serves proofs alone.
use Rattle.std.specs.Prelude.{ℤ, List, ℕ, ◌==◌, if◌then◌else◌, Option}
use Rattle.std.specs.Int.{w32, w64}
use Rattle.line_edits.specs.declared.EditKind.{EditKind}
use Rattle.line_edits.specs.declared.EditKind.TheVariants.{Insert, Delete, Move}
use Rattle.base_wire.specs.laws.Reading.{Reader, refused, map_at, ◌⊗◌, tagged_at, signed_at, number_at, option_at}
use Rattle.base_values.specs.declared.Position.{Position}
use Rattle.base_maps.specs.declared.SheetPlace.{SheetPlace}
use Rattle.base_maps.specs.declared.SheetIndex.{SheetIndex}
use Rattle.grid_wire.specs.laws.CellReading.{position_at, cell_at, link_at, merges_at}
use Rattle.std.specs.Ordering.{int_cmp, nat_cmp}
use Rattle.std.specs.FinMap.{FinMap}
use Rattle.base_values.specs.Places.{position_cmp}
use Rattle.base_axis.specs.declared.MergedCell.{MergedCell}
use Rattle.base_maps.specs.SheetPlaces.{sheet_place_cmp}
use Rattle.formula_tree.specs.declared.Node.{Node}
use Rattle.format_rules.specs.declared.ConditionalFormatting.{ConditionalFormatting}
use Rattle.sheet_grid.specs.declared.Cell.{Cell}
use Rattle.sheet_grid.specs.declared.Link.{Link}
use Rattle.sheet_grid.specs.declared.LineAttr.{LineAttr}
use Rattle.sheet_lines.specs.declared.KeptLines.{KeptLines}
use Rattle.formula_wire.specs.laws.Reading.{node_at}
use Rattle.base_wire.specs.laws.MapReading.{map_of_at}
use Rattle.grid_wire.specs.laws.RuleReading.{formatting_at}
use Rattle.grid_wire.specs.laws.Reading.{line_at}

-- ---- edits

abbrev pub insertion : ℤ × ℤ → EditKind
insertion x = Insert x.0 x.1

abbrev pub deletion : ℤ × ℤ → EditKind
deletion x = Delete x.0 x.1

abbrev pub move : (ℤ × ℤ) × ℤ → EditKind
move x = Move x.0.0 x.0.1 x.1

abbrev pub block_at : Reader (ℤ × ℤ)
block_at = signed_at w32 ⊗ signed_at w32

abbrev pub move_at : Reader ((ℤ × ℤ) × ℤ)
move_at = block_at ⊗ signed_at w32

-- what follows each kind
abbrev pub edit_of : ℕ → Reader EditKind
edit_of kind =
    if kind == 0 then map_at insertion block_at
    else if kind == 1 then map_at deletion block_at
    else if kind == 2 then map_at move move_at
    else refused

unfoldable pub edit_at : Reader EditKind
edit_at = tagged_at edit_of

-- ---- places of a workbook, and indexes of lists of its sheets

abbrev pub sheet_place_made : ℕ × Position → SheetPlace
sheet_place_made x = record { sheet = x.0; place = x.1 }

unfoldable pub sheet_place_at : Reader SheetPlace
sheet_place_at = map_at sheet_place_made (number_at w32 ⊗ position_at)

abbrev pub sheet_index_made : ℕ × ℕ → SheetIndex
sheet_index_made x = record { sheet = x.0; index = x.1 }

unfoldable pub sheet_index_at : Reader SheetIndex
sheet_index_at = map_at sheet_index_made (number_at w32 ⊗ number_at w64)

-- ---- maps

unfoldable pub cells_at : Reader (FinMap position_cmp Cell)
cells_at = map_of_at position_cmp (λ m. m) position_at cell_at

unfoldable pub links_at : Reader (FinMap position_cmp Link)
links_at = map_of_at position_cmp (λ m. m) position_at link_at

unfoldable pub lines_at : Reader (FinMap int_cmp LineAttr)
lines_at = map_of_at int_cmp (λ m. m) (signed_at w32) line_at

unfoldable pub formulas_at : Reader (FinMap sheet_place_cmp Node)
formulas_at = map_of_at sheet_place_cmp (λ m. m) sheet_place_at node_at

-- ---- what line edits keep

-- the merges from before, where the way back does not give them
unfoldable pub kept_merges_at : Reader (Option (List MergedCell))
kept_merges_at = option_at merges_at

-- the conditional rules from before that the way back does not give, by their indexes
unfoldable pub kept_rules_at : Reader (FinMap nat_cmp ConditionalFormatting)
kept_rules_at = map_of_at nat_cmp (λ m. m) (number_at w64) formatting_at

abbrev pub kept_made : FinMap position_cmp Cell × (FinMap position_cmp Link × (FinMap int_cmp LineAttr × (FinMap sheet_place_cmp Node × (Option (List MergedCell) × FinMap nat_cmp ConditionalFormatting)))) → KeptLines
kept_made x = record { cells = x.0; links = x.1.0; lines = x.1.1.0; formulas = x.1.1.1.0; merges = x.1.1.1.1.0; formattings = x.1.1.1.1.1 }

unfoldable pub kept_at : Reader KeptLines
kept_at = map_at kept_made (cells_at ⊗ links_at ⊗ lines_at ⊗ formulas_at ⊗ kept_merges_at ⊗ kept_rules_at)
