-- Cells that a rectangle covers lose their contents.
use Rattle.std.specs.Prelude.{Bool, ◌&&◌, not, map, if◌then◌else◌}
use Rattle.std.specs.FinMap as fin
use Rattle.std.specs.FinMap.{FinMap}
use Rattle.base_values.specs.declared.Position.{Position}
use Rattle.base_values.specs.Places.{position_cmp}
use Rattle.base_axis.specs.declared.MergedCell.{MergedCell}
use Rattle.cell_content.specs.declared.Content.TheVariants.{Empty}
use Rattle.sheet_grid.specs.declared.Cell.{Cell}
use Rattle.sheet_grid.specs.Merges.{is_empty}
use Rattle.sheet_rules.specs.Occupied.{covers}

-- a cell without its content, which keeps its style
abbrev pub blank_cell : Cell → Cell
blank_cell cell = record cell { content = Empty }

-- the cell of a place, without its content where a rectangle covers the place
abbrev pub blanked_cell : MergedCell → Position → Cell → Cell
blanked_cell r place cell = if covers r place then blank_cell cell else cell

-- the cells of a sheet without the contents that a rectangle covers; its first place keeps its own
unfoldable pub blanked : MergedCell → FinMap position_cmp Cell → FinMap position_cmp Cell
blanked r cells = fin.from_entries (map (λ (entry : Position × Cell). (entry.0, blanked_cell r entry.0 entry.1)) (fin.entries cells))

-- a rectangle takes the content of a cell away
abbrev pub loses : MergedCell → Position → Cell → Bool
loses r place cell = covers r place && not (is_empty cell.content)
