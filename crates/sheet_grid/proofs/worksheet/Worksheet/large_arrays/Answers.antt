use Rattle.std.proofs.Common.{map, ap, ◌∙◌}
use Rattle.base_values.specs.declared.Position.{Position}
use Rattle.base_values.specs.Places.{position_cmp}
use Rattle.base_values.specs.laws.Places.{position_total, exact_positions}
use Rattle.base_axis.specs.declared.MergedCell.{MergedCell}
use Rattle.sheet_grid.specs.Arrays.{large_array_at, large_arrays_of}
use Rattle.sheet_grid.proofs.Indexes.{index-values}
use Rattle.sheet_grid.proofs.worksheet.Worksheet.large_arrays.Goals as goal

pub returns : goal.returns
returns c =
    ap (map (λ (array : Position × MergedCell). array.1)) c.large_arrays.ensures
    ∙ index-values position_cmp (λ place cell. large_array_at place cell.content) position_total exact_positions c.self.inside.cells
    ∙ ap large_arrays_of c.self.view_is
