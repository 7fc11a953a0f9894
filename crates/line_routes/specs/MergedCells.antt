-- Rectangles of places, carried along by their corners.
use Rattle.std.proofs.Common.{ℤ, pos, ◌+ℤ◌, ◌-ℤ◌, Option, Some, None}
use Rattle.std.specs.Prelude.{int_lt, if◌then◌else◌}
use Rattle.base_values.specs.declared.Position.{Position}
use Rattle.base_axis.specs.declared.MergedCell.{MergedCell}
use Rattle.base_axis.specs.contracts.merged_cell.MergedCellPartialEq.TheImpl as equality
use Rattle.base_axis.specs.Rectangles.{anchor_place, last_place}
use Rattle.line_routes.specs.Trial.{part_by_trial}
use Rattle.line_routes.specs.RouteModel.{RouteModel, place_goes}

abbrev pub lesser : ℤ → ℤ → ℤ
lesser m n = if int_lt n m then n else m

abbrev pub greater : ℤ → ℤ → ℤ
greater m n = if int_lt n m then m else n

-- the number of lines from one to another, both counted
abbrev pub span : ℤ → ℤ → ℤ
span m n = (greater m n -ℤ lesser m n) +ℤ pos 1

-- the rectangle that has these places as opposite corners
unfoldable pub between : Position → Position → MergedCell
between p q = record { row = lesser p.row q.row; column = lesser p.column q.column; width = span p.column q.column; height = span p.row q.row }

-- the rectangle between where its corners go. It stays where one goes nowhere
abbrev pub moved_to : MergedCell → Option Position → Option Position → MergedCell
moved_to cell (Some first) (Some last) = between first last
moved_to cell (Some first) None = cell
moved_to cell None last = cell

unfoldable pub merged_cell_carried : RouteModel → MergedCell → MergedCell
merged_cell_carried w cell = moved_to cell (place_goes w (anchor_place cell)) (place_goes w (last_place cell))

-- the rectangle, where the way back does not give it
abbrev pub merged_cell_part : RouteModel → MergedCell → Option MergedCell
merged_cell_part w cell = part_by_trial equality.ghosts.eq merged_cell_carried w cell
