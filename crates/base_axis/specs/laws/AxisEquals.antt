-- `==` of axes is equality of their values: each has one value.
use Rattle.std.proofs.Common.{◌≡◌, refl}
use Rattle.std.specs.Bool.{Decides}
use Rattle.base_axis.specs.declared.axis.RowAxis.{RowAxis}
use Rattle.base_axis.specs.contracts.axis.RowAxisPartialEq.TheImpl as rows
use Rattle.base_axis.specs.declared.axis.ColumnAxis.{ColumnAxis}
use Rattle.base_axis.specs.contracts.axis.ColumnAxisPartialEq.TheImpl as columns

pub row_axis_equals : (a b : RowAxis) → Decides (rows.ghosts.eq a b) (a ≡ b)
row_axis_equals a b = (λ _. refl, λ _. refl)

pub column_axis_equals : (a b : ColumnAxis) → Decides (columns.ghosts.eq a b) (a ≡ b)
column_axis_equals a b = (λ _. refl, λ _. refl)
