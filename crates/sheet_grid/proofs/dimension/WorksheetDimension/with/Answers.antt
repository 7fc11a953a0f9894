use Rattle.std.proofs.Common.{◌≡◌, rules, subst, w32, to_z, of_z}
use Rattle.std.specs.Ordering.{int_cmp, ord_min, ord_max}
use Rattle.sheet_grid.specs.Dimension.{IsLeastRectangle}
use Rattle.sheet_grid.proofs.Rectangles.{rectangle_with}
use Rattle.sheet_grid.proofs.dimension.WorksheetDimension.with.Goals as goal

pub returns : goal.returns
returns c = λ extents h.
    let min_row : ord_min int_cmp c.args.self.min_row c.args.other.min_row ≡ to_z w32 (of_z w32 c.min.result) = search rules in
    let max_row : ord_max int_cmp c.args.self.max_row c.args.other.max_row ≡ to_z w32 (of_z w32 c.max.result) = search rules in
    let min_column : ord_min int_cmp c.args.self.min_column c.args.other.min_column ≡ to_z w32 (of_z w32 c.min-2.result) = search rules in
    let max_column : ord_max int_cmp c.args.self.max_column c.args.other.max_column ≡ to_z w32 (of_z w32 c.max-2.result) = search rules in
    subst (IsLeastRectangle _) (λ i. record { min_row = min_row i; max_row = max_row i; min_column = min_column i; max_column = max_column i }) (rectangle_with extents c.args.self c.args.other h)
