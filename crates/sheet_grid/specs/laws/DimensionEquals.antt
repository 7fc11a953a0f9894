-- `==` of rectangles is equality of their values.
use Rattle.std.proofs.Common.{◌≡◌, ap}
use Rattle.std.specs.Bool.{Decides}
use Rattle.std.specs.Cmp.{signed_Decides}
use Rattle.std.proofs.lemmas.Bool.Decides.{Decides-like, Decides-and}
use Rattle.sheet_grid.specs.declared.dimension.WorksheetDimension.{WorksheetDimension}
use Rattle.sheet_grid.specs.contracts.dimension.WorksheetDimensionPartialEq.TheImpl as dimension

pub dimension_equals : (a b : WorksheetDimension) → Decides (dimension.ghosts.eq a b) (a ≡ b)
dimension_equals a b =
    Decides-like _ (λ p i. record { min_row = p.0 i; max_row = p.1.0 i; min_column = p.1.1.0 i; max_column = p.1.1.1 i })
    (λ e. (ap (λ x. x.min_row) e, (ap (λ x. x.max_row) e, (ap (λ x. x.min_column) e, ap (λ x. x.max_column) e))))
    (Decides-and _ _ (signed_Decides _ _) (Decides-and _ _ (signed_Decides _ _) (Decides-and _ _ (signed_Decides _ _) (signed_Decides _ _))))
