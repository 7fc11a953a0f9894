-- Laws of the order of indexes of sheets, and of their equality.
use Rattle.std.proofs.Common.{ℕ, ap}
use Rattle.std.specs.Cmp.{IsTotalOrder, on_total, then_total, nat_cmp_total}
use Rattle.std.specs.Ordering.{nat_cmp}
use Rattle.std.proofs.lemmas.Map.Lookups.{CmpEqualImpliesEq, exact_pairs, exact_unsigned}
use Rattle.base_maps.specs.SheetIndexes.{sheet_index_cmp}

pub sheet_index_total : IsTotalOrder sheet_index_cmp
sheet_index_total = then_total (on_total (λ p. p.sheet) nat_cmp_total) (on_total (λ p. p.index) nat_cmp_total)

-- indexes that compare alike are one
pub exact_sheet_indexes : CmpEqualImpliesEq sheet_index_cmp
exact_sheet_indexes a b h =
    ap (λ (p : ℕ × ℕ). record { sheet = p.0; index = p.1 })
    (exact_pairs nat_cmp nat_cmp exact_unsigned exact_unsigned (a.sheet, a.index) (b.sheet, b.index) h)
