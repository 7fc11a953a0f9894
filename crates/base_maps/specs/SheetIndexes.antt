-- Indexes of lists of sheets, and their order.
use Rattle.std.proofs.Common.{ℕ, refl}
use Rattle.std.specs.declared.cmp.Ordering.{Ordering}
use Rattle.std.specs.Ordering.{nat_cmp, ordering_then}
use Rattle.std.specs.Coded.{Coded, code_by, coded×, coded_ℕ}
use Rattle.base_maps.specs.declared.sheet_index.SheetIndex.{SheetIndex}

-- by sheet, and then by index
abbrev pub sheet_index_cmp : SheetIndex → SheetIndex → Ordering
sheet_index_cmp a b = ordering_then (nat_cmp a.sheet b.sheet) (nat_cmp a.index b.index)

-- as two numbers
abbrev pub coded_sheet_index : Coded SheetIndex
coded_sheet_index = code_by (ℕ × ℕ) (coded× coded_ℕ coded_ℕ) (λ p. (p.sheet, p.index)) (λ p. record { sheet = p.0; index = p.1 }) (λ _. refl)
