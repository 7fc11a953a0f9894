-- Laws of the order of places, and of their equality.
use Rattle.std.proofs.Common.{ℤ, ap}
use Rattle.std.specs.Cmp.{IsTotalOrder, IsEquivalence, on_total, then_total, int_cmp_total, and_equiv, on_equiv, int_eq_equiv}
use Rattle.std.proofs.lemmas.Map.Lookups.{CmpEqualImpliesEq, exact_pairs, exact_signed}
use Rattle.std.specs.Ordering.{int_cmp}
use Rattle.base_values.specs.Places.{position_cmp, same_position}

pub position_total : IsTotalOrder position_cmp
position_total = then_total (on_total (λ p. p.row) int_cmp_total) (on_total (λ p. p.column) int_cmp_total)

-- positions that compare alike are one
pub exact_positions : CmpEqualImpliesEq position_cmp
exact_positions a b h = ap (λ (p : ℤ × ℤ). record { row = p.0; column = p.1 }) (exact_pairs int_cmp int_cmp exact_signed exact_signed (a.row, a.column) (b.row, b.column) h)

pub position_equiv : IsEquivalence same_position
position_equiv = and_equiv (on_equiv (λ p. p.row) int_eq_equiv) (on_equiv (λ p. p.column) int_eq_equiv)
