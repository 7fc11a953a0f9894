-- Laws of the order of places of a workbook, and of their equality.
use Rattle.std.proofs.Common.{ℕ, ap}
use Rattle.std.specs.Cmp.{IsTotalOrder, on_total, then_total, nat_cmp_total}
use Rattle.std.specs.Ordering.{nat_cmp}
use Rattle.std.proofs.lemmas.Map.Lookups.{CmpEqualImpliesEq, exact_pairs, exact_unsigned}
use Rattle.base_values.specs.declared.Position.{Position}
use Rattle.base_values.specs.Places.{position_cmp}
use Rattle.base_values.specs.laws.Places.{position_total, exact_positions}
use Rattle.base_maps.specs.SheetPlaces.{sheet_place_cmp}

pub sheet_place_total : IsTotalOrder sheet_place_cmp
sheet_place_total = then_total (on_total (λ p. p.sheet) nat_cmp_total) (on_total (λ p. p.place) position_total)

-- places that compare alike are one
pub exact_sheet_places : CmpEqualImpliesEq sheet_place_cmp
exact_sheet_places a b h =
    ap (λ (p : ℕ × Position). record { sheet = p.0; place = p.1 })
    (exact_pairs nat_cmp position_cmp exact_unsigned exact_positions (a.sheet, a.place) (b.sheet, b.place) h)
