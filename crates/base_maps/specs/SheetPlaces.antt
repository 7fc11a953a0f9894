-- Places of a workbook, and their order.
use Rattle.std.proofs.Common.{ℕ, refl}
use Rattle.std.specs.declared.cmp.Ordering.{Ordering}
use Rattle.std.specs.Ordering.{nat_cmp, ordering_then}
use Rattle.std.specs.Coded.{Coded, code_by, coded×, coded_ℕ}
use Rattle.base_values.specs.declared.Position.{Position}
use Rattle.base_values.specs.Places.{position_cmp, coded_position}
use Rattle.base_maps.specs.declared.sheet_place.SheetPlace.{SheetPlace}

-- by sheet, and then by position
abbrev pub sheet_place_cmp : SheetPlace → SheetPlace → Ordering
sheet_place_cmp a b = ordering_then (nat_cmp a.sheet b.sheet) (position_cmp a.place b.place)

-- as a number and a position
abbrev pub coded_sheet_place : Coded SheetPlace
coded_sheet_place = code_by (ℕ × Position) (coded× coded_ℕ coded_position) (λ p. (p.sheet, p.place)) (λ p. record { sheet = p.0; place = p.1 }) (λ _. refl)
