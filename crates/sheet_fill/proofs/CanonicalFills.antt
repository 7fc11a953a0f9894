-- A plan of canonical cells with one more.
use Rattle.std.proofs.Common.{Bool, true, false, cond, Option, Some, sym, subst}
use Rattle.std.specs.Prelude.{IfSome}
use Rattle.std.specs.Ordering.{eq_by_cmp}
use Rattle.std.specs.FinMap.{FinMap, empty, get, get-empty, get-insert, insert}
use Rattle.base_values.specs.declared.Position.{Position}
use Rattle.base_values.specs.Places.{position_cmp}
use Rattle.base_values.specs.laws.Places.{position_total}
use Rattle.sheet_grid.specs.declared.Cell.{Cell}
use Rattle.sheet_grid.specs.CanonicalCell.{IsCanonicalCell}
use Rattle.sheet_fill.specs.Plans.{CanonicalFill}

abbrev IsEntry : Option Cell → Type 0
IsEntry entry = IfSome entry IsCanonicalCell

either : (b : Bool) (first second : Option (Option Cell)) → IfSome first IsEntry → IfSome second IsEntry → IfSome (cond b first second) IsEntry
either true first second h i = h
either false first second h i = i

pub canonical_put : (m : FinMap position_cmp (Option Cell)) → CanonicalFill m → (place : Position) (cell : Cell) → IsCanonicalCell cell
    → CanonicalFill (insert m place (Some cell))
canonical_put m kept place cell own q =
    subst (λ o. IfSome o IsEntry) (sym (get-insert position_total m place (Some cell) q))
    (either (eq_by_cmp position_cmp q place) (Some (Some cell)) (get m q) own (kept q))

pub canonical_none : CanonicalFill empty
canonical_none q = subst (λ o. IfSome o IsEntry) (sym (get-empty position_cmp q)) tt
