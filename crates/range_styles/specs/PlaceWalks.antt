-- Which places of a rectangle are gone over.
use Rattle.std.proofs.Common.{◌≡◌, ℕ, ◌*◌, Bool, Option, Some}
use Rattle.std.specs.Prelude.{IsTrue, is_some, nat_lt, unsigned_abs}
use Rattle.std.specs.FinMap.{FinMap, get}
use Rattle.base_values.specs.declared.Position.{Position}
use Rattle.base_values.specs.Places.{position_cmp}
use Rattle.base_axis.specs.declared.MergedCell.{MergedCell}

-- a rectangle has fewer than so many places
abbrev pub has_fewer : MergedCell → ℕ → Bool
has_fewer r count = nat_lt (unsigned_abs r.width * unsigned_abs r.height) count

-- only places get something that have an entry
abbrev pub MakesThere : {X V : Type 0} → (Position → Option X) → FinMap position_cmp V → Type 0
MakesThere {X} make there = (place : Position) (x : X) → make place ≡ Some x → IsTrue (is_some (get there place))
