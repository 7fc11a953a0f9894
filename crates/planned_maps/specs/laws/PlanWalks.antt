-- Plans and tests of places and lines, as the loops go over them. Serves private contracts and proofs.
use Rattle.std.proofs.Common.{ℕ, zero, suc, ℤ, pos, ◌+ℤ◌, Bool, true, ◌&&◌, Option, Some, None}
use Rattle.std.specs.Prelude.{◌||◌, not, if◌then◌else◌}
use Rattle.std.specs.List.{fold, list_all}
use Rattle.std.specs.declared.cmp.Ordering.{Ordering}
use Rattle.std.specs.Ordering.{int_cmp}
use Rattle.std.specs.FinMap.{FinMap, empty, entries, insert}
use Rattle.base_values.specs.declared.Position.{Position}
use Rattle.base_values.specs.Places.{position_cmp}
use Rattle.base_axis.specs.declared.MergedCell.{MergedCell}
use Rattle.base_axis.specs.Along.{Along, rows}
use Rattle.base_maps.specs.Carried.{gathered}
use Rattle.planned_maps.specs.Walks.{count_across, place_across}

-- ---- plans, key by key

-- a plan with what is made of one more key, if something is
abbrev pub put_if : {K X : Type 0} {R : K → K → Ordering} → FinMap R X → K → Option X → FinMap R X
put_if m key None = m
put_if m key (Some x) = insert m key x

abbrev pub put_one : {K X : Type 0} {R : K → K → Ordering} → (K → Option X) → FinMap R X → K → FinMap R X
put_one make m key = put_if m key (make key)

-- ---- plans, line by line

-- a plan with what is made of so many lines from a first one on
abbrev pub lines_put : {X : Type 0} → (ℤ → Option X) → ℤ → ℕ → FinMap int_cmp X
lines_put make first zero = empty
lines_put make first (suc more) = put_one make (lines_put make first more) (first +ℤ pos more)

-- what is made of the lines of a map
abbrev pub kept_put : {X V : Type 0} → (ℤ → Option X) → FinMap int_cmp V → FinMap int_cmp X
kept_put make lines = gathered Some Some (λ _ line attr. make line) lines

module _ {X : Type 0} (make : Position → Option X) where
  -- a plan with what is made of the first so many places of a line
  abbrev pub line_put : Along → MergedCell → ℤ → FinMap position_cmp X → ℕ → FinMap position_cmp X
  line_put a r line m zero = m
  line_put a r line m (suc more) = put_one make (line_put a r line m more) (place_across a r line more)

  -- of all of them
  abbrev pub line_done : Along → MergedCell → ℤ → FinMap position_cmp X → FinMap position_cmp X
  line_done a r line m = line_put a r line m (count_across a r)

  -- of those of the first so many rows
  abbrev pub rows_put : MergedCell → FinMap position_cmp X → ℕ → FinMap position_cmp X
  rows_put r m zero = m
  rows_put r m (suc more) = line_done rows r (r.row +ℤ pos more) (rows_put r m more)

  -- of the places of a map
  abbrev pub places_put : {C : Type 0} → FinMap position_cmp X → FinMap position_cmp C → FinMap position_cmp X
  places_put {C} m places = fold (λ output (e : Position × C). put_one make output e.0) m (entries places)

  -- of those of the lines of a map that pass a test
  abbrev pub chosen_put : {V : Type 0} → (V → Bool) → Along → MergedCell → FinMap position_cmp X → FinMap int_cmp V → FinMap position_cmp X
  chosen_put {V} test a r m lines = fold (λ output (e : ℤ × V). if test e.1 then line_done a r e.0 output else output) m (entries lines)

-- ---- tests

-- so many lines from a first one on pass
abbrev pub lines_all : (ℤ → Bool) → ℤ → ℕ → Bool
lines_all passes first zero = true
lines_all passes first (suc more) = lines_all passes first more && passes (first +ℤ pos more)

module _ (passes : Position → Bool) where
  -- the first so many places of a line pass
  abbrev pub line_all : Along → MergedCell → ℤ → ℕ → Bool
  line_all a r line zero = true
  line_all a r line (suc more) = line_all a r line more && passes (place_across a r line more)

  -- all of them
  abbrev pub line_passes : Along → MergedCell → ℤ → Bool
  line_passes a r line = line_all a r line (count_across a r)

  -- those of the first so many rows
  abbrev pub rows_all : MergedCell → ℕ → Bool
  rows_all r zero = true
  rows_all r (suc more) = rows_all r more && line_passes rows r (r.row +ℤ pos more)

  -- the places of a map
  abbrev pub places_all : {C : Type 0} → FinMap position_cmp C → Bool
  places_all {C} places = list_all (λ (e : Position × C). passes e.0) (entries places)

  -- those of the lines of a map that pass a test
  abbrev pub chosen_all : {V : Type 0} → (V → Bool) → Along → MergedCell → FinMap int_cmp V → Bool
  chosen_all {V} test a r lines = list_all (λ (e : ℤ × V). not (test e.1) || line_passes a r e.0) (entries lines)
