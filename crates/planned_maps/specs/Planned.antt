-- What an edit makes of places and lines, as finite maps of what it makes.
use Rattle.std.proofs.Common.{ℕ, zero, suc, ℤ, pos, ◌+ℤ◌, List, [], ◌∷◌, ◌++◌, map, Option}
use Rattle.std.specs.Prelude.{unsigned_abs}
use Rattle.std.specs.List.{filter_map, flat_map, fold}
use Rattle.std.specs.Option.{option_map}
use Rattle.std.specs.declared.cmp.Ordering.{Ordering}
use Rattle.std.specs.Ordering.{int_cmp}
use Rattle.std.specs.FinMap.{FinMap, entries, from_entries}
use Rattle.base_values.specs.declared.Position.{Position}
use Rattle.base_values.specs.KeyMap.{with_entry}
use Rattle.base_values.specs.Places.{position_cmp}
use Rattle.base_axis.specs.declared.MergedCell.{MergedCell}

-- so many lines from a first one on, in ascending order
abbrev pub lines_from : ℤ → ℕ → List ℤ
lines_from first zero = []
lines_from first (suc more) = lines_from first more ++ (first +ℤ pos more) ∷ []

-- the places of a row at these columns
abbrev pub row_places : ℤ → List ℤ → List Position
row_places row columns = map (λ column. record { row = row; column = column }) columns

-- the places of a rectangle, by row and then by column
abbrev pub places_of : MergedCell → List Position
places_of r = flat_map (λ row. row_places row (lines_from r.column (unsigned_abs r.width))) (lines_from r.row (unsigned_abs r.height))

-- a key with what is made of it, if something is
abbrev pub made_entry : {K X : Type 0} → (K → Option X) → K → Option (K × X)
made_entry make key = option_map (λ x. (key, x)) (make key)

-- the map of what is made of keys
unfoldable pub planned : {K X : Type 0} {R : K → K → Ordering} → (K → Option X) → List K → FinMap R X
planned make keys = from_entries (filter_map (made_entry make) keys)

-- the map of what is made of the places of a rectangle
abbrev pub planned_places : {X : Type 0} → (Position → Option X) → MergedCell → FinMap position_cmp X
planned_places make r = planned make (places_of r)

-- and of so many lines from a first one on
abbrev pub planned_lines : {X : Type 0} → (ℤ → Option X) → ℤ → ℕ → FinMap int_cmp X
planned_lines make first count = planned make (lines_from first count)

-- ---- what is planned, put in a map

-- a map where each planned key has what is planned there, which may be nothing
abbrev pub carried_out : {K X : Type 0} {R : K → K → Ordering} → FinMap R (Option X) → FinMap R X → FinMap R X
carried_out plan m = fold (λ output e. with_entry output e.0 e.1) m (entries plan)
