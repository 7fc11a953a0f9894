-- The id of the next sheet of a workbook.
use Rattle.std.specs.Prelude.{ℕ, ◌+◌, nat_le, List, [], ◌∷◌, max, Result, Ok, Err, if◌then◌else◌}
use Rattle.base_values.specs.declared.EditError.{EditError}
use Rattle.base_values.specs.declared.EditError.TheVariants.{SheetIds}

abbrev pub greatest : List ℕ → ℕ
greatest [] = 0
greatest (id ∷ ids) = max id (greatest ids)

-- the last number of 32 bits
abbrev pub last_id : ℕ
last_id = 4294967295

-- one above the greatest of the ids of the sheets, or the refusal where that is the last one
abbrev pub next_id : List ℕ → Result ℕ EditError
next_id ids = if nat_le last_id (greatest ids) then Err SheetIds else Ok (greatest ids + 1)
