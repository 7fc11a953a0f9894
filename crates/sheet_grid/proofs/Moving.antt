-- A sheet that is taken from one index to another.
use Rattle.std.proofs.Common.{◌≡◌, ℕ, ◌<◌, cond, List, length, get_or, Result, refl, ap, ◌∙◌}
use Rattle.std.specs.Prelude.{IsOk, is_ok}
use Rattle.std.specs.List.{insert, remove}
use Rattle.std.specs.Option.{option_map_or}
use Rattle.std.proofs.lemmas.Option.{slice_get_read}
use Rattle.sheet_grid.specs.Sheet.{Sheet}
use Rattle.sheet_grid.specs.Book.{sheets_moved}

-- what a call leaves that has gone well
pub gone_well : {A E X : Type 0} (result : Result A E) (x y z : X) → IsOk result → z ≡ cond (is_ok result) x y → z ≡ x
gone_well result x y z fine is = is ∙ ap (λ b. cond b x y) fine

-- the sheet that stands at the index is taken out, and put in
pub moved_is : (sheets : List Sheet) (from to : ℕ) (sheet : Sheet) → from < length sheets → sheet ≡ get_or sheets from sheet → sheets_moved sheets from to ≡ insert (remove sheets from) to sheet
moved_is sheets from to sheet within read = ap (λ found. option_map_or (λ (other : Sheet). insert (remove sheets from) to other) found sheets) (slice_get_read sheets (length sheets) from sheet refl within read)
