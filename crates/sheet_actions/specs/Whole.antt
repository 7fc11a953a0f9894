-- Which line edits leave arrays and merges whole.
use Rattle.std.specs.Prelude.{◌≡◌, ℕ, Bool, false, IfSome}
use Rattle.base_axis.specs.Along.{Along}
use Rattle.line_edits.specs.declared.EditKind.{EditKind}
use Rattle.line_edits.specs.declared.EditKind.TheVariants.{Insert, Delete, Move}
use Rattle.sheet_grid.specs.Sheet.{Sheet}
use Rattle.sheet_grid.specs.Book.{Book}
use Rattle.sheet_ids.specs.Ids.{sheet_of}
use Rattle.sheet_actions.specs.Planned.{splits_array, splits_merge, pushes_past}

-- whether a move splits a merge. Insertions and deletions may: they make it larger or smaller
abbrev pub moves_part : Along → EditKind → Sheet → Bool
moves_part a (Insert first count) sheet = false
moves_part a (Delete first count) sheet = false
moves_part a (Move first count delta) sheet = splits_merge a (Move first count delta) sheet

-- whether an insertion could push a cell, or what an array fills, past the last line
abbrev pub has_no_room : Along → EditKind → Sheet → Bool
has_no_room a (Insert first count) sheet = pushes_past a count sheet
has_no_room a (Delete first count) sheet = false
has_no_room a (Move first count delta) sheet = false

-- each array of the sheet goes as a whole, or is lost; each merge that moves goes as a whole
pub record LeavesWhole (a : Along) (kind : EditKind) (sheet : Sheet) : Type 0 where
  pub arrays : splits_array a kind sheet ≡ false
  pub merges : moves_part a kind sheet ≡ false
  pub room : has_no_room a kind sheet ≡ false

-- so it is on the sheet of an id
abbrev pub IsAllowed : Along → EditKind → ℕ → Book → Type 0
IsAllowed a kind id book = IfSome (sheet_of book id) (LeavesWhole a kind)
