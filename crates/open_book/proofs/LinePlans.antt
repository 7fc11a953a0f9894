-- An edit of lines that is planned is one whose record can be made and taken back.
use Rattle.std.proofs.Common.{◌≡◌, ℕ, ℤ, pos, ◌+ℤ◌, ◌≤ℤ◌, Bool, true, false, List, [], ◌∷◌, map, Option, Some, None, Result, Ok, Err, refl, ap, sym, ◌∙◌, arith}
use Rattle.std.specs.Prelude.{◌&&◌, not, int_le, int_lt, IsTrue, is_some, slice_get}
use Rattle.std.specs.List.{list_all, AllByRecursion}
use Rattle.std.specs.FinMap.{entries}
use Rattle.std.proofs.lemmas.Int.{ints, fold-int_max_bounds}
use Rattle.std.proofs.lemmas.List.Elements.{recursion_from_All}
use Rattle.base_values.specs.declared.EditError.{EditError}
use Rattle.base_values.specs.declared.EditError.TheVariants.{InvalidSheet}
use Rattle.base_values.specs.declared.Position.{Position}
use Rattle.base_values.specs.Answers.{and_then}
use Rattle.base_values.specs.Places.{is_line, is_place}
use Rattle.base_axis.specs.Along.{Along}
use Rattle.base_axis.specs.declared.MergedCell.{MergedCell}
use Rattle.line_edits.specs.declared.EditKind.{EditKind}
use Rattle.line_edits.specs.declared.EditKind.TheVariants.{Insert, Delete, Move}
use Rattle.sheet_grid.specs.declared.Cell.{Cell}
use Rattle.sheet_grid.specs.declared.WorksheetDimension.{WorksheetDimension}
use Rattle.sheet_grid.specs.Arrays.{array_at}
use Rattle.sheet_grid.specs.Dimension.{reached, extent_at, extent_of, extents_of, last_corner}
use Rattle.sheet_grid.specs.Sheet.{Sheet}
use Rattle.sheet_grid.specs.Book.{Book, sheet_at}
use Rattle.sheet_rules.specs.WellFormed.{has_keys_inside, IsWellFormed}
use Rattle.sheet_rules.specs.laws.EntryLaws.{both}
use Rattle.sheet_rules.specs.laws.WellFormedLaws.{well_formed_parts}
use Rattle.sheet_history.specs.declared.LineAxis.{LineAxis}
use Rattle.sheet_history.specs.declared.LineAxis.TheVariants.{Rows, Columns}
use Rattle.sheet_history.specs.LineDiffs.{along_of, is_pushed_past, stays_inside, is_there_inside}
use Rattle.sheet_history.specs.Records.{IsLineEdit}
use Rattle.sheet_history.specs.laws.PutLaws.{ok_or-some}
use Rattle.sheet_actions.specs.GreatestLine.{greatest_line}
use Rattle.sheet_actions.specs.Planned.{refusal_of, unless_refused, lines_planned}
use Rattle.sheet_actions.specs.Whole.{LeavesWhole, IsAllowed}
use Rattle.sheet_actions.specs.laws.OwnSheets.{own_found}
use Rattle.sheet_actions.specs.laws.PlannedLaws.{valid_unrefused, whole_unrefused, planned_allowed}
use Rattle.open_book.proofs.Lists.{passes_at}

-- ---- no cell is pushed past the last line

module _ (a : Along) where
  not_past : (first count line top : ℤ) → line ≤ℤ top → int_lt a.last (top +ℤ count) ≡ false → not (int_le first line && int_lt a.last (line +ℤ count)) ≡ true
  not_past first count line top most fits =
      let stays : int_lt a.last (line +ℤ count) ≡ false = grind (arith, ints) in
      ap (λ b. not (int_le first line && b)) stays ∙ none (int_le first line)
    where
      none : (b : Bool) → not (b && false) ≡ true
      none true = refl
      none false = refl

  -- each cell stands at a line up to a greatest one
  abbrev AllUpTo : ℤ → List (Position × Cell) → Type 0
  AllUpTo top cells = AllByRecursion (λ (entry : Position × Cell). a.line entry.0 ≤ℤ top) cells

  none_past : (first count top : ℤ) (cells : List (Position × Cell)) → AllUpTo top cells → int_lt a.last (top +ℤ count) ≡ false → list_all (λ (entry : Position × Cell). not (is_pushed_past a first count entry.0)) cells ≡ true
  none_past first count top [] most fits = refl
  none_past first count top (cell ∷ cells) most fits = λ i. not_past first count (a.line cell.0) top most.0 fits i && none_past first count top cells most.1 fits i

-- what is reached from a line of the axis is not before it
reached_behind : (last first count : ℤ) → is_line last first ≡ true → first ≤ℤ reached last first count
reached_behind last first count on = grind (arith, ints)

same_line : (line : ℤ) → line ≤ℤ line
same_line line = grind (arith, ints)

-- what a cell takes of the sheet does not end before its place
ends_behind : (axis : LineAxis) (place : Position) (array : Option MergedCell) → is_place place ≡ true → (along_of axis).line place ≤ℤ (along_of axis).line (last_corner (extent_at place array))
ends_behind Rows place None on = same_line place.row
ends_behind Columns place None on = same_line place.column
ends_behind Rows place (Some r) on = reached_behind (pos 1048576) place.row r.height (both (is_line (pos 1048576) place.row) (is_line (pos 16384) place.column) on).0
ends_behind Columns place (Some r) on = reached_behind (pos 16384) place.column r.width (both (is_line (pos 1048576) place.row) (is_line (pos 16384) place.column) on).1

through : (x y z : ℤ) → x ≤ℤ y → y ≤ℤ z → x ≤ℤ z
through x y z one two = grind (arith, ints)

up_to : (axis : LineAxis) (top : ℤ) (cells : List (Position × Cell)) → list_all (λ (entry : Position × Cell). is_place entry.0) cells ≡ true
    → AllByRecursion (λ line. line ≤ℤ top) (map (λ (extent : WorksheetDimension). (along_of axis).line (last_corner extent)) (map extent_of cells)) → AllUpTo (along_of axis) top cells
up_to axis top [] inside most = tt
up_to axis top (cell ∷ cells) inside most =
    let parts = both (is_place cell.0) (list_all (λ (entry : Position × Cell). is_place entry.0) cells) inside in (
      through ((along_of axis).line cell.0) ((along_of axis).line (last_corner (extent_of cell))) top (ends_behind axis cell.0 (array_at cell.0 cell.1.content) parts.0) most.0,
      up_to axis top cells parts.1 most.1,
    )

first_of : (a b c d : Bool) → (a && b && c && d) ≡ true → a ≡ true
first_of a b c d h = (both a b (both (a && b) c (both (a && b && c) d h).0).0).0

-- no cell of a sheet stands behind its greatest line
cells_up_to : (axis : LineAxis) (sheet : Sheet) → has_keys_inside sheet ≡ true → AllUpTo (along_of axis) (greatest_line (along_of axis) sheet) (entries sheet.cells)
unfolding greatest_line has_keys_inside
cells_up_to axis sheet inside =
    let lines : List ℤ = map (λ (extent : WorksheetDimension). (along_of axis).line (last_corner extent)) (extents_of sheet.cells) in
    up_to axis (greatest_line (along_of axis) sheet) (entries sheet.cells) (first_of _ _ _ _ inside)
    (recursion_from_All (λ line. line ≤ℤ greatest_line (along_of axis) sheet) lines (fold-int_max_bounds (pos 1) lines (greatest_line (along_of axis) sheet) refl).1)

-- an edit that leaves arrays and merges whole pushes no cell past the last line
stays_whole : (axis : LineAxis) (kind : EditKind) (sheet : Sheet) → has_keys_inside sheet ≡ true → LeavesWhole (along_of axis) kind sheet → stays_inside (along_of axis) kind sheet ≡ true
unfolding stays_inside
stays_whole axis (Insert first count) sheet inside whole =
    none_past (along_of axis) first count (greatest_line (along_of axis) sheet) (entries sheet.cells) (cells_up_to axis sheet inside) whole.room
stays_whole axis (Delete first count) sheet inside whole = refl
stays_whole axis (Move first count delta) sheet inside whole = refl

-- ---- plans

-- what the plan of an edit of lines found: the edit is one of its sheet
pub record IsPlanned (w : Book) (index : ℕ) (axis : LineAxis) (kind : EditKind) (plan : ℕ × EditKind) : Type 0 where
  pub sheet : Sheet
  pub at : sheet_at w index ≡ Ok sheet
  pub plan_is : ◌≡◌ {A = ℕ × EditKind} (sheet.id, kind) plan
  pub edit : IsLineEdit axis kind sheet.id w
  pub allowed : IsAllowed (along_of axis) kind sheet.id w

module _ (w : Book) (rules : IsWellFormed w) (index : ℕ) (axis : LineAxis) (kind : EditKind) (plan : ℕ × EditKind) where
  abbrev a : Along
  a = along_of axis

  of_sheet : (sheet : Sheet) → sheet_at w index ≡ Ok sheet → (o : Option EditError) → refusal_of a kind sheet ≡ o → unless_refused o (sheet.id, kind) ≡ Ok plan → IsPlanned w index axis kind plan
  of_sheet sheet at None free h =
      let found = ok_or-some InvalidSheet (slice_get w.worksheets index) sheet at in
      let inside = passes_at has_keys_inside w.worksheets index sheet found (well_formed_parts w rules).inside in
      record {
        sheet = sheet;
        at = at;
        plan_is = cc;
        edit = record {
          valid = valid_unrefused a kind sheet free;
          rules = rules;
          there = ap (is_there_inside a kind) (own_found w rules index sheet found) ∙ stays_whole axis kind sheet inside (whole_unrefused a kind sheet free);
        };
        allowed = planned_allowed a kind w index sheet (sym at) free rules;
      }
  of_sheet sheet at (Some error) refused h = absurd (let never : ◌≡◌ {A = Result (ℕ × EditKind) EditError} (Err error) (Ok plan) = h in cc)

  of_index : (r : Result Sheet EditError) → sheet_at w index ≡ r → and_then r (λ sheet. unless_refused (refusal_of a kind sheet) (sheet.id, kind)) ≡ Ok plan → IsPlanned w index axis kind plan
  of_index (Ok sheet) at h = of_sheet sheet at (refusal_of a kind sheet) refl h
  of_index (Err error) at h = absurd (let never : ◌≡◌ {A = Result (ℕ × EditKind) EditError} (Err error) (Ok plan) = h in cc)

  pub lines_plan : lines_planned a kind index w ≡ Ok plan → IsPlanned w index axis kind plan
  lines_plan h = of_index (sheet_at w index) refl h

-- a sheet that keeps its cells inside is there
pub sheet_there : (a : Along) (kind : EditKind) (o : Option Sheet) → IsTrue (is_there_inside a kind o) → IsTrue (is_some o)
sheet_there a kind None there = there
sheet_there a kind (Some sheet) there = refl
