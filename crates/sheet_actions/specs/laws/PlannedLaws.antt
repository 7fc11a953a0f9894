-- A planned edit is a valid one, of a sheet that the workbook has, and leaves arrays and merges whole.
use Rattle.std.proofs.Common.{◌≡◌, ◌≢◌, ◌∙◌, ℕ, zero, suc, ℤ, pos, ◌+ℤ◌, ◌≤ℤ◌, Bool, true, false, cond, List, [], ◌∷◌, Option, Some, None, Result, Ok, Err, refl, ap, sym, subst, arith}
use Rattle.std.specs.Prelude.{⊤, IfSome, IsTrue, is_some, int_lt, slice_get, ◌==◌, not}
use Rattle.std.specs.Cmp.{unsigned_Decides}
use Rattle.std.specs.List.{find}
use Rattle.std.proofs.lemmas.Int.{ints}
use Rattle.base_values.specs.declared.EditError.{EditError}
use Rattle.base_values.specs.declared.EditError.TheVariants.{InvalidSheet, InvalidRow, InvalidColumn, BadCount, OverEdge, TargetOutOfBounds, SplitsArray, SplitsMerge, NoMemory}
use Rattle.base_values.specs.Answers.{ok_or}
use Rattle.base_values.specs.Places.{is_line}
use Rattle.base_axis.specs.Along.{Along, outside}
use Rattle.base_axis.specs.Rectangles.{last_of}
use Rattle.sheet_grid.specs.Sheet.{Sheet}
use Rattle.sheet_grid.specs.Book.{Book, sheet_at}
use Rattle.line_edits.specs.declared.EditKind.{EditKind}
use Rattle.line_edits.specs.declared.EditKind.TheVariants.{Insert, Delete, Move}
use Rattle.line_edits.specs.Edit.{IsValid, is_valid, begins_inside}
use Rattle.sheet_ids.specs.Ids.{sheet_of}
use Rattle.sheet_actions.specs.GreatestLine.{greatest_line}
use Rattle.sheet_actions.specs.laws.GreatestLaws.{at_least_one}
use Rattle.sheet_rules.specs.WellFormed.{IsWellFormed}
use Rattle.sheet_actions.specs.Planned.{splits_array, splits_merge, pushes_past, refusal_of}
use Rattle.sheet_actions.specs.Whole.{LeavesWhole, IsAllowed}
use Rattle.sheet_actions.specs.laws.OwnSheets.{own_found}

-- refusals one after another: the first whose test passes
abbrev first_of : List (Bool × EditError) → Option EditError
first_of [] = None
first_of (test ∷ tests) = cond test.0 (Some test.1) (first_of tests)

abbrev tests_of : Along → EditKind → Sheet → List (Bool × EditError)
tests_of a (Insert first count) sheet =
    (int_lt count (pos 1), BadCount) ∷ (not (is_line a.last first), outside a) ∷ (splits_array a (Insert first count) sheet, SplitsArray) ∷ (pushes_past a count sheet, OverEdge) ∷ []
tests_of a (Delete first count) sheet =
    (int_lt count (pos 1), BadCount) ∷ (not (is_line a.last first), outside a) ∷ (int_lt a.last (last_of first count), TargetOutOfBounds) ∷ (splits_array a (Delete first count) sheet, SplitsArray) ∷ []
tests_of a (Move first count delta) sheet =
    (not (is_valid a.last (Move first count delta)), TargetOutOfBounds) ∷ (splits_array a (Move first count delta) sheet, SplitsArray) ∷ (splits_merge a (Move first count delta) sheet, SplitsMerge) ∷ []

-- the refusal of an edit is the first of its tests'
first_refusal : (a : Along) (kind : EditKind) (sheet : Sheet) → refusal_of a kind sheet ≡ first_of (tests_of a kind sheet)
unfolding refusal_of
first_refusal a (Insert first count) sheet = refl
first_refusal a (Delete first count) sheet = refl
first_refusal a (Move first count delta) sheet = refl

-- where nothing is refused, each test fails
abbrev Failed : List (Bool × EditError) → Type 0
Failed [] = ⊤
Failed (test ∷ tests) = (test.0 ≡ false) × Failed tests

failed : (tests : List (Bool × EditError)) → first_of tests ≡ None → Failed tests
failed [] h = tt
failed ((true, refusal) ∷ tests) h = absurd (let never : ◌≡◌ {A = Option EditError} (Some refusal) None = h in cc)
failed ((false, refusal) ∷ tests) h = (refl, failed tests h)

within_insert : (last g first count : ℤ) → pos 1 ≤ℤ g → int_lt count (pos 1) ≡ false → not (is_line last first) ≡ false → int_lt last (g +ℤ count) ≡ false → begins_inside last first count ≡ true
within_insert last g first count low few on near = grind (arith, ints)

within_delete : (last first count : ℤ) → int_lt count (pos 1) ≡ false → not (is_line last first) ≡ false → int_lt last (last_of first count) ≡ false → begins_inside last first count ≡ true
within_delete last first count few on near = grind (arith, ints)

not_false : (b : Bool) → not b ≡ false → b ≡ true
not_false true h = refl
not_false false h = absurd (let never : true ≡ false = h in cc)

module _ (a : Along) where
  passed : (kind : EditKind) (sheet : Sheet) → refusal_of a kind sheet ≡ None → Failed (tests_of a kind sheet)
  passed kind sheet h = failed (tests_of a kind sheet) (sym (first_refusal a kind sheet) ∙ h)

  -- an edit that is not refused is valid
  pub valid_unrefused : (kind : EditKind) (sheet : Sheet) → refusal_of a kind sheet ≡ None → IsValid a.last kind
  unfolding is_valid
  valid_unrefused (Insert first count) sheet h =
      let p = passed (Insert first count) sheet h in
      within_insert a.last (greatest_line a sheet) first count (at_least_one a sheet) p.0 p.1.0 p.1.1.1.0
  valid_unrefused (Delete first count) sheet h =
      let p = passed (Delete first count) sheet h in
      within_delete a.last first count p.0 p.1.0 p.1.1.0
  valid_unrefused (Move first count delta) sheet h = not_false (is_valid a.last (Move first count delta)) (passed (Move first count delta) sheet h).0

  -- and it leaves arrays and merges whole
  pub whole_unrefused : (kind : EditKind) (sheet : Sheet) → refusal_of a kind sheet ≡ None → LeavesWhole a kind sheet
  whole_unrefused (Insert first count) sheet h = let p = passed (Insert first count) sheet h in record { arrays = p.1.1.0; merges = refl; room = p.1.1.1.0 }
  whole_unrefused (Delete first count) sheet h = let p = passed (Delete first count) sheet h in record { arrays = p.1.1.1.0; merges = refl; room = refl }
  whole_unrefused (Move first count delta) sheet h = let p = passed (Move first count delta) sheet h in record { arrays = p.1.0; merges = p.1.1.0; room = refl }

-- a sheet of a list is found by its id
pub found_by_id : (sheets : List Sheet) (index : ℕ) (sheet : Sheet) → slice_get sheets index ≡ Some sheet → IsTrue (is_some (find (λ other. other.id == sheet.id) sheets))
found_by_id [] index sheet h = absurd (let never : ◌≡◌ {A = Option Sheet} None (Some sheet) = h in cc)
found_by_id (first ∷ sheets) zero sheet h =
    let same : first ≡ sheet = cc in
    ap (λ b. is_some (cond b (Some first) (find (λ other. other.id == sheet.id) sheets))) ((unsigned_Decides first.id sheet.id).1 (ap (λ s. s.id) same))
found_by_id (first ∷ sheets) (suc i) sheet h =
    elim (first.id == sheet.id) as (λ b. IsTrue (is_some (cond b (Some first) (find (λ other. other.id == sheet.id) sheets)))) [ true ↦ refl | false ↦ found_by_id sheets i sheet h ]

-- the sheet at an index is found by its id
pub sheet_there : (book : Book) (index : ℕ) (sheet : Sheet) → Ok sheet ≡ sheet_at book index → IsTrue (is_some (sheet_of book sheet.id))
sheet_there book index sheet h = at_index (slice_get book.worksheets index) refl h
  where
    at_index : (o : Option Sheet) → slice_get book.worksheets index ≡ o → Ok sheet ≡ ok_or InvalidSheet o → IsTrue (is_some (sheet_of book sheet.id))
    at_index None is g = absurd (let never : ◌≡◌ {A = Result Sheet EditError} (Ok sheet) (Err InvalidSheet) = g in cc)
    at_index (Some found) is g = let same : found ≡ sheet = cc in found_by_id book.worksheets index sheet (is ∙ ap Some same)

-- no refusal is a lack of memory
abbrev Sure : List (Bool × EditError) → Type 0
Sure [] = ⊤
Sure (test ∷ tests) = (test.1 ≢ NoMemory) × Sure tests

sure : (tests : List (Bool × EditError)) → Sure tests → first_of tests ≢ Some NoMemory
sure [] h is = cc
sure ((true, refusal) ∷ tests) h is = h.0 (cc)
sure ((false, refusal) ∷ tests) h is = sure tests h.1 is

outside_sure : (a : Along) → outside a ≢ NoMemory
outside_sure a = elim (a.of true false) as (λ b. cond b InvalidRow InvalidColumn ≢ NoMemory) [ true ↦ λ h. cc | false ↦ λ h. cc ]

all_sure : (a : Along) (kind : EditKind) (sheet : Sheet) → Sure (tests_of a kind sheet)
all_sure a (Insert first count) sheet = ((λ h. cc), (outside_sure a, ((λ h. cc), ((λ h. cc), tt))))
all_sure a (Delete first count) sheet = ((λ h. cc), (outside_sure a, ((λ h. cc), ((λ h. cc), tt))))
all_sure a (Move first count delta) sheet = ((λ h. cc), ((λ h. cc), ((λ h. cc), tt)))

pub refusal_sure : (a : Along) (kind : EditKind) (sheet : Sheet) → refusal_of a kind sheet ≢ Some NoMemory
refusal_sure a kind sheet h = sure (tests_of a kind sheet) (all_sure a kind sheet) (sym (first_refusal a kind sheet) ∙ h)

-- a planned edit of a well-formed workbook is one that it allows
pub planned_allowed : (a : Along) (kind : EditKind) (book : Book) (index : ℕ) (sheet : Sheet) → Ok sheet ≡ sheet_at book index → refusal_of a kind sheet ≡ None → IsWellFormed book → IsAllowed a kind sheet.id book
planned_allowed a kind book index sheet found free rules =
    let there = own_found book rules index sheet (at_index (slice_get book.worksheets index) refl found) in
    subst (λ o. IfSome o (LeavesWhole a kind)) (sym there) (whole_unrefused a kind sheet free)
  where
    at_index : (o : Option Sheet) → slice_get book.worksheets index ≡ o → Ok sheet ≡ ok_or InvalidSheet o → slice_get book.worksheets index ≡ Some sheet
    at_index None is g = absurd (let never : ◌≡◌ {A = Result Sheet EditError} (Ok sheet) (Err InvalidSheet) = g in cc)
    at_index (Some found) is g = let same : found ≡ sheet = cc in is ∙ ap Some same
