-- The rectangle that an edit asks for is inside the sheet, where the edit is not refused and the one that was viewed is inside.
use Rattle.std.proofs.Common.{◌≡◌, ℕ, ℤ, pos, ◌+ℤ◌, ◌-ℤ◌, ◌≤ℤ◌, ◌<◌, Bool, true, false, cond, List, length, Result, Ok, Err, refl, ap, sym, ◌∙◌, arith}
use Rattle.std.specs.Prelude.{◌==◌, ◌&&◌, int_le, nat_lt}
use Rattle.std.proofs.lemmas.Int.{ints}
use Rattle.std.proofs.lemmas.Bool.Decides.{nat_tests}
use Rattle.base_values.specs.declared.EditError.{EditError}
use Rattle.base_values.specs.declared.EditError.TheVariants.{InvalidArea, StylesShape}
use Rattle.base_values.specs.Answers.{and_then, map_ok}
use Rattle.base_axis.specs.declared.MergedCell.{MergedCell}
use Rattle.base_axis.specs.Rectangles.{is_inside, last_column, last_of, last_row, are_lines_inside}
use Rattle.base_styles.specs.declared.Style.{Style}
use Rattle.line_sizes.specs.declared.LineChange.{LineChange}
use Rattle.line_sizes.specs.declared.LineChange.TheVariants.{Hidden}
use Rattle.line_sizes.specs.LineChanges.{has_lines, line_count, lines_from}
use Rattle.line_sizes.specs.laws.NextShown.{next_inside}
use Rattle.sheet_grid.specs.Sheet.{Sheet}
use Rattle.sheet_grid.specs.Book.{Book, sheet_at, sheet_edit, with_sheet}
use Rattle.sheet_rules.specs.WellFormed.{IsWellFormed, are_sheets}
use Rattle.sheet_rules.specs.laws.WellFormedLaws.{well_formed_parts}
use Rattle.sheet_history.specs.declared.LineAxis.{LineAxis}
use Rattle.sheet_history.specs.declared.LineAxis.TheVariants.{Rows, Columns}
use Rattle.sheet_history.specs.LineDiffs.{along_of}
use Rattle.sheet_ids.specs.declared.View.{View}
use Rattle.sheet_ids.specs.Chosen.{id_at}
use Rattle.sheet_ids.specs.Views.{IsViewOf, are_lines, is_range, is_rectangle, range_from}
use Rattle.sheet_ids.specs.laws.ViewLaws.{viewed_there}
use Rattle.edit_plans.specs.Edits.{Edit, changed}
use Rattle.edit_plans.specs.Edits.Edit.{SetHidden, PasteStyles}
use Rattle.edit_plans.specs.LineEdits.{attrs_in, attrs_set}
use Rattle.edit_plans.specs.LineRecords.{lines_of, lines_set}
use Rattle.edit_plans.specs.RangeEdits.{inside_area, is_tile, pasted_in, styles_pasted}
use Rattle.edit_plans.specs.ViewSteps.{line_shown, selected_by, view_after, view_asked, whole_line}

-- ---- the sheet of an edit that is not refused

record OfSheet (index : ℕ) (book : Book) (f : Sheet → Result Sheet EditError) : Type 0 where
  pub sheet : Sheet
  pub after : Sheet
  pub there : sheet_at book index ≡ Ok sheet
  pub how : f sheet ≡ Ok after

of_sheet : (index : ℕ) (book later : Book) (f : Sheet → Result Sheet EditError) → sheet_edit book index f ≡ Ok later → OfSheet index book f
of_sheet index book later f is = found (sheet_at book index) refl is
  where
    made : (sheet : Sheet) → sheet_at book index ≡ Ok sheet → (r : Result Sheet EditError) → f sheet ≡ r → map_ok (with_sheet book index) r ≡ Ok later → OfSheet index book f
    made sheet there (Ok after) how e = record { sheet = sheet; after = after; there = there; how = how }
    made sheet there (Err error) how e = absurd (let never : ◌≡◌ {A = Result Book EditError} (Err error) (Ok later) = e in cc)

    found : (r : Result Sheet EditError) → sheet_at book index ≡ r → and_then r (λ sheet. map_ok (with_sheet book index) (f sheet)) ≡ Ok later → OfSheet index book f
    found (Ok sheet) there e = made sheet there (f sheet) refl e
    found (Err error) there e = absurd (let never : ◌≡◌ {A = Result Book EditError} (Err error) (Ok later) = e in cc)

-- ---- rectangles

lines_inside : (end first last : ℤ) → pos 1 ≤ℤ first → first ≤ℤ last → last ≤ℤ end → are_lines end first last ≡ true
lines_inside end first last low order high = grind (arith, ints, low, order, high)

-- a whole line of the axis
whole_inside : (axis : LineAxis) (line : ℤ) → pos 1 ≤ℤ line → line ≤ℤ (along_of axis).last → is_rectangle (whole_line axis line) ≡ true
whole_inside Rows line low high = rw (lines_inside (pos 1048576) line line low (omega (arith, ints)) high) refl
whole_inside Columns line low high = lines_inside (pos 16384) line line low (omega (arith, ints)) high

spans : (last first count : ℤ) → are_lines_inside last first count ≡ true → are_lines last first (last_of first count) ≡ true
spans last first count is = grind (arith, ints, is)

both : (a b : Bool) → a && b ≡ true → (a ≡ true) × (b ≡ true)
both true true h = (refl, refl)
both true false h = (refl, h)
both false b h = absurd (cc)

-- a rectangle by its corners
pub corners_inside : (r : MergedCell) → is_inside r ≡ true → is_rectangle (range_from r.row r.column (last_row r) (last_column r)) ≡ true
unfolding is_inside
corners_inside r is =
    let two = both (are_lines_inside (pos 1048576) r.row r.height) (are_lines_inside (pos 16384) r.column r.width) is in
    rw (spans (pos 1048576) r.row r.height two.0, spans (pos 16384) r.column r.width two.1) refl

-- ---- edits

-- lines that are hidden are lines of the axis
lines_there : (axis : LineAxis) (first last : ℤ) (change : LineChange) (sheet after : Sheet) → attrs_in axis first last (Ok change) sheet ≡ Ok after
    → (pos 1 ≤ℤ first) × (first ≤ℤ last) × (last ≤ℤ (along_of axis).last)
unfolding lines_from
lines_there axis first last change sheet after is = go (has_lines (along_of axis).last first last) refl is
  where
    go : (b : Bool) → has_lines (along_of axis).last first last ≡ b
        → and_then (cond b (Ok (line_count first last)) (Err InvalidArea)) (λ count. map_ok (λ output. lines_set axis output first count sheet) (Ok change)) ≡ Ok after
        → (pos 1 ≤ℤ first) × (first ≤ℤ last) × (last ≤ℤ (along_of axis).last)
    go true lines e = (grind (arith, ints, lines), grind (arith, ints, lines), grind (arith, ints, lines))
    go false lines e = absurd (let never : ◌≡◌ {A = Result Sheet EditError} (Err InvalidArea) (Ok after) = e in cc)

-- styles are pasted over a rectangle inside
pasted_inside : (r : MergedCell) (rest : MergedCell → Result Sheet EditError) (after : Sheet) → and_then (inside_area r) rest ≡ Ok after → is_inside r ≡ true
pasted_inside r rest after is = go (is_inside r) refl is
  where
    go : (b : Bool) → is_inside r ≡ b → and_then (cond b (Ok r) (Err InvalidArea)) rest ≡ Ok after → is_inside r ≡ true
    go true inside e = inside
    go false inside e = absurd (let never : ◌≡◌ {A = Result Sheet EditError} (Err InvalidArea) (Ok after) = e in cc)

pasted_there : (index : ℕ) (r : MergedCell) (styles : List (List Style)) (book later : Book) → changed (PasteStyles index r styles) book ≡ Ok later → is_inside r ≡ true
unfolding styles_pasted
pasted_there index r styles book later is = go (is_tile styles) is
  where
    go : (b : Bool) → ◌≡◌ {A = Result Book EditError} (cond b (sheet_edit book index (pasted_in r styles)) (Err StylesShape)) (Ok later) → is_inside r ≡ true
    go true e = let of = of_sheet index book later (pasted_in r styles) e in pasted_inside r _ of.after of.how
    go false e = absurd (let never : ◌≡◌ {A = Result Book EditError} (Err StylesShape) (Ok later) = e in cc)

hidden_seen : (index : ℕ) (axis : LineAxis) (first last : ℤ) (book later : Book) (view : View) → changed (SetHidden index axis first last true) book ≡ Ok later
    → is_rectangle view.range ≡ true → is_rectangle (line_shown axis first last (sheet_at book index) view.range) ≡ true
unfolding attrs_set
hidden_seen index axis first last book later view is inside =
    let of = of_sheet index book later (attrs_in axis first last (Ok (Hidden true))) is in
    let lines = lines_there axis first last (Hidden true) of.sheet of.after of.how in
    let next = next_inside (lines_of axis of.sheet) (along_of axis).last first last lines.0 lines.1 lines.2 in
    ap (λ found. is_rectangle (line_shown axis first last found view.range)) of.there
    ∙ whole_inside axis _ next.0 next.1

pub asked_inside : (edit : Edit) (book later : Book) (view : View) → changed edit book ≡ Ok later → is_rectangle view.range ≡ true → is_rectangle (view_asked edit book view).range ≡ true
asked_inside (SetHidden index axis first last true) book later view is inside = either (index == view.sheet)
  where
    either : (b : Bool) → is_rectangle (cond b (line_shown axis first last (sheet_at book index) view.range) view.range) ≡ true
    either true = hidden_seen index axis first last book later view is inside
    either false = inside
asked_inside (SetHidden index axis first last false) book later view is inside = inside
asked_inside (PasteStyles index r styles) book later view is inside = either (index == view.sheet)
  where
    either : (b : Bool) → is_rectangle (cond b (range_from r.row r.column (last_row r) (last_column r)) view.range) ≡ true
    either true = corners_inside r (pasted_there index r styles book later is)
    either false = inside
asked_inside _ book later view is inside = inside

-- ---- the view after an edit

some : (sheets : List Sheet) → are_sheets sheets ≡ true → 0 < length sheets
unfolding are_sheets
some sheets h =
    let is : nat_lt 0 (length sheets) ≡ true = (both (nat_lt 0 (length sheets)) _ (both _ _ (both _ _ h).0).0).0 in
    grind (arith, nat_tests, is)

-- a well-formed workbook has a sheet
pub some_sheet : (book : Book) → IsWellFormed book → 0 < length book.worksheets
some_sheet book rules = some book.worksheets (well_formed_parts book rules).sheets

-- where an edit led from one workbook to another, the view after it is one of the later workbook
pub seen_after : (edit : Edit) (earlier later : Book) (view : View) → IsWellFormed later → changed edit earlier ≡ Ok later → is_rectangle view.range ≡ true
    → IsViewOf (length later.worksheets) (view_after edit earlier later view)
seen_after edit earlier later view rules is inside =
    viewed_there (id_at earlier.worksheets view.sheet) later.worksheets (selected_by edit earlier view.sheet) (view_asked edit earlier view) (some_sheet later rules)
    (asked_inside edit earlier later view is inside)
