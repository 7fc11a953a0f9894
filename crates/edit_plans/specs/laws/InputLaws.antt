-- An input that goes to a place leaves a well-formed workbook, and its changes are the record.
use Rattle.std.proofs.Common.{◌≡◌, ◌≢◌, ◌&&◌, ℕ, ℤ, pos, Bool, true, false, cond, List, [], ◌∷◌, ◌++◌, Option, Some, None, Result, Ok, Err}
use Rattle.std.proofs.Common.{refl, ap, sym, subst, ◌∙◌}
use Rattle.std.specs.Prelude.{IsTrue, IfOk, IsOkUnless, is_none, is_some, not, ◌||◌}
use Rattle.std.specs.FinMap as fin
use Rattle.std.proofs.lemmas.List.{append-nil}
use Rattle.base_values.specs.declared.EditError.{EditError}
use Rattle.base_values.specs.declared.EditError.TheVariants.{CoveredCell, ArrayCell, NoMemory}
use Rattle.base_values.specs.declared.Position.{Position}
use Rattle.base_values.specs.Answers.{and_then, map_ok}
use Rattle.base_values.specs.KeyMap.{with_entry}
use Rattle.base_values.specs.Places.{is_line, place_of, is_place}
use Rattle.base_axis.specs.declared.MergedCell.{MergedCell}
use Rattle.base_styles.specs.declared.Style.{Style}
use Rattle.cell_content.specs.declared.Content.{Content}
use Rattle.cell_content.specs.declared.Content.TheVariants.{Empty, Number, Boolean, Error, Text, Formula, Dynamic, Array}
use Rattle.cell_content.specs.Fitting.{fits_at}
use Rattle.sheet_grid.specs.declared.Cell.{Cell}
use Rattle.sheet_grid.specs.declared.LineAttr.{LineAttr}
use Rattle.sheet_grid.specs.declared.Link.{Link}
use Rattle.sheet_grid.specs.Arrays.{array_at}
use Rattle.sheet_grid.specs.Merges.{is_covered, is_empty}
use Rattle.sheet_grid.specs.laws.FittingLaws.{place_is}
use Rattle.sheet_grid.specs.Sheet.{Sheet, with_cell, shown_style}
use Rattle.sheet_grid.specs.Book.{Book, sheet_at, with_sheet}
use Rattle.sheet_rules.specs.Occupied.{array_over, is_hidden_place, may_stand}
use Rattle.sheet_rules.specs.WellFormed.{has_font, IsWellFormed}
use Rattle.sheet_rules.specs.laws.HiddenLaws.{shown_where_free}
use Rattle.sheet_ids.specs.Ids.{sheet_of}
use Rattle.sheet_history.specs.declared.Diff.{Diff}
use Rattle.sheet_history.specs.declared.Diff.TheVariants.{Cell as CellDiff, Link as LinkDiff}
use Rattle.sheet_history.specs.declared.LineAxis.TheVariants.{Rows}
use Rattle.sheet_history.specs.Diffs.{IsCanonicalList}
use Rattle.sheet_history.specs.Entries.{EntryKey, is_inside_if_any, cell_stands_at, value_fits, with_changed, with_sheet_entry, put_entry}
use Rattle.sheet_history.specs.Entries.EntryKey.{AttrKey, CellKey, LinkKey}
use Rattle.sheet_history.specs.Entries.EntryValue.{AttrValue, CellValue, LinkValue}
use Rattle.sheet_history.specs.Records.{same_entry_value, IsRecord}
use Rattle.sheet_history.specs.Untested.{entry_has_font, may_stand_on}
use Rattle.sheet_history.specs.laws.OneEntry.{put_record}
use Rattle.sheet_history.specs.laws.EntryLaws.{id-with_sheet_entry}
use Rattle.sheet_history.specs.laws.RuleLaws.{well_formed-cell, well_formed-link, well_formed-put}
use Rattle.sheet_rules.specs.laws.EntryLaws.{both}
use Rattle.line_sizes.specs.Heights.{needed_height}
use Rattle.edit_plans.specs.Plans.{IsPlan, Plans}
use Rattle.edit_plans.specs.Inputs.{IsInput, new_cell, entered, cell_entered, with_input, with_row, row_raised, free_place, input_place, input_put}
use Rattle.edit_plans.specs.laws.EditRecords.{cell_record, height_record, input_record, link_change}
use Rattle.edit_plans.specs.laws.Appended.{come_before, come_before-append, put_after}
use Rattle.edit_plans.specs.laws.AtIndex.{there, keeps, changed_at, changed_twice, put_changed, put_twice, sheet_of-put}
use Rattle.edit_plans.specs.laws.AttrRules.{attr-put, line_own, needed_size, own_entry, own_kept, raised_own}
use Rattle.edit_plans.specs.laws.Fonts.{place_inside, shown_font}
use Rattle.edit_plans.specs.laws.PlanLaws.{plan_refused, plan_made, no_sheet, sheet_refuses, sheet_takes, sheet_sure, place_sure, place_again}

-- ---- the place of an input

-- a place inside the sheet that no merge covers and no array of more than one cell holds
pub record IsFree (sheet : Sheet) (row column : ℤ) (place : Position) : Type 0 where
  pub named : place_of row column ≡ Ok place
  pub uncovered : is_covered sheet.merges place ≡ false
  pub apart : array_over sheet place ≡ None

pub is_free : (sheet : Sheet) (row column : ℤ) (place : Position) → input_place sheet row column ≡ Ok place → IsFree sheet row column place
is_free sheet row column place is = go (place_of row column) refl is
  where
    tests : (p : Position) → place_of row column ≡ Ok p → (b : Bool) → is_covered sheet.merges p ≡ b → (o : Option MergedCell)
        → array_over sheet p ≡ o
        → cond b (Err CoveredCell) (cond (is_some o) (Err ArrayCell) (Ok p)) ≡ Ok place → IsFree sheet row column place
    tests p found false one None two e =
        let same : p ≡ place = cc in
        record { named = found ∙ ap Ok same; uncovered = ap (is_covered sheet.merges) (sym same) ∙ one; apart = ap (array_over sheet) (sym same) ∙ two }
    tests p found false one (Some array) two e = absurd (let never : ◌≡◌ {A = Result Position EditError} (Err ArrayCell) (Ok place) = e in cc)
    tests p found true one o two e = absurd (let never : ◌≡◌ {A = Result Position EditError} (Err CoveredCell) (Ok place) = e in cc)

    go : (r : Result Position EditError) → place_of row column ≡ r → and_then r (free_place sheet) ≡ Ok place
        → IsFree sheet row column place
    go (Ok p) found e = tests p found (is_covered sheet.merges p) refl (array_over sheet p) refl e
    go (Err error) found e = absurd (let never : ◌≡◌ {A = Result Position EditError} (Err error) (Ok place) = e in cc)

-- it is found again at its own row and column
pub input_named : (sheet : Sheet) (row column : ℤ) (place : Position) → input_place sheet row column ≡ Ok place
    → place_of place.row place.column ≡ Ok place
input_named sheet row column place goes = place_again row column place (is_free sheet row column place goes).named

-- ---- what an input may be may stand where it goes

new_font : (content : Content) (style : Style) → IsTrue (has_font style) → IsTrue (entry_has_font (new_cell content style))
new_font Empty style font = refl
new_font (Number number) style font = font
new_font (Boolean value) style font = font
new_font (Error error) style font = font
new_font (Text text) style font = font
new_font (Formula tree) style font = font
new_font (Dynamic tree) style font = font
new_font (Array tree width height) style font = font

-- the new entry has the font that its place shows
pub entered_font : (old : Option Cell) (content : Content) (style : Style) → IsTrue (has_font style)
    → IsTrue (entry_has_font (entered old content style))
entered_font None content style font = new_font content style font
entered_font (Some cell) content style font = font

fits_no_array : (place : Position) (content : Content) → fits_at place content ≡ true → array_at place content ≡ None
    → (fits_at place content && is_inside_if_any (array_at place content)) ≡ true
fits_no_array place content fits plain = λ i. fits i && is_inside_if_any (plain i)

new_stands : (place : Position) (content : Content) (style : Style) → fits_at place content ≡ true → array_at place content ≡ None
    → cell_stands_at place (new_cell content style) ≡ true
new_stands place Empty style fits plain = refl
new_stands place (Number number) style fits plain = fits_no_array place (Number number) fits plain
new_stands place (Boolean value) style fits plain = fits_no_array place (Boolean value) fits plain
new_stands place (Error error) style fits plain = fits_no_array place (Error error) fits plain
new_stands place (Text text) style fits plain = fits_no_array place (Text text) fits plain
new_stands place (Formula tree) style fits plain = fits_no_array place (Formula tree) fits plain
new_stands place (Dynamic tree) style fits plain = fits_no_array place (Dynamic tree) fits plain
new_stands place (Array tree width height) style fits plain = fits_no_array place (Array tree width height) fits plain

entered_stands : (place : Position) (old : Option Cell) (content : Content) (style : Style) → fits_at place content ≡ true
    → array_at place content ≡ None → cell_stands_at place (entered old content style) ≡ true
entered_stands place None content style fits plain = new_stands place content style fits plain
entered_stands place (Some cell) content style fits plain = fits_no_array place content fits plain

module _ (sheet : Sheet) (place : Position) (shown : is_hidden_place sheet place ≡ false) where
  cell_may : (content : Content) → array_at place content ≡ None
      → (is_none (array_at place content) && (is_empty content || not (is_hidden_place sheet place))) ≡ true
  cell_may content plain = (λ i. is_none (plain i) && (is_empty content || not (shown i))) ∙ either (is_empty content)
    where
      either : (b : Bool) → (b || true) ≡ true
      either true = refl
      either false = refl

  new_may : (content : Content) (style : Style) → array_at place content ≡ None → may_stand sheet place (new_cell content style) ≡ true
  new_may Empty style plain = refl
  new_may (Number number) style plain = cell_may (Number number) plain
  new_may (Boolean value) style plain = cell_may (Boolean value) plain
  new_may (Error error) style plain = cell_may (Error error) plain
  new_may (Text text) style plain = cell_may (Text text) plain
  new_may (Formula tree) style plain = cell_may (Formula tree) plain
  new_may (Dynamic tree) style plain = cell_may (Dynamic tree) plain
  new_may (Array tree width height) style plain = cell_may (Array tree width height) plain

  entered_may : (old : Option Cell) (content : Content) (style : Style) → array_at place content ≡ None
      → may_stand sheet place (entered old content style) ≡ true
  entered_may None content style plain = new_may content style plain
  entered_may (Some cell) content style plain = cell_may content plain

-- the change of a cell comes before that of a link
cell_first : (id : ℕ) (place : Position) (old new : Option Cell) (same : Bool)
    → come_before (LinkKey id place) (cond same [] (CellDiff id place old new ∷ [])) ≡ true
cell_first id place old new true = refl
cell_first id place old new false = refl

-- the change of a cell, and that of a link, come before that of a row
cell_first_row : (id : ℕ) (place : Position) (old new : Option Cell) (same : Bool)
    → come_before (AttrKey id Rows place.row) (cond same [] (CellDiff id place old new ∷ [])) ≡ true
cell_first_row id place old new true = refl
cell_first_row id place old new false = refl

link_first_row : (id : ℕ) (place : Position) (old new : Option Link) (same : Bool)
    → come_before (AttrKey id Rows place.row) (cond same [] (LinkDiff id place old new ∷ [])) ≡ true
link_first_row id place old new true = refl
link_first_row id place old new false = refl

module _ (w : Book) (index : ℕ) (row column : ℤ) (content : Content) (feeds : ℕ) (rules : IsWellFormed w) (may : IsInput row column content)
    (sheet : Sheet) (place : Position) (at : sheet_at w index ≡ Ok sheet) (goes : input_place sheet row column ≡ Ok place) where
  abbrev free : IsFree sheet row column place
  free = is_free sheet row column place goes

  abbrev old : Option Cell
  old = fin.get sheet.cells place

  abbrev new : Option Cell
  new = cell_entered sheet place content

  abbrev cell_key : EntryKey
  cell_key = CellKey sheet.id place

  abbrev link_key : EntryKey
  link_key = LinkKey sheet.id place

  inside : is_place place ≡ true
  inside = place_inside row column place free.named

  is_there : sheet_of w sheet.id ≡ Some sheet
  is_there = there w rules index sheet at

  here : ◌≡◌ {A = Position} (record { row = row; column = column }) place
  here = place_is row column place free.named

  plain : array_at place content ≡ None
  plain = ap (λ p. array_at p content) (sym here) ∙ may.plain

  fits : value_fits cell_key (CellValue new) ≡ true
  fits = λ i. inside i && entered_stands place old content (shown_style sheet place) (subst (λ p. IsTrue (fits_at p content)) here may.fits) plain i

  font : entry_has_font new ≡ true
  font = entered_font old content (shown_style sheet place) (shown_font sheet (keeps w rules index sheet at).attributes place)

  stands : may_stand_on (sheet_of w sheet.id) place new ≡ true
  stands =
      ap (λ o. may_stand_on o place new) is_there
      ∙ entered_may sheet place (shown_where_free place sheet (keeps w rules index sheet at).merges free.uncovered free.apart) old content
      (shown_style sheet place) plain

  -- ---- the cell

  abbrev put_cell : Book
  put_cell = put_entry w cell_key (CellValue new)

  abbrev celled : Sheet
  celled = with_cell sheet place new

  put_cell_is : put_cell ≡ with_sheet w index celled
  put_cell_is = put_changed w cell_key (CellValue new) refl ∙ changed_at w rules index sheet at (with_sheet_entry cell_key (CellValue new))

  cell_rules : IsWellFormed put_cell
  cell_rules = well_formed-cell w sheet.id place new rules fits font stands

  cell_exact : IsRecord w put_cell (cell_record content sheet place)
  cell_exact = put_record w cell_key (CellValue new) sheet is_there fits

  -- ---- and the link

  abbrev put_both : Book
  put_both = put_entry put_cell link_key (LinkValue None)

  abbrev unlinked : Sheet
  unlinked = record celled { links = with_entry sheet.links place None }

  put_both_is : put_both ≡ with_sheet w index unlinked
  put_both_is =
      put_twice w cell_key link_key (CellValue new) (LinkValue None) refl refl refl
      ∙ changed_at w rules index sheet at (λ s. with_sheet_entry link_key (LinkValue None) (with_sheet_entry cell_key (CellValue new) s))

  both_rules : IsWellFormed put_both
  both_rules = well_formed-link put_cell sheet.id place None cell_rules inside

  both_exact : IsRecord w put_both (cell_record content sheet place ++ link_change sheet place None)
  both_exact =
      put_after w put_cell (cell_record content sheet place) cell_exact link_key (LinkValue None) celled
      (sheet_of-put w cell_key (CellValue new) refl sheet is_there) inside
      (cell_first sheet.id place old new (same_entry_value (CellValue old) (CellValue new)))

  -- ---- and the height of the row

  abbrev row_key : EntryKey
  row_key = AttrKey sheet.id Rows place.row

  abbrev raised : Option LineAttr
  raised = row_raised sheet place feeds

  inside_row : is_line (pos 1048576) place.row ≡ true
  inside_row = (both (is_line (pos 1048576) place.row) (is_line (pos 16384) place.column) inside).0

  raised_fits : own_entry Rows raised ≡ true
  raised_fits =
      raised_own (needed_height feeds (shown_style sheet place).font.sz) (fin.get sheet.rows place.row) (needed_size feeds (shown_style sheet place).font.sz)
      (line_own Rows sheet (keeps w rules index sheet at) place.row)

  row_fits : value_fits row_key (AttrValue raised) ≡ true
  row_fits = λ i. inside_row i && own_kept Rows raised raised_fits i

  row_rules : (book : Book) → IsWellFormed book → IsWellFormed (put_entry book row_key (AttrValue raised))
  row_rules book well = well_formed-put book well row_key (AttrValue raised) refl (λ s found h. attr-put s sheet.id Rows place.row raised inside_row raised_fits h)

  cell_before_row : come_before row_key (cell_record content sheet place) ≡ true
  cell_before_row = cell_first_row sheet.id place old new (same_entry_value (CellValue old) (CellValue new))

  celled_exact : IsRecord w (put_entry put_cell row_key (AttrValue raised)) (cell_record content sheet place ++ height_record feeds sheet place)
  celled_exact =
      put_after w put_cell (cell_record content sheet place) cell_exact row_key (AttrValue raised) celled
      (sheet_of-put w cell_key (CellValue new) refl sheet is_there) row_fits cell_before_row

  unlinked_exact : IsRecord w (put_entry put_both row_key (AttrValue raised)) ((cell_record content sheet place ++ link_change sheet place None) ++ height_record feeds sheet place)
  unlinked_exact =
      put_after w put_both (cell_record content sheet place ++ link_change sheet place None) both_exact row_key (AttrValue raised) unlinked
      (sheet_of-put put_cell link_key (LinkValue None) refl celled (sheet_of-put w cell_key (CellValue new) refl sheet is_there)) row_fits
      (come_before-append row_key (cell_record content sheet place) (link_change sheet place None) cell_before_row
      (link_first_row sheet.id place (fin.get sheet.links place) None (same_entry_value (LinkValue (fin.get sheet.links place)) (LinkValue None))))

  celled_is : put_entry put_cell row_key (AttrValue raised) ≡ with_sheet w index (with_row celled place.row raised)
  celled_is =
      put_twice w cell_key row_key (CellValue new) (AttrValue raised) refl refl refl
      ∙ changed_at w rules index sheet at (λ s. with_sheet_entry row_key (AttrValue raised) (with_sheet_entry cell_key (CellValue new) s))

  unlinked_is : put_entry put_both row_key (AttrValue raised) ≡ with_sheet w index (with_row unlinked place.row raised)
  unlinked_is =
      let unlink : Sheet → Sheet = λ s. with_sheet_entry link_key (LinkValue None) (with_sheet_entry cell_key (CellValue new) s) in
      let ids : (s : Sheet) → (unlink s).id ≡ s.id =
      λ s. id-with_sheet_entry link_key (LinkValue None) (with_sheet_entry cell_key (CellValue new) s) ∙ id-with_sheet_entry cell_key (CellValue new) s in
      put_changed put_both row_key (AttrValue raised) refl
      ∙ ap (λ (b : Book). record b { worksheets = with_changed sheet.id (with_sheet_entry row_key (AttrValue raised)) b.worksheets }) (put_twice w cell_key link_key (CellValue new) (LinkValue None) refl refl refl)
      ∙ (λ i. record w { worksheets = changed_twice sheet.id unlink (with_sheet_entry row_key (AttrValue raised)) ids w.worksheets i })
      ∙ changed_at w rules index sheet at (λ s. with_sheet_entry row_key (AttrValue raised) (unlink s))

  -- ---- the workbook after the input

  abbrev after : Book
  after = with_sheet w index (with_input sheet content feeds place)

  rules_by : (empty : Bool) → IsWellFormed (with_sheet w index (with_row (cond empty unlinked celled) place.row raised))
  rules_by true = subst IsWellFormed unlinked_is (row_rules put_both both_rules)
  rules_by false = subst IsWellFormed celled_is (row_rules put_cell cell_rules)

  exact_by : (empty : Bool)
      → IsRecord w (with_sheet w index (with_row (cond empty unlinked celled) place.row raised))
      ((cell_record content sheet place ++ cond empty (link_change sheet place None) []) ++ height_record feeds sheet place)
  exact_by true =
      subst (λ later. IsRecord w later ((cell_record content sheet place ++ link_change sheet place None) ++ height_record feeds sheet place)) unlinked_is unlinked_exact
  exact_by false =
      subst (λ xs. IsRecord w (with_sheet w index (with_row celled place.row raised)) (xs ++ height_record feeds sheet place)) (sym (append-nil (cell_record content sheet place)))
      (subst (λ later. IsRecord w later (cell_record content sheet place ++ height_record feeds sheet place)) celled_is celled_exact)

  pub input_well_formed : IsWellFormed after
  input_well_formed = rules_by (is_empty content)

  pub input_exact : IsRecord w after (input_record content feeds sheet place)
  input_exact = exact_by (is_empty content)

  pub input_plan : (list : List Diff) → list ≡ input_record content feeds sheet place → IsCanonicalList list → IsPlan w list after
  input_plan list is kept = record {
    exact = subst (IsRecord w after) (sym is) input_exact;
    rules = input_well_formed;
    canonical = kept;
  }

  pub input_expected : input_put index row column content feeds w ≡ Ok after
  unfolding input_put
  input_expected =
      sheet_takes w index (λ s. map_ok (with_input s content feeds) (input_place s row column)) sheet (with_input sheet content feeds place) at
      (ap (map_ok (with_input sheet content feeds)) goes)

-- ---- what the plan returns

-- no place is refused since memory is short
input_sure : (sheet : Sheet) (row column : ℤ) (error : EditError) → input_place sheet row column ≡ Err error → error ≢ NoMemory
input_sure sheet row column error is short = go (place_of row column) refl is
  where
    tests : (p : Position) (covered large : Bool) → cond covered (Err CoveredCell) (cond large (Err ArrayCell) (Ok p)) ≡ Err error → ⊥
    tests p false false e = absurd (let never : ◌≡◌ {A = Result Position EditError} (Ok p) (Err error) = e in cc)
    tests p false true e = absurd (let never : ◌≡◌ {A = Result Position EditError} (Err ArrayCell) (Err NoMemory) = e ∙ ap Err short in cc)
    tests p true large e = absurd (let never : ◌≡◌ {A = Result Position EditError} (Err CoveredCell) (Err NoMemory) = e ∙ ap Err short in cc)

    go : (r : Result Position EditError) → place_of row column ≡ r → and_then r (free_place sheet) ≡ Err error → ⊥
    go (Ok p) found e = tests p (is_covered sheet.merges p) (is_some (array_over sheet p)) e
    go (Err other) found e = let same : other ≡ error = cc in place_sure row column other found (same ∙ short)

-- where no such sheet is there
pub input_no_sheet : (w : Book) (index : ℕ) (row column : ℤ) (content : Content) (feeds : ℕ) (error : EditError) → sheet_at w index ≡ Err error
    → Plans (Err error) w (input_put index row column content feeds w)
unfolding input_put
input_no_sheet w index row column content feeds error missing =
    plan_refused w (input_put index row column content feeds w) error (no_sheet w index (λ s. map_ok (with_input s content feeds) (input_place s row column)) error missing)
    (sheet_sure w index error missing)

-- where no input may go to the place
pub input_refused : (w : Book) (index : ℕ) (row column : ℤ) (content : Content) (feeds : ℕ) (sheet : Sheet) (error : EditError)
    → sheet_at w index ≡ Ok sheet → input_place sheet row column ≡ Err error
    → Plans (Err error) w (input_put index row column content feeds w)
unfolding input_put
input_refused w index row column content feeds sheet error at refused =
    plan_refused w (input_put index row column content feeds w) error
    (sheet_refuses w index (λ s. map_ok (with_input s content feeds) (input_place s row column)) sheet error at (ap (map_ok (with_input sheet content feeds)) refused))
    (input_sure sheet row column error refused)

-- and else
pub input_planned : (w : Book) (index : ℕ) (row column : ℤ) (content : Content) (feeds : ℕ) → IsWellFormed w → IsInput row column content
    → (sheet : Sheet) (place : Position) → sheet_at w index ≡ Ok sheet
    → input_place sheet row column ≡ Ok place → (result : Result (List Diff) EditError)
    → IfOk result (λ list. list ≡ input_record content feeds sheet place) → IfOk result IsCanonicalList
    → IsOkUnless result NoMemory → Plans result w (input_put index row column content feeds w)
input_planned w index row column content feeds rules may sheet place at goes result output kept only =
    plan_made w (after w index row column content feeds rules may sheet place at goes) (input_put index row column content feeds w) result
    (input_expected w index row column content feeds rules may sheet place at goes) only (plan result output kept)
  where
    plan : (r : Result (List Diff) EditError) → IfOk r (λ list. list ≡ input_record content feeds sheet place) → IfOk r IsCanonicalList
        → IfOk r (λ list. IsPlan w list (after w index row column content feeds rules may sheet place at goes))
    plan (Ok list) is all = input_plan w index row column content feeds rules may sheet place at goes list is all
    plan (Err error) is all = tt
