-- Lines that are changed leave a well-formed workbook, and their changes are the record.
use Rattle.std.proofs.Common.{◌≡◌, ℕ, zero, suc, ◌<◌, ◌≤◌, ℤ, pos, ◌+ℤ◌, ◌-ℤ◌, ◌≤ℤ◌, Bool, true, false, cond, ◌&&◌, List, [], ◌∷◌, ◌++◌, Option, Some, Result, Ok, Err, refl, ap, sym, subst, ◌∙◌, arith}
use Rattle.std.specs.Ordering.{int_cmp, is_lt, ordering_then}
use Rattle.std.specs.declared.cmp.Ordering.{Ordering}
use Rattle.std.specs.declared.cmp.Ordering.TheVariants.{Less, Equal, Greater}
use Rattle.std.specs.Cmp.{nat_cmp_total, tied_itself}
use Rattle.std.specs.FinMap.{FinMap, get}
use Rattle.std.proofs.lemmas.Int.{ints}
use Rattle.base_values.specs.KeyMap.{with_entry}
use Rattle.base_values.specs.Places.{is_line}
use Rattle.sheet_grid.specs.declared.LineAttr.{LineAttr}
use Rattle.sheet_grid.specs.Sheet.{Sheet}
use Rattle.sheet_grid.specs.Book.{Book, sheet_at, with_sheet}
use Rattle.sheet_rules.specs.WellFormed.{IsWellFormed}
use Rattle.sheet_ids.specs.Ids.{sheet_of}
use Rattle.line_sizes.specs.declared.LineChange.{LineChange}
use Rattle.line_sizes.specs.LineChanges.{changed_entry, has_lines, line_count, lines_changed, lines_from}
use Rattle.line_sizes.specs.laws.ChangedLines.{untouched}
use Rattle.sheet_rules.specs.laws.EntryLaws.{both}
use Rattle.base_values.specs.declared.EditError.{EditError}
use Rattle.base_values.specs.declared.EditError.TheVariants.{InvalidArea}
use Rattle.std.specs.Prelude.{int_le, unsigned_abs}
use Rattle.sheet_history.specs.declared.Diff.{Diff}
use Rattle.sheet_history.specs.declared.Diff.TheVariants.{Attributes as AttrDiff}
use Rattle.sheet_history.specs.declared.LineAxis.{LineAxis}
use Rattle.sheet_history.specs.declared.LineAxis.TheVariants.{Rows, Columns}
use Rattle.sheet_history.specs.LineDiffs.{along_of}
use Rattle.sheet_history.specs.Entries.{EntryKey, EntryValue, key_cmp, line_tag, sheet_entry, with_sheet_entry, with_changed, bare_sheet, put_entry, value_fits}
use Rattle.sheet_history.specs.Entries.EntryKey.{AttrKey}
use Rattle.sheet_history.specs.Entries.EntryValue.{AttrValue}
use Rattle.sheet_history.specs.Records.{same_entry_value, entry_record, IsRecord}
use Rattle.sheet_history.specs.laws.EntryLaws.{bare-with_sheet_entry}
use Rattle.sheet_history.specs.laws.RuleLaws.{KeepsSheetRules, well_formed-changed}
use Rattle.edit_plans.specs.LineRecords.{attr_record, change_fits, line_diffs, lines_of, lines_set, with_lines}
use Rattle.edit_plans.specs.laws.Appended.{come_before, come_before-append, nothing_changed, put_after}
use Rattle.edit_plans.specs.laws.AtIndex.{there, keeps, changed_at, changed_same, changed_twice, put_changed, sheet_of-put}
use Rattle.edit_plans.specs.laws.AttrRules.{attr-put, changed_own, line_own, own_entry, own_kept}

-- ---- lines that are changed one after another

-- the entry of a line of a sheet
entry_is : (id : ℕ) (axis : LineAxis) (line : ℤ) (s : Sheet) → sheet_entry (AttrKey id axis line) s ≡ AttrValue (get (lines_of axis s) line)
entry_is id Rows line s = refl
entry_is id Columns line s = refl

lines_are : (axis : LineAxis) (lines : FinMap int_cmp LineAttr) (s : Sheet) → lines_of axis (with_lines axis lines s) ≡ lines
lines_are Rows lines s = refl
lines_are Columns lines s = refl

own_lines : (axis : LineAxis) (s : Sheet) → with_lines axis (lines_of axis s) s ≡ s
own_lines Rows s = refl
own_lines Columns s = refl

-- an entry that is put in a line
put_line : (id : ℕ) (axis : LineAxis) (line : ℤ) (entry : Option LineAttr) (lines : FinMap int_cmp LineAttr) (s : Sheet)
    → with_sheet_entry (AttrKey id axis line) (AttrValue entry) (with_lines axis lines s) ≡ with_lines axis (with_entry lines line entry) s
put_line id Rows line entry lines s = refl
put_line id Columns line entry lines s = refl

-- ---- lines from a first to a last

last_line : (first last : ℤ) (k : ℕ) → pos 1 ≤ℤ first → first ≤ℤ last → k < unsigned_abs ((last -ℤ first) +ℤ pos 1) → (first +ℤ pos k) ≤ℤ last
last_line first last k low order more = omega (arith, ints)

between_lines : (end first last : ℤ) (k : ℕ) → has_lines end first last ≡ true → k < line_count first last → is_line end (first +ℤ pos k) ≡ true
between_lines end first last k all more =
    let outer = both (int_le (pos 1) first && int_le first last) (int_le last end) all in
    let inner = both (int_le (pos 1) first) (int_le first last) outer.0 in
    let low : pos 1 ≤ℤ first = grind (arith, ints, inner.0) in
    let order : first ≤ℤ last = grind (arith, ints, inner.1) in
    let high : last ≤ℤ end = grind (arith, ints, outer.1) in
    let near = last_line first last k low order more in
    grind (arith, ints, low, high, near)

-- each of so many lines is one of the axis
pub lines_inside : (end first last : ℤ) (count : ℕ) → lines_from end first last ≡ Ok count → (k : ℕ) → k < count → is_line end (first +ℤ pos k) ≡ true
unfolding lines_from
lines_inside end first last count from k more = go (has_lines end first last) refl from
  where
    go : (b : Bool) → has_lines end first last ≡ b → ◌≡◌ {A = Result ℕ EditError} (cond b (Ok (line_count first last)) (Err InvalidArea)) (Ok count)
        → is_line end (first +ℤ pos k) ≡ true
    go true all it = let same : line_count first last ≡ count = cc in between_lines end first last k all (subst (λ n. k < n) (sym same) more)
    go false all it = absurd (let never : ◌≡◌ {A = Result ℕ EditError} (Err InvalidArea) (Ok count) = it in cc)

-- ---- the order of the diffs

lower_line : (first : ℤ) (k n : ℕ) → k < n → is_lt (int_cmp (first +ℤ pos k) (first +ℤ pos n)) ≡ true
lower_line first k n low = grind (arith, ints, low)

first_less : (o p : Ordering) → is_lt o ≡ true → is_lt (ordering_then o p) ≡ true
first_less Less p is = refl
first_less Equal p is = absurd (let never : false ≡ true = is in cc)
first_less Greater p is = absurd (let never : false ≡ true = is in cc)

-- the keys of lines of a sheet are in the order of the lines
key_order : (id : ℕ) (axis : LineAxis) (line later : ℤ)
    → key_cmp (AttrKey id axis line) (AttrKey id axis later) ≡ ordering_then (int_cmp line later) (int_cmp (pos 0) (pos 0))
key_order id axis line later = λ i. ordering_then (tied_itself nat_cmp_total (line_tag axis) i)
    (ordering_then (tied_itself nat_cmp_total id i) (ordering_then (int_cmp line later) (int_cmp (pos 0) (pos 0))))

-- the diff of a line comes before those of the lines behind it
line_before : (id : ℕ) (axis : LineAxis) (line later : ℤ) (old new : Option LineAttr) → is_lt (int_cmp line later) ≡ true → (same : Bool)
    → come_before (AttrKey id axis later) (cond same [] (AttrDiff id axis line old new ∷ [])) ≡ true
line_before id axis line later old new low true = refl
line_before id axis line later old new low false =
    λ i. (ap is_lt (key_order id axis line later) ∙ first_less (int_cmp line later) (int_cmp (pos 0) (pos 0)) low) i && true

all_before : (id : ℕ) (axis : LineAxis) (change : LineChange) (lines : FinMap int_cmp LineAttr) (first : ℤ) (n m : ℕ) → n ≤ m
    → come_before (AttrKey id axis (first +ℤ pos m)) (line_diffs id axis change lines first n) ≡ true
all_before id axis change lines first zero m low = refl
all_before id axis change lines first (suc k) m low =
    let old : Option LineAttr = get lines (first +ℤ pos k) in
    let new : Option LineAttr = changed_entry change (get lines (first +ℤ pos k)) in
    come_before-append (AttrKey id axis (first +ℤ pos m)) (line_diffs id axis change lines first k) (attr_record id axis (first +ℤ pos k) old new)
    (all_before id axis change lines first k m (omega arith))
    (line_before id axis (first +ℤ pos k) (first +ℤ pos m) old new (lower_line first k m (omega arith)) (same_entry_value (AttrValue old) (AttrValue new)))

-- ---- the workbook after each line

abbrev key_at : ℕ → LineAxis → ℤ → ℕ → EntryKey
key_at id axis first k = AttrKey id axis (first +ℤ pos k)

abbrev value_at : LineChange → FinMap int_cmp LineAttr → ℤ → ℕ → EntryValue
value_at change lines first k = AttrValue (changed_entry change (get lines (first +ℤ pos k)))

-- a sheet, and a workbook, in which what some lines get is put one after another
abbrev put_lines : ℕ → LineAxis → LineChange → FinMap int_cmp LineAttr → ℤ → ℕ → Sheet → Sheet
put_lines id axis change lines first zero s = s
put_lines id axis change lines first (suc k) s =
    with_sheet_entry (key_at id axis first k) (value_at change lines first k) (put_lines id axis change lines first k s)

abbrev put_books : ℕ → LineAxis → LineChange → FinMap int_cmp LineAttr → ℤ → ℕ → Book → Book
put_books id axis change lines first zero w = w
put_books id axis change lines first (suc k) w = put_entry (put_books id axis change lines first k w) (key_at id axis first k) (value_at change lines first k)

bare_put : (id : ℕ) (axis : LineAxis) (change : LineChange) (lines : FinMap int_cmp LineAttr) (first : ℤ) (k : ℕ) (s : Sheet)
    → bare_sheet (put_lines id axis change lines first k s) ≡ bare_sheet s
bare_put id axis change lines first zero s = refl
bare_put id axis change lines first (suc k) s =
    bare-with_sheet_entry (key_at id axis first k) (value_at change lines first k) (put_lines id axis change lines first k s)
    ∙ bare_put id axis change lines first k s

module _ (w : Book) (rules : IsWellFormed w) (index : ℕ) (sheet : Sheet) (at : sheet_at w index ≡ Ok sheet) (axis : LineAxis) (change : LineChange)
    (fits : change_fits axis change ≡ true) (first : ℤ) (count : ℕ) (inside : (k : ℕ) → k < count → is_line (along_of axis).last (first +ℤ pos k) ≡ true) where
  abbrev lines : FinMap int_cmp LineAttr
  lines = lines_of axis sheet

  abbrev sheet_with : ℕ → Sheet → Sheet
  sheet_with k s = put_lines sheet.id axis change lines first k s

  abbrev book_with : ℕ → Book
  book_with k = put_books sheet.id axis change lines first k w

  abbrev after : Book
  after = with_sheet w index (lines_set axis change first count sheet)

  -- what a line gets it may have
  value_own : (k : ℕ) → own_entry axis (changed_entry change (get lines (first +ℤ pos k))) ≡ true
  value_own k = changed_own axis change (get lines (first +ℤ pos k)) fits (line_own axis sheet (keeps w rules index sheet at) (first +ℤ pos k))

  sheet_is : (k : ℕ) → sheet_with k sheet ≡ lines_set axis change first k sheet
  sheet_is zero = sym (own_lines axis sheet)
  sheet_is (suc k) =
      ap (with_sheet_entry (key_at sheet.id axis first k) (value_at change lines first k)) (sheet_is k)
      ∙ put_line sheet.id axis (first +ℤ pos k) (changed_entry change (get lines (first +ℤ pos k))) (lines_changed change lines first k) sheet

  there_with : (k : ℕ) → sheet_of (book_with k) sheet.id ≡ Some (sheet_with k sheet)
  there_with zero = there w rules index sheet at
  there_with (suc k) = sheet_of-put (book_with k) (key_at sheet.id axis first k) (value_at change lines first k) refl (sheet_with k sheet) (there_with k)

  book_is : (k : ℕ) → book_with k ≡ record w { worksheets = with_changed sheet.id (sheet_with k) w.worksheets }
  book_is zero = λ i. record w { worksheets = sym (changed_same sheet.id w.worksheets) i }
  book_is (suc k) =
      let put : Sheet → Sheet = with_sheet_entry (key_at sheet.id axis first k) (value_at change lines first k) in
      put_changed (book_with k) (key_at sheet.id axis first k) (value_at change lines first k) refl
      ∙ ap (λ (b : Book). record b { worksheets = with_changed sheet.id put b.worksheets }) (book_is k)
      ∙ (λ i. record w {
        worksheets =
            changed_twice sheet.id (sheet_with k) put (λ s. ap (λ (t : Sheet). t.id) (bare_put sheet.id axis change lines first k s)) w.worksheets i;
      })

  -- before it is changed a line has what it had
  entry_before : (k : ℕ) → sheet_entry (key_at sheet.id axis first k) (sheet_with k sheet) ≡ AttrValue (get lines (first +ℤ pos k))
  entry_before k =
      entry_is sheet.id axis (first +ℤ pos k) (sheet_with k sheet)
      ∙ ap (λ (s : Sheet). AttrValue (get (lines_of axis s) (first +ℤ pos k))) (sheet_is k)
      ∙ ap (λ (m : FinMap int_cmp LineAttr). AttrValue (get m (first +ℤ pos k))) (lines_are axis (lines_changed change lines first k) sheet)
      ∙ ap AttrValue (untouched change lines first k (first +ℤ pos k) (omega (arith, ints)))

  value_fits_at : (k : ℕ) → k < count → value_fits (key_at sheet.id axis first k) (value_at change lines first k) ≡ true
  value_fits_at k more = λ i. inside k more i && own_kept axis (changed_entry change (get lines (first +ℤ pos k))) (value_own k) i

  record_with : (k : ℕ) → k ≤ count → IsRecord w (book_with k) (line_diffs sheet.id axis change lines first k)
  record_with zero low = nothing_changed w
  record_with (suc k) low =
      let xs : List Diff = line_diffs sheet.id axis change lines first k in
      subst (λ old. IsRecord w (book_with (suc k)) (xs ++ entry_record (key_at sheet.id axis first k) old (value_at change lines first k))) (entry_before k)
      (put_after w (book_with k) xs (record_with k (omega arith)) (key_at sheet.id axis first k) (value_at change lines first k) (sheet_with k sheet)
      (there_with k)
      (value_fits_at k (omega arith)) (all_before sheet.id axis change lines first k k (omega arith)))

  keeps_with : (k : ℕ) → k ≤ count → (s : Sheet) → KeepsSheetRules s → KeepsSheetRules (sheet_with k s)
  keeps_with zero low s h = h
  keeps_with (suc k) low s h =
      attr-put (sheet_with k s) sheet.id axis (first +ℤ pos k) (changed_entry change (get lines (first +ℤ pos k))) (inside k (omega arith)) (value_own k)
      (keeps_with k (omega arith) s h)

  later_is : ◌≡◌ {A = Book} (record w { worksheets = with_changed sheet.id (sheet_with count) w.worksheets }) after
  later_is = changed_at w rules index sheet at (sheet_with count) ∙ ap (with_sheet w index) (sheet_is count)

  -- the changes of the lines are the record
  pub attrs_exact : IsRecord w after (line_diffs sheet.id axis change lines first count)
  attrs_exact = subst (λ later. IsRecord w later (line_diffs sheet.id axis change lines first count)) (book_is count ∙ later_is)
      (record_with count (omega arith))

  -- and the later workbook keeps the rules
  pub attrs_well_formed : IsWellFormed after
  attrs_well_formed =
      subst IsWellFormed later_is
      (well_formed-changed w rules sheet.id (sheet_with count) (bare_put sheet.id axis change lines first count)
      (λ s found h. keeps_with count (omega arith) s h))
