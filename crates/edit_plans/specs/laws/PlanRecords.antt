-- The record of a plan that is carried out is exact.
use Rattle.std.proofs.Common.{◌≡◌, ◌≢◌, ℕ, ℤ, pos, Bool, true, false, cond, ◌&&◌, List, [], ◌∷◌, ◌++◌, Option, Some, None, Ok, option_map, refl, ap, sym, subst, ◌∙◌, T, append_assoc}
use Rattle.std.specs.List.{AllByRecursion, flat_map, fold}
use Rattle.std.specs.Ordering.{int_cmp, is_lt, ordering_then}
use Rattle.std.specs.declared.cmp.Ordering.{Ordering}
use Rattle.std.specs.declared.cmp.Ordering.TheVariants.{Less, Equal, Greater}
use Rattle.std.proofs.lemmas.List.{append-nil}
use Rattle.std.specs.Cmp.{int_cmp_total, nat_cmp_total, tied_itself}
use Rattle.std.specs.FinMap.{FinMap, entries, entries_sorted, get}
use Rattle.std.specs.FinMap.Entries.{below_all, is_sorted}
use Rattle.base_values.specs.declared.Position.{Position}
use Rattle.base_values.specs.KeyMap.{with_entry}
use Rattle.base_values.specs.Places.{position_cmp}
use Rattle.base_values.specs.laws.Places.{position_total}
use Rattle.sheet_grid.specs.declared.Cell.{Cell}
use Rattle.sheet_grid.specs.declared.LineAttr.{LineAttr}
use Rattle.sheet_grid.specs.declared.Link.{Link}
use Rattle.sheet_grid.specs.Sheet.{Sheet}
use Rattle.sheet_grid.specs.Book.{Book, sheet_at, with_sheet}
use Rattle.sheet_rules.specs.WellFormed.{IsWellFormed}
use Rattle.sheet_rules.specs.laws.EntryLaws.{both}
use Rattle.sheet_ids.specs.Ids.{sheet_of}
use Rattle.range_styles.specs.declared.SheetPlan.{SheetPlan}
use Rattle.sheet_history.specs.declared.Diff.{Diff}
use Rattle.sheet_history.specs.declared.Diff.TheVariants.{Cell as CellDiff, Link as LinkDiff, Attributes as AttrDiff}
use Rattle.sheet_history.specs.declared.LineAxis.{LineAxis}
use Rattle.sheet_history.specs.declared.LineAxis.TheVariants.{Rows, Columns}
use Rattle.sheet_history.specs.Entries.{EntryKey, EntryValue, bare_sheet, entry_at, entry_found, key_cmp, line_tag, put_entry, setting_of, sheet_entry, sheet_id_of, value_fits, with_changed, with_sheet_entry}
use Rattle.sheet_history.specs.Entries.EntryKey.{AttrKey, CellKey, LinkKey}
use Rattle.sheet_history.specs.Entries.EntryValue.{AttrValue, CellValue, LinkValue}
use Rattle.sheet_history.specs.Records.{IsRecord, entry_record, same_entry_value}
use Rattle.sheet_history.specs.laws.EntryLaws.{bare-with_sheet_entry, entry_at-put_entry_other, id-with_sheet_entry}
use Rattle.edit_plans.specs.SheetPlans.{attr_diffs, cell_diffs, link_diffs, plan_diffs, with_plan}
use Rattle.edit_plans.specs.laws.Appended.{come_before, come_before-append, nothing_changed, put_after}
use Rattle.edit_plans.specs.laws.AtIndex.{changed_at, changed_same, changed_twice, put_changed, sheet_of-put, there}

less_apart : (o : Ordering) → is_lt o ≡ true → (o ≡ Equal → ⊥)
less_apart Less h e = absurd (cc)
less_apart Equal h e = absurd (let never : false ≡ true = h in cc)
less_apart Greater h e = absurd (let never : false ≡ true = h in cc)

-- ---- entries of one kind, put one after another

-- a kind of entries of a sheet: its keys are in the order of those of a map, and its diffs have them
pub record IsKind (K V : Type 0) (R : K → K → Ordering) (id : ℕ) (tag : K → EntryKey) (value : Option V → EntryValue) : Type 0 where
  order : (a b : K) → key_cmp (tag a) (tag b) ≡ R a b
  own : (a : K) → sheet_id_of (tag a) ≡ id
  of_sheet : (a : K) → setting_of (tag a) ≡ None
  apart : (a : K) → key_cmp (tag a) (tag a) ≡ Equal
  before : (a : K) (s : Sheet) (v : Option V) (later : EntryKey) → is_lt (key_cmp (tag a) later) ≡ true
      → come_before later (entry_record (tag a) (sheet_entry (tag a) s) (value v)) ≡ true

module _ {K V : Type 0} (R : K → K → Ordering) (id : ℕ) (tag : K → EntryKey) (value : Option V → EntryValue) (kind : IsKind K V R id tag value) where
  abbrev Entry : Type 0
  Entry = K × Option V

  -- a workbook, and a sheet, in which entries are put
  abbrev pub books : Book → List Entry → Book
  books b es = fold (λ (output : Book) (e : Entry). put_entry output (tag e.0) (value e.1)) b es

  abbrev pub sheets : Sheet → List Entry → Sheet
  sheets s es = fold (λ (output : Sheet) (e : Entry). with_sheet_entry (tag e.0) (value e.1) output) s es

  -- their changes
  abbrev pub diffs : Sheet → List Entry → List Diff
  diffs s es = flat_map (λ (e : Entry). entry_record (tag e.0) (sheet_entry (tag e.0) s) (value e.1)) es

  pub bare-sheets : (es : List Entry) (s : Sheet) → bare_sheet (sheets s es) ≡ bare_sheet s
  bare-sheets [] s = refl
  bare-sheets (e ∷ es) s = bare-sheets es (with_sheet_entry (tag e.0) (value e.1) s) ∙ bare-with_sheet_entry (tag e.0) (value e.1) s

  -- a later key is another one
  later_apart : (a : K) (later : EntryKey) → is_lt (key_cmp (tag a) later) ≡ true → (later ≢ tag a)
  later_apart a later low same = less_apart (key_cmp (tag a) later) low (ap (key_cmp (tag a)) same ∙ kind.apart a)

  -- an entry behind those that are put stays
  pub entry_stays : (es : List Entry) (b : Book) (later : EntryKey) → AllByRecursion (λ e. is_lt (key_cmp (tag e.0) later) ≡ true) es
      → entry_at (books b es) later ≡ entry_at b later
  entry_stays [] b later low = refl
  entry_stays (e ∷ es) b later low =
      entry_stays es (put_entry b (tag e.0) (value e.1)) later low.1 ∙ entry_at-put_entry_other b (tag e.0) (value e.1) later (later_apart e.0 later low.0)

  -- and their changes come before it
  pub diffs_before : (es : List Entry) (s : Sheet) (later : EntryKey) → AllByRecursion (λ e. is_lt (key_cmp (tag e.0) later) ≡ true) es
      → come_before later (diffs s es) ≡ true
  diffs_before [] s later low = refl
  diffs_before (e ∷ es) s later low =
      come_before-append later (entry_record (tag e.0) (sheet_entry (tag e.0) s) (value e.1)) (diffs s es)
      (kind.before e.0 s e.1 later low.0) (diffs_before es s later low.1)

  -- the sheet in which they are put
  pub found_books : (es : List Entry) (b : Book) (s : Sheet) → sheet_of b id ≡ Some s → sheet_of (books b es) id ≡ Some (sheets s es)
  found_books [] b s found = found
  found_books (e ∷ es) b s found =
      found_books es (put_entry b (tag e.0) (value e.1)) (with_sheet_entry (tag e.0) (value e.1) s)
      (subst (λ n. sheet_of (put_entry b (tag e.0) (value e.1)) n ≡ Some (with_sheet_entry (tag e.0) (value e.1) s)) (kind.own e.0)
      (sheet_of-put b (tag e.0) (value e.1) (kind.of_sheet e.0) s (ap (sheet_of b) (kind.own e.0) ∙ found)))

  module _ (w : Book) where
    -- a workbook whose sheet of the id is changed
    abbrev pub with_change : (Sheet → Sheet) → Book
    with_change f = record w { worksheets = with_changed id f w.worksheets }

    one_change : (f : Sheet → Sheet) → ((s : Sheet) → (f s).id ≡ s.id) → (e : Entry)
        → put_entry (with_change f) (tag e.0) (value e.1) ≡ with_change (λ s. with_sheet_entry (tag e.0) (value e.1) (f s))
    one_change f ids e =
        put_changed (with_change f) (tag e.0) (value e.1) (kind.of_sheet e.0)
        ∙ (λ i. record w { worksheets = with_changed (kind.own e.0 i) (with_sheet_entry (tag e.0) (value e.1)) (with_changed id f w.worksheets) })
        ∙ (λ i. record w { worksheets = changed_twice id f (with_sheet_entry (tag e.0) (value e.1)) ids w.worksheets i })

    -- entries that are put change it
    pub books_are : (es : List Entry) (f : Sheet → Sheet) → ((s : Sheet) → (f s).id ≡ s.id) → books (with_change f) es ≡ with_change (λ s. sheets (f s) es)
    books_are [] f ids = refl
    books_are (e ∷ es) f ids =
        ap (λ b. books b es) (one_change f ids e)
        ∙ books_are es (λ s. with_sheet_entry (tag e.0) (value e.1) (f s)) (λ s. id-with_sheet_entry (tag e.0) (value e.1) (f s) ∙ ids s)

  module _ (w : Book) (sheet : Sheet) where
    -- an entry that may be put behind a list of diffs: what stands there is what the sheet had
    pub record IsNext (b : Book) (xs : List Diff) (e : Entry) : Type 0 where
      pub behind : come_before (tag e.0) xs ≡ true
      pub fits : value_fits (tag e.0) (value e.1) ≡ true
      pub stands : entry_at b (tag e.0) ≡ Some (sheet_entry (tag e.0) sheet)

    next_on : (b : Book) (xs : List Diff) (e f : Entry) → is_lt (R e.0 f.0) ≡ true → IsNext b xs f
        → IsNext (put_entry b (tag e.0) (value e.1)) (xs ++ entry_record (tag e.0) (sheet_entry (tag e.0) sheet) (value e.1)) f
    next_on b xs e f low is =
        let later : is_lt (key_cmp (tag e.0) (tag f.0)) ≡ true = ap is_lt (kind.order e.0 f.0) ∙ low in
        record {
          behind = come_before-append (tag f.0) xs (entry_record (tag e.0) (sheet_entry (tag e.0) sheet) (value e.1)) is.behind
              (kind.before e.0 sheet e.1 (tag f.0) later);
          fits = is.fits;
          stands = entry_at-put_entry_other b (tag e.0) (value e.1) (tag f.0) (later_apart e.0 (tag f.0) later) ∙ is.stands;
        }

    all_next : (b : Book) (xs : List Diff) (e : Entry) (es : List Entry) → below_all R e.0 es ≡ true → AllByRecursion (IsNext b xs) es
        → AllByRecursion (IsNext (put_entry b (tag e.0) (value e.1)) (xs ++ entry_record (tag e.0) (sheet_entry (tag e.0) sheet) (value e.1))) es
    all_next b xs e [] low all = tt
    all_next b xs e (f ∷ es) low all = let parts =
        both (is_lt (R e.0 f.0)) (below_all R e.0 es) low in (next_on b xs e f parts.0 all.0, all_next b xs e es parts.1 all.1)

    pub found_entry : (b : Book) (k : EntryKey) → setting_of k ≡ None → (s : Sheet) → sheet_of b (sheet_id_of k) ≡ Some s → entry_at b k ≡ Some (sheet_entry k s)
    unfolding entry_at
    found_entry b k none s found = (λ i. entry_found (none i) k b) ∙ ap (option_map (sheet_entry k)) found

    one_value : (v u : EntryValue) → ◌≡◌ {A = Option EntryValue} (Some v) (Some u) → v ≡ u
    one_value v u h = cc

    -- entries in order that are put behind others go on with the record
    pub goes_on : (es : List Entry) → is_sorted R es ≡ true → (b : Book) (xs : List Diff) (s : Sheet) → IsRecord w b xs → sheet_of b id ≡ Some s
        → AllByRecursion (IsNext b xs) es → IsRecord w (books b es) (xs ++ diffs sheet es)
    goes_on [] sorted b xs s record_so_far found all = subst (IsRecord w b) (sym (append-nil xs)) record_so_far
    goes_on (e ∷ es) sorted b xs s record_so_far found all =
        let parts = both (below_all R e.0 es) (is_sorted R es) sorted in
        let here : sheet_of b (sheet_id_of (tag e.0)) ≡ Some s = ap (sheet_of b) (kind.own e.0) ∙ found in
        let same : sheet_entry (tag e.0) s ≡ sheet_entry (tag e.0) sheet = one_value _ _ (sym (found_entry b (tag e.0) (kind.of_sheet e.0) s here) ∙ all.0.stands) in
        let more : IsRecord w (put_entry b (tag e.0) (value e.1)) (xs ++ entry_record (tag e.0) (sheet_entry (tag e.0) sheet) (value e.1)) =
        subst (λ old. IsRecord w (put_entry b (tag e.0) (value e.1)) (xs ++ entry_record (tag e.0) old (value e.1))) same
        (put_after w b xs record_so_far (tag e.0) (value e.1) s here all.0.fits all.0.behind) in
        let found_on : sheet_of (put_entry b (tag e.0) (value e.1)) id ≡ Some (with_sheet_entry (tag e.0) (value e.1) s) =
        subst (λ n. sheet_of (put_entry b (tag e.0) (value e.1)) n ≡ Some (with_sheet_entry (tag e.0) (value e.1) s)) (kind.own e.0)
        (sheet_of-put b (tag e.0) (value e.1) (kind.of_sheet e.0) s here) in
        subst (IsRecord w (books (put_entry b (tag e.0) (value e.1)) es))
        (append_assoc xs (entry_record (tag e.0) (sheet_entry (tag e.0) sheet) (value e.1)) (diffs sheet es))
        (goes_on es parts.1 (put_entry b (tag e.0) (value e.1)) (xs ++ entry_record (tag e.0) (sheet_entry (tag e.0) sheet) (value e.1))
        (with_sheet_entry (tag e.0) (value e.1) s) more found_on
        (all_next b xs e es parts.0 all.1))

-- ---- the four kinds

cell_order : (id : ℕ) (a b : Position) → key_cmp (CellKey id a) (CellKey id b) ≡ position_cmp a b
cell_order id a b = ap (λ o. ordering_then o (ordering_then (int_cmp a.row b.row) (int_cmp a.column b.column))) (tied_itself nat_cmp_total id)

link_order : (id : ℕ) (a b : Position) → key_cmp (LinkKey id a) (LinkKey id b) ≡ position_cmp a b
link_order id a b = ap (λ o. ordering_then o (ordering_then (int_cmp a.row b.row) (int_cmp a.column b.column))) (tied_itself nat_cmp_total id)

then_equal : (o : Ordering) → ordering_then o Equal ≡ o
then_equal Less = refl
then_equal Equal = refl
then_equal Greater = refl

attr_order : (id : ℕ) (axis : LineAxis) (a b : ℤ) → key_cmp (AttrKey id axis a) (AttrKey id axis b) ≡ int_cmp a b
attr_order id axis a b =
    (λ i. ordering_then (tied_itself nat_cmp_total (line_tag axis) i)
    (ordering_then (tied_itself nat_cmp_total id i) (ordering_then (int_cmp a b) (int_cmp (pos 0) (pos 0)))))
    ∙ then_equal (int_cmp a b)

-- one diff, or none, comes before a later key
one_before : (later : EntryKey) (diff : Diff) → come_before later (diff ∷ []) ≡ true → (same : Bool) → come_before later (cond same [] (diff ∷ [])) ≡ true
one_before later diff low true = refl
one_before later diff low false = low

module _ (id : ℕ) where
  pub cell_kind : IsKind Position Cell position_cmp id (CellKey id) CellValue
  cell_kind = record {
    order = cell_order id;
    own = λ a. refl;
    of_sheet = λ a. refl;
    apart = λ a. cell_order id a a ∙ tied_itself position_total a;
    before = λ a s v later low.
        one_before later (CellDiff id a (get s.cells a) v) (λ i. low i && true) (same_entry_value (CellValue (get s.cells a)) (CellValue v));
  }

  pub link_kind : IsKind Position Link position_cmp id (LinkKey id) LinkValue
  link_kind = record {
    order = link_order id;
    own = λ a. refl;
    of_sheet = λ a. refl;
    apart = λ a. link_order id a a ∙ tied_itself position_total a;
    before = λ a s v later low.
        one_before later (LinkDiff id a (get s.links a) v) (λ i. low i && true) (same_entry_value (LinkValue (get s.links a)) (LinkValue v));
  }

  pub column_kind : IsKind ℤ LineAttr int_cmp id (AttrKey id Columns) AttrValue
  column_kind = record {
    order = attr_order id Columns;
    own = λ a. refl;
    of_sheet = λ a. refl;
    apart = λ a. attr_order id Columns a a ∙ tied_itself int_cmp_total a;
    before = λ a s v later low.
        one_before later (AttrDiff id Columns a (get s.columns a) v) (λ i. low i && true) (same_entry_value (AttrValue (get s.columns a)) (AttrValue v));
  }

  pub row_kind : IsKind ℤ LineAttr int_cmp id (AttrKey id Rows) AttrValue
  row_kind = record {
    order = attr_order id Rows;
    own = λ a. refl;
    of_sheet = λ a. refl;
    apart = λ a. attr_order id Rows a a ∙ tied_itself int_cmp_total a;
    before = λ a s v later low.
        one_before later (AttrDiff id Rows a (get s.rows a) v) (λ i. low i && true) (same_entry_value (AttrValue (get s.rows a)) (AttrValue v));
  }

  -- ---- what each kind does to a sheet

  pub cells_put : (es : List (Position × Option Cell)) (s : Sheet)
      → sheets position_cmp id (CellKey id) CellValue cell_kind s es
      ≡ record s { cells = fold (λ (m : FinMap position_cmp Cell) (e : Position × Option Cell). with_entry m e.0 e.1) s.cells es }
  cells_put [] s = refl
  cells_put (e ∷ es) s = cells_put es (with_sheet_entry (CellKey id e.0) (CellValue e.1) s)

  pub links_put : (es : List (Position × Option Link)) (s : Sheet)
      → sheets position_cmp id (LinkKey id) LinkValue link_kind s es
      ≡ record s { links = fold (λ (m : FinMap position_cmp Link) (e : Position × Option Link). with_entry m e.0 e.1) s.links es }
  links_put [] s = refl
  links_put (e ∷ es) s = links_put es (with_sheet_entry (LinkKey id e.0) (LinkValue e.1) s)

  pub columns_put : (es : List (ℤ × Option LineAttr)) (s : Sheet)
      → sheets int_cmp id (AttrKey id Columns) AttrValue column_kind s es
      ≡ record s { columns = fold (λ (m : FinMap int_cmp LineAttr) (e : ℤ × Option LineAttr). with_entry m e.0 e.1) s.columns es }
  columns_put [] s = refl
  columns_put (e ∷ es) s = columns_put es (with_sheet_entry (AttrKey id Columns e.0) (AttrValue e.1) s)

  pub rows_put : (es : List (ℤ × Option LineAttr)) (s : Sheet)
      → sheets int_cmp id (AttrKey id Rows) AttrValue row_kind s es
      ≡ record s { rows = fold (λ (m : FinMap int_cmp LineAttr) (e : ℤ × Option LineAttr). with_entry m e.0 e.1) s.rows es }
  rows_put [] s = refl
  rows_put (e ∷ es) s = rows_put es (with_sheet_entry (AttrKey id Rows e.0) (AttrValue e.1) s)

-- ---- a plan

-- each planned entry may stand at its key
pub record PlanFits (plan : SheetPlan) (id : ℕ) : Type 0 where
  pub cells : AllByRecursion (λ (e : Position × Option Cell). value_fits (CellKey id e.0) (CellValue e.1) ≡ true) (entries plan.cells)
  pub links : AllByRecursion (λ (e : Position × Option Link). value_fits (LinkKey id e.0) (LinkValue e.1) ≡ true) (entries plan.links)
  pub columns : AllByRecursion (λ (e : ℤ × Option LineAttr). value_fits (AttrKey id Columns e.0) (AttrValue e.1) ≡ true) (entries plan.columns)
  pub rows : AllByRecursion (λ (e : ℤ × Option LineAttr). value_fits (AttrKey id Rows e.0) (AttrValue e.1) ≡ true) (entries plan.rows)

all_of : {E : Type 0} (P : E → Type 0) → ((e : E) → P e) → (es : List E) → AllByRecursion P es
all_of P each [] = tt
all_of P each (e ∷ es) = (each e, all_of P each es)

all_from : {E : Type 0} (P Q : E → Type 0) → ((e : E) → P e → Q e) → (es : List E) → AllByRecursion P es → AllByRecursion Q es
all_from P Q each [] h = tt
all_from P Q each (e ∷ es) h = (each e h.0, all_from P Q each es h.1)

rises : (b : Bool) → T b → b ≡ true
rises true h = refl
rises false h = absurd h

module _ (w : Book) (rules : IsWellFormed w) (index : ℕ) (sheet : Sheet) (at : sheet_at w index ≡ Ok sheet) (plan : SheetPlan) (fits : PlanFits plan sheet.id)
  where
    abbrev id : ℕ
    id = sheet.id

    abbrev cell_list : List (Position × Option Cell)
    cell_list = entries plan.cells

    abbrev link_list : List (Position × Option Link)
    link_list = entries plan.links

    abbrev column_list : List (ℤ × Option LineAttr)
    column_list = entries plan.columns

    abbrev row_list : List (ℤ × Option LineAttr)
    row_list = entries plan.rows

    -- the workbook after each kind
    abbrev book_1 : Book
    book_1 = books position_cmp id (CellKey id) CellValue (cell_kind id) w cell_list

    abbrev book_2 : Book
    book_2 = books position_cmp id (LinkKey id) LinkValue (link_kind id) book_1 link_list

    abbrev book_3 : Book
    book_3 = books int_cmp id (AttrKey id Columns) AttrValue (column_kind id) book_2 column_list

    abbrev book_4 : Book
    book_4 = books int_cmp id (AttrKey id Rows) AttrValue (row_kind id) book_3 row_list

    abbrev diffs_1 : List Diff
    diffs_1 = cell_diffs id plan.cells sheet.cells

    abbrev diffs_2 : List Diff
    diffs_2 = link_diffs id plan.links sheet.links

    abbrev diffs_3 : List Diff
    diffs_3 = attr_diffs id Columns plan.columns sheet.columns

    abbrev diffs_4 : List Diff
    diffs_4 = attr_diffs id Rows plan.rows sheet.rows

    found : sheet_of w id ≡ Some sheet
    found = there w rules index sheet at

    abbrev sheet_1 : Sheet
    sheet_1 = sheets position_cmp id (CellKey id) CellValue (cell_kind id) sheet cell_list

    abbrev sheet_2 : Sheet
    sheet_2 = sheets position_cmp id (LinkKey id) LinkValue (link_kind id) sheet_1 link_list

    abbrev sheet_3 : Sheet
    sheet_3 = sheets int_cmp id (AttrKey id Columns) AttrValue (column_kind id) sheet_2 column_list

    found_1 : sheet_of book_1 id ≡ Some sheet_1
    found_1 = found_books position_cmp id (CellKey id) CellValue (cell_kind id) cell_list w sheet found

    found_2 : sheet_of book_2 id ≡ Some sheet_2
    found_2 = found_books position_cmp id (LinkKey id) LinkValue (link_kind id) link_list book_1 sheet_1 found_1

    found_3 : sheet_of book_3 id ≡ Some sheet_3
    found_3 = found_books int_cmp id (AttrKey id Columns) AttrValue (column_kind id) column_list book_2 sheet_2 found_2

    had : (key : EntryKey) → setting_of key ≡ None → sheet_id_of key ≡ id → entry_at w key ≡ Some (sheet_entry key sheet)
    unfolding entry_at
    had key none own = (λ i. entry_found (none i) key w) ∙ ap (λ n. option_map (sheet_entry key) (sheet_of w n)) own ∙ ap (option_map (sheet_entry key)) found

    -- what stands behind the cells, the links and the columns stays until it is its turn
    stays_1 : (later : EntryKey) → ((place : Position) → is_lt (key_cmp (CellKey id place) later) ≡ true) → entry_at book_1 later ≡ entry_at w later
    stays_1 later low = entry_stays position_cmp id (CellKey id) CellValue (cell_kind id) cell_list w later
        (all_of (λ e. is_lt (key_cmp (CellKey id e.0) later) ≡ true) (λ e. low e.0) cell_list)

    stays_2 : (later : EntryKey) → ((place : Position) → is_lt (key_cmp (LinkKey id place) later) ≡ true) → entry_at book_2 later ≡ entry_at book_1 later
    stays_2 later low = entry_stays position_cmp id (LinkKey id) LinkValue (link_kind id) link_list book_1 later
        (all_of (λ e. is_lt (key_cmp (LinkKey id e.0) later) ≡ true) (λ e. low e.0) link_list)

    stays_3 : (later : EntryKey) → ((line : ℤ) → is_lt (key_cmp (AttrKey id Columns line) later) ≡ true) → entry_at book_3 later ≡ entry_at book_2 later
    stays_3 later low = entry_stays int_cmp id (AttrKey id Columns) AttrValue (column_kind id) column_list book_2 later
        (all_of (λ e. is_lt (key_cmp (AttrKey id Columns e.0) later) ≡ true) (λ e. low e.0) column_list)

    before_1 : (later : EntryKey) → ((place : Position) → is_lt (key_cmp (CellKey id place) later) ≡ true) → come_before later diffs_1 ≡ true
    before_1 later low = diffs_before position_cmp id (CellKey id) CellValue (cell_kind id) cell_list sheet later
        (all_of (λ e. is_lt (key_cmp (CellKey id e.0) later) ≡ true) (λ e. low e.0) cell_list)

    before_2 : (later : EntryKey) → ((place : Position) → is_lt (key_cmp (LinkKey id place) later) ≡ true) → come_before later diffs_2 ≡ true
    before_2 later low = diffs_before position_cmp id (LinkKey id) LinkValue (link_kind id) link_list sheet later
        (all_of (λ e. is_lt (key_cmp (LinkKey id e.0) later) ≡ true) (λ e. low e.0) link_list)

    before_3 : (later : EntryKey) → ((line : ℤ) → is_lt (key_cmp (AttrKey id Columns line) later) ≡ true) → come_before later diffs_3 ≡ true
    before_3 later low = diffs_before int_cmp id (AttrKey id Columns) AttrValue (column_kind id) column_list sheet later
        (all_of (λ e. is_lt (key_cmp (AttrKey id Columns e.0) later) ≡ true) (λ e. low e.0) column_list)

    record_1 : IsRecord w book_1 diffs_1
    record_1 = goes_on position_cmp id (CellKey id) CellValue (cell_kind id) w sheet cell_list (rises _ (entries_sorted plan.cells)) w [] sheet
        (nothing_changed w) found
        (all_from _ _ (λ e fit. record { behind = refl; fits = fit; stands = had (CellKey id e.0) refl refl }) cell_list fits.cells)

    record_2 : IsRecord w book_2 (diffs_1 ++ diffs_2)
    record_2 = goes_on position_cmp id (LinkKey id) LinkValue (link_kind id) w sheet link_list (rises _ (entries_sorted plan.links)) book_1 diffs_1 sheet_1
        record_1 found_1
        (all_from _ _ (λ e fit. record {
          behind = before_1 (LinkKey id e.0) (λ place. refl);
          fits = fit;
          stands = stays_1 (LinkKey id e.0) (λ place. refl) ∙ had (LinkKey id e.0) refl refl;
        }) link_list fits.links)

    record_3 : IsRecord w book_3 ((diffs_1 ++ diffs_2) ++ diffs_3)
    record_3 = goes_on int_cmp id (AttrKey id Columns) AttrValue (column_kind id) w sheet column_list (rises _ (entries_sorted plan.columns)) book_2
        (diffs_1 ++ diffs_2) sheet_2 record_2 found_2
        (all_from _ _ (λ e fit. record {
          behind = come_before-append (AttrKey id Columns e.0) diffs_1 diffs_2 (before_1 (AttrKey id Columns e.0) (λ place. refl))
              (before_2 (AttrKey id Columns e.0) (λ place. refl));
          fits = fit;
          stands = stays_2 (AttrKey id Columns e.0) (λ place. refl) ∙ stays_1 (AttrKey id Columns e.0) (λ place. refl) ∙ had (AttrKey id Columns e.0) refl refl;
        }) column_list fits.columns)

    record_4 : IsRecord w book_4 (((diffs_1 ++ diffs_2) ++ diffs_3) ++ diffs_4)
    record_4 = goes_on int_cmp id (AttrKey id Rows) AttrValue (row_kind id) w sheet row_list (rises _ (entries_sorted plan.rows)) book_3
        ((diffs_1 ++ diffs_2) ++ diffs_3) sheet_3 record_3 found_3
        (all_from _ _ (λ e fit. record {
          behind = come_before-append (AttrKey id Rows e.0) (diffs_1 ++ diffs_2) diffs_3
              (come_before-append (AttrKey id Rows e.0) diffs_1 diffs_2 (before_1 (AttrKey id Rows e.0) (λ place. refl))
              (before_2 (AttrKey id Rows e.0) (λ place. refl)))
              (before_3 (AttrKey id Rows e.0) (λ line. refl));
          fits = fit;
          stands = stays_3 (AttrKey id Rows e.0) (λ line. refl) ∙ stays_2 (AttrKey id Rows e.0) (λ place. refl) ∙ stays_1 (AttrKey id Rows e.0) (λ place. refl)
              ∙ had (AttrKey id Rows e.0) refl refl;
        }) row_list fits.rows)

    in_one_list : ((diffs_1 ++ diffs_2) ++ diffs_3) ++ diffs_4 ≡ plan_diffs plan sheet
    in_one_list = append_assoc (diffs_1 ++ diffs_2) diffs_3 diffs_4 ∙ append_assoc diffs_1 diffs_2 (diffs_3 ++ diffs_4)

    -- ---- the later workbook

    abbrev step_1 : Sheet → Sheet
    step_1 s = sheets position_cmp id (CellKey id) CellValue (cell_kind id) s cell_list

    abbrev step_2 : Sheet → Sheet
    step_2 s = sheets position_cmp id (LinkKey id) LinkValue (link_kind id) (step_1 s) link_list

    abbrev step_3 : Sheet → Sheet
    step_3 s = sheets int_cmp id (AttrKey id Columns) AttrValue (column_kind id) (step_2 s) column_list

    abbrev step_4 : Sheet → Sheet
    step_4 s = sheets int_cmp id (AttrKey id Rows) AttrValue (row_kind id) (step_3 s) row_list

    id_of : (s t : Sheet) → bare_sheet s ≡ bare_sheet t → s.id ≡ t.id
    id_of s t same = ap (λ (u : Sheet). u.id) same

    ids_1 : (s : Sheet) → (step_1 s).id ≡ s.id
    ids_1 s = id_of (step_1 s) s (bare-sheets position_cmp id (CellKey id) CellValue (cell_kind id) cell_list s)

    ids_2 : (s : Sheet) → (step_2 s).id ≡ s.id
    ids_2 s = id_of (step_2 s) (step_1 s) (bare-sheets position_cmp id (LinkKey id) LinkValue (link_kind id) link_list (step_1 s)) ∙ ids_1 s

    ids_3 : (s : Sheet) → (step_3 s).id ≡ s.id
    ids_3 s = id_of (step_3 s) (step_2 s) (bare-sheets int_cmp id (AttrKey id Columns) AttrValue (column_kind id) column_list (step_2 s)) ∙ ids_2 s

    abbrev changed : (Sheet → Sheet) → Book
    changed f = record w { worksheets = with_changed id f w.worksheets }

    own : w ≡ changed (λ s. s)
    own = λ i. record w { worksheets = sym (changed_same id w.worksheets) i }

    is_1 : book_1 ≡ changed step_1
    is_1 = ap (λ b. books position_cmp id (CellKey id) CellValue (cell_kind id) b cell_list) own
        ∙ books_are position_cmp id (CellKey id) CellValue (cell_kind id) w cell_list (λ s. s) (λ s. refl)

    is_2 : book_2 ≡ changed step_2
    is_2 = ap (λ b. books position_cmp id (LinkKey id) LinkValue (link_kind id) b link_list) is_1
        ∙ books_are position_cmp id (LinkKey id) LinkValue (link_kind id) w link_list step_1 ids_1

    is_3 : book_3 ≡ changed step_3
    is_3 = ap (λ b. books int_cmp id (AttrKey id Columns) AttrValue (column_kind id) b column_list) is_2
        ∙ books_are int_cmp id (AttrKey id Columns) AttrValue (column_kind id) w column_list step_2 ids_2

    is_4 : book_4 ≡ changed step_4
    is_4 = ap (λ b. books int_cmp id (AttrKey id Rows) AttrValue (row_kind id) b row_list) is_3
        ∙ books_are int_cmp id (AttrKey id Rows) AttrValue (row_kind id) w row_list step_3 ids_3

    -- the four kinds carry the plan out
    pub plan_steps : (s : Sheet) → step_4 s ≡ with_plan plan s
    plan_steps s =
        rows_put id row_list (step_3 s)
        ∙ ap (λ (t : Sheet). record t { rows = fold (λ (m : FinMap int_cmp LineAttr) (e : ℤ × Option LineAttr). with_entry m e.0 e.1) t.rows row_list })
        (columns_put id column_list (step_2 s))
        ∙ ap (λ (t : Sheet). record t {
          columns = fold (λ (m : FinMap int_cmp LineAttr) (e : ℤ × Option LineAttr). with_entry m e.0 e.1) t.columns column_list;
          rows = fold (λ (m : FinMap int_cmp LineAttr) (e : ℤ × Option LineAttr). with_entry m e.0 e.1) t.rows row_list;
        }) (links_put id link_list (step_1 s))
        ∙ ap (λ (t : Sheet). record t {
          links = fold (λ (m : FinMap position_cmp Link) (e : Position × Option Link). with_entry m e.0 e.1) t.links link_list;
          columns = fold (λ (m : FinMap int_cmp LineAttr) (e : ℤ × Option LineAttr). with_entry m e.0 e.1) t.columns column_list;
          rows = fold (λ (m : FinMap int_cmp LineAttr) (e : ℤ × Option LineAttr). with_entry m e.0 e.1) t.rows row_list;
        }) (cells_put id cell_list s)

    after_is : book_4 ≡ with_sheet w index (with_plan plan sheet)
    after_is = is_4 ∙ changed_at w rules index sheet at step_4 ∙ ap (with_sheet w index) (plan_steps sheet)

    -- the changes of the plan are the record
    pub plan_exact : IsRecord w (with_sheet w index (with_plan plan sheet)) (plan_diffs plan sheet)
    plan_exact = subst (λ later. IsRecord w later (plan_diffs plan sheet)) after_is (subst (IsRecord w book_4) in_one_list record_4)
