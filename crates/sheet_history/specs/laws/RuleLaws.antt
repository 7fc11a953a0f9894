-- What is put in a well-formed workbook leaves a well-formed one: a link, a field that may have its value, and a cell that has a font and may
-- stand at its place.
use Rattle.std.proofs.Common.{◌≡◌, ℕ, ℤ, suc, Bool, true, cond, ◌&&◌, List, [], ◌∷◌, length, Option, Some, None, refl, ap, sym, subst, ◌∙◌}
use Rattle.std.specs.Prelude.{IsTrue, ◌==◌, nat_lt}
use Rattle.std.specs.List.{list_all}
use Rattle.std.specs.FinMap.{entries}
use Rattle.base_values.specs.declared.Position.{Position}
use Rattle.base_values.specs.KeyMap.{with_entry}
use Rattle.base_values.specs.Places.{position_cmp, is_place}
use Rattle.base_values.specs.laws.Places.{position_total, exact_positions}
use Rattle.base_tables.specs.Folding.{same_folded}
use Rattle.sheet_grid.specs.declared.Cell.{Cell}
use Rattle.sheet_grid.specs.declared.LineAttr.{LineAttr}
use Rattle.sheet_grid.specs.declared.Link.{Link}
use Rattle.sheet_grid.specs.laws.FittingCells.{entry_fits_at}
use Rattle.sheet_grid.specs.laws.FittingLaws.{cells_fit-put}
use Rattle.sheet_grid.specs.Sheet.{Sheet, with_cell}
use Rattle.sheet_grid.specs.Book.{Book}
use Rattle.sheet_rules.specs.laws.EntryLaws.{both}
use Rattle.sheet_rules.specs.laws.PutLaws.{arrays-put, merges-put, hidden-put}
use Rattle.sheet_rules.specs.Names.{are_names}
use Rattle.sheet_rules.specs.Occupied.{have_arrays, have_merges, are_hidden_blank, may_stand}
use Rattle.sheet_rules.specs.SheetNames.{is_sheet_name}
use Rattle.sheet_rules.specs.WellFormed.{are_distinct, ids_of, names_of, are_sheets, has_keys_inside, have_trees, have_rule_trees, have_attributes, are_frozen, have_rule_parts, is_row, is_column, IsWellFormed, has_font}
use Rattle.sheet_rules.specs.laws.WellFormedLaws.{well_formed_parts, well_formed_from_parts, cells_fit_from_trees, have_trees_from_cells_fit}
use Rattle.sheet_ids.specs.Ids.{sheet_of}
pub use Rattle.book_sheets.specs.laws.SheetRules.{KeepsSheetRules}
pub use Rattle.book_names.specs.laws.Stands.{sheet_rules}
use Rattle.sheet_history.specs.Entries.{EntryKey, EntryValue, cell_stands_at, value_fits, setting_of, sheet_id_of, with_sheet_entry, with_changed, entry_placed, bare_sheet, put_entry}
use Rattle.sheet_history.specs.Entries.EntryKey.{CellKey, LinkKey, FieldKey}
use Rattle.sheet_history.specs.Entries.EntryValue.{CellValue, LinkValue, FieldValue}
use Rattle.sheet_history.specs.declared.field.SheetField.{SheetField}
use Rattle.sheet_history.specs.declared.field.SheetField.TheVariants as value
use Rattle.sheet_history.specs.Fields.{Field, may_have, with_field}
use Rattle.sheet_history.specs.Fields.Field.{ColorField, StateField, GridField, FrozenRowsField, FrozenColumnsField}
use Rattle.sheet_history.specs.Untested.{entry_has_font, may_stand_on}
use Rattle.sheet_history.specs.laws.Entries.{all_with_entry}
use Rattle.sheet_history.specs.laws.EntryLaws.{decide, by_id, map-changed, bare-with_sheet_entry}

-- ---- one sheet of a workbook

module _ (P : Sheet → Bool) (id : ℕ) where
  -- what holds of all sheets holds of all where the one of an id is changed, if it holds of that then
  pub all-changed : (f : Sheet → Sheet) (ss : List Sheet) → ((s : Sheet) → by_id id ss ≡ Some s → P (f s) ≡ true) → list_all P ss ≡ true → list_all P (with_changed id f ss) ≡ true
  all-changed f [] keeps all = refl
  all-changed f (s ∷ ss) keeps all =
      let parts = both (P s) (list_all P ss) all in
      decide (s.id == id)
      (λ hit. (λ i. list_all P (cond (hit i) (f s ∷ ss) (s ∷ with_changed id f ss))) ∙ (λ i. keeps s (λ j. cond (hit j) (Some s) (by_id id ss)) i && parts.1 i))
      (λ miss. (λ i. list_all P (cond (miss i) (f s ∷ ss) (s ∷ with_changed id f ss)))
      ∙ (λ i. parts.0 i && all-changed f ss (λ t found. keeps t ((λ j. cond (miss j) (Some s) (by_id id ss)) ∙ found)) parts.1 i))

length-changed : (f : Sheet → Sheet) (id : ℕ) (ss : List Sheet) → length (with_changed id f ss) ≡ length ss
length-changed f id [] = refl
length-changed f id (s ∷ ss) =
    decide (s.id == id)
    (λ hit. λ i. length (cond (hit i) (f s ∷ ss) (s ∷ with_changed id f ss)))
    (λ miss. (λ i. length (cond (miss i) (f s ∷ ss) (s ∷ with_changed id f ss))) ∙ ap suc (length-changed f id ss))

-- ids and names decide whether the sheets keep their rule
same_sheets : (xs ys : List Sheet) → length xs ≡ length ys → ids_of xs ≡ ids_of ys → names_of xs ≡ names_of ys → are_sheets xs ≡ are_sheets ys
unfolding are_sheets
same_sheets xs ys count ids names =
    λ i. nat_lt 0 (count i) && are_distinct (λ a b. a == b) (ids i) && list_all is_sheet_name (names i) && are_distinct same_folded (names i)

font_there : (entry : Option Cell) (cell : Cell) → entry_has_font entry ≡ true → entry ≡ Some cell → has_font cell.style ≡ true
font_there None cell font is = absurd (cc)
font_there (Some other) cell font is = let it : other ≡ cell = cc in ap (λ c. has_font c.style) (sym it) ∙ font

pub attributes-put : (sheet : Sheet) (place : Position) (entry : Option Cell) → entry_has_font entry ≡ true → have_attributes sheet ≡ true → have_attributes (with_cell sheet place entry) ≡ true
unfolding have_attributes
attributes-put sheet place entry font all =
    let row_test : Bool = list_all (λ (e : ℤ × LineAttr). is_row e.1) (entries sheet.rows) in
    let column_test : Bool = list_all (λ (e : ℤ × LineAttr). is_column e.1) (entries sheet.columns) in
    let font_test : Bool = list_all (λ (e : Position × Cell). has_font e.1.style) (entries sheet.cells) in
    let parts = both (row_test && column_test) font_test all in
    let fonts = all_with_entry position_cmp position_total exact_positions (λ (e : Position × Cell). has_font e.1.style) sheet.cells place entry (λ cell is. font_there entry cell font is) parts.1 in
    λ i. parts.0 i && fonts i

pub inside-put : (sheet : Sheet) (place : Position) (entry : Option Cell) → is_place place ≡ true → has_keys_inside sheet ≡ true → has_keys_inside (with_cell sheet place entry) ≡ true
unfolding has_keys_inside
inside-put sheet place entry inside all =
    let outer = both _ _ all in
    let middle = both _ _ outer.0 in
    let inner = both _ _ middle.0 in
    let cells = all_with_entry position_cmp position_total exact_positions (λ (e : Position × Cell). is_place e.0) sheet.cells place entry (λ cell is. inside) inner.0 in
    λ i. cells i && inner.1 i && middle.1 i && outer.1 i

cell_keeps : (place : Position) (entry : Option Cell) → cell_stands_at place entry ≡ true → IsTrue (entry_fits_at place entry)
cell_keeps place None h = refl
cell_keeps place (Some cell) h = (both _ _ h).0

-- a cell that may stand at its place keeps them
cell-put : (s : Sheet) (place : Position) (entry : Option Cell) → is_place place ≡ true → cell_stands_at place entry ≡ true → entry_has_font entry ≡ true → may_stand s place entry ≡ true
    → KeepsSheetRules s → KeepsSheetRules (with_cell s place entry)
cell-put s place entry inside fits font stands h = record {
  inside = inside-put s place entry inside h.inside;
  arrays = arrays-put s place entry stands h.arrays;
  merges = merges-put s place entry stands h.merges;
  hidden = hidden-put s place entry stands h.hidden;
  trees = have_trees_from_cells_fit (with_cell s place entry) (cells_fit-put s place entry (cell_keeps place entry fits) (cells_fit_from_trees s h.trees));
  rule_trees = h.rule_trees;
  attributes = attributes-put s place entry font h.attributes;
  frozen = h.frozen;
  rule_parts = h.rule_parts;
}

-- so does a link
link-put : (s : Sheet) (place : Position) (entry : Option Link) → is_place place ≡ true → KeepsSheetRules s → KeepsSheetRules (record s { links = with_entry s.links place entry })
unfolding has_keys_inside have_arrays have_merges are_hidden_blank have_trees have_attributes
link-put s place entry inside h =
    let outer = both _ _ h.inside in
    let middle = both _ _ outer.0 in
    let inner = both _ _ middle.0 in
    let links = all_with_entry position_cmp position_total exact_positions (λ (e : Position × Link). is_place e.0) s.links place entry (λ link is. inside) inner.1 in
    record {
      inside = λ i. inner.0 i && links i && middle.1 i && outer.1 i;
      arrays = h.arrays;
      merges = h.merges;
      hidden = h.hidden;
      trees = h.trees;
      rule_trees = h.rule_trees;
      attributes = h.attributes;
      frozen = h.frozen;
      rule_parts = h.rule_parts;
    }

-- so does a field that may have its value
field-put : (s : Sheet) (field : Field) (v : SheetField) → may_have v ≡ true → KeepsSheetRules s → KeepsSheetRules (with_field field v s)
unfolding has_keys_inside have_arrays have_merges are_hidden_blank have_trees have_attributes
field-put s ColorField (value.Color v) may h =
    record { inside = h.inside; arrays = h.arrays; merges = h.merges; hidden = h.hidden; trees = h.trees; rule_trees = h.rule_trees; attributes = h.attributes; frozen = h.frozen; rule_parts = h.rule_parts }
field-put s StateField (value.State v) may h =
    record { inside = h.inside; arrays = h.arrays; merges = h.merges; hidden = h.hidden; trees = h.trees; rule_trees = h.rule_trees; attributes = h.attributes; frozen = h.frozen; rule_parts = h.rule_parts }
field-put s GridField (value.GridLines v) may h =
    record { inside = h.inside; arrays = h.arrays; merges = h.merges; hidden = h.hidden; trees = h.trees; rule_trees = h.rule_trees; attributes = h.attributes; frozen = h.frozen; rule_parts = h.rule_parts }
field-put s FrozenRowsField (value.FrozenRows v) may h =
    let counts = both _ _ h.frozen in
    record { inside = h.inside; arrays = h.arrays; merges = h.merges; hidden = h.hidden; trees = h.trees; rule_trees = h.rule_trees; attributes = h.attributes; frozen = λ i. may i && counts.1 i; rule_parts = h.rule_parts }
field-put s FrozenColumnsField (value.FrozenColumns v) may h =
    let counts = both _ _ h.frozen in
    record { inside = h.inside; arrays = h.arrays; merges = h.merges; hidden = h.hidden; trees = h.trees; rule_trees = h.rule_trees; attributes = h.attributes; frozen = λ i. counts.0 i && may i; rule_parts = h.rule_parts }
field-put s _ _ may h = h

-- ---- workbooks

module _ (w : Book) (rules : IsWellFormed w) (id : ℕ) (change : Sheet → Sheet) (bare : (s : Sheet) → bare_sheet (change s) ≡ bare_sheet s)
    (keeps : (s : Sheet) → sheet_of w id ≡ Some s → KeepsSheetRules s → KeepsSheetRules (change s)) where
  abbrev sheets : List Sheet
  sheets = w.worksheets

  abbrev next : List Sheet
  next = with_changed id change w.worksheets

  kept : (s : Sheet) → sheet_of w id ≡ Some s → KeepsSheetRules (change s)
  kept s found = keeps s found (sheet_rules w rules id s found)

  keeps_id : (s : Sheet) → (change s).id ≡ s.id
  keeps_id s = ap (λ (t : Sheet). t.id) (bare s)

  -- a change of one sheet that keeps its rules keeps those of the workbook
  pub well_formed-changed : IsWellFormed (record w { worksheets = with_changed id change w.worksheets })
  well_formed-changed =
      let parts = well_formed_parts w rules in
      well_formed_from_parts (record w { worksheets = next }) (record {
        sheets = same_sheets next sheets (length-changed change id sheets)
            (map-changed change keeps_id (λ (s : Sheet). s.id) keeps_id id sheets)
            (map-changed change keeps_id (λ (s : Sheet). s.name) (λ s. ap (λ (t : Sheet). t.name) (bare s)) id sheets) ∙ parts.sheets;
        inside = all-changed has_keys_inside id change sheets (λ s found. (kept s found).inside) parts.inside;
        arrays = all-changed have_arrays id change sheets (λ s found. (kept s found).arrays) parts.arrays;
        merges = all-changed have_merges id change sheets (λ s found. (kept s found).merges) parts.merges;
        hidden = all-changed are_hidden_blank id change sheets (λ s found. (kept s found).hidden) parts.hidden;
        trees = all-changed have_trees id change sheets (λ s found. (kept s found).trees) parts.trees;
        rule_trees = all-changed have_rule_trees id change sheets (λ s found. (kept s found).rule_trees) parts.rule_trees;
        name_trees = parts.name_trees;
        names = ap (λ ids. are_names ids w.names) (map-changed change keeps_id (λ (s : Sheet). s.id) keeps_id id sheets) ∙ parts.names;
        attributes = all-changed have_attributes id change sheets (λ s found. (kept s found).attributes) parts.attributes;
        frozen = all-changed are_frozen id change sheets (λ s found. (kept s found).frozen) parts.frozen;
        rule_parts = all-changed have_rule_parts id change sheets (λ s found. (kept s found).rule_parts) parts.rule_parts;
      })

-- an entry that keeps the rules of its sheet keeps those of the workbook
pub well_formed-put : (w : Book) → IsWellFormed w → (k : EntryKey) (v : EntryValue) → setting_of k ≡ None
    → ((s : Sheet) → sheet_of w (sheet_id_of k) ≡ Some s → KeepsSheetRules s → KeepsSheetRules (with_sheet_entry k v s)) → IsWellFormed (put_entry w k v)
unfolding put_entry
well_formed-put w rules k v none keeps =
    subst (λ o. IsWellFormed (entry_placed o k v w)) (sym none) (well_formed-changed w rules (sheet_id_of k) (with_sheet_entry k v) (bare-with_sheet_entry k v) keeps)

stands_found : (o : Option Sheet) (s : Sheet) (place : Position) (entry : Option Cell) → o ≡ Some s → may_stand_on o place entry ≡ true → may_stand s place entry ≡ true
stands_found None s place entry is h = absurd (cc)
stands_found (Some t) s place entry is h = let same : t ≡ s = cc in ap (λ x. may_stand x place entry) (sym same) ∙ h

-- a cell that has a font and may stand at its place
pub well_formed-cell : (w : Book) (id : ℕ) (place : Position) (entry : Option Cell) → IsWellFormed w → value_fits (CellKey id place) (CellValue entry) ≡ true → entry_has_font entry ≡ true
    → may_stand_on (sheet_of w id) place entry ≡ true → IsWellFormed (put_entry w (CellKey id place) (CellValue entry))
well_formed-cell w id place entry rules fits font stands =
    let parts = both (is_place place) (cell_stands_at place entry) fits in
    well_formed-put w rules (CellKey id place) (CellValue entry) refl (λ s found. cell-put s place entry parts.0 parts.1 font (stands_found (sheet_of w id) s place entry found stands))

-- a link
pub well_formed-link : (w : Book) (id : ℕ) (place : Position) (entry : Option Link) → IsWellFormed w → value_fits (LinkKey id place) (LinkValue entry) ≡ true
    → IsWellFormed (put_entry w (LinkKey id place) (LinkValue entry))
well_formed-link w id place entry rules inside = well_formed-put w rules (LinkKey id place) (LinkValue entry) refl (λ s found. link-put s place entry inside)

-- a field that may have its value
pub well_formed-field : (w : Book) (id : ℕ) (field : Field) (v : SheetField) → may_have v ≡ true → IsWellFormed w → IsWellFormed (put_entry w (FieldKey id field) (FieldValue v))
well_formed-field w id field v may rules = well_formed-put w rules (FieldKey id field) (FieldValue v) refl (λ s found. field-put s field v may)
