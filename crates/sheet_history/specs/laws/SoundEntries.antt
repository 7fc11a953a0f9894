-- Each entry of a well-formed workbook can be put where it is, so that its records go both ways.
use Rattle.std.proofs.Common.{◌≡◌, ◌⊎◌, inl, inr, ℕ, ℤ, pos, true, ◌&&◌, List, [], ◌∷◌, length, Option, Some, None, is_some, option_map, Ok, refl, ap, sym, ◌∙◌}
use Rattle.std.specs.Prelude.{not}
use Rattle.std.specs.List.{list_all}
use Rattle.std.specs.Option.{option_and_then}
use Rattle.std.specs.Cmp.{int_cmp_total}
use Rattle.std.specs.Ordering.{int_cmp}
use Rattle.std.specs.FinMap as fin
use Rattle.std.specs.FinMap.{FinMap}
use Rattle.std.proofs.lemmas.Map.Lookups.{exact_signed}
use Rattle.base_values.specs.declared.Position.{Position}
use Rattle.base_values.specs.Places.{is_line, position_cmp, is_place}
use Rattle.base_values.specs.laws.Places.{position_total, exact_positions}
use Rattle.base_axis.specs.declared.MergedCell.{MergedCell}
use Rattle.base_axis.specs.Rectangles.{has_many, is_inside}
use Rattle.sheet_grid.specs.Arrays.{array_at}
use Rattle.sheet_grid.specs.laws.FittingCells.{entry_fits_at}
use Rattle.sheet_grid.specs.declared.Cell.{Cell}
use Rattle.sheet_grid.specs.declared.LineAttr.{LineAttr}
use Rattle.sheet_grid.specs.declared.Link.{Link}
use Rattle.sheet_grid.specs.Lines.{is_plain}
use Rattle.sheet_grid.specs.Sheet.{Sheet}
use Rattle.sheet_grid.specs.Book.{Book}
use Rattle.sheet_rules.specs.laws.EntryLaws.{both}
use Rattle.sheet_rules.specs.laws.OccupiedLaws.{keeps_arrays, keeps_merges}
use Rattle.sheet_rules.specs.laws.WellFormedLaws.{cells_fit_from_trees, distinct_ids_from_well_formed}
use Rattle.sheet_rules.specs.Occupied.{is_merge, have_arrays, have_merges}
use Rattle.sheet_rules.specs.WellFormed.{have_attributes, is_column, is_column_style, is_row, is_row_style, is_size, is_width, has_keys_inside, IsWellFormed}
use Rattle.sheet_ids.specs.Ids.{sheet_of}
use Rattle.sheet_history.specs.declared.diff.Diff.{Diff}
use Rattle.sheet_history.specs.declared.diff.LineAxis.{LineAxis}
use Rattle.sheet_history.specs.declared.diff.LineAxis.TheVariants.{Rows, Columns}
use Rattle.sheet_history.specs.LineDiffs.{along_of}
use Rattle.sheet_history.specs.Entries.{EntryKey, setting_of, sheet_id_of, sheet_entry, is_inside_if_any, cell_stands_at, value_fits, is_value_of, entry_found, entry_accepted, entry_at, accepts}
use Rattle.sheet_history.specs.Entries.EntryKey.{CellKey, LinkKey, MergesKey, FieldKey, AttrKey, SettingKey}
use Rattle.sheet_history.specs.Entries.EntryValue.{CellValue, LinkValue, AttrValue, SettingValue}
use Rattle.sheet_history.specs.Diffs.{untested_after, untested_before, book_after, book_before, tested}
use Rattle.sheet_history.specs.Records.{IsRecord}
use Rattle.sheet_history.specs.laws.EntryLaws.{nothing_at}
use Rattle.sheet_history.specs.laws.BothWays.{AllFit, IsSound, fit, record_forward, record_back}
use Rattle.sheet_history.specs.laws.Entries.{entry_holds}
use Rattle.sheet_history.specs.laws.FieldLaws.{field_is_of}
use Rattle.sheet_history.specs.Settings.{SettingKind, setting_in}
use Rattle.sheet_history.specs.laws.SettingLaws.{setting_is_of}
use Rattle.sheet_history.specs.laws.RuleLaws.{KeepsSheetRules, sheet_rules}
use Rattle.sheet_history.specs.laws.TestedLaws.{by_rule-kept}

-- the array of a cell is inside the sheet
pub array_inside : (s : Sheet) → have_arrays s ≡ true → (place : Position) (cell : Cell) → fin.get s.cells place ≡ Some cell → is_inside_if_any (array_at place cell.content) ≡ true
array_inside s h place cell found = go (array_at place cell.content) refl
  where
    go : (o : Option MergedCell) → array_at place cell.content ≡ o → is_inside_if_any o ≡ true
    go None is = refl
    go (Some r) is = (keeps_arrays s h).inside place r (ap (option_and_then (λ (c : Cell). array_at place c.content)) found ∙ is)

-- each merge does
merges_inside : (merges : List MergedCell) → list_all is_merge merges ≡ true → list_all is_inside merges ≡ true
merges_inside [] all = refl
merges_inside (m ∷ merges) all = let parts = both (is_merge m) (list_all is_merge merges) all in λ i. (both (has_many m) (is_inside m) parts.0).1 i && merges_inside merges parts.1 i

pub sheet_merges_inside : (s : Sheet) → have_merges s ≡ true → list_all is_inside s.merges ≡ true
sheet_merges_inside s h = merges_inside s.merges (keeps_merges s h).merges

pub cell_stands : (s : Sheet) → KeepsSheetRules s → (place : Position) (cell : Cell) → fin.get s.cells place ≡ Some cell → cell_stands_at place (Some cell) ≡ true
cell_stands s h place cell found =
    let fits : entry_fits_at place (Some cell) ≡ true = sym (ap (entry_fits_at place) found) ∙ cells_fit_from_trees s h.trees place in
    λ i. fits i && array_inside s h.arrays place cell found i

cell_place : (s : Sheet) → has_keys_inside s ≡ true → (place : Position) (cell : Cell) → fin.get s.cells place ≡ Some cell → is_place place ≡ true
unfolding has_keys_inside
cell_place s h place cell found =
    let inner = both _ _ (both _ _ (both _ _ h).0).0 in
    entry_holds position_cmp position_total exact_positions (λ (e : Position × Cell). is_place e.0) s.cells inner.0 place cell found

link_place : (s : Sheet) → has_keys_inside s ≡ true → (place : Position) (link : Link) → fin.get s.links place ≡ Some link → is_place place ≡ true
unfolding has_keys_inside
link_place s h place link found =
    let inner = both _ _ (both _ _ (both _ _ h).0).0 in
    entry_holds position_cmp position_total exact_positions (λ (e : Position × Link). is_place e.0) s.links inner.1 place link found

-- what a row has is inside, and is something
row_kept : (s : Sheet) → has_keys_inside s ≡ true → have_attributes s ≡ true → (line : ℤ) (attr : LineAttr) → fin.get s.rows line ≡ Some attr
    → (is_line (pos 1048576) line && not (is_plain attr)) ≡ true
unfolding has_keys_inside have_attributes
row_kept s inside attributes line attr found =
    let lines = entry_holds int_cmp int_cmp_total exact_signed (λ (e : ℤ × LineAttr). is_line (pos 1048576) e.0) s.rows (both _ _ (both _ _ inside).0).1 line attr found in
    let kept = entry_holds int_cmp int_cmp_total exact_signed (λ (e : ℤ × LineAttr). is_row e.1) s.rows (both _ _ (both _ _ attributes).0).0 line attr found in
    λ i. lines i && (both (not (is_plain attr)) (is_size attr.size) (both (not (is_plain attr) && is_size attr.size) (is_row_style attr.style) kept).0).0 i

-- so is it of a column
column_kept : (s : Sheet) → has_keys_inside s ≡ true → have_attributes s ≡ true → (line : ℤ) (attr : LineAttr) → fin.get s.columns line ≡ Some attr
    → (is_line (pos 16384) line && not (is_plain attr)) ≡ true
unfolding has_keys_inside have_attributes
column_kept s inside attributes line attr found =
    let lines = entry_holds int_cmp int_cmp_total exact_signed (λ (e : ℤ × LineAttr). is_line (pos 16384) e.0) s.columns (both _ _ inside).1 line attr found in
    let kept = entry_holds int_cmp int_cmp_total exact_signed (λ (e : ℤ × LineAttr). is_column e.1) s.columns (both _ _ (both _ _ attributes).0).1 line attr found in
    λ i. lines i && (both (not (is_plain attr)) (is_width attr.size) (both (not (is_plain attr) && is_width attr.size) (is_column_style attr.style) kept).0).0 i

-- what a line of some lines has fits there, or is nothing
attr_fits : (id : ℕ) (axis : LineAxis) (lines : FinMap int_cmp LineAttr) (line : ℤ)
    → ((attr : LineAttr) → fin.get lines line ≡ Some attr → (is_line (along_of axis).last line && not (is_plain attr)) ≡ true)
    → (value_fits (AttrKey id axis line) (AttrValue (fin.get lines line)) ≡ true) ⊎ (AttrValue (fin.get lines line) ≡ AttrValue None)
attr_fits id axis lines line kept = go (fin.get lines line) refl
  where
    go : (o : Option LineAttr) → fin.get lines line ≡ o
        → (value_fits (AttrKey id axis line) (AttrValue (fin.get lines line)) ≡ true) ⊎ (AttrValue (fin.get lines line) ≡ AttrValue None)
    go None found = inr (ap AttrValue found)
    go (Some attr) found = inl (ap (λ o. value_fits (AttrKey id axis line) (AttrValue o)) found ∙ kept attr found)

-- an entry of a sheet that keeps its rules fits, or stands for nothing
entry_fits : (s : Sheet) → KeepsSheetRules s → (k : EntryKey) → (value_fits k (sheet_entry k s) ≡ true) ⊎ (sheet_entry k s ≡ nothing_at k)
entry_fits s h (CellKey id place) = go (fin.get s.cells place) refl
  where
    go : (o : Option Cell) → fin.get s.cells place ≡ o → (value_fits (CellKey id place) (CellValue (fin.get s.cells place)) ≡ true) ⊎ (CellValue (fin.get s.cells place) ≡ CellValue None)
    go None found = inr (ap CellValue found)
    go (Some cell) found =
        let fits : value_fits (CellKey id place) (CellValue (Some cell)) ≡ true = λ i. cell_place s h.inside place cell found i && cell_stands s h place cell found i in
        inl (ap (λ o. value_fits (CellKey id place) (CellValue o)) found ∙ fits)
entry_fits s h (LinkKey id place) = go (fin.get s.links place) refl
  where
    go : (o : Option Link) → fin.get s.links place ≡ o → (value_fits (LinkKey id place) (LinkValue (fin.get s.links place)) ≡ true) ⊎ (LinkValue (fin.get s.links place) ≡ LinkValue None)
    go None found = inr (ap LinkValue found)
    go (Some link) found = inl (link_place s h.inside place link found)
entry_fits s h (MergesKey id) = inl (sheet_merges_inside s h.merges)
entry_fits s h (FieldKey id field) = inl (field_is_of field s)
entry_fits s h (AttrKey id Rows line) = attr_fits id Rows s.rows line (row_kept s h.inside h.attributes line)
entry_fits s h (AttrKey id Columns line) = attr_fits id Columns s.columns line (column_kept s h.inside h.attributes line)
entry_fits s h (SettingKey kind) = inr refl

-- so it is with each entry of a well-formed workbook
pub sound_by_rules : (w : Book) → IsWellFormed w → IsSound w
unfolding entry_at accepts
sound_by_rules w rules k v is = by_setting (setting_of k) is
  where
    on_sheet : (s : Sheet) → sheet_of w (sheet_id_of k) ≡ Some s → sheet_entry k s ≡ v → (value_fits k (sheet_entry k s) ≡ true) ⊎ (sheet_entry k s ≡ nothing_at k)
        → ((is_some (sheet_of w (sheet_id_of k)) && value_fits k v) ≡ true) ⊎ (v ≡ nothing_at k)
    on_sheet s found same (inl fits) = inl (λ i. is_some (found i) && (ap (value_fits k) (sym same) ∙ fits) i)
    on_sheet s found same (inr nothing) = inr (sym same ∙ nothing)

    go : (o : Option Sheet) → sheet_of w (sheet_id_of k) ≡ o → option_map (sheet_entry k) o ≡ Some v → ((is_some (sheet_of w (sheet_id_of k)) && value_fits k v) ≡ true) ⊎ (v ≡ nothing_at k)
    go None found it = absurd (cc)
    go (Some s) found it = let same : sheet_entry k s ≡ v = cc in on_sheet s found same (entry_fits s (sheet_rules w rules (sheet_id_of k) s found) k)

    -- a setting takes what it is
    by_setting : (o : Option SettingKind) → entry_found o k w ≡ Some v → (entry_accepted o k v w ≡ true) ⊎ (v ≡ nothing_at k)
    by_setting None it = go (sheet_of w (sheet_id_of k)) refl it
    by_setting (Some kind) it = let same : SettingValue (setting_in kind w) ≡ v = cc in inl (ap (is_value_of kind) (sym same) ∙ setting_is_of kind w)

-- ---- the record of two well-formed workbooks

module _ (earlier later : Book) (list : List Diff) (before : IsWellFormed earlier) (after : IsWellFormed later) (is : IsRecord earlier later list) where
  -- has changes that can be put
  pub entries_fit : AllFit earlier is.changes
  entries_fit =
      fit earlier later (sym is.frame) (sound_by_rules earlier before) (sound_by_rules later after) (distinct_ids_from_well_formed earlier before) (distinct_ids_from_well_formed later after) list is

  -- takes the earlier one to the later one
  pub entries_made : untested_after earlier list ≡ Ok later
  entries_made =
      record_forward earlier later (sym is.frame) (sound_by_rules earlier before) (sound_by_rules later after) (distinct_ids_from_well_formed earlier before) (distinct_ids_from_well_formed later after) list is

  -- also where the result is tested
  pub entries_forwarded : book_after earlier list ≡ Ok later
  entries_forwarded = ap (tested (length list)) entries_made ∙ by_rule-kept (length list) later after

  -- and the later one back
  pub entries_taken_back : untested_before later list ≡ Ok earlier
  entries_taken_back =
      record_back earlier later (sym is.frame) (sound_by_rules earlier before) (sound_by_rules later after) (distinct_ids_from_well_formed earlier before) (distinct_ids_from_well_formed later after) list is

  pub entries_backed : book_before later list ≡ Ok earlier
  entries_backed = ap (tested (length list)) entries_taken_back ∙ by_rule-kept (length list) earlier before
