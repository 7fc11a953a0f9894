-- The changes of the cells that lose their contents.
use Rattle.std.proofs.Common.{◌≡◌, ◌≢◌, ℕ, Bool, true, false, not, cond, ◌&&◌, List, [], ◌∷◌, map, Option, Some, None, option_map, refl, ap, sym, ◌∙◌, true≢false}
use Rattle.std.specs.Prelude.{IsTrue}
use Rattle.std.specs.List.{filter_map, cons_option, AllByRecursion}
use Rattle.std.specs.Option.{option_and_then}
use Rattle.std.specs.Cmp.{tied_itself, nat_cmp_total}
use Rattle.std.specs.Ordering.{eq_by_cmp, is_lt, ordering_then, int_cmp}
use Rattle.std.specs.FinMap as fin
use Rattle.std.specs.FinMap.{get, entries, get-entries}
use Rattle.std.proofs.lemmas.Map.Views.{tells_apart}
use Rattle.base_values.specs.declared.Position.{Position}
use Rattle.base_values.specs.Places.{position_cmp}
use Rattle.base_values.specs.laws.Places.{position_total, exact_positions}
use Rattle.base_axis.specs.declared.MergedCell.{MergedCell}
use Rattle.cell_content.specs.declared.Content.{Content}
use Rattle.cell_content.specs.declared.Content.TheVariants.{Empty}
use Rattle.sheet_grid.specs.declared.Cell.{Cell}
use Rattle.sheet_grid.specs.Merges.{is_empty}
use Rattle.sheet_grid.specs.Sheet.{Sheet}
use Rattle.sheet_rules.specs.Occupied.{covers}
use Rattle.sheet_history.specs.declared.Diff.{Diff}
use Rattle.sheet_history.specs.declared.Diff.TheVariants.{Cell as CellDiff}
use Rattle.sheet_history.specs.Entries.{EntryKey, EntryValue, key_cmp, sheet_id_of, sheet_entry}
use Rattle.sheet_history.specs.declared.LineAxis.TheVariants.{Rows, Columns}
use Rattle.sheet_history.specs.Entries.EntryKey.{AttrKey}
use Rattle.sheet_history.specs.Entries.EntryKey.{CellKey, LinkKey, MergesKey, FieldKey, SettingKey}
use Rattle.sheet_history.specs.Entries.EntryValue.{CellValue, FieldValue}
use Rattle.sheet_history.specs.Records.{Change, change_of, changed_entry, same_entry_value}
use Rattle.sheet_history.specs.laws.EntryLaws.{decide}
use Rattle.sheet_history.specs.laws.FieldLaws.{fields_stay}
use Rattle.sheet_history.specs.laws.OneEntry.{changed_entry-same}
use Rattle.sheet_history.specs.laws.RecordLaws.{exact_keys}
use Rattle.sheet_history.specs.laws.ValueEquals.{same_value_decides}
use Rattle.edit_plans.specs.Blanked.{blank_cell, blanked_cell, blanked, loses}
use Rattle.edit_plans.specs.laws.EditRecords.{blank_diff}
use Rattle.edit_plans.specs.laws.BlankedLaws.{blanked_sheet, get-blanked}
use Rattle.edit_plans.specs.laws.MappedMaps.{tagged, find-tagged, sorted-tagged, no_tag, tagged_below, rising}
use Rattle.edit_plans.specs.laws.SheetRecords.{IsSheetRecord}

-- an empty content is the one that is left
blank_same : (cell : Cell) → is_empty cell.content ≡ true → blank_cell cell ≡ cell
blank_same cell empty = λ i. record cell { content = go cell.content empty i }
  where
    go : (content : Content) → is_empty content ≡ true → Empty ≡ content
    go Empty is = refl
    go content is = absurd (let never : false ≡ true = is in cc)

module _ (r : MergedCell) where
  -- a cell before and after, where it loses its content
  abbrev pub blank_values : Position → Cell → Option (EntryValue × EntryValue)
  blank_values place cell = cond (loses r place cell) (Some (CellValue (Some cell), CellValue (Some (blank_cell cell)))) None

  filled_differs : (cell : Cell) → is_empty cell.content ≡ false → same_entry_value (CellValue (Some cell)) (CellValue (Some (blank_cell cell))) ≡ false
  filled_differs cell filled = decide (same_entry_value (CellValue (Some cell)) (CellValue (Some (blank_cell cell))))
      (λ hit. absurd (let same : ◌≡◌ {A = EntryValue} (CellValue (Some cell)) (CellValue (Some (blank_cell cell))) = (same_value_decides _ _).0 hit in
      let one : cell ≡ blank_cell cell = cc in
      true≢false (ap (λ (c : Cell). is_empty c.content) (sym one) ∙ filled)))
      (λ miss. miss)

  -- these are the values that differ
  cell_change : (place : Position) (o : Option Cell)
      → option_and_then (blank_values place) o ≡ changed_entry (Some (CellValue o)) (Some (CellValue (option_map (blanked_cell r place) o)))
  cell_change place None = sym (changed_entry-same (Some (CellValue None)))
  cell_change place (Some cell) = go (covers r place) (is_empty cell.content) refl
    where
      go : (b c : Bool) → is_empty cell.content ≡ c
          → cond (b && not c) (Some (CellValue (Some cell), CellValue (Some (blank_cell cell)))) None ≡ changed_entry (Some (CellValue (Some cell)))
          (Some (CellValue (Some (cond b (blank_cell cell) cell))))
      go false c is = sym (changed_entry-same (Some (CellValue (Some cell))))
      go true true is =
          sym (ap (λ (x : Cell). changed_entry (Some (CellValue (Some cell))) (Some (CellValue (Some x)))) (blank_same cell is)
          ∙ changed_entry-same (Some (CellValue (Some cell))))
      go true false is = sym (ap (λ b. cond b None (Some (CellValue (Some cell), CellValue (Some (blank_cell cell))))) (filled_differs cell is))

  module _ (id : ℕ) where
    pub order : (a b : Position) → key_cmp (CellKey id a) (CellKey id b) ≡ position_cmp a b
    order a b = ap (λ o. ordering_then o (ordering_then (int_cmp a.row b.row) (int_cmp a.column b.column))) (tied_itself nat_cmp_total id)

    -- the changes that entries make
    abbrev pub changes_of : List (Position × Cell) → List Change
    changes_of es = tagged position_cmp key_cmp position_total exact_positions (CellKey id) order blank_values es

    made_one : (e : Position × Cell) (ds : List Diff) (cs : List Change) → map change_of ds ≡ map Some cs
        → map change_of (cons_option (blank_diff id r e) ds) ≡ map Some (cons_option (option_map (λ v. (CellKey id e.0, v)) (blank_values e.0 e.1)) cs)
    made_one e ds cs rest = go (loses r e.0 e.1)
      where
        go : (b : Bool) → map change_of (cons_option (cond b (Some (CellDiff id e.0 (Some e.1) (Some (blank_cell e.1)))) None) ds)
            ≡ map Some (cons_option (option_map (λ v. (CellKey id e.0, v)) (cond b (Some (CellValue (Some e.1), CellValue (Some (blank_cell e.1)))) None)) cs)
        go true = ap (λ l. Some (CellKey id e.0, (CellValue (Some e.1), CellValue (Some (blank_cell e.1)))) ∷ l) rest
        go false = rest

    -- the diffs have these changes
    pub made_changes : (es : List (Position × Cell)) → map change_of (filter_map (blank_diff id r) es) ≡ map Some (changes_of es)
    made_changes [] = refl
    made_changes (e ∷ es) = made_one e _ _ (made_changes es)

    -- no key of another kind is among them, and none of another sheet
    pub other_kind : (key : EntryKey) → ((place : Position) → key ≢ CellKey id place) → (es : List (Position × Cell))
        → fin.find key_cmp key (changes_of es) ≡ None
    other_kind key apart es = no_tag position_cmp key_cmp position_total exact_positions (CellKey id) order blank_values key
        (λ place. decide (eq_by_cmp key_cmp key (CellKey id place)) (λ hit. absurd (apart place (tells_apart exact_keys key (CellKey id place) hit)))
        (λ miss. miss)) es

  module _ (sheet : Sheet) where
    abbrev pub blank_changes : List Change
    blank_changes = changes_of sheet.id (entries sheet.cells)

    pub blank_sorted : IsTrue (fin.is_sorted key_cmp blank_changes)
    blank_sorted = sorted-tagged position_cmp key_cmp position_total exact_positions (CellKey sheet.id) (order sheet.id) blank_values
        (entries sheet.cells) (rising sheet.cells)

    -- at the key of a place stands the change of its cell
    pub blank_at : (place : Position)
        → fin.find key_cmp (CellKey sheet.id place) blank_changes ≡ changed_entry (Some (CellValue (get sheet.cells place)))
        (Some (CellValue (get (blanked r sheet.cells) place)))
    blank_at place =
        find-tagged position_cmp key_cmp position_total exact_positions (CellKey sheet.id) (order sheet.id) blank_values (entries sheet.cells)
        (rising sheet.cells) place
        ∙ ap (option_and_then (blank_values place)) (sym (get-entries sheet.cells place))
        ∙ cell_change place (get sheet.cells place)
        ∙ ap (λ o. changed_entry (Some (CellValue (get sheet.cells place))) (Some (CellValue o))) (sym (get-blanked r sheet.cells place))

    pub blank_elsewhere : (key : EntryKey) → sheet_id_of key ≢ sheet.id → fin.find key_cmp key blank_changes ≡ None
    blank_elsewhere key other = other_kind sheet.id key (λ place same. other (ap sheet_id_of same)) (entries sheet.cells)

    blank_here : (key : EntryKey) → sheet_id_of key ≡ sheet.id
        → fin.find key_cmp key blank_changes ≡ changed_entry (Some (sheet_entry key sheet)) (Some (sheet_entry key (blanked_sheet r sheet)))
    blank_here (CellKey id place) own = ap (λ n. fin.find key_cmp (CellKey n place) blank_changes) own ∙ blank_at place
    blank_here (LinkKey id place) own = other_kind sheet.id (LinkKey id place)
        (λ other same. let never : LinkKey id place ≡ CellKey sheet.id other = same in cc) (entries sheet.cells)
        ∙ sym (changed_entry-same (Some (sheet_entry (LinkKey id place) sheet)))
    blank_here (MergesKey id) own = other_kind sheet.id (MergesKey id) (λ other same. let never : MergesKey id ≡ CellKey sheet.id other = same in cc)
        (entries sheet.cells) ∙ sym (changed_entry-same (Some (sheet_entry (MergesKey id) sheet)))
    blank_here (FieldKey id field) own = other_kind sheet.id (FieldKey id field)
        (λ other same. let never : FieldKey id field ≡ CellKey sheet.id other = same in cc) (entries sheet.cells)
        ∙ sym (changed_entry-same (Some (sheet_entry (FieldKey id field) sheet)))
        ∙ ap (λ v. changed_entry (Some (sheet_entry (FieldKey id field) sheet)) (Some (FieldValue v))) (fields_stay field sheet (blanked_sheet r sheet) refl refl refl refl refl)
    blank_here (AttrKey id Rows line) own = other_kind sheet.id (AttrKey id Rows line)
        (λ other same. let never : AttrKey id Rows line ≡ CellKey sheet.id other = same in cc) (entries sheet.cells)
        ∙ sym (changed_entry-same (Some (sheet_entry (AttrKey id Rows line) sheet)))
    blank_here (AttrKey id Columns line) own = other_kind sheet.id (AttrKey id Columns line)
        (λ other same. let never : AttrKey id Columns line ≡ CellKey sheet.id other = same in cc) (entries sheet.cells)
        ∙ sym (changed_entry-same (Some (sheet_entry (AttrKey id Columns line) sheet)))
    blank_here (SettingKey kind) own = other_kind sheet.id (SettingKey kind) (λ other same. let never : SettingKey kind ≡ CellKey sheet.id other = same in cc)
        (entries sheet.cells) ∙ sym (changed_entry-same (Some (sheet_entry (SettingKey kind) sheet)))

    -- and all are below that of the merges
    pub blank_below : AllByRecursion (λ c. is_lt (key_cmp c.0 (MergesKey sheet.id)) ≡ true) blank_changes
    blank_below = tagged_below position_cmp key_cmp position_total exact_positions (CellKey sheet.id) (order sheet.id) blank_values
        (MergesKey sheet.id) (λ place. refl) (entries sheet.cells)

    -- they are the changes of the sheet
    pub blank_record : IsSheetRecord (blanked_sheet r) sheet blank_changes
    blank_record = record { ordered = blank_sorted; here = blank_here; elsewhere = blank_elsewhere }
