-- The record of an array that is put in a rectangle: its first cell, and the cells that lose their contents.
use Rattle.std.proofs.Common.{◌≡◌, ◌≢◌, ℤ, ◌≤ℤ◌, Bool, true, false, cond, ◌&&◌, List, [], ◌∷◌, ◌++◌, map, Option, Some, None, option_map, refl, ap, sym, ◌∙◌, true≢false, arith}
use Rattle.std.specs.Prelude.{IsTrue}
use Rattle.std.specs.List.{cons_option}
use Rattle.std.specs.Cmp.{tied_itself, nat_cmp_total}
use Rattle.std.specs.Ordering.{eq_by_cmp, is_lt, ordering_then, int_cmp, int_eq}
use Rattle.std.specs.declared.cmp.Ordering.{Ordering}
use Rattle.std.specs.declared.cmp.Ordering.TheVariants.{Less, Equal, Greater}
use Rattle.std.specs.FinMap as fin
use Rattle.std.specs.FinMap.{get, entries}
use Rattle.std.specs.FinMap.Entries.{below_all}
use Rattle.std.proofs.lemmas.Int.{ints}
use Rattle.base_values.specs.declared.Position.{Position}
use Rattle.base_values.specs.laws.KeyMap.{get-with_entry}
use Rattle.base_values.specs.Places.{position_cmp}
use Rattle.base_values.specs.laws.Places.{position_total, exact_positions}
use Rattle.base_axis.specs.declared.MergedCell.{MergedCell}
use Rattle.base_axis.specs.Rectangles.{anchor_place}
use Rattle.base_axis.specs.laws.RectangleLaws.{holds_found}
use Rattle.base_maps.specs.laws.Keys.{one_key, own_key, apart_keys, first_once}
use Rattle.formula_tree.specs.declared.Node.{Node}
use Rattle.cell_content.specs.declared.Content.TheVariants.{Array}
use Rattle.sheet_grid.specs.declared.Cell.{Cell}
use Rattle.sheet_grid.specs.Sheet.{Sheet}
use Rattle.sheet_rules.specs.Occupied.{covers}
use Rattle.sheet_rules.specs.laws.EntryLaws.{both}
use Rattle.sheet_rules.specs.laws.ShownLaws.{not_true}
use Rattle.sheet_history.specs.declared.Diff.TheVariants.{Cell as CellDiff}
use Rattle.sheet_history.specs.Entries.{EntryKey, EntryValue, key_cmp, sheet_id_of, sheet_entry}
use Rattle.sheet_history.specs.declared.LineAxis.TheVariants.{Rows, Columns}
use Rattle.sheet_history.specs.Entries.EntryKey.{AttrKey}
use Rattle.sheet_history.specs.Entries.EntryKey.{CellKey, LinkKey, MergesKey, FieldKey, SettingKey}
use Rattle.sheet_history.specs.Entries.EntryValue.{CellValue, FieldValue}
use Rattle.sheet_history.specs.Records.{Change, change_of, changed_entry, same_entry_value}
use Rattle.sheet_history.specs.laws.EntryLaws.{decide}
use Rattle.sheet_history.specs.laws.FieldLaws.{fields_stay}
use Rattle.sheet_history.specs.laws.RecordLaws.{key_total, exact_keys}
use Rattle.edit_plans.specs.ArrayInputs.{with_array}
use Rattle.edit_plans.specs.laws.EditRecords.{array_diffs, blank_diffs}
use Rattle.edit_plans.specs.Blanked.{blanked, blank_cell, loses}
use Rattle.edit_plans.specs.laws.BlankedLaws.{blanked_sheet}
use Rattle.edit_plans.specs.Inputs.{cell_entered}
use Rattle.edit_plans.specs.laws.BlankRecord.{blank_changes, changes_of, blank_sorted, blank_record, made_changes}
use Rattle.edit_plans.specs.laws.SheetRecords.{IsSheetRecord}

-- ---- the first place of a rectangle is before those that it covers

less : (a b : ℤ) → a ≤ℤ b → int_eq a b ≡ false → is_lt (int_cmp a b) ≡ true
less a b low other = grind (arith, ints, low, other)

tied : (a b : ℤ) → int_eq a b ≡ true → int_cmp a b ≡ Equal
tied a b same = grind (arith, ints, same)

first_less : (o p : Ordering) → is_lt o ≡ true → is_lt (ordering_then o p) ≡ true
first_less Less p is = refl
first_less Equal p is = absurd (let never : false ≡ true = is in cc)
first_less Greater p is = absurd (let never : false ≡ true = is in cc)

behind : (a b c d : ℤ) → a ≤ℤ b → c ≤ℤ d → (int_eq a b && int_eq c d) ≡ false → is_lt (ordering_then (int_cmp a b) (int_cmp c d)) ≡ true
behind a b c d low high apart = go (int_eq a b) refl apart
  where
    go : (same : Bool) → int_eq a b ≡ same → (same && int_eq c d) ≡ false → is_lt (ordering_then (int_cmp a b) (int_cmp c d)) ≡ true
    go true is other = ap (λ o. is_lt (ordering_then o (int_cmp c d))) (tied a b is) ∙ less c d high other
    go false is other = first_less (int_cmp a b) (int_cmp c d) (less a b low is)

covered_behind : (r : MergedCell) (place : Position) → covers r place ≡ true → is_lt (position_cmp (anchor_place r) place) ≡ true
covered_behind r place covered =
    let parts = both _ _ covered in
    let held = holds_found r place parts.0 in
    behind r.row place.row r.column place.column held.row_low held.column_low (not_true _ parts.1)

module _ (r : MergedCell) (tree : Node) (sheet : Sheet) where
  abbrev place : Position
  place = anchor_place r

  abbrev key : EntryKey
  key = CellKey sheet.id place

  abbrev old : EntryValue
  old = CellValue (get sheet.cells place)

  abbrev entry : Option Cell
  entry = cell_entered sheet place (Array tree r.width r.height)

  abbrev new : EntryValue
  new = CellValue entry

  order : (q : Position) → key_cmp key (CellKey sheet.id q) ≡ position_cmp place q
  order q = ap (λ o. ordering_then o (ordering_then (int_cmp place.row q.row) (int_cmp place.column q.column))) (tied_itself nat_cmp_total sheet.id)

  -- the change of the first cell is before the others
  below : (es : List (Position × Cell)) → below_all key_cmp key (changes_of r sheet.id es) ≡ true
  below [] = refl
  below (e ∷ es) = go (loses r e.0 e.1) refl (below es)
    where
      go : (b : Bool) → loses r e.0 e.1 ≡ b → below_all key_cmp key (changes_of r sheet.id es) ≡ true
          → below_all key_cmp key (cons_option (option_map (λ v. (CellKey sheet.id e.0, v)) (cond b (Some (CellValue (Some e.1), CellValue (Some (blank_cell e.1)))) None)) (changes_of r sheet.id es)) ≡ true
      go true lost rest = λ i. (ap is_lt (order e.0) ∙ covered_behind r e.0 (both _ _ lost).0) i && rest i
      go false lost rest = rest

  -- the changes of the first cell, if it is another one, and of the cells that lose their contents
  abbrev front : Bool → List Change
  front same = cond same [] ((key, (old, new)) ∷ [])

  abbrev same : Bool
  same = same_entry_value old new

  abbrev pub array_changes : List Change
  array_changes = front same ++ blank_changes r sheet

  in_order : (b : Bool) → IsTrue (fin.is_sorted key_cmp (front b ++ blank_changes r sheet))
  in_order true = blank_sorted r sheet
  in_order false = λ i. below (entries sheet.cells) i && blank_sorted r sheet i

  none_yet : fin.find key_cmp key (blank_changes r sheet) ≡ None
  none_yet = first_once key_cmp (key, (old, new)) (blank_changes r sheet) (in_order false)

  found_at : (b : Bool) → same ≡ b → fin.find key_cmp key (front b ++ blank_changes r sheet) ≡ changed_entry (Some old) (Some new)
  found_at true is = none_yet ∙ sym (ap (λ b. cond b None (Some (old, new))) is)
  found_at false is =
      ap (λ b. cond b (Some (old, new)) (fin.find key_cmp key (blank_changes r sheet))) (own_key key_cmp key_total exact_keys key)
      ∙ sym (ap (λ b. cond b None (Some (old, new))) is)

  found_other : (b : Bool) (k : EntryKey) → eq_by_cmp key_cmp k key ≡ false
      → fin.find key_cmp k (front b ++ blank_changes r sheet) ≡ fin.find key_cmp k (blank_changes r sheet)
  found_other true k other = refl
  found_other false k other = ap (λ b. cond b (Some (old, new)) (fin.find key_cmp k (blank_changes r sheet))) other

  abbrev next : Sheet
  next = with_array sheet r tree

  put : get next.cells place ≡ entry
  put =
      get-with_entry position_total (blanked r sheet.cells) place entry place
      ∙ ap (λ b. cond b entry (get (blanked r sheet.cells) place)) (own_key position_cmp position_total exact_positions place)

  stays : (k : EntryKey) → sheet_id_of k ≡ sheet.id → eq_by_cmp key_cmp k key ≡ false → sheet_entry k (blanked_sheet r sheet) ≡ sheet_entry k next
  stays (CellKey id q) own other = ap CellValue (sym (get-with_entry position_total (blanked r sheet.cells) place entry q ∙ ap (λ b. cond b entry (get (blanked r sheet.cells) q)) (apart_keys position_cmp position_total exact_positions q place (λ same.
      let one : CellKey id q ≡ key = λ i. CellKey (own i) (same i) in
      true≢false (sym (own_key key_cmp key_total exact_keys key) ∙ ap (λ k. eq_by_cmp key_cmp k key) (sym one) ∙ other)))))
  stays (LinkKey id q) own other = refl
  stays (MergesKey id) own other = refl
  stays (FieldKey id field) own other = ap FieldValue (fields_stay field (blanked_sheet r sheet) next refl refl refl refl refl)
  stays (AttrKey id Rows line) own other = refl
  stays (AttrKey id Columns line) own other = refl
  stays (SettingKey kind) own other = refl

  here : (k : EntryKey) → sheet_id_of k ≡ sheet.id → fin.find key_cmp k array_changes ≡ changed_entry (Some (sheet_entry k sheet)) (Some (sheet_entry k next))
  here k own = decide (eq_by_cmp key_cmp k key)
      (λ hit.
      let one : k ≡ key = one_key key_cmp key_total exact_keys k key hit in
      ap (λ l. fin.find key_cmp l array_changes) one ∙ found_at same refl
      ∙ sym (ap (λ l. changed_entry (Some (sheet_entry l sheet)) (Some (sheet_entry l next))) one ∙ ap (λ o. changed_entry (Some old) (Some (CellValue o))) put))
      (λ miss.
      found_other same k miss ∙ (blank_record r sheet).here k own
      ∙ ap (λ v. changed_entry (Some (sheet_entry k sheet)) (Some v)) (stays k own miss))

  elsewhere : (k : EntryKey) → sheet_id_of k ≢ sheet.id → fin.find key_cmp k array_changes ≡ None
  elsewhere k other =
      found_other same k (apart_keys key_cmp key_total exact_keys k key (λ one. other (ap sheet_id_of one))) ∙ (blank_record r sheet).elsewhere k other

  -- they are the record of the sheet
  pub array_record : IsSheetRecord (λ s. with_array s r tree) sheet array_changes
  array_record = record { ordered = in_order same; here = here; elsewhere = elsewhere }

  output : (b : Bool)
      → map change_of (cond b [] (CellDiff sheet.id place (get sheet.cells place) entry ∷ []) ++ blank_diffs r sheet) ≡ map Some (front b ++ blank_changes r sheet)
  output true = made_changes r sheet.id (entries sheet.cells)
  output false = ap (λ cs. Some (key, (old, new)) ∷ cs) (made_changes r sheet.id (entries sheet.cells))

  -- and those of its diffs
  pub array_made : map change_of (array_diffs r tree sheet) ≡ map Some array_changes
  array_made = output same
