-- An accepted edit by entries has a record.
use Rattle.std.specs.Prelude.{IfOk, IsTrue}
use Rattle.std.proofs.Common.{◌≡◌, ℕ, ℤ, Bool, true, false, cond, not, List, Option, Some, None, Result, Ok, Err, refl, ap, sym, subst, ◌∙◌}
use Rattle.base_values.specs.declared.EditError.{EditError}
use Rattle.base_values.specs.declared.EditError.TheVariants.{InvalidArea, MergeOverlap, ArrayCell, NoMerge}
use Rattle.base_values.specs.declared.Position.{Position}
use Rattle.base_values.specs.Answers.{and_then, map_ok}
use Rattle.base_values.specs.KeyMap.{with_entry}
use Rattle.base_values.specs.Places.{place_of}
use Rattle.base_axis.specs.declared.MergedCell.{MergedCell}
use Rattle.base_axis.specs.Rectangles.{anchor_place}
use Rattle.formula_tree.specs.declared.Node.{Node}
use Rattle.cell_content.specs.declared.Content.{Content}
use Rattle.cell_content.specs.declared.Content.TheVariants.{Array}
use Rattle.cell_content.specs.Fitting.{fits_at}
use Rattle.sheet_grid.specs.declared.Link.{Link}
use Rattle.sheet_grid.specs.Merges.{merge_holding}
use Rattle.sheet_grid.specs.Sheet.{Sheet, link_put}
use Rattle.sheet_grid.specs.Book.{Book, sheet_at, sheet_edit, with_sheet}
use Rattle.sheet_grid.specs.Arrays.{large_arrays_of}
use Rattle.sheet_rules.specs.Occupied.{is_merge, meets_any}
use Rattle.sheet_rules.specs.WellFormed.{IsWellFormed}
use Rattle.sheet_history.specs.declared.Diff.{Diff}
use Rattle.sheet_history.specs.declared.SheetField.{SheetField}
use Rattle.sheet_history.specs.Fields.{field_of, with_field}
use Rattle.sheet_history.specs.Records.{IsRecord}
use Rattle.edit_plans.specs.Plans.{HasRecord}
use Rattle.edit_plans.specs.Edits.{Edit, IsGiven, changed, is_of_entries}
use Rattle.edit_plans.specs.Edits.Edit.{Input, ArrayInput, SetLink, Merge, Unmerge, Lines, MoveLines, AddSheet, CopySheet, DeleteSheet, MoveSheet, RenameSheet, ChangeNames, EditRules, SetField, SetSize, SetHidden, SetRangeStyle, ClearRange, ClearFormatting, PasteStyles, SetSetting, Fill}
use Rattle.edit_plans.specs.Inputs.{IsInput, input_place, input_put, with_input}
use Rattle.edit_plans.specs.Links.{link_set}
use Rattle.edit_plans.specs.Merging.{merge_made, merge_undone, merged_in, unmerged_at, unmerged_in, with_merge, without_merge}
use Rattle.edit_plans.specs.laws.EditRecords.{array_diffs, field_change, fill_record, merge_diffs}
use Rattle.line_sizes.specs.declared.LineChange.{LineChange}
use Rattle.line_sizes.specs.declared.LineChange.TheVariants.{Hidden}
use Rattle.line_sizes.specs.LineChanges.{lines_from}
use Rattle.sheet_history.specs.declared.LineAxis.{LineAxis}
use Rattle.sheet_history.specs.LineDiffs.{along_of}
use Rattle.edit_plans.specs.LineRecords.{change_fits, lines_set, size_change}
use Rattle.edit_plans.specs.laws.AttrRules.{hidden_fits, size_fits}
use Rattle.edit_plans.specs.laws.LineRecordLaws.{attrs_exact, attrs_well_formed, lines_inside}
use Rattle.edit_plans.specs.LineEdits.{attrs_in, attrs_set}
use Rattle.edit_plans.specs.SheetEdits.{field_put, field_set}
use Rattle.edit_plans.specs.laws.FieldPlans.{field_exact, field_may, field_taken, field_well_formed}
use Rattle.edit_plans.specs.laws.InputLaws.{input_exact, input_well_formed}
use Rattle.edit_plans.specs.laws.LinkLaws.{link_exact, link_well_formed}
use Rattle.edit_plans.specs.ArrayInputs.{array_area, array_put, with_array}
use Rattle.edit_plans.proofs.ArrayPlans.{array_exact, array_is, array_well_formed}
use Rattle.base_tables.specs.declared.Language.{Language}
use Rattle.sheet_fill.specs.declared.FillPlan.{FillPlan}
use Rattle.sheet_fill.specs.Plans.{planned_in as filled_in}
use Rattle.edit_plans.specs.Fills.{fill_made, with_fill}
use Rattle.edit_plans.specs.laws.FillLaws.{fill_exact, fill_well_formed}
use Rattle.edit_plans.proofs.Merges.{merge_exact, merge_well_formed, unmerge_exact, unmerge_well_formed}
use Rattle.edit_plans.proofs.MergePlans.{may_merge}
use Rattle.base_axis.specs.Rectangles.{IsInside}
use Rattle.base_styles.specs.declared.Style.{Style}
use Rattle.base_styles.specs.DefaultStyle.{default_style}
use Rattle.base_values.specs.declared.EditError.TheVariants.{StylesShape, StyleValue}
use Rattle.range_styles.specs.declared.AreaKind.TheVariants.{OtherPlaces}
use Rattle.range_styles.specs.declared.Clearing.{Clearing}
use Rattle.range_styles.specs.declared.SheetPlan.{SheetPlan}
use Rattle.range_styles.specs.declared.StyleRange.{StyleRange}
use Rattle.range_styles.specs.Clearing.{clear_area, clear_plan}
use Rattle.range_styles.specs.Styled.{Accepts, StyleAt, all_accept, planned_styles, style_plan}
use Rattle.range_styles.specs.Tiles.{tiles}
use Rattle.edit_plans.specs.SheetPlans.{with_plan}
use Rattle.edit_plans.specs.laws.AtIndex.{keeps}
use Rattle.edit_plans.specs.laws.PlanRules.{PlanKeeps}
use Rattle.edit_plans.specs.RangeEdits.{cleared_in, formats_cleared, formats_in, inside_area, is_tile, may_update, pasted_in, planned_in, range_cleared, styles_in, styles_pasted, styles_set, update_refusal, updates, whole_range}
use Rattle.edit_plans.specs.laws.RangeRules.{IsSized, cleared_keeps, styled_keeps}
use Rattle.edit_plans.proofs.Ranges.{carried_has_record, clear_is, default_sized, inside_is, tiles_keep, updates_sized}

-- what was found by an accepted edit of the sheet at an index
record IsEdited (w : Book) (index : ℕ) (edit : Sheet → Result Sheet EditError) (later : Book) : Type 0 where
  sheet : Sheet
  at : sheet_at w index ≡ Ok sheet
  next : Sheet
  done : edit sheet ≡ Ok next
  later_is : with_sheet w index next ≡ later

edited : (w : Book) (index : ℕ) (edit : Sheet → Result Sheet EditError) (later : Book) → sheet_edit w index edit ≡ Ok later → IsEdited w index edit later
edited w index edit later how = on_index (sheet_at w index) refl how
  where
    on_sheet : (sheet : Sheet) → sheet_at w index ≡ Ok sheet → (r : Result Sheet EditError) → edit sheet ≡ r → map_ok (with_sheet w index) r ≡ Ok later → IsEdited w index edit later
    on_sheet sheet at (Ok next) done e = record { sheet = sheet; at = at; next = next; done = done; later_is = let same : with_sheet w index next ≡ later = cc in same }
    on_sheet sheet at (Err error) done e = absurd (let never : ◌≡◌ {A = Result Book EditError} (Err error) (Ok later) = e in cc)

    on_index : (r : Result Sheet EditError) → sheet_at w index ≡ r → and_then r (λ sheet. map_ok (with_sheet w index) (edit sheet)) ≡ Ok later → IsEdited w index edit later
    on_index (Ok sheet) at e = on_sheet sheet at (edit sheet) refl e
    on_index (Err error) at e = absurd (let never : ◌≡◌ {A = Result Book EditError} (Err error) (Ok later) = e in cc)

-- a record of the workbook that an edit leaves is one of the later workbook
has_record : (w : Book) (index : ℕ) (next output : Sheet) (later : Book) (list : List Diff) → ◌≡◌ {A = Result Sheet EditError} (Ok output) (Ok next) → with_sheet w index next ≡ later
    → IsRecord w (with_sheet w index output) list → IsWellFormed (with_sheet w index output) → HasRecord w later
has_record w index next output later list done is exact rules =
    let same : output ≡ next = cc in
    let book : with_sheet w index output ≡ later = ap (with_sheet w index) same ∙ is in
    record { list = list; exact = subst (λ b. IsRecord w b list) book exact; rules = subst IsWellFormed book rules }

module _ (index : ℕ) (row column : ℤ) where
  pub input_has_record : (content : Content) (feeds : ℕ) (w later : Book) → IsWellFormed w → IsInput row column content → input_put index row column content feeds w ≡ Ok later → HasRecord w later
  unfolding input_put
  input_has_record content feeds w later rules may how =
      let it = edited w index (λ s. map_ok (with_input s content feeds) (input_place s row column)) later how in
      go it.sheet it.next it.at it.later_is (input_place it.sheet row column) refl it.done
    where
      go : (sheet next : Sheet) → sheet_at w index ≡ Ok sheet → with_sheet w index next ≡ later → (r : Result Position EditError) → input_place sheet row column ≡ r → map_ok (with_input sheet content feeds) r ≡ Ok next → HasRecord w later
      go sheet next at is (Ok place) goes e =
          has_record w index next (with_input sheet content feeds place) later _ e is (input_exact w index row column content feeds rules may sheet place at goes) (input_well_formed w index row column content feeds rules may sheet place at goes)
      go sheet next at is (Err error) goes e = absurd (let never : ◌≡◌ {A = Result Sheet EditError} (Err error) (Ok next) = e in cc)

  pub link_has_record : (entry : Option Link) (w later : Book) → IsWellFormed w → link_set index row column entry w ≡ Ok later → HasRecord w later
  unfolding link_set
  link_has_record entry w later rules how =
      let it = edited w index (λ s. link_put s row column entry) later how in
      go it.sheet it.next it.at it.later_is (place_of row column) refl it.done
    where
      go : (sheet next : Sheet) → sheet_at w index ≡ Ok sheet → with_sheet w index next ≡ later → (r : Result Position EditError) → place_of row column ≡ r
          → map_ok (λ p. record sheet { links = with_entry sheet.links p entry }) r ≡ Ok next → HasRecord w later
      go sheet next at is (Ok place) named e =
          has_record w index next (record sheet { links = with_entry sheet.links place entry }) later _ e is (link_exact w index row column entry rules sheet place at named) (link_well_formed w index row column entry rules sheet place at named)
      go sheet next at is (Err error) named e = absurd (let never : ◌≡◌ {A = Result Sheet EditError} (Err error) (Ok next) = e in cc)

  pub unmerge_has_record : (w later : Book) → IsWellFormed w → merge_undone index row column w ≡ Ok later → HasRecord w later
  unfolding merge_undone
  unmerge_has_record w later rules how =
      let it = edited w index (unmerged_in row column) later how in
      on_place it.sheet it.next it.at it.later_is (place_of row column) it.done
    where
      on_merge : (sheet next : Sheet) → sheet_at w index ≡ Ok sheet → with_sheet w index next ≡ later → (place : Position) (o : Option MergedCell) → merge_holding sheet.merges place ≡ o → unmerged_at sheet place o ≡ Ok next → HasRecord w later
      on_merge sheet next at is place (Some merge) found e =
          has_record w index next (without_merge sheet place) later _ e is (unmerge_exact w rules index sheet at place merge found) (unmerge_well_formed w rules index sheet at place)
      on_merge sheet next at is place None found e = absurd (let never : ◌≡◌ {A = Result Sheet EditError} (Err NoMerge) (Ok next) = e in cc)

      on_place : (sheet next : Sheet) → sheet_at w index ≡ Ok sheet → with_sheet w index next ≡ later → (r : Result Position EditError) → and_then r (λ p. unmerged_at sheet p (merge_holding sheet.merges p)) ≡ Ok next → HasRecord w later
      on_place sheet next at is (Ok place) e = on_merge sheet next at is place (merge_holding sheet.merges place) refl e
      on_place sheet next at is (Err error) e = absurd (let never : ◌≡◌ {A = Result Sheet EditError} (Err error) (Ok next) = e in cc)

pub merge_has_record : (index : ℕ) (r : MergedCell) (w later : Book) → IsWellFormed w → merge_made index r w ≡ Ok later → HasRecord w later
unfolding merge_made
merge_has_record index r w later rules how =
    let it = edited w index (merged_in r) later how in
    let may = may_merge it.sheet r it.next it.done in
    let done : merged_in r it.sheet ≡ Ok (with_merge it.sheet r) = merged it.sheet may.is may.free may.clear in
    has_record w index it.next (with_merge it.sheet r) later (merge_diffs r it.sheet) (sym done ∙ it.done) it.later_is (merge_exact w rules index it.sheet it.at r)
    (merge_well_formed w rules index it.sheet it.at r may.is may.free may.clear)
  where
    merged : (sheet : Sheet) → is_merge r ≡ true → meets_any sheet.merges r ≡ false → meets_any (large_arrays_of sheet) r ≡ false → merged_in r sheet ≡ Ok (with_merge sheet r)
    merged sheet is free clear = λ i. cond (not (is i)) (Err InvalidArea) (cond (free i) (Err MergeOverlap) (cond (clear i) (Err ArrayCell) (Ok (with_merge sheet r))))

pub array_has_record : (index : ℕ) (r : MergedCell) (tree : Node) (w later : Book) → IsWellFormed w → IsTrue (fits_at (anchor_place r) (Array tree r.width r.height)) → array_put index r tree w ≡ Ok later → HasRecord w later
unfolding array_put
array_has_record index r tree w later rules fits how =
    let it = edited w index (λ s. map_ok (λ area. with_array s area tree) (array_area s r)) later how in
    go it.sheet it.next it.at it.later_is (array_area it.sheet r) refl it.done
  where
    go : (sheet next : Sheet) → sheet_at w index ≡ Ok sheet → with_sheet w index next ≡ later → (o : Result MergedCell EditError) → array_area sheet r ≡ o
        → map_ok (λ area. with_array sheet area tree) o ≡ Ok next → HasRecord w later
    go sheet next at is (Ok area) goes e =
        has_record w index next (with_array sheet r tree) later (array_diffs r tree sheet)
        (ap (λ a. Ok (with_array sheet a tree)) (array_is w index r tree sheet at rules fits area goes) ∙ e) is
        (array_exact w index r tree sheet at rules fits area goes) (array_well_formed w index r tree sheet at rules fits area goes)
    go sheet next at is (Err error) goes e = absurd (let never : ◌≡◌ {A = Result Sheet EditError} (Err error) (Ok next) = e in cc)

pub field_has_record : (index : ℕ) (value : SheetField) (w later : Book) → IsWellFormed w → field_set index value w ≡ Ok later → HasRecord w later
unfolding field_set
field_has_record index value w later rules how =
    let it = edited w index (field_put value) later how in
    let may = field_may value it.sheet it.next it.done in
    has_record w index it.next (with_field (field_of value) value it.sheet) later (field_change it.sheet value) (sym (field_taken value it.sheet may) ∙ it.done) it.later_is
    (field_exact w index value may rules it.sheet it.at) (field_well_formed w index value may rules it.sheet it.at)

attrs_has_record : (index : ℕ) (axis : LineAxis) (first last : ℤ) (change : Result LineChange EditError) (w later : Book) → IsWellFormed w
    → IfOk change (λ output. change_fits axis output ≡ true) → attrs_set index axis first last change w ≡ Ok later → HasRecord w later
unfolding attrs_set
attrs_has_record index axis first last change w later rules fits how =
    let it = edited w index (attrs_in axis first last change) later how in
    go it.sheet it.next it.at it.later_is (lines_from (along_of axis).last first last) refl change fits it.done
  where
    go : (sheet next : Sheet) → sheet_at w index ≡ Ok sheet → with_sheet w index next ≡ later → (r : Result ℕ EditError) → lines_from (along_of axis).last first last ≡ r
        → (output : Result LineChange EditError) → IfOk output (λ change. change_fits axis change ≡ true)
        → and_then r (λ count. map_ok (λ change. lines_set axis change first count sheet) output) ≡ Ok next → HasRecord w later
    go sheet next at is (Ok count) from (Ok change) fits e =
        has_record w index next (lines_set axis change first count sheet) later _ e is
        (attrs_exact w rules index sheet at axis change fits first count (lines_inside (along_of axis).last first last count from))
        (attrs_well_formed w rules index sheet at axis change fits first count (lines_inside (along_of axis).last first last count from))
    go sheet next at is (Ok count) from (Err error) fits e = absurd (let never : ◌≡◌ {A = Result Sheet EditError} (Err error) (Ok next) = e in cc)
    go sheet next at is (Err error) from output fits e = absurd (let never : ◌≡◌ {A = Result Sheet EditError} (Err error) (Ok next) = e in cc)

-- a plan of a sheet that was carried out, if none was refused
planned_has_record : (w later : Book) (rules : IsWellFormed w) (index : ℕ) (sheet next : Sheet) (at : sheet_at w index ≡ Ok sheet) → with_sheet w index next ≡ later
    → (plan : SheetPlan) → PlanKeeps plan sheet → ◌≡◌ {A = Result Sheet EditError} (Ok (with_plan plan sheet)) (Ok next) → HasRecord w later
planned_has_record w later rules index sheet next at is plan keeping done =
    let same : with_plan plan sheet ≡ next = cc in carried_has_record w later rules index sheet at plan keeping (ap (with_sheet w index) same ∙ is)

-- styles that are changed in a rectangle
changed_has_record : (w later : Book) (rules : IsWellFormed w) (index : ℕ) (sheet next : Sheet) (at : sheet_at w index ≡ Ok sheet) → with_sheet w index next ≡ later
    → (range : StyleRange) → IsInside range.area → (output : StyleAt) → IsSized output → (accepts : Accepts) (refusal : EditError)
    → planned_in sheet (planned_styles range output accepts refusal sheet) ≡ Ok next → HasRecord w later
unfolding planned_styles
changed_has_record w later rules index sheet next at is range inside output sized accepts refusal done = go (all_accept range accepts sheet) done
  where
    go : (b : Bool) → planned_in sheet (cond b (Ok (style_plan range output sheet)) (Err refusal)) ≡ Ok next → HasRecord w later
    go true e = planned_has_record w later rules index sheet next at is (style_plan range output sheet) (styled_keeps range inside output sized sheet (keeps w rules index sheet at)) e
    go false e = absurd (let never : ◌≡◌ {A = Result Sheet EditError} (Err refusal) (Ok next) = e in cc)

styles_has_record : (index : ℕ) (r : MergedCell) (path value : List ℕ) (w later : Book) → IsWellFormed w → styles_set index r path value w ≡ Ok later → HasRecord w later
unfolding styles_set
styles_has_record index r path value w later rules how =
    let it = edited w index (styles_in r path value) later how in go it.sheet it.next it.at it.later_is (inside_area r) refl it.done
  where
    go : (sheet next : Sheet) → sheet_at w index ≡ Ok sheet → with_sheet w index next ≡ later → (a : Result MergedCell EditError) → inside_area r ≡ a
        → and_then a (λ area. planned_in sheet (planned_styles (whole_range area false) (updates path value) (may_update path value) (update_refusal path value) sheet)) ≡ Ok next
        → HasRecord w later
    go sheet next at is (Ok area) from e =
        changed_has_record w later rules index sheet next at is (whole_range area false) (inside_is r area from) (updates path value) (updates_sized path value)
        (may_update path value) (update_refusal path value) e
    go sheet next at is (Err error) from e = absurd (let never : ◌≡◌ {A = Result Sheet EditError} (Err error) (Ok next) = e in cc)

formats_has_record : (index : ℕ) (r : MergedCell) (w later : Book) → IsWellFormed w → formats_cleared index r w ≡ Ok later → HasRecord w later
unfolding formats_cleared
formats_has_record index r w later rules how =
    let it = edited w index (formats_in r) later how in go it.sheet it.next it.at it.later_is (inside_area r) refl it.done
  where
    go : (sheet next : Sheet) → sheet_at w index ≡ Ok sheet → with_sheet w index next ≡ later → (a : Result MergedCell EditError) → inside_area r ≡ a
        → and_then a (λ area. planned_in sheet (planned_styles (whole_range area true) (λ place style. default_style) (λ place style. true) StyleValue sheet)) ≡ Ok next
        → HasRecord w later
    go sheet next at is (Ok area) from e =
        changed_has_record w later rules index sheet next at is (whole_range area true) (inside_is r area from) (λ place style. default_style) default_sized
        (λ place style. true) StyleValue e
    go sheet next at is (Err error) from e = absurd (let never : ◌≡◌ {A = Result Sheet EditError} (Err error) (Ok next) = e in cc)

pasted_has_record : (index : ℕ) (r : MergedCell) (styles : List (List Style)) (w later : Book) → IsWellFormed w → styles_pasted index r styles w ≡ Ok later → HasRecord w later
unfolding styles_pasted
pasted_has_record index r styles w later rules how = tiled (is_tile styles) how
  where
    go : (sheet next : Sheet) → sheet_at w index ≡ Ok sheet → with_sheet w index next ≡ later → (a : Result MergedCell EditError) → inside_area r ≡ a
        → and_then a (λ area. planned_in sheet (planned_styles (record { area = area; kind = OtherPlaces; clears = false }) (tiles styles (anchor_place r)) (λ place style. true) StyleValue sheet))
        ≡ Ok next → HasRecord w later
    go sheet next at is (Ok area) from e =
        changed_has_record w later rules index sheet next at is (record { area = area; kind = OtherPlaces; clears = false }) (inside_is r area from)
        (tiles styles (anchor_place r)) (tiles_keep styles r) (λ place style. true) StyleValue e
    go sheet next at is (Err error) from e = absurd (let never : ◌≡◌ {A = Result Sheet EditError} (Err error) (Ok next) = e in cc)

    tiled : (b : Bool) → cond b (sheet_edit w index (pasted_in r styles)) (Err StylesShape) ≡ Ok later → HasRecord w later
    tiled true e = let it = edited w index (pasted_in r styles) later e in go it.sheet it.next it.at it.later_is (inside_area r) refl it.done
    tiled false e = absurd (let never : ◌≡◌ {A = Result Book EditError} (Err StylesShape) (Ok later) = e in cc)

cleared_has_record : (index : ℕ) (clearing : Clearing) (r : MergedCell) (w later : Book) → IsWellFormed w → range_cleared index clearing r w ≡ Ok later → HasRecord w later
unfolding range_cleared
cleared_has_record index clearing r w later rules how =
    let it = edited w index (cleared_in clearing r) later how in go it.sheet it.next it.at it.later_is (clear_area r it.sheet) refl it.done
  where
    go : (sheet next : Sheet) → sheet_at w index ≡ Ok sheet → with_sheet w index next ≡ later → (a : Result MergedCell EditError) → clear_area r sheet ≡ a
        → map_ok (λ area. with_plan (clear_plan clearing area sheet) sheet) a ≡ Ok next → HasRecord w later
    go sheet next at is (Ok area) from e =
        planned_has_record w later rules index sheet next at is (clear_plan clearing area sheet)
        (cleared_keeps clearing area (clear_is r area sheet from) sheet (keeps w rules index sheet at)) e
    go sheet next at is (Err error) from e = absurd (let never : ◌≡◌ {A = Result Sheet EditError} (Err error) (Ok next) = e in cc)

fill_has_record : (index : ℕ) (axis : LineAxis) (source : MergedCell) (to : ℤ) (language : Language) (w later : Book) → IsWellFormed w
    → fill_made index axis source to language w ≡ Ok later → HasRecord w later
unfolding fill_made
fill_has_record index axis source to language w later rules how =
    let it = edited w index (λ s. map_ok (with_fill s) (filled_in (along_of axis) source to w.locale language s)) later how in
    go it.sheet it.next it.at it.later_is (filled_in (along_of axis) source to w.locale language it.sheet) refl it.done
  where
    go : (sheet next : Sheet) → sheet_at w index ≡ Ok sheet → with_sheet w index next ≡ later → (r : Result FillPlan EditError)
        → filled_in (along_of axis) source to w.locale language sheet ≡ r → map_ok (with_fill sheet) r ≡ Ok next → HasRecord w later
    go sheet next at is (Ok plan) planned e =
        has_record w index next (with_fill sheet plan) later (fill_record sheet plan) e is
        (fill_exact w rules index sheet at axis source to language plan planned) (fill_well_formed w rules index sheet at axis source to language plan planned)
    go sheet next at is (Err error) planned e = absurd (let never : ◌≡◌ {A = Result Sheet EditError} (Err error) (Ok next) = e in cc)

pub accepted : (edit : Edit) (earlier later : Book) → IsTrue (is_of_entries edit) → IsGiven edit → IsWellFormed earlier → changed edit earlier ≡ Ok later → HasRecord earlier later
accepted (Input index row column content feeds) earlier later is given rules how = input_has_record index row column content feeds earlier later rules given how
accepted (ArrayInput index r tree) earlier later is given rules how = array_has_record index r tree earlier later rules given how
accepted (SetLink index row column link) earlier later is given rules how = link_has_record index row column link earlier later rules how
accepted (Merge index r) earlier later is given rules how = merge_has_record index r earlier later rules how
accepted (Unmerge index row column) earlier later is given rules how = unmerge_has_record index row column earlier later rules how
accepted (Lines index axis kind) earlier later is given rules how = absurd (let never : false ≡ true = is in cc)
accepted (MoveLines index axis first count delta) earlier later is given rules how = absurd (let never : false ≡ true = is in cc)
accepted AddSheet earlier later is given rules how = absurd (let never : false ≡ true = is in cc)
accepted (CopySheet index) earlier later is given rules how = absurd (let never : false ≡ true = is in cc)
accepted (DeleteSheet index) earlier later is given rules how = absurd (let never : false ≡ true = is in cc)
accepted (MoveSheet from to) earlier later is given rules how = absurd (let never : false ≡ true = is in cc)
accepted (RenameSheet index name) earlier later is given rules how = absurd (let never : false ≡ true = is in cc)
accepted (SetSetting setting) earlier later is given rules how = absurd (let never : false ≡ true = is in cc)
accepted (ChangeNames edit) earlier later is given rules how = absurd (let never : false ≡ true = is in cc)
accepted (EditRules edit) earlier later is given rules how = absurd (let never : false ≡ true = is in cc)
accepted (SetField index value) earlier later is given rules how = field_has_record index value earlier later rules how
accepted (SetSize index axis first last size) earlier later is given rules how = attrs_has_record index axis first last (size_change axis size) earlier later rules (size_fits axis size) how
accepted (SetHidden index axis first last hidden) earlier later is given rules how = attrs_has_record index axis first last (Ok (Hidden hidden)) earlier later rules (hidden_fits axis hidden) how
accepted (SetRangeStyle index r path value) earlier later is given rules how = styles_has_record index r path value earlier later rules how
accepted (ClearRange index clearing r) earlier later is given rules how = cleared_has_record index clearing r earlier later rules how
accepted (ClearFormatting index r) earlier later is given rules how = formats_has_record index r earlier later rules how
accepted (PasteStyles index r styles) earlier later is given rules how = pasted_has_record index r styles earlier later rules how
accepted (Fill index axis source to language) earlier later is given rules how = fill_has_record index axis source to language earlier later rules how
