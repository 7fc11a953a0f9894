-- A plan that changes no content, but takes some away, leaves a sheet that keeps its rules.
use Rattle.std.proofs.Common.{◌≡◌, ◌⊎◌, inl, inr, ℤ, pos, true, false, ◌&&◌, Option, Some, None, refl, ap, sym, subst, ◌∙◌}
use Rattle.std.specs.Prelude.{IsTrue}
use Rattle.std.specs.List.{list_all}
use Rattle.std.specs.Option.{option_and_then}
use Rattle.std.specs.Ordering.{int_cmp}
use Rattle.std.specs.Cmp.{int_cmp_total}
use Rattle.std.specs.FinMap.{FinMap, entries, get}
use Rattle.std.proofs.lemmas.Map.Lookups.{exact_signed}
use Rattle.base_values.specs.declared.Position.{Position}
use Rattle.base_values.specs.Places.{is_line, position_cmp, is_place}
use Rattle.base_values.specs.laws.Places.{position_total, exact_positions}
use Rattle.base_axis.specs.declared.MergedCell.{MergedCell}
use Rattle.planned_maps.specs.Planned.{carried_out}
use Rattle.planned_maps.specs.laws.PlannedLaws.{carried, get-carried_out}
use Rattle.cell_content.specs.Fitting.{fits_at}
use Rattle.cell_content.specs.declared.Content.{Content}
use Rattle.cell_content.specs.declared.Content.TheVariants.{Empty}
use Rattle.sheet_grid.specs.declared.Cell.{Cell}
use Rattle.sheet_grid.specs.declared.LineAttr.{LineAttr}
use Rattle.sheet_grid.specs.declared.Link.{Link}
use Rattle.sheet_grid.specs.Arrays.{array_at, large_array_at}
use Rattle.sheet_grid.specs.laws.FittingCells.{entry_fits_at}
use Rattle.sheet_grid.specs.Merges.{is_empty}
use Rattle.sheet_grid.specs.Sheet.{Sheet}
use Rattle.sheet_rules.specs.Occupied.{are_hidden_blank, have_arrays, have_merges}
use Rattle.sheet_rules.specs.WellFormed.{has_font, have_attributes, have_trees, is_column, is_row, has_keys_inside}
use Rattle.sheet_rules.specs.laws.ArraysIn.{array_in, large_array_in}
use Rattle.sheet_rules.specs.laws.EntryLaws.{both}
use Rattle.sheet_rules.specs.laws.OccupiedLaws.{are_hidden_blank_from, have_arrays_from, have_merges_from, keeps_arrays, keeps_hidden, keeps_merges}
use Rattle.sheet_rules.specs.laws.ShownLaws.{no_value}
use Rattle.sheet_rules.specs.laws.WellFormedLaws.{cells_fit_from_trees, have_trees_from_cells_fit}
use Rattle.range_styles.specs.declared.SheetPlan.{SheetPlan}
use Rattle.sheet_history.specs.declared.LineAxis.{LineAxis}
use Rattle.sheet_history.specs.declared.LineAxis.TheVariants.{Rows, Columns}
use Rattle.sheet_history.specs.laws.Entries.{all_entries, entry_holds}
use Rattle.sheet_history.specs.laws.RuleLaws.{KeepsSheetRules}
use Rattle.edit_plans.specs.SheetPlans.{with_plan}
use Rattle.edit_plans.specs.laws.AttrRules.{own_attr, own_entry}

-- the content of a cell is none, or that of the cell that stood there
pub record Had (old : Option Cell) (content : Content) : Type 0 where
  pub cell : Cell
  pub found : old ≡ Some cell
  pub is : content ≡ cell.content

abbrev pub IsLeft : Option Cell → Content → Type 0
IsLeft old content = (is_empty content ≡ true) ⊎ Had old content

-- what may be planned of a cell: a cell with a content that is left and a font, or none
abbrev pub IsLeftCell : Option Cell → Option Cell → Type 0
IsLeftCell old None = Unit {0}
IsLeftCell old (Some cell) = IsLeft old cell.content × (has_font cell.style ≡ true)

-- a plan that leaves or takes contents, at places of the sheet, and gives lines what they may have
pub record PlanKeeps (plan : SheetPlan) (sheet : Sheet) : Type 0 where
  pub cells : (place : Position) (entry : Option Cell) → get plan.cells place ≡ Some entry → (is_place place ≡ true) × IsLeftCell (get sheet.cells place) entry
  pub links : (place : Position) (entry : Option Link) → get plan.links place ≡ Some entry → is_place place ≡ true
  pub columns : (line : ℤ) (entry : Option LineAttr) → get plan.columns line ≡ Some entry → (is_line (pos 16384) line ≡ true) × (own_entry Columns entry ≡ true)
  pub rows : (line : ℤ) (entry : Option LineAttr) → get plan.rows line ≡ Some entry → (is_line (pos 1048576) line ≡ true) × (own_entry Rows entry ≡ true)

module _ (plan : SheetPlan) (sheet : Sheet) (keeps : PlanKeeps plan sheet) (rules : KeepsSheetRules sheet) where
  abbrev next : Sheet
  next = with_plan plan sheet

  -- ---- cells

  get-cell : (place : Position) → get next.cells place ≡ carried (get plan.cells place) (get sheet.cells place)
  get-cell place = get-carried_out position_cmp position_total exact_positions plan.cells sheet.cells place

  inner : (list_all (λ (e : Position × Cell). is_place e.0) (entries sheet.cells) ≡ true)
      × (list_all (λ (e : Position × Link). is_place e.0) (entries sheet.links) ≡ true)
  unfolding has_keys_inside
  inner = both _ _ (both _ _ (both _ _ rules.inside).0).0

  row_places : list_all (λ (e : ℤ × LineAttr). is_line (pos 1048576) e.0) (entries sheet.rows) ≡ true
  unfolding has_keys_inside
  row_places = (both _ _ (both _ _ rules.inside).0).1

  column_places : list_all (λ (e : ℤ × LineAttr). is_line (pos 16384) e.0) (entries sheet.columns) ≡ true
  unfolding has_keys_inside
  column_places = (both _ _ rules.inside).1

  attributes : (list_all (λ (e : ℤ × LineAttr). is_row e.1) (entries sheet.rows) ≡ true)
      × (list_all (λ (e : ℤ × LineAttr). is_column e.1) (entries sheet.columns) ≡ true)
  unfolding have_attributes
  attributes = both _ _ (both _ _ rules.attributes).0

  fonts : list_all (λ (e : Position × Cell). has_font e.1.style) (entries sheet.cells) ≡ true
  unfolding have_attributes
  fonts = (both _ _ rules.attributes).1

  -- what a cell that stands there then is
  record Now (place : Position) (cell : Cell) : Type 0 where
    inside : is_place place ≡ true
    left : IsLeft (get sheet.cells place) cell.content
    font : has_font cell.style ≡ true

  now : (place : Position) (cell : Cell) → get next.cells place ≡ Some cell → Now place cell
  now place cell found = go (get plan.cells place) refl (sym (get-cell place) ∙ found)
    where
      go : (o : Option (Option Cell)) → get plan.cells place ≡ o → carried o (get sheet.cells place) ≡ Some cell → Now place cell
      go None none is = record {
        inside = entry_holds position_cmp position_total exact_positions (λ (e : Position × Cell). is_place e.0) sheet.cells inner.0 place cell is;
        left = inr (record { cell = cell; found = is; is = refl });
        font = entry_holds position_cmp position_total exact_positions (λ (e : Position × Cell). has_font e.1.style) sheet.cells fonts place cell is;
      }
      go (Some None) some is = absurd (no_value cell is)
      go (Some (Some new)) some is =
          let same : new ≡ cell = cc in
          let kept = keeps.cells place (Some new) some in
          record {
            inside = kept.0;
            left = subst (λ (c : Cell). IsLeft (get sheet.cells place) c.content) same kept.1.0;
            font =
                sym (ap (λ (c : Cell). has_font c.style) same) ∙ kept.1.1;
          }

  empty_is : (content : Content) → is_empty content ≡ true → content ≡ Empty
  empty_is Empty h = refl
  empty_is content h = absurd (let never : false ≡ true = h in cc)

  -- what a content shows at a place, where none shows nothing
  module _ (shape : Position → Content → Option MergedCell) (blank : (place : Position) → shape place Empty ≡ None) where
    abbrev shown : Sheet → Position → Option MergedCell
    shown s place = option_and_then (λ (c : Cell). shape place c.content) (get s.cells place)

    shown_was : (place : Position) (array : MergedCell) → shown next place ≡ Some array → shown sheet place ≡ Some array
    shown_was place array at = go (get next.cells place) refl at
      where
        left : (cell : Cell) → IsLeft (get sheet.cells place) cell.content → shape place cell.content ≡ Some array → shown sheet place ≡ Some array
        left cell (inl empty) is = absurd (no_value array (sym (ap (shape place) (empty_is cell.content empty) ∙ blank place) ∙ is))
        left cell (inr had) is = ap (option_and_then (λ (c : Cell). shape place c.content)) had.found ∙ ap (shape place) (sym had.is) ∙ is

        go : (o : Option Cell) → get next.cells place ≡ o → option_and_then (λ (c : Cell). shape place c.content) o ≡ Some array → shown sheet place
            ≡ Some array
        go None found is = absurd (no_value array is)
        go (Some cell) found is = left cell (now place cell found).left is

  array_was : (place : Position) (array : MergedCell) → array_in next place ≡ Some array → array_in sheet place ≡ Some array
  array_was = shown_was array_at (λ place. refl)

  large_was : (place : Position) (array : MergedCell) → large_array_in next place ≡ Some array → large_array_in sheet place ≡ Some array
  large_was = shown_was large_array_at (λ place. refl)

  arrays_stay : have_arrays next ≡ true
  arrays_stay =
      let old = keeps_arrays sheet rules.arrays in
      have_arrays_from next (record {
        inside = λ place array at. old.inside place array (array_was place array at);
        apart = λ p q a b differ at_p at_q. old.apart p q a b differ (large_was p a at_p) (large_was q b at_q);
      })

  merges_stay : have_merges next ≡ true
  merges_stay =
      let old = keeps_merges sheet rules.merges in
      have_merges_from next (record { merges = old.merges; apart = old.apart; arrays = λ place array at. old.arrays place array (large_was place array at) })

  -- a content that is left stood there
  filled_was : (place : Position) (cell : Cell) → get next.cells place ≡ Some cell → is_empty cell.content ≡ false → Had (get sheet.cells place) cell.content
  filled_was place cell found filled = go (now place cell found).left
    where
      go : IsLeft (get sheet.cells place) cell.content → Had (get sheet.cells place) cell.content
      go (inl empty) = absurd (let never : false ≡ true = sym filled ∙ empty in cc)
      go (inr had) = had

  hidden_stay : are_hidden_blank next ≡ true
  hidden_stay =
      let old = keeps_hidden sheet rules.hidden in
      are_hidden_blank_from next (record {
        merges = λ place cell found filled.
            let had = filled_was place cell found filled in
            old.merges place had.cell had.found (sym (ap is_empty had.is) ∙ filled);
        arrays = λ p q array cell at found filled.
            let had = filled_was q cell found filled in
            old.arrays p q array had.cell (large_was p array at) had.found (sym (ap is_empty had.is) ∙ filled);
      })

  trees_stay : have_trees next ≡ true
  trees_stay = have_trees_from_cells_fit next (λ place. go place (get next.cells place) refl)
    where
      left : (place : Position) (cell : Cell) → IsLeft (get sheet.cells place) cell.content → fits_at place cell.content ≡ true
      left place cell (inl empty) = ap (fits_at place) (empty_is cell.content empty)
      left place cell (inr had) =
          ap (fits_at place) had.is ∙ sym (ap (entry_fits_at place) had.found) ∙ cells_fit_from_trees sheet rules.trees place

      go : (place : Position) (o : Option Cell) → get next.cells place ≡ o → IsTrue (entry_fits_at place (get next.cells place))
      go place None found = ap (entry_fits_at place) found
      go place (Some cell) found = ap (entry_fits_at place) found ∙ left place cell (now place cell found).left

  -- ---- links and lines

  links_inside : list_all (λ (e : Position × Link). is_place e.0) (entries next.links) ≡ true
  links_inside = all_entries position_cmp position_total exact_positions (λ (e : Position × Link). is_place e.0) next.links (λ place link found.
      go place link (get plan.links place) refl (sym (get-carried_out position_cmp position_total exact_positions plan.links sheet.links place) ∙ found))
    where
      go : (place : Position) (link : Link) (o : Option (Option Link)) → get plan.links place ≡ o → carried o (get sheet.links place) ≡ Some link
          → is_place place ≡ true
      go place link None none is =
          entry_holds position_cmp position_total exact_positions (λ (e : Position × Link). is_place e.0) sheet.links inner.1 place link is
      go place link (Some entry) some is = keeps.links place entry some

  module _ (axis : LineAxis) (last : ℤ) (plan_lines : FinMap int_cmp (Option LineAttr)) (lines : FinMap int_cmp LineAttr)
      (planned : (line : ℤ) (entry : Option LineAttr) → get plan_lines line ≡ Some entry → (is_line last line ≡ true) × (own_entry axis entry ≡ true))
      (inside : (line : ℤ) (attr : LineAttr) → get lines line ≡ Some attr → (is_line last line ≡ true) × (own_attr axis attr ≡ true)) where
    line_now : (line : ℤ) (attr : LineAttr) → get (carried_out plan_lines lines) line ≡ Some attr → (is_line last line ≡ true) × (own_attr axis attr ≡ true)
    line_now line attr found = go (get plan_lines line) refl (sym (get-carried_out int_cmp int_cmp_total exact_signed plan_lines lines line) ∙ found)
      where
        go : (o : Option (Option LineAttr)) → get plan_lines line ≡ o → carried o (get lines line) ≡ Some attr → (is_line last line ≡ true)
            × (own_attr axis attr ≡ true)
        go None none is = inside line attr is
        go (Some None) some is = absurd (no_value attr is)
        go (Some (Some new)) some is =
            let same : new ≡ attr = cc in
            let kept = planned line (Some new) some in (kept.0, sym (ap (own_attr axis) same) ∙ kept.1)

  row_now : (line : ℤ) (attr : LineAttr) → get next.rows line ≡ Some attr → (is_line (pos 1048576) line ≡ true) × (is_row attr ≡ true)
  row_now = line_now Rows (pos 1048576) plan.rows sheet.rows keeps.rows (λ line attr found. (
    entry_holds int_cmp int_cmp_total exact_signed (λ (e : ℤ × LineAttr). is_line (pos 1048576) e.0) sheet.rows row_places line attr found,
    entry_holds int_cmp int_cmp_total exact_signed (λ (e : ℤ × LineAttr). is_row e.1) sheet.rows attributes.0 line attr found,
  ))

  column_now : (line : ℤ) (attr : LineAttr) → get next.columns line ≡ Some attr → (is_line (pos 16384) line ≡ true) × (is_column attr ≡ true)
  column_now = line_now Columns (pos 16384) plan.columns sheet.columns keeps.columns (λ line attr found. (
    entry_holds int_cmp int_cmp_total exact_signed (λ (e : ℤ × LineAttr). is_line (pos 16384) e.0) sheet.columns column_places line attr found,
    entry_holds int_cmp int_cmp_total exact_signed (λ (e : ℤ × LineAttr). is_column e.1) sheet.columns attributes.1 line attr found,
  ))

  inside_stays : has_keys_inside next ≡ true
  unfolding has_keys_inside
  inside_stays =
      let cells = all_entries position_cmp position_total exact_positions (λ (e : Position × Cell). is_place e.0) next.cells
      (λ place cell found. (now place cell found).inside) in
      let rows = all_entries int_cmp int_cmp_total exact_signed (λ (e : ℤ × LineAttr). is_line (pos 1048576) e.0) next.rows
      (λ line attr found. (row_now line attr found).0) in
      let columns = all_entries int_cmp int_cmp_total exact_signed (λ (e : ℤ × LineAttr). is_line (pos 16384) e.0) next.columns
      (λ line attr found. (column_now line attr found).0) in
      λ i. cells i && links_inside i && rows i && columns i

  attributes_stay : have_attributes next ≡ true
  unfolding have_attributes
  attributes_stay =
      let rows = all_entries int_cmp int_cmp_total exact_signed (λ (e : ℤ × LineAttr). is_row e.1) next.rows (λ line attr found. (row_now line attr found).1) in
      let columns = all_entries int_cmp int_cmp_total exact_signed (λ (e : ℤ × LineAttr). is_column e.1) next.columns
      (λ line attr found. (column_now line attr found).1) in
      let fonts = all_entries position_cmp position_total exact_positions (λ (e : Position × Cell). has_font e.1.style) next.cells
      (λ place cell found. (now place cell found).font) in
      λ i. rows i && columns i && fonts i

  -- the sheet keeps its rules
  pub plan_keeps : KeepsSheetRules next
  plan_keeps = record {
    inside = inside_stays;
    arrays = arrays_stay;
    merges = merges_stay;
    hidden = hidden_stay;
    trees = trees_stay;
    rule_trees = rules.rule_trees;
    attributes = attributes_stay;
    frozen = rules.frozen;
    rule_parts = rules.rule_parts;
  }
