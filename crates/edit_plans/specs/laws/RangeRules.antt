-- What is planned where styles are changed and where ranges are cleared keeps the rules of a sheet.
use Rattle.std.proofs.Common.{◌≡◌, ℤ, pos, ◌≤ℤ◌, Bool, true, false, cond, ◌&&◌, not, Option, Some, None, inl, inr, option_map, refl, ap, sym, subst, ◌∙◌, arith}
use Rattle.std.specs.Prelude.{IsTrue, int_le}
use Rattle.std.specs.Option.{option_or, unwrap_or}
use Rattle.std.specs.Ordering.{int_cmp}
use Rattle.std.specs.FinMap.{get, get-empty}
use Rattle.std.proofs.lemmas.Int.{ints}
use Rattle.base_values.specs.declared.Position.{Position}
use Rattle.base_values.specs.Places.{IsPlace, is_line, position_cmp, is_place}
use Rattle.base_values.specs.laws.Places.{position_total, exact_positions}
use Rattle.base_axis.specs.declared.MergedCell.{MergedCell}
use Rattle.base_axis.specs.Along.{rows, columns}
use Rattle.base_axis.specs.Rectangles.{IsInside, holds, is_between, last_column, last_row}
use Rattle.base_axis.specs.laws.RectangleLaws.{held_inside}
use Rattle.base_styles.specs.declared.Style.{Style}
use Rattle.base_styles.specs.DefaultStyle.{default_style}
use Rattle.planned_maps.specs.Planned.{places_of}
use Rattle.planned_maps.specs.laws.PlannedLaws.{get-planned}
use Rattle.planned_maps.specs.laws.WalkLaws.{place_is_in}
use Rattle.sheet_grid.specs.declared.Cell.{Cell}
use Rattle.sheet_grid.specs.declared.LineAttr.{LineAttr}
use Rattle.sheet_grid.specs.declared.Link.{Link}
use Rattle.sheet_grid.specs.DefaultParts.{is_default}
use Rattle.sheet_grid.specs.Lines.{attr_of, is_plain, own_line_style, with_style}
use Rattle.sheet_grid.specs.Sheet.{Sheet, cell_style, line_style as line_style_at, shown_style}
use Rattle.sheet_rules.specs.WellFormed.{has_font}
use Rattle.sheet_rules.specs.laws.EntryLaws.{both}
use Rattle.range_styles.specs.declared.Clearing.{Clearing}
use Rattle.range_styles.specs.declared.Clearing.TheVariants.{Contents, Cells}
use Rattle.range_styles.specs.declared.StyleRange.{StyleRange}
use Rattle.range_styles.specs.Clearing.{clear_plan, cleared_cell, place_cleared, place_unlinked}
use Rattle.range_styles.specs.StyleRanges.{touches}
use Rattle.range_styles.specs.Styled.{StyleAt, attr_styled, stored_style, line_style, line_style_made, place_styled, style_plan, styled_cell}
use Rattle.range_styles.specs.laws.ClearLaws.{made_here}
use Rattle.range_styles.specs.laws.RangeLaws.{get-lines_styled, styled_here}
use Rattle.sheet_history.specs.declared.LineAxis.{LineAxis}
use Rattle.sheet_history.specs.declared.LineAxis.TheVariants.{Rows, Columns}
use Rattle.sheet_history.specs.laws.RuleLaws.{KeepsSheetRules}
use Rattle.edit_plans.specs.laws.AttrRules.{column_own, entry_size, entry_style, own_entry, own_size, own_style, row_own}
use Rattle.edit_plans.specs.laws.PlanRules.{IsLeftCell, PlanKeeps}
use Rattle.edit_plans.specs.laws.Fonts.{shown_font}

-- fonts keep a size of 1 or more
abbrev pub IsSized : StyleAt → Type 0
IsSized output = (place : Position) (style : Style) → IsTrue (has_font style) → IsTrue (has_font (output place style))

le_test : (m n : ℤ) → m ≤ℤ n → int_le m n ≡ true
le_test m n h = grind (arith, ints)

place_passes : (p : Position) → IsPlace p → is_place p ≡ true
place_passes p h =
    λ i. (le_test (pos 1) p.row h.0.0 i && le_test p.row (pos 1048576) h.0.1 i) && (le_test (pos 1) p.column h.1.0 i && le_test p.column (pos 16384) h.1.1 i)

-- a line of a rectangle that is inside is one of the axis
row_inside : (r : MergedCell) → IsInside r → (line : ℤ) → is_between r.row (last_row r) line ≡ true → is_line (pos 1048576) line ≡ true
row_inside r inside line h =
    let p = both (int_le r.row line) (int_le line (last_row r)) h in
    let low : pos 1 ≤ℤ r.row = inside.first.0.0 in
    let high : last_row r ≤ℤ pos 1048576 = inside.last.0.1 in
    grind (arith, ints, p.0, p.1, low, high)

column_inside : (r : MergedCell) → IsInside r → (line : ℤ) → is_between r.column (last_column r) line ≡ true → is_line (pos 16384) line ≡ true
column_inside r inside line h =
    let p = both (int_le r.column line) (int_le line (last_column r)) h in
    let low : pos 1 ≤ℤ r.column = inside.first.1.0 in
    let high : last_column r ≤ℤ pos 16384 = inside.last.1.1 in
    grind (arith, ints, p.0, p.1, low, high)

module _ (range : StyleRange) (inside : IsInside range.area) (output : StyleAt) (sized : IsSized output) (sheet : Sheet) (rules : KeepsSheetRules sheet) where
  -- ---- cells

  planned_cell : (place : Position) (entry : Option Cell) → get (style_plan range output sheet).cells place ≡ Some entry → place_styled range output sheet place ≡ Some entry
  planned_cell place entry is =
      sym (get-planned position_cmp position_total exact_positions (place_styled range output sheet) (places_of range.area)
      (λ p x here. place_is_in range.area p (styled_here range output sheet p x here)) place) ∙ is

  left_styled : (place : Position) (old : Option Cell) → get sheet.cells place ≡ old → (style : Style) → IsTrue (has_font style)
      → IsLeftCell (get sheet.cells place) (Some (styled_cell old style))
  left_styled place None found style font = (inl refl, font)
  left_styled place (Some cell) found style font = (inr (record { cell = cell; found = found; is = refl }), font)

  cell_kept : (place : Position) (entry : Option Cell) → place_styled range output sheet place ≡ Some entry → IsLeftCell (get sheet.cells place) entry
  cell_kept place entry is = go (touches range sheet place) is
    where
      go : (b : Bool) → cond b (Some (Some (styled_cell (get sheet.cells place) (output place (shown_style sheet place))))) None ≡ Some entry
          → IsLeftCell (get sheet.cells place) entry
      go false e = absurd (let never : ◌≡◌ {A = Option (Option Cell)} None (Some entry) = e in cc)
      go true e =
          let same : Some (styled_cell (get sheet.cells place) (output place (shown_style sheet place))) ≡ entry = cc in
          subst (IsLeftCell (get sheet.cells place)) same
          (left_styled place (get sheet.cells place) refl (output place (shown_style sheet place)) (sized place (shown_style sheet place) (shown_font sheet rules.attributes place)))

  -- ---- lines

  -- the style that a line gets may be its own
  row_style : (style : Style) → IsTrue (has_font style) → own_style Rows (stored_style rows style) ≡ true
  row_style style font = go (is_default style) refl
    where
      go : (b : Bool) → is_default style ≡ b → own_style Rows (cond b None (Some style)) ≡ true
      go true is = refl
      go false is = λ i. font i && not (is i)

  column_style : (style : Style) → IsTrue (has_font style) → own_style Columns (stored_style columns style) ≡ true
  column_style style font = font

  -- the style of a line has a font
  own_font : (axis : LineAxis) (o : Option Style) → own_style axis o ≡ true → IsTrue (has_font (unwrap_or o default_style))
  own_font axis None own = refl
  own_font Rows (Some style) own = (both (has_font style) (not (is_default style)) own).0
  own_font Columns (Some style) own = own

  -- what is left of a line that has another style is something, or no entry
  kept_own : (axis : LineAxis) (attr : LineAttr) → own_size axis attr.size ≡ true → own_style axis attr.style ≡ true → own_entry axis (cond (is_plain attr) None (Some attr)) ≡ true
  kept_own axis attr size style = go (is_plain attr) refl
    where
      go : (b : Bool) → is_plain attr ≡ b → own_entry axis (cond b None (Some attr)) ≡ true
      go true is = refl
      go false is = λ i. not (is i) && size i && style i

  row_kept : (line : ℤ) → own_entry Rows (attr_styled rows range output line (get sheet.rows line)) ≡ true
  row_kept line =
      let own = row_own sheet rules line in
      kept_own Rows (with_style (line_style_made rows range output line (get sheet.rows line)) (attr_of (get sheet.rows line))) (entry_size Rows (get sheet.rows line) own)
      (style range.clears)
    where
      style : (b : Bool) → own_style Rows (cond b None (stored_style rows (output (record { row = line; column = pos 1 }) (line_style (get sheet.rows line))))) ≡ true
      style true = refl
      style false = row_style (output (record { row = line; column = pos 1 }) (line_style (get sheet.rows line)))
          (sized (record { row = line; column = pos 1 }) (line_style (get sheet.rows line)) (own_font Rows (own_line_style (get sheet.rows line)) (entry_style Rows (get sheet.rows line) (row_own sheet rules line))))

  column_kept : (line : ℤ) → own_entry Columns (attr_styled columns range output line (get sheet.columns line)) ≡ true
  column_kept line =
      let own = column_own sheet rules line in
      kept_own Columns (with_style (line_style_made columns range output line (get sheet.columns line)) (attr_of (get sheet.columns line))) (entry_size Columns (get sheet.columns line) own)
      (style range.clears)
    where
      style : (b : Bool) → own_style Columns (cond b None (stored_style columns (output (record { row = pos 1; column = line }) (line_style (get sheet.columns line))))) ≡ true
      style true = refl
      style false = column_style (output (record { row = pos 1; column = line }) (line_style (get sheet.columns line)))
          (sized (record { row = pos 1; column = line }) (line_style (get sheet.columns line)) (own_font Columns (own_line_style (get sheet.columns line)) (entry_style Columns (get sheet.columns line) (column_own sheet rules line))))

  -- so a change of styles keeps the rules
  pub styled_keeps : PlanKeeps (style_plan range output sheet) sheet
  styled_keeps = record {
    cells = λ place entry is.
        let here = planned_cell place entry is in
        (place_passes place (held_inside range.area place inside (styled_here range output sheet place entry here)), cell_kept place entry here);
    links = λ place entry is. absurd (let never : ◌≡◌ {A = Option (Option Link)} None (Some entry) = sym (get-empty position_cmp place) ∙ is in cc);
    columns = λ line entry is.
        let it = get-lines_styled columns range sheet.columns output line entry is in
        (column_inside range.area inside line (both _ _ it.0).1, ap (own_entry Columns) it.1 ∙ column_kept line);
    rows = λ line entry is.
        let it = get-lines_styled rows range sheet.rows output line entry is in
        (row_inside range.area inside line (both _ _ it.0).1, ap (own_entry Rows) it.1 ∙ row_kept line);
  }

-- ---- clearing

module _ (clearing : Clearing) (r : MergedCell) (inside : IsInside r) (sheet : Sheet) (rules : KeepsSheetRules sheet) where
  cleared_font : (place : Position) (cell : Cell) → get sheet.cells place ≡ Some cell → IsTrue (has_font cell.style)
  cleared_font place cell found =
      sym (ap (λ (o : Option Cell). has_font (unwrap_or (option_or (cell_style o) (line_style_at sheet place)) default_style)) found) ∙ shown_font sheet rules.attributes place

  left_cleared : (clearing : Clearing) (old : Option Cell) (cell : Cell) → IsTrue (has_font cell.style) → IsLeftCell old (cleared_cell clearing cell)
  left_cleared Contents old cell font = (inl refl, font)
  left_cleared Cells old cell font = tt

  -- and so does clearing
  pub cleared_keeps : PlanKeeps (clear_plan clearing r sheet) sheet
  cleared_keeps = record {
    cells = λ place entry is.
        let here : place_cleared clearing r sheet place ≡ Some entry = sym (get-planned position_cmp position_total exact_positions (place_cleared clearing r sheet) (places_of r)
        (λ p x it. place_is_in r p (made_here r (cleared_cell clearing) sheet.cells p x it)) place) ∙ is in
        (place_passes place (held_inside r place inside (made_here r (cleared_cell clearing) sheet.cells place entry here)), kept place entry (holds r place) (get sheet.cells place) refl here);
    links = λ place entry is.
        let here : place_unlinked r sheet place ≡ Some entry = sym (get-planned position_cmp position_total exact_positions (place_unlinked r sheet) (places_of r)
        (λ p x it. place_is_in r p (made_here r (λ (link : Link). None) sheet.links p x it)) place) ∙ is in
        place_passes place (held_inside r place inside (made_here r (λ (link : Link). None) sheet.links place entry here));
    columns = λ line entry is. absurd (let never : ◌≡◌ {A = Option (Option LineAttr)} None (Some entry) = sym (get-empty int_cmp line) ∙ is in cc);
    rows = λ line entry is. absurd (let never : ◌≡◌ {A = Option (Option LineAttr)} None (Some entry) = sym (get-empty int_cmp line) ∙ is in cc);
  }
    where
      kept : (place : Position) (entry : Option Cell) (b : Bool) (o : Option Cell) → get sheet.cells place ≡ o → cond b (option_map (cleared_cell clearing) o) None ≡ Some entry
          → IsLeftCell (get sheet.cells place) entry
      kept place entry false o found e = absurd (let never : ◌≡◌ {A = Option (Option Cell)} None (Some entry) = e in cc)
      kept place entry true None found e = absurd (let never : ◌≡◌ {A = Option (Option Cell)} None (Some entry) = e in cc)
      kept place entry true (Some cell) found e =
          let same : cleared_cell clearing cell ≡ entry = cc in
          subst (IsLeftCell (get sheet.cells place)) same (left_cleared clearing (get sheet.cells place) cell (cleared_font place cell found))
