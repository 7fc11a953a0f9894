-- The places that are gone over are all that a range touches.
use Rattle.std.proofs.Common.{◌≡◌, ℕ, zero, suc, ℤ, pos, ◌+ℤ◌, ◌≤ℤ◌, ◌⊎◌, inl, inr, Bool, true, false, cond, ◌&&◌, Option, Some, None, refl, ap, sym, subst, ◌∙◌, arith}
use Rattle.std.specs.Prelude.{◌||◌, int_le, is_some, not, unsigned_abs}
use Rattle.std.proofs.lemmas.Int.{ints}
use Rattle.std.specs.List.{list_all}
use Rattle.std.specs.Ordering.{int_cmp}
use Rattle.std.specs.Cmp.{int_cmp_total}
use Rattle.std.proofs.lemmas.Map.Lookups.{exact_signed}
use Rattle.std.specs.FinMap.{FinMap, empty, entries, get, get-entries, same_map}
use Rattle.base_values.specs.declared.Position.{Position}
use Rattle.base_values.specs.Places.{position_cmp}
use Rattle.base_values.specs.laws.Places.{position_total, exact_positions}
use Rattle.base_axis.specs.declared.MergedCell.{MergedCell}
use Rattle.base_axis.specs.Along.{Along, IsAxis, rows, columns}
use Rattle.base_axis.specs.Rectangles.{first_line, holds, is_between, last_line, last_of, line_count}
use Rattle.base_maps.specs.Carried.{if_there}
use Rattle.planned_maps.specs.Planned.{lines_from, planned_places, places_of}
use Rattle.planned_maps.specs.Walks.{count_across, place_across}
use Rattle.planned_maps.specs.laws.PlanWalks.{chosen_all, chosen_put, kept_put, line_all, line_passes, lines_all, lines_put, rows_all}
use Rattle.planned_maps.specs.laws.PlannedLaws.{IsIn, all_pass, empty_fits, get-planned, goes_nowhere, line_is_in, one_test, passes_in, same_plan}
use Rattle.planned_maps.specs.laws.WalkLaws.{At, GoesOn, IsFit, across_column, across_row, all_chosen_go, all_chosen_made, all_places_go, all_places_made, at_index, chosen_each, chosen_test, column_index, get-kept_put, line_test, lines_fit, lines_made, lines_pass, place_is_in, places_each, places_test, row_index, rows_each, rows_test}
use Rattle.base_styles.specs.declared.Style.{Style}
use Rattle.base_styles.specs.DefaultStyle.{default_style}
use Rattle.std.specs.Option.{option_or, unwrap_or}
use Rattle.sheet_grid.specs.declared.Cell.{Cell}
use Rattle.sheet_grid.specs.declared.LineAttr.{LineAttr}
use Rattle.sheet_grid.specs.Lines.{own_line_style}
use Rattle.sheet_grid.specs.Sheet.{Sheet, cell_style, shown_style}
use Rattle.sheet_grid.specs.DefaultParts.{is_default}
use Rattle.range_styles.specs.declared.range.AreaKind.{AreaKind}
use Rattle.range_styles.specs.declared.range.AreaKind.TheVariants.{FullColumns, FullRows, OtherPlaces}
use Rattle.range_styles.specs.declared.range.StyleRange.{StyleRange}
use Rattle.range_styles.specs.StyleRanges.{has_cell, has_own_style, has_style, is_among, is_cleared, is_full_columns, is_full_rows, is_set, touches, touches_line}
use Rattle.range_styles.specs.StyleWalks.{reaches_all, reaches_columns, reaches_rows}
use Rattle.range_styles.specs.laws.StoredWalks.{cells_walked, columns_walked, rows_walked, stored_pass}
use Rattle.range_styles.specs.laws.DefaultTest.{default_is}
use Rattle.range_styles.specs.laws.WalkedPlaces.{none_across}
use Rattle.range_styles.specs.Styled.{Accepts, StyleAt, attr_styled, line_accepts, line_place, line_style, line_styled, lines_accept, lines_styled, place_accepts, place_styled, styled_cell}

both : (a b : Bool) → (a && b) ≡ true → (a ≡ true) × (b ≡ true)
both true b h = (refl, h)
both false b h = absurd (let never : false ≡ true = h in cc)

-- ---- where a place is found

-- a cell, or a line with a style that is gone over, or all places are
data Source (range : StyleRange) (sheet : Sheet) (q : Position) : Type 0 where
  FromCell : (cell : Cell) → get sheet.cells q ≡ Some cell → Source range sheet q
  FromRow : reaches_rows range.kind range.clears ≡ true → (attr : LineAttr) → get sheet.rows q.row ≡ Some attr → has_own_style attr ≡ true
      → Source range sheet q
  FromColumn : reaches_columns range.kind range.clears ≡ true → (attr : LineAttr) → get sheet.columns q.column ≡ Some attr → has_own_style attr ≡ true
      → Source range sheet q
  FromPlace : reaches_all range.kind range.clears ≡ true → Source range sheet q

either_or : (a b : Bool) → (a || b) ≡ true → (a ≡ true) ⊎ (b ≡ true)
either_or true b h = inl refl
either_or false b h = inr h

module _ (range : StyleRange) (sheet : Sheet) (q : Position) where
  by_row : reaches_rows range.kind range.clears ≡ true → has_style (get sheet.rows q.row) ≡ true → Source range sheet q
  by_row reached styled = go (get sheet.rows q.row) refl styled
    where
      go : (o : Option LineAttr) → get sheet.rows q.row ≡ o → has_style o ≡ true → Source range sheet q
      go None found is = absurd (let never : false ≡ true = is in cc)
      go (Some attr) found is = FromRow reached attr found is

  by_column : reaches_columns range.kind range.clears ≡ true → has_style (get sheet.columns q.column) ≡ true → Source range sheet q
  by_column reached styled = go (get sheet.columns q.column) refl styled
    where
      go : (o : Option LineAttr) → get sheet.columns q.column ≡ o → has_style o ≡ true → Source range sheet q
      go None found is = absurd (let never : false ≡ true = is in cc)
      go (Some attr) found is = FromColumn reached attr found is

  by_cell : has_cell sheet q ≡ true → Source range sheet q
  by_cell is = go (get sheet.cells q) refl is
    where
      go : (o : Option Cell) → get sheet.cells q ≡ o → is_some o ≡ true → Source range sheet q
      go None found it = absurd (let never : false ≡ true = it in cc)
      go (Some cell) found it = FromCell cell found

  either : (b : Bool) → (b ≡ true → Source range sheet q) → (has_cell sheet q || b) ≡ true → Source range sheet q
  either b other is = go (either_or (has_cell sheet q) b is)
    where
      go : (has_cell sheet q ≡ true) ⊎ (b ≡ true) → Source range sheet q
      go (inl cell) = by_cell cell
      go (inr it) = other it

  -- a place that shows another style than the default one has a cell, or its row or its column has a style
  styled_source : reaches_rows range.kind range.clears ≡ true → reaches_columns range.kind range.clears ≡ true → not (is_default (shown_style sheet q)) ≡ true
      → Source range sheet q
  styled_source in_rows in_columns other = cells (get sheet.cells q) refl
    where
      columns : (o : Option LineAttr) → get sheet.columns q.column ≡ o → (c : Option Style) → own_line_style o ≡ c → get sheet.cells q ≡ None
          → own_line_style (get sheet.rows q.row) ≡ None → Source range sheet q
      columns o found (Some style) styled none bare = by_column in_columns (ap (λ p. is_some (own_line_style p)) found ∙ ap is_some styled)
      columns o found None styled none bare =
          let shows : shown_style sheet q ≡ default_style =
          (λ i. unwrap_or (option_or (cell_style (none i)) (option_or (bare i) ((ap own_line_style found ∙ styled) i))) default_style) in
          let never : false ≡ true = sym (ap (λ s. not (is_default s)) shows ∙ ap not default_is) ∙ other in absurd (cc)

      rows : (c : Option Style) → own_line_style (get sheet.rows q.row) ≡ c → get sheet.cells q ≡ None → Source range sheet q
      rows (Some style) styled none = by_row in_rows (ap is_some styled)
      rows None bare none = columns (get sheet.columns q.column) refl (own_line_style (get sheet.columns q.column)) refl none bare

      cells : (o : Option Cell) → get sheet.cells q ≡ o → Source range sheet q
      cells (Some cell) found = FromCell cell found
      cells None none = rows (own_line_style (get sheet.rows q.row)) refl none

-- where a touched place is found, by what the range is
source_at : (area : MergedCell) (kind : AreaKind) (clears : Bool) (sheet : Sheet) (q : Position) → cond clears (is_cleared kind sheet q) (is_set kind sheet q)
    ≡ true
    → Source (record { area = area; kind = kind; clears = clears }) sheet q
source_at area FullColumns true sheet q is = either _ sheet q (has_style (get sheet.rows q.row)) (by_row _ sheet q refl) is
source_at area FullColumns false sheet q is = either _ sheet q (has_style (get sheet.rows q.row)) (by_row _ sheet q refl) is
source_at area FullRows true sheet q is = by_cell _ sheet q is
source_at area FullRows false sheet q is = either _ sheet q (has_style (get sheet.columns q.column)) (by_column _ sheet q refl) is
source_at area OtherPlaces true sheet q is = either _ sheet q (not (is_default (shown_style sheet q))) (styled_source _ sheet q refl refl) is
source_at area OtherPlaces false sheet q is = FromPlace refl

source_of : (range : StyleRange) (sheet : Sheet) (q : Position) → cond range.clears (is_cleared range.kind sheet q) (is_set range.kind sheet q) ≡ true
    → Source range sheet q
source_of range sheet q is = source_at range.area range.kind range.clears sheet q is

-- ---- plans

module _ {X : Type 0} (make : Position → Option X) (range : StyleRange) (sheet : Sheet) where
  abbrev Goes : FinMap position_cmp X → FinMap position_cmp X → Type 0
  Goes = GoesOn make

  empty_fit : IsFit make empty
  empty_fit = empty_fits position_cmp position_total exact_positions make

  chosen : (b : Bool) (m n : FinMap position_cmp X) → Goes m n → Goes m (cond b n m)
  chosen true m n h = h
  chosen false m n h = goes_nowhere position_cmp position_total exact_positions make m

  cells_fit : IsFit make (cells_walked make range sheet)
  cells_fit = (all_places_go make sheet.cells empty).fits empty_fit

  rows_go_on : Goes (cells_walked make range sheet) (rows_walked make range sheet)
  rows_go_on =
      chosen (reaches_rows range.kind range.clears) (cells_walked make range sheet)
      (chosen_put make has_own_style rows range.area (cells_walked make range sheet) sheet.rows)
      (all_chosen_go make has_own_style rows range.area sheet.rows (cells_walked make range sheet))

  rows_fit : IsFit make (rows_walked make range sheet)
  rows_fit = rows_go_on.fits cells_fit

  columns_go_on : Goes (rows_walked make range sheet) (columns_walked make range sheet)
  columns_go_on =
      chosen (reaches_columns range.kind range.clears) (rows_walked make range sheet)
      (chosen_put make has_own_style columns range.area (rows_walked make range sheet) sheet.columns)
      (all_chosen_go make has_own_style columns range.area sheet.columns (rows_walked make range sheet))

  columns_fit : IsFit make (columns_walked make range sheet)
  columns_fit = columns_go_on.fits rows_fit

  -- what is stored has what is made of it, where not each place is touched
  found_made : (q : Position) → holds range.area q ≡ true → Source range sheet q → reaches_all range.kind range.clears ≡ false
      → get (columns_walked make range sheet) q ≡ make q
  found_made q inside (FromCell cell found) part = columns_go_on.kept q (rows_go_on.kept q (all_places_made make sheet.cells empty empty_fit q cell found))
  found_made q inside (FromRow reached attr found styled) part =
      let j = column_index range.area q inside in
      let output : get (chosen_put make has_own_style rows range.area (cells_walked make range sheet) sheet.rows) q ≡ make q =
      subst (λ p. get (chosen_put make has_own_style rows range.area (cells_walked make range sheet) sheet.rows) p ≡ make p) (across_row range.area q inside)
      (all_chosen_made make has_own_style rows range.area sheet.rows (cells_walked make range sheet) cells_fit q.row attr found styled j.index j.few) in
      columns_go_on.kept q
      (ap (λ b. get (cond b (chosen_put make has_own_style rows range.area (cells_walked make range sheet) sheet.rows) (cells_walked make range sheet)) q)
      reached ∙ output)
  found_made q inside (FromColumn reached attr found styled) part =
      let i = row_index range.area q inside in
      let output : get (chosen_put make has_own_style columns range.area (rows_walked make range sheet) sheet.columns) q ≡ make q =
      subst (λ p. get (chosen_put make has_own_style columns range.area (rows_walked make range sheet) sheet.columns) p ≡ make p)
      (across_column range.area q inside)
      (all_chosen_made make has_own_style columns range.area sheet.columns (rows_walked make range sheet) rows_fit q.column attr found styled i.index i.few) in
      ap (λ b. get (cond b (chosen_put make has_own_style columns range.area (rows_walked make range sheet) sheet.columns) (rows_walked make range sheet)) q)
      reached ∙ output
  found_made q inside (FromPlace all) part = let never : true ≡ false = sym all ∙ part in absurd (cc)

module _ (range : StyleRange) (output : StyleAt) (sheet : Sheet) where
  touched : (q : Position) (x : Option Cell) → place_styled range output sheet q ≡ Some x → touches range sheet q ≡ true
  touched q x is = go (touches range sheet q) refl is
    where
      go : (b : Bool) → touches range sheet q ≡ b → cond b (Some (Some (styled_cell (get sheet.cells q) (output q (shown_style sheet q))))) None ≡ Some x
          → touches range sheet q ≡ true
      go true it e = it
      go false it e = absurd (let never : ◌≡◌ {A = Option (Option Cell)} None (Some x) = e in cc)

  -- what is styled is a place of the range
  pub styled_here : (q : Position) (x : Option Cell) → place_styled range output sheet q ≡ Some x → holds range.area q ≡ true
  styled_here q x is = (both (holds range.area q) _ (touched q x is)).0

  -- the plan of the places that are stored is that of the places of the range, where not each of them is touched
  pub stored_planned : reaches_all range.kind range.clears ≡ false
      → columns_walked (place_styled range output sheet) range sheet ≡ planned_places (place_styled range output sheet) range.area
  stored_planned part = same_plan position_cmp position_total exact_positions (place_styled range output sheet) (places_of range.area)
      (λ q x is. place_is_in range.area q (styled_here q x is))
      (columns_walked (place_styled range output sheet) range sheet)
      (columns_fit (place_styled range output sheet) range sheet)
      (λ q x is. let parts = both (holds range.area q) _ (touched q x is) in
      found_made (place_styled range output sheet) range sheet q parts.0 (source_of range sheet q parts.1) part)

-- ---- tests

not_or : (a b : Bool) → (a ≡ true → b ≡ true) → (not a || b) ≡ true
not_or true b h = h refl
not_or false b h = refl

or_not : (a b : Bool) → (not a || b) ≡ true → a ≡ true → b ≡ true
or_not true b h is = h
or_not false b h is = absurd (let never : false ≡ true = is in cc)

or_passes : (a b : Bool) → b ≡ true → (a || b) ≡ true
or_passes true b h = refl
or_passes false b h = h

module _ (passes : Position → Bool) (range : StyleRange) (sheet : Sheet) where
  abbrev row_test : Bool
  row_test = chosen_all passes has_own_style rows range.area sheet.rows

  abbrev column_test : Bool
  column_test = chosen_all passes has_own_style columns range.area sheet.columns

  row_tested : (q : Position) → holds range.area q ≡ true → rows_all passes range.area (unsigned_abs range.area.height) ≡ true → passes q ≡ true
  row_tested q inside all =
      let i = row_index range.area q inside in
      let j = column_index range.area q inside in
      let same : place_across rows range.area (range.area.row +ℤ pos i.index) j.index ≡ q =
      ap (λ line. place_across rows range.area line j.index) (sym i.is) ∙ across_row range.area q inside in
      sym (ap passes same) ∙ rows_test passes range.area (unsigned_abs range.area.height) i.index i.few j.index j.few all

  found_tested : (q : Position) → holds range.area q ≡ true → Source range sheet q → reaches_all range.kind range.clears ≡ false
      → stored_pass passes range sheet ≡ true → passes q ≡ true
  found_tested q inside (FromCell cell found) part all =
      places_test passes (entries sheet.cells) q cell (sym (get-entries sheet.cells q) ∙ found) (both _ _ (both _ _ all).0).0
  found_tested q inside (FromRow reached attr found styled) part all =
      let j = column_index range.area q inside in
      sym (ap passes (across_row range.area q inside))
      ∙ chosen_test passes has_own_style rows range.area (entries sheet.rows) q.row attr (sym (get-entries sheet.rows q.row) ∙ found) styled j.index j.few
      (or_not (reaches_rows range.kind range.clears) row_test (both _ _ (both _ _ all).0).1 reached)
  found_tested q inside (FromColumn reached attr found styled) part all =
      let i = row_index range.area q inside in
      sym (ap passes (across_column range.area q inside))
      ∙ chosen_test passes has_own_style columns range.area (entries sheet.columns) q.column attr (sym (get-entries sheet.columns q.column) ∙ found) styled
      i.index i.few
      (or_not (reaches_columns range.kind range.clears) column_test (both _ _ all).1 reached)
  found_tested q inside (FromPlace reached) part all = let never : true ≡ false = sym reached ∙ part in absurd (cc)

  stored_each : ((q : Position) → passes q ≡ true) → stored_pass passes range sheet ≡ true
  stored_each each = λ i. places_each passes each (entries sheet.cells) i
      && or_passes (not (reaches_rows range.kind range.clears)) row_test (chosen_each passes each has_own_style rows range.area (entries sheet.rows)) i
      && or_passes (not (reaches_columns range.kind range.clears)) column_test
      (chosen_each passes each has_own_style columns range.area (entries sheet.columns)) i

module _ (range : StyleRange) (accepts : Accepts) (sheet : Sheet) where
  abbrev passes : Position → Bool
  passes = place_accepts range accepts sheet

  -- each place passes where those do that the range touches
  passes_all : ((q : Position) → holds range.area q ≡ true → cond range.clears (is_cleared range.kind sheet q) (is_set range.kind sheet q) ≡ true
      → passes q ≡ true)
      → (q : Position) → passes q ≡ true
  passes_all touched q = not_or (touches range sheet q) (accepts q (shown_style sheet q)) (λ it.
      let parts = both (holds range.area q) _ it in
      or_not (touches range sheet q) (accepts q (shown_style sheet q)) (touched q parts.0 parts.1) it)

  listed_pass : list_all passes (places_of range.area) ≡ true → (q : Position) → passes q ≡ true
  listed_pass all = passes_all (λ q inside it. passes_in passes (places_of range.area) all q (place_is_in range.area q inside))

  -- all places of the range pass, row by row
  pub rows_accept : rows_all (place_accepts range accepts sheet) range.area (unsigned_abs range.area.height)
      ≡ list_all (place_accepts range accepts sheet) (places_of range.area)
  rows_accept = one_test _ _
      (λ all. all_pass passes (places_of range.area) (passes_all (λ q inside it. row_tested passes range sheet q inside all)))
      (λ all. rows_each passes (listed_pass all) range.area (unsigned_abs range.area.height))

  -- and where not each is touched they do as far as they are stored
  pub stored_accept : reaches_all range.kind range.clears ≡ false
      → stored_pass (place_accepts range accepts sheet) range sheet ≡ list_all (place_accepts range accepts sheet) (places_of range.area)
  stored_accept part = one_test _ _
      (λ all. all_pass passes (places_of range.area) (passes_all (λ q inside it.
      found_tested passes range sheet q inside (source_of range sheet q it) part all)))
      (λ all. stored_each passes range sheet (listed_pass all))

  -- the places of a line outside the range pass, since none of them is touched
  untouched : (q : Position) → holds range.area q ≡ false → passes q ≡ true
  untouched q outside =
      ap (λ b. not (b && cond range.clears (is_cleared range.kind sheet q) (is_set range.kind sheet q)) || accepts q (shown_style sheet q)) outside

  pub outside_accepts : (a : Along) → IsAxis a → (line : ℤ) → is_between (first_line a range.area) (last_line a range.area) line ≡ false
      → line_passes (place_accepts range accepts sheet) a range.area line ≡ true
  outside_accepts a is line outside = go (count_across a range.area)
    where
      go : (count : ℕ) → line_all passes a range.area line count ≡ true
      go zero = refl
      go (suc more) = λ i. go more i && untouched (place_across a range.area line more) (none_across range.area a is line outside more) i

-- ---- lines

module _ (a : Along) (range : StyleRange) (lines : FinMap int_cmp LineAttr) where
  abbrev first : ℤ
  first = first_line a range.area

  abbrev count : ℕ
  count = unsigned_abs (line_count a range.area)

  -- a line that a range touches, by its index
  pub touched_index : (line : ℤ) → touches_line a range lines line ≡ true → At first count line
  touched_index line it =
      let among = (both (is_among a range line) _ it).0 in
      let between = both _ _ (both _ _ among).1 in
      at_index first (line_count a range.area) line (low first line between.0) (low line (last_of first (line_count a range.area)) between.1)
    where
      low : (m n : ℤ) → int_le m n ≡ true → m ≤ℤ n
      low m n h = grind (arith, ints)

  touched_in : (line : ℤ) → touches_line a range lines line ≡ true → IsIn line (lines_from first count)
  touched_in line it = let at = touched_index line it in subst (λ l. IsIn l (lines_from first count)) (sym at.is) (line_is_in first count at.index at.few)

  module _ (output : StyleAt) where
    abbrev make : ℤ → Option (Option LineAttr)
    make = line_styled a range output lines

    line_touched : (line : ℤ) (x : Option LineAttr) → make line ≡ Some x → touches_line a range lines line ≡ true
    line_touched line x is = go (touches_line a range lines line) refl is
      where
        go : (b : Bool) → touches_line a range lines line ≡ b → cond b (Some (attr_styled a range output line (get lines line))) None ≡ Some x
            → touches_line a range lines line ≡ true
        go true it e = it
        go false it e = absurd (let never : ◌≡◌ {A = Option (Option LineAttr)} None (Some x) = e in cc)

    listed : (line : ℤ) (x : Option LineAttr) → make line ≡ Some x → IsIn line (lines_from first count)
    listed line x is = touched_in line (line_touched line x is)

    -- what a line gets that is planned, which is one that the range touches
    pub get-lines_styled : (line : ℤ) (x : Option LineAttr) → get (lines_styled a range output lines) line ≡ Some x
        → (is_among a range line ≡ true) × (x ≡ attr_styled a range output line (get lines line))
    get-lines_styled line x is =
        go (touches_line a range lines line) refl (sym (get-planned int_cmp int_cmp_total exact_signed make (lines_from first count) listed line) ∙ is)
      where
        go : (b : Bool) → touches_line a range lines line ≡ b → cond b (Some (attr_styled a range output line (get lines line))) None ≡ Some x
            → (is_among a range line ≡ true) × (x ≡ attr_styled a range output line (get lines line))
        go true it e = let same : attr_styled a range output line (get lines line) ≡ x = cc in ((both (is_among a range line) _ it).0, sym same)
        go false it e = absurd (let never : ◌≡◌ {A = Option (Option LineAttr)} None (Some x) = e in cc)

    -- the plan of the lines one after another
    pub each_planned : lines_put make first count ≡ lines_styled a range output lines
    each_planned = same_plan int_cmp int_cmp_total exact_signed make (lines_from first count) listed (lines_put make first count) (lines_fit make first count)
        (λ line x is. let at = touched_index line (line_touched line x is) in
        subst (λ l. get (lines_put make first count) l ≡ make l) (sym at.is) (lines_made make first count at.index at.few))

    -- of the lines that have something, where styles are taken away
    pub kept_planned : range.clears ≡ true → kept_put make lines ≡ lines_styled a range output lines
    kept_planned clears = same_map int_cmp_total exact_signed _ _ (λ line.
        get-kept_put make lines line ∙ here line (get lines line) refl
        ∙ sym (get-planned int_cmp int_cmp_total exact_signed make (lines_from first count) listed line))
      where
        untouched : (line : ℤ) → get lines line ≡ None → (b : Bool) → touches_line a range lines line ≡ b → None ≡ make line
        untouched line none false it = sym (ap (λ b. cond b (Some (attr_styled a range output line (get lines line))) None) it)
        untouched line none true it =
            let styled : (not range.clears || has_style (get lines line)) ≡ true = (both (is_among a range line) _ it).1 in
            let never : false ≡ true = (λ i. not (sym clears i) || has_style (sym none i)) ∙ styled in absurd (cc)

        here : (line : ℤ) (o : Option LineAttr) → get lines line ≡ o → if_there o (λ v. make line) ≡ make line
        here line None none = untouched line none (touches_line a range lines line) refl
        here line (Some v) found = refl

    -- of no line, where the range consists of none of the axis
    pub none_planned : a.of (is_full_rows range.kind) (is_full_columns range.kind) ≡ false → empty ≡ lines_styled a range output lines
    none_planned other = same_plan int_cmp int_cmp_total exact_signed make (lines_from first count) listed empty
        (empty_fits int_cmp int_cmp_total exact_signed make)
        (λ line x is. let among = (both (is_among a range line) _ (line_touched line x is)).0 in
        let never : false ≡ true = sym other ∙ (both _ _ among).0 in absurd (cc))

  module _ (accepts : Accepts) where
    abbrev tests : ℤ → Bool
    tests = line_accepts a range accepts lines

    abbrev taken : ℤ → Bool
    taken line = range.clears || accepts (line_place a line) (line_style (get lines line))

    -- the lines one after another pass where they do in a list
    pub each_accepts : lines_all tests first count ≡ lines_accept a range accepts lines
    each_accepts = one_test _ _
        (λ all. all_pass tests (lines_from first count) (λ line. not_or (touches_line a range lines line) (taken line) (λ it.
        let at = touched_index line it in
        or_not (touches_line a range lines line) (taken line) (ap tests at.is ∙ line_test tests first count at.index at.few all) it)))
        (λ all. lines_pass tests first (λ line. not_or (touches_line a range lines line) (taken line) (λ it.
        or_not (touches_line a range lines line) (taken line) (passes_in tests (lines_from first count) all line (touched_in line it)) it)) count)

    -- each passes where styles are taken away
    pub clears_accept : range.clears ≡ true → true ≡ lines_accept a range accepts lines
    clears_accept clears = sym (all_pass tests (lines_from first count) (λ line. not_or (touches_line a range lines line) (taken line) (λ it.
        ap (λ b. b || accepts (line_place a line) (line_style (get lines line))) clears)))

    -- and where the range consists of none of the axis
    pub none_accept : a.of (is_full_rows range.kind) (is_full_columns range.kind) ≡ false → true ≡ lines_accept a range accepts lines
    none_accept other = sym (all_pass tests (lines_from first count) (λ line. not_or (touches_line a range lines line) (taken line) (λ it.
        let among = (both (is_among a range line) _ it).0 in
        let never : false ≡ true = sym other ∙ (both _ _ among).0 in absurd (cc))))
