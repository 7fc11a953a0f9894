-- A fill leaves a sheet that keeps its rules.
use Rattle.std.proofs.Common.{◌≡◌, ℕ, zero, suc, ◌<◌, ℤ, pos, ◌≤ℤ◌, Bool, true, false, cond, ◌&&◌, not, List, [], ◌∷◌, ◌++◌, Option, Some, None, refl, ap, sym, subst, ◌∙◌, arith}
use Rattle.std.proofs.lemmas.Int.{ints}
use Rattle.std.specs.Prelude.{◌==◌, ◌||◌, IsTrue, if◌then◌else◌}
use Rattle.std.specs.List.{AllByRecursion, cons_option, filter, filter_map, list_all, list_any}
use Rattle.std.specs.Option.{option_and_then}
use Rattle.std.specs.Ordering.{int_cmp}
use Rattle.std.specs.Cmp.{IsTotalOrder, int_cmp_total, unsigned_Decides}
use Rattle.std.specs.declared.cmp.Ordering.{Ordering}
use Rattle.std.specs.FinMap.{FinMap, empty, entries, get, get-empty, same_map}
use Rattle.std.proofs.lemmas.Map.Lookups.{CmpEqualImpliesEq, exact_signed}
use Rattle.base_values.specs.declared.Position.{Position}
use Rattle.base_values.specs.Places.{IsLine, IsPlace, is_line, position_cmp, same_position, is_place}
use Rattle.base_values.specs.laws.Places.{position_total, exact_positions}
use Rattle.base_axis.specs.declared.MergedCell.{MergedCell}
use Rattle.base_axis.specs.Along.{Along, IsAxis}
use Rattle.base_axis.specs.Rectangles.{anchor_place, has_many, holds, is_inside, is_inside_of, meets}
use Rattle.base_axis.specs.laws.RectangleLaws.{held_inside, holds_anchor, inside_found, inside_passes, shared_meets}
use Rattle.base_tables.specs.declared.Language.{Language}
use Rattle.base_tables.specs.declared.Locale.{Locale}
use Rattle.planned_maps.specs.Planned.{carried_out}
use Rattle.planned_maps.specs.laws.PlannedLaws.{carried, earlier, get-carried_out}
use Rattle.cell_content.specs.declared.Content.{Content}
use Rattle.cell_content.specs.declared.Content.TheVariants.{Array}
use Rattle.cell_content.specs.Fitting.{fits_at}
use Rattle.sheet_grid.specs.declared.Cell.{Cell}
use Rattle.sheet_grid.specs.declared.LineAttr.{LineAttr}
use Rattle.sheet_grid.specs.declared.Link.{Link}
use Rattle.sheet_grid.specs.Arrays.{array_at, large_array_at, where_large}
use Rattle.sheet_grid.specs.laws.FittingCells.{entry_fits_at}
use Rattle.sheet_grid.specs.Merges.{is_empty}
use Rattle.sheet_grid.specs.Sheet.{Sheet}
use Rattle.sheet_rules.specs.Occupied.{are_apart, are_hidden_blank, covers, have_arrays, have_merges, is_merge, meets_any}
use Rattle.sheet_rules.specs.WellFormed.{has_font, have_attributes, have_trees, is_column, is_row, has_keys_inside}
use Rattle.sheet_rules.specs.laws.ArraysIn.{array_in, large_array_in}
use Rattle.sheet_rules.specs.laws.EntryLaws.{both}
use Rattle.sheet_rules.specs.laws.HiddenLaws.{covered_by_one}
use Rattle.sheet_rules.specs.laws.OccupiedLaws.{KeepsHidden, KeepsMerges, are_hidden_blank_from, have_arrays_from, have_merges_from, keeps_arrays, keeps_hidden, keeps_merges}
use Rattle.sheet_rules.specs.laws.ShownLaws.{neither, no_value, none_in, not_true}
use Rattle.sheet_rules.specs.laws.WellFormedLaws.{cells_fit_from_trees, have_trees_from_cells_fit}
use Rattle.sheet_fill.specs.declared.FillRange.{FillRange}
use Rattle.sheet_fill.specs.declared.FillPlan.{FillPlan}
use Rattle.sheet_fill.specs.FillRanges.{source_place}
use Rattle.sheet_fill.specs.Targets.{cell_at, source_covered, link_at, steps}
use Rattle.sheet_fill.specs.Tiles.{cuts_some, cuts_tile, is_cut, is_repeated, offset, repetitions, tile, tile_in, tiles}
use Rattle.sheet_fill.specs.Plans.{plan_of}
use Rattle.sheet_fill.specs.laws.FillWalkLaws.{get-filled, get-linked}
use Rattle.sheet_fill.specs.laws.RangedFills.{IsBeside, IsFree}
use Rattle.sheet_fill.specs.laws.TileLaws.{begins_back, held_back, held_wider, meets_shifted, meets_wider, repeated_apart, within_inside}
use Rattle.sheet_history.specs.laws.Entries.{all_entries, entry_holds}
use Rattle.sheet_history.specs.laws.RuleLaws.{KeepsSheetRules}
use Rattle.book_sheets.specs.laws.ListTests.{distinct_joined, distinct_left}
use Rattle.sheet_history.specs.Entries.{cell_stands_at, is_inside_if_any}
use Rattle.edit_plans.specs.laws.PlanRecords.{PlanFits}
use Rattle.edit_plans.specs.Fills.{places_plan, with_fill}
use Rattle.edit_plans.specs.laws.FilledContents.{content_fits, content_no_array, content_shown}
use Rattle.edit_plans.specs.laws.Fonts.{shown_font}

-- ---- lists

all_joined : {E : Type 0} (P : E → Type 0) (xs ys : List E) → AllByRecursion P xs → AllByRecursion P ys → AllByRecursion P (xs ++ ys)
all_joined P [] ys one two = two
all_joined P (x ∷ xs) ys one two = (one.0, all_joined P xs ys one.1 two)

all_from : {E : Type 0} (P Q : E → Type 0) → ((e : E) → P e → Q e) → (es : List E) → AllByRecursion P es → AllByRecursion Q es
all_from P Q each [] h = tt
all_from P Q each (e ∷ es) h = (each e h.0, all_from P Q each es h.1)

tests_pass : {E : Type 0} (test : E → Bool) (es : List E) → AllByRecursion (λ e. test e ≡ true) es → list_all test es ≡ true
tests_pass test [] h = refl
tests_pass test (e ∷ es) h = λ i. h.0 i && tests_pass test es h.1 i

none_pass : {E : Type 0} (test : E → Bool) (es : List E) → AllByRecursion (λ e. test e ≡ false) es → list_any test es ≡ false
none_pass test [] h = refl
none_pass test (e ∷ es) h = λ i. h.0 i || none_pass test es h.1 i

-- what is left of a list by a test
module _ {E : Type 0} (test : E → Bool) (P Q : E → Type 0) (each : (e : E) → test e ≡ true → P e → Q e) where
  left_one : (e : E) (es : List E) → P e → AllByRecursion Q (filter test es) → (b : Bool) → test e ≡ b → AllByRecursion Q (cond b (e ∷ filter test es) (filter test es))
  left_one e es one rest true is = (each e is one, rest)
  left_one e es one rest false is = rest

  all_left : (es : List E) → AllByRecursion P es → AllByRecursion Q (filter test es)
  all_left [] all = tt
  all_left (e ∷ es) all = left_one e es all.0 (all_left es all.1) (test e) refl

none_listed : {E : Type 0} (q : E → Bool) (es : List E) → list_any q es ≡ false → AllByRecursion (λ e. q e ≡ false) es
none_listed q [] none = tt
none_listed q (e ∷ es) none = let parts = neither (q e) (list_any q es) none in (parts.0, none_listed q es parts.1)

not_false : (b : Bool) → not b ≡ false → b ≡ true
not_false true h = refl
not_false false h = absurd (let never : true ≡ false = h in cc)

and_false : (a b : Bool) → a ≡ true → (a && b) ≡ false → b ≡ false
and_false true b one h = h
and_false false b one h = absurd (let never : false ≡ true = one in cc)

no_longer : (b : Bool) → (b ≡ true → ⊥) → b ≡ false
no_longer true never = absurd (never refl)
no_longer false never = refl

apart_values : (b : Bool) → b ≡ true → b ≡ false → ⊥
apart_values true one two = let never : true ≡ false = two in cc
apart_values false one two = let never : false ≡ true = one in cc

-- a plan of nothing leaves a map as it is
nothing_planned : {K X : Type 0} (R : K → K → Ordering) → IsTotalOrder R → CmpEqualImpliesEq R → (m : FinMap R X) → carried_out empty m ≡ m
nothing_planned R total exact m = same_map total exact _ _ (λ q. get-carried_out R total exact empty m q ∙ ap (λ o. carried o (get m q)) (get-empty R q))

line_passes : (last line : ℤ) → IsLine last line → is_line last line ≡ true
line_passes last line on = let low = on.0 in let high = on.1 in grind (arith, ints)

place_passes : (q : Position) → IsPlace q → is_place q ≡ true
place_passes q on = λ i. line_passes (pos 1048576) q.row on.0 i && line_passes (pos 16384) q.column on.1 i

listed : {E : Type 0} (test : E → Bool) (es : List E) → list_all test es ≡ true → AllByRecursion (λ e. test e ≡ true) es
listed test [] all = tt
listed test (e ∷ es) all = let parts = both (test e) (list_all test es) all in (parts.0, listed test es parts.1)

-- an array begins at its place
array_anchor : (q : Position) (content : Content) (r : MergedCell) → array_at q content ≡ Some r → anchor_place r ≡ q
array_anchor q (Array tree width height) r is_r =
    let same : ◌≡◌ {A = MergedCell} (record { row = q.row; column = q.column; width = width; height = height }) r = cc in ap anchor_place (sym same)
array_anchor q content r is_r = absurd (no_value r is_r)

-- a repetition of a merge has as many places
many_repeated : (a : Along) (f : FillRange) (index : ℕ) (m : MergedCell) → has_many (tile a f index m) ≡ has_many m
unfolding has_many
many_repeated a f index m = refl

abbrev large_shape : Position → Cell → Option MergedCell
large_shape q c = large_array_at q c.content

-- ---- the sheet after a fill

module _ (a : Along) (is : IsAxis a) (f : FillRange) (at : IsBeside a f) (sheet : Sheet) (free : IsFree a f sheet) (rules : KeepsSheetRules sheet)
    (locale : Locale) (language : Language) where
  abbrev plan : FillPlan
  plan = plan_of a locale language sheet f

  abbrev next : Sheet
  next = with_fill sheet plan

  abbrev cell : Position → Cell
  cell = cell_at a f locale language sheet

  -- the place that a target repeats
  abbrev repeated : Position → Position
  repeated q = source_place a f q (steps a f q)

  get-cell : (q : Position) → get next.cells q ≡ carried (if holds f.target q then Some (Some (cell q)) else None) (get sheet.cells q)
  get-cell q =
      get-carried_out position_cmp position_total exact_positions plan.cells sheet.cells q
      ∙ ap (λ o. carried o (get sheet.cells q)) (get-filled a f sheet locale language q)

  get-link : (q : Position) → get next.links q ≡ carried (if holds f.target q then Some (link_at a f sheet q) else None) (get sheet.links q)
  get-link q =
      get-carried_out position_cmp position_total exact_positions plan.links sheet.links q
      ∙ ap (λ o. carried o (get sheet.links q)) (get-linked a f sheet q)

  -- a cell that stands there then was filled, or left
  data Now (q : Position) (now : Cell) : Type 0 where
    Filled : holds f.target q ≡ true → cell q ≡ now → Now q now
    Left : holds f.target q ≡ false → get sheet.cells q ≡ Some now → Now q now

  now : (q : Position) (c : Cell) → get next.cells q ≡ Some c → Now q c
  now q c found = go (holds f.target q) refl (sym (get-cell q) ∙ found)
    where
      go : (b : Bool) → holds f.target q ≡ b → carried (if b then Some (Some (cell q)) else None) (get sheet.cells q) ≡ Some c → Now q c
      go true held is_c = Filled held (let same : ◌≡◌ {A = Option Cell} (Some (cell q)) (Some c) = is_c in cc)
      go false out is_c = Left out is_c

  -- ---- places

  inner : (list_all (λ (e : Position × Cell). is_place e.0) (entries sheet.cells) ≡ true) × (list_all (λ (e : Position × Link). is_place e.0) (entries sheet.links) ≡ true)
  unfolding has_keys_inside
  inner = both _ _ (both _ _ (both _ _ rules.inside).0).0

  row_places : list_all (λ (e : ℤ × LineAttr). is_line (pos 1048576) e.0) (entries sheet.rows) ≡ true
  unfolding has_keys_inside
  row_places = (both _ _ (both _ _ rules.inside).0).1

  column_places : list_all (λ (e : ℤ × LineAttr). is_line (pos 16384) e.0) (entries sheet.columns) ≡ true
  unfolding has_keys_inside
  column_places = (both _ _ rules.inside).1

  rows_stay : next.rows ≡ sheet.rows
  rows_stay = nothing_planned int_cmp int_cmp_total exact_signed sheet.rows

  columns_stay : next.columns ≡ sheet.columns
  columns_stay = nothing_planned int_cmp int_cmp_total exact_signed sheet.columns

  on_target : (q : Position) → holds f.target q ≡ true → is_place q ≡ true
  on_target q held = place_passes q (held_inside f.target q at.target held)

  cell_inside : (q : Position) (c : Cell) → get next.cells q ≡ Some c → is_place q ≡ true
  cell_inside q c found = go (now q c found)
    where
      go : Now q c → is_place q ≡ true
      go (Filled held same) = on_target q held
      go (Left out there) = entry_holds position_cmp position_total exact_positions (λ (e : Position × Cell). is_place e.0) sheet.cells inner.0 q c there

  link_inside : (q : Position) (link : Link) → get next.links q ≡ Some link → is_place q ≡ true
  link_inside q link found = go (holds f.target q) refl (sym (get-link q) ∙ found)
    where
      go : (b : Bool) → holds f.target q ≡ b → carried (if b then Some (link_at a f sheet q) else None) (get sheet.links q) ≡ Some link → is_place q ≡ true
      go true held is_link = on_target q held
      go false out is_link = entry_holds position_cmp position_total exact_positions (λ (e : Position × Link). is_place e.0) sheet.links inner.1 q link is_link

  inside_stays : has_keys_inside next ≡ true
  unfolding has_keys_inside
  inside_stays =
      let cells = all_entries position_cmp position_total exact_positions (λ (e : Position × Cell). is_place e.0) next.cells cell_inside in
      let links = all_entries position_cmp position_total exact_positions (λ (e : Position × Link). is_place e.0) next.links link_inside in
      let rows = ap (λ (m : FinMap int_cmp LineAttr). list_all (λ (e : ℤ × LineAttr). is_line (pos 1048576) e.0) (entries m)) rows_stay ∙ row_places in
      let columns = ap (λ (m : FinMap int_cmp LineAttr). list_all (λ (e : ℤ × LineAttr). is_line (pos 16384) e.0) (entries m)) columns_stay ∙ column_places in
      λ i. cells i && links i && rows i && columns i

  -- ---- fonts

  own_attributes : (list_all (λ (e : ℤ × LineAttr). is_row e.1) (entries sheet.rows) ≡ true) × (list_all (λ (e : ℤ × LineAttr). is_column e.1) (entries sheet.columns) ≡ true)
  unfolding have_attributes
  own_attributes = both _ _ (both _ _ rules.attributes).0

  own_fonts : list_all (λ (e : Position × Cell). has_font e.1.style) (entries sheet.cells) ≡ true
  unfolding have_attributes
  own_fonts = (both _ _ rules.attributes).1

  font : (q : Position) (c : Cell) → get next.cells q ≡ Some c → has_font c.style ≡ true
  font q c found = go (now q c found)
    where
      go : Now q c → has_font c.style ≡ true
      go (Filled held same) = ap (λ (d : Cell). has_font d.style) (sym same) ∙ shown_font sheet rules.attributes (repeated q)
      go (Left out there) = entry_holds position_cmp position_total exact_positions (λ (e : Position × Cell). has_font e.1.style) sheet.cells own_fonts q c there

  attributes_stay : have_attributes next ≡ true
  unfolding have_attributes
  attributes_stay =
      let rows = ap (λ (m : FinMap int_cmp LineAttr). list_all (λ (e : ℤ × LineAttr). is_row e.1) (entries m)) rows_stay ∙ own_attributes.0 in
      let columns = ap (λ (m : FinMap int_cmp LineAttr). list_all (λ (e : ℤ × LineAttr). is_column e.1) (entries m)) columns_stay ∙ own_attributes.1 in
      let fonts = all_entries position_cmp position_total exact_positions (λ (e : Position × Cell). has_font e.1.style) next.cells font in
      λ i. rows i && columns i && fonts i

  -- ---- trees

  trees_stay : have_trees next ≡ true
  trees_stay = have_trees_from_cells_fit next (λ q. go q (get next.cells q) refl)
    where
      fit : (q : Position) (c : Cell) → Now q c → fits_at q c.content ≡ true
      fit q c (Filled held same) = ap (λ (d : Cell). fits_at q d.content) (sym same) ∙ content_fits a is f sheet rules.trees locale language q held
      fit q c (Left out there) = sym (ap (entry_fits_at q) there) ∙ cells_fit_from_trees sheet rules.trees q

      go : (q : Position) (o : Option Cell) → get next.cells q ≡ o → IsTrue (entry_fits_at q (get next.cells q))
      go q None found = ap (entry_fits_at q) found
      go q (Some c) found = ap (entry_fits_at q) found ∙ fit q c (now q c found)

  -- ---- arrays

  -- an array that stands there then is outside the target, and stood there
  record Stood (shape : Position → Content → Option MergedCell) (q : Position) (r : MergedCell) : Type 0 where
    out : holds f.target q ≡ false
    was : option_and_then (λ (c : Cell). shape q c.content) (get sheet.cells q) ≡ Some r

  module _ (shape : Position → Content → Option MergedCell) (plain : (q : Position) (content : Content) → array_at q content ≡ None → shape q content ≡ None) where
    stood : (q : Position) (r : MergedCell) → option_and_then (λ (c : Cell). shape q c.content) (get next.cells q) ≡ Some r → Stood shape q r
    stood q r there = go (get next.cells q) refl there
      where
        old : (c : Cell) → Now q c → shape q c.content ≡ Some r → Stood shape q r
        old c (Filled held same) is_r =
            absurd (no_value r
            (sym (plain q (cell q).content (content_no_array a f sheet locale language q)) ∙ ap (λ (d : Cell). shape q d.content) same ∙ is_r))
        old c (Left out was) is_r = record { out = out; was = ap (option_and_then (λ (d : Cell). shape q d.content)) was ∙ is_r }

        go : (o : Option Cell) → get next.cells q ≡ o → option_and_then (λ (c : Cell). shape q c.content) o ≡ Some r → Stood shape q r
        go None found is_r = absurd (no_value r is_r)
        go (Some c) found is_r = old c (now q c found) is_r

  array_stood : (q : Position) (r : MergedCell) → array_in next q ≡ Some r → Stood array_at q r
  array_stood = stood array_at (λ q content none. none)

  large_stood : (q : Position) (r : MergedCell) → large_array_in next q ≡ Some r → Stood large_array_at q r
  large_stood = stood large_array_at (λ q content none. ap where_large none)

  arrays_stay : have_arrays next ≡ true
  arrays_stay =
      let old = keeps_arrays sheet rules.arrays in
      have_arrays_from next (record {
        inside = λ q r there. old.inside q r (array_stood q r there).was;
        apart = λ p q r s differ at_p at_q. old.apart p q r s differ (large_stood p r at_p).was (large_stood q s at_q).was;
      })

  -- an array of more than one cell begins at its place
  large_is : (q : Position) (r : MergedCell) (o : Option MergedCell) → where_large o ≡ Some r → o ≡ Some r
  large_is q r None is_r = absurd (no_value r is_r)
  large_is q r (Some s) is_r = go (has_many s) is_r
    where
      go : (b : Bool) → cond b (Some s) None ≡ Some r → Some s ≡ Some r
      go true same = same
      go false none = absurd (no_value r none)

  -- so it does not meet the target
  module _ (q : Position) (r : MergedCell) (there : large_array_in next q ≡ Some r) where
    old_array : Stood large_array_at q r
    old_array = large_stood q r there

    record Anchored : Type 0 where
      inside : is_inside r ≡ true
      begins : anchor_place r ≡ q

    anchored : Anchored
    anchored = go (get sheet.cells q) refl old_array.was
      where
        go : (o : Option Cell) → get sheet.cells q ≡ o → option_and_then (λ (c : Cell). large_array_at q c.content) o ≡ Some r → Anchored
        go None found is_r = absurd (no_value r is_r)
        go (Some c) found is_r =
            let own = large_is q r (array_at q c.content) is_r in
            record {
              inside = (keeps_arrays sheet rules.arrays).inside q r (ap (option_and_then (λ (d : Cell). array_at q d.content)) found ∙ own);
              begins = array_anchor q c.content r own;
            }

    array_apart : meets r f.target ≡ false
    array_apart = no_longer (meets r f.target) (λ met.
        let uncut : is_cut f r ≡ false = none_in position_cmp position_total exact_positions large_shape (is_cut f) sheet.cells free.arrays q r old_array.was in
        let within : is_inside_of r f.target ≡ true = not_false _ (and_false (meets r f.target) (not (is_inside_of r f.target)) met uncut) in
        let held = held_wider r f.target (anchor_place r) within (holds_anchor r (inside_found r anchored.inside)) in
        apart_values (holds f.target q) (subst (λ p. holds f.target p ≡ true) anchored.begins held) old_array.out)

  -- ---- merges

  -- a merge of the source that the target does not cut, and what else holds of it
  record IsSource (P : MergedCell → Type 0) (m : MergedCell) : Type 0 where
    merge : is_merge m ≡ true
    repeats : is_repeated f m ≡ true
    uncut : cuts_some a f m (repetitions a f) ≡ false
    own : P m

  -- a repetition of one that meets the target
  record IsRepeat (P : MergedCell → Type 0) (index : ℕ) (t : MergedCell) : Type 0 where
    m : MergedCell
    source : IsSource P m
    same : tile a f index m ≡ t
    met : meets t f.target ≡ true

  -- in one of so many repetitions
  record IsTile (P : MergedCell → Type 0) (most : ℕ) (t : MergedCell) : Type 0 where
    index : ℕ
    few : index < most
    repeats : IsRepeat P index t

  some_uncut : (m : MergedCell) (index n : ℕ) → index < n → cuts_some a f m n ≡ false → is_cut f (tile a f index m) ≡ false
  some_uncut m index zero few none = absurd (omega arith)
  some_uncut m index (suc n) few none = go (some_uncut m index n) (neither (cuts_some a f m n) (is_cut f (tile a f n m)) none) (index == n) refl
    where
      go : (index < n → cuts_some a f m n ≡ false → is_cut f (tile a f index m) ≡ false) → (cuts_some a f m n ≡ false) × (is_cut f (tile a f n m) ≡ false)
          → (b : Bool) → (index == n) ≡ b → is_cut f (tile a f index m) ≡ false
      go rest parts true same = subst (λ k. is_cut f (tile a f k m) ≡ false) (sym ((unsigned_Decides index n).0 same)) parts.1
      go rest parts false other = rest (earlier index n few other) parts.0

  module _ (P : MergedCell → Type 0) where
    source_within : (m : MergedCell) → IsSource P m → is_inside_of m f.source ≡ true
    source_within m s = (both (meets m f.source) (is_inside_of m f.source) s.repeats).1

    -- it lies in the target
    tile_within : (t : MergedCell) → IsTile P (repetitions a f) t → is_inside_of t f.target ≡ true
    tile_within t s =
        let it = s.repeats in
        let uncut : is_cut f t ≡ false = subst (λ r. is_cut f r ≡ false) it.same (some_uncut it.m s.index (repetitions a f) s.few it.source.uncut) in
        not_false _ (and_false (meets t f.target) (not (is_inside_of t f.target)) it.met uncut)

    tile_merge : (t : MergedCell) → IsTile P (repetitions a f) t → is_merge t ≡ true
    tile_merge t s =
        let it = s.repeats in
        let parts = both (has_many it.m) (is_inside it.m) it.source.merge in
        let inside = inside_found it.m parts.1 in
        let wide : pos 1 ≤ℤ t.width = subst (λ (r : MergedCell). pos 1 ≤ℤ r.width) it.same inside.wide in
        let high : pos 1 ≤ℤ t.height = subst (λ (r : MergedCell). pos 1 ≤ℤ r.height) it.same inside.high in
        let many : has_many t ≡ true = sym (ap has_many it.same) ∙ many_repeated a f s.index it.m ∙ parts.0 in
        let here = inside_passes t (within_inside t f.target (tile_within t s) at.target wide high) in
        λ i. many i && here i

    sources : (ms : List MergedCell) → list_all is_merge ms ≡ true → list_any (cuts_tile a f) ms ≡ false → AllByRecursion P ms
        → AllByRecursion (IsSource P) (filter (is_repeated f) ms)
    sources [] merges uncut own = tt
    sources (m ∷ ms) merges uncut own =
        go (both (is_merge m) (list_all is_merge ms) merges) (neither (cuts_tile a f m) (list_any (cuts_tile a f) ms) uncut) (sources ms) (is_repeated f m) refl
      where
        go : (is_merge m ≡ true) × (list_all is_merge ms ≡ true) → (cuts_tile a f m ≡ false) × (list_any (cuts_tile a f) ms ≡ false)
            → (list_all is_merge ms ≡ true → list_any (cuts_tile a f) ms ≡ false → AllByRecursion P ms → AllByRecursion (IsSource P) (filter (is_repeated f) ms))
            → (b : Bool) → is_repeated f m ≡ b → AllByRecursion (IsSource P) (cond b (m ∷ filter (is_repeated f) ms) (filter (is_repeated f) ms))
        go one two rest true repeats = (
          record { merge = one.0; repeats = repeats; uncut = and_false (is_repeated f m) (cuts_some a f m (repetitions a f)) repeats two.0; own = own.0 },
          rest one.1 two.1 own.1,
        )
        go one two rest false repeats = rest one.1 two.1 own.1

    row_tiles : (index : ℕ) (rs : List MergedCell) → AllByRecursion (IsSource P) rs → AllByRecursion (IsRepeat P index) (filter_map (tile_in a f index) rs)
    row_tiles index [] all = tt
    row_tiles index (r ∷ rs) all = go (row_tiles index rs all.1) (meets (tile a f index r) f.target) refl
      where
        go : AllByRecursion (IsRepeat P index) (filter_map (tile_in a f index) rs) → (b : Bool) → meets (tile a f index r) f.target ≡ b
            → AllByRecursion (IsRepeat P index) (cons_option (if b then Some (tile a f index r) else None) (filter_map (tile_in a f index) rs))
        go rest true met = (record { m = r; source = all.0; same = refl; met = met }, rest)
        go rest false met = rest

    all_tiles : (rs : List MergedCell) → AllByRecursion (IsSource P) rs → (n : ℕ) → AllByRecursion (IsTile P n) (tiles a f rs n)
    all_tiles rs all zero = tt
    all_tiles rs all (suc n) =
        all_joined (IsTile P (suc n)) (tiles a f rs n) (filter_map (tile_in a f n) rs)
        (all_from (IsTile P n) (IsTile P (suc n)) (λ t s. let low = s.few in record { index = s.index; few = omega arith; repeats = s.repeats }) (tiles a f rs n) (all_tiles rs all n))
        (all_from (IsRepeat P n) (IsTile P (suc n)) (λ t s. record { index = n; few = omega arith; repeats = s }) (filter_map (tile_in a f n) rs) (row_tiles n rs all))

  -- repetitions of merges that do not meet do not meet
  row_none : (index : ℕ) (r : MergedCell) (rs : List MergedCell) → list_any (meets r) rs ≡ false
      → list_any (meets (tile a f index r)) (filter_map (tile_in a f index) rs) ≡ false
  row_none index r [] none = refl
  row_none index r (s ∷ rs) none = go (row_none index r rs) (neither (meets r s) (list_any (meets r) rs) none) (meets (tile a f index s) f.target)
    where
      go : (list_any (meets r) rs ≡ false → list_any (meets (tile a f index r)) (filter_map (tile_in a f index) rs) ≡ false)
          → (meets r s ≡ false) × (list_any (meets r) rs ≡ false) → (b : Bool)
          → list_any (meets (tile a f index r)) (cons_option (if b then Some (tile a f index s) else None) (filter_map (tile_in a f index) rs)) ≡ false
      go rest parts true = λ i. (meets_shifted a is (offset a f index) r s ∙ parts.0) i || rest parts.1 i
      go rest parts false = rest parts.1

  row_apart : (index : ℕ) (rs : List MergedCell) → are_apart rs ≡ true → are_apart (filter_map (tile_in a f index) rs) ≡ true
  row_apart index [] apart = refl
  row_apart index (r ∷ rs) apart = go (row_apart index rs) (both (not (list_any (meets r) rs)) (are_apart rs) apart) (meets (tile a f index r) f.target)
    where
      go : (are_apart rs ≡ true → are_apart (filter_map (tile_in a f index) rs) ≡ true) → (not (list_any (meets r) rs) ≡ true) × (are_apart rs ≡ true) → (b : Bool)
          → are_apart (cons_option (if b then Some (tile a f index r) else None) (filter_map (tile_in a f index) rs)) ≡ true
      go rest parts true = λ i. not (row_none index r rs (not_true (list_any (meets r) rs) parts.0) i) && rest parts.1 i
      go rest parts false = rest parts.1

  -- nothing more is asked of a merge
  abbrev Any : MergedCell → Type 0
  Any m = Unit {0}

  two_apart : (t u : MergedCell) (n : ℕ) → IsTile Any n t → IsRepeat Any n u → meets t u ≡ false
  two_apart t u n one two =
      let first = one.repeats in
      (λ i. meets (sym first.same i) (sym two.same i))
      ∙ repeated_apart a is f at.source one.index n one.few first.m two.m (source_within Any first.m first.source) (source_within Any two.m two.source)

  tiles_apart : (rs : List MergedCell) → AllByRecursion (IsSource Any) rs → are_apart rs ≡ true → (n : ℕ) → are_apart (tiles a f rs n) ≡ true
  tiles_apart rs all apart zero = refl
  tiles_apart rs all apart (suc n) =
      distinct_joined meets (tiles a f rs n) (filter_map (tile_in a f n) rs) (tiles_apart rs all apart n) (row_apart n rs apart)
      (all_from (IsTile Any n) (λ t. list_any (meets t) (filter_map (tile_in a f n) rs) ≡ false)
      (λ t one. none_pass (meets t) (filter_map (tile_in a f n) rs)
      (all_from (IsRepeat Any n) (λ u. meets t u ≡ false) (λ u two. two_apart t u n one two) (filter_map (tile_in a f n) rs) (row_tiles Any n rs all)))
      (tiles a f rs n) (all_tiles Any rs all n))

  -- ---- the merges of the sheet

  old_merges : KeepsMerges sheet
  old_merges = keeps_merges sheet rules.merges

  abbrev kept : List MergedCell
  kept = filter (λ m. not (meets m f.target)) sheet.merges

  abbrev output : List MergedCell
  output = tiles a f (filter (is_repeated f) sheet.merges) (repetitions a f)

  module _ (P : MergedCell → Type 0) (own : AllByRecursion P sheet.merges) where
    made_are : AllByRecursion (IsTile P (repetitions a f)) output
    made_are = all_tiles P (filter (is_repeated f) sheet.merges) (sources P sheet.merges old_merges.merges free.cut own) (repetitions a f)

    -- a kept merge does not meet the target
    kept_are : AllByRecursion (λ m. (meets m f.target ≡ false) × P m) kept
    kept_are = all_left (λ m. not (meets m f.target)) P (λ m. (meets m f.target ≡ false) × P m) (λ m out p. (not_true (meets m f.target) out, p)) sheet.merges own

  no_more : (ms : List MergedCell) → AllByRecursion Any ms
  no_more [] = tt
  no_more (m ∷ ms) = (tt, no_more ms)

  merges_are : list_all is_merge next.merges ≡ true
  merges_are = tests_pass is_merge (kept ++ output) (all_joined (λ m. is_merge m ≡ true) kept output
      (all_from (λ m. (meets m f.target ≡ false) × (is_merge m ≡ true)) (λ m. is_merge m ≡ true) (λ m p. p.1) kept
      (kept_are (λ m. is_merge m ≡ true) (listed is_merge sheet.merges old_merges.merges)))
      (all_from (IsTile Any (repetitions a f)) (λ t. is_merge t ≡ true) (tile_merge Any) output (made_are Any (no_more sheet.merges))))

  kept_away : (m : MergedCell) → meets m f.target ≡ false → list_any (meets m) output ≡ false
  kept_away m out = none_pass (meets m) output (all_from (IsTile Any (repetitions a f)) (λ t. meets m t ≡ false)
      (λ t s. no_longer (meets m t) (λ met. apart_values (meets m f.target) (meets_wider m t f.target (tile_within Any t s) met) out))
      output (made_are Any (no_more sheet.merges)))

  merges_apart : are_apart next.merges ≡ true
  merges_apart =
      distinct_joined meets kept output
      (distinct_left meets (λ m. not (meets m f.target)) sheet.merges old_merges.apart)
      (tiles_apart (filter (is_repeated f) sheet.merges) (sources Any sheet.merges old_merges.merges free.cut (no_more sheet.merges))
      (distinct_left meets (is_repeated f) sheet.merges old_merges.apart) (repetitions a f))
      (all_from (λ m. (meets m f.target ≡ false) × Any m) (λ m. list_any (meets m) output ≡ false) (λ m p. kept_away m p.0) kept
      (kept_are Any (no_more sheet.merges)))

  arrays_away : (q : Position) (r : MergedCell) → large_array_in next q ≡ Some r → meets_any next.merges r ≡ false
  arrays_away q r there =
      let out = array_apart q r there in
      none_pass (meets r) (kept ++ output) (all_joined (λ m. meets r m ≡ false) kept output
      (all_from (λ m. (meets m f.target ≡ false) × (meets r m ≡ false)) (λ m. meets r m ≡ false) (λ m p. p.1) kept
      (kept_are (λ m. meets r m ≡ false) (none_listed (meets r) sheet.merges (old_merges.arrays q r (large_stood q r there).was))))
      (all_from (IsTile Any (repetitions a f)) (λ t. meets r t ≡ false)
      (λ t s. no_longer (meets r t) (λ met. apart_values (meets r f.target) (meets_wider r t f.target (tile_within Any t s) met) out))
      output (made_are Any (no_more sheet.merges))))

  merges_stay : have_merges next ≡ true
  merges_stay = have_merges_from next (record { merges = merges_are; apart = merges_apart; arrays = arrays_away })

  -- ---- hidden places

  old_hidden : KeepsHidden sheet
  old_hidden = keeps_hidden sheet rules.hidden

  uncovered_out : (r : MergedCell) (q : Position) → (holds r q ≡ true → ⊥) → covers r q ≡ false
  uncovered_out r q never = λ i. no_longer (holds r q) never i && not (same_position (anchor_place r) q)

  -- what a merge that does not meet the target holds is not in the target
  held_out : (r : MergedCell) → meets r f.target ≡ false → (q : Position) → holds f.target q ≡ true → holds r q ≡ true → ⊥
  held_out r out q on held = apart_values (meets r f.target) (shared_meets r f.target q held on) out

  -- a tile covers a target only where the merge covers the place that it repeats
  tile_covers : (q : Position) (t : MergedCell) → IsTile (λ m. covers m (repeated q) ≡ false) (repetitions a f) t → covers t q ≡ false
  tile_covers q t s =
      let it = s.repeats in
      subst (λ r. covers r q ≡ false) it.same
      (no_longer (covers (tile a f s.index it.m) q) (λ covered.
      let parts = both (holds (tile a f s.index it.m) q) (not (same_position (anchor_place (tile a f s.index it.m)) q)) covered in
      let within = source_within (λ m. covers m (repeated q) ≡ false) it.m it.source in
      let held = held_back a is f at s.index it.m within q parts.0 in
      let begins = no_longer (same_position (anchor_place it.m) (repeated q)) (λ same.
      apart_values (same_position (anchor_place (tile a f s.index it.m)) q) (begins_back a is f at s.index it.m within q parts.0 same) (not_true _ parts.1)) in
      apart_values (covers it.m (repeated q)) (λ i. held i && not (begins i)) it.source.own))

  merges_blank : (q : Position) (c : Cell) → get next.cells q ≡ Some c → is_empty c.content ≡ false → list_any (λ m. covers m q) next.merges ≡ false
  merges_blank q c found filled = go (now q c found)
    where
      go : Now q c → list_any (λ m. covers m q) (kept ++ output) ≡ false
      go (Left out there) =
          none_pass (λ m. covers m q) (kept ++ output) (all_joined (λ m. covers m q ≡ false) kept output
          (all_from (λ m. (meets m f.target ≡ false) × (covers m q ≡ false)) (λ m. covers m q ≡ false) (λ m p. p.1) kept
          (kept_are (λ m. covers m q ≡ false) (none_listed (λ m. covers m q) sheet.merges (old_hidden.merges q c there filled))))
          (all_from (IsTile Any (repetitions a f)) (λ t. covers t q ≡ false)
          (λ t s. uncovered_out t q (λ held. apart_values (holds f.target q) (held_wider t f.target q (tile_within Any t s) held) out))
          output (made_are Any (no_more sheet.merges))))
      go (Filled held same) =
          let shown : source_covered a f sheet q (steps a f q) ≡ false =
          content_shown a f sheet locale language q (ap (λ (d : Cell). is_empty d.content) same ∙ filled) in
          let open_there = none_listed (λ m. covers m (repeated q)) sheet.merges (covered_by_one (repeated q) sheet.merges old_merges.apart ∙ shown) in
          none_pass (λ m. covers m q) (kept ++ output) (all_joined (λ m. covers m q ≡ false) kept output
          (all_from (λ m. (meets m f.target ≡ false) × Any m) (λ m. covers m q ≡ false) (λ m p. uncovered_out m q (held_out m p.0 q held)) kept
          (kept_are Any (no_more sheet.merges)))
          (all_from (IsTile (λ m. covers m (repeated q) ≡ false) (repetitions a f)) (λ t. covers t q ≡ false) (tile_covers q) output
          (made_are (λ m. covers m (repeated q) ≡ false) open_there)))

  arrays_blank : (p q : Position) (r : MergedCell) (c : Cell) → large_array_in next p ≡ Some r → get next.cells q ≡ Some c → is_empty c.content ≡ false → covers r q ≡ false
  arrays_blank p q r c there found filled = go (now q c found)
    where
      go : Now q c → covers r q ≡ false
      go (Left out was) = old_hidden.arrays p q r c (large_stood p r there).was was filled
      go (Filled held same) = uncovered_out r q (held_out r (array_apart p r there) q held)

  hidden_stay : are_hidden_blank next ≡ true
  hidden_stay = are_hidden_blank_from next (record { merges = merges_blank; arrays = arrays_blank })

  -- the sheet keeps its rules
  pub fill_keeps : KeepsSheetRules next
  fill_keeps = record {
    inside = inside_stays;
    arrays = arrays_stay;
    merges = merges_stay;
    hidden = hidden_stay;
    trees = trees_stay;
    rule_trees = rules.rule_trees;
    attributes = attributes_stay;
    frozen = rules.frozen;
    rule_parts = rules.rule_parts;
  }

  -- each place that is planned may stand in a record
  entry_stands : (q : Position) (entry : Option Cell) → get plan.cells q ≡ Some entry → (is_place q && cell_stands_at q entry) ≡ true
  entry_stands q entry planned = go (holds f.target q) refl (sym (get-filled a f sheet locale language q) ∙ planned)
    where
      go : (b : Bool) → holds f.target q ≡ b → (if b then Some (Some (cell q)) else None) ≡ Some entry → (is_place q && cell_stands_at q entry) ≡ true
      go true held is_entry =
          let same : ◌≡◌ {A = Option Cell} (Some (cell q)) entry = cc in
          ap (λ e. is_place q && cell_stands_at q e) (sym same)
          ∙ (λ i. on_target q held i && (content_fits a is f sheet rules.trees locale language q held i && is_inside_if_any (content_no_array a f sheet locale language q i)))
      go false out is_entry = absurd (no_value entry is_entry)

  link_stands : (q : Position) (entry : Option Link) → get plan.links q ≡ Some entry → is_place q ≡ true
  link_stands q entry planned = go (holds f.target q) refl (sym (get-linked a f sheet q) ∙ planned)
    where
      go : (b : Bool) → holds f.target q ≡ b → (if b then Some (link_at a f sheet q) else None) ≡ Some entry → is_place q ≡ true
      go true held is_entry = on_target q held
      go false out is_entry = absurd (no_value entry is_entry)

  pub fill_fits : (id : ℕ) → PlanFits (places_plan plan.cells plan.links) id
  fill_fits id = record {
    cells = listed (λ (e : Position × Option Cell). is_place e.0 && cell_stands_at e.0 e.1) (entries plan.cells)
        (all_entries position_cmp position_total exact_positions (λ (e : Position × Option Cell). is_place e.0 && cell_stands_at e.0 e.1) plan.cells entry_stands);
    links = listed (λ (e : Position × Option Link). is_place e.0) (entries plan.links)
        (all_entries position_cmp position_total exact_positions (λ (e : Position × Option Link). is_place e.0) plan.links link_stands);
    columns = listed _ (entries empty) (all_entries int_cmp int_cmp_total exact_signed _ empty (λ line entry planned. absurd (no_value entry (sym (get-empty int_cmp line) ∙ planned))));
    rows = listed _ (entries empty) (all_entries int_cmp int_cmp_total exact_signed _ empty (λ line entry planned. absurd (no_value entry (sym (get-empty int_cmp line) ∙ planned))));
  }
