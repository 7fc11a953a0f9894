-- The arrays and merges of a sheet follow an edit of lines that leaves them whole.
use Rattle.std.proofs.Common.{◌≡◌, ℤ, pos, ◌+ℤ◌, ◌-ℤ◌, ◌≤ℤ◌, Bool, true, false, not, ◌&&◌, ◌||◌, List, [], ◌∷◌, Option, Some, None, refl, ap, sym, subst, arith, ◌∙◌}
use Rattle.std.specs.Prelude.{ℕ, ◌==◌, int_lt, if◌then◌else◌}
use Rattle.std.specs.List.{list_all, list_any, filter_map}
use Rattle.std.specs.Option.{option_map, option_and_then}
use Rattle.std.specs.FinMap.{get}
use Rattle.std.proofs.lemmas.Int.{ints}
use Rattle.base_values.specs.declared.Position.{Position}
use Rattle.base_values.specs.Places.{position_cmp}
use Rattle.base_values.specs.laws.Places.{position_total, exact_positions}
use Rattle.base_axis.specs.Along.{Along, IsAxis}
use Rattle.base_axis.specs.declared.MergedCell.{MergedCell}
use Rattle.base_axis.specs.Rectangles.{IsInside, is_inside, has_many, anchor_place, first_line, last_line, across, line_count, line_span, with_lines}
use Rattle.base_axis.specs.laws.RectangleLaws.{inside_found, inside_passes, first_inside, last_inside, lines_in_order, across_some, across_stays, has_many_along}
use Rattle.base_maps.specs.Carried.{if_there}
use Rattle.base_maps.specs.laws.CarriedLaws.{get-carried_map}
use Rattle.cell_content.specs.declared.Content.{Content}
use Rattle.cell_content.specs.declared.Content.TheVariants.{Empty, Number, Boolean, Error, Text, Formula, Dynamic, Array}
use Rattle.line_edits.specs.declared.EditKind.{EditKind}
use Rattle.line_edits.specs.declared.EditKind.TheVariants.{Insert, Delete, Move}
use Rattle.line_edits.specs.Edit.{image_at, IsValid}
use Rattle.line_edits.specs.Merged.{merged_by}
use Rattle.line_edits.specs.Moves.{edit_moves, place_image}
use Rattle.line_edits.specs.Splits.{splits}
use Rattle.line_edits.specs.laws.OneToOne.{edit_one_to_one}
use Rattle.line_map.specs.Contents.{content_carried, cell_carried}
use Rattle.line_routes.specs.Merges.{merge_carried, merges_carried}
use Rattle.line_routes.specs.Trees.{tree_carried}
use Rattle.line_routes.specs.RouteModel.{RouteModel, IsRoute, at, back, place_goes}
use Rattle.line_routes.specs.laws.RouteLaws.{goes_inverse}
use Rattle.sheet_grid.specs.declared.Cell.{Cell}
use Rattle.sheet_grid.specs.Arrays.{array_at, large_array_at, where_large}
use Rattle.sheet_grid.specs.Merges.{is_empty}
use Rattle.sheet_grid.specs.laws.ChangedShapes.{empty_changed}
use Rattle.sheet_grid.specs.Sheet.{Sheet}
use Rattle.sheet_rules.specs.Occupied.{have_arrays, have_merges, are_hidden_blank, is_merge}
use Rattle.sheet_rules.specs.laws.ArraysIn.{array_in}
use Rattle.sheet_rules.specs.laws.EntryLaws.{both}
use Rattle.sheet_rules.specs.laws.ShownLaws.{neither, not_true, none_in}
use Rattle.sheet_rules.specs.laws.OccupiedLaws.{KeepsArrays, keeps_arrays, have_arrays_from, KeepsMerges, keeps_merges, have_merges_from, keeps_hidden, are_hidden_blank_from}
use Rattle.sheet_lines.specs.Followed.{route_of, sheet_followed}
use Rattle.sheet_actions.specs.GreatestLine.{greatest_line}
use Rattle.sheet_actions.specs.Planned.{splits_rectangle}
use Rattle.sheet_actions.specs.Whole.{moves_part, has_no_room, LeavesWhole}
use Rattle.sheet_actions.specs.laws.Sources.{Whole, brings}
use Rattle.sheet_actions.specs.laws.MergedSources.{some_is, Carried, merged_left, is_move}
use Rattle.sheet_actions.specs.laws.GreatestLaws.{array_ends}
use Rattle.sheet_actions.specs.laws.FollowingRectangles.{Follows, source_place, source_of_place, placed_at, put_lines, line_of_place, whole_follows, merge_follows, many_lines, many_span, by_axis}
use Rattle.sheet_actions.specs.laws.FollowedRectangles.{Came, Shown, HasFollowed, arrays_follow, merges_follow, hidden_follow}

-- ---- what cells show, carried along

-- the array of a content goes where the content goes
array_carried : (w : RouteModel) (p q : Position) (content : Content) → array_at q (content_carried w content) ≡ option_map (placed_at q) (array_at p content)
array_carried w p q Empty = refl
array_carried w p q (Number number) = refl
array_carried w p q (Boolean truth) = refl
array_carried w p q (Error error) = refl
array_carried w p q (Text text) = refl
array_carried w p q (Formula tree) = refl
array_carried w p q (Dynamic tree) = refl
array_carried w p q (Array tree width height) = refl

-- an array begins at its place
array_begins : (p : Position) (content : Content) (r : MergedCell) → array_at p content ≡ Some r → anchor_place r ≡ p
array_begins p Empty r h = absurd (cc)
array_begins p (Number number) r h = absurd (cc)
array_begins p (Boolean truth) r h = absurd (cc)
array_begins p (Error error) r h = absurd (cc)
array_begins p (Text text) r h = absurd (cc)
array_begins p (Formula tree) r h = absurd (cc)
array_begins p (Dynamic tree) r h = absurd (cc)
array_begins p (Array tree width height) r h = let one : record { row = p.row; column = p.column; width = width; height = height } ≡ r = cc in ap anchor_place (sym one)

-- one of more than one cell is an array
large_is_array : (o : Option MergedCell) (s : MergedCell) → where_large o ≡ Some s → (o ≡ Some s) × (has_many s ≡ true)
large_is_array None s h = absurd (let never : ◌≡◌ {A = Option MergedCell} None (Some s) = h in cc)
large_is_array (Some r) s h = by_size (has_many r) refl h
  where
    by_size : (b : Bool) → has_many r ≡ b → (if b then Some r else None) ≡ Some s → (Some r ≡ Some s) × (has_many s ≡ true)
    by_size true is g = let one : r ≡ s = cc in (ap Some one, ap has_many (sym one) ∙ is)
    by_size false is g = absurd (let never : ◌≡◌ {A = Option MergedCell} None (Some s) = g in cc)

large_of_array : (r : MergedCell) → has_many r ≡ true → where_large (Some r) ≡ Some r
large_of_array r h = ap (λ b. if b then Some r else None) h

same_size : (q : Position) (r : MergedCell) → has_many (placed_at q r) ≡ has_many r
unfolding has_many
same_size q r = refl

module _ (w : RouteModel) (is : IsRoute w) (came : Position → Position) (sheet : Sheet) where
  abbrev after : Sheet
  after = sheet_followed w sheet

  -- the cell that went to a place
  record Went (q : Position) (cell : Cell) : Type 0 where
    place : Position
    before : Cell
    there : place_goes w place ≡ Some q
    held : get sheet.cells place ≡ Some before
    value : cell_carried (at w place q) before ≡ cell

  went_at : (q : Position) (cell : Cell) (s : Option Position) → place_goes (back w) q ≡ s → if_there s (λ p. if_there (get sheet.cells p) (λ x. Some (cell_carried (at w p q) x))) ≡ Some cell → Went q cell
  went_at q cell None h e = absurd (let never : ◌≡◌ {A = Option Cell} None (Some cell) = e in cc)
  went_at q cell (Some p) h e = at_cell (get sheet.cells p) refl e
    where
      at_cell : (o : Option Cell) → get sheet.cells p ≡ o → if_there o (λ x. Some (cell_carried (at w p q) x)) ≡ Some cell → Went q cell
      at_cell None held g = absurd (let never : ◌≡◌ {A = Option Cell} None (Some cell) = g in cc)
      at_cell (Some x) held g = record { place = p; before = x; there = (goes_inverse w is).forth p q h; held = held; value = cc }

  went : (q : Position) (cell : Cell) → get after.cells q ≡ Some cell → Went q cell
  went q cell h =
      went_at q cell (place_goes (back w) q) refl
      (sym (get-carried_map position_cmp position_total exact_positions (place_goes w) (place_goes (back w)) (goes_inverse w is) (λ p q x. cell_carried (at w p q) x) sheet.cells q) ∙ h)

  came_cell : (q : Position) (cell : Cell) → get after.cells q ≡ Some cell → Came (place_goes w) came sheet after q cell
  came_cell q cell h =
      let c = went q cell h in
      record { place = c.place; before = c.before; there = c.there; held = c.held; empty = ap (λ x. is_empty x.content) (sym c.value) ∙ empty_changed (tree_carried (at w c.place q)) c.before.content }

  -- where the arrays of the sheet follow, so do those that cells show
  module _ (fits : (p q : Position) (r : MergedCell) → array_in sheet p ≡ Some r → place_goes w p ≡ Some q → Follows (place_goes w) came r (placed_at q r)) where
    -- the array that stood where a cell came from
    record Stood (q : Position) (s : MergedCell) : Type 0 where
      place : Position
      before : MergedCell
      there : place_goes w place ≡ Some q
      held : array_in sheet place ≡ Some before
      value : placed_at q before ≡ s

    stood_at : (q : Position) (cell : Cell) (s : MergedCell) → Went q cell → array_at q cell.content ≡ Some s → Stood q s
    stood_at q cell s c h = at_array (array_at c.place c.before.content) refl (sym (array_carried (at w c.place q) c.place q c.before.content) ∙ ap (λ x. array_at q x.content) c.value ∙ h)
      where
        at_array : (o : Option MergedCell) → array_at c.place c.before.content ≡ o → option_map (placed_at q) o ≡ Some s → Stood q s
        at_array None shows g = absurd (let never : ◌≡◌ {A = Option MergedCell} None (Some s) = g in cc)
        at_array (Some r) shows g = record {
          place = c.place;
          before = r;
          there = c.there;
          held = ap (option_and_then (λ x. array_at c.place x.content)) c.held ∙ shows;
          value = cc;
        }

    stood : (q : Position) (s : MergedCell) (o : Option Cell) → get after.cells q ≡ o → option_and_then (λ x. array_at q x.content) o ≡ Some s → Stood q s
    stood q s None held h = absurd (let never : ◌≡◌ {A = Option MergedCell} None (Some s) = h in cc)
    stood q s (Some cell) held h = stood_at q cell s (went q cell held) h

    abbrev array_shape : Position → Cell → Option MergedCell
    array_shape place cell = array_at place cell.content

    abbrev large_shape : Position → Cell → Option MergedCell
    large_shape place cell = large_array_at place cell.content

    follows_stood : (q : Position) (s : MergedCell) (x : Stood q s) → Follows (place_goes w) came x.before s
    follows_stood q s x = subst (Follows (place_goes w) came x.before) x.value (fits x.place q x.before x.held x.there)

    shown_array : (q : Position) (s : MergedCell) → option_and_then (array_shape q) (get after.cells q) ≡ Some s → Shown (place_goes w) came sheet after array_shape q s
    shown_array q s h =
        let x = stood q s (get after.cells q) refl h in
        record { place = x.place; before = x.before; there = x.there; held = x.held; follows = follows_stood q s x }

    array_of_large : (q : Position) (s : MergedCell) (o : Option Cell) → option_and_then (large_shape q) o ≡ Some s → (option_and_then (array_shape q) o ≡ Some s) × (has_many s ≡ true)
    array_of_large q s None h = absurd (let never : ◌≡◌ {A = Option MergedCell} None (Some s) = h in cc)
    array_of_large q s (Some cell) h = large_is_array (array_at q cell.content) s h

    large_before : (p : Position) (r : MergedCell) (o : Option Cell) → option_and_then (array_shape p) o ≡ Some r → has_many r ≡ true → option_and_then (large_shape p) o ≡ Some r
    large_before p r None h many = absurd (let never : ◌≡◌ {A = Option MergedCell} None (Some r) = h in cc)
    large_before p r (Some cell) h many = ap where_large h ∙ large_of_array r many

    shown_large : (q : Position) (s : MergedCell) → option_and_then (large_shape q) (get after.cells q) ≡ Some s → Shown (place_goes w) came sheet after large_shape q s
    shown_large q s h =
        let found = array_of_large q s (get after.cells q) h in
        let x = stood q s (get after.cells q) refl found.0 in
        record {
          place = x.place;
          before = x.before;
          there = x.there;
          held = large_before x.place x.before (get sheet.cells x.place) x.held (sym (same_size q x.before) ∙ ap has_many x.value ∙ found.1);
          follows = follows_stood q s x;
        }

    -- the whole sheet, where its merges follow too
    pub has_followed : (good : MergedCell → Bool) (g : MergedCell → Option MergedCell) → list_all good sheet.merges ≡ true → after.merges ≡ filter_map g sheet.merges →
        ((r s : MergedCell) → good r ≡ true → g r ≡ Some s → Follows (place_goes w) came r s) → ((r s : MergedCell) → good r ≡ true → g r ≡ Some s → is_merge s ≡ true) →
        HasFollowed (place_goes w) came sheet after good g
    has_followed good g all listed merges many = record {
      cells = came_cell;
      arrays = shown_array;
      large = shown_large;
      all_good = all;
      listed = listed;
      merges = merges;
      many = many;
    }

-- ---- the sheet that is not edited, and the one that is

left_out : (a b : Bool) → a ≡ true → a && b ≡ false → b ≡ false
left_out true b h k = k
left_out false b h k = absurd (let never : false ≡ true = h in cc)

all_fine : {X : Type 0} (P Q : X → Bool) (xs : List X) → list_all P xs ≡ true → list_any Q xs ≡ false → list_all (λ x. P x && not (Q x)) xs ≡ true
all_fine P Q [] all none = refl
all_fine P Q (x ∷ xs) all none =
    let p = both (P x) (list_all P xs) all in
    let q = neither (Q x) (list_any Q xs) none in
    λ i. p.0 i && not (q.0 i) && all_fine P Q xs p.1 q.1 i

all_kept : {X : Type 0} (xs : List X) → xs ≡ filter_map Some xs
all_kept [] = refl
all_kept (x ∷ xs) = ap (λ ys. x ∷ ys) (all_kept xs)

-- the rules of arrays, merges and what these cover
pub record KeepsRectangles (sheet : Sheet) : Type 0 where
  pub arrays : have_arrays sheet ≡ true
  pub merges : have_merges sheet ≡ true
  pub hidden : are_hidden_blank sheet ≡ true

module _ (a : Along) (is : IsAxis a) (kind : EditKind) (valid : IsValid a.last kind) (id : ℕ) (edited : List ℕ) (sheet : Sheet) (rules : KeepsRectangles sheet) where
  abbrev w : RouteModel
  w = route_of a (edit_moves a.last kind) id edited sheet

  is_route : IsRoute w
  is_route = record { axis = is; one_to_one = edit_one_to_one a.last kind valid }

  abbrev there : Sheet
  there = sheet_followed w sheet

  arrays : KeepsArrays sheet
  arrays = keeps_arrays sheet rules.arrays

  merges : KeepsMerges sheet
  merges = keeps_merges sheet rules.merges

  array_inside : (p : Position) (r : MergedCell) → array_in sheet p ≡ Some r → IsInside r
  array_inside p r at = inside_found r (arrays.inside p r at)

  -- the cell of an array
  record ArrayCell (p : Position) (r : MergedCell) : Type 0 where
    cell : Cell
    held : get sheet.cells p ≡ Some cell
    shows : array_at p cell.content ≡ Some r

  array_cell : (p : Position) (r : MergedCell) → array_in sheet p ≡ Some r → ArrayCell p r
  array_cell p r at = of_entry (get sheet.cells p) refl at
    where
      of_entry : (o : Option Cell) → get sheet.cells p ≡ o → option_and_then (λ x. array_at p x.content) o ≡ Some r → ArrayCell p r
      of_entry None held h = absurd (let never : ◌≡◌ {A = Option MergedCell} None (Some r) = h in cc)
      of_entry (Some cell) held h = record { cell = cell; held = held; shows = h }

  begins : (p : Position) (r : MergedCell) → array_in sheet p ≡ Some r → anchor_place r ≡ p
  begins p r at = let x = array_cell p r at in array_begins p x.cell.content r x.shows

  -- what follows keeps the rules
  keeps : (came : Position → Position) → ((p q : Position) → place_goes w p ≡ Some q → came q ≡ p) → (good : MergedCell → Bool) (g : MergedCell → Option MergedCell) → HasFollowed (place_goes w) came sheet there good g → KeepsRectangles there
  keeps came comes good g f = record {
    arrays = have_arrays_from there (arrays_follow (place_goes w) came comes sheet there good g f arrays);
    merges = have_merges_from there (merges_follow (place_goes w) came comes sheet there good g f merges);
    hidden = are_hidden_blank_from there (hidden_follow (place_goes w) came comes sheet there good g f (keeps_hidden sheet rules.hidden));
  }

  -- on another sheet all stays
  module _ (off : (sheet.id == id) ≡ false) where
    stays : (p : Position) → place_goes w p ≡ Some p
    unfolding place_goes
    stays p = ap (λ b. if b then place_image a (image_at a.last kind) p else Some p) off

    same_place : (p q : Position) → place_goes w p ≡ Some q → q ≡ p
    same_place p q h = some_is q p (sym h ∙ stays p)

    itself : (r : MergedCell) → IsInside r → Follows (place_goes w) (λ p. p) r r
    itself r inside = record { inside = inside; from = λ place h. h; anchor = λ q h. same_place (anchor_place r) q h }

    array_stays : (p q : Position) (r : MergedCell) → array_in sheet p ≡ Some r → place_goes w p ≡ Some q → Follows (place_goes w) (λ p. p) r (placed_at q r)
    array_stays p q r at goes =
        let here : ◌≡◌ {A = MergedCell} r (placed_at q r) = ap (λ x. placed_at x r) (begins p r at ∙ sym (same_place p q goes)) in
        subst (Follows (place_goes w) (λ p. p) r) here (itself r (array_inside p r at))

    merges_same : there.merges ≡ filter_map Some sheet.merges
    unfolding merges_carried
    merges_same = ap (λ b. if b then filter_map (merge_carried w) sheet.merges else sheet.merges) off ∙ all_kept sheet.merges

    merge_inside : (r : MergedCell) → is_merge r ≡ true → IsInside r
    merge_inside r h = inside_found r (both (has_many r) (is_inside r) h).1

    other_keeps : KeepsRectangles there
    other_keeps =
        keeps (λ p. p) same_place is_merge Some
        (has_followed w is_route (λ p. p) sheet array_stays is_merge Some merges.merges merges_same
        (λ r s good goes. subst (Follows (place_goes w) (λ p. p) r) (some_is r s goes) (itself r (merge_inside r good)))
        (λ r s good goes. ap is_merge (sym (some_is r s goes)) ∙ good))

  -- on the edited one arrays and merges go along
  module _ (on : (sheet.id == id) ≡ true) (whole : LeavesWhole a kind sheet) where
    goes_on : (p : Position) → place_goes w p ≡ place_image a (image_at a.last kind) p
    unfolding place_goes
    goes_on p = ap (λ b. if b then place_image a (image_at a.last kind) p else Some p) on

    comes : (p q : Position) → place_goes w p ≡ Some q → source_place a kind q ≡ p
    comes p q h = source_of_place a is kind valid p q (sym (goes_on p) ∙ h)

    along_way : (r s : MergedCell) → Follows (place_image a (image_at a.last kind)) (source_place a kind) r s → Follows (place_goes w) (source_place a kind) r s
    along_way r s f = record { inside = f.inside; from = f.from; anchor = λ q h. f.anchor q (sym (goes_on (anchor_place r)) ∙ h) }

    unsplit : (r : MergedCell) → IsInside r → splits_rectangle a kind r ≡ false → splits kind (first_line a r) (last_line a r) ≡ false
    unsplit r inside h = left_out (is_inside r) (splits kind (first_line a r) (last_line a r)) (inside_passes r inside) h

    -- an array has room for the lines that come
    room_for : (k : EditKind) → has_no_room a k sheet ≡ false → (end : ℤ) → end ≤ℤ greatest_line a sheet → end ≤ℤ a.last → (end +ℤ brings k) ≤ℤ a.last
    room_for (Insert c n) h end most inside = grind (arith, ints)
    room_for (Delete c n) h end most inside = omega (arith, ints)
    room_for (Move c n d) h end most inside = omega (arith, ints)

    array_goes : (p q : Position) (r : MergedCell) → array_in sheet p ≡ Some r → place_goes w p ≡ Some q → Follows (place_goes w) (source_place a kind) r (placed_at q r)
    array_goes p q r at goes =
        let inside = array_inside p r at in
        let x = array_cell p r at in
        let here = begins p r at in
        let found = line_of_place a is kind valid (anchor_place r) q (ap (place_image a (image_at a.last kind)) here ∙ sym (goes_on p) ∙ goes) in
        let whole_array : Whole a.last kind (first_line a r) (last_line a r) found.0 = record {
          first_inside = first_inside a is r inside;
          some = lines_in_order a is r inside;
          room = room_for kind whole.room (last_line a r) (array_ends a is sheet p x.cell r x.held x.shows (sym here) inside) (last_inside a is r inside).1;
          unsplit = unsplit r inside (none_in position_cmp position_total exact_positions (λ place cell. array_at place cell.content) (splits_rectangle a kind) sheet.cells whole.arrays p r at);
          goes = found.1;
        } in
        let f = whole_follows a is kind valid r found.0 inside whole_array in
        let same : with_lines a r found.0 (found.0 +ℤ (last_line a r -ℤ first_line a r)) ≡ placed_at q r = sym (put_lines a is kind valid r found.0) ∙ ap (λ x. placed_at x r) found.2 in
        along_way r (placed_at q r) (subst (Follows (place_image a (image_at a.last kind)) (source_place a kind) r) same f)

    -- a merge that a move splits
    abbrev moves_some : EditKind → MergedCell → Bool
    moves_some (Insert c n) r = false
    moves_some (Delete c n) r = false
    moves_some (Move c n d) r = splits_rectangle a (Move c n d) r

    none_of_all : (rs : List MergedCell) → list_any (λ r. false) rs ≡ false
    none_of_all [] = refl
    none_of_all (r ∷ rs) = none_of_all rs

    none_moves : (k : EditKind) → moves_part a k sheet ≡ false → list_any (moves_some k) sheet.merges ≡ false
    none_moves (Insert c n) h = none_of_all sheet.merges
    none_moves (Delete c n) h = none_of_all sheet.merges
    none_moves (Move c n d) h = h

    abbrev good : MergedCell → Bool
    good r = is_merge r && not (moves_some kind r)

    left_whole : (k : EditKind) (r : MergedCell) → IsInside r → moves_some k r ≡ false → is_move k ≡ true → splits k (first_line a r) (last_line a r) ≡ false
    left_whole (Insert c n) r inside h m = absurd (let never : false ≡ true = m in cc)
    left_whole (Delete c n) r inside h m = absurd (let never : false ≡ true = m in cc)
    left_whole (Move c n d) r inside h m = left_out (is_inside r) (splits (Move c n d) (first_line a r) (last_line a r)) (inside_passes r inside) h

    -- what becomes of a merge
    record Becomes (r s : MergedCell) : Type 0 where
      first : ℤ
      last : ℤ
      inside : IsInside r
      carried : Carried a.last kind (first_line a r) (last_line a r) (across a r) first last
      value : with_lines a r first last ≡ s

    becomes : (r s : MergedCell) → good r ≡ true → merge_carried w r ≡ Some s → Becomes r s
    becomes r s fine h = of_lines (merged_by a.last kind (first_line a r) (last_line a r) (across a r)) refl h
      where
        merge : is_merge r ≡ true
        merge = (both (is_merge r) (not (moves_some kind r)) fine).0

        inside : IsInside r
        inside = inside_found r (both (has_many r) (is_inside r) merge).1

        of_lines : (o : Option (ℤ × ℤ)) → merged_by a.last kind (first_line a r) (last_line a r) (across a r) ≡ o → if_there o (λ lines. Some (with_lines a r lines.0 lines.1)) ≡ Some s → Becomes r s
        of_lines None is_none g = absurd (let never : ◌≡◌ {A = Option MergedCell} None (Some s) = g in cc)
        of_lines (Some lines) is_some g = record {
          first = lines.0;
          last = lines.1;
          inside = inside;
          carried = record {
            first_inside = first_inside a is r inside;
            some = lines_in_order a is r inside;
            end_inside = (last_inside a is r inside).1;
            wide = across_some a is r inside;
            has_many = many_lines (first_line a r) (line_count a r) (across a r) (sym (has_many_along a is r) ∙ (both (has_many r) (is_inside r) merge).0);
            unsplit = left_whole kind r inside (not_true (moves_some kind r) (both (is_merge r) (not (moves_some kind r)) fine).1);
            becomes = is_some;
          };
          value = some_is (with_lines a r lines.0 lines.1) s g;
        }

    count_put : (r : MergedCell) (f l : ℤ) → line_count a (with_lines a r f l) ≡ line_span f l
    count_put r f l = by_axis (λ b. line_count b (with_lines b r f l) ≡ line_span f l) refl refl a is

    many_left : (r : MergedCell) (f l : ℤ) → (int_lt f l || int_lt (pos 1) (across a r)) ≡ true → has_many (with_lines a r f l) ≡ true
    many_left r f l h =
        has_many_along a is (with_lines a r f l)
        ∙ (λ i. int_lt (pos 1) (across_stays a is r f l i) || int_lt (pos 1) (count_put r f l i))
        ∙ many_span f l (across a r) h

    merge_goes : (r s : MergedCell) → good r ≡ true → merge_carried w r ≡ Some s → Follows (place_goes w) (source_place a kind) r s
    merge_goes r s fine h =
        let b = becomes r s fine h in
        along_way r s (subst (Follows (place_image a (image_at a.last kind)) (source_place a kind) r) b.value (merge_follows a is kind valid r b.first b.last b.inside b.carried))

    merge_left : (r s : MergedCell) → good r ≡ true → merge_carried w r ≡ Some s → is_merge s ≡ true
    merge_left r s fine h =
        let b = becomes r s fine h in
        let left = merged_left a.last (first_line a r) (last_line a r) (across a r) b.first b.last kind valid b.carried in
        let f = merge_goes r s fine h in
        let many : has_many s ≡ true = ap has_many (sym b.value) ∙ many_left r b.first b.last left.3 in
        λ i. many i && inside_passes s f.inside i

    merges_go : there.merges ≡ filter_map (merge_carried w) sheet.merges
    unfolding merges_carried
    merges_go = ap (λ b. if b then filter_map (merge_carried w) sheet.merges else sheet.merges) on

    edited_keeps : KeepsRectangles there
    edited_keeps =
        keeps (source_place a kind) comes good (merge_carried w)
        (has_followed w is_route (source_place a kind) sheet array_goes good (merge_carried w)
        (all_fine is_merge (moves_some kind) sheet.merges merges.merges (none_moves kind whole.merges)) merges_go merge_goes merge_left)

  -- a sheet keeps the rules of arrays, merges and what these cover, unless it is edited and not left whole
  pub rectangles_stay : ((sheet.id == id) ≡ true → LeavesWhole a kind sheet) → KeepsRectangles there
  rectangles_stay whole = by_id (sheet.id == id) refl
    where
      by_id : (b : Bool) → (sheet.id == id) ≡ b → KeepsRectangles there
      by_id true on = edited_keeps on (whole on)
      by_id false off = other_keeps off
