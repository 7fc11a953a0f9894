-- The diffs of the list of sheets go both ways.
use Rattle.std.proofs.Common.{◌≡◌, ℕ, zero, suc, ◌+◌, ◌≤◌, ◌<◌, Bool, true, false, cond, ◌&&◌, List, [], ◌∷◌, map, length, Some, None, is_none, Ok, Err, refl, ap, sym, subst, ◌∙◌, arith}
use Rattle.std.specs.Prelude.{◌==◌, slice_get}
use Rattle.std.specs.Cmp.{unsigned_Decides}
use Rattle.std.specs.List.{find, insert, remove, position_from, IsDistinct, AllByRecursion}
use Rattle.std.specs.Option.{option_map_or}
use Rattle.std.proofs.lemmas.Bool.{lt-ltb, le-leb}
use Rattle.std.proofs.lemmas.Iterator.Adapters.{position_from-zero}
use Rattle.std.proofs.lemmas.Option.{same_Some}
use Rattle.base_values.specs.declared.EditError.TheVariants.{DiffRefused}
use Rattle.defined_names.specs.declared.DefinedName.{DefinedName}
use Rattle.sheet_grid.specs.Sheet.{Sheet}
use Rattle.sheet_grid.specs.Book.{Book, index_of, sheets_moved}
use Rattle.sheet_ids.specs.Ids.{HasDistinctIds}
use Rattle.book_sheets.specs.SheetDiffs.{may_come, with_sheet_at, sheet_comes, without_sheet_at, goes_from, sheet_goes, moved_from, sheet_moves}
use Rattle.book_sheets.specs.laws.Turned.{ids_turned}
use Rattle.book_sheets.specs.laws.ListEdits.{remove_inserted, insert_removed, get_inserted, got_within, length_inserted, length_removed, found_inserted}

abbrev pub has_id : ℕ → Sheet → Bool
has_id id sheet = sheet.id == id

-- ---- a sheet that comes, and goes again

module _ (at index : ℕ) (sheet : Sheet) (names : List DefinedName) (w : Book) (free : index_of w sheet.id ≡ None) (within : index ≤ length w.worksheets) where
  abbrev next : Book
  next = with_sheet_at index sheet names w

  -- it may come
  pub comes : sheet_comes at index sheet names w ≡ Ok next
  unfolding may_come
  comes = (λ i. cond (is_none (free i) && le-leb index (length w.worksheets) within i) (Ok next) (Err (DiffRefused 0 at)))

  there : index_of next sheet.id ≡ Some index
  there =
      let own : sheet.id == sheet.id ≡ true = (unsigned_Decides sheet.id sheet.id).1 refl in
      let zero_more : 0 + index ≡ index = omega arith in
      position_from-zero (has_id sheet.id) next.worksheets
      ∙ found_inserted (has_id sheet.id) 0 w.worksheets index sheet within (sym (position_from-zero (has_id sheet.id) w.worksheets) ∙ free) own
      ∙ ap Some zero_more

  -- and goes again, with the names that were there
  pub comes_and_goes : (before : List DefinedName) → before ≡ w.names → sheet_goes at sheet.id before next ≡ Ok w
  comes_and_goes before same =
      ap (λ o. goes_from at o before next) there ∙ (λ i. Ok (record w { names = same i; worksheets = remove_inserted w.worksheets index sheet within i }))

-- ---- a sheet that goes, and comes again

-- an id that differs from all of some sheets is not found among them
pub none_among : (id n : ℕ) (ss : List Sheet) → AllByRecursion (λ other. (id == other) ≡ false) (map (λ (s : Sheet). s.id) ss) → position_from (has_id id) n ss ≡ None
none_among id n [] others = refl
none_among id n (s ∷ ss) others = ap (λ b. cond b (Some n) (position_from (has_id id) (n + 1) ss)) (ids_turned id s.id others.0) ∙ none_among id (n + 1) ss others.1

-- it differs from the id of each of them
differs_from : (id i : ℕ) (ss : List Sheet) (sheet : Sheet) → AllByRecursion (λ other. (id == other) ≡ false) (map (λ (s : Sheet). s.id) ss) → slice_get ss i ≡ Some sheet → (id == sheet.id) ≡ false
differs_from id i [] sheet others found = absurd (cc)
differs_from id zero (s ∷ ss) sheet others found = ap (λ (t : Sheet). id == t.id) (sym (same_Some s sheet found)) ∙ others.0
differs_from id (suc i) (s ∷ ss) sheet others found = differs_from id i ss sheet others.1 found

-- of distinct ids the one of a sheet that is taken out is not found any more
none_left : (n i : ℕ) (ss : List Sheet) (sheet : Sheet) → IsDistinct ◌==◌ (map (λ (s : Sheet). s.id) ss) → slice_get ss i ≡ Some sheet → position_from (has_id sheet.id) n (remove ss i) ≡ None
unfolding IsDistinct
none_left n i [] sheet own found = absurd (cc)
none_left n zero (s ∷ ss) sheet own found =
    let same : s ≡ sheet = same_Some s sheet found in
    subst (λ (t : Sheet). position_from (has_id t.id) n ss ≡ None) same (none_among s.id n ss own.0)
none_left n (suc i) (s ∷ ss) sheet own found =
    ap (λ b. cond b (Some n) (position_from (has_id sheet.id) (n + 1) (remove ss i))) (differs_from s.id i ss sheet own.0 found) ∙ none_left (n + 1) i ss sheet own.1 found

-- of distinct ids the one at an index is the first of its id
pub placed_at : (n i : ℕ) (ss : List Sheet) (sheet : Sheet) → IsDistinct ◌==◌ (map (λ (s : Sheet). s.id) ss) → slice_get ss i ≡ Some sheet → position_from (has_id sheet.id) n ss ≡ Some (n + i)
unfolding IsDistinct
placed_at n i [] sheet own found = absurd (cc)
placed_at n zero (s ∷ ss) sheet own found =
    let same : s ≡ sheet = same_Some s sheet found in
    let itself : has_id sheet.id s ≡ true = (unsigned_Decides s.id sheet.id).1 (ap (λ (t : Sheet). t.id) same) in
    let here : n ≡ n + 0 = omega arith in
    ap (λ b. cond b (Some n) (position_from (has_id sheet.id) (n + 1) ss)) itself ∙ ap Some here
placed_at n (suc i) (s ∷ ss) sheet own found =
    let on : (n + 1) + i ≡ n + suc i = omega arith in
    ap (λ b. cond b (Some n) (position_from (has_id sheet.id) (n + 1) ss)) (differs_from s.id i ss sheet own.0 found) ∙ placed_at (n + 1) i ss sheet own.1 found ∙ ap Some on

-- and found by it
pub found_at : (i : ℕ) (ss : List Sheet) (sheet : Sheet) → IsDistinct ◌==◌ (map (λ (s : Sheet). s.id) ss) → slice_get ss i ≡ Some sheet → find (has_id sheet.id) ss ≡ Some sheet
unfolding IsDistinct
found_at i [] sheet own found = absurd (cc)
found_at zero (s ∷ ss) sheet own found =
    let same : s ≡ sheet = same_Some s sheet found in
    let itself : has_id sheet.id s ≡ true = (unsigned_Decides s.id sheet.id).1 (ap (λ (t : Sheet). t.id) same) in
    ap (λ b. cond b (Some s) (find (has_id sheet.id) ss)) itself ∙ found
found_at (suc i) (s ∷ ss) sheet own found = ap (λ b. cond b (Some s) (find (has_id sheet.id) ss)) (differs_from s.id i ss sheet own.0 found) ∙ found_at i ss sheet own.1 found

module _ (w : Book) (own : HasDistinctIds w) (index : ℕ) (sheet : Sheet) (stands : slice_get w.worksheets index ≡ Some sheet) where
  is : index_of w sheet.id ≡ Some index
  is = position_from-zero (has_id sheet.id) w.worksheets ∙ placed_at 0 index w.worksheets sheet own stands ∙ ap Some zero_more
    where
      zero_more : 0 + index ≡ index
      zero_more = omega arith

  -- it goes
  pub goes : (at : ℕ) (left : List DefinedName) → sheet_goes at sheet.id left w ≡ Ok (without_sheet_at index left w)
  goes at left = ap (λ o. goes_from at o left w) is

  free_again : (left : List DefinedName) → index_of (without_sheet_at index left w) sheet.id ≡ None
  free_again left = position_from-zero (has_id sheet.id) (remove w.worksheets index) ∙ none_left 0 index w.worksheets sheet own stands

  room_again : index ≤ length (remove w.worksheets index)
  room_again =
      let within : index < length w.worksheets = got_within w.worksheets index sheet stands in
      let shorter : suc (length (remove w.worksheets index)) ≡ length w.worksheets = length_removed w.worksheets index sheet stands in
      omega (arith, within, shorter)

  -- and comes again, with the names that were there
  pub goes_and_comes : (at : ℕ) (left all : List DefinedName) → all ≡ w.names → sheet_comes at index sheet all (without_sheet_at index left w) ≡ Ok w
  goes_and_comes at left all same =
      comes at index sheet all (without_sheet_at index left w) (free_again left) room_again
      ∙ (λ i. Ok (record w { names = same i; worksheets = insert_removed w.worksheets index sheet stands i }))

  -- ---- a sheet that moves, and moves back

  module _ (to : ℕ) (within : to < length w.worksheets) where
    abbrev moved : Book
    moved = record w { worksheets = sheets_moved w.worksheets index to }

    moved_is : sheets_moved w.worksheets index to ≡ insert (remove w.worksheets index) to sheet
    moved_is = ap (λ found. option_map_or (λ (s : Sheet). insert (remove w.worksheets index) to s) found w.worksheets) stands

    shorter : suc (length (remove w.worksheets index)) ≡ length w.worksheets
    shorter = length_removed w.worksheets index sheet stands

    inside : to ≤ length (remove w.worksheets index)
    inside = omega (arith, within, shorter)

    from_inside : index < length w.worksheets
    from_inside = got_within w.worksheets index sheet stands

    count : length (sheets_moved w.worksheets index to) ≡ length w.worksheets
    count = ap length moved_is ∙ length_inserted (remove w.worksheets index) to sheet inside ∙ shorter

    -- it is taken there
    pub moves : (at : ℕ) → sheet_moves at sheet.id index to w ≡ Ok moved
    unfolding sheet_moves
    moves at =
        (λ i. cond (lt-ltb index (length w.worksheets) from_inside i && lt-ltb to (length w.worksheets) within i) (moved_from at (index_of w sheet.id) to w) (Err (DiffRefused 0 at)))
        ∙ ap (λ o. moved_from at o to w) is

    stands_there : index_of moved sheet.id ≡ Some to
    stands_there =
        let itself : sheet.id == sheet.id ≡ true = (unsigned_Decides sheet.id sheet.id).1 refl in
        let zero_more : 0 + to ≡ to = omega arith in
        position_from-zero (has_id sheet.id) moved.worksheets
        ∙ ap (position_from (has_id sheet.id) 0) moved_is
        ∙ found_inserted (has_id sheet.id) 0 (remove w.worksheets index) to sheet inside (none_left 0 index w.worksheets sheet own stands) itself
        ∙ ap Some zero_more

    got_there : slice_get (sheets_moved w.worksheets index to) to ≡ Some sheet
    got_there = ap (λ ss. slice_get ss to) moved_is ∙ get_inserted (remove w.worksheets index) to sheet inside

    -- taken back, the sheets stand as they stood
    back_again : sheets_moved (sheets_moved w.worksheets index to) to index ≡ w.worksheets
    back_again =
        ap (λ found. option_map_or (λ (s : Sheet). insert (remove (sheets_moved w.worksheets index to) to) index s) found (sheets_moved w.worksheets index to)) got_there
        ∙ ap (λ ss. insert (remove ss to) index sheet) moved_is
        ∙ ap (λ ss. insert ss index sheet) (remove_inserted (remove w.worksheets index) to sheet inside)
        ∙ insert_removed w.worksheets index sheet stands

    -- and back
    pub moves_back : (at : ℕ) → sheet_moves at sheet.id to index moved ≡ Ok w
    unfolding sheet_moves
    moves_back at =
        let to_there : to < length moved.worksheets = subst (λ n. to < n) (sym count) within in
        let from_there : index < length moved.worksheets = subst (λ n. index < n) (sym count) from_inside in
        (λ i. cond (lt-ltb to (length moved.worksheets) to_there i && lt-ltb index (length moved.worksheets) from_there i) (moved_from at (index_of moved sheet.id) index moved) (Err (DiffRefused 0 at)))
        ∙ ap (λ o. moved_from at o index moved) stands_there
        ∙ (λ i. Ok (record w { worksheets = back_again i }))
