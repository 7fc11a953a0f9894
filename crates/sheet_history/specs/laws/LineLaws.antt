-- The conditions of a diff of lines hold of what is kept of a workbook: the edit is made, and taken back.
use Rattle.std.proofs.Common.{◌≡◌, ℕ, ℤ, pos, ◌+ℤ◌, ◌⊎◌, inl, inr, Bool, true, false, cond, List, map, Option, Some, None, Ok, Err, refl, ap, sym, subst, ◌∙◌, arith}
use Rattle.std.specs.Prelude.{IsTrue, IfSome, length, not, ◌&&◌, ◌==◌, is_none, int_le, int_lt, nat_lt, if◌then◌else◌}
use Rattle.std.specs.List.{AllByRecursion, list_all, find}
use Rattle.std.specs.declared.cmp.Ordering.{Ordering}
use Rattle.std.specs.Ordering.{int_cmp, nat_cmp}
use Rattle.std.specs.Cmp.{IsTotalOrder, int_cmp_total, nat_cmp_total}
use Rattle.std.specs.FinMap.{FinMap, entries, get, get-empty}
use Rattle.std.proofs.lemmas.Int.{ints}
use Rattle.std.proofs.lemmas.List.{length-map}
use Rattle.std.proofs.lemmas.Map.Lookups.{CmpEqualImpliesEq, exact_signed, exact_unsigned}
use Rattle.base_values.specs.declared.EditError.TheVariants.{DiffRefused}
use Rattle.base_values.specs.declared.Position.{Position}
use Rattle.base_values.specs.Places.{is_line, position_cmp, is_place, as_line}
use Rattle.base_values.specs.laws.Places.{position_total, exact_positions}
use Rattle.base_axis.specs.declared.MergedCell.{MergedCell}
use Rattle.base_axis.specs.contracts.merge_list.MergeListPartialEq.TheImpl as equality
use Rattle.base_axis.specs.Rectangles.{is_inside}
use Rattle.base_axis.specs.Along.{Along, IsAxis, rows, columns}
use Rattle.base_maps.specs.declared.SheetPlace.{SheetPlace}
use Rattle.base_maps.specs.laws.Found.{found_passes}
use Rattle.formula_tree.specs.declared.Node.{Node}
use Rattle.formula_tree.specs.Depth.{is_within}
use Rattle.cell_content.specs.declared.Content.TheVariants.{Formula}
use Rattle.cell_content.specs.Fitting.{fits_at}
use Rattle.cell_content.specs.laws.FittingLaws.{shallow_where_fits}
use Rattle.format_rules.specs.declared.ConditionalFormatting.{ConditionalFormatting}
use Rattle.format_rules.specs.Fitting.{has_parts}
use Rattle.line_edits.specs.declared.EditKind.{EditKind}
use Rattle.line_edits.specs.declared.EditKind.TheVariants.{Insert, Delete, Move}
use Rattle.line_edits.specs.Edit.{image_at, goes_to, opposite_of, IsValid}
use Rattle.base_maps.specs.Carried.{if_there, lost_map}
use Rattle.line_map.specs.Contents.{cell_carried, cell_part}
use Rattle.line_map.specs.Maps.{places_carried}
use Rattle.line_routes.specs.Merges.{merges_carried, merges_part}
use Rattle.line_routes.specs.Trial.{comes_back, part_by_trial}
use Rattle.line_edits.specs.Moves.{at_line, edit_moves, place_image}
use Rattle.line_routes.specs.RouteModel.{RouteModel, at, back, place_goes}
use Rattle.base_maps.specs.laws.Gathering.{get-lost_map}
use Rattle.base_maps.specs.laws.CarriedLaws.{get-carried_map}
use Rattle.line_routes.specs.laws.RouteLaws.{goes_inverse}
use Rattle.rule_edits.specs.RuleChanges as rule_changes
use Rattle.line_map.specs.Rules.{are_there, formatting_carried, formatting_part, rules_kept}
use Rattle.base_maps.specs.laws.ByIndexLaws.{kept_are, kept_within}
use Rattle.line_map.specs.laws.RuleLaws.{formatting_restores}
use Rattle.sheet_grid.specs.Arrays.{array_at}
use Rattle.sheet_grid.specs.declared.Cell.{Cell}
use Rattle.sheet_grid.specs.declared.LineAttr.{LineAttr}
use Rattle.sheet_grid.specs.declared.Link.{Link}
use Rattle.sheet_grid.specs.Sheet.{Sheet}
use Rattle.sheet_grid.specs.Book.{Book}
use Rattle.sheet_grid.specs.laws.FittingCells.{entry_fits_at, is_shallow_entry, CellsFit}
use Rattle.sheet_grid.specs.laws.FittingLaws.{shallow_entry}
use Rattle.sheet_rules.specs.laws.EntryLaws.{both}
use Rattle.sheet_rules.specs.WellFormed.{has_keys_inside, IsWellFormed}
use Rattle.sheet_rules.specs.laws.WellFormedLaws.{cells_fit_from_trees, distinct_ids_from_well_formed}
use Rattle.sheet_lines.specs.declared.KeptLines.{KeptLines}
use Rattle.sheet_ids.specs.Ids.{sheet_of, name_of}
use Rattle.sheet_lines.specs.Followed.{route_of, book_route, sheet_followed, book_followed}
use Rattle.sheet_lines.specs.Kept.{lines_of, edited_kept, kept_lines}
use Rattle.sheet_lines.specs.Back.{book_back}
use Rattle.sheet_lines.specs.laws.Regained.{book_regained, formulas_at}
use Rattle.sheet_lines.specs.laws.Stays.{way_is}
use Rattle.sheet_history.specs.laws.Depth.{AreShallowLines, is_shallow_rule}
use Rattle.sheet_history.specs.LineDiffs.{is_pushed_past, stays_inside, is_there_inside, is_lost_place, is_lost_line, all_keys, stand_on_lost}
use Rattle.sheet_history.specs.LineDiffs.{merges_inside, parts_inside, are_kept_lines_inside, each_stands, formattings_stand, goes_on}
use Rattle.sheet_history.specs.LineDiffs.{goes_forward, goes_back, lines_forward, lines_back}
use Rattle.book_sheets.specs.SheetDiffs.{is_inside_if_any, cells_fit}
use Rattle.book_names.specs.RenameDiffs.{formulas_stand}
use Rattle.book_names.specs.laws.Entries.{found_same}
use Rattle.book_names.specs.laws.Stands.{IsOfCell, IsSought, cell_tree_fits, trees_on_places, trees_stand}
use Rattle.sheet_history.specs.laws.Entries.{all_entries, entry_holds}
use Rattle.sheet_history.specs.laws.RuleLaws.{KeepsSheetRules, sheet_rules}
use Rattle.sheet_history.specs.laws.SoundEntries.{array_inside, sheet_merges_inside}
use Rattle.sheet_history.specs.laws.StandingRules.{all_shallow, have_parts, passing_rules, sheet_rules_stand}
use Rattle.sheet_history.specs.laws.KeptTrees.{IsTreeThere, tree_there, formula_there}

module _ {K X : Type 0} (R : K → K → Ordering) (total : IsTotalOrder R) (exact : CmpEqualImpliesEq R) (to : K → Option K) (m : FinMap R X) where
  -- a lost entry is one of the map, and its key goes nowhere
  lost_entry : (k : K) (x : X) → get (lost_map to m) k ≡ Some x → (get m k ≡ Some x) × (is_none (to k) ≡ true)
  lost_entry k x found = go (is_none (to k)) refl (sym (get-lost_map R total exact to m k) ∙ found)
    where
      go : (b : Bool) → is_none (to k) ≡ b → cond b (get m k) None ≡ Some x → (get m k ≡ Some x) × (is_none (to k) ≡ true)
      go true is h = (h, is)
      go false is h = absurd (cc)

  -- the keys of lost entries pass what all keys do, and go nowhere
  lost_keys : (test : K → Bool) → list_all (λ (e : K × X). test e.0) (entries m) ≡ true → all_keys (λ k. test k && is_none (to k)) (lost_map to m) ≡ true
  lost_keys test all = all_entries R total exact (λ e. test e.0 && is_none (to e.0)) (lost_map to m) (λ k x found.
      let it = lost_entry k x found in
      λ i. entry_holds R total exact (λ e. test e.0) m all k x it.0 i && it.1 i)

-- whether the array of an entry, if it is one, is inside
abbrev array_is_inside : Position × Cell → Bool
array_is_inside entry = is_inside_if_any (array_at entry.0 entry.1.content)

either_inside : (b : Bool) (merges : List MergedCell) → list_all is_inside merges ≡ true → merges_inside (cond b None (Some merges)) ≡ true
either_inside true merges all = refl
either_inside false merges all = all

-- what is kept of merges that are inside does too
part_inside : (w : RouteModel) (merges : List MergedCell) → list_all is_inside merges ≡ true → merges_inside (merges_part w merges) ≡ true
unfolding part_by_trial
part_inside w merges all = either_inside (comes_back equality.ghosts.eq merges_carried w merges) merges all

-- ---- kept conditional rules

-- what is kept of a rule is the rule
part_known : (P : ConditionalFormatting → Type 0) (w : RouteModel) (formatting : ConditionalFormatting) → P formatting → (o : Option ConditionalFormatting) → formatting_part w formatting ≡ o → IfSome o P
part_known P w formatting h None is = tt
part_known P w formatting h (Some part) is = subst P (sym (formatting_restores w formatting part is)) h

-- so what holds of each rule holds of each that is kept
kept_known : (P : ConditionalFormatting → Type 0) (w : RouteModel) (rules : List ConditionalFormatting) → AllByRecursion P rules → (q : ℕ) → IfSome (get (rules_kept w rules) q) P
kept_known P w rules all q = kept_are (formatting_part w) P P (λ rule h. part_known P w rule h (formatting_part w rule) refl) rules all q

known_at : (P : ConditionalFormatting → Type 0) (o : Option ConditionalFormatting) (formatting : ConditionalFormatting) → o ≡ Some formatting → IfSome o P → P formatting
known_at P None formatting is h = absurd (cc)
known_at P (Some other) formatting is h = let same : other ≡ formatting = cc in subst P same h

module _ (w : RouteModel) (rules : List ConditionalFormatting) where
  -- a test that each rule passes
  kept_pass : (test : ConditionalFormatting → Bool) → list_all test rules ≡ true → list_all (λ (entry : ℕ × ConditionalFormatting). test entry.1) (entries (rules_kept w rules)) ≡ true
  kept_pass test all = all_entries nat_cmp nat_cmp_total exact_unsigned (λ (entry : ℕ × ConditionalFormatting). test entry.1) (rules_kept w rules) (λ q formatting found.
      known_at (λ f. test f ≡ true) (get (rules_kept w rules) q) formatting found (kept_known (λ f. test f ≡ true) w rules (passing_rules test rules all) q))

  -- each that is kept has the place of a rule
  kept_there : (count : ℕ) → length rules ≡ count → are_there (rules_kept w rules) count ≡ true
  unfolding are_there
  kept_there count same = all_entries nat_cmp nat_cmp_total exact_unsigned (λ (entry : ℕ × ConditionalFormatting). nat_lt entry.0 count) (rules_kept w rules) (λ q formatting found.
      ap (nat_lt q) (sym same) ∙ kept_within (formatting_part w) rules q formatting found)

-- what a sheet has is inside it, map by map
record RuleInside (sheet : Sheet) : Type 0 where
  cells : list_all (λ (e : Position × Cell). is_place e.0) (entries sheet.cells) ≡ true
  links : list_all (λ (e : Position × Link). is_place e.0) (entries sheet.links) ≡ true
  rows : list_all (λ (e : ℤ × LineAttr). is_line (pos 1048576) e.0) (entries sheet.rows) ≡ true
  columns : list_all (λ (e : ℤ × LineAttr). is_line (pos 16384) e.0) (entries sheet.columns) ≡ true

inside_parts : (sheet : Sheet) → has_keys_inside sheet ≡ true → RuleInside sheet
unfolding has_keys_inside
inside_parts sheet all =
    let outer = both _ _ all in
    let middle = both _ _ outer.0 in
    let inner = both _ _ middle.0 in
    record { cells = inner.0; links = inner.1; rows = middle.1; columns = outer.1 }

-- the lines of an axis too
lines_inside : (a : Along) → IsAxis a → (sheet : Sheet) → RuleInside sheet → list_all (λ (e : ℤ × LineAttr). is_line a.last e.0) (entries (lines_of a sheet)) ≡ true
lines_inside a l sheet it = go l.one_of
  where
    go : (a ≡ rows) ⊎ (a ≡ columns) → list_all (λ (e : ℤ × LineAttr). is_line a.last e.0) (entries (lines_of a sheet)) ≡ true
    go (inl is) = ap (λ b. list_all (λ (e : ℤ × LineAttr). is_line b.last e.0) (entries (lines_of b sheet))) is ∙ it.rows
    go (inr is) = ap (λ b. list_all (λ (e : ℤ × LineAttr). is_line b.last e.0) (entries (lines_of b sheet))) is ∙ it.columns

-- a line that an insertion takes somewhere is not pushed past the last line
not_pushed : (last first count n m : ℤ) → image_at last (Insert first count) n ≡ Some m → not (int_le first n && int_lt last (n +ℤ count)) ≡ true
unfolding image_at goes_to as_line
not_pushed last first count n m h = grind (arith, ints)

-- nor is a place
place_inside : (a : Along) (first count : ℤ) (q p : Position) → place_image a (image_at a.last (Insert first count)) q ≡ Some p → not (is_pushed_past a first count q) ≡ true
unfolding place_image
place_inside a first count q p h = go (image_at a.last (Insert first count) (a.line q)) refl h
  where
    go : (o : Option ℤ) → image_at a.last (Insert first count) (a.line q) ≡ o → at_line a q o ≡ Some p → not (is_pushed_past a first count q) ≡ true
    go None is h = absurd (cc)
    go (Some m) is h = not_pushed a.last first count (a.line q) m is

module _ (a : Along) (l : IsAxis a) (e : EditKind) (valid : IsValid a.last e) (id : ℕ) where
  -- how the edit meets a sheet
  abbrev route_on : List ℕ → Sheet → RouteModel
  route_on edited sheet = route_of a (edit_moves a.last e) id edited sheet

  -- no cell of the later sheet is pushed past the end when the lines come back
  back_inside : (edited : List ℕ) (sheet : Sheet) → (sheet.id == id) ≡ true → (kind : EditKind) → e ≡ kind → stays_inside a (opposite_of kind) (sheet_followed (route_on edited sheet) sheet) ≡ true
  unfolding stays_inside opposite_of place_goes
  back_inside edited sheet it (Insert first count) is = refl
  back_inside edited sheet it (Move first count delta) is = refl
  back_inside edited sheet it (Delete first count) is =
      let w : RouteModel = route_on edited sheet in
      let came : Position → Option Position = place_image a (image_at a.last (opposite_of e)) in
      all_entries position_cmp position_total exact_positions (λ (entry : Position × Cell). not (is_pushed_past a first count entry.0)) (places_carried cell_carried w sheet.cells) (λ q cell found.
      let from = comes_from q cell sheet.cells (place_goes (back w) q)
      (sym (get-carried_map position_cmp position_total exact_positions (place_goes w) (place_goes (back w)) (goes_inverse w (way_is a l e valid id edited sheet)) (λ p q x. cell_carried (at w p q) x) sheet.cells q) ∙ found) in
      let there : came q ≡ Some from.0 = sym (ap (λ b. if b then came q else Some q) it) ∙ from.1 in
      place_inside a first count q from.0 (sym (ap (λ k. place_image a (image_at a.last (opposite_of k)) q) is) ∙ there))
    where
      comes_from : (q : Position) (cell : Cell) (cells : FinMap position_cmp Cell) (o : Option Position) → if_there o (λ p. if_there (get cells p) (λ x. Some (cell_carried (at (route_on edited sheet) p q) x))) ≡ Some cell
          → (p : Position) × (o ≡ Some p)
      comes_from q cell cells None h = absurd (cc)
      comes_from q cell cells (Some p) h = (p, refl)

  -- kept cells were cells of the sheet
  kept_fit : (sheet : Sheet) → CellsFit sheet → cells_fit (lost_map (place_image a (image_at a.last e)) sheet.cells) ≡ true
  unfolding cells_fit
  kept_fit sheet fit =
      let to : Position → Option Position = place_image a (image_at a.last e) in
      all_entries position_cmp position_total exact_positions (λ (entry : Position × Cell). fits_at entry.0 entry.1.content) (lost_map to sheet.cells)
      (λ p cell found. sym (ap (entry_fits_at p) (lost_entry position_cmp position_total exact_positions to sheet.cells p cell found).0) ∙ fit p)

  -- the sheets of the later workbook, found by their ids
  followed_found : (edited : List ℕ) (n : ℕ) (sheets : List Sheet) (sheet : Sheet) → find (λ s. s.id == n) sheets ≡ Some sheet
      → find (λ s. s.id == n) (map (λ s. sheet_followed (route_on edited s) s) sheets) ≡ Some (sheet_followed (route_on edited sheet) sheet)
  followed_found edited n sheets sheet = found_same (λ (s : Sheet). sheet_followed (route_on edited s) s) (λ (s : Sheet). s.id == n) (λ (s : Sheet). s.id == n) (λ s. refl) sheets sheet

  module _ (book : Book) (rules : IsWellFormed book) where
    abbrev kept : KeptLines
    kept = kept_lines a e id book

    abbrev later : Book
    later = book_followed a e id book

    abbrev route_in : Sheet → RouteModel
    route_in sheet = route_on (name_of (sheet_of book id)) sheet

    sheet_fits : (n : ℕ) (s : Sheet) → sheet_of book n ≡ Some s → CellsFit s
    sheet_fits n s h = cells_fit_from_trees s (sheet_rules book rules n s h).trees

    sheet_inside : (n : ℕ) (s : Sheet) → sheet_of book n ≡ Some s → RuleInside s
    sheet_inside n s h = inside_parts s (sheet_rules book rules n s h).inside

    -- a kept tree is one of a cell of a sheet
    record IsOfSheet (key : SheetPlace) (tree : Node) : Type 0 where
      sheet : Sheet
      found : sheet_of book key.sheet ≡ Some sheet
      it : IsTreeThere (route_in sheet) sheet.cells key.place tree

    of_sheet_at : (key : SheetPlace) (tree : Node) (o : Option Sheet) → sheet_of book key.sheet ≡ o →
        if_there o (λ s. if_there (get s.cells key.place) (λ cell. if_there (place_goes (route_in s) key.place) (λ q. cell_part (at (route_in s) key.place q) cell))) ≡ Some tree → IsOfSheet key tree
    of_sheet_at key tree None none h = absurd (cc)
    of_sheet_at key tree (Some s) there h = record { sheet = s; found = there; it = tree_there (route_in s) s.cells key.place tree (get s.cells key.place) (place_goes (route_in s) key.place) refl refl h }

    kept_tree : (key : SheetPlace) (tree : Node) → get kept.formulas key ≡ Some tree → IsOfSheet key tree
    kept_tree key tree h = of_sheet_at key tree (sheet_of book key.sheet) refl
        (sym (formulas_at (book_route a e id book) book (distinct_ids_from_well_formed book rules) key.sheet key.place) ∙ h)

    of_cell : (key : SheetPlace) (tree : Node) → get kept.formulas key ≡ Some tree → IsOfCell book key tree
    of_cell key tree h =
        let of = kept_tree key tree h in
        record { of = of.sheet; cell = of.it.cell; found = of.found; stands = of.it.stands; is_it = of.it.is_it }

    later_found : (n : ℕ) (s : Sheet) → sheet_of book n ≡ Some s → sheet_of later n ≡ Some (sheet_followed (route_in s) s)
    later_found n s h = followed_found (name_of (sheet_of book id)) n book.worksheets s h

    tree_goes : (key : SheetPlace) (tree : Node) → IsOfSheet key tree → IsSought (goes_on a e id) later key
    unfolding goes_on place_goes
    tree_goes key tree of = record {
      sheet = sheet_followed (route_in of.sheet) of.sheet;
      there = later_found key.sheet of.sheet of.found;
      formula = formula_there (route_in of.sheet) of.sheet.cells key.place tree (way_is a l e valid id (name_of (sheet_of book id)) of.sheet) of.it;
    }

    -- each kept formula stands in the later workbook
    kept_formulas_stand : formulas_stand (goes_on a e id) kept.formulas later ≡ true
    kept_formulas_stand = trees_stand book rules kept.formulas of_cell (goes_on a e id) later (λ key tree h. tree_goes key tree (kept_tree key tree h))

    -- what is kept of a well-formed workbook is at most 64 deep
    pub kept_shallow : AreShallowLines kept
    kept_shallow = record {
      cells = λ p. cell_shallow p (sheet_of book id) refl;
      formulas = λ key. tree_shallow key (get kept.formulas key) refl;
      formattings = λ index. rule_shallow index (sheet_of book id) refl;
    }
      where
        entry_shallow : (s : Sheet) → CellsFit s → (p : Position) (o : Option Cell) → get (lost_map (place_image a (image_at a.last e)) s.cells) p ≡ o → IsTrue (is_shallow_entry o)
        entry_shallow s fit p None is = refl
        entry_shallow s fit p (Some cell) is =
            let own = (lost_entry position_cmp position_total exact_positions (place_image a (image_at a.last e)) s.cells p cell is).0 in
            shallow_entry p (Some cell) (sym (ap (entry_fits_at p) own) ∙ fit p)

        cell_shallow : (p : Position) (o : Option Sheet) → sheet_of book id ≡ o → IsTrue (is_shallow_entry (get (edited_kept (book_route a e id book) o).cells p))
        cell_shallow p None none = ap is_shallow_entry (get-empty position_cmp p)
        cell_shallow p (Some s) there = entry_shallow s (sheet_fits id s there) p _ refl

        tree_shallow : (key : SheetPlace) (o : Option Node) → get kept.formulas key ≡ o → IfSome o (λ tree. IsTrue (is_within 64 tree))
        tree_shallow key None is = tt
        tree_shallow key (Some tree) is = shallow_where_fits key.place (Formula tree) (cell_tree_fits book rules key tree (of_cell key tree is))

        rule_shallow : (index : ℕ) (o : Option Sheet) → sheet_of book id ≡ o →
            IfSome (get (edited_kept (book_route a e id book) o).formattings index) (λ formatting. IsTrue (is_shallow_rule formatting))
        rule_shallow index None none = subst (λ o. IfSome o (λ formatting. IsTrue (is_shallow_rule formatting))) (sym (get-empty nat_cmp index)) tt
        rule_shallow index (Some s) there =
            kept_known (λ formatting. IsTrue (is_shallow_rule formatting)) (route_in s) s.formattings (passing_rules is_shallow_rule s.formattings (all_shallow s.formattings (sheet_rules_stand book rules id s there))) index

    module _ (sheet : Sheet) (found : sheet_of book id ≡ Some sheet) where
      -- what is kept of a workbook stands on lost lines
      kept_on_lost : stand_on_lost a e kept ≡ true
      unfolding stand_on_lost
      kept_on_lost =
          let to : Position → Option Position = place_image a (image_at a.last e) in
          let inside : RuleInside sheet = sheet_inside id sheet found in
          λ i. ((ap (λ o. all_keys (is_lost_place a e) (edited_kept (book_route a e id book) o).cells) found ∙ lost_keys position_cmp position_total exact_positions to sheet.cells is_place inside.cells) i
          && (ap (λ o. all_keys (is_lost_place a e) (edited_kept (book_route a e id book) o).links) found ∙ lost_keys position_cmp position_total exact_positions to sheet.links is_place inside.links) i)
          && ((ap (λ o. all_keys (is_lost_line a e) (edited_kept (book_route a e id book) o).lines) found
          ∙ lost_keys int_cmp int_cmp_total exact_signed (image_at a.last e) (lines_of a sheet) (is_line a.last) (lines_inside a l sheet inside)) i
          && trees_on_places book rules kept.formulas of_cell i)

      -- kept arrays and merges are inside
      kept_inside : are_kept_lines_inside kept ≡ true
      unfolding are_kept_lines_inside
      kept_inside = λ i. arrays i && merges i && parts i
        where
          keeps : KeepsSheetRules sheet
          keeps = sheet_rules book rules id sheet found

          arrays : list_all array_is_inside (entries kept.cells) ≡ true
          arrays =
              ap (λ o. list_all array_is_inside (entries (edited_kept (book_route a e id book) o).cells)) found
              ∙ all_entries position_cmp position_total exact_positions array_is_inside (lost_map (place_image a (image_at a.last e)) sheet.cells)
              (λ p cell there. array_inside sheet keeps.arrays p cell (lost_entry position_cmp position_total exact_positions (place_image a (image_at a.last e)) sheet.cells p cell there).0)

          parts : parts_inside kept.formattings ≡ true
          parts =
              ap (λ o. parts_inside (edited_kept (book_route a e id book) o).formattings) found
              ∙ kept_pass (route_in sheet) sheet.formattings has_parts (have_parts sheet.formattings (sheet_rules_stand book rules id sheet found))

          merges : merges_inside kept.merges ≡ true
          merges = ap (λ o. merges_inside (edited_kept (book_route a e id book) o).merges) found ∙ part_inside (route_in sheet) sheet.merges (sheet_merges_inside sheet keeps.merges)

      -- each kept conditional rule stands in the later workbook
      kept_rules_stand : formattings_stand kept.formattings (sheet_of later id) ≡ true
      unfolding formattings_stand
      kept_rules_stand =
          let w : RouteModel = route_in sheet in
          let stand = sheet_rules_stand book rules id sheet found in
          ap (formattings_stand kept.formattings) (later_found id sheet found)
          ∙ ap (λ o. are_there (edited_kept (book_route a e id book) o).formattings (length (sheet_followed w sheet).formattings)
          && each_stands (edited_kept (book_route a e id book) o).formattings) found
          ∙ (λ i. kept_there w sheet.formattings (length (sheet_followed w sheet).formattings) (sym (length-map sheet.formattings (formatting_carried w))) i
          && kept_pass w sheet.formattings rule_changes.may_stand stand i)

      -- the edit is made
      pub lines_made : (at : ℕ) → is_there_inside a e (sheet_of book id) ≡ true → lines_forward at a id e kept book ≡ Ok later
      unfolding lines_forward
      lines_made at there =
          let goes : goes_forward a id e kept book ≡ true = λ i. valid i && there i && (kept_on_lost i && kept_inside i) in
          ap (λ b. if b then Ok later else Err (DiffRefused 0 at)) goes

      -- the edit is taken back
      pub lines_taken_back : (at : ℕ) → lines_back at a id e kept later ≡ Ok book
      unfolding lines_back
      lines_taken_back at =
          let it : (sheet.id == id) ≡ true = found_passes (λ s. s.id == id) book.worksheets sheet found in
          let inside : is_there_inside a (opposite_of e) (sheet_of later id) ≡ true =
          ap (is_there_inside a (opposite_of e)) (later_found id sheet found) ∙ back_inside (name_of (sheet_of book id)) sheet it e refl in
          let fit : cells_fit kept.cells ≡ true =
          ap (λ o. cells_fit (edited_kept (book_route a e id book) o).cells) found ∙ kept_fit sheet (sheet_fits id sheet found) in
          let goes : goes_back a id e kept later ≡ true = λ i. valid i && inside i && (kept_on_lost i && kept_inside i) && (fit i && kept_formulas_stand i && kept_rules_stand i) in
          ap (λ b. if b then Ok (book_back a e id kept later) else Err (DiffRefused 0 at)) goes ∙ ap Ok (book_regained a l e valid id book (distinct_ids_from_well_formed book rules))
