-- A workbook that follows a line edit stays well-formed.
use Rattle.std.proofs.Common.{◌≡◌, ℕ, true, suc, List, [], ◌∷◌, length, map, refl, ap, ◌∙◌}
use Rattle.std.specs.Prelude.{◌&&◌, ◌==◌, nat_lt}
use Rattle.std.specs.List.{list_all, AllByRecursion}
use Rattle.base_axis.specs.Along.{Along, IsAxis}
use Rattle.base_tables.specs.Folding.{same_folded}
use Rattle.sheet_grid.specs.Sheet.{Sheet}
use Rattle.sheet_grid.specs.Book.{Book}
use Rattle.line_edits.specs.declared.EditKind.{EditKind}
use Rattle.line_edits.specs.Edit.{IsValid}
use Rattle.line_edits.specs.Moves.{LineMoves, edit_moves}
use Rattle.line_routes.specs.RouteModel.{IsRoute}
use Rattle.line_edits.specs.laws.OneToOne.{edit_one_to_one}
use Rattle.sheet_rules.specs.Names.{are_names}
use Rattle.sheet_rules.specs.SheetNames.{is_sheet_name}
use Rattle.sheet_rules.specs.laws.EntryLaws.{both}
use Rattle.sheet_rules.specs.WellFormed.{are_distinct, ids_of, names_of, are_sheets, has_keys_inside, have_trees, have_rule_trees, have_attributes, are_frozen, have_rule_parts, IsWellFormed}
use Rattle.sheet_rules.specs.laws.WellFormedLaws.{well_formed_parts, well_formed_from_parts, distinct_ids_from_well_formed}
use Rattle.sheet_rules.specs.Occupied.{have_arrays, have_merges, are_hidden_blank}
use Rattle.sheet_lines.specs.Followed.{edited_route, route_of, sheet_followed, sheets_followed, book_followed}
use Rattle.sheet_ids.specs.Ids.{sheet_of, name_of}
use Rattle.sheet_actions.specs.Whole.{LeavesWhole, IsAllowed}
use Rattle.sheet_actions.specs.laws.FollowedShapes.{KeepsRectangles, rectangles_stay}
use Rattle.sheet_actions.specs.laws.OwnSheets.{each_of_id}
use Rattle.sheet_actions.specs.laws.FollowedRules.{all_follow, rule_trees_stay, rule_parts_stay}
use Rattle.sheet_actions.specs.laws.FollowedSheets.{pass, inside_stay, trees_stay, attributes_stay}

-- the rules of arrays, merges and what these cover, sheet by sheet
each_keeps : (sheets : List Sheet) → list_all have_arrays sheets ≡ true → list_all have_merges sheets ≡ true → list_all are_hidden_blank sheets ≡ true → AllByRecursion KeepsRectangles sheets
each_keeps [] arrays merges hidden = tt
each_keeps (sheet ∷ sheets) arrays merges hidden =
    let x = both _ _ arrays in
    let y = both _ _ merges in
    let z = both _ _ hidden in
    (record { arrays = x.0; merges = y.0; hidden = z.0 }, each_keeps sheets x.1 y.1 z.1)

-- those rules of all sheets
record AllKeep (sheets : List Sheet) : Type 0 where
  arrays : list_all have_arrays sheets ≡ true
  merges : list_all have_merges sheets ≡ true
  hidden : list_all are_hidden_blank sheets ≡ true

all_keep : (f : Sheet → Sheet) (Q : Sheet → Type 0) → ((sheet : Sheet) → Q sheet → KeepsRectangles sheet → KeepsRectangles (f sheet)) → (sheets : List Sheet) → AllByRecursion Q sheets → AllByRecursion KeepsRectangles sheets → AllKeep (map f sheets)
all_keep f Q h [] asked kept = record { arrays = refl; merges = refl; hidden = refl }
all_keep f Q h (sheet ∷ sheets) asked kept =
    let first = h sheet asked.0 kept.0 in
    let rest = all_keep f Q h sheets asked.1 kept.1 in
    record { arrays = pass _ _ first.arrays rest.arrays; merges = pass _ _ first.merges rest.merges; hidden = pass _ _ first.hidden rest.hidden }

module _ (a : Along) (m : LineMoves) (id : ℕ) (edited : List ℕ) where
  same_count : (sheets : List Sheet) → length (sheets_followed (edited_route a m id edited) sheets) ≡ length sheets
  same_count [] = refl
  same_count (sheet ∷ sheets) = ap suc (same_count sheets)

  same_ids : (sheets : List Sheet) → ids_of (sheets_followed (edited_route a m id edited) sheets) ≡ ids_of sheets
  same_ids [] = refl
  same_ids (sheet ∷ sheets) = λ i. sheet.id ∷ same_ids sheets i

  same_names : (sheets : List Sheet) → names_of (sheets_followed (edited_route a m id edited) sheets) ≡ names_of sheets
  same_names [] = refl
  same_names (sheet ∷ sheets) = λ i. sheet.name ∷ same_names sheets i

  sheets_stay : (sheets : List Sheet) → are_sheets (sheets_followed (edited_route a m id edited) sheets) ≡ are_sheets sheets
  unfolding are_sheets
  sheets_stay sheets = λ i.
      nat_lt 0 (same_count sheets i) && are_distinct (λ m n. m == n) (same_ids sheets i) && list_all is_sheet_name (same_names sheets i) && are_distinct same_folded (same_names sheets i)

-- whatever its sheets are, and whichever of them the edit is of, where that leaves its arrays and merges whole
pub followed_well_formed : (a : Along) → IsAxis a → (e : EditKind) → IsValid a.last e → (id : ℕ) (book : Book) → IsWellFormed book → IsAllowed a e id book → IsWellFormed (book_followed a e id book)
followed_well_formed a lawful e valid id book h allowed =
    let m : LineMoves = edit_moves a.last e in
    let edited : List ℕ = name_of (sheet_of book id) in
    let f : Sheet → Sheet = λ sheet. sheet_followed (route_of a m id edited sheet) sheet in
    let is : (sheet : Sheet) → IsRoute (route_of a m id edited sheet) = λ sheet. record { axis = lawful; one_to_one = edit_one_to_one a.last e valid } in
    let rules = well_formed_parts book h in
    let kept = all_keep f (λ sheet. (sheet.id == id) ≡ true → LeavesWhole a e sheet) (λ sheet whole keeps. rectangles_stay a lawful e valid id edited sheet keeps whole) book.worksheets
    (each_of_id (LeavesWhole a e) id book.worksheets (distinct_ids_from_well_formed book h) allowed)
    (each_keeps book.worksheets rules.arrays rules.merges rules.hidden) in
    well_formed_from_parts (book_followed a e id book)
    (record {
      sheets = sheets_stay a m id edited book.worksheets ∙ rules.sheets;
      inside = all_follow has_keys_inside f (λ sheet. inside_stay (route_of a m id edited sheet) (is sheet) sheet) book.worksheets rules.inside;
      arrays = kept.arrays;
      merges = kept.merges;
      hidden = kept.hidden;
      trees = all_follow have_trees f (λ sheet. trees_stay (route_of a m id edited sheet) (is sheet) sheet) book.worksheets rules.trees;
      rule_trees = all_follow have_rule_trees f (λ sheet. rule_trees_stay (route_of a m id edited sheet) (is sheet) sheet) book.worksheets rules.rule_trees;
      name_trees = rules.name_trees;
      attributes = all_follow have_attributes f (λ sheet. attributes_stay (route_of a m id edited sheet) (is sheet) sheet) book.worksheets rules.attributes;
      names = ap (λ ids. are_names ids book.names) (same_ids a m id edited book.worksheets) ∙ rules.names;
      frozen = all_follow are_frozen f (λ _ frozen. frozen) book.worksheets rules.frozen;
      rule_parts = all_follow have_rule_parts f (λ sheet. rule_parts_stay (route_of a m id edited sheet) (is sheet) sheet) book.worksheets rules.rule_parts;
    })
