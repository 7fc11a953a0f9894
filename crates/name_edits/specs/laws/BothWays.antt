-- The diff of a changed name leads from a well-formed workbook to the later one, and back with what was kept.
use Rattle.std.proofs.Common.{◌≡◌, ℕ, Bool, true, false, ◌&&◌, ◌||◌, length, Option, Some, None, Ok, Err, refl, ap, sym, ◌∙◌}
use Rattle.std.specs.Prelude.{◌==◌, is_some, if◌then◌else◌, nat_lt}
use Rattle.std.specs.Cmp.{nat_cmp_total}
use Rattle.std.specs.Ordering.{nat_cmp}
use Rattle.std.specs.FinMap.{empty, get, get-empty, len-empty}
use Rattle.std.proofs.lemmas.Map.Lookups.{exact_unsigned}
use Rattle.base_values.specs.declared.EditError.TheVariants.{DiffRefused}
use Rattle.base_maps.specs.SheetPlaces.{sheet_place_cmp}
use Rattle.base_maps.specs.declared.SheetPlace.{SheetPlace}
use Rattle.base_maps.specs.laws.SheetPlaces.{sheet_place_total, exact_sheet_places}
use Rattle.format_rules.specs.declared.ConditionalFormatting.{ConditionalFormatting}
use Rattle.format_rules.specs.Fitting.{has_fitting_trees, has_parts}
use Rattle.formula_tree.specs.declared.Node.{Node}
use Rattle.base_maps.specs.declared.SheetIndex.{SheetIndex}
use Rattle.base_maps.specs.SheetIndexes.{sheet_index_cmp}
use Rattle.base_maps.specs.laws.SheetIndexes.{sheet_index_total, exact_sheet_indexes}
use Rattle.cell_content.specs.Fitting.{tree_fits_at}
use Rattle.defined_names.specs.declared.DefinedName.{DefinedName}
use Rattle.sheet_grid.specs.Book.{Book}
use Rattle.sheet_grid.specs.Sheet.{Sheet}
use Rattle.sheet_rules.specs.Names.{first_place, have_name_trees}
use Rattle.base_values.specs.Places.{is_place}
use Rattle.sheet_rules.specs.WellFormed.{IsWellFormed}
use Rattle.sheet_rules.specs.laws.WellFormedLaws.{well_formed_parts, distinct_ids_from_well_formed}
use Rattle.sheet_ids.specs.Ids.{sheet_of}
use Rattle.book_names.specs.declared.KeptTrees.{KeptTrees}
use Rattle.book_names.specs.RenameDiffs.{stand_on_places, stand_on_parts, are_in_sheets, own_place, tree_stands, formulas_stand}
use Rattle.book_names.specs.RenameDiffs.{names_stand, formatting_stands, formattings_stand, may_stand}
use Rattle.book_names.specs.laws.Entries.{none_fails}
use Rattle.book_names.specs.laws.Stands.{HasLater, kept_on_places, kept_on_parts, kept_stand_later, kept_rules_stand_later, kept_tree_fits, kept_rule_fits}
use Rattle.book_sheets.specs.Ways.{LeadsBothWays}
use Rattle.book_sheets.specs.laws.ListTests.{passes_at}
use Rattle.name_edits.specs.LookUp.{reach_at}
use Rattle.name_edits.specs.NameChanges.{name_made, name_unmade, names_changed, opposite, sheet_updated, trees_lost}
use Rattle.name_edits.specs.NameDiffs.{is_change, comes_fitting, keeps_nothing, goes_forward, goes_back, name_forward, name_back}
use Rattle.name_edits.specs.laws.Lists.{IsAt, change_at, names_regained, place_before, place_later}
use Rattle.name_edits.specs.laws.Replaced.{names_laid, later_found, sheets_regained}

-- ---- nothing that is kept

-- no tree of a cell stands anywhere, nor does one of a name
none_on_places : stand_on_places empty ≡ true
unfolding stand_on_places
none_on_places = none_fails sheet_place_cmp sheet_place_total exact_sheet_places (λ (entry : SheetPlace × Node). is_place entry.0.place)

-- and no conditional rule does
none_on_parts : stand_on_parts empty ≡ true
unfolding stand_on_parts
none_on_parts = none_fails sheet_index_cmp sheet_index_total exact_sheet_indexes (λ (entry : SheetIndex × ConditionalFormatting). has_parts entry.1)

none_stand : (book : Book) → formulas_stand own_place empty book ≡ true
unfolding formulas_stand
none_stand book = none_fails sheet_place_cmp sheet_place_total exact_sheet_places
    (λ (entry : SheetPlace × Node). tree_stands own_place (sheet_of book entry.0.sheet) entry.0.place entry.1)

no_names_stand : (count : ℕ) → names_stand empty count ≡ true
unfolding names_stand
no_names_stand count = none_fails nat_cmp nat_cmp_total exact_unsigned (λ (entry : ℕ × Node). nat_lt entry.0 count && tree_fits_at first_place entry.1)

no_rules_stand : (book : Book) → formattings_stand empty book ≡ true
unfolding formattings_stand
no_rules_stand book = none_fails sheet_index_cmp sheet_index_total exact_sheet_indexes
    (λ (entry : SheetIndex × ConditionalFormatting). formatting_stands (sheet_of book entry.0.sheet) entry.0.index entry.1)

nothing_kept : keeps_nothing (record { formulas = empty; names = empty; formattings = empty }) ≡ true
nothing_kept = λ i. (len-empty sheet_place_cmp Node i == 0) && (len-empty nat_cmp Node i == 0) && (len-empty sheet_index_cmp ConditionalFormatting i == 0)

none_in_sheets : are_in_sheets (record { formulas = empty; names = empty; formattings = empty }) ≡ true
none_in_sheets = λ i. none_on_places i && none_on_parts i

either : (a b : Bool) → b ≡ true → (a || b) ≡ true
either true b h = refl
either false b h = h

nothing_stands : (book : Book) → may_stand (record { formulas = empty; names = empty; formattings = empty }) book ≡ true
nothing_stands book = λ i. none_stand book i && no_names_stand (length book.names) i && no_rules_stand book i

-- ---- the conditions

-- a change may be made where it takes place in the list, where a name goes or comes, and where the tree of the one that comes fits
pub record IsMade (index : ℕ) (old new : Option DefinedName) (book : Book) : Type 0 where
  pub rules : IsWellFormed book
  pub some : is_change (change_at index old new) ≡ true
  pub at : IsAt old index book.names
  pub fits : comes_fitting (change_at index old new) ≡ true

module _ (index : ℕ) (book : Book) where
  -- what is kept is inside its sheets, and is nothing but of a replacement
  inside_now : (old new : Option DefinedName) → IsWellFormed book → are_in_sheets (trees_lost (change_at index old new) book) ≡ true
  inside_now (Some old) (Some new) rules =
      let there = reach_at index old.name book.names in
      let back = reach_at index new.name (names_changed (change_at index (Some old) (Some new)) book.names) in
      λ i. kept_on_places there back old.name new.name book rules i && kept_on_parts there back old.name new.name book rules i
  inside_now (Some old) None rules = none_in_sheets
  inside_now None new rules = none_in_sheets

  kept_of_replacement : (old new : Option DefinedName) → (is_some old && is_some new) || keeps_nothing (trees_lost (change_at index old new) book) ≡ true
  kept_of_replacement (Some old) (Some new) = refl
  kept_of_replacement (Some old) None = nothing_kept
  kept_of_replacement None new = nothing_kept

  -- the old name's tree fits A1
  pub old_fits : (old new : Option DefinedName) → IsWellFormed book → IsAt old index book.names → comes_fitting (opposite (change_at index old new)) ≡ true
  unfolding have_name_trees
  old_fits None new rules at = refl
  old_fits (Some old) new rules at = passes_at (λ (name : DefinedName). tree_fits_at first_place name.formula) book.names index old (well_formed_parts book rules).name_trees at

  -- what is kept may stand in the later workbook
  stands_later : (old new : Option DefinedName) → IsWellFormed book → IsAt old index book.names
      → may_stand (trees_lost (change_at index old new) book) (name_made (change_at index old new) book) ≡ true
  stands_later (Some old) (Some new) rules at =
      let c = change_at index (Some old) (Some new) in
      let there = reach_at index old.name book.names in
      let back = reach_at index new.name (names_changed c book.names) in
      let laters : (n : ℕ) (s : Sheet) → sheet_of book n ≡ Some s → HasLater old.name new.name (name_made c book) n s = λ n s found. record {
        sheet = sheet_updated index old.name new.name book.names s;
        there = later_found index old.name new.name book.names n book.worksheets s found;
        reach = reach_at index old.name book.names s.id;
        cells = refl;
        formattings = refl;
      } in
      λ i.
      kept_stand_later there back old.name new.name book rules (name_made c book) laters i && no_names_stand (length (names_changed c book.names)) i
      && kept_rules_stand_later there back old.name new.name book rules (name_made c book) laters i
  stands_later (Some old) None rules at = nothing_stands (name_made (change_at index (Some old) None) book)
  stands_later None new rules at = nothing_stands (name_made (change_at index None new) book)

  -- the workbook comes back
  pub book_regained : (old new : Option DefinedName) → IsWellFormed book → IsAt old index book.names
      → name_unmade (change_at index old new) (trees_lost (change_at index old new) book) (name_made (change_at index old new) book) ≡ book
  book_regained (Some old) (Some new) rules at = λ i. record book {
    names = (names_laid old.name new.name _ ∙ names_regained index (Some old) (Some new) book.names at) i;
    worksheets = sheets_regained index old new book (distinct_ids_from_well_formed book rules) i;
  }
  book_regained (Some old) None rules at = λ i. record book { names = names_regained index (Some old) None book.names at i }
  book_regained None new rules at = λ i. record book { names = names_regained index None new book.names at i }

  -- a kept tree fits its place
  pub lost_tree_fits : (old new : Option DefinedName) → IsWellFormed book → (key : SheetPlace) (tree : Node) → get (trees_lost (change_at index old new) book).formulas key ≡ Some tree
      → tree_fits_at key.place tree ≡ true
  lost_tree_fits (Some old) (Some new) rules key tree h =
      kept_tree_fits (reach_at index old.name book.names) (reach_at index new.name (names_changed (change_at index (Some old) (Some new)) book.names)) old.name new.name book rules key tree h
  lost_tree_fits (Some old) None rules key tree h = absurd (let never : ◌≡◌ {A = Option Node} None (Some tree) = sym (get-empty sheet_place_cmp key) ∙ h in cc)
  lost_tree_fits None new rules key tree h = absurd (let never : ◌≡◌ {A = Option Node} None (Some tree) = sym (get-empty sheet_place_cmp key) ∙ h in cc)

  -- and the formulas of a kept conditional rule fit its parts
  pub lost_rule_fits : (old new : Option DefinedName) → IsWellFormed book → (key : SheetIndex) (formatting : ConditionalFormatting)
      → get (trees_lost (change_at index old new) book).formattings key ≡ Some formatting → has_fitting_trees formatting ≡ true
  lost_rule_fits (Some old) (Some new) rules key formatting h =
      kept_rule_fits (reach_at index old.name book.names) (reach_at index new.name (names_changed (change_at index (Some old) (Some new)) book.names)) old.name new.name book rules key formatting h
  lost_rule_fits (Some old) None rules key formatting h = absurd (let never : ◌≡◌ {A = Option ConditionalFormatting} None (Some formatting) = sym (get-empty sheet_index_cmp key) ∙ h in cc)
  lost_rule_fits None new rules key formatting h = absurd (let never : ◌≡◌ {A = Option ConditionalFormatting} None (Some formatting) = sym (get-empty sheet_index_cmp key) ∙ h in cc)

  turned : (a b : Bool) → (a || b) ≡ (b || a)
  turned true true = refl
  turned true false = refl
  turned false true = refl
  turned false false = refl

  both_turned : (a b : Bool) → (a && b) ≡ (b && a)
  both_turned true true = refl
  both_turned true false = refl
  both_turned false true = refl
  both_turned false false = refl

  -- the change can be made
  pub may_go : (old new : Option DefinedName) → IsMade index old new book → goes_forward (change_at index old new) (trees_lost (change_at index old new) book) book ≡ true
  unfolding goes_forward
  may_go old new output = λ i.
      output.some i && place_before index old new book.names output.at i && output.fits i && kept_of_replacement old new i && inside_now old new output.rules i

  -- and taken back
  pub may_go_back : (old new : Option DefinedName) → IsMade index old new book
      → goes_back (change_at index old new) (trees_lost (change_at index old new) book) (name_made (change_at index old new) book) ≡ true
  unfolding goes_back goes_forward
  may_go_back old new output =
      let kept : KeptTrees = trees_lost (change_at index old new) book in
      λ i.
      (turned (is_some new) (is_some old) ∙ output.some) i && place_later index old new book.names output.at i && old_fits old new output.rules output.at i
      && (ap (λ b. b || keeps_nothing kept) (both_turned (is_some new) (is_some old)) ∙ kept_of_replacement old new) i && inside_now old new output.rules i
      && stands_later old new output.rules output.at i

  -- the diff leads to the later workbook and back
  pub name_both_ways : (old new : Option DefinedName) → IsMade index old new book → (at : ℕ)
      → LeadsBothWays (name_forward at (change_at index old new) (trees_lost (change_at index old new) book)) (name_back at (change_at index old new) (trees_lost (change_at index old new) book))
      book (name_made (change_at index old new) book)
  unfolding name_forward name_back
  name_both_ways old new output at =
      let c = change_at index old new in
      let kept : KeptTrees = trees_lost (change_at index old new) book in
      record {
        forth = ap (λ b. if b then Ok (name_made c book) else Err (DiffRefused 0 at)) (may_go old new output);
        back = ap (λ b. if b then Ok (name_unmade c kept (name_made c book)) else Err (DiffRefused 0 at)) (may_go_back old new output) ∙ ap Ok (book_regained old new output.rules output.at);
      }
