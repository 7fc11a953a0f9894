-- What a merge and its end leave.
use Rattle.std.proofs.Common.{◌≡◌, ◌≢◌, ℕ, Bool, true, false, not, cond, ◌&&◌, ◌||◌, List, [], ◌∷◌, ◌++◌, length, ◌+◌, Option, Some, None, Ok, refl, ap, sym, subst, ◌∙◌, true≢false, arith}
use Rattle.std.specs.List.{filter, list_all, list_any}
use Rattle.std.specs.FinMap.{entries}
use Rattle.std.proofs.lemmas.List.{length-append}
use Rattle.std.proofs.lemmas.List.Folds.{list_all-append, list_any-append}
use Rattle.std.proofs.lemmas.Option.{same_Some}
use Rattle.base_values.specs.declared.Position.{Position}
use Rattle.base_values.specs.Places.{position_cmp}
use Rattle.base_values.specs.laws.Places.{position_total, exact_positions}
use Rattle.base_axis.specs.declared.MergedCell.{MergedCell}
use Rattle.base_axis.specs.Rectangles.{holds, meets}
use Rattle.base_axis.specs.laws.RectangleLaws.{meets_turned}
use Rattle.sheet_grid.specs.declared.Cell.{Cell}
use Rattle.sheet_grid.specs.Arrays.{large_array_at, large_arrays_of}
use Rattle.sheet_grid.specs.Merges.{merge_holding}
use Rattle.sheet_grid.specs.Sheet.{Sheet}
use Rattle.sheet_grid.specs.Book.{Book, sheet_at, with_sheet}
use Rattle.sheet_rules.specs.Occupied.{are_apart, is_merge, meets_any, have_arrays, covers}
use Rattle.sheet_rules.specs.WellFormed.{has_keys_inside, have_trees, have_attributes, IsWellFormed}
use Rattle.sheet_rules.specs.laws.EntryLaws.{both}
use Rattle.sheet_rules.specs.laws.OccupiedLaws.{keeps_merges, have_merges_from, keeps_hidden, are_hidden_blank_from}
use Rattle.sheet_rules.specs.laws.ShownLaws.{neither, not_true, none_in}
use Rattle.sheet_history.specs.declared.Diff.TheVariants.{Merges as MergesDiff}
use Rattle.sheet_history.specs.Records.{IsRecord}
use Rattle.sheet_history.specs.laws.RuleLaws.{KeepsSheetRules}
use Rattle.edit_plans.specs.laws.EditRecords.{blank_diffs, merge_diffs}
use Rattle.edit_plans.specs.Merging.{with_merge, merges_without, without_merge}
use Rattle.edit_plans.specs.laws.AtIndex.{there}
use Rattle.edit_plans.specs.laws.BlankedLaws.{blanked_sheet, content_left, large_left, rules_stay}
use Rattle.edit_plans.specs.laws.BlankRecord.{blank_changes, blank_record, made_changes, blank_below}
use Rattle.edit_plans.specs.laws.MergeRecords.{merges_differ, made_more, no_changes, merges_change, merges_record}
use Rattle.edit_plans.specs.laws.SheetRecords.{sheet_record, sheet_keeps}

-- ---- merges of a list

-- a list with one more element is another
longer : {X : Type 0} (xs : List X) (x : X) → xs ≢ xs ++ x ∷ []
longer xs x same = let lengths : length xs ≡ length xs + 1 = ap length same ∙ length-append xs (x ∷ []) in absurd (omega (arith, lengths))

none_more : {X : Type 0} (test : X → Bool) (xs : List X) (x : X) → list_any test xs ≡ false → test x ≡ false → list_any test (xs ++ x ∷ []) ≡ false
none_more test xs x none last = list_any-append test xs (x ∷ []) ∙ (λ i. none i || (last i || false))

all_more : {X : Type 0} (test : X → Bool) (xs : List X) (x : X) → list_all test xs ≡ true → test x ≡ true → list_all test (xs ++ x ∷ []) ≡ true
all_more test xs x all last = list_all-append test xs (x ∷ []) ∙ (λ i. all i && (last i && true))

apart_more : (xs : List MergedCell) (r : MergedCell) → are_apart xs ≡ true → list_any (meets r) xs ≡ false → are_apart (xs ++ r ∷ []) ≡ true
apart_more [] r apart none = refl
apart_more (x ∷ xs) r apart none =
    let parts = both _ _ apart in
    let rest = neither _ _ none in
    λ i. not (none_more (meets x) xs r (not_true _ parts.0) (meets_turned x r ∙ rest.0) i) && apart_more xs r parts.1 rest.1 i

module _ {X : Type 0} (keep test : X → Bool) where
  all_left : (xs : List X) → list_all test xs ≡ true → list_all test (filter keep xs) ≡ true
  all_left [] all = refl
  all_left (x ∷ xs) all = go (both _ _ all).0 (all_left xs (both _ _ all).1) (keep x)
    where
      go : test x ≡ true → list_all test (filter keep xs) ≡ true → (b : Bool) → list_all test (cond b (x ∷ filter keep xs) (filter keep xs)) ≡ true
      go first rest true = λ i. first i && rest i
      go first rest false = rest

  none_left : (xs : List X) → list_any test xs ≡ false → list_any test (filter keep xs) ≡ false
  none_left [] none = refl
  none_left (x ∷ xs) none = go (neither _ _ none).0 (none_left xs (neither _ _ none).1) (keep x)
    where
      go : test x ≡ false → list_any test (filter keep xs) ≡ false → (b : Bool) → list_any test (cond b (x ∷ filter keep xs) (filter keep xs)) ≡ false
      go first rest true = λ i. first i || rest i
      go first rest false = rest

apart_left : (keep : MergedCell → Bool) (xs : List MergedCell) → are_apart xs ≡ true → are_apart (filter keep xs) ≡ true
apart_left keep [] apart = refl
apart_left keep (x ∷ xs) apart = go (none_left keep (meets x) xs (not_true _ (both _ _ apart).0)) (apart_left keep xs (both _ _ apart).1) (keep x)
  where
    go : list_any (meets x) (filter keep xs) ≡ false → are_apart (filter keep xs) ≡ true → (b : Bool)
        → are_apart (cond b (x ∷ filter keep xs) (filter keep xs)) ≡ true
    go none rest true = λ i. not (none i) && rest i
    go none rest false = rest

-- where one of a list holds a place, the others are another list
fewer : (place : Position) (xs : List MergedCell) (merge : MergedCell) → merge_holding xs place ≡ Some merge → xs ≢ merges_without place xs
fewer place xs merge found same = true≢false (sym (one xs found) ∙ ap (list_any (λ m. holds m place)) same ∙ none xs)
  where
    one : (xs : List MergedCell) → merge_holding xs place ≡ Some merge → list_any (λ m. holds m place) xs ≡ true
    one [] at = absurd (let never : ◌≡◌ {A = Option MergedCell} None (Some merge) = at in cc)
    one (x ∷ xs) at = go (holds x place) at (one xs)
      where
        go : (b : Bool) → cond b (Some x) (merge_holding xs place) ≡ Some merge
            → (merge_holding xs place ≡ Some merge → list_any (λ m. holds m place) xs ≡ true) → (b || list_any (λ m. holds m place) xs) ≡ true
        go true at rest = refl
        go false at rest = rest at

    none : (xs : List MergedCell) → list_any (λ m. holds m place) (merges_without place xs) ≡ false
    none [] = refl
    none (x ∷ xs) = go (holds x place) refl (none xs)
      where
        go : (b : Bool) → holds x place ≡ b → list_any (λ m. holds m place) (merges_without place xs) ≡ false
            → list_any (λ m. holds m place) (cond (not b) (x ∷ merges_without place xs) (merges_without place xs)) ≡ false
        go true is rest = rest
        go false is rest = λ i. is i || rest i

-- ---- the rules of the sheet

module _ (r : MergedCell) (sheet : Sheet) (is : is_merge r ≡ true) (free : meets_any sheet.merges r ≡ false)
    (clear : meets_any (large_arrays_of sheet) r ≡ false) where
  merge_rules : KeepsSheetRules sheet → KeepsSheetRules (with_merge sheet r)
  unfolding has_keys_inside have_arrays have_trees have_attributes
  merge_rules h =
      let bare = rules_stay r sheet h in
      let own = keeps_merges (blanked_sheet r sheet) bare.merges in
      let hidden = keeps_hidden (blanked_sheet r sheet) bare.hidden in
      record {
        inside = bare.inside;
        arrays = bare.arrays;
        merges = have_merges_from (with_merge sheet r) (record {
          merges = all_more is_merge sheet.merges r own.merges is;
          apart = apart_more sheet.merges r own.apart free;
          arrays = λ place array at. none_more (meets array) sheet.merges r (own.arrays place array at)
              (meets_turned array r
              ∙ none_in position_cmp position_total exact_positions (λ p (c : Cell). large_array_at p c.content)
              (meets r) sheet.cells clear place array (large_left r sheet place array at).1);
        });
        hidden = are_hidden_blank_from (with_merge sheet r) (record {
          merges = λ place cell found filled. none_more (λ merge. covers merge place) sheet.merges r (hidden.merges place cell found filled)
              (content_left r sheet place cell found filled).0;
          arrays = hidden.arrays;
        });
        trees = bare.trees;
        rule_trees = bare.rule_trees;
        attributes = bare.attributes;
        frozen = bare.frozen;
        rule_parts = bare.rule_parts;
      }

unmerge_rules : (sheet : Sheet) (place : Position) → KeepsSheetRules sheet → KeepsSheetRules (without_merge sheet place)
unfolding has_keys_inside have_arrays have_trees have_attributes
unmerge_rules sheet place h =
    let own = keeps_merges sheet h.merges in
    let hidden = keeps_hidden sheet h.hidden in
    let keep = λ (merge : MergedCell). not (holds merge place) in
    record {
      inside = h.inside;
      arrays = h.arrays;
      merges = have_merges_from (without_merge sheet place) (record {
        merges = all_left keep is_merge sheet.merges own.merges;
        apart = apart_left keep sheet.merges own.apart;
        arrays = λ q array at. none_left keep (meets array) sheet.merges (own.arrays q array at);
      });
      hidden = are_hidden_blank_from (without_merge sheet place) (record {
        merges = λ q cell found filled. none_left keep (λ merge. covers merge q) sheet.merges (hidden.merges q cell found filled);
        arrays = hidden.arrays;
      });
      trees = h.trees;
      rule_trees = h.rule_trees;
      attributes = h.attributes;
      frozen = h.frozen;
      rule_parts = h.rule_parts;
    }

-- ---- the record of the workbook

module _ (w : Book) (rules : IsWellFormed w) (index : ℕ) (sheet : Sheet) (at : sheet_at w index ≡ Ok sheet) where
  -- a merge that is not refused leaves a well-formed workbook, and its record
  pub merge_well_formed : (r : MergedCell) → is_merge r ≡ true → meets_any sheet.merges r ≡ false → meets_any (large_arrays_of sheet) r ≡ false
      → IsWellFormed (with_sheet w index (with_merge sheet r))
  merge_well_formed r is free clear = sheet_keeps (λ s. with_merge s r) (λ s. refl) w rules index sheet at (λ s found h.
      let same : s ≡ sheet = same_Some s sheet (sym found ∙ there w rules index sheet at) in
      subst (λ t. KeepsSheetRules (with_merge t r)) (sym same) (merge_rules r sheet is free clear (subst KeepsSheetRules same h)))

  pub merge_exact : (r : MergedCell) → IsRecord w (with_sheet w index (with_merge sheet r)) (merge_diffs r sheet)
  merge_exact r =
      let differ = merges_differ sheet.merges (sheet.merges ++ r ∷ []) (longer sheet.merges r) in
      sheet_record (λ s. with_merge s r) (λ s. refl) w rules index sheet at
      (blank_changes r sheet ++ merges_change sheet (sheet.merges ++ r ∷ []) ∷ []) (merge_diffs r sheet)
      (made_more (blank_diffs r sheet) (blank_changes r sheet) (MergesDiff sheet.id sheet.merges (sheet.merges ++ r ∷ []))
      (merges_change sheet (sheet.merges ++ r ∷ [])) (made_changes r sheet.id (entries sheet.cells)) refl)
      (merges_record (blanked_sheet r) (λ s. s.merges ++ r ∷ []) sheet (blank_changes r sheet) (blank_record r sheet) refl (blank_below r sheet) differ)

  -- so does the end of a merge
  pub unmerge_well_formed : (place : Position) → IsWellFormed (with_sheet w index (without_merge sheet place))
  unmerge_well_formed place = sheet_keeps (λ s. without_merge s place) (λ s. refl) w rules index sheet at (λ s there h. unmerge_rules s place h)

  pub unmerge_exact : (place : Position) (merge : MergedCell) → merge_holding sheet.merges place ≡ Some merge
      → IsRecord w (with_sheet w index (without_merge sheet place)) (MergesDiff sheet.id sheet.merges (merges_without place sheet.merges) ∷ [])
  unmerge_exact place merge found =
      let differ = merges_differ sheet.merges (merges_without place sheet.merges) (fewer place sheet.merges merge found) in
      sheet_record (λ s. without_merge s place) (λ s. refl) w rules index sheet at (merges_change sheet (merges_without place sheet.merges) ∷ [])
      (MergesDiff sheet.id sheet.merges (merges_without place sheet.merges) ∷ []) refl
      (merges_record (λ s. s) (λ s. merges_without place s.merges) sheet [] (no_changes sheet) refl tt differ)
