-- An array that may fill a rectangle leaves a sheet that keeps its rules.
use Rattle.std.proofs.Common.{◌≡◌, Bool, true, false, not, cond, ◌&&◌, ◌||◌, List, [], ◌∷◌, Option, Some, None, Result, Ok, Err, refl, ap, sym, subst, ◌∙◌, true≢false}
use Rattle.std.specs.Prelude.{IsTrue}
use Rattle.std.specs.List.{list_any}
use Rattle.std.specs.Cmp.{int_eq_equiv}
use Rattle.std.specs.FinMap.{get}
use Rattle.base_values.specs.declared.EditError.{EditError}
use Rattle.base_values.specs.declared.EditError.TheVariants.{InvalidArea, CoveredCell, ArrayCell}
use Rattle.base_values.specs.declared.Position.{Position}
use Rattle.base_values.specs.Places.{position_cmp, same_position, is_place}
use Rattle.base_values.specs.laws.Places.{position_total, exact_positions}
use Rattle.base_axis.specs.declared.MergedCell.{MergedCell}
use Rattle.base_axis.specs.Rectangles.{anchor_place, has_many, holds, is_inside, meets}
use Rattle.base_axis.specs.laws.RectangleLaws.{inside_found, holds_anchor, shared_meets}
use Rattle.base_styles.specs.declared.Style.{Style}
use Rattle.formula_tree.specs.declared.Node.{Node}
use Rattle.cell_content.specs.declared.Content.TheVariants.{Array}
use Rattle.cell_content.specs.Fitting.{fits_at}
use Rattle.sheet_grid.specs.declared.Cell.{Cell}
use Rattle.sheet_grid.specs.Arrays.{large_array_at, large_arrays_of}
use Rattle.sheet_grid.specs.Merges.{is_covered}
use Rattle.sheet_grid.specs.Sheet.{Sheet, with_cell, shown_style}
use Rattle.sheet_grid.specs.laws.FittingLaws.{cells_fit-put}
use Rattle.sheet_rules.specs.Occupied.{meets_any, covers}
use Rattle.sheet_rules.specs.laws.HiddenLaws.{covered_by_one}
use Rattle.sheet_rules.specs.laws.OccupiedLaws.{keeps_merges}
use Rattle.sheet_rules.specs.laws.ShownLaws.{neither, none_in}
use Rattle.sheet_rules.specs.laws.WellFormedLaws.{cells_fit_from_trees, have_trees_from_cells_fit}
use Rattle.sheet_history.specs.laws.EntryLaws.{decide}
use Rattle.sheet_history.specs.laws.RuleLaws.{KeepsSheetRules, inside-put, attributes-put}
use Rattle.edit_plans.specs.ArrayInputs.{hits_merge, free_area, with_array}
use Rattle.edit_plans.specs.Inputs.{entered}
use Rattle.edit_plans.specs.laws.ArrayPut.{IsFree, array-arrays, array-merges, array-hidden}
use Rattle.edit_plans.specs.laws.BlankedLaws.{blanked_sheet, large_left, content_left, rules_stay}
use Rattle.edit_plans.specs.laws.Fonts.{shown_font}

-- a rectangle that an array may fill
pub record MayFill (sheet : Sheet) (r : MergedCell) : Type 0 where
  pub inside : is_inside r ≡ true
  pub free : hits_merge sheet r ≡ false
  pub clear : meets_any (large_arrays_of sheet) r ≡ false

pub may_fill : (sheet : Sheet) (r area : MergedCell) → free_area sheet r ≡ Ok area → MayFill sheet r × (r ≡ area)
may_fill sheet r area goes = go (is_inside r) refl (hits_merge sheet r) refl (meets_any (large_arrays_of sheet) r) refl goes
  where
    go : (a : Bool) → is_inside r ≡ a → (b : Bool) → hits_merge sheet r ≡ b → (c : Bool) → meets_any (large_arrays_of sheet) r ≡ c
        → cond (not a) (Err InvalidArea) (cond b (Err CoveredCell) (cond c (Err ArrayCell) (Ok r))) ≡ Ok area → MayFill sheet r × (r ≡ area)
    go true inside false free false clear e = (record { inside = inside; free = free; clear = clear }, cc)
    go true inside false free true clear e = absurd (let never : ◌≡◌ {A = Result MergedCell EditError} (Err ArrayCell) (Ok area) = e in cc)
    go true inside true free c clear e = absurd (let never : ◌≡◌ {A = Result MergedCell EditError} (Err CoveredCell) (Ok area) = e in cc)
    go false inside b free c clear e = absurd (let never : ◌≡◌ {A = Result MergedCell EditError} (Err InvalidArea) (Ok area) = e in cc)

same_itself : (place : Position) → same_position place place ≡ true
same_itself place = λ i. int_eq_equiv.refl place.row i && int_eq_equiv.refl place.column i

-- ---- nothing is in its way, where the contents that it covers are gone

module _ (r : MergedCell) (sheet : Sheet) (may : MayFill sheet r) (h : KeepsSheetRules sheet) where
  abbrev place : Position
  place = anchor_place r

  own : holds r place ≡ true
  own = holds_anchor r (inside_found r may.inside)

  first : covers r place ≡ false
  first = λ i. own i && not (same_itself place i)

  not_held : (other : MergedCell) → meets r other ≡ false → covers other place ≡ false
  not_held other apart = go (holds other place) refl
    where
      go : (b : Bool) → holds other place ≡ b → (b && not (same_position (anchor_place other) place)) ≡ false
      go true there = absurd (true≢false (sym (shared_meets r other place own there) ∙ apart))
      go false there = refl

  none_held : (others : List MergedCell) → list_any (meets r) others ≡ false → list_any (λ other. covers other place) others ≡ false
  none_held [] apart = refl
  none_held (other ∷ others) apart = let parts = neither _ _ apart in λ i. not_held other parts.0 i || none_held others parts.1 i

  no_merge : has_many r ≡ true → meets_any sheet.merges r ≡ false
  no_merge many = ap (λ b. cond b (meets_any sheet.merges r) (is_covered sheet.merges place)) (sym many) ∙ may.free

  uncovered : list_any (λ merge. covers merge place) sheet.merges ≡ false
  uncovered = decide (has_many r)
      (λ many. none_held sheet.merges (no_merge many))
      (λ one. covered_by_one place sheet.merges (keeps_merges sheet h.merges).apart ∙ ap (λ b. cond b (meets_any sheet.merges r) (is_covered sheet.merges place)) (sym one) ∙ may.free)

  free : IsFree (blanked_sheet r sheet) place r
  free = record {
    arrays = λ q array other at.
        let apart = none_in position_cmp position_total exact_positions (λ p (c : Cell). large_array_at p c.content) (meets r) sheet.cells may.clear q array (large_left r sheet q array at).1 in
        (apart, not_held array apart);
    merges = no_merge;
    uncovered = uncovered;
    blank = λ q cell other found filled. (content_left r sheet q cell found filled).0;
    first = first;
  }

  -- ---- the sheet with the array

  module _ (tree : Node) (inside : is_place place ≡ true) (fits : IsTrue (fits_at place (Array tree r.width r.height))) where
    abbrev cell : Cell
    cell = record { content = Array tree r.width r.height; style = shown_style sheet place }

    entered_array : (o : Option Cell) (style : Style) → entered o (Array tree r.width r.height) style ≡ Some (record { content = Array tree r.width r.height; style = style })
    entered_array None style = refl
    entered_array (Some other) style = refl

    celled : KeepsSheetRules (with_cell (blanked_sheet r sheet) place (Some cell))
    celled =
        let bare = rules_stay r sheet h in
        record {
          inside = inside-put (blanked_sheet r sheet) place (Some cell) inside bare.inside;
          arrays = array-arrays (blanked_sheet r sheet) place cell r refl free may.inside bare.arrays;
          merges = array-merges (blanked_sheet r sheet) place cell r refl free bare.merges;
          hidden = array-hidden (blanked_sheet r sheet) place cell r refl free bare.hidden;
          trees = have_trees_from_cells_fit (with_cell (blanked_sheet r sheet) place (Some cell)) (cells_fit-put (blanked_sheet r sheet) place (Some cell) fits (cells_fit_from_trees (blanked_sheet r sheet) bare.trees));
          rule_trees = bare.rule_trees;
          attributes = attributes-put (blanked_sheet r sheet) place (Some cell) (shown_font sheet h.attributes place) bare.attributes;
          frozen = bare.frozen;
          rule_parts = bare.rule_parts;
        }

    pub array_rules : KeepsSheetRules (with_array sheet r tree)
    array_rules = subst (λ o. KeepsSheetRules (with_cell (blanked_sheet r sheet) place o)) (sym (entered_array (get sheet.cells place) (shown_style sheet place))) celled
