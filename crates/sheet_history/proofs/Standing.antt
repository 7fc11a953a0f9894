-- What the tests of a diff of lines say of what is kept.
use Rattle.std.proofs.Common.{◌≡◌, ℕ, Bool, true, ◌&&◌, List, [], ◌∷◌, Option, Some, None, refl}
use Rattle.std.specs.Prelude.{IfSome}
use Rattle.std.specs.Ordering.{nat_cmp}
use Rattle.std.specs.Cmp.{nat_cmp_total}
use Rattle.std.specs.List.{list_all}
use Rattle.std.specs.FinMap.{FinMap, entries, get}
use Rattle.std.proofs.lemmas.Map.Lookups.{exact_unsigned}
use Rattle.base_values.specs.declared.Position.{Position}
use Rattle.base_values.specs.Places.{is_line, position_cmp, is_place}
use Rattle.base_values.specs.laws.Places.{position_total, exact_positions}
use Rattle.base_axis.specs.declared.MergedCell.{MergedCell}
use Rattle.base_axis.specs.Along.{Along}
use Rattle.cell_content.specs.Fitting.{fits_at}
use Rattle.format_rules.specs.declared.ConditionalFormatting.{ConditionalFormatting}
use Rattle.format_rules.specs.Fitting.{RuleInside, has_parts, has_fitting_trees}
use Rattle.format_rules.specs.laws.FittingLaws.{rule_inside}
use Rattle.line_edits.specs.declared.EditKind.{EditKind}
use Rattle.line_routes.specs.Merges.{MergesInside}
use Rattle.rule_edits.specs.RuleChanges as rule_changes
use Rattle.line_map.specs.Canonical.{KeptInside}
use Rattle.sheet_grid.specs.declared.Cell.{Cell}
use Rattle.sheet_grid.specs.Book.{Book}
use Rattle.sheet_grid.specs.Sheet.{Sheet}
use Rattle.sheet_rules.specs.laws.EntryLaws.{both}
use Rattle.sheet_rules.specs.laws.InsideLaws.{places_from_test, lines_from_test}
use Rattle.sheet_lines.specs.declared.KeptLines.{KeptLines}
use Rattle.sheet_lines.specs.Back.{KeptLinesInside, ArePlacedLines}
use Rattle.book_sheets.specs.SheetDiffs.{cells_fit}
use Rattle.book_sheets.specs.laws.Placed.{placed_cell, merges_are_inside}
use Rattle.book_names.specs.RenameDiffs.{formulas_stand}
use Rattle.book_names.specs.laws.Placed.{formulas_placed}
use Rattle.sheet_history.specs.LineDiffs.{stand_on_lost, merges_inside, are_kept_lines_inside, each_stands}
use Rattle.sheet_history.specs.laws.Entries.{entry_holds}

first_tests : {X : Type 0} (f g : X → Bool) (xs : List X) → list_all (λ x. f x && g x) xs ≡ true → list_all f xs ≡ true
first_tests f g [] all = refl
first_tests f g (x ∷ xs) all = let parts = both (f x && g x) (list_all (λ x. f x && g x) xs) all in λ i. (both (f x) (g x) parts.0).0 i && first_tests f g xs parts.1 i

kept_merges_are_inside : (merges : Option (List MergedCell)) → merges_inside merges ≡ true → IfSome merges MergesInside
kept_merges_are_inside None all = tt
kept_merges_are_inside (Some merges) all = merges_are_inside merges all

-- what stands on lost lines, and whose merges are inside, is inside
pub inside_of_lost : (a : Along) (e : EditKind) (kept : KeptLines) → stand_on_lost a e kept ≡ true → are_kept_lines_inside kept ≡ true → KeptLinesInside a kept
unfolding stand_on_lost are_kept_lines_inside
inside_of_lost a e kept all inside =
    let places = both _ _ (both _ _ all).0 in
    record {
      cells = places_from_test kept.cells (first_tests (λ e. is_place e.0) _ (entries kept.cells) places.0);
      links = places_from_test kept.links (first_tests (λ e. is_place e.0) _ (entries kept.links) places.1);
      lines = lines_from_test a.last kept.lines (first_tests (λ e. is_line a.last e.0) _ (entries kept.lines) (both _ _ (both _ _ all).1).0);
      merges = kept_merges_are_inside kept.merges (both _ _ (both _ _ inside).0).1;
    }

-- kept conditional rules that may stand are inside the sheet
pub rules_are_inside_where_stand : (formattings : FinMap nat_cmp ConditionalFormatting) → each_stands formattings ≡ true → KeptInside formattings
rules_are_inside_where_stand formattings all place = go (get formattings place) refl
  where
    go : (o : Option ConditionalFormatting) → get formattings place ≡ o → IfSome o RuleInside
    go None found = tt
    go (Some formatting) found =
        let stands = entry_holds nat_cmp nat_cmp_total exact_unsigned (λ (entry : ℕ × ConditionalFormatting). rule_changes.may_stand entry.1) formattings all place formatting found in
        let parts = both (has_parts formatting) (has_fitting_trees formatting) stands in
        rule_inside formatting parts.0 parts.1

-- what may stand is placed, wherever the formulas of its trees are sought
pub placed_where_stands : (seek : Sheet → Position → Option Position) (kept : KeptLines) (book : Book) → cells_fit kept.cells ≡ true
    → formulas_stand seek kept.formulas book ≡ true → KeptInside kept.formattings → ArePlacedLines kept
unfolding cells_fit
placed_where_stands seek kept book fit stand lie = record {
  cells = λ place cell found. placed_cell place cell (entry_holds position_cmp position_total exact_positions (λ (entry : Position × Cell). fits_at entry.0 entry.1.content) kept.cells fit place cell found);
  formulas = formulas_placed seek kept.formulas book stand;
  formattings = lie;
}
