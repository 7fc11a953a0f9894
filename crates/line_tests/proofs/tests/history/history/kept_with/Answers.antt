use Rattle.std.proofs.Common.{ap, sym, subst, ◌∙◌}
use Rattle.std.specs.Prelude.{IsTrue, IfSome}
use Rattle.std.specs.FinMap.{get, get-empty}
use Rattle.std.specs.Ordering.{nat_cmp}
use Rattle.base_values.specs.Places.{position_cmp}
use Rattle.base_maps.specs.SheetPlaces.{sheet_place_cmp}
use Rattle.format_rules.specs.Canonical.{IsCanonicalFormatting}
use Rattle.formula_tree.specs.Numbers.{has_canonical_numbers}
use Rattle.sheet_grid.specs.CanonicalCell.{IsCanonicalCell}
use Rattle.line_tests.proofs.tests.history.history.kept_with.Goals as goal

pub returns : goal.returns
returns c = record {
  cells = λ place. subst (λ entry. IfSome entry IsCanonicalCell) (sym (ap (λ m. get m place) c.new.ensures ∙ get-empty position_cmp place)) tt;
  formulas = λ key. subst (λ entry. IfSome entry (λ tree. IsTrue (has_canonical_numbers tree))) (sym (ap (λ m. get m key) c.new-3.ensures ∙ get-empty sheet_place_cmp key)) tt;
  formattings = λ index. subst (λ entry. IfSome entry IsCanonicalFormatting) (sym (ap (λ m. get m index) c.new-4.ensures ∙ get-empty nat_cmp index)) tt;
}
