use Rattle.std.proofs.Common.{sym, subst}
use Rattle.std.specs.Prelude.{IsTrue}
use Rattle.std.specs.Ordering.{nat_cmp}
use Rattle.base_maps.specs.laws.Each.{no_entry}
use Rattle.formula_tree.specs.Numbers.{has_canonical_numbers}
use Rattle.sheet_lines.specs.Back.{AreCanonicalFormulas}
use Rattle.name_edits.proofs.kept.trees_lost.Goals as goal

pub returns-clause-numbers : goal.returns-clause-numbers
returns-clause-numbers c = record {
  formulas = c.in_ok-formulas.ensures.numbers;
  names = subst AreCanonicalFormulas (sym c.new-names.ensures) (no_entry nat_cmp (λ _ tree. IsTrue (has_canonical_numbers tree)));
  formattings = c.in_ok-formattings.ensures.numbers;
}
