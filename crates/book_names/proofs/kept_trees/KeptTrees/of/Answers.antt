use Rattle.std.proofs.Common.{sym, subst}
use Rattle.sheet_lines.specs.Back.{AreCanonicalFormulas}
use Rattle.book_names.specs.laws.Numbers.{names_kept_numbers}
use Rattle.book_names.proofs.kept_trees.KeptTrees.of.Goals as goal

pub returns-clause-numbers : goal.returns-clause-numbers
returns-clause-numbers c = record {
  formulas = c.in_ok-formulas.ensures.numbers;
  names = subst AreCanonicalFormulas (sym c.in_ok-names.ensures.names) (names_kept_numbers c.args.old.now c.args.new.now c.defined_names.result.now c.defined_names.ensures.canonical);
  formattings = c.in_ok-formattings.ensures.numbers;
}
