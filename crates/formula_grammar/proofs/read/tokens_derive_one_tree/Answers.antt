use Rattle.formula_grammar.proofs.Laws.{derived_formula, derived_is_read, one_tree, read_is_derived}
use Rattle.formula_grammar.proofs.read.tokens_derive_one_tree.Goals as goal

pub returns : goal.returns
returns c = record { one = one_tree; formula = derived_formula; read = read_is_derived; derived = derived_is_read }
