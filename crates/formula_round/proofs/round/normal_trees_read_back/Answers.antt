use Rattle.formula_round.proofs.Back.{normal_spelled, normal_formula, normal_read}
use Rattle.formula_round.proofs.Derived.{tokens_derive}
use Rattle.formula_round.specs.Back.{text_at}
use Rattle.formula_round.proofs.round.normal_trees_read_back.Goals as goal

pub returns-clause-derived : goal.returns-clause-derived
returns-clause-derived c = tokens_derive

pub returns-clause-spelled : goal.returns-clause-spelled
returns-clause-spelled c = normal_spelled

pub returns-clause-formula : goal.returns-clause-formula
returns-clause-formula c = normal_formula

pub returns-clause-read : goal.returns-clause-read
returns-clause-read c p tree normal = normal_read p tree normal (c.text_has_one_tree.ensures.read p (text_at p tree))
