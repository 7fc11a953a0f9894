use Rattle.formula_grammar.proofs.rules.+whole.Given as goal

abbrev pub decreases-whole : goal.decreases-whole
decreases-whole l = l.nesting
