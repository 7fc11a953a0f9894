use Rattle.std.proofs.Common.{◌≡◌, ◌-◌}
use Rattle.formula_grammar.specs.laws.Signs.{wrapped}
use Rattle.formula_grammar.proofs.rules.Rules.wrapped.Given as goal

abbrev pub invariant-loop-turn : goal.invariant-loop-turn
invariant-loop-turn g l = wrapped l.sign l.count l.fn.operand ≡ wrapped l.sign (l.count - l._turn) l.tree
