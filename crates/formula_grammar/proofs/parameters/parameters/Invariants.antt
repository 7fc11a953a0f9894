use Rattle.std.proofs.Common.{◌≡◌, ◌-◌}
use Rattle.formula_grammar.specs.laws.Reading.{parameters, parameters_from}
use Rattle.formula_grammar.proofs.parameters.parameters.Given as goal

abbrev pub invariant-loop-turn : goal.invariant-loop-turn
invariant-loop-turn l = parameters l.locale l.fn.tokens.rest.now ≡ parameters_from l.locale (l._turn-end - l._turn) l.found l.tokens.rest.now
