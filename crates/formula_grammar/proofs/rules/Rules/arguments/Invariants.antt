use Rattle.std.proofs.Common.{◌≡◌, ◌-◌}
use Rattle.formula_grammar.specs.laws.Reading.{arguments, arguments_from, whole}
use Rattle.formula_grammar.proofs.rules.Rules.arguments.Given as goal

abbrev pub invariant-loop-turn : goal.invariant-loop-turn
invariant-loop-turn g l = arguments l.self.profile (whole l.self.profile l.self.nesting) l.self.room l.fn.tokens.rest.now ≡ arguments_from l.self.profile (whole l.self.profile l.self.nesting) l.self.room (l._turn-end - l._turn) l.found l.tokens.rest.now
