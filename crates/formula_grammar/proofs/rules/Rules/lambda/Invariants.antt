use Rattle.std.proofs.Common.{◌≡◌, ◌-◌}
use Rattle.formula_grammar.specs.laws.Reading.{opening, chain_from, lambda_turn, lambda, whole}
use Rattle.formula_grammar.proofs.rules.Rules.lambda.Given as goal

abbrev pub invariant-loop-turn : goal.invariant-loop-turn
invariant-loop-turn g l = lambda l.self.profile (whole l.self.profile l.self.nesting) l.self.room l.fn.tokens.rest.now ≡ chain_from opening (lambda_turn l.self.profile (whole l.self.profile l.self.nesting) l.self.room) (64 - l._turn) l.tree l.tokens.rest.now
