use Rattle.std.proofs.Common.{◌≡◌, ◌+◌, ◌-◌, ◌*◌}
use Rattle.formula_grammar.specs.laws.Reading.{operator_at, chain_from, turn, expression, whole}
use Rattle.formula_grammar.proofs.rules.Rules.+expression.Given as goal

abbrev pub decreases-expression : goal.decreases-expression
decreases-expression g l = 2 * l.level

abbrev pub decreases-turn : goal.decreases-turn
decreases-turn g l = 2 * l.under + 1

abbrev pub decreases-signed : goal.decreases-signed
decreases-signed g l = 2 * l.under + 1

abbrev pub invariant-expression-loop-turn : goal.invariant-expression-loop-turn
invariant-expression-loop-turn g l = expression l.self.profile (whole l.self.profile l.self.nesting) l.self.room l.fn.level l.fn.tokens.rest.now ≡ chain_from (operator_at l.under) (turn (expression l.self.profile (whole l.self.profile l.self.nesting) l.self.room l.under)) (64 - l._turn) l.left l.tokens.rest.now
