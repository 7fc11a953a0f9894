use Rattle.std.proofs.Common.{◌≡◌, ◌-◌, [], length}
use Rattle.formula_grammar.specs.laws.Reading.{rows_from}
use Rattle.formula_grammar.proofs.arrays.rows.Given as goal

abbrev pub invariant-loop-turn : goal.invariant-loop-turn
invariant-loop-turn l = rows_from l.profile (length l.fn.tokens.rest.now) [] [] l.fn.tokens.rest.now ≡ rows_from l.profile (l._turn-end - l._turn) l.lines l.line l.tokens.rest.now
