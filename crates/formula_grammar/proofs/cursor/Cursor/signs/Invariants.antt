use Rattle.std.proofs.Common.{◌≡◌, ◌+◌, ◌≤◌, length}
use Rattle.formula_grammar.specs.laws.Signs.{signs}
use Rattle.formula_grammar.proofs.cursor.Cursor.signs.Given as goal

abbrev pub invariant-loop-rest : goal.invariant-loop-rest
invariant-loop-rest l = record {
  count_is : (l.count + (signs l.fn.under l.rest).0 ≡ (signs l.fn.under l.fn.self.rest.now).0);
  rest_is : ((signs l.fn.under l.rest).1 ≡ (signs l.fn.under l.fn.self.rest.now).1);
  few : (l.count + length l.rest ≤ length l.fn.self.rest.now);
}

abbrev pub decreases-loop-rest : goal.decreases-loop-rest
decreases-loop-rest l = length l.rest
