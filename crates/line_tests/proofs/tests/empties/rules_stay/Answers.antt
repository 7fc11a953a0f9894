use Rattle.std.proofs.Common.{sym, arith}
use Rattle.line_tests.proofs.tests.empties.rules_stay.Goals as goal

pub stays-requires-clause-lies : goal.stays-requires-clause-lies
stays-requires-clause-lies c = rw c.empty.ensures (λ k d h. absurd (omega (arith, h)))
