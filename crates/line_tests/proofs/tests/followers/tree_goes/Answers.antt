use Rattle.std.proofs.Common.{sym, ◌∙◌}
use Rattle.line_tests.proofs.tests.followers.tree_goes.Goals as goal

pub goes-requires-clause-lies : goal.goes-requires-clause-lies
goes-requires-clause-lies c = record { place = c.in_ok-tree.ensures; corners = sym c.is_placed.ensures ∙ c.if-is_placed.true }
