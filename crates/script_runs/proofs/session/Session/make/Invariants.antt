use Rattle.std.proofs.Common.{◌+◌, ◌≤◌}
use Rattle.open_book.specs.Machine.{State}
use Rattle.script_runs.specs.Session.{SessionStands, HasNoStale}
use Rattle.script_runs.proofs.Draws.{Drawn}
use Rattle.script_runs.proofs.session.Session.make.Given as goal

-- no more answers are counted than commands were drawn; and whatever state it stood for at first, it stands for one from which the commands
-- that are left lead to the same end
abbrev pub invariant-draws : goal.invariant-draws
invariant-draws l = record {
  small : l.tally.ok + l.tally.error + l.tally.sync + l.left ≤ l.run.count;
  drawn : (first : State) → SessionStands l.fn.self first → HasNoStale first → Drawn l.run l.fn.self.out.items first l.self l.tally l.left l.seed;
}

abbrev pub decreases-draws : goal.decreases-draws
decreases-draws l = l.left
