use Rattle.std.proofs.Common.{◌+◌, length}
use Rattle.std.specs.Option.{option_map, option_map_or}
use Rattle.open_book.specs.Machine.{State}
use Rattle.script_runs.specs.Session.{SessionStands, HasNoStale}
use Rattle.script_runs.proofs.Runs.{Reached}
use Rattle.script_runs.proofs.session.Session.run_lines.Given as goal

-- whatever state it stood for at first, it stands for one from which the rest leads to the same end
abbrev pub invariant-lines : goal.invariant-lines
invariant-lines l = (first : State) → SessionStands l.fn.self first → HasNoStale first → Reached l.fn.self.out.items l.script first l.self (option_map (λ rest. rest.now) l.rest)

abbrev pub decreases-lines : goal.decreases-lines
decreases-lines l = option_map_or (λ rest. length rest.now + 1) l.rest 0
