use Rattle.std.proofs.Common.{sym, subst}
use Rattle.script_lines.specs.declared.Command.{Command}
use Rattle.script_runs.specs.Session.{RunsCommand}
use Rattle.script_runs.proofs.Runs.{plain_runs}
use Rattle.script_runs.proofs.session.Session.run_command.Goals as goal

pub returns-in-Make : goal.returns-in-Make
returns-in-Make c = subst (λ (asked : Command). RunsCommand asked c.make.result c.args.self.now c.make.new.self) (sym c.in-Make.is) c.make.ensures

pub returns : goal.returns
returns c = λ s stands fresh.
    plain_runs c.run_plain.result c.args.self.now c.run_plain.new.self s stands fresh c.args.command c.in_default.not-Make (c.run_plain.ensures s stands)
