use Rattle.std.proofs.Common.{◌∙◌, sym, Some, None}
use Rattle.script_runs.proofs.Lines.{empty_ran, line_ran}
use Rattle.script_runs.proofs.Own.{own_state}
use Rattle.script_runs.proofs.session.Session.run_line.Goals as goal

pub returns-then-is_empty : goal.returns-then-is_empty
returns-then-is_empty c = λ state stands fresh.
    empty_ran c.args.self.now c.args.line.now state (sym c.is_empty.ensures ∙ c.if-is_empty.true) stands (own_state c.args.self.now state stands fresh)

pub returns-in-Some : goal.returns-in-Some
returns-in-Some c = λ state stands fresh.
    line_ran c.run_command.result c.args.self.now c.run_command.new.self c.args.line.now (Some c.in-Some.command) state
    (sym c.is_empty.ensures ∙ c.if-is_empty.false)
    (sym c.in-Some.is ∙ c.in_ok-command.ensures.value)
    (c.run_command.ensures state stands fresh)

pub returns-in_ok-push_line-in-None : goal.returns-in_ok-push_line-in-None
returns-in_ok-push_line-in-None c = λ state stands fresh.
    line_ran _ c.args.self.now _ c.args.line.now None state
    (sym c.is_empty.ensures ∙ c.if-is_empty.false)
    (sym c.in-None.is ∙ c.in_ok-command.ensures.value)
    (record {
      out = c.in_ok-push_line-in-None.ensures;
      stands = record { model = stands.model; copy = stands.copy };
      only = tt;
      sends = own_state c.args.self.now state stands fresh;
    })
