use Rattle.std.proofs.Common.{arith, ◌++◌, ◌-◌, ◌∙◌}
use Rattle.std.proofs.lemmas.Result.{err_from_is_err_and}
use Rattle.script_runs.specs.Script.{reply_text}
use Rattle.script_runs.specs.Script.Reply.{Made}
use Rattle.script_runs.proofs.Draws.{drawn_end, drawn_left, drawn_more}
use Rattle.script_runs.proofs.session.Session.make.Goals as goal

pub draws-preserved : goal.draws-preserved
draws-preserved c = record {
  small = omega (arith, c.in_ok-count_command.ensures.more, c.draws.invariant.small, c.draws-test.true);
  drawn = λ first stands fresh.
      let written = c.args.self.now.out.items in
      let drawn = drawn_left c.args.run written first c.draws.self c.draws.tally c.draws.left c.draws.seed c.draws-test.true (c.draws.invariant.drawn first stands fresh) in
      drawn_more c.args.run written first c.draws.self c.count_command.new.self c.draws.tally c.count_command.new.tally (c.draws.left - 1) c.draws.seed c.in_ok-command.command
      c.in_ok-command.next c.in_ok-command.ensures.value drawn (c.in_ok-count_command.ensures.counts drawn.state drawn.stands);
}

pub returns-in_err-count_command : goal.returns-in_err-count_command
returns-in_err-count_command c = λ first stands fresh.
    let drawn = c.draws.invariant.drawn first stands fresh in
    let ran = c.in_err-count_command.ensures.counts drawn.state drawn.stands in
    let p = err_from_is_err_and c.from_residual-in_err-count_command.result c.from_residual-in_err-count_command.ensures.1 in
    rw (p.1, p.2) (record { out = tt; stands = tt; only = ran.only; sends = tt })

pub returns : goal.returns
returns c = λ first stands fresh.
    let end = drawn_end c.args.run c.args.self.now.out.items first c.draws.self c.draws.tally c.draws.left c.draws.seed c.draws-test.false (c.draws.invariant.drawn first stands fresh) in
    record {
      out = c.in_ok-push_made.ensures ∙ (λ i. end.out i ++ reply_text (Made c.args.run.count (end.told i)));
      stands = record { model = end.stands.model; copy = end.stands.copy };
      only = tt;
      sends = end.sound;
    }
