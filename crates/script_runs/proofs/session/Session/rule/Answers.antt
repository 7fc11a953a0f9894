use Rattle.std.proofs.Common.{refl}
use Rattle.script_runs.specs.Script.{rule_asked}
use Rattle.script_runs.proofs.Steps.{edit_keeps, step_runs}
use Rattle.script_runs.proofs.session.Session.rule.Goals as goal

pub returns : goal.returns
returns c = λ state stands.
    step_runs c.push_outcome.result c.add_rule-done.result c.args.self.now _ state _ (edit_keeps (rule_asked c.args.named c.args.text.now state) state) stands
    (c.add_rule-done.ensures.next state stands.model)
    c.add_rule-done.ensures.err refl c.push_outcome.ensures.text c.push_outcome.ensures.memory c.push_outcome.ensures.only
