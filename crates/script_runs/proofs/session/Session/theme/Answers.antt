use Rattle.std.proofs.Common.{refl}
use Rattle.sheet_history.specs.declared.Setting.TheVariants as setting
use Rattle.edit_plans.specs.Edits.Edit.{SetSetting}
use Rattle.script_runs.proofs.Steps.{edit_keeps, moves_turn, step_runs}
use Rattle.script_runs.proofs.session.Session.theme.Goals as goal

pub returns : goal.returns
returns c = λ state stands.
    step_runs c.push_outcome.result c.set_theme-done.result c.args.self.now _ state _ (edit_keeps (SetSetting (setting.Theme c.args.theme)) state) stands
    (moves_turn _ _ _ (c.set_theme-done.ensures.next state stands.model))
    c.set_theme-done.ensures.err refl c.push_outcome.ensures.text c.push_outcome.ensures.memory c.push_outcome.ensures.only
