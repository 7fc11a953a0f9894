use Rattle.std.proofs.Common.{refl, rules, w32, SFits}
use Rattle.std.proofs.lemmas.Int.{to_z-of_z}
use Rattle.edit_plans.specs.Edits.Edit.{SetSize}
use Rattle.sheet_history.specs.declared.LineAxis.TheVariants.{Rows}
use Rattle.script_runs.proofs.Steps.{edit_keeps, moves_turn, step_runs}
use Rattle.script_runs.proofs.session.Session.height.Goals as goal

pub returns : goal.returns
returns c = λ state stands.
    let first_fits : SFits w32 c.args.named.first = search rules in
    let last_fits : SFits w32 c.args.named.last = search rules in
    let size_fits : SFits w32 c.args.named.size = search rules in
    let edit = SetSize c.args.named.sheet Rows c.args.named.first c.args.named.last c.args.named.size in
    step_runs c.push_outcome.result c.set_rows_height-done.result c.args.self.now _ state _ (edit_keeps edit state) stands
    (moves_turn _ _ _ (simp to_z-of_z at (c.set_rows_height-done.ensures.next state stands.model)))
    c.set_rows_height-done.ensures.err refl c.push_outcome.ensures.text c.push_outcome.ensures.memory c.push_outcome.ensures.only
