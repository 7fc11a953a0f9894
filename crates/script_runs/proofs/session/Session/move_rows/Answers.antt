use Rattle.std.proofs.Common.{refl, rules, w32, SFits}
use Rattle.std.proofs.lemmas.Int.{to_z-of_z}
use Rattle.edit_plans.specs.Edits.Edit.{MoveLines}
use Rattle.sheet_history.specs.declared.LineAxis.TheVariants.{Rows}
use Rattle.script_runs.proofs.Steps.{edit_keeps, moves_turn, step_runs}
use Rattle.script_runs.proofs.session.Session.move_rows.Goals as goal

pub returns : goal.returns
returns c = λ state stands.
    let first_fits : SFits w32 c.args.moved.first = search rules in
    let count_fits : SFits w32 c.args.moved.count = search rules in
    let delta_fits : SFits w32 c.args.moved.delta = search rules in
    let edit = MoveLines c.args.moved.sheet Rows c.args.moved.first c.args.moved.count c.args.moved.delta in
    step_runs c.push_outcome.result c.move_rows_action-done.result c.args.self.now _ state _ (edit_keeps edit state) stands
    (moves_turn _ _ _ (simp to_z-of_z at (c.move_rows_action-done.ensures.next state stands.model)))
    c.move_rows_action-done.ensures.err refl c.push_outcome.ensures.text c.push_outcome.ensures.memory c.push_outcome.ensures.only
