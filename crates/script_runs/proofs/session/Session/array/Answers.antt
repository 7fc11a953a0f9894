use Rattle.std.proofs.Common.{refl, rules, w32, SFits}
use Rattle.std.proofs.lemmas.Int.{to_z-of_z}
use Rattle.edit_plans.specs.Edits.Edit.{ArrayInput}
use Rattle.user_model.specs.Reading.{formula_typed}
use Rattle.script_runs.proofs.Steps.{edit_keeps, moves_turn, step_runs}
use Rattle.script_runs.proofs.session.Session.array.Goals as goal

pub returns : goal.returns
returns c = λ state stands.
    let area = c.args.named.area in
    let row_fits : SFits w32 area.row = search rules in
    let column_fits : SFits w32 area.column = search rules in
    let width_fits : SFits w32 area.width = search rules in
    let height_fits : SFits w32 area.height = search rules in
    let edit = ArrayInput c.args.named.sheet area (formula_typed state.present state.language area.row area.column c.args.text.now) in
    step_runs c.push_outcome.result c.set_user_array_formula-done.result c.args.self.now _ state _ (edit_keeps edit state) stands
    (moves_turn _ _ _ (simp to_z-of_z at (c.set_user_array_formula-done.ensures.next state stands.model)))
    c.set_user_array_formula-done.ensures.err refl c.push_outcome.ensures.text c.push_outcome.ensures.memory c.push_outcome.ensures.only
