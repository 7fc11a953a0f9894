use Rattle.std.proofs.Common.{refl, rules, w32, SFits}
use Rattle.std.proofs.lemmas.Int.{to_z-of_z}
use Rattle.edit_plans.specs.Edits.Edit.{SetField}
use Rattle.sheet_history.specs.declared.SheetField.TheVariants.{FrozenColumns}
use Rattle.script_runs.proofs.Steps.{edit_keeps, moves_turn, step_runs}
use Rattle.script_runs.proofs.session.Session.freeze_columns.Goals as goal

pub returns : goal.returns
returns c = λ state stands.
    let count_fits : SFits w32 c.args.named.count = search rules in
    let edit = SetField c.args.named.sheet (FrozenColumns c.args.named.count) in
    step_runs c.push_outcome.result c.set_frozen_columns_count-done.result c.args.self.now _ state _ (edit_keeps edit state) stands
    (moves_turn _ _ _ (simp to_z-of_z at (c.set_frozen_columns_count-done.ensures.next state stands.model)))
    c.set_frozen_columns_count-done.ensures.err refl c.push_outcome.ensures.text c.push_outcome.ensures.memory c.push_outcome.ensures.only
