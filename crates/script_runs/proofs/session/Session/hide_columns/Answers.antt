use Rattle.std.proofs.Common.{refl, rules, w32, SFits, true}
use Rattle.std.proofs.lemmas.Int.{to_z-of_z}
use Rattle.edit_plans.specs.Edits.Edit.{SetHidden}
use Rattle.sheet_history.specs.declared.LineAxis.TheVariants.{Columns}
use Rattle.script_runs.proofs.Steps.{edit_keeps, moves_turn, step_runs}
use Rattle.script_runs.proofs.session.Session.hide_columns.Goals as goal

pub returns : goal.returns
returns c = λ state stands.
    let first_fits : SFits w32 c.args.span.first = search rules in
    let last_fits : SFits w32 c.args.span.last = search rules in
    let edit = SetHidden c.args.span.sheet Columns c.args.span.first c.args.span.last true in
    step_runs c.push_outcome.result c.set_columns_hidden-done.result c.args.self.now _ state _ (edit_keeps edit state) stands
    (moves_turn _ _ _ (simp to_z-of_z at (c.set_columns_hidden-done.ensures.next state stands.model)))
    c.set_columns_hidden-done.ensures.err refl c.push_outcome.ensures.text c.push_outcome.ensures.memory c.push_outcome.ensures.only
