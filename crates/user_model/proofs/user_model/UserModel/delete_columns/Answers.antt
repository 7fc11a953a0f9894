use Rattle.line_edits.specs.declared.EditKind.TheVariants.{Delete}
use Rattle.sheet_history.specs.declared.LineAxis.TheVariants.{Columns}
use Rattle.edit_plans.specs.Edits.Edit.{Lines}
use Rattle.user_model.proofs.Named.{as_named}
use Rattle.user_model.proofs.user_model.UserModel.delete_columns.Goals as goal

pub returns-clause-next : goal.returns-clause-next
returns-clause-next g c =
    as_named c.edit_lines.result c.args.self.now.document c.edit_lines.new.self.document (λ first count. Lines c.args.sheet Columns (Delete first count)) c.args.column c.args.count
    c.ranges.column c.ranges.count c.edit_lines.ensures.next
