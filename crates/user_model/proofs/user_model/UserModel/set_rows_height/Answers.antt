use Rattle.sheet_history.specs.declared.LineAxis.TheVariants.{Rows}
use Rattle.edit_plans.specs.Edits.Edit.{SetSize}
use Rattle.user_model.proofs.Named.{as_three}
use Rattle.user_model.proofs.user_model.UserModel.set_rows_height.Goals as goal

pub returns-clause-next : goal.returns-clause-next
returns-clause-next g c =
    as_three c.set_size.result c.args.self.now.document c.set_size.new.self.document (λ first last size. SetSize c.args.sheet Rows first last size)
    c.args.first c.args.last c.args.height c.ranges.first c.ranges.last c.ranges.height c.set_size.ensures.next
