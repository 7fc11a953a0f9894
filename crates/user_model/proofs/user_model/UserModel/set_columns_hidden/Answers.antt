use Rattle.sheet_history.specs.declared.LineAxis.TheVariants.{Columns}
use Rattle.edit_plans.specs.Edits.Edit.{SetHidden}
use Rattle.user_model.proofs.Named.{as_named}
use Rattle.user_model.proofs.user_model.UserModel.set_columns_hidden.Goals as goal

pub returns-clause-next : goal.returns-clause-next
returns-clause-next g c =
    as_named c.set_hidden.result c.args.self.now.document c.set_hidden.new.self.document (λ first last. SetHidden c.args.sheet Columns first last c.args.hidden)
    c.args.first c.args.last c.ranges.first c.ranges.last c.set_hidden.ensures.next
