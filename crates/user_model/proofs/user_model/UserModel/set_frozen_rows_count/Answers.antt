use Rattle.sheet_history.specs.declared.SheetField.TheVariants.{FrozenRows}
use Rattle.edit_plans.specs.Edits.Edit.{SetField}
use Rattle.user_model.proofs.Named.{as_one}
use Rattle.user_model.proofs.user_model.UserModel.set_frozen_rows_count.Goals as goal

pub returns-clause-next : goal.returns-clause-next
returns-clause-next g c =
    as_one c.put_field.result c.args.self.now.document c.put_field.new.self.document (λ count. SetField c.args.sheet (FrozenRows count))
    c.args.count c.ranges.count c.put_field.ensures.next
