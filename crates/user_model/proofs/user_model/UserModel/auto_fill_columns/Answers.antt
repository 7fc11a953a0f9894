use Rattle.std.proofs.Common.{ℤ, subst, w32, SFits}
use Rattle.std.proofs.lemmas.Int.{to_z-of_z}
use Rattle.sheet_history.specs.declared.LineAxis.TheVariants.{Columns}
use Rattle.user_model.specs.Reading.{rectangle_of}
use Rattle.open_book.specs.Stands.{Steps}
use Rattle.user_model.specs.Typing.{fill_asked}
use Rattle.user_model.proofs.user_model.UserModel.auto_fill_columns.Goals as goal

pub returns-clause-next : goal.returns-clause-next
returns-clause-next g c =
    let fits : SFits w32 c.args.to_column = c.ranges.to_column in
    subst (λ (to : ℤ). Steps c.auto_fill.result c.args.self.now.document c.auto_fill.new.self.document (fill_asked c.args.area.now.sheet Columns (rectangle_of c.args.area.now) to)) (to_z-of_z w32 c.args.to_column fits)
    c.auto_fill.ensures.next
