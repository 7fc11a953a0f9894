use Rattle.std.proofs.Common.{ℤ, subst, w32, SFits}
use Rattle.std.proofs.lemmas.Int.{to_z-of_z}
use Rattle.sheet_history.specs.declared.LineAxis.TheVariants.{Rows}
use Rattle.user_model.specs.Reading.{rectangle_of}
use Rattle.open_book.specs.Stands.{Steps}
use Rattle.user_model.specs.Typing.{fill_asked}
use Rattle.user_model.proofs.user_model.UserModel.auto_fill_rows.Goals as goal

pub returns-clause-next : goal.returns-clause-next
returns-clause-next g c =
    let fits : SFits w32 c.args.to_row = c.ranges.to_row in
    subst (λ (to : ℤ). Steps c.auto_fill.result c.args.self.now.document c.auto_fill.new.self.document (fill_asked c.args.area.now.sheet Rows (rectangle_of c.args.area.now) to)) (to_z-of_z w32 c.args.to_row fits)
    c.auto_fill.ensures.next
