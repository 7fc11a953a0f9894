use Rattle.std.proofs.Common.{w32, SFits}
use Rattle.std.proofs.lemmas.Int.{to_z-of_z}
use Rattle.user_model.proofs.user_model.UserModel.delete_cell_link.Goals as goal

pub returns-clause-next : goal.returns-clause-next
returns-clause-next g c = λ state stands.
    let row_fits : SFits w32 c.args.row = c.ranges.row in
    let column_fits : SFits w32 c.args.column = c.ranges.column in
    simp to_z-of_z at (c.put_link.ensures.next state stands)
