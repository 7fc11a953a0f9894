use Rattle.std.proofs.Common.{sym, w32, SFits}
use Rattle.std.proofs.lemmas.Int.{to_z-of_z}
use Rattle.sheet_grid.specs.laws.FittingLaws.{place_is}
use Rattle.user_model.proofs.Inputs.{if_ok_along}
use Rattle.user_model.proofs.reading.find_input_place.Goals as goal

pub returns-clause-here : goal.returns-clause-here
returns-clause-here c =
    let row_fits : SFits w32 c.args.row = c.ranges.row in
    let column_fits : SFits w32 c.args.column = c.ranges.column in
    let named = simp to_z-of_z at (c.in_ok-place.ensures {u = _}).place in
    if_ok_along c.free_place.result (sym (place_is c.args.row c.args.column c.in_ok-place.place (sym named))) c.free_place.ensures.same
