use Rattle.std.proofs.Common.{sym, w32, SFits, rules}
use Rattle.std.proofs.lemmas.Int.{to_z-of_z}
use Rattle.sheet_grid.specs.laws.FittingLaws.{place_is}
use Rattle.user_model.proofs.Inputs.{array_goes_there}
use Rattle.user_model.proofs.reading.find_array_place.Goals as goal

pub returns-clause-found : goal.returns-clause-found
returns-clause-found c =
    let row_fits : SFits w32 c.args.area.row = search rules in
    let column_fits : SFits w32 c.args.area.column = search rules in
    let named = simp to_z-of_z at (c.in_ok-place.ensures {u = _}).place in
    let it = c.in_ok-free_area.ensures {u = _} in
    array_goes_there c.args.sheet c.args.area c.in_ok-free_area.field-0 c.args.workbook.now c.in_ok-found.found.now c.in_ok-place.place (c.in_ok-found.ensures {u = _}) named it.area it.same

pub returns-clause-here : goal.returns-clause-here
returns-clause-here c =
    let row_fits : SFits w32 c.args.area.row = search rules in
    let column_fits : SFits w32 c.args.area.column = search rules in
    let named = simp to_z-of_z at (c.in_ok-place.ensures {u = _}).place in
    sym (place_is c.args.area.row c.args.area.column c.in_ok-place.place (sym named))
