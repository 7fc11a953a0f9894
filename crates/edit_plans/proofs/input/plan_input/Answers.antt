use Rattle.std.proofs.Common.{w32, SFits, sym}
use Rattle.std.proofs.lemmas.Int.{to_z-of_z}
use Rattle.std.proofs.lemmas.Result.{err_from_is_err_and}
use Rattle.edit_plans.specs.laws.InputLaws.{input_named, input_no_sheet, input_refused, input_planned}
use Rattle.edit_plans.proofs.input.plan_input.Goals as goal

pub returns-in_err-found : goal.returns-in_err-found
returns-in_err-found c =
    let p = err_from_is_err_and c.from_residual.result c.from_residual.ensures.1 in
    let refused = input_no_sheet c.args.workbook.now c.args.sheet c.args.row c.args.column c.args.content c.args.feeds
    c.in_err-found.field-0.0 (sym c.in_err-found.ensures) in
    rw (p.1, p.2) (record { planned = refused })

pub returns-in_err-place : goal.returns-in_err-place
returns-in_err-place c =
    let row_fits : SFits w32 c.args.row = c.ranges.row in
    let column_fits : SFits w32 c.args.column = c.ranges.column in
    let p = err_from_is_err_and c.from_residual-in_err-place.result c.from_residual-in_err-place.ensures.1 in
    let refused = simp to_z-of_z at c.in_err-place.ensures in
    let planned = input_refused c.args.workbook.now c.args.sheet c.args.row c.args.column c.args.content c.args.feeds
    c.in_ok-found.found.now c.in_err-place.field-0.0 (sym (c.in_ok-found.ensures {u = _})) (sym refused) in
    rw (p.1, p.2) (record { planned = planned })

pub input_list-requires-clause-place : goal.input_list-requires-clause-place
input_list-requires-clause-place c =
    let row_fits : SFits w32 c.args.row = c.ranges.row in
    let column_fits : SFits w32 c.args.column = c.ranges.column in
    let goes = simp to_z-of_z at (c.in_ok-place.ensures {u = _}) in
    input_named c.in_ok-found.found.now c.args.row c.args.column c.in_ok-place.place (sym goes)

pub returns : goal.returns
returns c =
    let row_fits : SFits w32 c.args.row = c.ranges.row in
    let column_fits : SFits w32 c.args.column = c.ranges.column in
    let goes = simp to_z-of_z at (c.in_ok-place.ensures {u = _}) in
    record {
      planned = input_planned c.args.workbook.now c.args.sheet c.args.row c.args.column c.args.content c.args.feeds c.requires.rules c.requires.input
          c.in_ok-found.found.now c.in_ok-place.place (sym (c.in_ok-found.ensures {u = _})) (sym goes)
          c.input_list.result c.input_list.ensures.output c.input_list.ensures.canonical c.input_list.ensures.only;
    }
