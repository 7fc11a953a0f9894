use Rattle.std.proofs.Common.{w32, SFits, sym}
use Rattle.std.proofs.lemmas.Int.{to_z-of_z}
use Rattle.std.proofs.lemmas.Result.{err_from_is_err_and}
use Rattle.edit_plans.specs.laws.PlanLaws.{place_again}
use Rattle.edit_plans.specs.laws.LinkLaws.{link_no_sheet, link_refused, link_planned}
use Rattle.edit_plans.proofs.link.plan_link.Goals as goal

pub returns-in_err-found : goal.returns-in_err-found
returns-in_err-found c =
    let p = err_from_is_err_and c.from_residual.result c.from_residual.ensures.1 in
    let refused = link_no_sheet c.args.workbook.now c.args.sheet c.args.row c.args.column c.args.link
    c.in_err-found.field-0.0 (sym c.in_err-found.ensures) in
    rw (p.1, p.2) (record { planned = refused })

pub returns-in_err-place : goal.returns-in_err-place
returns-in_err-place c =
    let row_fits : SFits w32 c.args.row = c.ranges.row in
    let column_fits : SFits w32 c.args.column = c.ranges.column in
    let p = err_from_is_err_and c.from_residual-in_err-place.result c.from_residual-in_err-place.ensures.1 in
    let refused = simp to_z-of_z at c.in_err-place.ensures.place in
    let planned = link_refused c.args.workbook.now c.args.sheet c.args.row c.args.column c.args.link
    c.in_ok-found.found.now c.in_err-place.field-0.0 (sym (c.in_ok-found.ensures {u = _})) (sym refused) in
    rw (p.1, p.2) (record { planned = planned })

pub link_list-requires : goal.link_list-requires
link_list-requires c =
    let row_fits : SFits w32 c.args.row = c.ranges.row in
    let column_fits : SFits w32 c.args.column = c.ranges.column in
    let goes = simp to_z-of_z at (c.in_ok-place.ensures {u = _}).place in
    place_again c.args.row c.args.column c.in_ok-place.place (sym goes)

pub returns : goal.returns
returns c =
    let row_fits : SFits w32 c.args.row = c.ranges.row in
    let column_fits : SFits w32 c.args.column = c.ranges.column in
    let goes = simp to_z-of_z at (c.in_ok-place.ensures {u = _}).place in
    record {
      planned = link_planned c.args.workbook.now c.args.sheet c.args.row c.args.column c.args.link c.requires.rules c.in_ok-found.found.now c.in_ok-place.place
          (sym (c.in_ok-found.ensures {u = _})) (sym goes) c.link_list.result c.link_list.ensures.output c.link_list.ensures.canonical c.link_list.ensures.only;
    }
