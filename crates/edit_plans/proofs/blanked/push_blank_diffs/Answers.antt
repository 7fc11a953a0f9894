use Rattle.std.proofs.Common.{◌≡◌, [], ◌++◌, rules, ap, subst, ◌∙◌}
use Rattle.std.specs.List.{cons_option, filter_map}
use Rattle.std.specs.FinMap.{entries}
use Rattle.sheet_grid.specs.CanonicalCell.{CanonicalCells}
use Rattle.edit_plans.specs.laws.EditRecords.{blank_diff}
use Rattle.edit_plans.proofs.Blanks.{adds_kept, adds_on, adds_all}
use Rattle.edit_plans.proofs.blanked.push_blank_diffs.Goals as goal

pub loop-place-init : goal.loop-place-init
loop-place-init c =
    let all : c.into_iter-place-iterator.result ≡ entries c.args.sheet.now.cells = search rules in
    record { all = all; now = ap (λ es. c.args.list.now ++ filter_map (blank_diff c.args.sheet.now.id c.args.area) es) all; canonical = c.requires }

pub blank_diff-requires : goal.blank_diff-requires
blank_diff-requires c =
    adds_kept c.loop-place.invariant (subst CanonicalCells c.cell_map-cells.ensures.map c.cell_map-cells.ensures.canonical) c.next.new.self
    (c.in-Some.place, c.in-Some.cell) c.in-Some.is c.next.ensures.steps

pub push_diff-requires-clause-list : goal.push_diff-requires-clause-list
push_diff-requires-clause-list c = c.loop-place.invariant.canonical

pub loop-place-preserved : goal.loop-place-preserved
loop-place-preserved c =
    let output = (c.in_ok-diff.ensures {u = _}).output in
    adds_on c.loop-place.invariant (c.in-Some.place, c.in-Some.cell) c.in-Some.is c.next.ensures.steps
    (c.in_ok-push_diff.ensures.output
    ∙ ap (λ d. c.loop-place.list ++ cons_option d [])
    (output ∙ ap (λ id. blank_diff id c.args.area (c.in-Some.place.now, c.in-Some.cell.now)) c.get_sheet_id-id.ensures)) c.in_ok-push_diff.ensures.canonical

pub returns-clause-output : goal.returns-clause-output
returns-clause-output c = adds_all c.loop-place.invariant c.next.new.self c.in-None.is c.next.ensures.steps

pub returns-clause-canonical : goal.returns-clause-canonical
returns-clause-canonical c = c.loop-place.invariant.canonical
