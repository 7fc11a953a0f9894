use Rattle.std.proofs.Common.{◌<◌, sym, ◌∙◌, arith}
use Rattle.sheet_navigation.specs.Navigated.{shows_nothing}
use Rattle.sheet_navigation.specs.Walk.{steps_left}
use Rattle.sheet_navigation.proofs.Steps.{last_at_edge, nearer, last_found, last_past}
use Rattle.sheet_navigation.proofs.navigate.last_filled.Goals as goal

pub returns-then-shows_nothing : goal.returns-then-shows_nothing
returns-then-shows_nothing c =
    let more : 0 < steps_left c.args.direction c.walk.place = omega arith in
    last_found (shows_nothing c.args.sheet.now) c.args.direction c.walk.place c.next_place-next.result c.walk.invariant.inside more c.next_place-next.ensures.value (sym c.shows_nothing.ensures ∙ c.if-shows_nothing.true) ∙ c.walk.invariant.same

pub walk-smaller : goal.walk-smaller
walk-smaller c =
    let more : 0 < steps_left c.args.direction c.walk.place = omega arith in
    nearer (shows_nothing c.args.sheet.now) c.args.direction c.walk.place c.next_place-next.result c.walk.invariant.inside more c.next_place-next.ensures.value

pub walk-preserved : goal.walk-preserved
walk-preserved c =
    let more : 0 < steps_left c.args.direction c.walk.place = omega arith in
    record {
      inside = c.next_place-next.ensures.inside;
      same = last_past (shows_nothing c.args.sheet.now) c.args.direction c.walk.place c.next_place-next.result c.walk.invariant.inside more c.next_place-next.ensures.value (sym c.shows_nothing.ensures ∙ c.if-shows_nothing.false) ∙ c.walk.invariant.same;
    }

pub returns : goal.returns
returns c = sym (last_at_edge (shows_nothing c.args.sheet.now) c.args.direction c.walk.place (omega arith)) ∙ c.walk.invariant.same
