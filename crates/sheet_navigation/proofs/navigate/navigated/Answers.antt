use Rattle.std.proofs.Common.{◌<◌, sym, ◌∙◌, arith}
use Rattle.sheet_navigation.specs.Walk.{steps_left}
use Rattle.sheet_navigation.proofs.Steps.{reached_start, reached_first, reached_last}
use Rattle.sheet_navigation.proofs.navigate.navigated.Goals as goal

pub returns-then-steps_left-eq0 : goal.returns-then-steps_left-eq0
returns-then-steps_left-eq0 c = reached_start c.args.sheet.now c.args.direction c.args.place c.walk_start-start.result c.walk_start-start.ensures.value (sym c.steps_left.ensures ∙ c.if-steps_left-eq0.true)

pub returns-then-is_beside_nothing : goal.returns-then-is_beside_nothing
returns-then-is_beside_nothing c =
    let more : 0 < steps_left c.args.direction c.walk_start-start.result = omega arith in
    c.first_filled.ensures
    ∙ reached_first c.args.sheet.now c.args.direction c.args.place c.walk_start-start.result c.walk_start-start.ensures.value c.next_place.result c.walk_start-start.ensures.inside more c.next_place.ensures.value
    c.is_beside_nothing.result c.is_beside_nothing.ensures c.if-is_beside_nothing.true

pub returns-else-is_beside_nothing : goal.returns-else-is_beside_nothing
returns-else-is_beside_nothing c =
    let more : 0 < steps_left c.args.direction c.walk_start-start.result = omega arith in
    c.last_filled.ensures
    ∙ reached_last c.args.sheet.now c.args.direction c.args.place c.walk_start-start.result c.walk_start-start.ensures.value c.next_place.result c.walk_start-start.ensures.inside more c.next_place.ensures.value
    c.is_beside_nothing.result c.is_beside_nothing.ensures c.if-is_beside_nothing.false
