use Rattle.edit_plans.specs.HiddenLines.{hidden_between, grown}
use Rattle.edit_plans.proofs.Widened.{grown_on, grown_back}
use Rattle.edit_plans.proofs.hidden.grown_delta.Goals as goal

pub returns-then-delta-gt0 : goal.returns-then-delta-gt0
unfolding grown
returns-then-delta-gt0 g c =
    grown_on (hidden_between g.A.Axis.along c.args.sheet.now) c.args.first c.args.count c.args.delta c.from-first.result c.from-delta.result c.ranges.first c.ranges.delta
    c.from-first.ensures c.from-delta.ensures c.from.result c.hidden_between.result c.ranges.count c.from.ensures c.hidden_between.ensures.counted c.hidden_between.ensures.few c.if-delta-gt0.true

pub returns-else-delta-gt0 : goal.returns-else-delta-gt0
unfolding grown
returns-else-delta-gt0 g c =
    grown_back (hidden_between g.A.Axis.along c.args.sheet.now) c.args.first c.args.count c.args.delta c.from-first.result c.from-delta.result c.ranges.first c.ranges.delta
    c.from-first.ensures c.from-delta.ensures c.hidden_between-else-delta-gt0.result c.hidden_between-else-delta-gt0.ensures.counted c.hidden_between-else-delta-gt0.ensures.few c.if-delta-gt0.false
