use Rattle.std.proofs.Common.{pos, ◌<ℤ◌, subst}
use Rattle.edit_plans.specs.RangeEdits.{greater}
use Rattle.edit_plans.proofs.Pasting.{counted_lines}
use Rattle.edit_plans.proofs.paste.grown_count.Goals as goal

pub returns-clause-far : goal.returns-clause-far
returns-clause-far c = λ none.
    subst (λ n. pos 1048576 <ℤ greater n (pos c.args.count))
    (counted_lines c.args.first c.args.last c.from-2.result c.from.result c.ranges.first c.ranges.last c.from-2.ensures c.from.ensures)
    (c.greater_count.ensures.far none)
