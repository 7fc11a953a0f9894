use Rattle.std.proofs.Common.{◌∙◌, arith}
use Rattle.std.proofs.lemmas.Int.{ints}
use Rattle.formula_move.proofs.Steps.{shifted_on}
use Rattle.formula_move.proofs.lines.goes_on.Goals as goal

pub returns-else-from-first-2-clause-line : goal.returns-else-from-first-2-clause-line
returns-else-from-first-2-clause-line c =
    let range = c.ranges.last.sfits in
    let l = c.from-from.ensures in
    let f = c.from-first.ensures in
    let d = c.from-delta.ensures in
    let from = c.if-from-first.false in
    let kept = c.if-from-first-2.false in
    c.as_line.ensures.value ∙ shifted_on c.args.last c.args.first c.args.delta c.args.line _ _ (omega (arith, ints)) (omega (arith, ints)) (omega (arith, ints)) (omega (arith, ints))
