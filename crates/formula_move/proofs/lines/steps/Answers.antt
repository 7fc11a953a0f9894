use Rattle.std.proofs.Common.{◌∙◌, arith}
use Rattle.std.proofs.lemmas.Int.{ints}
use Rattle.formula_move.proofs.Steps.{stepped_moved, stepped_up, stepped_below, stepped_down, stepped_above}
use Rattle.formula_move.proofs.lines.steps.Goals as goal

pub returns-then-from-moved-clause-line : goal.returns-then-from-moved-clause-line
returns-then-from-moved-clause-line c =
    let range = c.ranges.last.sfits in
    let l = c.from-from.ensures in
    let m = c.from-moved.ensures in
    let d = c.from-delta.ensures in
    let test = c.if-from-moved.true in
    c.as_line.ensures.value ∙ stepped_moved c.args.last c.args.moved c.args.delta c.args.line _ _ (omega (arith, ints)) (omega (arith, ints)) (omega (arith, ints))

pub returns-then-from-target-clause-line : goal.returns-then-from-target-clause-line
returns-then-from-target-clause-line c =
    let range = c.ranges.last.sfits in
    let l = c.from-from.ensures in
    let m = c.from-moved.ensures in
    let d = c.from-delta.ensures in
    let after = c.if-moved-from.true in
    let reached = c.if-from-target.true in
    c.as_line-then-from-target.ensures.value ∙ stepped_up c.args.last c.args.moved c.args.delta c.args.line _ _ (omega (arith, ints)) (omega (arith, ints)) (omega (arith, ints)) (omega (arith, ints))

pub returns-then-moved-from-clause-line : goal.returns-then-moved-from-clause-line
returns-then-moved-from-clause-line c =
    let line = c.ranges.line.sfits in
    let l = c.from-from.ensures in
    let m = c.from-moved.ensures in
    let d = c.from-delta.ensures in
    let after = c.if-moved-from.true in
    let past = c.if-from-target.false in
    stepped_below c.args.last c.args.moved c.args.delta c.args.line _ (omega (arith, ints)) (omega (arith, ints)) (omega (arith, ints))

pub returns-then-target-from-clause-line : goal.returns-then-target-from-clause-line
returns-then-target-from-clause-line c =
    let range = c.ranges.last.sfits in
    let l = c.from-from.ensures in
    let m = c.from-moved.ensures in
    let d = c.from-delta.ensures in
    let other = c.if-from-moved.false in
    let not_after = c.if-moved-from.false in
    let reached = c.if-target-from.true in
    c.as_line-then-target-from.ensures.value ∙ stepped_down c.args.last c.args.moved c.args.delta c.args.line _ _ (omega (arith, ints)) (omega (arith, ints)) (omega (arith, ints)) (omega (arith, ints))

pub returns-clause-line : goal.returns-clause-line
returns-clause-line c =
    let line = c.ranges.line.sfits in
    let l = c.from-from.ensures in
    let m = c.from-moved.ensures in
    let d = c.from-delta.ensures in
    let other = c.if-from-moved.false in
    let not_after = c.if-moved-from.false in
    let past = c.if-target-from.false in
    stepped_above c.args.last c.args.moved c.args.delta c.args.line _ (omega (arith, ints)) (omega (arith, ints)) (omega (arith, ints))
