use Rattle.std.proofs.Common.{◌≡◌, ◌+◌, ◌-◌, take, arith, rules}
use Rattle.sheet_history.proofs.DiffLemmas.{back_from-take}
use Rattle.sheet_history.specs.Diffs.{back_from, untested_before}
use Rattle.sheet_history.proofs.apply.taken_back.Goals as goal

pub loop-index-preserved : goal.loop-index-preserved
loop-index-preserved c =
    let turn = back_from-take c.loop-index.next c.as_slice-diffs.result.now (c.loop-index.index - 1) c.index-diffs-index.result (omega arith) c.index-diffs-index.is in
    let place : (c.loop-index.index - 1) + 1 ≡ c.loop-index.index = omega arith in
    let was : back_from 0 c.loop-index.next (take ((c.loop-index.index - 1) + 1) c.as_slice-diffs.result.now) ≡ untested_before c.args.workbook.now c.args.list.now = rw place c.loop-index.invariant.0 in
    search rules

pub returns-in_err-take_back : goal.returns-in_err-take_back
returns-in_err-take_back c =
    let turn = back_from-take c.loop-index.next c.as_slice-diffs.result.now (c.loop-index.index - 1) c.index-diffs-index.result (omega arith) c.index-diffs-index.is in
    let place : (c.loop-index.index - 1) + 1 ≡ c.loop-index.index = omega arith in
    let was : back_from 0 c.loop-index.next (take ((c.loop-index.index - 1) + 1) c.as_slice-diffs.result.now) ≡ untested_before c.args.workbook.now c.args.list.now = rw place c.loop-index.invariant.0 in
    search rules
