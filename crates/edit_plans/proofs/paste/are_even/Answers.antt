use Rattle.std.proofs.Common.{◌≡◌, Vec, Global, List, false, length, arith}
use Rattle.std.specs.Prelude.{◌==◌}
use Rattle.base_styles.specs.declared.Style.{Style}
use Rattle.edit_plans.proofs.Pasting.{all_passed, one_failed}
use Rattle.edit_plans.proofs.paste.are_even.Goals as goal

pub returns-then-len-width : goal.returns-then-len-width
returns-then-len-width c =
    let failed : (length c.row-item.result.items == c.args.width) ≡ false = grind (arith, c.len.ensures, c.if-len-width.true) in
    one_failed (λ (row : List Style). length row == c.args.width) (λ (row : Vec Style Global). row.items) c.args.styles.now
    c.loop-row.row-index c.row-item.result c.row-item.is (omega arith) failed

pub returns : goal.returns
returns c =
    all_passed (λ (row : List Style). length row == c.args.width) (λ (row : Vec Style Global). row.items) c.args.styles.now
    c.loop-row.row-index (omega arith) c.loop-row.invariant
