use Rattle.std.proofs.Common.{◌≡◌, Vec, Global, List, false, rules, arith}
use Rattle.std.specs.List.{list_all}
use Rattle.base_styles.specs.declared.Style.{Style}
use Rattle.sheet_rules.specs.WellFormed.{has_font}
use Rattle.edit_plans.proofs.Pasting.{all_passed, one_failed}
use Rattle.edit_plans.proofs.paste.all_have_fonts.Goals as goal

pub returns-then-not-have_fonts : goal.returns-then-not-have_fonts
returns-then-not-have_fonts c =
    let failed : list_all has_font c.row-item.result.items ≡ false = search rules in
    one_failed (λ (row : List Style). list_all has_font row) (λ (row : Vec Style Global). row.items) c.args.styles.now
    c.loop-row.row-index c.row-item.result c.row-item.is (omega arith) failed

pub returns : goal.returns
returns c =
    all_passed (λ (row : List Style). list_all has_font row) (λ (row : Vec Style Global). row.items) c.args.styles.now
    c.loop-row.row-index (omega arith) c.loop-row.invariant
