use Rattle.std.proofs.Common.{◌≡◌, false, sym, rules}
use Rattle.base_axis.specs.Rectangles.{first_line, is_between, last_line}
use Rattle.range_styles.specs.laws.RangeLaws.{outside_accepts}
use Rattle.range_styles.proofs.accept.accepts_own_line.Goals as goal

pub returns-else-has_line : goal.returns-else-has_line
returns-else-has_line g c =
    let a = g.A.Axis.along in
    let outside : is_between (first_line a c.args.range.area) (last_line a c.args.range.area) c.args.line ≡ false = search rules in
    sym (outside_accepts c.args.range (g.C.StyleChange.takes c.args.change.now) c.args.sheet.now a g.met.A.Axis.lawful c.args.line outside)
