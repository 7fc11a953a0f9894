use Rattle.std.proofs.Common.{◌≡◌, true, rules}
use Rattle.base_axis.specs.Rectangles.{is_inside}
use Rattle.base_axis.specs.laws.RectangleLaws.{inside_found}
use Rattle.range_styles.proofs.clear.clear_area.Goals as goal

pub returns-clause-inside : goal.returns-clause-inside
returns-clause-inside c =
    let passed : is_inside c.args.area ≡ true = search rules in
    inside_found c.args.area passed
