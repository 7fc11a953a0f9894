use Rattle.std.proofs.Common.{◌≡◌, false, sym, rules}
use Rattle.base_axis.specs.Rectangles.{first_line, is_between, last_line}
use Rattle.range_styles.specs.laws.WalkedPlaces.{nothing_put}
use Rattle.range_styles.proofs.walk.put_own_line.Goals as goal

pub returns-else-has_line-clause-put : goal.returns-else-has_line-clause-put
returns-else-has_line-clause-put g c =
    let a = g.A.Axis.along in
    let area = g.E.PlaceEdit.area_of c.args.edit.now in
    let outside : is_between (first_line a area) (last_line a area) c.args.line ≡ false = search rules in
    sym (nothing_put (g.E.PlaceEdit.make c.args.edit.now) area (g.met.E.PlaceEdit.inside c.args.edit.now) a g.met.A.Axis.lawful c.args.line outside
    c.args.planned.now)
