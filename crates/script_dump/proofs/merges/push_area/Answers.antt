use Rattle.std.proofs.Common.{◌≡◌, true, rules, subst, sym}
use Rattle.base_values.specs.Places.{IsPlace}
use Rattle.base_axis.specs.Rectangles.{is_inside}
use Rattle.base_axis.specs.laws.RectangleLaws.{inside_found}
use Rattle.script_dump.proofs.merges.push_area.Goals as goal

pub push_reference-requires : goal.push_reference-requires
push_reference-requires c =
    let passed : is_inside c.args.area ≡ true = search rules in
    subst IsPlace (sym c.anchor_place.ensures) (inside_found c.args.area passed).first

pub last_place-requires : goal.last_place-requires
last_place-requires c =
    let passed : is_inside c.args.area ≡ true = search rules in
    inside_found c.args.area passed

pub push_reference-requires-then-has_many : goal.push_reference-requires-then-has_many
push_reference-requires-then-has_many c =
    let passed : is_inside c.args.area ≡ true = search rules in
    subst IsPlace (sym c.last_place.ensures) (inside_found c.args.area passed).last
