use Rattle.std.proofs.Common.{rules, ◌≡◌, ◌+ℤ◌, pos, sym, subst, to_z, of_z, w32}
use Rattle.base_axis.specs.Rectangles.{first_line}
use Rattle.base_values.specs.Places.{IsLine}
use Rattle.planned_maps.proofs.Inside.{line_inside}
use Rattle.planned_maps.proofs.walk.line_in.Goals as goal

pub returns-clause-inside : goal.returns-clause-inside
returns-clause-inside g c =
    let is : to_z w32 (of_z w32 c.line_behind.result) ≡ first_line g.A.Axis.along c.args.area +ℤ pos c.args.index = search rules in
    subst (IsLine g.A.Axis.along.last) (sym is) (line_inside c.args.area c.requires.area c.args.index g.A.Axis.along g.met.A.Axis.lawful c.requires.few)
