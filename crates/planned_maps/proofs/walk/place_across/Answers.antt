use Rattle.std.proofs.Common.{rules, ◌≡◌, ◌≤ℤ◌, ◌+ℤ◌, pos, sym, subst, to_z, of_z, w32, ℤ}
use Rattle.base_values.specs.Places.{IsPlace}
use Rattle.planned_maps.specs.Walks.{place_across}
use Rattle.planned_maps.proofs.Inside.{cross_inside, place_inside}
use Rattle.planned_maps.proofs.walk.place_across.Goals as goal

pub line_behind-cross-requires-clause-high : goal.line_behind-cross-requires-clause-high
line_behind-cross-requires-clause-high g c =
    let is : to_z w32 (of_z w32 c.count_of.result) ≡ g.A.Axis.along.count_of c.args.area.column c.args.area.row = search rules in
    subst (λ (n : ℤ). (n +ℤ pos c.args.index) ≤ℤ pos 1048576) (sym is)
    (cross_inside c.args.area c.requires.area c.args.index g.A.Axis.along g.met.A.Axis.lawful c.requires.few)

pub returns-clause-inside : goal.returns-clause-inside
returns-clause-inside g c on =
    let is : c.with_line.result ≡ place_across g.A.Axis.along c.args.area c.args.line c.args.index = search rules in
    subst IsPlace (sym is) (place_inside c.args.area c.requires.area c.args.index g.A.Axis.along g.met.A.Axis.lawful c.args.line c.requires.few on)
