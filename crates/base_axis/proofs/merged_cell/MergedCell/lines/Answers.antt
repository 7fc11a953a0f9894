use Rattle.std.proofs.Common.{◌≡◌, ℤ, pos, ◌+ℤ◌, ◌-ℤ◌, ◌≤ℤ◌, arith, w32, SFits, to_z, of_z}
use Rattle.std.proofs.lemmas.Int.{ints}
use Rattle.base_axis.specs.Rectangles.{last_of}
use Rattle.base_axis.specs.laws.RectangleLaws.{first_inside, last_inside, lines_in_order}
use Rattle.base_axis.proofs.merged_cell.MergedCell.lines.Goals as goal

fits : (last first count begins lines : ℤ) → last ≤ℤ pos 1048576 → pos 1 ≤ℤ begins → begins ≤ℤ last_of begins lines → last_of begins lines ≤ℤ last → first ≡ begins → count ≡ lines
    → SFits w32 (to_z w32 (of_z w32 first) +ℤ to_z w32 (of_z w32 (to_z w32 (of_z w32 count) -ℤ pos 1)))
fits last first count begins lines high low order ends e f = omega (arith, ints)

is : (last first count begins lines : ℤ) → last ≤ℤ pos 1048576 → pos 1 ≤ℤ begins → begins ≤ℤ last_of begins lines → last_of begins lines ≤ℤ last → first ≡ begins → count ≡ lines
    → to_z w32 (of_z w32 (to_z w32 (of_z w32 first) +ℤ to_z w32 (of_z w32 (to_z w32 (of_z w32 count) -ℤ pos 1)))) ≡ last_of begins lines
is last first count begins lines high low order ends e f = omega (arith, ints)

pub overflow_add-result : goal.overflow_add-result
overflow_add-result g c =
    fits g.A.Axis.along.last c.first_line-first.result c.line_count.result _ _ g.met.A.Axis.lawful.last_high
    (first_inside g.A.Axis.along g.met.A.Axis.lawful c.args.self c.requires).0
    (lines_in_order g.A.Axis.along g.met.A.Axis.lawful c.args.self c.requires)
    (last_inside g.A.Axis.along g.met.A.Axis.lawful c.args.self c.requires).1 c.first_line-first.ensures c.line_count.ensures

pub returns-clause-last : goal.returns-clause-last
returns-clause-last g c =
    is g.A.Axis.along.last c.first_line-first.result c.line_count.result _ _ g.met.A.Axis.lawful.last_high
    (first_inside g.A.Axis.along g.met.A.Axis.lawful c.args.self c.requires).0
    (lines_in_order g.A.Axis.along g.met.A.Axis.lawful c.args.self c.requires)
    (last_inside g.A.Axis.along g.met.A.Axis.lawful c.args.self c.requires).1 c.first_line-first.ensures c.line_count.ensures
