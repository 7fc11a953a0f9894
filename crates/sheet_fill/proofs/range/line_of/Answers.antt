use Rattle.std.proofs.Common.{rules, ◌≡◌, sym, subst, to_z, of_z, w32}
use Rattle.base_values.specs.Places.{IsLine}
use Rattle.base_axis.specs.Rectangles.{first_line, last_line}
use Rattle.sheet_fill.specs.FillRanges.{counted_line}
use Rattle.sheet_fill.specs.laws.LineCounts.{counted_inside}
use Rattle.sheet_fill.proofs.range.line_of.Goals as goal

pub returns-clause-inside : goal.returns-clause-inside
returns-clause-inside g c =
    let is : to_z w32 (of_z w32 c.counted_line.result)
    ≡ counted_line c.args.onwards (first_line g.A.Axis.along c.args.rectangle) (last_line g.A.Axis.along c.args.rectangle) c.args.index = search rules in
    subst (IsLine g.A.Axis.along.last) (sym is) (counted_inside g.A.Axis.along g.met.A.Axis.lawful c.args.rectangle c.requires.inside c.args.onwards c.args.index c.requires.index)
