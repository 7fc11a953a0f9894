use Rattle.std.proofs.Common.{rules, ◌≡◌, ap, sym, subst, ◌∙◌, to_z, of_z, w32}
use Rattle.base_values.specs.Places.{IsPlace}
use Rattle.sheet_fill.specs.FillRanges.{target_line, target_place}
use Rattle.sheet_fill.specs.laws.LineCounts.{counted_inside}
use Rattle.sheet_fill.proofs.range.target_place.Goals as goal

pub returns-clause-place : goal.returns-clause-place
returns-clause-place g c =
    let line : to_z w32 (of_z w32 c.line_of.result) ≡ target_line g.A.Axis.along c.args.range c.args.index = search rules in
    c.with_line.ensures ∙ ap (g.A.Axis.along.with_line c.args.at) line

pub returns-clause-inside : goal.returns-clause-inside
returns-clause-inside g c =
    let line : to_z w32 (of_z w32 c.line_of.result) ≡ target_line g.A.Axis.along c.args.range c.args.index = search rules in
    let place : c.with_line.result ≡ target_place g.A.Axis.along c.args.range c.args.at c.args.index = c.with_line.ensures ∙ ap (g.A.Axis.along.with_line c.args.at) line in
    subst IsPlace (sym place) (g.met.A.Axis.lawful.put_inside c.args.at (target_line g.A.Axis.along c.args.range c.args.index) c.requires.place
    (counted_inside g.A.Axis.along g.met.A.Axis.lawful c.args.range.target c.requires.range.target c.args.range.is_behind c.args.index c.requires.index))
