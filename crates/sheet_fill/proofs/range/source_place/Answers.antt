use Rattle.std.proofs.Common.{rules, ◌≡◌, ◌%◌, ap, sym, subst, ◌∙◌, to_z, of_z, w32}
use Rattle.std.proofs.Math.Nat.{mod-lt}
use Rattle.base_values.specs.Places.{IsPlace}
use Rattle.base_axis.specs.Rectangles.{first_line, last_line}
use Rattle.sheet_fill.specs.FillRanges.{counted_line, lines, source_line}
use Rattle.sheet_fill.specs.laws.LineCounts.{counted_inside, lines_some}
use Rattle.sheet_fill.proofs.NamedPlaces.{place_named}
use Rattle.sheet_fill.proofs.range.source_place.Goals as goal

pub returns-clause-place : goal.returns-clause-place
returns-clause-place g c =
    let a = g.A.Axis.along in
    let f = c.args.range in
    let line : to_z w32 (of_z w32 c.line_of.result) ≡ counted_line f.is_behind (first_line a f.source) (last_line a f.source) (c.args.index % c.lines.result) = search rules in
    c.with_line.ensures
    ∙ ap (a.with_line c.args.at) (line ∙ ap (λ n. counted_line f.is_behind (first_line a f.source) (last_line a f.source) (c.args.index % n)) c.lines.ensures.count)

pub returns-clause-inside : goal.returns-clause-inside
returns-clause-inside g c =
    let a = g.A.Axis.along in
    let f = c.args.range in
    subst IsPlace (sym (returns-clause-place g c))
    (g.met.A.Axis.lawful.put_inside c.args.at (source_line a f c.args.index) c.requires.place
    (counted_inside a g.met.A.Axis.lawful f.source c.requires.range.source f.is_behind (c.args.index % lines a f.source)
    (mod-lt c.args.index (lines_some a g.met.A.Axis.lawful f.source c.requires.range.source))))

pub returns-clause-named : goal.returns-clause-named
returns-clause-named g c = place_named c.with_line.result (returns-clause-inside g c)
