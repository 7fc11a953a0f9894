use Rattle.std.proofs.Common.{◌≡◌, ℤ, pos, ◌-ℤ◌, ◌≤ℤ◌, ◌<ℤ◌, false, sym, subst, ◌∙◌, to_z, of_z, w32, arith}
use Rattle.std.proofs.lemmas.Int.{ints, to_z-of_z}
use Rattle.base_values.specs.Places.{IsLine}
use Rattle.base_axis.specs.Rectangles.{IsInside, first_line, with_lines}
use Rattle.base_axis.specs.laws.RectangleLaws.{first_inside, put_lines_inside}
use Rattle.sheet_fill.proofs.range.ahead.Goals as goal

before_is : (first own : ℤ) → first ≡ own → pos 1 ≤ℤ own → own ≤ℤ pos 1048576 → to_z w32 (of_z w32 (to_z w32 (of_z w32 first) -ℤ pos 1)) ≡ own -ℤ pos 1
before_is first own is low high = omega (arith, ints)

before_inside : (end own first to : ℤ) → first ≡ own → IsLine end own → IsLine end to → to <ℤ first → IsLine end (own -ℤ pos 1)
before_inside end own first to is on at before =
    let high = on.1 in
    let low = at.0 in
    (omega (arith, ints), omega (arith, ints))

in_order : (own first to : ℤ) → first ≡ own → to <ℤ first → to ≤ℤ (own -ℤ pos 1)
in_order own first to is before = omega (arith, ints)

far : (end own : ℤ) → IsLine end own → end ≤ℤ pos 1048576 → own ≤ℤ pos 1048576
far end own on most = let high = on.1 in omega (arith, ints)

pub with_lines-requires-clause-last : goal.with_lines-requires-clause-last
with_lines-requires-clause-last g c =
    let a = g.A.Axis.along in
    let own = first_inside a g.met.A.Axis.lawful c.args.source c.requires.inside in
    subst (IsLine a.last) (sym (before_is c.args.first (first_line a c.args.source) c.requires.first own.0 (far a.last _ own g.met.A.Axis.lawful.last_high)))
    (before_inside a.last (first_line a c.args.source) c.args.first c.args.to c.requires.first own c.requires.line c.requires.order)

pub returns-clause-range : goal.returns-clause-range
returns-clause-range g c =
    let a = g.A.Axis.along in
    let own = first_inside a g.met.A.Axis.lawful c.args.source c.requires.inside in
    let before = before_is c.args.first (first_line a c.args.source) c.requires.first own.0 (far a.last _ own g.met.A.Axis.lawful.last_high) in
    λ i. record {
      source = c.args.source;
      target = (c.with_lines.ensures ∙ (λ j. with_lines a c.args.source (to_z-of_z w32 c.args.to c.ranges.to j) (before j))) i;
      is_behind = false;
    }

pub returns-clause-inside : goal.returns-clause-inside
returns-clause-inside g c =
    let a = g.A.Axis.along in
    let own = first_inside a g.met.A.Axis.lawful c.args.source c.requires.inside in
    record {
      source = c.requires.inside;
      target = subst IsInside (sym (λ i. (returns-clause-range g c i).target))
          (put_lines_inside a g.met.A.Axis.lawful c.args.source c.args.to (first_line a c.args.source -ℤ pos 1) c.requires.inside c.requires.line
          (before_inside a.last (first_line a c.args.source) c.args.first c.args.to c.requires.first own c.requires.line c.requires.order)
          (in_order (first_line a c.args.source) c.args.first c.args.to c.requires.first c.requires.order));
    }
