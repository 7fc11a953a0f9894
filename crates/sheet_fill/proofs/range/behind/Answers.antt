use Rattle.std.proofs.Common.{◌≡◌, ℤ, pos, ◌+ℤ◌, ◌≤ℤ◌, ◌<ℤ◌, true, sym, subst, ◌∙◌, to_z, of_z, w32, arith}
use Rattle.std.proofs.lemmas.Int.{ints, to_z-of_z}
use Rattle.base_values.specs.Places.{IsLine}
use Rattle.base_axis.specs.Rectangles.{IsInside, last_line, with_lines}
use Rattle.base_axis.specs.laws.RectangleLaws.{last_inside, put_lines_inside}
use Rattle.sheet_fill.proofs.range.behind.Goals as goal

next_is : (last own : ℤ) → last ≡ own → pos 1 ≤ℤ own → own ≤ℤ pos 1048576 → to_z w32 (of_z w32 (to_z w32 (of_z w32 last) +ℤ pos 1)) ≡ own +ℤ pos 1
next_is last own is low high = omega (arith, ints)

next_inside : (end own last to : ℤ) → last ≡ own → IsLine end own → IsLine end to → last <ℤ to → IsLine end (own +ℤ pos 1)
next_inside end own last to is on at before =
    let low = on.0 in
    let high = at.1 in
    (omega (arith, ints), omega (arith, ints))

in_order : (own last to : ℤ) → last ≡ own → last <ℤ to → (own +ℤ pos 1) ≤ℤ to
in_order own last to is before = omega (arith, ints)

far : (end own : ℤ) → IsLine end own → end ≤ℤ pos 1048576 → own ≤ℤ pos 1048576
far end own on most = let high = on.1 in omega (arith, ints)

pub with_lines-requires-clause-first : goal.with_lines-requires-clause-first
with_lines-requires-clause-first g c =
    let a = g.A.Axis.along in
    let own = last_inside a g.met.A.Axis.lawful c.args.source c.requires.inside in
    subst (IsLine a.last) (sym (next_is c.args.last (last_line a c.args.source) c.requires.last own.0 (far a.last _ own g.met.A.Axis.lawful.last_high)))
    (next_inside a.last (last_line a c.args.source) c.args.last c.args.to c.requires.last own c.requires.line c.requires.order)

pub returns-clause-range : goal.returns-clause-range
returns-clause-range g c =
    let a = g.A.Axis.along in
    let own = last_inside a g.met.A.Axis.lawful c.args.source c.requires.inside in
    let next = next_is c.args.last (last_line a c.args.source) c.requires.last own.0 (far a.last _ own g.met.A.Axis.lawful.last_high) in
    λ i. record {
      source = c.args.source;
      target = (c.with_lines.ensures ∙ (λ j. with_lines a c.args.source (next j) (to_z-of_z w32 c.args.to c.ranges.to j))) i;
      is_behind = true;
    }

pub returns-clause-inside : goal.returns-clause-inside
returns-clause-inside g c =
    let a = g.A.Axis.along in
    let own = last_inside a g.met.A.Axis.lawful c.args.source c.requires.inside in
    record {
      source = c.requires.inside;
      target = subst IsInside (sym (λ i. (returns-clause-range g c i).target))
          (put_lines_inside a g.met.A.Axis.lawful c.args.source (last_line a c.args.source +ℤ pos 1) c.args.to c.requires.inside
          (next_inside a.last (last_line a c.args.source) c.args.last c.args.to c.requires.last own c.requires.line c.requires.order) c.requires.line
          (in_order (last_line a c.args.source) c.args.last c.args.to c.requires.last c.requires.order));
    }
