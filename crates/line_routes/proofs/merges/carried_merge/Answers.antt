use Rattle.std.proofs.Common.{◌≡◌, ℤ, Option, Some, ap, ◌∙◌, arith, to_z, of_z, w32}
use Rattle.std.proofs.lemmas.Int.{ints}
use Rattle.base_axis.specs.declared.MergedCell.{MergedCell}
use Rattle.base_axis.specs.Rectangles.{first_line, last_line, across, with_lines}
use Rattle.base_axis.specs.laws.RectangleLaws.{first_inside, last_inside, lines_in_order}
use Rattle.base_maps.specs.Carried.{if_there}
use Rattle.line_routes.specs.RouteModel.{route_model}
use Rattle.line_routes.proofs.merges.carried_merge.Goals as goal

pub merged-requires-clause-lines : goal.merged-requires-clause-lines
merged-requires-clause-lines g c =
    let a = g.A.Axis.along in
    let is = g.met.A.Axis.lawful in
    let first = first_inside a is c.args.merge c.requires in
    let last = last_inside a is c.args.merge c.requires in
    let order = lines_in_order a is c.args.merge c.requires in
    let high = is.last_high in
    let f : c.lines-first.result.0 ≡ first_line a c.args.merge = c.lines-first.ensures.first in
    let e : c.lines-first.result.1 ≡ last_line a c.args.merge = c.lines-first.ensures.last in (
      (omega (arith, ints, first.0, first.1, f), omega (arith, ints, first.0, first.1, f)),
      (omega (arith, ints, last.0, last.1, e), omega (arith, ints, last.0, last.1, e)),
      omega (arith, ints, order),
    )

pub returns : goal.returns
returns g c =
    let a = g.A.Axis.along in
    let w = route_model c.args.route.now in
    let merge = c.args.merge in
    let put : Option (ℤ × ℤ) → Option MergedCell = λ o. if_there o (λ lines. Some (with_lines a merge lines.0 lines.1)) in
    let is = g.met.A.Axis.lawful in
    let high = is.last_high in
    let inside = c.in_ok-first.ensures.inside in
    let first : to_z w32 (of_z w32 c.in_ok-first.first) ≡ c.in_ok-first.first = omega (arith, ints, inside.0.0, inside.0.1) in
    let last : to_z w32 (of_z w32 c.in_ok-first.last) ≡ c.in_ok-first.last = omega (arith, ints, inside.1.0, inside.1.1) in
    let begins = first_inside a is merge c.requires in
    let ends = last_inside a is merge c.requires in
    let from : to_z w32 (of_z w32 c.lines-first.result.0) ≡ first_line a merge = omega (arith, ints, begins.0, begins.1, c.lines-first.ensures.first) in
    let up_to : to_z w32 (of_z w32 c.lines-first.result.1) ≡ last_line a merge = omega (arith, ints, ends.0, ends.1, c.lines-first.ensures.last) in
    let wide : to_z w32 (of_z w32 c.across.result) ≡ across a merge = omega (arith, ints, c.across.ensures, c.across.type_inv) in
    ap Some (c.with_lines.ensures ∙ (λ i. with_lines a merge (first i) (last i)))
    ∙ ap put (c.in_ok-first.ensures.value ∙ (λ i. w.moves.merged (from i) (up_to i) (wide i)))
