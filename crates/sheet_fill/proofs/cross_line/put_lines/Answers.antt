use Rattle.std.proofs.Common.{◌≡◌, ◌+◌, ◌<◌, suc, ap, sym, subst, ◌∙◌, to_z, of_z, w32, rules, arith}
use Rattle.base_values.specs.Places.{IsLine}
use Rattle.base_axis.specs.Rectangles.{first_line, holds}
use Rattle.base_axis.specs.laws.RectangleLaws.{first_inside}
use Rattle.planned_maps.specs.Walks.{count_across, place_across}
use Rattle.sheet_fill.specs.FillRanges.{lines}
use Rattle.sheet_fill.specs.laws.FillWalks.{across_put, targets_put}
use Rattle.sheet_fill.specs.Targets.{place_filled, place_linked}
use Rattle.sheet_fill.specs.laws.LineCounts.{cross_held}
use Rattle.sheet_fill.proofs.cross_line.put_lines.Goals as goal

pub put_line-requires-clause-place : goal.put_line-requires-clause-place
put_line-requires-clause-place g c =
    let a = g.A.Axis.along in
    let target = c.args.fill.now.range.target in
    let first : to_z w32 (of_z w32 c.first_line-first.result) ≡ first_line a target = search rules in
    c.place_across-at.ensures.inside (subst (IsLine a.last) (sym first) (first_inside a g.met.A.Axis.lawful target c.requires.range.target))

pub put_line-requires-clause-held : goal.put_line-requires-clause-held
put_line-requires-clause-held g c =
    let a = g.A.Axis.along in
    let target = c.args.fill.now.range.target in
    let first : to_z w32 (of_z w32 c.first_line-first.result) ≡ first_line a target = search rules in
    let few : c.loop-index.index < count_across a target = search rules in
    ap (holds target) (c.place_across-at.ensures.place ∙ ap (λ line. place_across a target line c.loop-index.index) first)
    ∙ cross_held target c.requires.range.target c.loop-index.index a g.met.A.Axis.lawful few

pub loop-index-preserved : goal.loop-index-preserved
loop-index-preserved g c =
    let a = g.A.Axis.along in
    let fill = c.args.fill.now in
    let target = fill.range.target in
    let more : c.loop-index.index + 1 ≡ suc c.loop-index.index = omega arith in
    let first : to_z w32 (of_z w32 c.first_line-first.result) ≡ first_line a target = search rules in
    let at = c.place_across-at.ensures.place ∙ ap (λ line. place_across a target line c.loop-index.index) first in
    let output = place_filled a fill.range fill.locale fill.language fill.sheet.now in
    let linked = place_linked a fill.range fill.sheet.now in
    record {
      cells = c.in_ok-put_line.ensures.cells ∙ (λ i. targets_put output a fill.range (c.loop-index.invariant.cells i) (at i) (lines a target)) ∙ sym (ap (across_put output a fill.range) more);
      links = c.in_ok-put_line.ensures.links ∙ (λ i. targets_put linked a fill.range (c.loop-index.invariant.links i) (at i) (lines a target)) ∙ sym (ap (across_put linked a fill.range) more);
      canonical = c.in_ok-put_line.ensures.canonical;
    }
