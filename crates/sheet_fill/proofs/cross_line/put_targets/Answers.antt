use Rattle.std.proofs.Common.{◌≡◌, ℕ, suc, ◌+◌, ◌≤◌, Bool, true, false, ap, sym, ◌∙◌, arith}
use Rattle.std.specs.Prelude.{if◌then◌else◌}
use Rattle.planned_maps.specs.laws.PlanWalks.{put_one}
use Rattle.sheet_fill.specs.FillRanges.{target_place}
use Rattle.sheet_fill.specs.laws.FillWalks.{targets_put}
use Rattle.sheet_fill.specs.Targets.{open_count, place_filled, place_linked}
use Rattle.sheet_fill.proofs.cross_line.put_targets.Goals as goal

few_more : (b : Bool) (n k m : ℕ) → m ≡ n + (if b then 0 else 1) → n ≤ k → m ≤ k + 1
few_more true n k m is few = omega arith
few_more false n k m is few = omega arith

pub loop-index-preserved : goal.loop-index-preserved
loop-index-preserved g c =
    let fill = c.args.fill.now in
    let a = g.A.Axis.along in
    let more : c.loop-index.index + 1 ≡ suc c.loop-index.index = omega arith in
    let output = place_filled a fill.range fill.locale fill.language fill.sheet.now in
    let linked = place_linked a fill.range fill.sheet.now in
    let here = target_place a fill.range c.args.at c.loop-index.index in
    record {
      cells = c.in_ok-put_target.ensures.cells ∙ (λ i. put_one output (c.loop-index.invariant.cells i) here) ∙ sym (ap (targets_put output a fill.range c.args.cells.now c.args.at) more);
      links = c.in_ok-put_target.ensures.links ∙ (λ i. put_one linked (c.loop-index.invariant.links i) here) ∙ sym (ap (targets_put linked a fill.range c.args.links.now c.args.at) more);
      counted = c.counted-number.ensures ∙ (λ i. c.loop-index.invariant.counted i + (if c.repeats_covered-is_covered.ensures i then 0 else 1))
          ∙ sym (ap (open_count a fill.range fill.sheet.now c.args.at) more);
      few = few_more c.repeats_covered-is_covered.result c.loop-index.number c.loop-index.index c.counted-number.result c.counted-number.ensures c.loop-index.invariant.few;
      canonical = c.in_ok-put_target.ensures.canonical;
    }
