use Rattle.std.proofs.Common.{◌≡◌, ◌<◌, ◌∙◌, pos, ◌-ℤ◌, true, false, Some, ap, sym, rules, SFits, to_z, of_z, w32}
use Rattle.std.specs.FinMap.{get}
use Rattle.std.proofs.lemmas.Int.{to_z-of_z}
use Rattle.sheet_grid.specs.Lines.{is_hidden}
use Rattle.line_sizes.specs.ShownLines.{shown_before}
use Rattle.line_sizes.proofs.Walks.{before_found, before_passed}
use Rattle.line_sizes.proofs.shown.shown_before.Goals as goal

pub returns-then-not-is_hidden : goal.returns-then-not-is_hidden
returns-then-not-is_hidden g c =
    let more : c.loop-index.index < c.args.count = search rules in
    let fits : SFits w32 c.line_before-before.result = search rules in
    let line : to_z w32 (of_z w32 c.line_before-before.result) ≡ to_z w32 (of_z w32 c.args.line) -ℤ pos c.loop-index.index = to_z-of_z w32 c.line_before-before.result fits ∙ c.line_before-before.ensures in
    let told : is_hidden (get c.args.lines.now (to_z w32 (of_z w32 c.line_before-before.result))) ≡ false = search rules in
    ap Some line
    ∙ sym (before_found c.args.lines.now (to_z w32 (of_z w32 c.args.line)) c.args.count c.loop-index.index more (ap (λ z. is_hidden (get c.args.lines.now z)) (sym line) ∙ told))
    ∙ sym c.loop-index.invariant
    ∙ ap (λ z. shown_before c.args.lines.now z c.args.count) (to_z-of_z w32 c.args.line c.ranges.line)

pub loop-index-preserved : goal.loop-index-preserved
loop-index-preserved g c =
    let more : c.loop-index.index < c.args.count = search rules in
    let fits : SFits w32 c.line_before-before.result = search rules in
    let line : to_z w32 (of_z w32 c.line_before-before.result) ≡ to_z w32 (of_z w32 c.args.line) -ℤ pos c.loop-index.index = to_z-of_z w32 c.line_before-before.result fits ∙ c.line_before-before.ensures in
    let told : is_hidden (get c.args.lines.now (to_z w32 (of_z w32 c.line_before-before.result))) ≡ true = search rules in
    c.loop-index.invariant
    ∙ before_passed c.args.lines.now (to_z w32 (of_z w32 c.args.line)) c.args.count c.loop-index.index more (ap (λ z. is_hidden (get c.args.lines.now z)) (sym line) ∙ told)
