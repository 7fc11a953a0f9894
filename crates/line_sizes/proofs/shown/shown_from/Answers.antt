use Rattle.std.proofs.Common.{◌≡◌, ◌<◌, ◌∙◌, pos, ◌+ℤ◌, true, false, Some, ap, sym, rules, SFits, to_z, of_z, w32}
use Rattle.std.specs.FinMap.{get}
use Rattle.std.proofs.lemmas.Int.{to_z-of_z}
use Rattle.sheet_grid.specs.Lines.{is_hidden}
use Rattle.line_sizes.specs.ShownLines.{shown_from}
use Rattle.line_sizes.proofs.Walks.{from_found, from_passed}
use Rattle.line_sizes.proofs.shown.shown_from.Goals as goal

pub returns-then-not-is_hidden : goal.returns-then-not-is_hidden
returns-then-not-is_hidden g c =
    let more : c.loop-index.index < c.args.count = search rules in
    let fits : SFits w32 c.line_at-line.result = search rules in
    let line : to_z w32 (of_z w32 c.line_at-line.result) ≡ to_z w32 (of_z w32 c.args.first) +ℤ pos c.loop-index.index = to_z-of_z w32 c.line_at-line.result fits ∙ c.line_at-line.ensures in
    let told : is_hidden (get c.args.lines.now (to_z w32 (of_z w32 c.line_at-line.result))) ≡ false = search rules in
    ap Some line
    ∙ sym (from_found c.args.lines.now (to_z w32 (of_z w32 c.args.first)) c.args.count c.loop-index.index more (ap (λ z. is_hidden (get c.args.lines.now z)) (sym line) ∙ told))
    ∙ sym c.loop-index.invariant
    ∙ ap (λ z. shown_from c.args.lines.now z c.args.count) (to_z-of_z w32 c.args.first c.ranges.first)

pub loop-index-preserved : goal.loop-index-preserved
loop-index-preserved g c =
    let more : c.loop-index.index < c.args.count = search rules in
    let fits : SFits w32 c.line_at-line.result = search rules in
    let line : to_z w32 (of_z w32 c.line_at-line.result) ≡ to_z w32 (of_z w32 c.args.first) +ℤ pos c.loop-index.index = to_z-of_z w32 c.line_at-line.result fits ∙ c.line_at-line.ensures in
    let told : is_hidden (get c.args.lines.now (to_z w32 (of_z w32 c.line_at-line.result))) ≡ true = search rules in
    c.loop-index.invariant
    ∙ from_passed c.args.lines.now (to_z w32 (of_z w32 c.args.first)) c.args.count c.loop-index.index more (ap (λ z. is_hidden (get c.args.lines.now z)) (sym line) ∙ told)
