use Rattle.std.proofs.Common.{◌≡◌, ℤ, Option, sym, subst, arith}
use Rattle.std.specs.Prelude.{IfSome}
use Rattle.std.proofs.lemmas.Int.{ints}
use Rattle.line_edits.specs.Merged.{AreLines, merged_by}
use Rattle.line_edits.specs.laws.MergedLaws.{merged_inside, same_merge}
use Rattle.line_edits.proofs.edit.LineEditLineMap.merged.Goals as goal

pub returns-clause-inside : goal.returns-clause-inside
returns-clause-inside g c =
    let last : ℤ = g.A.Axis.along.last in
    let Inside : Option (ℤ × ℤ) → Type 0 = λ o. IfSome {T = ℤ × ℤ} o (λ lines. AreLines last lines.0 lines.1) in
    let value : c.merged.result ≡ merged_by last c.args.self.now.kind c.args.first c.args.last c.args.across =
    same_merge _ _ _ _ _ _ _ _ _ _ c.merged.ensures (omega (arith, ints, g.met.A.Axis.last_is)) (omega (arith, ints)) (omega (arith, ints)) (omega (arith, ints)) in
    subst Inside (sym value) (merged_inside last c.args.self.now.kind c.requires.valid c.args.first c.args.last c.args.across c.requires.lines)
