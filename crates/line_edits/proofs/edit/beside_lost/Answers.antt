use Rattle.std.proofs.Common.{Some, ap, sym, ◌∙◌, arith}
use Rattle.std.proofs.lemmas.Int.{ints}
use Rattle.line_edits.specs.laws.FirstImages.{beside_after, beside_before}
use Rattle.line_edits.proofs.edit.beside_lost.Goals as goal

pub returns-then-high-there : goal.returns-then-high-there
returns-then-high-there c =
    ap Some (omega (arith, ints)) ∙ sym (beside_after c.args.low c.args.high c.args.line c.args.towards (grind (arith, ints)) (grind (arith, ints)))

pub returns-then-there-low : goal.returns-then-there-low
returns-then-there-low c =
    ap Some (omega (arith, ints)) ∙ sym (beside_before c.args.low c.args.high c.args.line c.args.towards (grind (arith, ints)) (grind (arith, ints)) (grind (arith, ints)))
