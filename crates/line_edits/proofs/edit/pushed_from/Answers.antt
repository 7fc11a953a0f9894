use Rattle.std.proofs.Common.{sym, ◌∙◌, arith}
use Rattle.std.proofs.lemmas.Int.{ints}
use Rattle.line_edits.specs.laws.FirstImages.{pushed_late}
use Rattle.line_edits.proofs.edit.pushed_from.Goals as goal

pub returns-then-first-pushed : goal.returns-then-first-pushed
returns-then-first-pushed c = omega (arith, ints) ∙ sym (pushed_late c.args.last c.args.first c.args.count (omega (arith, ints)))
