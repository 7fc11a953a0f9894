use Rattle.std.proofs.Common.{sym, ◌∙◌, arith}
use Rattle.std.proofs.lemmas.Int.{ints}
use Rattle.line_edits.specs.laws.MergedLaws.{fallen_behind}
use Rattle.line_edits.proofs.merged.fallen_to.Goals as goal

pub returns-clause-value : goal.returns-clause-value
returns-clause-value c = omega (arith, ints) ∙ sym (fallen_behind c.args.start c.args.count c.args.there c.args.line (omega (arith, ints)) (omega (arith, ints)))

pub returns-clause-low : goal.returns-clause-low
returns-clause-low c = omega (arith, ints)
