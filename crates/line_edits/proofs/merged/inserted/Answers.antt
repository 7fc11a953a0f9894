use Rattle.std.proofs.Common.{arith}
use Rattle.std.proofs.lemmas.Int.{ints, to_z-of_z}
use Rattle.line_edits.specs.Merged.{merged_by}
use Rattle.line_edits.specs.laws.Images.{insert_parts}
use Rattle.line_edits.proofs.merged.inserted.Goals as goal

pub pushed_on-requires-2-clause-count : goal.pushed_on-requires-2-clause-count
pushed_on-requires-2-clause-count c = omega (arith, ints, (insert_parts c.args.axis_last c.args.start c.args.count c.requires.valid).amount.0)

pub returns : goal.returns
unfolding merged_by
returns c = grind (arith, to_z-of_z)
