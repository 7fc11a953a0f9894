use Rattle.std.proofs.Common.{arith}
use Rattle.std.proofs.lemmas.Int.{to_z-of_z}
use Rattle.line_edits.specs.Merged.{merged_by}
use Rattle.line_edits.proofs.merged.deleted.Goals as goal

pub returns : goal.returns
unfolding merged_by
returns c = grind (arith, to_z-of_z)
