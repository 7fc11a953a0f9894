use Rattle.std.proofs.Common.{arith}
use Rattle.std.proofs.lemmas.Int.{to_z-of_z}
use Rattle.line_edits.specs.Edit.{goes_to}
use Rattle.line_edits.proofs.edit.deleted.Goals as goal

pub returns-clause-value : goal.returns-clause-value
unfolding goes_to
returns-clause-value c = grind (arith, to_z-of_z)
