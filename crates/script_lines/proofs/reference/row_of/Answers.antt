use Rattle.std.proofs.Common.{◌∙◌, arith}
use Rattle.script_lines.proofs.ReferenceBounds.{row_is, read_row-lt}
use Rattle.script_lines.proofs.reference.row_of.Goals as goal

pub returns-clause-value : goal.returns-clause-value
returns-clause-value c = c.read_u32.ensures ∙ row_is c.args.digits.now (omega arith)

pub returns-clause-small : goal.returns-clause-small
returns-clause-small c = rw (returns-clause-value c) (read_row-lt c.args.digits.now)
