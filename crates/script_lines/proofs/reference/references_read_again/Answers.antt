use Rattle.script_lines.proofs.Printed.{read_again}
use Rattle.script_lines.proofs.reference.references_read_again.Goals as goal

pub returns : goal.returns
returns c = read_again
