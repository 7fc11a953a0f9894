use Rattle.cell_input.proofs.Again.{inputs_read_again}
use Rattle.cell_input.proofs.print.contents_read_again.Goals as goal

pub returns : goal.returns
returns c = inputs_read_again
