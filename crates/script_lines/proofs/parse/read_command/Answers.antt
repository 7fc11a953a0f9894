use Rattle.script_lines.proofs.Words.{no_text, same_found, found_fits}
use Rattle.script_lines.proofs.parse.read_command.Goals as goal

pub returns-in-Ok-clause-value : goal.returns-in-Ok-clause-value
returns-in-Ok-clause-value c = same_found c.args.line.now c.in-Ok.line.now c.read_text.result c.in-Ok.ensures.cases c.read_text.ensures.value

pub returns-in-Err-clause-value : goal.returns-in-Err-clause-value
returns-in-Err-clause-value c = no_text c.args.line.now c.in-Err.ensures.cases.0

pub returns-in-Ok-clause-fits : goal.returns-in-Ok-clause-fits
returns-in-Ok-clause-fits c = found_fits c.args.line.now c.read_text.result (returns-in-Ok-clause-value c)
