use Rattle.script_lines.specs.Commands.{cell_commands, cell_command}
use Rattle.script_lines.proofs.Fitting.{◌▸◌}
use Rattle.script_lines.proofs.Words.{none_by_table}
use Rattle.script_lines.proofs.parse.cell_command.Goals as goal

pub returns-in_default : goal.returns-in_default
unfolding cell_command
returns-in_default c = let d = c.in_default in none_by_table cell_commands _ _ (d.not-get ▸ d.not-unlink ▸ d.not-unmerge ▸ tt)
