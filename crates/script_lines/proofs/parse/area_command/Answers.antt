use Rattle.script_lines.specs.Commands.{area_commands, area_command}
use Rattle.script_lines.proofs.Fitting.{◌▸◌}
use Rattle.script_lines.proofs.Words.{none_by_table}
use Rattle.script_lines.proofs.parse.area_command.Goals as goal

pub returns-in_default : goal.returns-in_default
unfolding area_command
returns-in_default c = let d = c.in_default in none_by_table area_commands _ _ (d.not-merge ▸ d.not-clear ▸ d.not-text ▸ d.not-text-2 ▸ tt)
