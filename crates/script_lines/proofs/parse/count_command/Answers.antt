use Rattle.script_lines.specs.Commands.{count_commands, count_command}
use Rattle.script_lines.proofs.Fitting.{◌▸◌}
use Rattle.script_lines.proofs.Words.{none_by_table}
use Rattle.script_lines.proofs.parse.count_command.Goals as goal

pub returns-in_default : goal.returns-in_default
unfolding count_command
returns-in_default c = let d = c.in_default in none_by_table count_commands _ _ (d.not-text ▸ d.not-text-2 ▸ tt)
