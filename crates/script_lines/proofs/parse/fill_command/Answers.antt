use Rattle.script_lines.specs.Commands.{fill_commands, fill_command}
use Rattle.script_lines.proofs.Fitting.{◌▸◌}
use Rattle.script_lines.proofs.Words.{none_by_table}
use Rattle.script_lines.proofs.parse.fill_command.Goals as goal

pub returns-in_default : goal.returns-in_default
unfolding fill_command
returns-in_default c = let d = c.in_default in none_by_table fill_commands _ _ (d.not-text ▸ d.not-text-2 ▸ tt)
