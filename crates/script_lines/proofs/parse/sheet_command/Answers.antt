use Rattle.script_lines.specs.Commands.{sheet_commands, sheet_command}
use Rattle.script_lines.proofs.Fitting.{◌▸◌}
use Rattle.script_lines.proofs.Words.{none_by_table}
use Rattle.script_lines.proofs.parse.sheet_command.Goals as goal

pub returns-in_default : goal.returns-in_default
unfolding sheet_command
returns-in_default c = let d = c.in_default in none_by_table sheet_commands _ _ (d.not-text ▸ d.not-text-2 ▸ d.not-text-3 ▸ d.not-text-4 ▸ tt)
