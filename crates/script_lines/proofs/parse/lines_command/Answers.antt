use Rattle.script_lines.specs.Commands.{lines_commands, lines_command}
use Rattle.script_lines.proofs.Fitting.{◌▸◌}
use Rattle.script_lines.proofs.Words.{none_by_table}
use Rattle.script_lines.proofs.parse.lines_command.Goals as goal

pub returns-in_default : goal.returns-in_default
unfolding lines_command
returns-in_default c = let d = c.in_default in none_by_table lines_commands _ _ (d.not-text ▸ d.not-text-2 ▸ d.not-text-3 ▸ d.not-text-4 ▸ d.not-text-5 ▸ d.not-text-6 ▸ d.not-text-7 ▸ d.not-text-8 ▸ tt)
