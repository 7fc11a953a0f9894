use Rattle.script_lines.specs.Commands.{single_commands, single_command}
use Rattle.script_lines.proofs.Fitting.{◌▸◌}
use Rattle.script_lines.proofs.Words.{none_by_reader}
use Rattle.script_lines.proofs.parse.read_single_words.Goals as goal

pub returns-in_default : goal.returns-in_default
unfolding single_command
returns-in_default c = let d = c.in_default in none_by_reader single_commands _ _ (d.not-text ▸ d.not-undo ▸ d.not-redo ▸ d.not-sync ▸ d.not-show ▸ d.not-text-2 ▸ d.not-text-3 ▸ d.not-text-4 ▸ d.not-color ▸ d.not-grid ▸ d.not-theme ▸ d.not-make ▸ tt)
