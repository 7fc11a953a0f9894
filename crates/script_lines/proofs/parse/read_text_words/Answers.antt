use Rattle.script_lines.specs.Commands.{text_commands, text_command}
use Rattle.script_lines.proofs.Fitting.{◌▸◌}
use Rattle.script_lines.proofs.Words.{none_by_reader}
use Rattle.script_lines.proofs.parse.read_text_words.Goals as goal

pub returns-in_default-clause-value : goal.returns-in_default-clause-value
unfolding text_command
returns-in_default-clause-value c = let d = c.in_default in none_by_reader text_commands _ _ (d.not-set ▸ d.not-link ▸ d.not-array ▸ d.not-rule ▸ d.not-style ▸ d.not-text ▸ d.not-name ▸ d.not-text-2 ▸ d.not-title ▸ tt)
