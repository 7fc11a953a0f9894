use Rattle.script_lines.specs.Commands.{word_commands, word_command}
use Rattle.script_lines.proofs.Fitting.{◌▸◌}
use Rattle.script_lines.proofs.Words.{none_by_reader}
use Rattle.script_lines.proofs.parse.read_named_words.Goals as goal

pub returns-in_default-clause-value : goal.returns-in_default-clause-value
unfolding word_command
returns-in_default-clause-value c = let d = c.in_default in none_by_reader word_commands _ _ (d.not-text ▸ d.not-locale ▸ d.not-zone ▸ d.not-language ▸ tt)
