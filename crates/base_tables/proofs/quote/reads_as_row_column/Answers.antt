use Rattle.std.proofs.Common.{sym, ap, ◌∙◌}
use Rattle.base_tables.specs.Word.{reads_as_row_column}
use Rattle.base_tables.specs.laws.WordLaws.{reads_as_row_column-chars}
use Rattle.base_tables.proofs.quote.reads_as_row_column.Goals as goal

pub returns : goal.returns
returns c = c.row_column_bytes.ensures ∙ ap reads_as_row_column c.as_bytes.ensures.value ∙ sym (reads_as_row_column-chars c.args.text.now c.utf8.text)
