use Rattle.std.proofs.Common.{sym, ap, ◌∙◌}
use Rattle.base_tables.specs.Word.{reads_as_cell}
use Rattle.base_tables.specs.laws.WordLaws.{reads_as_cell-chars}
use Rattle.base_tables.proofs.quote.reads_as_cell.Goals as goal

pub returns : goal.returns
returns c = c.cell_bytes.ensures ∙ ap reads_as_cell c.as_bytes.ensures.value ∙ sym (reads_as_cell-chars c.args.text.now c.utf8.text)
