use Rattle.script_lines.proofs.Letters.{all_letters}
use Rattle.script_lines.proofs.reference.reference_of.Goals as goal

pub column_of-requires : goal.column_of-requires
column_of-requires c = rw (c.split_at.ensures.front, c.letters_len.ensures.value) (all_letters c.args.bytes.now)
