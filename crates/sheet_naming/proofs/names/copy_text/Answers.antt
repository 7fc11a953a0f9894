use Rattle.std.proofs.Common.{ap, length, arith}
use Rattle.sheet_naming.specs.laws.LegalNames.{ending_length}
use Rattle.sheet_naming.proofs.names.copy_text.Goals as goal

pub overflow_sub-len : goal.overflow_sub-len
overflow_sub-len c =
    let short = ending_length c.args.n c.ranges.n.fits in
    let bytes = ap length (c.in_ok-ending.ensures {u = _}).text in
    omega (arith, short, bytes, c.len.ensures)
