use Rattle.std.proofs.Common.{Err, Ok, arith}
use Rattle.grid_wire.specs.laws.BookLaws.{book_reads, read_says, refusal_says}
use Rattle.grid_wire.proofs.decode.decode_workbook.Goals as goal

pub returns-in-Ok-clause-read : goal.returns-in-Ok-clause-read
returns-in-Ok-clause-read c = read_says c.args.bytes.now c.in-Ok.workbook (book_reads c.args.bytes.now (Ok c.in-Ok.workbook) (λ i. omega (arith, c.type_inv.bytes i)) c.in-Ok.ensures.read)

pub returns-in-Err-clause-read : goal.returns-in-Err-clause-read
returns-in-Err-clause-read c =
    rw c.workbook_refusal.ensures
    (refusal_says c.args.bytes.now c.in-Err.error (book_reads c.args.bytes.now (Err c.in-Err.error) (λ i. omega (arith, c.type_inv.bytes i)) c.in-Err.ensures.read))
