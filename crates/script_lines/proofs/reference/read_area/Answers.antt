use Rattle.script_lines.proofs.Words.{no_third}
use Rattle.script_lines.proofs.reference.read_area.Goals as goal

pub returns-in-Some-more : goal.returns-in-Some-more
returns-in-Some-more c =
    let one = rw c.in-Some.is at c.split_first.ensures.parts in
    let two = rw c.in-Some-more.is at c.split_first-2.ensures.parts in
    no_third c.args.bytes.now c.split_first.result.0.now c.in-Some.rest.now c.split_first-2.result.0.now c.in-Some-more.field-0.now one two
