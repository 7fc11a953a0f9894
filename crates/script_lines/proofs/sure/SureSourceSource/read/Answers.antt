use Rattle.std.proofs.Common.{arith}
use Rattle.script_lines.proofs.Reading.{read_takes}
use Rattle.script_lines.proofs.sure.SureSourceSource.read.Goals as goal

pub returns-clause-bytes : goal.returns-clause-bytes
returns-clause-bytes c =
    let copied = c.copy_front-count in
    let own = c.args.self.now in
    read_takes own.bytes.items c.deref.result.now copied.new.into own.at copied.result c.deref.ensures.value (omega arith) (omega (arith, copied.ensures.count, copied.auto.into)) copied.ensures.bytes
