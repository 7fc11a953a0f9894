use Rattle.std.proofs.Common.{arith, ℕ, length-append}
use Rattle.std.proofs.lemmas.List.{length-take}
use Rattle.script_lines.proofs.Turns.{took_more, took_too_many}
use Rattle.script_lines.proofs.stream.read_all.Goals as goal

pub returns-then-is_too_long-clause-too_long : goal.returns-then-is_too_long-clause-too_long
returns-then-is_too_long-clause-too_long g c = λ is.
    let read = c.in-Ok.ensures.bytes in
    took_too_many 16777217 c.in-Ok.count c.reads.bytes.items c.read.new.into _ _ _ c.reads.invariant.taken read.taken read.within (omega (arith, read.within, c.read.auto.into, length-take {A = ℕ}))

pub returns-in_err-extend_from_slice-clause-else_within : goal.returns-in_err-extend_from_slice-clause-else_within
returns-in_err-extend_from_slice-clause-else_within g c = λ other.
    let read = c.in-Ok.ensures.bytes in
    record { bytes = _; within = omega (arith, length-append {A = ℕ}, length-take {A = ℕ}); taken = took_more c.reads.bytes.items _ _ _ _ c.reads.invariant.taken read.taken }
