use Rattle.std.proofs.Common.{◌≡◌, ◌≤◌, ◌-◌, vec_len}
use Rattle.std.specs.Io.KnownBytes.{prepend_known}
use Rattle.script_lines.proofs.stream.read_all.Given as goal

-- what was taken stands in the vector
abbrev pub invariant-reads : goal.invariant-reads
invariant-reads g l =
    let left = g.S.Source.left in
    let faults = g.S.Source.faults in
    record {
      within : vec_len l.bytes ≤ 16777216;
      taken : left l.fn.input ≡ prepend_known l.bytes.items (left l.input);
      count : faults l.fn.input ≤ faults l.input;
    }

abbrev pub decreases-reads : goal.decreases-reads
decreases-reads g l = 16777217 - vec_len l.bytes
