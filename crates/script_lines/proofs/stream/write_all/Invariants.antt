use Rattle.std.proofs.Common.{◌≡◌, ◌≤◌, ◌-◌, length, take}
use Rattle.std.specs.Io.KnownBytes.{append_known}
use Rattle.script_lines.proofs.stream.write_all.Given as goal

-- the front so far was added, and there is room for the rest
abbrev pub invariant-writes : goal.invariant-writes
invariant-writes g l =
    let sink = g.K.Sink in
    record {
      within : l.at ≤ length l.text;
      room : length l.text - l.at ≤ sink.spare l.output;
      added : sink.taken l.output ≡ append_known (sink.taken l.fn.output) (take l.at l.text);
      count : sink.faults l.fn.output ≤ sink.faults l.output;
    }

abbrev pub decreases-writes : goal.decreases-writes
decreases-writes g l = length l.text - l.at
