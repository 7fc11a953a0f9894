use Rattle.std.proofs.Common.{◌≡◌, ◌-◌}
use Rattle.base_wire.specs.laws.Reading.{many_at}
use Rattle.base_wire.specs.laws.Many.{with_front}
use Rattle.base_wire.proofs.many.many_at.Given as goal

-- what was read so far and what is still to be read are the whole
abbrev pub invariant-reads : goal.invariant-reads
invariant-reads g l = with_front l.items.items (many_at g.P.Part.reading (l.count - l.counter) l.rest) ≡ many_at g.P.Part.reading l.count l.bytes
