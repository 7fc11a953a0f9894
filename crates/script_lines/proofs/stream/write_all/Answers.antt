use Rattle.std.proofs.Common.{arith, ℕ, length-drop}
use Rattle.std.proofs.lemmas.List.{length-take}
use Rattle.script_lines.proofs.Turns.{added_front, added_more}
use Rattle.script_lines.proofs.stream.write_all.Goals as goal

pub returns-in_default-clause-front : goal.returns-in_default-clause-front
returns-in_default-clause-front g c = added_front c.args.text.now c.writes.at _ _ _ c.writes.invariant.added c.in_default.ensures.bytes.failed

pub writes-preserved : goal.writes-preserved
writes-preserved g c =
    let n = c.in-Ok.count in
    let wrote = c.in-Ok.ensures in
    record {
      within = omega (arith, wrote.bytes.within, length-take {A = ℕ}, length-drop {A = ℕ});
      room = omega (arith, wrote.room.took, wrote.bytes.within);
      added = added_more c.args.text.now c.writes.at _ _ _ c.writes.invariant.added n wrote.bytes.added;
      count = omega (arith, wrote.cause.later);
    }
