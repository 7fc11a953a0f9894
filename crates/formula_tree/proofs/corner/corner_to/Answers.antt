use Rattle.std.proofs.Common.{arith}
use Rattle.std.proofs.lemmas.Int.{ints}
use Rattle.formula_tree.proofs.Casts.{passed}
use Rattle.formula_tree.proofs.corner.corner_to.Goals as goal

pub number_at-requires : goal.number_at-requires
number_at-requires c =
    let from = passed _ c.requires.place.0.0 c.requires.place.0.1 in
    let line = passed _ c.requires.target.0.0 c.requires.target.0.1 in
    record { from_low = from.low; from_high = from.high; low = line.low; high = line.high }

pub number_at-requires-2 : goal.number_at-requires-2
number_at-requires-2 c =
    let from_high = c.requires.place.1.1 in
    let high = c.requires.target.1.1 in
    let from = passed _ c.requires.place.1.0 (omega (arith, ints)) in
    let line = passed _ c.requires.target.1.0 (omega (arith, ints)) in
    record { from_low = from.low; from_high = from.high; low = line.low; high = line.high }
