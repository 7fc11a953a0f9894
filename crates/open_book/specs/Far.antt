-- Distances that no `i32` has.
use Rattle.std.proofs.Common.{ℤ, pos, negsuc, Bool}
use Rattle.std.specs.Prelude.{int_lt, ◌||◌}

-- whether a distance is farther than any between lines
abbrev pub is_far : ℤ → Bool
is_far delta = int_lt delta (negsuc 2147483647) || int_lt (pos 2147483647) delta
