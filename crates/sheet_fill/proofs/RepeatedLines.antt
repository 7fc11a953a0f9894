-- How far repetitions of the source lie from it.
use Rattle.std.proofs.Common.{ℕ, ◌+◌, ◌*◌, ◌-◌, ◌<◌, ◌≤◌, subst, arith}
use Rattle.std.specs.Prelude.{◌/◌}
use Rattle.std.proofs.Math.Nat.{le-div_iff_mul-le, mul_comm}

-- a repetition that begins among so many lines ends less than one period behind them
pub repetition_ends : (many period index : ℕ) → 0 < period → index < (many + (period - 1)) / period → period * (index + 1) ≤ many + (period - 1)
repetition_ends many period index some below =
    let next : (index + 1) ≤ ((many + (period - 1)) / period) = omega arith in
    subst (λ n. n ≤ many + (period - 1)) (mul_comm (index + 1) period) ((le-div_iff_mul-le some).0 next)
