-- Numbers of progressions fit 128 bits.
use Rattle.std.proofs.Common.{◌≡◌, ℕ, ◌*◌, ◌^◌, ◌≤◌, sym, ap, subst, ◌∙◌, arith, to_z, of_z}
use Rattle.std.specs.Prelude.{ℤ, pos, ◌+ℤ◌, ◌-ℤ◌, ◌*ℤ◌, unsigned_abs, ◌≤ℤ◌, FitsSigned}
use Rattle.std.specs.Int.{w128}
use Rattle.std.proofs.lemmas.Int.{ints, to_z-of_z, unsigned_abs-mul}
use Rattle.std.proofs.lemmas.Nat.{mul-le}

pub within_difference : (a b : ℤ) → unsigned_abs a ≤ 10 ^ 30 → unsigned_abs b ≤ 10 ^ 30 → unsigned_abs (b -ℤ a) ≤ 2 * 10 ^ 30
within_difference a b h g = omega (arith, ints)

product_within : (a b : ℤ) (m n : ℕ) → unsigned_abs a ≤ m → unsigned_abs b ≤ n → unsigned_abs (a *ℤ b) ≤ m * n
product_within a b m n h g = let product = unsigned_abs-mul a b in let bound = mul-le (unsigned_abs a) (unsigned_abs b) m n h g in omega arith

-- no product of a step and a count of turns, and no sum of it with the last number, leaves 128 bits
pub turn_fits : (step turns : ℤ) → unsigned_abs step ≤ 2 * 10 ^ 30 → unsigned_abs turns ≤ 1048576 → FitsSigned w128 (step *ℤ turns)
turn_fits step turns s t = let product = product_within step turns (2 * 10 ^ 30) 1048576 s t in omega (arith, ints)

pub number_fits : (last step turns : ℤ) → unsigned_abs last ≤ 10 ^ 30 → unsigned_abs step ≤ 2 * 10 ^ 30 → unsigned_abs turns ≤ 1048576
    → FitsSigned w128 (last +ℤ (step *ℤ turns))
number_fits last step turns l s t = let product = product_within step turns (2 * 10 ^ 30) 1048576 s t in omega (arith, ints)

abbrev seen : ℤ → ℤ
seen z = to_z w128 (of_z w128 z)

-- the number as it is computed
pub number_is : (last step count index : ℤ) → count ≡ index → unsigned_abs last ≤ 10 ^ 30 → unsigned_abs step ≤ 2 * 10 ^ 30 → pos 0 ≤ℤ index → index ≤ℤ pos 1048575
    → FitsSigned w128 (seen last +ℤ seen (seen step *ℤ seen (seen count +ℤ pos 1))) × (seen (seen last +ℤ seen (seen step *ℤ seen (seen count +ℤ pos 1))) ≡ last +ℤ (step *ℤ (index +ℤ pos 1)))
number_is last step count index e l s from to =
    let turns : unsigned_abs (index +ℤ pos 1) ≤ 1048576 = omega (arith, ints) in
    let turns_is : seen (seen count +ℤ pos 1) ≡ index +ℤ pos 1 = omega (arith, ints) in
    let step_is : seen step ≡ step = omega (arith, ints) in
    let last_is : seen last ≡ last = omega (arith, ints) in
    let product_is : seen (seen step *ℤ seen (seen count +ℤ pos 1)) ≡ step *ℤ (index +ℤ pos 1) =
    ap (λ (z : ℤ). seen (seen step *ℤ z)) turns_is ∙ ap (λ (z : ℤ). seen (z *ℤ (index +ℤ pos 1))) step_is
    ∙ to_z-of_z w128 _ (turn_fits step (index +ℤ pos 1) s turns) in
    let sum_is : seen last +ℤ seen (seen step *ℤ seen (seen count +ℤ pos 1)) ≡ last +ℤ (step *ℤ (index +ℤ pos 1)) =
    ap (λ (z : ℤ). z +ℤ seen (seen step *ℤ seen (seen count +ℤ pos 1))) last_is ∙ ap (λ (z : ℤ). last +ℤ z) product_is in
    let fits = number_fits last step (index +ℤ pos 1) l s turns in
    (subst (FitsSigned w128) (sym sum_is) fits, ap seen sum_is ∙ to_z-of_z w128 _ fits)

pub ruleset bounds = (within_difference, turn_fits)
