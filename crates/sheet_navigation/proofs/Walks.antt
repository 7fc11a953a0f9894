-- Walks step by step.
use Rattle.std.proofs.Common.{◌≡◌, ℕ, zero, suc, ◌+◌, ◌<◌, ℤ, pos, negsuc, ◌+ℤ◌, ◌-ℤ◌, ◌≤ℤ◌, [], ◌∷◌, map, refl, ap, sym, ◌∙◌, arith}
use Rattle.std.proofs.lemmas.Int.{ints}
use Rattle.std.specs.Int.{int_gap}
use Rattle.std.specs.List.{range_with_len}
use Rattle.base_values.specs.declared.Position.{Position}
use Rattle.base_values.specs.Places.{IsPlace}
use Rattle.sheet_navigation.specs.declared.direction.NavigationDirection.{NavigationDirection}
use Rattle.sheet_navigation.specs.declared.direction.NavigationDirection.TheVariants.{Left, Right, Up, Down}
use Rattle.sheet_navigation.specs.Walk.{steps_on, steps_left, walk}

gap_is : (a b : ℤ) → a ≤ℤ b → b ≡ a +ℤ pos (int_gap a b)
gap_is (pos a) (pos b) h = omega (arith, ints)
gap_is (pos a) (negsuc b) h = omega (arith, ints)
gap_is (negsuc a) (pos b) h = omega (arith, ints)
gap_is (negsuc a) (negsuc b) h = omega (arith, ints)

-- there is one step less between two lines
record Nearer (before after : ℕ) (low high : ℤ) : Type 0 where
  ordered : low ≤ℤ high
  less : before ≡ suc after

gap_down : (low high : ℤ) → low ≤ℤ high → 0 < int_gap low high → Nearer (int_gap low high) (int_gap low (high -ℤ pos 1)) low (high -ℤ pos 1)
gap_down low high h more =
    let whole = gap_is low high h in
    let ordered : low ≤ℤ (high -ℤ pos 1) = omega (arith, ints) in
    let rest = gap_is low (high -ℤ pos 1) ordered in
    record { ordered = ordered; less = omega (arith, ints) }

gap_up : (low high : ℤ) → low ≤ℤ high → 0 < int_gap low high → Nearer (int_gap low high) (int_gap (low +ℤ pos 1) high) (low +ℤ pos 1) high
gap_up low high h more =
    let whole = gap_is low high h in
    let ordered : (low +ℤ pos 1) ≤ℤ high = omega (arith, ints) in
    let rest = gap_is (low +ℤ pos 1) high ordered in
    record { ordered = ordered; less = omega (arith, ints) }

-- a step leads to a place of the sheet, from which there is one step less
pub record StepsOn (d : NavigationDirection) (p : Position) : Type 0 where
  pub inside : IsPlace (steps_on d p 1)
  pub less : steps_left d p ≡ suc (steps_left d (steps_on d p 1))

pub one_step : (d : NavigationDirection) (p : Position) → IsPlace p → 0 < steps_left d p → StepsOn d p
unfolding steps_on steps_left
one_step Left p h more = let next = gap_down (pos 1) p.column h.1.0 more in let high = h.1.1 in record { inside = (h.0, (next.ordered, omega (arith, ints))); less = next.less }
one_step Right p h more = let next = gap_up p.column (pos 16384) h.1.1 more in let low = h.1.0 in record { inside = (h.0, (omega (arith, ints), next.ordered)); less = next.less }
one_step Up p h more = let next = gap_down (pos 1) p.row h.0.0 more in let high = h.0.1 in record { inside = ((next.ordered, omega (arith, ints)), h.1); less = next.less }
one_step Down p h more = let next = gap_up p.row (pos 1048576) h.0.1 more in let low = h.0.0 in record { inside = ((omega (arith, ints), next.ordered), h.1); less = next.less }

-- a step and then others are so many and one
steps_twice : (d : NavigationDirection) (p : Position) (n : ℕ) → steps_on d p (n + 1) ≡ steps_on d (steps_on d p 1) n
unfolding steps_on
steps_twice Left p n = let e : p.column -ℤ pos (n + 1) ≡ (p.column -ℤ pos 1) -ℤ pos n = omega (arith, ints) in λ i. record p { column = e i }
steps_twice Right p n = let e : p.column +ℤ pos (n + 1) ≡ (p.column +ℤ pos 1) +ℤ pos n = omega (arith, ints) in λ i. record p { column = e i }
steps_twice Up p n = let e : p.row -ℤ pos (n + 1) ≡ (p.row -ℤ pos 1) -ℤ pos n = omega (arith, ints) in λ i. record p { row = e i }
steps_twice Down p n = let e : p.row +ℤ pos (n + 1) ≡ (p.row +ℤ pos 1) +ℤ pos n = omega (arith, ints) in λ i. record p { row = e i }

from_next : (d : NavigationDirection) (p : Position) (a n : ℕ) → map (steps_on d p) (range_with_len (a + 1) n) ≡ map (steps_on d (steps_on d p 1)) (range_with_len a n)
from_next d p a zero = refl
from_next d p a (suc n) = λ i. steps_twice d p a i ∷ from_next d p (a + 1) n i

-- a walk passes the next place, and then those that a walk from there passes
pub walk_next : (d : NavigationDirection) (p : Position) → IsPlace p → 0 < steps_left d p → walk d p ≡ steps_on d p 1 ∷ walk d (steps_on d p 1)
unfolding walk
walk_next d p h more =
    ap (λ n. map (steps_on d p) (range_with_len 1 n)) (one_step d p h more).less
    ∙ ap (λ places. steps_on d p 1 ∷ places) (from_next d p 1 (steps_left d (steps_on d p 1)))

-- it passes none where no step is left
pub walk_none : (d : NavigationDirection) (p : Position) → steps_left d p ≡ 0 → walk d p ≡ []
unfolding walk
walk_none d p h = ap (λ n. map (steps_on d p) (range_with_len 1 n)) h

-- a place one line on
pub left_is : (d : NavigationDirection) (p : Position) (row column : ℤ) → d ≡ Left → row ≡ p.row → column ≡ (p.column -ℤ pos 1) → record { row = row; column = column } ≡ steps_on d p 1
unfolding steps_on
left_is d p row column is r c = (λ i. record { row = r i; column = c i }) ∙ sym (ap (λ e. steps_on e p 1) is)

pub right_is : (d : NavigationDirection) (p : Position) (row column : ℤ) → d ≡ Right → row ≡ p.row → column ≡ (p.column +ℤ pos 1) → record { row = row; column = column } ≡ steps_on d p 1
unfolding steps_on
right_is d p row column is r c = (λ i. record { row = r i; column = c i }) ∙ sym (ap (λ e. steps_on e p 1) is)

pub up_is : (d : NavigationDirection) (p : Position) (row column : ℤ) → d ≡ Up → row ≡ (p.row -ℤ pos 1) → column ≡ p.column → record { row = row; column = column } ≡ steps_on d p 1
unfolding steps_on
up_is d p row column is r c = (λ i. record { row = r i; column = c i }) ∙ sym (ap (λ e. steps_on e p 1) is)

pub down_is : (d : NavigationDirection) (p : Position) (row column : ℤ) → d ≡ Down → row ≡ (p.row +ℤ pos 1) → column ≡ p.column → record { row = row; column = column } ≡ steps_on d p 1
unfolding steps_on
down_is d p row column is r c = (λ i. record { row = r i; column = c i }) ∙ sym (ap (λ e. steps_on e p 1) is)
