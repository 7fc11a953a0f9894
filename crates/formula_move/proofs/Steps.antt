-- The branches by which lines are displaced, over numbers of any size.
use Rattle.std.proofs.Common.{◌≡◌, ℤ, pos, ◌+ℤ◌, ◌-ℤ◌, ◌≤ℤ◌, ◌<ℤ◌, arith, true, false, Some}
use Rattle.std.proofs.lemmas.Int.{ints}
use Rattle.std.specs.Prelude.{int_lt, int_le}
use Rattle.std.specs.Ordering.{int_eq}
use Rattle.base_values.specs.Places.{as_line}
use Rattle.formula_move.specs.Lines.{goes_on, steps}

before : (a b : ℤ) → a <ℤ b → int_lt a b ≡ true
before a b less = grind (arith, ints)

not_before : (a b : ℤ) → b ≤ℤ a → int_lt a b ≡ false
not_before a b less = grind (arith, ints)

up_to : (a b : ℤ) → a ≤ℤ b → int_le a b ≡ true
up_to a b less = grind (arith, ints)

beyond : (a b : ℤ) → b <ℤ a → int_le a b ≡ false
beyond a b less = grind (arith, ints)

one_line : (a b : ℤ) → a ≡ b → int_eq a b ≡ true
one_line a b same = grind (arith, ints)

lower_line : (a b : ℤ) → a <ℤ b → int_eq a b ≡ false
lower_line a b less = grind (arith, ints)

higher_line : (a b : ℤ) → b <ℤ a → int_eq a b ≡ false
higher_line a b less = grind (arith, ints)

-- a line that is not lost goes on
pub shifted_on : (last first delta line end n : ℤ) → end ≡ last → first ≤ℤ line → (first -ℤ delta) ≤ℤ line → n ≡ line +ℤ delta → as_line end n ≡ goes_on last first delta line
unfolding goes_on
shifted_on last first delta line end n at_end from kept same = rw (not_before line first from, not_before line (first -ℤ delta) kept) (λ i. as_line (at_end i) (same i))

-- the moved line goes to its target
pub stepped_moved : (last moved delta line end n : ℤ) → end ≡ last → line ≡ moved → n ≡ line +ℤ delta → as_line end n ≡ steps last moved delta line
unfolding steps
stepped_moved last moved delta line end n at_end at same = rw (one_line line moved at) (λ i. as_line (at_end i) (same i))

-- a line that is passed downwards goes up
pub stepped_up : (last moved delta line end n : ℤ) → end ≡ last → moved <ℤ line → line ≤ℤ (moved +ℤ delta) → n ≡ line -ℤ pos 1 → as_line end n ≡ steps last moved delta line
unfolding steps
stepped_up last moved delta line end n at_end after upto same = rw (higher_line line moved after, before moved line after, up_to line (moved +ℤ delta) upto) (λ i. as_line (at_end i) (same i))

-- a line below both ends stays
pub stepped_below : (last moved delta line stays : ℤ) → stays ≡ line → moved <ℤ line → (moved +ℤ delta) <ℤ line → Some stays ≡ steps last moved delta line
unfolding steps
stepped_below last moved delta line stays same after past =
    let late : int_le moved line ≡ true = grind (arith, ints) in
    rw (higher_line line moved after, before moved line after, beyond line (moved +ℤ delta) past) (grind (arith, ints))

-- a line that is passed upwards goes down
pub stepped_down : (last moved delta line end n : ℤ) → end ≡ last → line <ℤ moved → (moved +ℤ delta) ≤ℤ line → n ≡ line +ℤ pos 1 → as_line end n ≡ steps last moved delta line
unfolding steps
stepped_down last moved delta line end n at_end earlier from same = grind (arith, ints)

-- a line above both ends stays
pub stepped_above : (last moved delta line stays : ℤ) → stays ≡ line → line <ℤ moved → line <ℤ (moved +ℤ delta) → Some stays ≡ steps last moved delta line
unfolding steps
stepped_above last moved delta line stays same earlier past = grind (arith, ints)
