-- Sums of numbers of 32 bits in 64.
use Rattle.std.proofs.Common.{◌≡◌, ℕ, ℤ, pos, ◌+ℤ◌, ◌-ℤ◌, ◌≤ℤ◌, Bool, true, false, cond, int_lt, w32, w64, FitsSigned, to_z, of_z, ap, sym, ◌∙◌, arith}
use Rattle.std.proofs.lemmas.Int.{ints}

-- a number of 64 bits, as the code has it
abbrev wide : ℤ → ℤ
wide n = to_z w64 (of_z w64 n)

widened : (x n : ℤ) → FitsSigned w32 x → n ≡ to_z w32 (of_z w32 x) → wide n ≡ x
widened x n fits is = omega (arith, ints, fits, is)

two_summed : (x y m n : ℤ) → FitsSigned w32 x → FitsSigned w32 y → wide m ≡ x → wide n ≡ y → wide (wide m +ℤ wide n) ≡ (x +ℤ y)
two_summed x y m n a b one two = omega (arith, ints, a, b, one, two)

three_summed : (x y z s n : ℤ) → FitsSigned w32 x → FitsSigned w32 y → FitsSigned w32 z → s ≡ (x +ℤ y) → wide n ≡ z → wide (s +ℤ wide n) ≡ ((x +ℤ y) +ℤ z)
three_summed x y z s n a b c one two = omega (arith, ints, a, b, c, one, two)

one_less : (x m : ℤ) → FitsSigned w32 x → wide m ≡ x → wide (wide m -ℤ pos 1) ≡ (x -ℤ pos 1)
one_less x m a one = omega (arith, ints, a, one)

few_more : (x m : ℤ) (r : ℤ) (n : ℕ) → FitsSigned w32 x → wide m ≡ x → r ≡ pos n → r ≤ℤ pos 1048576 → wide (wide m +ℤ wide r) ≡ (x +ℤ pos n)
few_more x m r n a one is few = omega (arith, ints, a, one, is, few)

few_less : (x m : ℤ) (r : ℤ) (n : ℕ) → FitsSigned w32 x → wide m ≡ x → r ≡ pos n → r ≤ℤ pos 1048576 → wide (wide m -ℤ wide r) ≡ (x -ℤ pos n)
few_less x m r n a one is few = omega (arith, ints, a, one, is, few)

-- a number grown by how many lines a count has in its way
module _ (in_way : ℤ → ℤ → ℕ) (first count delta f d : ℤ) (fits_first : FitsSigned w32 first) (fits_delta : FitsSigned w32 delta)
    (is_first : f ≡ to_z w32 (of_z w32 first)) (is_delta : d ≡ to_z w32 (of_z w32 delta)) where
  abbrev grown_either : Bool → ℤ
  grown_either on = cond on (delta +ℤ pos (in_way (first +ℤ count) ((first +ℤ count) +ℤ delta))) (delta -ℤ pos (in_way (first +ℤ delta) (first -ℤ pos 1)))

  wide_first : wide f ≡ first
  wide_first = widened first f fits_first is_first

  wide_delta : wide d ≡ delta
  wide_delta = widened delta d fits_delta is_delta

  pub grown_on : (c r : ℤ) → FitsSigned w32 count → c ≡ to_z w32 (of_z w32 count)
      → r ≡ pos (in_way (wide (wide f +ℤ wide c)) (wide (wide (wide f +ℤ wide c) +ℤ wide d))) → r ≤ℤ pos 1048576
      → int_lt (pos 0) (wide d) ≡ true → wide (wide d +ℤ wide r) ≡ grown_either (int_lt (pos 0) delta)
  grown_on c r fits_count is_count counted few on =
      let behind : wide (wide f +ℤ wide c) ≡ (first +ℤ count) = two_summed first count f c fits_first fits_count wide_first (widened count c fits_count is_count) in
      let end : wide (wide (wide f +ℤ wide c) +ℤ wide d) ≡ ((first +ℤ count) +ℤ delta) = three_summed first count delta _ d fits_first fits_count fits_delta behind wide_delta in
      few_more delta d r _ fits_delta wide_delta (counted ∙ (λ i. pos (in_way (behind i) (end i)))) few
      ∙ sym (ap grown_either (ap (int_lt (pos 0)) (sym wide_delta) ∙ on))

  pub grown_back : (r : ℤ) → r ≡ pos (in_way (wide (wide f +ℤ wide d)) (wide (wide f -ℤ pos 1))) → r ≤ℤ pos 1048576 → int_lt (pos 0) (wide d) ≡ false
      → wide (wide d -ℤ wide r) ≡ grown_either (int_lt (pos 0) delta)
  grown_back r counted few back =
      let from : wide (wide f +ℤ wide d) ≡ (first +ℤ delta) = two_summed first delta f d fits_first fits_delta wide_first wide_delta in
      let before : wide (wide f -ℤ pos 1) ≡ (first -ℤ pos 1) = one_less first f fits_first wide_first in
      few_less delta d r _ fits_delta wide_delta (counted ∙ (λ i. pos (in_way (from i) (before i)))) few
      ∙ sym (ap grown_either (ap (int_lt (pos 0)) (sym wide_delta) ∙ back))
