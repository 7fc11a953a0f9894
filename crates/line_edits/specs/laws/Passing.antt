-- How far a line goes when a block of lines moves, by where it stands.
use Rattle.std.proofs.Common.{◌≡◌, ℤ, pos, ◌+ℤ◌, ◌-ℤ◌, ◌≤ℤ◌, subst, sym, arith}
use Rattle.std.proofs.lemmas.Int.{ints, by_lt_z}
use Rattle.line_edits.specs.Edit.{is_in_block, moved_by}

module _ (c k d n : ℤ) (some : pos 0 ≤ℤ k) where
  -- a line of the block
  pub of_block : c ≤ℤ n → (n +ℤ pos 1) ≤ℤ (c +ℤ k) → moved_by c k d n ≡ d
  unfolding moved_by is_in_block
  of_block h i = grind (arith, ints)

  -- one that it passes on its way down, and one on its way up
  pub passed_down : (c +ℤ k) ≤ℤ n → (n +ℤ pos 1) ≤ℤ ((c +ℤ k) +ℤ d) → moved_by c k d n ≡ pos 0 -ℤ k
  unfolding moved_by is_in_block
  passed_down h i = grind (arith, ints)

  pub passed_up : (c +ℤ d) ≤ℤ n → (n +ℤ pos 1) ≤ℤ c → moved_by c k d n ≡ k
  unfolding moved_by is_in_block
  passed_up h i = grind (arith, ints)

  -- one before all these, and one behind
  pub stays_before : (n +ℤ pos 1) ≤ℤ c → (n +ℤ pos 1) ≤ℤ (c +ℤ d) → moved_by c k d n ≡ pos 0
  unfolding moved_by is_in_block
  stays_before h i = grind (arith, ints)

  pub stays_behind : (c +ℤ k) ≤ℤ n → ((c +ℤ k) +ℤ d) ≤ℤ n → moved_by c k d n ≡ pos 0
  unfolding moved_by is_in_block
  stays_behind h i = grind (arith, ints)

  -- there is no other
  pub by_passing : (P : ℤ → Type 0) → (c ≤ℤ n → (n +ℤ pos 1) ≤ℤ (c +ℤ k) → P d) →
      ((c +ℤ k) ≤ℤ n → (n +ℤ pos 1) ≤ℤ ((c +ℤ k) +ℤ d) → P (pos 0 -ℤ k)) → ((c +ℤ d) ≤ℤ n → (n +ℤ pos 1) ≤ℤ c → P k) →
      ((n +ℤ pos 1) ≤ℤ c → (n +ℤ pos 1) ≤ℤ (c +ℤ d) → P (pos 0)) → ((c +ℤ k) ≤ℤ n → ((c +ℤ k) +ℤ d) ≤ℤ n → P (pos 0)) → P (moved_by c k d n)
  by_passing P block down up before behind =
      by_lt_z {P = P (moved_by c k d n)} n c
      (λ h. by_lt_z {P = P (moved_by c k d n)} n (c +ℤ d)
      (λ i. subst P (sym (stays_before (omega (arith, ints)) (omega (arith, ints)))) (before (omega (arith, ints)) (omega (arith, ints))))
      (λ i. subst P (sym (passed_up i (omega (arith, ints)))) (up i (omega (arith, ints)))))
      (λ h. by_lt_z {P = P (moved_by c k d n)} n (c +ℤ k)
      (λ i. subst P (sym (of_block h (omega (arith, ints)))) (block h (omega (arith, ints))))
      (λ i. by_lt_z {P = P (moved_by c k d n)} n ((c +ℤ k) +ℤ d)
      (λ j. subst P (sym (passed_down i (omega (arith, ints)))) (down i (omega (arith, ints))))
      (λ j. subst P (sym (stays_behind i j)) (behind i j))))
