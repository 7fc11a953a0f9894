-- Parts from the front.
use Rattle.std.proofs.Common.{◌≡◌, ℕ, ◌+◌, ◌<◌, ◌≤◌, ◌==◌, Bool, true, false, cond, List, [], ◌∷◌, length, take, drop, Some, None, sym, ap, ◌∙◌, refl, arith}
use Rattle.std.specs.Prelude.{nat_lt}
use Rattle.std.specs.List.{position, position_or_len, before_first, after_first}
use Rattle.std.proofs.lemmas.List.Splits.{slice_split_none, slice_split_first}
use Rattle.std.proofs.lemmas.List.Sums.{fails_before_first}
use Rattle.std.proofs.lemmas.Bool.{ltb-true, ltb-false}
use Rattle.script_lines.specs.Parts.{parts_at}

module _ (separator : ℕ) (bytes : List ℕ) where
  -- no separator
  pub one_part : length bytes ≤ position_or_len (λ b. b == separator) bytes → parts_at separator bytes ≡ bytes ∷ []
  one_part past = slice_split_none (λ b. b == separator) bytes (λ k d lt. fails_before_first (λ b. b == separator) bytes k d (omega arith))

  -- a separator
  pub more_parts : position_or_len (λ b. b == separator) bytes < length bytes
      → parts_at separator bytes ≡ before_first (λ b. b == separator) bytes ∷ parts_at separator (after_first (λ b. b == separator) bytes)
  more_parts inside = slice_split_first (λ b. b == separator) bytes 0 inside

  found_by : (b : Bool) (n at : ℕ) → nat_lt n (length bytes) ≡ b → cond b (Some n) None ≡ Some at → (n < length bytes) × (at ≡ n)
  found_by true n at e f = (ltb-true n (length bytes) e, cc)
  found_by false n at e f = absurd cc

  none_by : (b : Bool) (n : ℕ) → nat_lt n (length bytes) ≡ b → cond b (Some n) None ≡ None → length bytes ≤ n
  none_by true n e f = absurd cc
  none_by false n e f = ltb-false n (length bytes) e

  -- the same, by the place of the first separator
  pub parts_at_place : (at : ℕ) → position (λ b. b == separator) bytes ≡ Some at → parts_at separator bytes ≡ take at bytes ∷ parts_at separator (drop (at + 1) bytes)
  parts_at_place at is =
      let f = found_by (nat_lt (position_or_len (λ b. b == separator) bytes) (length bytes)) (position_or_len (λ b. b == separator) bytes) at refl is in
      more_parts f.0 ∙ ap (λ n. take n bytes ∷ parts_at separator (drop (n + 1) bytes)) (sym f.1)

  pub place_inside : (at : ℕ) → position (λ b. b == separator) bytes ≡ Some at → at < length bytes
  place_inside at is =
      let f = found_by (nat_lt (position_or_len (λ b. b == separator) bytes) (length bytes)) (position_or_len (λ b. b == separator) bytes) at refl is in
      omega (arith, f.0, f.1)

  pub parts_no_place : position (λ b. b == separator) bytes ≡ None → parts_at separator bytes ≡ bytes ∷ []
  parts_no_place is = one_part (none_by (nat_lt (position_or_len (λ b. b == separator) bytes) (length bytes)) (position_or_len (λ b. b == separator) bytes) refl is)
