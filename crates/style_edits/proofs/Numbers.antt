-- What std's `parse` reads as a number of 32 bits is what the definition reads.
use Rattle.std.proofs.Common.{◌≡◌, ℕ, ℤ, pos, negsuc, ◌<◌, ◌&&◌, Bool, true, false, cond, List, length, Some, None, Result, Ok, Err, refl, sym, ap, ◌∙◌, arith, w32}
use Rattle.std.specs.Prelude.{FitsSigned, nat_lt}
use Rattle.std.specs.Result.{result_ok}
use Rattle.std.specs.Str.{all_ascii_digits}
use Rattle.std.specs.Str.Parse.{IsNumeral, digits_value, ParsesSigned, without_leading_sign, signed_digits_value}
use Rattle.std.proofs.lemmas.Bool.Decides.{nat_tests}
use Rattle.std.proofs.lemmas.Str.Parse.{IsNumeralModel, numerals_by_value, tells_all_ascii_digits}
use Rattle.style_edits.specs.Values.{is_numeral, has_32_bits, whole_number}

-- the test of digits is true of digits alone
digits : IsNumeralModel (λ ds. all_ascii_digits ds ≡ true) (digits_value 10)
digits = numerals_by_value _ tells_all_ascii_digits

both : (a b : Bool) → a ≡ true → b ≡ true → a && b ≡ true
both a b e f = ap (λ x. x && b) e ∙ f

both_parts : (a b : Bool) → a && b ≡ true → (a ≡ true) × (b ≡ true)
both_parts true b e = (refl, e)
both_parts false b e = absurd cc

below : (m n : ℕ) → nat_lt m n ≡ true → m < n
below m n e = grind (arith, nat_tests)

is_below : (m n : ℕ) → m < n → nat_lt m n ≡ true
is_below m n lt = grind (arith, nat_tests)

fits_test : (n : ℤ) → FitsSigned w32 n → has_32_bits n ≡ true
fits_test (pos n) fits = is_below n _ fits.sfits
fits_test (negsuc n) fits = is_below n _ fits.sfits

test_fits : (n : ℤ) → has_32_bits n ≡ true → FitsSigned w32 n
test_fits (pos n) e = record { sfits = below n _ e }
test_fits (negsuc n) e = record { sfits = below n _ e }

module _ (text : List ℕ) where
  abbrev ds : List ℕ
  ds = without_leading_sign text

  abbrev number : ℤ
  number = signed_digits_value 10 text

  abbrev test : Bool
  test = is_numeral text && has_32_bits number

  passes : IsNumeral 10 ds → FitsSigned w32 number → test ≡ true
  passes numeral fits =
      both (is_numeral text) (has_32_bits number)
      (both (nat_lt 0 (length ds)) (all_ascii_digits ds) (is_below 0 (length ds) numeral.0) (digits.from ds numeral.1)) (fits_test number fits)

  passed : test ≡ true → IsNumeral 10 ds × FitsSigned w32 number
  passed e =
      let parts : (is_numeral text ≡ true) × (has_32_bits number ≡ true) = both_parts (is_numeral text) (has_32_bits number) e in
      let numeral : (nat_lt 0 (length ds) ≡ true) × (all_ascii_digits ds ≡ true) = both_parts (nat_lt 0 (length ds)) (all_ascii_digits ds) parts.0 in
      ((below 0 (length ds) numeral.0, digits.to ds numeral.1), test_fits number parts.1)

  none_there : ((IsNumeral 10 ds × FitsSigned w32 number) → ⊥) → (b : Bool) → test ≡ b → None ≡ cond b (Some number) None
  none_there none true e = absurd (none (passed e))
  none_there none false e = refl

  pub whole_number_read : {E : Type 0} (r : Result ℤ E) → ParsesSigned w32 10 text r → result_ok r ≡ whole_number text
  unfolding whole_number
  whole_number_read (Ok x) h = ap Some h.1 ∙ sym (ap (λ b. cond b (Some number) None) (passes h.0.0 h.0.1))
  whole_number_read (Err e) h = none_there h test refl
