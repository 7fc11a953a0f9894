-- A number without places.
use Rattle.std.proofs.Common.{◌≡◌, ℕ, ℤ, pos, negsuc, suc, false, ◌/◌, ◌^◌, ◌∷◌, List, ap, ◌∙◌, append-nil, arith}
use Rattle.std.specs.Prelude.{decimal}
use Rattle.std.specs.Fmt.{signed_decimal}
use Rattle.std.specs.Int.{is_negative}
use Rattle.std.proofs.lemmas.Bool.Decides.{nat_tests}
use Rattle.base_decimal.specs.declared.decimal.Decimal.{Decimal}
use Rattle.base_decimal.specs.Printed.{printed, digits_text}

undivided : (n : ℕ) → n / 10 ^ 0 ≡ n
undivided n = omega arith

whole_digits : (mark n : ℕ) → digits_text mark n 0 ≡ decimal n
whole_digits mark n = append-nil (decimal (n / 10 ^ 0)) ∙ ap decimal (undivided n)

none_negative : (n : ℕ) → is_negative (pos n) ≡ false
none_negative n = grind (arith, nat_tests)

whole : (mark : ℕ) (mantissa : ℤ) → printed mark (record { mantissa = mantissa; places = 0 }) ≡ signed_decimal mantissa
unfolding printed
whole mark (pos n) = rw (none_negative n) (whole_digits mark n)
whole mark (negsuc n) = ap (λ (text : List ℕ). 45 ∷ text) (whole_digits mark (suc n))

-- it is printed as its mantissa
pub whole_number : (mark : ℕ) (d : Decimal) → d.places ≡ 0 → printed mark d ≡ signed_decimal d.mantissa
whole_number mark d none = ap (λ (places : ℕ). printed mark (record d { places = places })) none ∙ whole mark d.mantissa
