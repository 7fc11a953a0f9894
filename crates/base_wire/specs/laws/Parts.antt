-- The laws of the bytes of booleans, error values and decimals.
use Rattle.std.proofs.Common.{◌≡◌, ◌+◌, ◌^◌, ◌<◌, ◌≤◌, ◌&&◌, Bool, true, false, ℕ, List, [], ◌∷◌, length, Option, Some, None, refl, arith}
use Rattle.std.specs.Prelude.{FitsSigned, unsigned_abs}
use Rattle.std.specs.Int.{w32, w64, w128, to_be_bytes}
use Rattle.std.proofs.lemmas.Bool.{leb-true, ltb-true}
use Rattle.std.proofs.lemmas.Int.{fits_signed_from_abs}
use Rattle.std.proofs.Math.Nat.{pow-le-pow_right}
use Rattle.base_tables.specs.declared.Error.{Error}
use Rattle.base_tables.specs.declared.Error.TheVariants.{Ref, Name, Value, DivisionByZero, NotAvailable, Number, General, NotImplemented, Spill, Calc, Circular, Null}
use Rattle.base_tables.specs.Error.{all_errors, error_code, error_of_code}
use Rattle.base_tables.specs.laws.Tables.{found_number}
use Rattle.base_decimal.specs.declared.Decimal.{Decimal}
use Rattle.base_decimal.specs.Canonical.{is_canonical, IsCanonical}
use Rattle.base_wire.specs.laws.Reading.{decoded, byte_at, number_at, signed_at, text_at, booleans, boolean_at, error_at, decimal_made, decimal_at}
use Rattle.base_wire.specs.Encoding.{encode_code, boolean_code, encode_signed, encode_text, encode_option, FitsText}
use Rattle.base_wire.specs.laws.Format.{Format}
use Rattle.base_wire.specs.Parts.{encode_decimal}
use Rattle.base_wire.specs.laws.Again.{ReadsAgain, both_again, map_again, check_again, byte_again, coded_again, code_again, wide32, wide64, wide128, number_again, signed_again, text_again}
use Rattle.base_wire.specs.Encoding.{Any}
use Rattle.base_wire.specs.laws.Encoded.{ReadsEncoded, both_encoded, map_encoded, fits_otherwise, check_encoded, byte_encoded, coded_encoded, code_encoded, back32, back64, back128, number_encoded, signed_encoded, text_encoded}
use Rattle.base_wire.specs.laws.Refusals.{IsPlain, both_plain, map_plain, check_plain, byte_plain, coded_plain, code_plain, number_plain, signed_plain, text_plain}

-- ---- booleans

boolean_known : (x : Bool) → decoded boolean_code booleans (boolean_code x) ≡ Some x
boolean_known false = refl
boolean_known true = refl

pub boolean_again : ReadsAgain Any (encode_code boolean_code) boolean_at
boolean_again = code_again boolean_code booleans boolean_known

pub boolean_encoded : ReadsEncoded Any (encode_code boolean_code) boolean_at
boolean_encoded = code_encoded boolean_code booleans

pub boolean_plain : IsPlain boolean_at
boolean_plain = code_plain boolean_code booleans

-- ---- error values

error_known : (x : Error) → error_of_code (error_code x) ≡ Some x
error_known Ref = refl
error_known Name = refl
error_known Value = refl
error_known DivisionByZero = refl
error_known NotAvailable = refl
error_known Number = refl
error_known General = refl
error_known NotImplemented = refl
error_known Spill = refl
error_known Calc = refl
error_known Circular = refl
error_known Null = refl

pub error_again : ReadsAgain Any (encode_code error_code) error_at
error_again = coded_again error_code error_of_code error_known

pub error_encoded : ReadsEncoded Any (encode_code error_code) error_at
error_encoded = coded_encoded error_code error_of_code (found_number error_code all_errors refl)

pub error_plain : IsPlain error_at
error_plain = coded_plain error_of_code

-- ---- decimals

both_hold : (a b c : Bool) → a && b && c ≡ true → (a ≡ true) × (b ≡ true)
both_hold true true c h = (refl, refl)
both_hold true false c h = absurd cc
both_hold false b c h = absurd cc

kept_places : (d : Decimal) → IsCanonical d → d.places ≤ 15
unfolding is_canonical
kept_places d kept = leb-true d.places 15 (both_hold _ _ _ kept).0

kept_mantissa : (d : Decimal) → IsCanonical d → FitsSigned w128 d.mantissa
unfolding is_canonical
kept_mantissa d kept =
    let few : 15 + d.places ≤ 30 = omega (arith, kept_places d kept) in
    let below : unsigned_abs d.mantissa < 10 ^ (15 + d.places) = ltb-true (unsigned_abs d.mantissa) (10 ^ (15 + d.places)) (both_hold _ _ _ kept).1 in
    let most : 10 ^ (15 + d.places) ≤ 10 ^ 30 = pow-le-pow_right (omega arith) few in
    let within : unsigned_abs d.mantissa < 2 ^ 127 = omega arith in
    fits_signed_from_abs w128 d.mantissa within

pub decimal_again : ReadsAgain IsCanonical encode_decimal decimal_at
unfolding decimal_at encode_decimal
decimal_again = record {
  again = λ x rest fits.
      (check_again (map_again (both_again (signed_again wide128) byte_again) decimal_made (λ d. (d.mantissa, d.places)) (λ y. refl)) is_canonical).again x rest
      ((kept_mantissa x fits, omega (arith, kept_places x fits)), fits);
}

pub decimal_encoded : ReadsEncoded IsCanonical encode_decimal decimal_at
unfolding decimal_at encode_decimal
decimal_encoded =
    fits_otherwise (λ x fits. fits.1)
    (check_encoded (map_encoded (both_encoded (signed_encoded back128) byte_encoded) decimal_made (λ d. (d.mantissa, d.places)) (λ x. refl)) is_canonical)

pub decimal_plain : IsPlain decimal_at
unfolding decimal_at
decimal_plain = check_plain is_canonical (map_plain decimal_made (both_plain (signed_plain w128) byte_plain))

-- ---- all three laws of each

pub byte_format : Format (λ b. b < 2 ^ 8) (λ b. b ∷ []) byte_at
byte_format = record { again = byte_again; encoded = byte_encoded; plain = byte_plain }

pub short_format : Format (λ n. n < 2 ^ 32) (to_be_bytes w32) (number_at w32)
short_format = record { again = number_again wide32; encoded = number_encoded back32; plain = number_plain w32 }

pub long_format : Format (λ n. n < 2 ^ 64) (to_be_bytes w64) (number_at w64)
long_format = record { again = number_again wide64; encoded = number_encoded back64; plain = number_plain w64 }

pub signed_format : Format (FitsSigned w32) (encode_signed w32) (signed_at w32)
signed_format = record { again = signed_again wide32; encoded = signed_encoded back32; plain = signed_plain w32 }

pub boolean_format : Format Any (encode_code boolean_code) boolean_at
boolean_format = record { again = boolean_again; encoded = boolean_encoded; plain = boolean_plain }

pub error_format : Format Any (encode_code error_code) error_at
error_format = record { again = error_again; encoded = error_encoded; plain = error_plain }

pub decimal_format : Format IsCanonical encode_decimal decimal_at
decimal_format = record { again = decimal_again; encoded = decimal_encoded; plain = decimal_plain }

pub text_format : Format FitsText encode_text text_at
text_format = record { again = text_again; encoded = text_encoded; plain = text_plain }

pub decimal_some : (x : Decimal) → 1 ≤ length (encode_decimal x)
unfolding encode_decimal
decimal_some x = omega arith

pub option_some : {A : Type 0} (s : A → List ℕ) (o : Option A) → 1 ≤ length (encode_option s o)
option_some s None = omega arith
option_some s (Some x) = omega arith
