-- How numbers are written: digits, maybe the decimal sign and digits, maybe an exponent.
use Rattle.std.specs.Prelude.{◌≡◌, ℕ, ◌+◌, ◌*◌, ◌^◌, ◌<◌, Bool, true, false, ◌&&◌, ◌||◌, ◌==◌, nat_le, List, [], ◌∷◌, ◌++◌, length, IsTrue}
use Rattle.std.specs.List.{list_all}
use Rattle.base_decimal.specs.declared.decimal.Decimal.{Decimal}
use Rattle.base_decimal.specs.declared.numeral.Scale.{Scale}
use Rattle.base_decimal.specs.declared.numeral.Sign.{Sign}
use Rattle.base_decimal.specs.declared.numeral.Sign.TheVariants.{Absent, Plus, Minus}
use Rattle.base_decimal.specs.Digits.{is_digit, number_of}
use Rattle.base_decimal.specs.Canonical.{IsCanonical}
use Rattle.base_decimal.specs.Value.{SameValue, decimal_from}

-- ---- the parts of a number

pub data Fraction : Type 0 where
  NoFraction : Fraction
  Places : List ℕ → Fraction

-- the letter, a sign and digits
pub data Exponent : Type 0 where
  NoExponent : Exponent
  Power : ℕ → Sign → List ℕ → Exponent

pub record Numeral : Type 0 where
  pub whole : List ℕ
  pub fraction : Fraction
  pub exponent : Exponent

-- ---- their text, where `mark` is the decimal sign

abbrev pub fraction_text : ℕ → Fraction → List ℕ
fraction_text mark NoFraction = []
fraction_text mark (Places digits) = mark ∷ digits

abbrev pub sign_text : Sign → List ℕ
sign_text Absent = []
sign_text Plus = 43 ∷ []
sign_text Minus = 45 ∷ []

abbrev pub exponent_text : Exponent → List ℕ
exponent_text NoExponent = []
exponent_text (Power letter sign digits) = letter ∷ (sign_text sign ++ digits)

abbrev pub numeral_text : ℕ → Numeral → List ℕ
numeral_text mark n = n.whole ++ (fraction_text mark n.fraction ++ exponent_text n.exponent)

-- ---- which parts a number may have

-- `e` or `E`
abbrev pub is_exponent_letter : ℕ → Bool
is_exponent_letter b = b == 101 || b == 69

abbrev pub is_numeral_fraction : Fraction → Bool
is_numeral_fraction NoFraction = true
is_numeral_fraction (Places digits) = list_all is_digit digits

-- one to three digits
abbrev pub is_exponent_len : ℕ → Bool
is_exponent_len len = nat_le 1 len && nat_le len 3

abbrev pub is_numeral_exponent : Exponent → Bool
is_numeral_exponent NoExponent = true
is_numeral_exponent (Power letter sign digits) =
    is_exponent_letter letter && (is_exponent_len (length digits) && list_all is_digit digits)

pub record IsNumeral (n : Numeral) : Type 0 where
  pub some_digit : 0 < length n.whole
  pub whole : IsTrue (list_all is_digit n.whole)
  pub fraction : IsTrue (is_numeral_fraction n.fraction)
  pub exponent : IsTrue (is_numeral_exponent n.exponent)

-- ---- its value

abbrev pub fraction_digits : Fraction → List ℕ
fraction_digits NoFraction = []
fraction_digits (Places digits) = digits

-- the power of ten by which an exponent multiplies, and the one by which it divides
abbrev pub sign_scale : Sign → ℕ → Scale
sign_scale Absent n = record { up = n; down = 0 }
sign_scale Plus n = record { up = n; down = 0 }
sign_scale Minus n = record { up = 0; down = n }

abbrev pub exponent_scale : Exponent → Scale
exponent_scale NoExponent = record { up = 0; down = 0 }
exponent_scale (Power letter sign digits) = sign_scale sign (number_of digits)

-- all digits of the number times the power above
abbrev pub numerator : Numeral → ℕ
numerator n = number_of (n.whole ++ fraction_digits n.fraction) * 10 ^ (exponent_scale n.exponent).up

-- over 10 to the power of these places
abbrev pub numeral_places : Numeral → ℕ
numeral_places n = length (fraction_digits n.fraction) + (exponent_scale n.exponent).down

-- ---- which text is which number

abbrev pub minus_text : Bool → List ℕ
minus_text true = 45 ∷ []
minus_text false = []

-- the text is a number, maybe after a minus, and the canonical decimal is its value
pub record Reads (mark : ℕ) (text : List ℕ) (d : Decimal) : Type 0 where
  pub negative : Bool
  pub numeral : Numeral
  pub written : text ≡ minus_text negative ++ numeral_text mark numeral
  pub is_numeral : IsNumeral numeral
  pub is_value : SameValue d (decimal_from negative (numerator numeral) (numeral_places numeral))
  pub is_canonical : IsCanonical d
