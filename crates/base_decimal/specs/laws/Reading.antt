-- The decimal that a text is read as, found from its front. `Decimal::read` says that it is the one of the relation `Reads`.
use Rattle.std.specs.Prelude.{ℕ, Bool, true, false, ◌==◌, nat_le, List, [], ◌∷◌, length, Option, Some, None, if◌then◌else◌}
use Rattle.std.specs.Option.{option_map, option_and_then}
use Rattle.base_decimal.specs.declared.decimal.Decimal.{Decimal}
use Rattle.base_decimal.specs.declared.numeral.Sign.{Sign}
use Rattle.base_decimal.specs.declared.numeral.Sign.TheVariants.{Absent, Plus, Minus}
use Rattle.base_decimal.specs.Digits.{is_digit, span}
use Rattle.base_decimal.specs.Value.{canonical_of}
use Rattle.base_decimal.specs.Numeral.{Fraction, Exponent, Numeral, is_exponent_letter, is_exponent_len, numerator, numeral_places, NoFraction, Places, NoExponent, Power}

abbrev pub fraction_at : ℕ → List ℕ → Fraction × List ℕ
fraction_at mark [] = (NoFraction, [])
fraction_at mark (b ∷ text) =
    if b == mark then (let s = span is_digit text in (Places s.0, s.1)) else (NoFraction, b ∷ text)

abbrev pub sign_at : List ℕ → Sign × List ℕ
sign_at [] = (Absent, [])
sign_at (b ∷ text) = if b == 43 then (Plus, text) else (if b == 45 then (Minus, text) else (Absent, b ∷ text))

-- an exponent after its letter
abbrev pub exponent_after : ℕ → Sign × List ℕ → Option (Exponent × List ℕ)
exponent_after letter signed =
    let s = span is_digit signed.1 in
    if is_exponent_len (length s.0) then Some (Power letter signed.0 s.0, s.1) else None

abbrev pub exponent_at : List ℕ → Option (Exponent × List ℕ)
exponent_at [] = Some (NoExponent, [])
exponent_at (b ∷ text) =
    if is_exponent_letter b then exponent_after b (sign_at text) else Some (NoExponent, b ∷ text)

-- the number at the front of a text, and what follows it
unfoldable pub numeral_at : ℕ → List ℕ → Option (Numeral × List ℕ)
numeral_at mark text =
    let w = span is_digit text in
    let f = fraction_at mark w.1 in
    if nat_le 1 (length w.0)
    then option_map (λ e. (record { whole = w.0; fraction = f.0; exponent = e.0 }, e.1)) (exponent_at f.1)
    else None

-- the canonical decimal that a number with a sign writes, if nothing follows it and there is one
abbrev pub whole_value : Bool → Numeral × List ℕ → Option Decimal
whole_value negative (n, []) = canonical_of negative (numerator n) (numeral_places n)
whole_value negative (n, _ ∷ _) = None

abbrev pub value_at : ℕ → Bool → List ℕ → Option Decimal
value_at mark negative text = option_and_then (whole_value negative) (numeral_at mark text)

-- the canonical decimal that a whole text writes, if there is one
unfoldable pub decimal_of : ℕ → List ℕ → Option Decimal
decimal_of mark [] = None
decimal_of mark (b ∷ text) = if b == 45 then value_at mark true text else value_at mark false (b ∷ text)
