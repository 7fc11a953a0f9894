-- How decimals are printed.
use Rattle.std.specs.Prelude.{ℕ, zero, suc, ◌/◌, ◌%◌, ◌+◌, ◌^◌, List, [], ◌∷◌, ◌++◌, unsigned_abs, decimal}
use Rattle.std.specs.Int.{is_negative}
use Rattle.base_decimal.specs.declared.decimal.Decimal.{Decimal}
use Rattle.base_decimal.specs.Value.{trim}
use Rattle.base_decimal.specs.Numeral.{minus_text}

-- the last digits of n, this many
abbrev pub last_digits : ℕ → ℕ → List ℕ
last_digits zero n = []
last_digits (suc count) n = (48 + n / 10 ^ count % 10) ∷ last_digits count n

-- the decimal sign and the places, if there are any
abbrev pub places_text : ℕ → ℕ → ℕ → List ℕ
places_text mark zero n = []
places_text mark (suc places) n = mark ∷ last_digits (suc places) n

-- the digits of a mantissa with these places
abbrev pub digits_text : ℕ → ℕ → ℕ → List ℕ
digits_text mark n places = decimal (n / 10 ^ places) ++ places_text mark places n

-- a minus where it is negative, the whole part in plain digits, and the decimal sign with the places, of which
-- the last is no zero
unfoldable pub printed : ℕ → Decimal → List ℕ
printed mark d =
    let t = trim (unsigned_abs d.mantissa) d.places in minus_text (is_negative d.mantissa) ++ digits_text mark t.0 t.1
