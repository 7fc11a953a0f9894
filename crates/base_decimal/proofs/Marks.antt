-- The decimal signs of the locales.
use Rattle.std.proofs.Common.{◌≡◌, ℕ, ◌<◌, List, Option, Some, None, refl, arith}
use Rattle.std.specs.Prelude.{IfSome}
use Rattle.base_tables.specs.declared.locale.Locale.{Locale}
use Rattle.base_tables.specs.declared.locale.Locale.TheVariants.{En, De, Fr, Es}
use Rattle.base_tables.specs.Locale.{decimal_sign}
use Rattle.base_decimal.specs.declared.decimal.Decimal.{Decimal}
use Rattle.base_decimal.specs.Canonical.{IsCanonical}
use Rattle.base_decimal.specs.Numeral.{Reads}
use Rattle.base_decimal.specs.laws.Reading.{decimal_of}
use Rattle.base_decimal.specs.Printed.{printed}
use Rattle.base_decimal.proofs.Numerals.{IsMark, reads_only, reads_found}
use Rattle.base_decimal.proofs.Prints.{printed_back}

pub sign_is_mark : (locale : Locale) → IsMark (decimal_sign locale)
sign_is_mark En = record { no_digit = refl; no_letter = refl }
sign_is_mark De = record { no_digit = refl; no_letter = refl }
sign_is_mark Fr = record { no_digit = refl; no_letter = refl }
sign_is_mark Es = record { no_digit = refl; no_letter = refl }

pub sign_is_ascii : (locale : Locale) → decimal_sign locale < 128
sign_is_ascii En = omega arith
sign_is_ascii De = omega arith
sign_is_ascii Fr = omega arith
sign_is_ascii Es = omega arith

read_found : (locale : Locale) (text : List ℕ) (o : Option Decimal) → o ≡ decimal_of (decimal_sign locale) text → IfSome o (Reads (decimal_sign locale) text)
read_found locale text None e = tt
read_found locale text (Some d) e = reads_found (decimal_sign locale) text d (let f : decimal_of (decimal_sign locale) text ≡ Some d = cc in f)

pub found_reads : (locale : Locale) (text : List ℕ) → IfSome (decimal_of (decimal_sign locale) text) (Reads (decimal_sign locale) text)
found_reads locale text = read_found locale text (decimal_of (decimal_sign locale) text) refl

read_canonical : (mark : ℕ) (text : List ℕ) (o : Option Decimal) → o ≡ decimal_of mark text → IfSome o IsCanonical
read_canonical mark text None e = tt
read_canonical mark text (Some d) e = (reads_found mark text d (let f : decimal_of mark text ≡ Some d = cc in f)).is_canonical

pub found_canonical : (mark : ℕ) (text : List ℕ) → IfSome (decimal_of mark text) IsCanonical
found_canonical mark text = read_canonical mark text (decimal_of mark text) refl

pub only_reads : (locale : Locale) (text : List ℕ) (d : Decimal) → Reads (decimal_sign locale) text d → decimal_of (decimal_sign locale) text ≡ Some d
only_reads locale text d = reads_only (decimal_sign locale) (sign_is_mark locale) text d

pub prints_back : (locale : Locale) (d : Decimal) → IsCanonical d → decimal_of (decimal_sign locale) (printed (decimal_sign locale) d) ≡ Some d
prints_back locale d = printed_back (decimal_sign locale) (sign_is_mark locale) d

pub ruleset printings = (sign_is_ascii, prints_back)

pub ruleset readings = (found_reads, found_canonical)
