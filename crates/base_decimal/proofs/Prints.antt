-- The printed text of a canonical decimal reads as it.
use Rattle.std.proofs.Common.{◌≡◌, ℕ, zero, suc, ◌+◌, ◌-◌, ◌*◌, ◌/◌, ◌%◌, ◌^◌, ◌<◌, ◌≤◌, true, List, [], ◌∷◌, ◌++◌, length, refl, sym, ap, subst, ◌∙◌, arith, Some, append-nil}
use Rattle.std.proofs.Math.Nat.{pow-suc, pow-le-pow_right}
use Rattle.std.specs.Prelude.{unsigned_abs, decimal, ◌&&◌, nat_lt, nat_le}
use Rattle.std.specs.Int.{is_negative}
use Rattle.std.specs.List.{list_all}
use Rattle.std.proofs.Common.{rules}
use Rattle.std.proofs.lemmas.Bool.Decides.{nat_tests}
use Rattle.std.proofs.lemmas.Fmt.{digits_decimal, digits_value-decimal, decimal_nonempty}
use Rattle.std.proofs.lemmas.Nat.{div-add-mod', mod-mul-add, mod_below, div_below, pow-add}
use Rattle.std.proofs.lemmas.Str.Parse.{IsNumeralModel, numerals_by_fold}
use Rattle.base_decimal.specs.declared.decimal.Decimal.{Decimal}
use Rattle.base_decimal.specs.Digits.{is_digit, number_after, number_of}
use Rattle.base_decimal.specs.Canonical.{is_canonical, IsCanonical}
use Rattle.base_decimal.specs.Numeral.{Fraction, NoFraction, Places, NoExponent, Numeral, numeral_text, fraction_text, fraction_digits, minus_text, IsNumeral, is_numeral_fraction, numerator, numeral_places, Reads}
use Rattle.base_decimal.specs.laws.Reading.{decimal_of}
use Rattle.base_decimal.specs.Printed.{last_digits, places_text, digits_text, printed}
use Rattle.base_decimal.specs.Value.{SameValue, decimal_from}
use Rattle.base_decimal.proofs.Numerals.{IsMark, reads_only}
use Rattle.base_decimal.proofs.Spans.{and_both, both_and}
use Rattle.base_decimal.proofs.Trims.{ends, trim_ended}
use Rattle.base_decimal.proofs.Values.{decimal_self, ten_pow, same_from}

own : IsNumeralModel (λ digits. list_all is_digit digits ≡ true) (number_after 0)
own = numerals_by_fold _ (search rules) number_after (search rules)

pub number_after-append : (n : ℕ) (a b : List ℕ) → number_after n (a ++ b) ≡ number_after (number_after n a) b
number_after-append n [] b = refl
number_after-append n (c ∷ a) b = number_after-append (n * 10 + (c - 48)) a b

-- ---- the places

one_more : (n w : ℕ) → 0 < w → n % (w * 10) ≡ n / w % 10 * w + n % w
one_more n w h =
    let a : n / w * w + n % w ≡ n = div-add-mod' n w in
    let b : n / w / 10 * 10 + n / w % 10 ≡ n / w = div-add-mod' (n / w) 10 in
    let low : n % w < w = mod_below n w h in
    let digit : n / w % 10 < 10 = mod_below (n / w) 10 (omega arith) in
    let below : n / w % 10 * w + n % w < w * 10 = grind arith in
    let whole : (n / w / 10 * 10 + n / w % 10) * w ≡ n / w * w = ap (λ (x : ℕ). x * w) b in
    let is : n ≡ n / w / 10 * (w * 10) + (n / w % 10 * w + n % w) = omega arith in
    ap (λ (x : ℕ). x % (w * 10)) is ∙ mod-mul-add (n / w / 10) (w * 10) (n / w % 10 * w + n % w) below

last_digits_number : (x q n : ℕ) → number_after x (last_digits q n) ≡ x * 10 ^ q + n % 10 ^ q
last_digits_number x zero n = omega arith
last_digits_number x (suc q) n =
    let digit : (48 + n / 10 ^ q % 10) - 48 ≡ n / 10 ^ q % 10 = omega arith in
    let more : n % 10 ^ suc q ≡ n / 10 ^ q % 10 * 10 ^ q + n % 10 ^ q = ap (λ (y : ℕ). n % y) (pow-suc 10 q) ∙ one_more n (10 ^ q) (ten_pow q) in
    let power : x * 10 ^ suc q ≡ x * (10 ^ q * 10) = ap (λ (y : ℕ). x * y) (pow-suc 10 q) in
    ap (λ (y : ℕ). number_after (x * 10 + y) (last_digits q n)) digit
    ∙ last_digits_number (x * 10 + n / 10 ^ q % 10) q n
    ∙ joined x (n / 10 ^ q % 10) (10 ^ q) (n % 10 ^ q) (x * 10 ^ suc q) (n % 10 ^ suc q) power more
  where
    joined : (x d w r p m : ℕ) → p ≡ x * (w * 10) → m ≡ d * w + r → (x * 10 + d) * w + r ≡ p + m
    joined x d w r p m e f = omega arith

last_digits_all : (q n : ℕ) → list_all is_digit (last_digits q n) ≡ true
last_digits_all zero n = refl
last_digits_all (suc q) n =
    let low : n / 10 ^ q % 10 < 10 = mod_below (n / 10 ^ q) 10 (omega arith) in
    both_and _ _ (digit_test (n / 10 ^ q % 10) low) (last_digits_all q n)
  where
    digit_test : (x : ℕ) → x < 10 → is_digit (48 + x) ≡ true
    digit_test x l = grind (arith, nat_tests)

pub length-last_digits : (q n : ℕ) → length (last_digits q n) ≡ q
length-last_digits zero n = refl
length-last_digits (suc q) n = ap suc (length-last_digits q n)

-- ---- the number that is printed

printed_fraction : ℕ → ℕ → Fraction
printed_fraction zero n = NoFraction
printed_fraction (suc q) n = Places (last_digits (suc q) n)

printed_numeral : ℕ → ℕ → Numeral
printed_numeral n q = record { whole = decimal (n / 10 ^ q); fraction = printed_fraction q n; exponent = NoExponent }

fraction_of : (q n : ℕ) → fraction_digits (printed_fraction q n) ≡ last_digits q n
unfolding printed_fraction
fraction_of zero n = refl
fraction_of (suc q) n = refl

fraction_spelled : (mark q n : ℕ) → fraction_text mark (printed_fraction q n) ≡ places_text mark q n
unfolding printed_fraction
fraction_spelled mark zero n = refl
fraction_spelled mark (suc q) n = refl

fraction_all : (q n : ℕ) → is_numeral_fraction (printed_fraction q n) ≡ true
unfolding printed_fraction
fraction_all zero n = refl
fraction_all (suc q) n = last_digits_all (suc q) n

spelled : (mark n q : ℕ) → digits_text mark n q ≡ numeral_text mark (printed_numeral n q)
unfolding printed_numeral
spelled mark n q = ap (λ (x : List ℕ). decimal (n / 10 ^ q) ++ x) (sym (fraction_spelled mark q n) ∙ sym (append-nil (fraction_text mark (printed_fraction q n))))

is_numeral : (n q : ℕ) → n / 10 ^ q < 2 ^ 64 → IsNumeral (printed_numeral n q)
unfolding printed_numeral
is_numeral n q h = record {
  some_digit = decimal_nonempty (n / 10 ^ q) h;
  whole = digits_decimal own (n / 10 ^ q) h;
  fraction = fraction_all q n;
  exponent = refl;
}

numerator_is : (n q : ℕ) → n / 10 ^ q < 2 ^ 64 → numerator (printed_numeral n q) ≡ n
unfolding printed_numeral
numerator_is n q h =
    let digits : number_of (decimal (n / 10 ^ q) ++ fraction_digits (printed_fraction q n)) ≡ n =
    ap (λ (x : List ℕ). number_of (decimal (n / 10 ^ q) ++ x)) (fraction_of q n)
    ∙ number_after-append 0 (decimal (n / 10 ^ q)) (last_digits q n)
    ∙ ap (λ (x : ℕ). number_after x (last_digits q n)) (digits_value-decimal own (n / 10 ^ q) h)
    ∙ last_digits_number (n / 10 ^ q) q n ∙ div-add-mod' n (10 ^ q) in
    ap (λ (x : ℕ). x * 10 ^ 0) digits ∙ omega arith

places_is : (n q : ℕ) → numeral_places (printed_numeral n q) ≡ q
unfolding printed_numeral
places_is n q = ap (λ (x : List ℕ). length x + 0) (fraction_of q n) ∙ ap (λ (x : ℕ). x + 0) (length-last_digits q n) ∙ omega arith

-- ---- the law

kept_ends : (d : Decimal) → IsCanonical d → ends (unsigned_abs d.mantissa) d.places ≡ true
unfolding is_canonical
kept_ends d kept = (and_both (nat_le d.places 15 && nat_lt (unsigned_abs d.mantissa) (10 ^ (15 + d.places))) _ kept).1

kept_whole : (d : Decimal) → IsCanonical d → unsigned_abs d.mantissa / 10 ^ d.places < 2 ^ 64
unfolding is_canonical
kept_whole d kept =
    let tests = and_both (nat_le d.places 15 && nat_lt (unsigned_abs d.mantissa) (10 ^ (15 + d.places))) _ kept in
    let size = (and_both (nat_le d.places 15) (nat_lt (unsigned_abs d.mantissa) (10 ^ (15 + d.places))) tests.0).1 in
    let small : unsigned_abs d.mantissa < 10 ^ (15 + d.places) = grind (arith, nat_tests, size) in
    let parts : 10 ^ (15 + d.places) ≡ 10 ^ 15 * 10 ^ d.places = pow-add 10 15 d.places in
    let below : unsigned_abs d.mantissa < 10 ^ 15 * 10 ^ d.places = omega arith in
    let whole : unsigned_abs d.mantissa / 10 ^ d.places < 10 ^ 15 = div_below (unsigned_abs d.mantissa) (10 ^ d.places) (10 ^ 15) (ten_pow d.places) below in
    omega arith

pub printed_reads : (mark : ℕ) (d : Decimal) → IsCanonical d → Reads mark (printed mark d) d
unfolding printed
printed_reads mark d kept =
    let n = unsigned_abs d.mantissa in
    let q = d.places in
    let s = is_negative d.mantissa in
    let h = kept_whole d kept in
    record {
      negative = s;
      numeral = printed_numeral n q;
      written = ap (λ (t : ℕ × ℕ). minus_text s ++ digits_text mark t.0 t.1) (trim_ended n q (kept_ends d kept))
          ∙ ap (λ (x : List ℕ). minus_text s ++ x) (spelled mark n q);
      is_numeral = is_numeral n q h;
      is_value = subst (λ (x : Decimal). SameValue x (decimal_from s (numerator (printed_numeral n q)) (numeral_places (printed_numeral n q)))) (sym (decimal_self d))
          (same_from s n q (numerator (printed_numeral n q)) (numeral_places (printed_numeral n q))
          (ap (λ (x : ℕ). n * 10 ^ x) (places_is n q) ∙ ap (λ (x : ℕ). x * 10 ^ q) (sym (numerator_is n q h))));
      is_canonical = kept;
    }

-- what is printed is read as the decimal that was printed
pub printed_back : (mark : ℕ) → IsMark mark → (d : Decimal) → IsCanonical d → decimal_of mark (printed mark d) ≡ Some d
printed_back mark m d kept = reads_only mark m (printed mark d) d (printed_reads mark d kept)

-- ---- digits far behind the point

pub far_whole : (n count : ℕ) → n < 2 ^ 128 → 39 ≤ count → n / 10 ^ count ≡ 0
far_whole n count h l =
    let most : 10 ^ 39 ≤ 10 ^ count = pow-le-pow_right {n = 10} (omega arith) l in
    let none : n / 10 ^ count < 1 = div_below n (10 ^ count) 1 (ten_pow count) (omega arith) in
    omega arith
