-- A printed number that is not negative spells its token.
use Rattle.std.proofs.Common.{◌≡◌, ℕ, ◌+◌, ◌*◌, ◌/◌, ◌^◌, ◌<◌, Bool, true, false, List, [], ◌∷◌, ◌++◌, length, refl, sym, ap, subst, ◌∙◌, arith, rules}
use Rattle.std.proofs.Math.Nat.{one-le-pow}
use Rattle.std.specs.Prelude.{ℤ, pos, negsuc, neg_ℤ, not, ◌==◌, ◌&&◌, ◌||◌, nat_lt, nat_le, int_le, unsigned_abs, decimal, None}
use Rattle.std.specs.Int.{is_negative}
use Rattle.std.specs.List.{list_all}
use Rattle.std.specs.Str.{chars}
use Rattle.std.proofs.lemmas.Bool.{and_from, and_parts}
use Rattle.std.proofs.lemmas.Bool.Decides.{nat_tests}
use Rattle.std.proofs.lemmas.Fmt.{digits_decimal, decimal_nonempty}
use Rattle.std.proofs.lemmas.Nat.{div_below, pow-add}
use Rattle.std.proofs.lemmas.Str.{encodes-IsAscii}
use Rattle.std.proofs.lemmas.Str.Parse.{IsNumeralModel, numerals_by_fold}
use Rattle.base_tables.specs.declared.Language.{Language}
use Rattle.base_tables.specs.declared.Locale.{Locale}
use Rattle.base_tables.specs.declared.Locale.TheVariants.{En, De, Fr, Es}
use Rattle.base_tables.specs.Column.{is_letter}
use Rattle.base_tables.specs.Locale.{decimal_sign}
use Rattle.base_decimal.specs.declared.Decimal.{Decimal}
use Rattle.base_decimal.specs.declared.numeral.Sign.{Sign}
use Rattle.base_decimal.specs.declared.numeral.Sign.TheVariants.{Absent, Plus, Minus}
use Rattle.base_decimal.specs.Digits.{is_digit, number_after}
use Rattle.base_decimal.specs.Canonical.{is_canonical}
use Rattle.base_decimal.specs.Numeral.{Fraction, NoFraction, Places, Exponent, NoExponent, Power, Numeral, IsNumeral, minus_text, numeral_text, fraction_text}
use Rattle.base_decimal.specs.Numeral.{exponent_text, sign_text, is_numeral_fraction, is_numeral_exponent, is_exponent_letter, is_exponent_len, Reads}
use Rattle.base_decimal.specs.Printed.{digits_text, places_text, printed}
use Rattle.base_decimal.specs.Value.{trim}
use Rattle.base_decimal.proofs.Prints.{printed_reads}
use Rattle.base_decimal.proofs.Trims.{ends, trim_ended}
use Rattle.formula_grammar.specs.declared.Token.TheVariants as t
use Rattle.formula_read.specs.Characters.{Text}
use Rattle.formula_read.specs.Lexicon.{IsNumber, starts_digit, NoCell}
use Rattle.formula_round.proofs.Characters.{is_ascii, each_ascii, ends_number, ends_cell}
use Rattle.formula_round.proofs.Fronts.{weaker, all_joined, no_cell_here}
use Rattle.formula_round.proofs.Words.{no_colon_no_range}
use Rattle.formula_round.proofs.Parts.{Part, NoColon, starts_operand, StartsOperand, ascii_chars, ascii_token}

-- ---- the characters of a number

-- ASCII that is no colon
plain : ℕ → Bool
plain c = is_ascii c && not (c == 58)

plain_digit : (c : ℕ) → is_digit c ≡ true → plain c ≡ true
unfolding plain
plain_digit c e = grind (arith, nat_tests, e)

plain_letter : (c : ℕ) → is_exponent_letter c ≡ true → plain c ≡ true
unfolding plain
plain_letter c e = grind (arith, nat_tests, e)

plain_sign : (sign : Sign) → list_all plain (sign_text sign) ≡ true
unfolding plain
plain_sign Absent = refl
plain_sign Plus = refl
plain_sign Minus = refl

module _ (mark : ℕ) (plain_mark : plain mark ≡ true) where
  plain_fraction : (f : Fraction) → is_numeral_fraction f ≡ true → list_all plain (fraction_text mark f) ≡ true
  plain_fraction NoFraction e = refl
  plain_fraction (Places digits) e = and_from (plain mark) _ plain_mark (weaker is_digit plain plain_digit digits e)

  plain_exponent : (x : Exponent) → is_numeral_exponent x ≡ true → list_all plain (exponent_text x) ≡ true
  plain_exponent NoExponent e = refl
  plain_exponent (Power letter sign digits) e =
      let k = and_parts (is_exponent_letter letter) _ e in
      let all = (and_parts (is_exponent_len (length digits)) (list_all is_digit digits) k.1).1 in
      and_from (plain letter) _ (plain_letter letter k.0)
      (all_joined plain (sign_text sign) digits (plain_sign sign) (weaker is_digit plain plain_digit digits all))

  plain_numeral : (n : Numeral) → IsNumeral n → list_all plain (numeral_text mark n) ≡ true
  plain_numeral n is =
      all_joined plain n.whole (fraction_text mark n.fraction ++ exponent_text n.exponent) (weaker is_digit plain plain_digit n.whole is.whole)
      (all_joined plain (fraction_text mark n.fraction) (exponent_text n.exponent) (plain_fraction n.fraction is.fraction)
      (plain_exponent n.exponent is.exponent))

plain_decimal_sign : (locale : Locale) → plain (decimal_sign locale) ≡ true
unfolding plain
plain_decimal_sign En = refl
plain_decimal_sign De = refl
plain_decimal_sign Fr = refl
plain_decimal_sign Es = refl

-- ---- a number without a minus begins with a digit

own : IsNumeralModel (λ digits. list_all is_digit digits ≡ true) (number_after 0)
own = numerals_by_fold _ (search rules) number_after (search rules)

starts : (digits rest : Text) → 0 < length digits → list_all is_digit digits ≡ true → starts_digit (digits ++ rest) ≡ true
starts [] rest some all = absurd (omega arith)
starts (c ∷ digits) rest some all = digit c (and_parts (is_digit c) _ all).0
  where
    digit : (c : ℕ) → is_digit c ≡ true → starts_digit (c ∷ digits ++ rest) ≡ true
    digit c e = grind (arith, nat_tests, e)

ten_pow : (p : ℕ) → 0 < 10 ^ p
ten_pow p = omega (arith, one-le-pow p 10 (omega arith))

kept_ends : (d : Decimal) → is_canonical d ≡ true → ends (unsigned_abs d.mantissa) d.places ≡ true
unfolding is_canonical
kept_ends d canonical = (and_parts (nat_le d.places 15 && nat_lt (unsigned_abs d.mantissa) (10 ^ (15 + d.places))) _ canonical).1

kept_whole : (d : Decimal) → is_canonical d ≡ true → unsigned_abs d.mantissa / 10 ^ d.places < 2 ^ 64
unfolding is_canonical
kept_whole d canonical =
    let tests = and_parts (nat_le d.places 15 && nat_lt (unsigned_abs d.mantissa) (10 ^ (15 + d.places))) _ canonical in
    let size = (and_parts (nat_le d.places 15) (nat_lt (unsigned_abs d.mantissa) (10 ^ (15 + d.places))) tests.0).1 in
    let small : unsigned_abs d.mantissa < 10 ^ (15 + d.places) = grind (arith, nat_tests, size) in
    let parts : 10 ^ (15 + d.places) ≡ 10 ^ 15 * 10 ^ d.places = pow-add 10 15 d.places in
    let below : unsigned_abs d.mantissa < 10 ^ 15 * 10 ^ d.places = omega arith in
    let whole : unsigned_abs d.mantissa / 10 ^ d.places < 10 ^ 15 = div_below (unsigned_abs d.mantissa) (10 ^ d.places) (10 ^ 15) (ten_pow d.places) below in
    omega arith

no_minus : (m : ℤ) → int_le (pos 0) m ≡ true → is_negative m ≡ false
no_minus (pos n) e = grind (arith, nat_tests)
no_minus (negsuc n) e = absurd cc

printed_starts : (mark : ℕ) (d : Decimal) → is_canonical d ≡ true → int_le (pos 0) d.mantissa ≡ true → starts_digit (printed mark d) ≡ true
unfolding printed
printed_starts mark d canonical low =
    let n = unsigned_abs d.mantissa in
    let q = d.places in
    let whole = kept_whole d canonical in
    ap starts_digit
    (ap (λ (b : Bool). minus_text b ++ digits_text mark (trim n q).0 (trim n q).1) (no_minus d.mantissa low)
    ∙ ap (λ (t : ℕ × ℕ). digits_text mark t.0 t.1) (trim_ended n q (kept_ends d canonical)))
    ∙ starts (decimal (n / 10 ^ q)) (places_text mark q n) (decimal_nonempty (n / 10 ^ q) whole) (digits_decimal own (n / 10 ^ q) whole)

printed_plain : (mark : ℕ) → plain mark ≡ true → (d : Decimal) → is_canonical d ≡ true → int_le (pos 0) d.mantissa ≡ true → list_all plain (printed mark d) ≡ true
printed_plain mark plain_mark d canonical low = by r.negative r.written
  where
    r : Reads mark (printed mark d) d
    r = printed_reads mark d canonical

    by : (negative : Bool) → printed mark d ≡ minus_text negative ++ numeral_text mark r.numeral → list_all plain (printed mark d) ≡ true
    by true e = absurd (let x : false ≡ true = sym (ap starts_digit e) ∙ printed_starts mark d canonical low in cc)
    by false e = ap (list_all plain) e ∙ plain_numeral mark plain_mark r.numeral r.is_numeral

-- ---- tokens

plain_ascii : (c : ℕ) → plain c ≡ true → is_ascii c ≡ true
unfolding plain
plain_ascii c e = (and_parts (is_ascii c) _ e).0

plain_no_colon : (c : ℕ) → plain c ≡ true → not (c == 58) ≡ true
unfolding plain
plain_no_colon c e = (and_parts (is_ascii c) _ e).1

module _ {locale : Locale} {language : Language} where
  pub number_part : (d : Decimal) → is_canonical d ≡ true → int_le (pos 0) d.mantissa ≡ true
      → Part locale language (NoColon locale) (printed (decimal_sign locale) d) (t.Number d ∷ [])
  number_part d canonical low =
      let text : Text = printed (decimal_sign locale) d in
      let all = printed_plain (decimal_sign locale) (plain_decimal_sign locale) d canonical low in
      let ascii : list_all is_ascii text ≡ true = weaker plain is_ascii plain_ascii text all in
      let no_colon = weaker plain (λ c. not (c == 58)) plain_no_colon text all in
      let encoded = encodes-IsAscii text (each_ascii text ascii) in
      let spells : IsNumber locale d text = record {
        starts = printed_starts (decimal_sign locale) d canonical low;
        reads = subst (λ (x : Text). Reads (decimal_sign locale) x d) (sym encoded) (printed_reads (decimal_sign locale) d canonical);
      } in
      ascii_token locale language (NoColon locale) (t.Number d) text ascii spells
      (λ rest after. (ends_number locale rest after.0, no_colon_no_range text rest no_colon (ends_cell locale rest after.0) after.1))

-- neither a cell nor an operator begins with a number that is not negative
digit_first : (s rest : Text) → starts_digit s ≡ true → NoCell None (s ++ rest) × (starts_operand s ≡ true)
digit_first [] rest e = absurd cc
digit_first (c ∷ s) rest e = (no_cell_here c (s ++ rest) (no_cell c e), other c e)
  where
    no_cell : (c : ℕ) → is_digit c ≡ true → is_letter c || c == 36 ≡ false
    no_cell c h = grind (arith, nat_tests, h)

    other : (c : ℕ) → is_digit c ≡ true → not (c == 61 || c == 62) ≡ true
    other c h = grind (arith, nat_tests, h)

pub number_first : (locale : Locale) (d : Decimal) → is_canonical d ≡ true → int_le (pos 0) d.mantissa ≡ true → (rest : Text)
    → NoCell None (chars (printed (decimal_sign locale) d) ++ rest) × StartsOperand (printed (decimal_sign locale) d)
number_first locale d canonical low rest =
    let text : Text = printed (decimal_sign locale) d in
    let all = weaker plain is_ascii plain_ascii text (printed_plain (decimal_sign locale) (plain_decimal_sign locale) d canonical low) in
    let first = digit_first text rest (printed_starts (decimal_sign locale) d canonical low) in
    (subst (λ (s : Text). NoCell None (s ++ rest)) (sym (ascii_chars text all)) first.0, ap starts_operand (ascii_chars text all) ∙ first.1)

-- ---- negative numbers

not_below : (n : ℕ) → int_le (pos 0) (pos n) ≡ false → ⊥
not_below n e = let x : nat_le 0 n ≡ true = grind (arith, nat_tests) in grind (arith, nat_tests, e)

pub opposite_low : (m : ℤ) → int_le (pos 0) m ≡ false → int_le (pos 0) (neg_ℤ m) ≡ true
opposite_low (pos n) e = absurd (not_below n e)
opposite_low (negsuc n) e = grind (arith, nat_tests)

-- a negative number is printed as a minus and its opposite
pub negative_printed : (mark : ℕ) (d : Decimal) → int_le (pos 0) d.mantissa ≡ false
    → printed mark d ≡ 45 ∷ printed mark (record d { mantissa = neg_ℤ d.mantissa })
unfolding printed
negative_printed mark d low = go d.mantissa d.places low
  where
    text : ℤ → ℕ → List ℕ
    text m q = let t = trim (unsigned_abs m) q in minus_text (is_negative m) ++ digits_text mark t.0 t.1

    go : (m : ℤ) (q : ℕ) → int_le (pos 0) m ≡ false → text m q ≡ 45 ∷ text (neg_ℤ m) q
    go (pos n) q e = absurd (not_below n e)
    go (negsuc n) q e =
        let t = trim (unsigned_abs (negsuc n)) q in
        ap (λ (b : Bool). 45 ∷ (minus_text b ++ digits_text mark t.0 t.1)) (sym (no_minus (neg_ℤ (negsuc n)) (opposite_low (negsuc n) e)))

pub opposite_kept : (d : Decimal) → int_le (pos 0) d.mantissa ≡ false → is_canonical d ≡ true → is_canonical (record d { mantissa = neg_ℤ d.mantissa }) ≡ true
unfolding is_canonical
opposite_kept d low canonical = ap (λ (n : ℕ). nat_le d.places 15 && nat_lt n (10 ^ (15 + d.places)) && ends n d.places) (go d.mantissa low) ∙ canonical
  where
    go : (m : ℤ) → int_le (pos 0) m ≡ false → unsigned_abs (neg_ℤ m) ≡ unsigned_abs m
    go (pos n) e = absurd (not_below n e)
    go (negsuc n) e = refl
