-- Reading finds exactly what the relation says.
use Rattle.std.proofs.Common.{◌≡◌, ℕ, ◌<◌, Bool, true, false, cond, List, [], ◌∷◌, ◌++◌, length, refl, sym, ap, subst, ◌∙◌, arith, Option, Some, None, append_assoc, append-nil, eq-eqb}
use Rattle.std.specs.Prelude.{not, ◌&&◌, ◌==◌, nat_le}
use Rattle.std.specs.List.{list_all}
use Rattle.std.specs.Option.{option_map, option_and_then}
use Rattle.std.proofs.lemmas.Bool.Decides.{nat_tests}
use Rattle.base_decimal.specs.declared.decimal.Decimal.{Decimal}
use Rattle.base_decimal.specs.declared.numeral.Sign.{Sign}
use Rattle.base_decimal.specs.declared.numeral.Sign.TheVariants.{Absent, Plus, Minus}
use Rattle.base_decimal.specs.Digits.{is_digit, span, stops}
use Rattle.base_decimal.specs.Numeral.{Fraction, NoFraction, Places, Exponent, NoExponent, Power, Numeral, fraction_text, sign_text, exponent_text, numeral_text, is_exponent_letter, is_numeral_fraction, is_exponent_len, is_numeral_exponent, IsNumeral, numerator, numeral_places, minus_text, Reads}
use Rattle.base_decimal.specs.laws.Reading.{fraction_at, sign_at, exponent_after, exponent_at, numeral_at, whole_value, value_at, decimal_of}
use Rattle.base_decimal.specs.Value.{canonical_of}
use Rattle.base_decimal.proofs.Spans.{and_both, both_and, span_at, span_parts, span_all}
use Rattle.base_decimal.proofs.Values.{canonical_found, canonical_only}

-- the decimal sign is no digit and no letter of an exponent
pub record IsMark (mark : ℕ) : Type 0 where
  pub no_digit : is_digit mark ≡ false
  pub no_letter : is_exponent_letter mark ≡ false

-- ---- what is written is read

same_test : (a : ℕ) → (a == a) ≡ true
same_test a = eq-eqb a a refl

apart : (p : ℕ → Bool) (a b : ℕ) → p a ≡ true → p b ≡ false → (a == b) ≡ false
apart p a b e f = by (a == b) refl
  where
    by : (t : Bool) → (a == b) ≡ t → (a == b) ≡ false
    by true g = let is : a ≡ b = grind (arith, nat_tests) in absurd (let x : true ≡ false = sym e ∙ ap p is ∙ f in cc)
    by false g = g

letter_no_digit : (b : ℕ) → is_exponent_letter b ≡ true → is_digit b ≡ false
letter_no_digit b e = grind (arith, nat_tests)

digit_no_sign : (b c : ℕ) → is_digit b ≡ true → c < 48 → (b == c) ≡ false
digit_no_sign b c e l = grind (arith, nat_tests)

span_whole : (s : List ℕ) → list_all is_digit s ≡ true → span is_digit s ≡ (s, [])
span_whole s e = ap (span is_digit) (sym (append-nil s)) ∙ span_at is_digit s [] e refl

exponent_stops : (e : Exponent) → is_numeral_exponent e ≡ true → stops is_digit (exponent_text e) ≡ true
exponent_stops NoExponent e = refl
exponent_stops (Power letter sign digits) e = ap not (letter_no_digit letter (and_both (is_exponent_letter letter) _ e).0)

fraction_stops : (mark : ℕ) → IsMark mark → (f : Fraction) (e : Exponent) → is_numeral_exponent e ≡ true → stops is_digit (fraction_text mark f ++ exponent_text e) ≡ true
fraction_stops mark m NoFraction e h = exponent_stops e h
fraction_stops mark m (Places digits) e h = ap not m.no_digit

fraction_read : (mark : ℕ) → IsMark mark → (f : Fraction) (e : Exponent) → is_numeral_fraction f ≡ true → is_numeral_exponent e ≡ true → fraction_at mark (fraction_text mark f ++ exponent_text e) ≡ (f, exponent_text e)
fraction_read mark m NoFraction NoExponent g h = refl
fraction_read mark m NoFraction (Power letter sign digits) g h =
    let no : (letter == mark) ≡ false = apart is_exponent_letter letter mark (and_both (is_exponent_letter letter) _ h).0 m.no_letter in
    let text : List ℕ = sign_text sign ++ digits in
    ap (λ (b : Bool). cond b (let s = span is_digit text in let x : Fraction × List ℕ = (Places s.0, s.1) in x) (NoFraction, letter ∷ text)) no
fraction_read mark m (Places digits) e g h =
    let text : List ℕ = digits ++ exponent_text e in
    ap (λ (b : Bool). cond b (let s = span is_digit text in let x : Fraction × List ℕ = (Places s.0, s.1) in x) (NoFraction, mark ∷ text)) (same_test mark)
    ∙ ap (λ (s : List ℕ × List ℕ). let x : Fraction × List ℕ = (Places s.0, s.1) in x) (span_at is_digit digits (exponent_text e) g (exponent_stops e h))

sign_read : (sign : Sign) (digits : List ℕ) → list_all is_digit digits ≡ true → sign_at (sign_text sign ++ digits) ≡ (sign, digits)
sign_read Absent [] e = refl
sign_read Absent (b ∷ digits) e =
    let digit = (and_both (is_digit b) (list_all is_digit digits) e).0 in
    let other : Sign × List ℕ = (Absent, b ∷ digits) in
    ap (λ (t : Bool). cond t (Plus, digits) (cond (b == 45) (Minus, digits) other)) (digit_no_sign b 43 digit (omega arith))
    ∙ ap (λ (t : Bool). cond t (Minus, digits) other) (digit_no_sign b 45 digit (omega arith))
sign_read Plus digits e = refl
sign_read Minus digits e = refl

exponent_read : (e : Exponent) → is_numeral_exponent e ≡ true → exponent_at (exponent_text e) ≡ Some (e, [])
exponent_read NoExponent h = refl
exponent_read (Power letter sign digits) h =
    let parts = and_both (is_exponent_letter letter) (is_exponent_len (length digits) && list_all is_digit digits) h in
    let more = and_both (is_exponent_len (length digits)) (list_all is_digit digits) parts.1 in
    let text : List ℕ = sign_text sign ++ digits in
    let other : Option (Exponent × List ℕ) = Some (NoExponent, letter ∷ text) in
    ap (λ (t : Bool). cond t (exponent_after letter (sign_at text)) other) parts.0
    ∙ ap (exponent_after letter) (sign_read sign digits more.1)
    ∙ ap (λ (s : List ℕ × List ℕ). cond (is_exponent_len (length s.0)) (Some (Power letter sign s.0, s.1)) None) (span_whole digits more.1)
    ∙ ap (λ (t : Bool). cond t (let x : Option (Exponent × List ℕ) = Some (Power letter sign digits, []) in x) None) more.0

pub numeral_read : (mark : ℕ) → IsMark mark → (n : Numeral) → IsNumeral n → numeral_at mark (numeral_text mark n) ≡ Some (n, [])
unfolding numeral_at
numeral_read mark m n h =
    let w = span_at is_digit n.whole (fraction_text mark n.fraction ++ exponent_text n.exponent) h.whole (fraction_stops mark m n.fraction n.exponent h.exponent) in
    let f = fraction_read mark m n.fraction n.exponent h.fraction h.exponent in
    let some : nat_le 1 (length n.whole) ≡ true = let p = h.some_digit in grind (arith, nat_tests, p) in
    ap (read_after mark) w ∙ ap (read_exponent n.whole) f ∙ ap (λ (e : Option (Exponent × List ℕ)). cond (nat_le 1 (length n.whole)) (option_map (with_exponent n.whole n.fraction) e) None) (exponent_read n.exponent h.exponent)
    ∙ ap (λ (t : Bool). cond t (let x : Option (Numeral × List ℕ) = Some (n, []) in x) None) some
  where
    with_exponent : List ℕ → Fraction → Exponent × List ℕ → Numeral × List ℕ
    with_exponent w f e = (record { whole = w; fraction = f; exponent = e.0 }, e.1)

    read_exponent : List ℕ → Fraction × List ℕ → Option (Numeral × List ℕ)
    read_exponent w f = cond (nat_le 1 (length w)) (option_map (with_exponent w f.0) (exponent_at f.1)) None

    read_after : ℕ → List ℕ × List ℕ → Option (Numeral × List ℕ)
    read_after mark w = read_exponent w.0 (fraction_at mark w.1)

pub value_read : (mark : ℕ) → IsMark mark → (s : Bool) (n : Numeral) → IsNumeral n → value_at mark s (numeral_text mark n) ≡ canonical_of s (numerator n) (numeral_places n)
value_read mark m s n h = ap (option_and_then (whole_value s)) (numeral_read mark m n h)

unsigned_read : (mark : ℕ) (n : Numeral) → IsNumeral n → decimal_of mark (numeral_text mark n) ≡ value_at mark false (numeral_text mark n)
unfolding decimal_of
unsigned_read mark n h = by n.whole h.some_digit h.whole
  where
    by : (w : List ℕ) → 0 < length w → list_all is_digit w ≡ true → let text : List ℕ = w ++ (fraction_text mark n.fraction ++ exponent_text n.exponent) in decimal_of mark text ≡ value_at mark false text
    by [] l e = absurd (omega arith)
    by (b ∷ w) l e =
        let text : List ℕ = w ++ (fraction_text mark n.fraction ++ exponent_text n.exponent) in
        ap (λ (t : Bool). cond t (value_at mark true text) (value_at mark false (b ∷ text))) (digit_no_sign b 45 (and_both (is_digit b) (list_all is_digit w) e).0 (omega arith))

pub signed_read : (mark : ℕ) → IsMark mark → (s : Bool) (n : Numeral) → IsNumeral n → decimal_of mark (minus_text s ++ numeral_text mark n) ≡ canonical_of s (numerator n) (numeral_places n)
unfolding decimal_of
signed_read mark m true n h = value_read mark m true n h
signed_read mark m false n h = unsigned_read mark n h ∙ value_read mark m false n h

-- a decimal that a text reads as is the one that is found
pub reads_only : (mark : ℕ) → IsMark mark → (text : List ℕ) (d : Decimal) → Reads mark text d → decimal_of mark text ≡ Some d
reads_only mark m text d r =
    ap (decimal_of mark) r.written ∙ signed_read mark m r.negative r.numeral r.is_numeral
    ∙ canonical_only r.negative (numerator r.numeral) (numeral_places r.numeral) d r.is_canonical r.is_value

-- ---- what is read was written

fraction_parts : (mark : ℕ) (text : List ℕ) → (text ≡ fraction_text mark (fraction_at mark text).0 ++ (fraction_at mark text).1) × (is_numeral_fraction (fraction_at mark text).0 ≡ true)
fraction_parts mark [] = (refl, refl)
fraction_parts mark (b ∷ text) = by (b == mark) refl
  where
    chosen : Bool → Fraction × List ℕ
    chosen t = cond t (let s = span is_digit text in let x : Fraction × List ℕ = (Places s.0, s.1) in x) (NoFraction, b ∷ text)

    by : (t : Bool) → (b == mark) ≡ t → (b ∷ text ≡ fraction_text mark (chosen t).0 ++ (chosen t).1) × (is_numeral_fraction (chosen t).0 ≡ true)
    by true e =
        let is : b ≡ mark = grind (arith, nat_tests) in
        (ap (λ (x : ℕ). x ∷ text) is ∙ ap (λ (x : List ℕ). mark ∷ x) (span_parts is_digit text), span_all is_digit text)
    by false e = (refl, refl)

sign_parts : (text : List ℕ) → text ≡ sign_text (sign_at text).0 ++ (sign_at text).1
sign_parts [] = refl
sign_parts (b ∷ text) = by (b == 43) refl (b == 45) refl
  where
    chosen : Bool → Bool → Sign × List ℕ
    chosen plus minus = cond plus (Plus, text) (cond minus (Minus, text) (Absent, b ∷ text))

    by : (plus : Bool) → (b == 43) ≡ plus → (minus : Bool) → (b == 45) ≡ minus → b ∷ text ≡ sign_text (chosen plus minus).0 ++ (chosen plus minus).1
    by true e minus f = let is : b ≡ 43 = grind (arith, nat_tests) in ap (λ (x : ℕ). x ∷ text) is
    by false e true f = let is : b ≡ 45 = grind (arith, nat_tests) in ap (λ (x : ℕ). x ∷ text) is
    by false e false f = refl

exponent_after_parts : (letter : ℕ) (text : List ℕ) → is_exponent_letter letter ≡ true → (e : Exponent) (rest : List ℕ) → exponent_after letter (sign_at text) ≡ Some (e, rest)
    → (letter ∷ text ≡ exponent_text e ++ rest) × (is_numeral_exponent e ≡ true)
exponent_after_parts letter text l e rest h = by (is_exponent_len (length s.0)) refl h
  where
    signed : Sign × List ℕ
    signed = sign_at text

    s : List ℕ × List ℕ
    s = span is_digit signed.1

    spelled : letter ∷ text ≡ exponent_text (Power letter signed.0 s.0) ++ s.1
    spelled = ap (λ (x : List ℕ). letter ∷ x)
        (sign_parts text ∙ ap (λ (x : List ℕ). sign_text signed.0 ++ x) (span_parts is_digit signed.1) ∙ sym (append_assoc (sign_text signed.0) s.0 s.1))

    by : (t : Bool) → is_exponent_len (length s.0) ≡ t → cond t (let x : Option (Exponent × List ℕ) = Some (Power letter signed.0 s.0, s.1) in x) None ≡ Some (e, rest)
        → (letter ∷ text ≡ exponent_text e ++ rest) × (is_numeral_exponent e ≡ true)
    by true f g =
        let pair : Exponent × List ℕ = (Power letter signed.0 s.0, s.1) in
        let is : pair ≡ (e, rest) = cc in
        subst (λ (x : Exponent × List ℕ). (letter ∷ text ≡ exponent_text x.0 ++ x.1) × (is_numeral_exponent x.0 ≡ true)) is
        (spelled, both_and _ _ l (both_and _ _ f (span_all is_digit signed.1)))
    by false f g = absurd cc

exponent_parts : (text : List ℕ) (e : Exponent) (rest : List ℕ) → exponent_at text ≡ Some (e, rest) → (text ≡ exponent_text e ++ rest) × (is_numeral_exponent e ≡ true)
exponent_parts [] e rest h =
    let none : Exponent × List ℕ = (NoExponent, []) in
    let is : none ≡ (e, rest) = cc in
    subst (λ (x : Exponent × List ℕ). ([] ≡ exponent_text x.0 ++ x.1) × (is_numeral_exponent x.0 ≡ true)) is (refl, refl)
exponent_parts (b ∷ text) e rest h = by (is_exponent_letter b) refl h
  where
    by : (t : Bool) → is_exponent_letter b ≡ t → cond t (exponent_after b (sign_at text)) (let x : Option (Exponent × List ℕ) = Some (NoExponent, b ∷ text) in x) ≡ Some (e, rest)
        → (b ∷ text ≡ exponent_text e ++ rest) × (is_numeral_exponent e ≡ true)
    by true f g = exponent_after_parts b text f e rest g
    by false f g =
        let none : Exponent × List ℕ = (NoExponent, b ∷ text) in
        let is : none ≡ (e, rest) = cc in
        subst (λ (x : Exponent × List ℕ). (b ∷ text ≡ exponent_text x.0 ++ x.1) × (is_numeral_exponent x.0 ≡ true)) is (refl, refl)

-- the text is that of the number and what follows it
pub numeral_found : (mark : ℕ) (text : List ℕ) (n : Numeral) (rest : List ℕ) → numeral_at mark text ≡ Some (n, rest) → (text ≡ numeral_text mark n ++ rest) × IsNumeral n
unfolding numeral_at
numeral_found mark text n rest h = by_whole (nat_le 1 (length w.0)) refl h
  where
    w : List ℕ × List ℕ
    w = span is_digit text

    f : Fraction × List ℕ
    f = fraction_at mark w.1

    with_exponent : Exponent × List ℕ → Numeral × List ℕ
    with_exponent e = (record { whole = w.0; fraction = f.0; exponent = e.0 }, e.1)

    by_exponent : nat_le 1 (length w.0) ≡ true → (o : Option (Exponent × List ℕ)) → exponent_at f.1 ≡ o → option_map with_exponent o ≡ Some (n, rest) → (text ≡ numeral_text mark n ++ rest) × IsNumeral n
    by_exponent some None e g = absurd cc
    by_exponent some (Some (x, z)) e g =
        let is : with_exponent (x, z) ≡ (n, rest) = cc in
        let parts = exponent_parts f.1 x z e in
        let places = fraction_parts mark w.1 in
        subst (λ (y : Numeral × List ℕ). (text ≡ numeral_text mark y.0 ++ y.1) × IsNumeral y.0) is (
          span_parts is_digit text
              ∙ ap (λ (y : List ℕ). w.0 ++ y) (places.0 ∙ ap (λ (y : List ℕ). fraction_text mark f.0 ++ y) parts.0 ∙ sym (append_assoc (fraction_text mark f.0) (exponent_text x) z))
              ∙ sym (append_assoc w.0 (fraction_text mark f.0 ++ exponent_text x) z),
          record { some_digit = grind (arith, nat_tests, some); whole = span_all is_digit text; fraction = places.1; exponent = parts.1 },
        )

    by_whole : (t : Bool) → nat_le 1 (length w.0) ≡ t → cond t (option_map with_exponent (exponent_at f.1)) None ≡ Some (n, rest) → (text ≡ numeral_text mark n ++ rest) × IsNumeral n
    by_whole true e g = by_exponent e (exponent_at f.1) refl g
    by_whole false e g = absurd cc

value_found : (mark : ℕ) (s : Bool) (text : List ℕ) (d : Decimal) → value_at mark s text ≡ Some d → Reads mark (minus_text s ++ text) d
value_found mark s text d h = by (numeral_at mark text) refl h
  where
    by : (o : Option (Numeral × List ℕ)) → numeral_at mark text ≡ o → option_and_then (whole_value s) o ≡ Some d → Reads mark (minus_text s ++ text) d
    by None e g = absurd cc
    by (Some (n, _ ∷ _)) e g = absurd cc
    by (Some (n, [])) e g =
        let found = numeral_found mark text n [] e in
        let kept = canonical_found s (numerator n) (numeral_places n) d g in
        record {
          negative = s;
          numeral = n;
          written = ap (λ (x : List ℕ). minus_text s ++ x) (found.0 ∙ append-nil (numeral_text mark n));
          is_numeral = found.1;
          is_value = kept.1;
          is_canonical = kept.0;
        }

-- the decimal that is found is one that the text reads as
pub reads_found : (mark : ℕ) (text : List ℕ) (d : Decimal) → decimal_of mark text ≡ Some d → Reads mark text d
unfolding decimal_of
reads_found mark [] d h = absurd cc
reads_found mark (b ∷ text) d h = by (b == 45) refl h
  where
    by : (t : Bool) → (b == 45) ≡ t → cond t (value_at mark true text) (value_at mark false (b ∷ text)) ≡ Some d → Reads mark (b ∷ text) d
    by true e g = let is : 45 ≡ b = grind (arith, nat_tests) in subst (λ (x : ℕ). Reads mark (x ∷ text) d) is (value_found mark true text d g)
    by false e g = value_found mark false (b ∷ text) d g
