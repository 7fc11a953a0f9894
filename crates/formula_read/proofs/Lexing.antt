-- What readers bring, and what the functions need that read the front of a text; numbers, errors and texts between quotes are read just where they are spelled.
use Rattle.std.proofs.Common.{take, drop, ◌≡◌, ℕ, Bool, true, false, cond, [], ◌∷◌, ◌++◌, Option, Some, None, refl, ap, subst, ◌∙◌, arith, ◌-◌, ◌<◌, length, sym, append_assoc, append-nil, length-append, option_map, zero, suc, List}
use Rattle.std.specs.Prelude.{not, ◌==◌, IfSome, MatchOption, encode_utf8, encode_utf8_all, codes, ◌&&◌, ◌||◌, nat_lt}
use Rattle.std.specs.Option.{option_map, option_and_then, option_or}
use Rattle.std.proofs.lemmas.Bool.{cond_both, eqb-true, and_parts, or_left, or_right, ltb-true}
use Rattle.std.proofs.lemmas.Bool.Decides.{nat_tests}
use Rattle.std.specs.Str.{chars, IsUtf8, IsAscii}
use Rattle.std.proofs.lemmas.List.{append_cancel_right}
use Rattle.std.proofs.Math.Seq.{take-append_seam, drop-append_seam}
use Rattle.std.proofs.lemmas.Str.{IsUtf8-past_char, IsCharBoundary-at_seam, chars-append, chars_past_char, IsUtf8-take, encodes-chars, length-encode, len_utf8_bounds, encodes-append, encodes_same, encodes-IsAscii}
use Rattle.std.specs.Str.Pattern.{FindsTextPrefix, StripsPrefix}
use denote.Ref.{Bor}
use Rattle.base_tables.specs.declared.Error.{Error}
use Rattle.base_tables.specs.declared.Error.TheVariants.{Ref}
use Rattle.base_tables.specs.Error.{error_text, inverted_exclamation, all_errors, error_of_text, is_own_reference_error}
use Rattle.base_decimal.specs.Digits.{stops}
use Rattle.base_decimal.proofs.Spans.{not_true}
use Rattle.formula_read.specs.Characters.{Text, goes_on_number, twice, doubled}
use Rattle.formula_read.specs.laws.Lex.{past, strip, first, quoted, quoted_text, in_front, in_number, number_span, number_of, number_at, english_error, own_text, error_at}
use Rattle.formula_read.specs.laws.Outcome.{Cuts, left}
use Rattle.std.specs.List.{list_all}
use Rattle.std.proofs.UnicodeAscii.{is_alphabetic_ascii}
use Rattle.std.specs.Char.Unicode.Alphabetic.{is_alphabetic}
use Rattle.std.specs.Cmp.Lexicographic.{bytes_decides}
use lib.Utf8.{encode}
use Rattle.base_tables.specs.declared.Locale.{Locale}
use Rattle.base_tables.specs.Locale.{decimal_sign}
use Rattle.base_tables.specs.Word.{is_digit, goes_on_word}
use Rattle.base_tables.specs.declared.Language.{Language}
use Rattle.base_tables.specs.declared.Language.TheVariants.{En, De, Es}
use Rattle.base_tables.specs.Tables.{entry_named}
use Rattle.base_tables.specs.laws.Error.{error_of_text-error_text}
use Rattle.base_tables.specs.laws.Tables.{found_name}
use Rattle.base_decimal.specs.declared.Decimal.{Decimal}
use Rattle.base_decimal.specs.Numeral.{Fraction, NoFraction, Places, Exponent, NoExponent, Power, Numeral, IsNumeral, fraction_text, sign_text, exponent_text, numeral_text, is_numeral_fraction, is_numeral_exponent, is_exponent_len, is_exponent_letter, minus_text}
use Rattle.base_decimal.specs.laws.Reading.{decimal_of}
use Rattle.base_decimal.specs.declared.numeral.Sign.{Sign}
use Rattle.base_decimal.specs.declared.numeral.Sign.TheVariants.{Absent, Plus, Minus}
use Rattle.base_decimal.proofs.Marks.{sign_is_mark, sign_is_ascii}
use Rattle.base_decimal.proofs.Numerals.{reads_found, reads_only}
use Rattle.formula_grammar.specs.declared.Token.{Token}
use Rattle.formula_read.specs.Lexicon.{starts_digit, IsNumber}
use Rattle.formula_grammar.specs.declared.Token.TheVariants as t

pub record Front (Is : Text → Type 0) (text rest : Text) : Type 0 where
  pub spelled : Text
  pub parts : text ≡ spelled ++ rest
  pub is : Is spelled

-- if something is read, it is so
pub record Brings {A : Type 0} (P : A → Type 0) (o : Option A) : Type 0 where
  pub read : IfSome o P

module _ {A : Type 0} {P : A → Type 0} where
  pub nothing : Brings P None
  nothing = record { read = tt }

  pub brings : {a : A} → P a → Brings P (Some a)
  brings h = record { read = h }

  pub brings_at : (o : Option A) (a : A) → Brings P o → o ≡ Some a → P a
  brings_at None a h e = absurd cc
  brings_at (Some b) a h e = let is : b ≡ a = cc in subst P is h.read

  -- nothing is read where nothing could be
  pub brings_none : (o : Option A) → Brings P o → ((a : A) → P a → ⊥) → o ≡ None
  brings_none None h never = refl
  brings_none (Some a) h never = absurd (never a h.read)

  pub brings_each : (o : Option A) → ((a : A) → o ≡ Some a → P a) → Brings P o
  brings_each None k = nothing
  brings_each (Some a) k = brings (k a refl)

  pub brings_over : {Q : A → Type 0} (o : Option A) → Brings Q o → ((a : A) → Q a → P a) → Brings P o
  brings_over None h k = nothing
  brings_over (Some a) h k = brings (k a h.read)

  pub brings_map : {B : Type 0} {Q : B → Type 0} (f : B → A) (o : Option B) → Brings Q o → ((b : B) → Q b → P (f b)) → Brings P (option_map f o)
  brings_map f None h k = nothing
  brings_map f (Some b) h k = brings (k b h.read)

  pub brings_then : {B : Type 0} {Q : B → Type 0} (f : B → Option A) (o : Option B) → Brings Q o → ((b : B) → Q b → Brings P (f b))
      → Brings P (option_and_then f o)
  brings_then f None h k = nothing
  brings_then f (Some b) h k = k b h.read

  pub brings_or : {B : Type 0} {Q : B → Type 0} (f : B → A) (o : Option B) (other : Option A) → Brings Q o → ((b : B) → Q b → P (f b))
      → (o ≡ None → Brings P other) → Brings P (option_or (option_map f o) other)
  brings_or f None other h k more = more refl
  brings_or f (Some b) other h k more = brings (k b h.read)

  pub brings_cond : (b : Bool) (o other : Option A) → (b ≡ true → Brings P o) → (b ≡ false → Brings P other) → Brings P (cond b o other)
  brings_cond b o other = cond_both b o other (Brings P)

pub cond_some : {A : Type 0} (b : Bool) (o : Option A) (a : A) → cond b o None ≡ Some a → (b ≡ true) × (o ≡ Some a)
cond_some b o a e = grind arith

-- ---- characters at the front

pub same : (c : ℕ) → (c == c) ≡ true
same c = grind (arith, nat_tests)

pub past_read : (mark : ℕ) (text : Text) → past mark (mark ∷ text) ≡ Some text
past_read mark text = ap (λ (b : Bool). cond b (Some text) None) (same mark)

pub past_sound : (mark : ℕ) (text : Text) → Brings (λ rest. text ≡ mark ∷ rest) (past mark text)
past_sound mark [] = nothing
past_sound mark (c ∷ text) = brings_cond (c == mark) (Some text) None (λ e. brings (rw (eqb-true c mark e))) (λ h. nothing)

pub past_none : (mark : ℕ) (text : Text) → stops (λ c. c == mark) text ≡ true → past mark text ≡ None
past_none mark text e = grind (arith, nat_tests)

pub past_stops : (mark : ℕ) (text : Text) → past mark text ≡ None → stops (λ c. c == mark) text ≡ true
past_stops mark text e = grind (arith, nat_tests)

pub strip_read : (name rest : Text) → strip name (name ++ rest) ≡ Some rest
strip_read [] rest = refl
strip_read (c ∷ name) rest = ap (option_and_then (strip name)) (past_read c (name ++ rest)) ∙ strip_read name rest

pub strip_sound : (name text : Text) → Brings (λ rest. text ≡ name ++ rest) (strip name text)
strip_sound [] text = brings refl
strip_sound (c ∷ name) text = brings_then _ _ (past_sound c text) (λ z e. brings_over _ (strip_sound name z) (λ rest f. rw (e, f)))

-- ---- a text is read character by character, and cut between two

pub first_read : (bytes rest : Text) (c : ℕ) → IsUtf8 bytes → bytes ≡ encode_utf8 c ++ rest → first (chars bytes) ≡ Some (c, chars rest)
first_read bytes rest c whole e = ap first (chars_past_char bytes rest c whole e)

-- how far a reader of characters went: what it leaves of the text is what the other one leaves of the rest
pub record Went (text rest : Text) (reader other : Text → Text × Text) : Type 0 where
  pub before : Text
  pub parts : text ≡ before ++ rest
  pub utf8 : IsUtf8 rest
  pub so_far : (reader (chars text)).1 ≡ (other (chars rest)).1

pub went_start : (text : Text) (reader : Text → Text × Text) → IsUtf8 text → Went text text reader reader
went_start text reader whole = record { before = []; parts = refl; utf8 = whole; so_far = refl }

pub went_turn : (text rest more : Text) (c : ℕ) (reader other next : Text → Text × Text) → Went text rest reader other → rest ≡ encode_utf8 c ++ more → ((z : Text) → (other (c ∷ z)).1 ≡ (next z).1) → Went text more reader next
went_turn text rest more c reader other next w e step = record {
  before = w.before ++ encode_utf8 c;
  parts = rw (w.parts, e, append_assoc w.before (encode_utf8 c) more);
  utf8 = IsUtf8-past_char rest more c w.utf8 e;
  so_far = rw (w.so_far, chars_past_char rest more c w.utf8 e) (step (chars more));
}

-- where the other one leaves all
pub went_end : (text rest : Text) (reader other : Text → Text × Text) → IsUtf8 text → Went text rest reader other → (other (chars rest)).1 ≡ chars rest
    → chars text ≡ (reader (chars text)).0 ++ (reader (chars text)).1 → Cuts text (length text - length rest) (reader (chars text))
went_end text rest reader other whole w stop parts =
    let n : length text - length rest ≡ length w.before = omega (arith, ap length w.parts, length-append w.before rest) in
    let at = IsCharBoundary-at_seam text w.before rest w.parts w.utf8 in
    let front : take (length w.before) text ≡ w.before = ap (take (length w.before)) w.parts ∙ take-append_seam w.before rest in
    let behind : drop (length w.before) text ≡ rest = ap (drop (length w.before)) w.parts ∙ drop-append_seam w.before rest in
    let left = sym (w.so_far ∙ stop) in
    let both = sym (chars-append w.before rest (subst IsUtf8 front (IsUtf8-take text (length w.before) whole at))) ∙ ap chars (sym w.parts) ∙ parts ∙ ap (λ (x : Text). (reader (chars text)).0 ++ x) (sym left) in
    rw n (record { boundary = at; front = ap chars front ∙ append_cancel_right _ _ (chars rest) both; rest = ap chars behind ∙ left })

pub last_read : (z : Text) → None ≡ first z → [] ≡ z
last_read [] e = refl
last_read (c ∷ z) e = absurd cc

-- what a step leaves is shorter
pub shorter : (bytes rest : Text) (c : ℕ) → bytes ≡ encode_utf8 c ++ rest → length rest < length bytes
shorter bytes rest c e = omega (arith, ap length e, length-append (encode_utf8 c) rest, length-encode c, len_utf8_bounds c)

pub ruleset first_character = (first_read, shorter)

pub ruleset encoded = (encodes-chars, chars_past_char)

-- ---- what the functions on the texts of errors need

pub stripped : (name text : Text) (r : Option (Bor Text)) → IsUtf8 name → IsUtf8 text → MatchOption r (FindsTextPrefix name text None) (λ x. StripsPrefix (FindsTextPrefix name) text x.now) → left r ≡ strip (chars name) (chars text)
stripped name text None u v h = sym (brings_none _ (strip_sound (chars name) (chars text)) (λ rest f.
    h (encode_utf8_all rest) (sym (encodes-chars text v) ∙ ap encode_utf8_all f ∙ encodes-append (chars name) rest
    ∙ ap (λ (x : Text). x ++ encode_utf8_all rest) (encodes-chars name u))))
stripped name text (Some x) u v h =
    let e : text ≡ name ++ x.now = h.1.1 ∙ ap (λ (y : Text). name ++ y) (sym h.2) in
    sym (ap (strip (chars name)) (ap chars e ∙ chars-append name x.now u) ∙ strip_read (chars name) (chars x.now))

pub error_characters : (error : Error) → chars (error_text error) ≡ error_text error
unfolding chars
error_characters Ref = refl
error_characters _ = refl

pub german : chars (codes "#BEZUG!") ≡ codes "#BEZUG!"
unfolding chars
german = refl

pub spanish : chars (codes "#" ++ inverted_exclamation ++ codes "REF!") ≡ 35 ∷ 161 ∷ codes "REF!"
unfolding chars
spanish = refl

pub ruleset own_texts = (german, spanish)

-- ---- what stands before a closing quote, a character at a time

-- behind a quote
pub quoted_twice : (quote : ℕ) (z rest : Text) → past quote z ≡ Some rest → quoted quote true z ≡ in_front quote (quoted quote false rest)
quoted_twice quote z rest e = grind (arith, nat_tests)

pub quoted_close : (quote : ℕ) (z : Text) → past quote z ≡ None → quoted quote true z ≡ Some ([], z)
quoted_close quote z e = grind (arith, nat_tests)

pub ruleset quote_behind = (quoted_twice, quoted_close)

-- bytes that were read before stand in front
abbrev pub after : Text → Option (Text × Text) → Option (Text × Text)
after front = option_map (λ p. (front ++ p.0, p.1))

pub quoted_start : (quote : ℕ) (z : Text) → quoted_text quote z ≡ after [] (quoted_text quote z)
quoted_start quote z = grind arith

pub quoted_more : (quote : ℕ) (front : Text) (c : ℕ) (z rest : Text) → quoted quote false z ≡ in_front c (quoted quote false rest) → after front (quoted_text quote z) ≡ after (front ++ encode_utf8 c) (quoted_text quote rest)
unfolding quoted_text
quoted_more quote front c z rest e = rw e (go (quoted quote false rest))
  where
    go : (o : Option (Text × Text)) → after front (option_map (λ p. (encode_utf8_all p.0, p.1)) (in_front c o)) ≡ after (front ++ encode_utf8 c) (option_map (λ p. (encode_utf8_all p.0, p.1)) o)
    go o = grind (arith, append_assoc)

pub quoted_end : (quote : ℕ) (front z rest : Text) → quoted quote false z ≡ Some ([], rest) → after front (quoted_text quote z) ≡ Some (front, rest)
unfolding quoted_text
quoted_end quote front z rest e = rw (e, append-nil front)

pub quoted_out : (quote : ℕ) (front z : Text) → quoted quote false z ≡ None → after front (quoted_text quote z) ≡ None
unfolding quoted_text
quoted_out quote front z e = rw e

pub ruleset quotes = (quoted_start, quoted_out, quoted_more, quoted_end)

-- ---- a number is read just where one is spelled

module _ (locale : Locale) where
  -- ---- what is read is spelled

  in_number_stops : (after : Bool) (c : ℕ) → in_number locale after c ≡ false → goes_on_number locale c ≡ false
  in_number_stops after c e = grind (arith, nat_tests)

  pub number_span_is : (after : Bool) (text : Text)
      → (text ≡ (number_span locale after text).0 ++ (number_span locale after text).1) × (stops (goes_on_number locale) (number_span locale after text).1 ≡ true)
  number_span_is after [] = (refl, refl)
  number_span_is after (c ∷ text) =
      let again = number_span_is (is_exponent_letter c) text in
      cond_both (in_number locale after c) _ _ (λ (s : Text × Text). (c ∷ text ≡ s.0 ++ s.1) × (stops (goes_on_number locale) s.1 ≡ true))
      (λ e. (ap (λ (x : Text). c ∷ x) again.0, again.1)) (λ e. (refl, ap not (in_number_stops after c e)))

  digit_goes_on : (c : ℕ) → is_digit c ≡ true → goes_on_number locale c ≡ true
  digit_goes_on c e = or_left (goes_on_word c) (c == decimal_sign locale) (or_right (is_alphabetic c) _ (or_left (is_digit c) (c == 95 || c == 46) e))

  digit_in : (after : Bool) (c : ℕ) → is_digit c ≡ true → in_number locale after c ≡ true
  digit_in after c e = let h = digit_goes_on c e in grind (arith, nat_tests)

  -- a number that is spelled at the front, where one may end
  abbrev pub FrontNumber : Text → Token × Text → Type 0
  FrontNumber text r = (number : Decimal) × (r.0 ≡ t.Number number) × Front (IsNumber locale number) text r.1 × (stops (goes_on_number locale) r.1 ≡ true)

  pub number_sound : (c : ℕ) (text : Text) → is_digit c ≡ true → Brings (FrontNumber (c ∷ text)) (number_at locale (c ∷ text))
  unfolding number_at
  number_sound c text digit =
      let s = number_span locale false (c ∷ text) in
      let h = number_span_is false (c ∷ text) in
      let starts : starts_digit s.0 ≡ true = rw (digit_in false c digit) digit in
      brings_map _ _ (brings_each (decimal_of (decimal_sign locale) (encode_utf8_all s.0)) (λ number e. e)) (λ number e.
      (number, refl, record { spelled = s.0; parts = h.0; is = record { starts = starts; reads = reads_found (decimal_sign locale) (encode_utf8_all s.0) number e } }, h.1))

  -- ---- what is spelled is read

  -- characters of ASCII that a number may be made of, the last of which is no letter of an exponent
  walk : Bool → Text → Bool
  walk after [] = not after
  walk after (c ∷ text) = (nat_lt c 128 && in_number locale after c) && walk (is_exponent_letter c) text

  walk_turn : (after letter : Bool) (c : ℕ) (text : Text) → nat_lt c 128 ≡ true → in_number locale after c ≡ true → is_exponent_letter c ≡ letter → walk after (c ∷ text) ≡ walk letter text
  unfolding walk
  walk_turn after letter c text low e f = rw (low, e, f)

  digit_turn : (after : Bool) (c : ℕ) (text : Text) → is_digit c ≡ true → walk after (c ∷ text) ≡ walk false text
  digit_turn after c text e = walk_turn after false c text (grind (arith, nat_tests)) (digit_in after c e) (grind (arith, nat_tests))

  walk_digits : (digits text : Text) → list_all is_digit digits ≡ true → walk false (digits ++ text) ≡ walk false text
  walk_digits [] text e = refl
  walk_digits (c ∷ digits) text e = let k = and_parts (is_digit c) (list_all is_digit digits) e in digit_turn false c (digits ++ text) k.0 ∙ walk_digits digits text k.1

  walk_all : (digits : Text) → list_all is_digit digits ≡ true → walk false digits ≡ true
  unfolding walk
  walk_all digits e = ap (walk false) (sym (append-nil digits)) ∙ walk_digits digits [] e

  walk_fraction : (f : Fraction) (text : Text) → is_numeral_fraction f ≡ true → walk false (fraction_text (decimal_sign locale) f ++ text) ≡ walk false text
  walk_fraction NoFraction text e = refl
  walk_fraction (Places digits) text e =
      let mark : ℕ = decimal_sign locale in
      let low = sign_is_ascii locale in
      walk_turn false false mark (digits ++ text) (grind (arith, nat_tests, low)) (or_right (goes_on_word mark) _ (same mark)) (sign_is_mark locale).no_letter ∙ walk_digits digits text e

  walk_signed : (sign : Sign) (digits : Text) → list_all is_digit digits ≡ true → is_exponent_len (length digits) ≡ true → walk true (sign_text sign ++ digits) ≡ true
  unfolding walk
  walk_signed Absent [] e some = absurd cc
  walk_signed Absent (c ∷ digits) e some = let k = and_parts (is_digit c) (list_all is_digit digits) e in digit_turn true c digits k.0 ∙ walk_all digits k.1
  walk_signed Plus digits e some = walk_all digits e
  walk_signed Minus digits e some = walk_all digits e

  letter_goes_on : (c : ℕ) → is_exponent_letter c ≡ true → goes_on_number locale c ≡ true
  letter_goes_on c e = let low : c < 128 = grind (arith, nat_tests) in let is = is_alphabetic_ascii c low in grind (arith, nat_tests, is)

  walk_exponent : (x : Exponent) → is_numeral_exponent x ≡ true → walk false (exponent_text x) ≡ true
  unfolding walk
  walk_exponent NoExponent e = refl
  walk_exponent (Power letter sign digits) e =
      let k = and_parts (is_exponent_letter letter) (is_exponent_len (length digits) && list_all is_digit digits) e in
      let m = and_parts (is_exponent_len (length digits)) (list_all is_digit digits) k.1 in
      walk_turn false true letter (sign_text sign ++ digits) (let h = k.0 in grind (arith, nat_tests, h)) (letter_goes_on letter k.0) k.0 ∙ walk_signed sign digits m.1 m.0

  walk_numeral : (negative : Bool) (n : Numeral) → IsNumeral n → walk negative (minus_text negative ++ numeral_text (decimal_sign locale) n) ≡ true
  unfolding walk
  walk_numeral negative n is = go negative
    where
      plain : walk false (numeral_text (decimal_sign locale) n) ≡ true
      plain = walk_digits n.whole (fraction_text (decimal_sign locale) n.fraction ++ exponent_text n.exponent) is.whole ∙ walk_fraction n.fraction (exponent_text n.exponent) is.fraction ∙ walk_exponent n.exponent is.exponent

      go : (b : Bool) → walk b (minus_text b ++ numeral_text (decimal_sign locale) n) ≡ true
      go true = plain
      go false = plain

  walk_ascii : (after : Bool) (text : Text) → walk after text ≡ true → IsAscii text
  unfolding walk
  walk_ascii after [] e i = omega arith
  walk_ascii after (c ∷ text) e zero = ltb-true c 128 (and_parts _ _ (and_parts _ _ e).0).0
  walk_ascii after (c ∷ text) e (suc i) = walk_ascii (is_exponent_letter c) text (and_parts _ _ e).1 i

  walk_span : (after : Bool) (s rest : Text) → walk after s ≡ true → stops (goes_on_number locale) rest ≡ true → number_span locale after (s ++ rest) ≡ (s, rest)
  unfolding walk
  walk_span true [] rest e ends = absurd cc
  walk_span false [] [] e ends = refl
  walk_span false [] (c ∷ rest) e ends = rw (not_true (goes_on_number locale c) ends)
  walk_span after (c ∷ s) rest e ends =
      let k = and_parts (nat_lt c 128 && in_number locale after c) (walk (is_exponent_letter c) s) e in
      rw ((and_parts (nat_lt c 128) (in_number locale after c) k.0).1, walk_span (is_exponent_letter c) s rest k.1 ends)

  -- the characters of a number are its bytes
  written : (s : Text) (negative : Bool) (n : Numeral) → IsNumeral n → starts_digit s ≡ true → encode_utf8_all s ≡ minus_text negative ++ numeral_text (decimal_sign locale) n → s ≡ numeral_text (decimal_sign locale) n
  written s negative n is starts e = go negative (encodes_same s bytes (e ∙ sym (encodes-IsAscii bytes (walk_ascii negative bytes (walk_numeral negative n is)))))
    where
      bytes : Text
      bytes = minus_text negative ++ numeral_text (decimal_sign locale) n

      go : (b : Bool) → s ≡ minus_text b ++ numeral_text (decimal_sign locale) n → s ≡ numeral_text (decimal_sign locale) n
      go true f = absurd (let x : false ≡ true = sym (ap starts_digit f) ∙ starts in cc)
      go false f = f

  pub number_read : (number : Decimal) (s rest : Text) → IsNumber locale number s → stops (goes_on_number locale) rest ≡ true → number_at locale (s ++ rest) ≡ Some (t.Number number, rest)
  unfolding number_at
  number_read number s rest is ends =
      let r = is.reads in
      let spelled = written s r.negative r.numeral r.is_numeral is.starts r.written in
      let walks : walk false s ≡ true = ap (walk false) spelled ∙ walk_numeral false r.numeral r.is_numeral in
      ap (number_of locale) (walk_span false s rest walks ends)
      ∙ ap (option_map (λ d. (let q : Token × Text = (t.Number d, rest) in q))) (reads_only (decimal_sign locale) (sign_is_mark locale) (encode_utf8_all s) number r)

-- ---- the text of an error is read just where one is spelled

abbrev Is : Language → Error → Text → Type 0
Is language error s = error_of_text language (encode_utf8_all s) ≡ Some error

-- ---- what is read is spelled

error_encoded : (error : Error) → encode_utf8_all (error_text error) ≡ error_text error
unfolding encode
error_encoded Ref = refl
error_encoded _ = refl

name_sound : (language : Language) (error : Error) (name text : Text) → Is language error name → Brings (Front (Is language error) text) (strip name text)
name_sound language error name text is = brings_over _ (strip_sound name text) (λ rest e. record { spelled = name; parts = e; is = is })

english_sound : (language : Language) (errors : List Error) (text : Text) → Brings (λ r. Front (Is language r.0) text r.1) (english_error errors text)
english_sound language [] text = nothing
english_sound language (error ∷ errors) text = brings_or _ _ _ (name_sound language error (error_text error) text
    (ap (error_of_text language) (error_encoded error) ∙ error_of_text-error_text language error)) (λ rest f. f) (λ h. english_sound language errors text)

own_is : (language : Language) → Brings (λ name. Is language Ref name) (own_text language)
unfolding encode
own_is De = brings refl
own_is Es = brings refl
own_is _ = nothing

pub error_sound : (language : Language) (text : Text) → Brings (λ r. Front (Is language r.0) text r.1) (error_at language text)
unfolding error_at
error_sound language text =
    brings_or _ _ _ (brings_then _ _ (own_is language) (λ name is. name_sound language Ref name text is)) (λ rest f. f) (λ h. english_sound language all_errors text)

-- ---- what is spelled is read: no text of an error begins another

english_read : (language : Language) (error : Error) (rest : Text) → error_at language (error_text error ++ rest) ≡ Some (error, rest)
unfolding error_at
english_read En Ref rest = refl
english_read _ Ref rest = refl
english_read _ _ rest = refl

own_read : (language : Language) (s rest : Text) → is_own_reference_error language (encode_utf8_all s) ≡ true → error_at language (s ++ rest) ≡ Some (Ref, rest)
unfolding error_at encode
own_read De s rest e = rw (← encodes_same (codes "#BEZUG!") s ((bytes_decides _ _).0 e))
own_read Es s rest e = rw (← encodes_same (35 ∷ 161 ∷ codes "REF!") s ((bytes_decides _ _).0 e))
own_read _ s rest e = absurd cc

named : (language : Language) (s rest : Text) (error : Error) (own : Bool) → is_own_reference_error language (encode_utf8_all s) ≡ own
    → cond own (Some Ref) (entry_named error_text all_errors (encode_utf8_all s)) ≡ Some error → error_at language (s ++ rest) ≡ Some (error, rest)
named language s rest error true h e =
    let is : Ref ≡ error = cc in
    rw (← is) (own_read language s rest h)
named language s rest error false h e =
    let is : error_text error ≡ s = encodes_same (error_text error) s (error_encoded error ∙ found_name error_text all_errors (encode_utf8_all s) error e) in
    subst (λ (x : Text). error_at language (x ++ rest) ≡ Some (error, rest)) is (english_read language error rest)

pub error_read : (language : Language) (s : Text) (error : Error) (rest : Text) → Is language error s → error_at language (s ++ rest) ≡ Some (error, rest)
error_read language s error rest e = named language s rest error (is_own_reference_error language (encode_utf8_all s)) refl e

-- each begins with a hash
pub error_none : (language : Language) (text : Text) → past 35 text ≡ None → error_at language text ≡ None
unfolding error_at
error_none En text e = rw e
error_none _ text e = rw e

-- ---- a text between quotes is read just where one is spelled

-- ---- what is spelled is read

twice_read : (quote c : ℕ) (z : Text) → quoted quote false (twice quote c ++ z) ≡ in_front c (quoted quote false z)
twice_read quote c z = cond_both (c == quote) _ _ (λ t. quoted quote false (t ++ z) ≡ in_front c (quoted quote false z))
    (λ e. rw (same quote, eqb-true c quote e)) (λ e. rw e)

pub quoted_read : (quote : ℕ) (x rest : Text) → stops (λ c. c == quote) rest ≡ true → quoted quote false (doubled quote x ++ (quote ∷ rest)) ≡ Some (x, rest)
quoted_read quote [] rest e = rw (same quote) (quoted_close quote rest (past_none quote rest e))
quoted_read quote (c ∷ x) rest e =
    ap (quoted quote false) (append_assoc (twice quote c) (doubled quote x) (quote ∷ rest)) ∙ twice_read quote c (doubled quote x ++ (quote ∷ rest)) ∙ ap (in_front c) (quoted_read quote x rest e)

-- ---- what is read is spelled

-- the text up to the closing quote, maybe behind a quote
pub record Closes (quote : ℕ) (behind : Bool) (text x rest : Text) : Type 0 where
  pub parts : cond behind (quote ∷ text) text ≡ doubled quote x ++ (quote ∷ rest)
  pub ends : stops (λ c. c == quote) rest ≡ true

quoted_sound : (quote : ℕ) (behind : Bool) (text : Text) → Brings (λ r. Closes quote behind text r.0 r.1) (quoted quote behind text)
quoted_sound quote false [] = nothing
quoted_sound quote true [] = brings (record { parts = refl; ends = refl })
quoted_sound quote false (c ∷ text) = brings_cond (c == quote) _ _
    (λ e. brings_over _ (quoted_sound quote true text) (λ r f. record { parts = rw (eqb-true c quote e) f.parts; ends = f.ends }))
    (λ e. brings_map _ _ (quoted_sound quote false text) (λ r f. record { parts = rw (e, f.parts); ends = f.ends }))
quoted_sound quote true (c ∷ text) = brings_cond (c == quote) _ _
    (λ e. brings_map _ _ (quoted_sound quote false text) (λ r f. record { parts = rw (eqb-true c quote e, same quote, f.parts); ends = f.ends }))
    (λ e. brings (record { parts = refl; ends = ap not e }))

pub quoted_text_sound : (quote : ℕ) (text : Text) → Brings (λ r. (x : Text) × (r.0 ≡ encode_utf8_all x) × Closes quote false text x r.1) (quoted_text quote text)
unfolding quoted_text
quoted_text_sound quote text = brings_map _ _ (quoted_sound quote false text) (λ r f. (r.0, refl, f))
