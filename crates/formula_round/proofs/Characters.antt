-- Which characters may stand behind an operand, and what they end.
use Rattle.std.proofs.Common.{◌≡◌, ℕ, zero, suc, ◌<◌, Bool, true, false, [], ◌∷◌, ap, ◌∙◌, arith, refl}
use Rattle.std.specs.Prelude.{not, ◌==◌, ◌||◌, ◌&&◌, nat_lt}
use Rattle.std.specs.List.{list_all}
use Rattle.std.specs.Str.{IsAscii}
use Rattle.std.proofs.UnicodeAscii.{is_alphabetic_ascii}
use Rattle.std.proofs.lemmas.Bool.{and_parts, or_parts}
use Rattle.std.proofs.lemmas.Bool.Decides.{nat_tests}
use Rattle.std.specs.Char.Unicode.Alphabetic.{is_alphabetic}
use Rattle.base_tables.specs.declared.Locale.{Locale}
use Rattle.base_tables.specs.declared.Locale.TheVariants.{En, De, Fr, Es}
use Rattle.base_tables.specs.Column.{is_letter}
use Rattle.base_tables.specs.Locale.{decimal_sign}
use Rattle.base_tables.specs.Word.{is_digit, starts_word, goes_on_word}
use Rattle.base_decimal.specs.Digits.{stops}
use Rattle.base_decimal.proofs.Spans.{not_true}
use Rattle.formula_read.specs.Characters.{Text, goes_on_place, goes_on_name, goes_on_number}

-- ---- ASCII

abbrev pub is_ascii : ℕ → Bool
is_ascii c = nat_lt c 128

pub each_ascii : (s : Text) → list_all is_ascii s ≡ true → IsAscii s
each_ascii [] e i = omega arith
each_ascii (c ∷ s) e zero = let test = (and_parts (is_ascii c) (list_all is_ascii s) e).0 in grind (arith, nat_tests, test)
each_ascii (c ∷ s) e (suc i) = each_ascii s (and_parts (is_ascii c) (list_all is_ascii s) e).1 i

ascii_letters : (c : ℕ) → c < 128 → is_alphabetic c ≡ is_letter c
ascii_letters c low = let e = is_alphabetic_ascii c low in grind (arith, nat_tests, e)

unfoldable pub in_word : ℕ → Bool
in_word c = is_letter c || (is_digit c || (c == 95 || c == 46))

pub ascii_word : (c : ℕ) → c < 128 → goes_on_word c ≡ in_word c
unfolding in_word
ascii_word c low = ap (λ (b : Bool). b || (is_digit c || (c == 95 || c == 46))) (ascii_letters c low)

pub ascii_starts : (c : ℕ) → c < 128 → starts_word c ≡ is_letter c || c == 95
ascii_starts c low = ap (λ (b : Bool). b || c == 95) (ascii_letters c low)

-- a letter, a digit or a dollar
unfoldable pub in_cell : ℕ → Bool
in_cell c = is_letter c || (is_digit c || c == 36)

-- ---- the characters behind an operand

-- ASCII that goes on neither a word nor a place, and no quote of a text
unfoldable pub follows : ℕ → Bool
follows c = nat_lt c 128 && not (in_word c || (c == 34 || (c == 36 || (c == 33 || c == 40))))

-- nor is it the decimal sign
unfoldable pub may_follow : Locale → ℕ → Bool
may_follow locale c = follows c && not (c == decimal_sign locale)

-- the text is empty, or begins with such a character
unfoldable pub is_followed : Locale → Text → Bool
is_followed locale [] = true
is_followed locale (c ∷ text) = may_follow locale c

module _ (c : ℕ) (e : follows c ≡ true) where
  pub follows_low : c < 128
  unfolding follows
  follows_low = let low = (and_parts (nat_lt c 128) _ e).0 in grind (arith, nat_tests, low)

  -- none of the characters that it may not be
  follows_none : (in_word c ≡ false) × ((c == 34) ≡ false) × (c == 36 || (c == 33 || c == 40) ≡ false)
  unfolding follows
  follows_none =
      let all = or_parts (in_word c) _ (not_true _ (and_parts (nat_lt c 128) _ e).1) in
      let signs = or_parts (c == 34) _ all.1 in
      (all.0, signs.0, signs.1)

  follows_no_word : goes_on_word c ≡ false
  follows_no_word = ascii_word c follows_low ∙ follows_none.0

  follows_no_place : goes_on_place c ≡ false
  follows_no_place = ap (λ (b : Bool). b || (c == 36 || (c == 33 || c == 40))) follows_no_word ∙ follows_none.2

  follows_no_name : goes_on_name c ≡ false
  follows_no_name = ap (λ (b : Bool). b || c == 33) follows_no_word ∙ (or_parts (c == 33) _ (or_parts (c == 36) _ follows_none.2).1).0

  follows_no_cell : in_cell c ≡ false
  unfolding in_word in_cell
  follows_no_cell = let none = follows_none in grind (arith, nat_tests, none.0, none.2)

pub follow_parts : (locale : Locale) (c : ℕ) → may_follow locale c ≡ true → (follows c ≡ true) × ((c == decimal_sign locale) ≡ false)
unfolding may_follow
follow_parts locale c e = let k = and_parts (follows c) _ e in (k.0, not_true _ k.1)

-- a test that fails on all of them stops there
stops_by : (locale : Locale) (p : ℕ → Bool) → ((c : ℕ) → may_follow locale c ≡ true → p c ≡ false) → (text : Text) → is_followed locale text ≡ true
    → stops p text ≡ true
unfolding is_followed
stops_by locale p h [] e = refl
stops_by locale p h (c ∷ text) e = ap not (h c e)

module _ (locale : Locale) where
  pub ends_place : (text : Text) → is_followed locale text ≡ true → stops goes_on_place text ≡ true
  ends_place = stops_by locale goes_on_place (λ c e. follows_no_place c (follow_parts locale c e).0)

  pub ends_name : (text : Text) → is_followed locale text ≡ true → stops goes_on_name text ≡ true
  ends_name = stops_by locale goes_on_name (λ c e. follows_no_name c (follow_parts locale c e).0)

  pub ends_text : (text : Text) → is_followed locale text ≡ true → stops (λ c. c == 34) text ≡ true
  ends_text = stops_by locale (λ c. c == 34) (λ c e. (follows_none c (follow_parts locale c e).0).1)

  pub ends_cell : (text : Text) → is_followed locale text ≡ true → stops in_cell text ≡ true
  ends_cell = stops_by locale in_cell (λ c e. follows_no_cell c (follow_parts locale c e).0)

  pub ends_number : (text : Text) → is_followed locale text ≡ true → stops (goes_on_number locale) text ≡ true
  ends_number = stops_by locale (goes_on_number locale) (λ c e. ends c (follow_parts locale c e))
    where
      ends : (c : ℕ) → (follows c ≡ true) × ((c == decimal_sign locale) ≡ false) → goes_on_number locale c ≡ false
      ends c k = ap (λ (b : Bool). b || c == decimal_sign locale) (follows_no_word c k.0) ∙ k.1

-- signs that follow in each locale
pub sign_follows : (locale : Locale) (c : ℕ) (text : Text) → follows c && not (c == 44) ≡ true → is_followed locale (c ∷ text) ≡ true
unfolding is_followed may_follow follows in_word
sign_follows En c text e = grind (arith, nat_tests, e)
sign_follows De c text e = e
sign_follows Fr c text e = e
sign_follows Es c text e = e
