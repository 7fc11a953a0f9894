-- Parts of printed text that spell their tokens.
use Rattle.std.proofs.Common.{◌≡◌, ℕ, Bool, true, false, List, [], ◌∷◌, ◌++◌, refl, sym, ap, subst, ◌∙◌, append_assoc, append-nil}
use Rattle.std.specs.Prelude.{not, ◌==◌, ◌||◌}
use Rattle.std.specs.List.{list_all}
use Rattle.std.specs.Str.{chars, IsUtf8}
use Rattle.std.proofs.lemmas.Str.{IsUtf8-nil, IsUtf8-append, IsUtf8-from_ascii, chars-nil, chars-append, chars-IsAscii}
use Rattle.base_tables.specs.declared.Language.{Language}
use Rattle.base_tables.specs.declared.Locale.{Locale}
use Rattle.base_decimal.specs.Digits.{stops}
use Rattle.formula_grammar.specs.declared.Token.{Token}
use Rattle.formula_read.specs.Characters.{Text}
use Rattle.formula_read.specs.Lexicon.{Spells, Ends, IsTokens}
use Rattle.formula_round.proofs.Characters.{is_ascii, each_ascii, is_followed}

-- before what may follow it, a text of bytes is these tokens
pub record Part (locale : Locale) (language : Language) (After : Text → Type 0) (text : List ℕ) (tokens : List Token) : Type 0 where
  pub utf8 : IsUtf8 text
  pub spells : (rest : Text) (more : List Token) → After rest → IsTokens locale language rest more
      → IsTokens locale language (chars text ++ rest) (tokens ++ more)

-- ---- what may follow

-- anything
abbrev pub Anything : Text → Type 0
Anything rest = Unit {0}

-- what may follow an operand
abbrev pub Followed : Locale → Text → Type 0
Followed locale rest = is_followed locale rest ≡ true

-- that, but no colon
abbrev pub NoColon : Locale → Text → Type 0
NoColon locale rest = (is_followed locale rest ≡ true) × (stops (λ c. c == 58) rest ≡ true)

-- this character
abbrev pub Follows : ℕ → Text → Type 0
Follows c rest = (behind : Text) × (rest ≡ c ∷ behind)

-- neither `=` nor `>`
abbrev pub NoComparison : Text → Type 0
NoComparison rest = stops (λ c. c == 61 || c == 62) rest ≡ true

-- ---- how a text begins

-- the first character is neither `=` nor `>`
abbrev pub starts_operand : Text → Bool
starts_operand [] = false
starts_operand (c ∷ text) = not (c == 61 || c == 62)

-- so do the characters of the text
abbrev pub StartsOperand : List ℕ → Type 0
StartsOperand text = starts_operand (chars text) ≡ true

pub starts_more : (text more : Text) → starts_operand text ≡ true → starts_operand (text ++ more) ≡ true
starts_more [] more e = absurd cc
starts_more (c ∷ text) more e = e

pub starts_front : (x y : List ℕ) → IsUtf8 x → StartsOperand x → StartsOperand (x ++ y)
starts_front x y utf8 e = ap starts_operand (chars-append x y utf8) ∙ starts_more (chars x) (chars y) e

pub no_comparison : (text rest : Text) → starts_operand text ≡ true → NoComparison (text ++ rest)
no_comparison [] rest e = absurd cc
no_comparison (c ∷ text) rest e = e

-- ---- ASCII

pub ascii_chars : (text : List ℕ) → list_all is_ascii text ≡ true → chars text ≡ text
ascii_chars text all = chars-IsAscii text (each_ascii text all)

pub ascii_utf8 : (text : List ℕ) → list_all is_ascii text ≡ true → IsUtf8 text
ascii_utf8 text all = IsUtf8-from_ascii text (each_ascii text all)

-- a first character of ASCII
pub chars_front : (c : ℕ) (text : List ℕ) → list_all is_ascii (c ∷ []) ≡ true → chars (c ∷ text) ≡ c ∷ chars text
chars_front c text ascii = chars-append (c ∷ []) text (ascii_utf8 (c ∷ []) ascii) ∙ ap (λ (x : Text). x ++ chars text) (ascii_chars (c ∷ []) ascii)

pub starts_with : (c : ℕ) (text : List ℕ) → list_all is_ascii (c ∷ []) ≡ true → not (c == 61 || c == 62) ≡ true → StartsOperand (c ∷ text)
starts_with c text ascii e = ap starts_operand (chars_front c text ascii) ∙ e

-- ---- parts

-- one token
pub one_token : (locale : Locale) (language : Language) (After : Text → Type 0) (x : Token) (text : List ℕ) → IsUtf8 text
    → Spells locale language x (chars text)
    → ((rest : Text) → After rest → Ends locale language x (chars text) rest) → Part locale language After text (x ∷ [])
one_token locale language After x text utf8 spells ends = record {
  utf8 = utf8;
  spells = λ rest more after is.
      (rest, record { blanks = []; spelled = chars text; parts = refl; all_blank = refl; spells = spells; ends = ends rest after }, is);
}

-- one token of ASCII
pub ascii_token : (locale : Locale) (language : Language) (After : Text → Type 0) (x : Token) (text : List ℕ) → list_all is_ascii text ≡ true
    → Spells locale language x text
    → ((rest : Text) → After rest → Ends locale language x text rest) → Part locale language After text (x ∷ [])
ascii_token locale language After x text all spells ends =
    let same = ascii_chars text all in
    one_token locale language After x text (ascii_utf8 text all) (subst (Spells locale language x) (sym same) spells)
    (λ rest after. subst (λ (s : Text). Ends locale language x s rest) (sym same) (ends rest after))

moved : (locale : Locale) (language : Language) {t u : Text} {v w : List Token} → t ≡ u → v ≡ w → IsTokens locale language t v → IsTokens locale language u w
moved locale language {t} {u} {v} {w} e f is =
    subst (λ (ts : List Token). IsTokens locale language u ts) f (subst (λ (k : Text). IsTokens locale language k v) e is)

module _ {locale : Locale} {language : Language} where
  pub nothing : (After : Text → Type 0) → Part locale language After [] []
  nothing After =
      record { utf8 = IsUtf8-nil; spells = λ rest more after is. subst (λ (x : Text). IsTokens locale language (x ++ rest) more) (sym chars-nil) is }

  -- a part for what may follow in fewer cases
  pub before : {A : Text → Type 0} {x : List ℕ} {s : List Token} (B : Text → Type 0) → ((rest : Text) → B rest → A rest) → Part locale language A x s
      → Part locale language B x s
  before B h part = record { utf8 = part.utf8; spells = λ rest more after is. part.spells rest more (h rest after) is }

  -- a part that anything may follow
  pub anyhow : {x : List ℕ} {s : List Token} (B : Text → Type 0) → Part locale language Anything x s → Part locale language B x s
  anyhow B part = before B (λ rest after. tt) part

  -- two parts, the second one as the first allows
  pub joined : {A B : Text → Type 0} {x y : List ℕ} {s z : List Token} → Part locale language A x s → Part locale language B y z
      → ((rest : Text) → B rest → A (chars y ++ rest)) → Part locale language B (x ++ y) (s ++ z)
  joined {A} {B} {x} {y} {s} {z} first second h = record {
    utf8 = IsUtf8-append x y first.utf8 second.utf8;
    spells = λ rest more after is.
        moved locale language (sym (ap (λ (t : Text). t ++ rest) (chars-append x y first.utf8) ∙ append_assoc (chars x) (chars y) rest))
        (sym (append_assoc s z more))
        (first.spells (chars y ++ rest) (z ++ more) (h rest after) (second.spells rest more after is));
  }

  -- the same where anything may follow the first one
  pub in_turn : {B : Text → Type 0} {x y : List ℕ} {s z : List Token} → Part locale language Anything x s → Part locale language B y z
      → Part locale language B (x ++ y) (s ++ z)
  in_turn first second = joined first second (λ rest after. tt)

  -- the same text, and the same tokens
  pub same_text : {A : Text → Type 0} {x y : List ℕ} {s : List Token} → x ≡ y → Part locale language A x s → Part locale language A y s
  same_text {A} {s = s} e part = subst (λ (t : List ℕ). Part locale language A t s) e part

  pub same_tokens : {A : Text → Type 0} {x : List ℕ} {s z : List Token} → s ≡ z → Part locale language A x s → Part locale language A x z
  same_tokens {A} {x} e part = subst (λ (t : List Token). Part locale language A x t) e part

  -- a text that ends a formula
  pub whole : {A : Text → Type 0} {x : List ℕ} {s : List Token} → A [] → Part locale language A x s → IsTokens locale language (chars x) s
  whole {x = x} {s = s} after part = moved locale language (append-nil (chars x)) (append-nil s) (part.spells [] [] after refl)
