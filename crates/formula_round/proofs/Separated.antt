-- Parts behind separators: the constants of arrays and the parameters of lambdas.
use Rattle.std.proofs.Common.{◌≡◌, ℕ, Bool, true, false, List, [], ◌∷◌, ◌++◌, refl, sym, ap, subst, ◌∙◌, append_assoc}
use Rattle.std.specs.Prelude.{pos, neg_ℤ, not, ◌==◌, ◌&&◌, codes, encode_utf8, if◌then◌else◌, int_le, flat_map}
use Rattle.std.specs.List.{AllByRecursion, list_all}
use Rattle.std.specs.Str.{chars, is_utf8}
use Rattle.std.proofs.lemmas.Bool.{and_parts}
use Rattle.std.proofs.lemmas.Str.{IsUtf8-from_is_utf8, chars-append, chars-nil}
use lib.Utf8.{encode}
use Rattle.base_tables.specs.declared.Language.{Language}
use Rattle.base_tables.specs.declared.Locale.{Locale}
use Rattle.base_tables.specs.declared.Locale.TheVariants as in_locale
use Rattle.base_tables.specs.Locale.{decimal_sign, argument_separator, row_separator, column_separator}
use Rattle.base_tables.specs.Word.{is_word, reads_as_cell}
use Rattle.base_decimal.specs.declared.Decimal.{Decimal}
use Rattle.base_decimal.specs.Canonical.{is_canonical}
use Rattle.base_decimal.specs.Printed.{printed as decimal_text}
use Rattle.base_decimal.proofs.Spans.{not_true}
use Rattle.formula_tree.specs.declared.ArrayItem.{ArrayItem}
use Rattle.formula_tree.specs.declared.ArrayItem.TheVariants as item
use Rattle.formula_tree.specs.declared.numbers.NumberRule.TheVariants.{Canonical}
use Rattle.formula_tree.specs.declared.Parameter.{Parameter}
use Rattle.formula_tree.specs.Numbers.{constant_follows, lines_follow}
use Rattle.formula_print.specs.declared.Style.{Style}
use Rattle.formula_print.specs.Forms.{localized_style}
use Rattle.formula_print.specs.Pieces.{item_text, later_item, line_text, later_line, lines_text, array_text, parameter_text, parameter_part}
use Rattle.formula_grammar.specs.declared.Profile.{Profile}
use Rattle.formula_grammar.specs.declared.Token.{Token}
use Rattle.formula_grammar.specs.declared.Token.TheVariants as t
use Rattle.formula_grammar.specs.Grammar.{parameters_tokens}
use Rattle.formula_grammar.specs.Normal.{is_constant, is_parameter}
use Rattle.formula_grammar.specs.Words.{separator_token, row_token, parameter_tokens}
use Rattle.formula_read.specs.Characters.{Text}
use Rattle.formula_round.specs.Tokens as tokens
use Rattle.formula_round.proofs.Characters.{is_ascii, in_word, follows, may_follow, is_followed, sign_follows}
use Rattle.formula_round.proofs.Leaves.{boolean_part, error_part, text_part, name_part, minus_part, separator_part, row_part}
use Rattle.formula_round.proofs.Leaves.{open_brace_part, close_brace_part, open_bracket_part, close_bracket_part}
use Rattle.formula_round.proofs.Numbers.{number_part, negative_printed, opposite_kept, opposite_low}
use Rattle.formula_round.proofs.Parts.{Part, Anything, NoColon, ascii_chars, nothing, before, anyhow, joined, in_turn, same_text, same_tokens}

-- ---- parts behind a separator each

module _ (locale : Locale) (language : Language) (After : Text → Type 0) (separator : List ℕ) (sign : Token)
    (separated : Part locale language Anything separator (sign ∷ [])) (clear : (rest : Text) → After (chars separator ++ rest)) where
  -- the texts and the tokens of a list, each behind a separator
  pub record Later {X : Type 0} (text : X → List ℕ) (own : X → List Token) (texts : List X → List ℕ) (tokens : List X → List Token) : Type 0 where
    pub no_text : texts [] ≡ []
    pub no_tokens : tokens [] ≡ []
    pub more_text : (x : X) (xs : List X) → texts (x ∷ xs) ≡ (separator ++ text x) ++ texts xs
    pub more_tokens : (x : X) (xs : List X) → tokens (x ∷ xs) ≡ (sign ∷ own x) ++ tokens xs

  -- a part, before which may stand what may stand before a separator
  pub record Joined (text : List ℕ) (tokens : List Token) : Type 0 where
    pub part : Part locale language After text tokens
    pub behind : (rest : Text) → After rest → After (chars text ++ rest)

  module _ {X : Type 0} {text : X → List ℕ} {own : X → List Token} {texts : List X → List ℕ} {tokens : List X → List Token}
      (later : Later text own texts tokens)
      (P : X → Type 0) (each : (x : X) → P x → Part locale language After (text x) (own x)) where
    later_parts : (xs : List X) → AllByRecursion P xs → Joined (texts xs) (tokens xs)
    later_parts [] all = record {
      part = same_tokens (sym later.no_tokens) (same_text (sym later.no_text) (nothing After));
      behind = λ rest after. subst (λ (z : Text). After (z ++ rest)) (sym (ap chars later.no_text ∙ chars-nil)) after;
    }
    later_parts (x ∷ xs) all =
        let again = later_parts xs all.1 in
        let inner = joined (each x all.0) again.part again.behind in
        let parts : texts (x ∷ xs) ≡ separator ++ (text x ++ texts xs) = later.more_text x xs ∙ append_assoc separator (text x) (texts xs) in
        let characters : chars (texts (x ∷ xs)) ≡ chars separator ++ chars (text x ++ texts xs) =
        ap chars parts ∙ chars-append separator (text x ++ texts xs) separated.utf8 in
        record {
          part = same_tokens (sym (later.more_tokens x xs)) (same_text (sym parts) (in_turn separated inner));
          behind = λ rest after.
              let whole = ap (λ (z : Text). z ++ rest) characters ∙ append_assoc (chars separator) (chars (text x ++ texts xs)) rest in
              subst After (sym whole) (clear (chars (text x ++ texts xs) ++ rest));
        }

    -- a first one, and later ones behind separators
    pub listed_parts : (x : X) (xs : List X) → P x → AllByRecursion P xs → Part locale language After (text x ++ texts xs) (own x ++ tokens xs)
    listed_parts x xs first all = let rest = later_parts xs all in joined (each x first) rest.part rest.behind

-- ---- signs that may follow an operand and are no colon

sign_clear : (locale : Locale) (c : ℕ) (rest : Text) → may_follow locale c && not (c == 58) ≡ true → list_all is_ascii (c ∷ []) ≡ true
    → NoColon locale (chars (c ∷ []) ++ rest)
unfolding is_followed
sign_clear locale c rest e ascii =
    let k = and_parts (may_follow locale c) _ e in
    subst (NoColon locale) (sym (ap (λ (x : Text). x ++ rest) (ascii_chars (c ∷ []) ascii))) (k.0, k.1)

pub separator_clear : (locale : Locale) (rest : Text) → NoColon locale (chars (encode_utf8 (argument_separator locale)) ++ rest)
unfolding may_follow follows in_word encode
separator_clear in_locale.En rest = sign_clear in_locale.En 44 rest refl refl
separator_clear in_locale.De rest = sign_clear in_locale.De 59 rest refl refl
separator_clear in_locale.Fr rest = sign_clear in_locale.Fr 59 rest refl refl
separator_clear in_locale.Es rest = sign_clear in_locale.Es 59 rest refl refl

row_clear : (locale : Locale) (rest : Text) → NoColon locale (chars (encode_utf8 (row_separator locale)) ++ rest)
unfolding may_follow follows in_word encode
row_clear in_locale.En rest = sign_clear in_locale.En 59 rest refl refl
row_clear in_locale.De rest = sign_clear in_locale.De 47 rest refl refl
row_clear in_locale.Fr rest = sign_clear in_locale.Fr 47 rest refl refl
row_clear in_locale.Es rest = sign_clear in_locale.Es 47 rest refl refl

-- a sign that follows in each locale, and what else is written of it
pub plain_clear : (locale : Locale) (c : ℕ) (more rest : Text) → follows c && not (c == 44) ≡ true → not (c == 58) ≡ true → list_all is_ascii (c ∷ more) ≡ true
    → NoColon locale (chars (c ∷ more) ++ rest)
plain_clear locale c more rest e other ascii =
    subst (NoColon locale) (sym (ap (λ (x : Text). x ++ rest) (ascii_chars (c ∷ more) ascii))) (sign_follows locale c (more ++ rest) e, other)

-- ---- arrays

both_of : {X : Type 0} (p q : X → Bool) (xs : List X) → list_all p xs ≡ true → list_all q xs ≡ true → AllByRecursion (λ x. (p x ≡ true) × (q x ≡ true)) xs
both_of p q [] e f = tt
both_of p q (x ∷ xs) e f =
    let k = and_parts (p x) (list_all p xs) e in
    let m = and_parts (q x) (list_all q xs) f in
    ((k.0, m.0), both_of p q xs k.1 m.1)

module _ (p : Profile) where
  -- the style of the formula
  abbrev pub style : Style
  style = localized_style p.place p.locale p.language

  abbrev Clear : List ℕ → List Token → Type 0
  Clear = Part p.locale p.language (NoColon p.locale)

  -- the constant is normal, and its number canonical
  abbrev Fine : ArrayItem → Type 0
  Fine x = (is_constant x ≡ true) × (constant_follows Canonical x ≡ true)

  abbrev opposite : Decimal → Decimal
  opposite d = record d { mantissa = neg_ℤ d.mantissa }

  number_item : (d : Decimal) → is_canonical d ≡ true → (low : Bool) → int_le (pos 0) d.mantissa ≡ low
      → Clear (decimal_text (decimal_sign p.locale) d) (if low then t.Number d ∷ [] else t.Minus ∷ t.Number (opposite d) ∷ [])
  number_item d canonical true low = number_part d canonical low
  number_item d canonical false low =
      same_text (sym (negative_printed (decimal_sign p.locale) d low))
      (in_turn minus_part (number_part (opposite d) (opposite_kept d low canonical) (opposite_low d.mantissa low)))

  item_part : (x : ArrayItem) → Fine x → Clear (item_text style x) (tokens.item_tokens p x)
  item_part (item.Boolean value) fine = before (NoColon p.locale) (λ rest after. after.0) (boolean_part value)
  item_part (item.Number value) fine = number_item value fine.1 (int_le (pos 0) value.mantissa) refl
  item_part (item.Text text) fine = before (NoColon p.locale) (λ rest after. after.0) (text_part text (IsUtf8-from_is_utf8 text fine.0))
  item_part (item.Error error) fine = anyhow (NoColon p.locale) (error_part error)

  line_part : (line : List ArrayItem) → AllByRecursion Fine line → Clear (line_text style line) (tokens.line_tokens p line)
  line_part [] fine = nothing (NoColon p.locale)
  line_part (first ∷ later) fine =
      listed_parts p.locale p.language (NoColon p.locale) (encode_utf8 (column_separator p.locale)) (separator_token p.locale)
      (separator_part p.locale p.language) (separator_clear p.locale)
      {text = item_text style} {own = tokens.item_tokens p} {texts = flat_map (later_item style)} {tokens = flat_map (tokens.later_item p)}
      (record { no_text = refl; no_tokens = refl; more_text = λ x xs. refl; more_tokens = λ x xs. refl }) Fine item_part first later fine.0 fine.1

  lines_part : (lines : List (List ArrayItem)) → AllByRecursion (AllByRecursion Fine) lines → Clear (lines_text style lines) (tokens.lines_tokens p lines)
  lines_part [] fine = nothing (NoColon p.locale)
  lines_part (first ∷ later) fine =
      listed_parts p.locale p.language (NoColon p.locale) (encode_utf8 (row_separator p.locale)) (row_token p.locale)
      (row_part p.locale p.language) (row_clear p.locale)
      {text = line_text style} {own = tokens.line_tokens p} {texts = flat_map (later_line style)} {tokens = flat_map (tokens.later_line p)}
      (record { no_text = refl; no_tokens = refl; more_text = λ x xs. refl; more_tokens = λ x xs. refl })
      (AllByRecursion Fine) line_part first later fine.0 fine.1

  lines_fine : (lines : List (List ArrayItem)) → list_all (list_all is_constant) lines ≡ true → lines_follow Canonical lines ≡ true
      → AllByRecursion (AllByRecursion Fine) lines
  lines_fine [] e f = tt
  lines_fine (line ∷ lines) e f =
      let k = and_parts (list_all is_constant line) _ e in
      let m = and_parts (list_all (constant_follows Canonical) line) _ f in
      (both_of is_constant (constant_follows Canonical) line k.0 m.0, lines_fine lines k.1 m.1)

  -- an array of normal constants with canonical numbers
  pub array_part : (lines : List (List ArrayItem)) → list_all (list_all is_constant) lines ≡ true → lines_follow Canonical lines ≡ true
      → Part p.locale p.language Anything (array_text style lines) (tokens.array_tokens p lines)
  unfolding follows in_word
  array_part lines normal canonical =
      let closed = joined (lines_part lines (lines_fine lines normal canonical)) close_brace_part (λ rest after. plain_clear p.locale 125 [] rest refl refl refl) in
      in_turn open_brace_part closed

  -- ---- parameters

  bracketed : (name : List ℕ) → Clear name (t.Word name ∷ []) → (optional : Bool)
      → Clear (if optional then codes "[" ++ (name ++ codes "]") else name)
      (if optional then t.OpenBracket ∷ t.Word name ∷ t.CloseBracket ∷ [] else t.Word name ∷ [])
  unfolding follows in_word
  bracketed name part true =
      let closed = joined part (anyhow (NoColon p.locale) close_bracket_part) (λ rest after. plain_clear p.locale 93 [] rest refl refl refl) in
      in_turn open_bracket_part closed
  bracketed name part false = part

  one_parameter : (x : Parameter) → is_parameter x ≡ true → Clear (parameter_text x) (parameter_tokens x)
  one_parameter x fine =
      let k = and_parts (is_utf8 x.name && is_word (chars x.name)) _ fine in
      let word = and_parts (is_utf8 x.name) (is_word (chars x.name)) k.0 in
      bracketed x.name (name_part x.name (IsUtf8-from_is_utf8 x.name word.0) word.1 (not_true (reads_as_cell (chars x.name)) k.1)) x.optional

  -- the parameters of a lambda, each with the separator behind it
  pub parameters_part : (parameters : List Parameter) → list_all is_parameter parameters ≡ true
      → Part p.locale p.language Anything (flat_map (parameter_part p.locale) parameters) (parameters_tokens p parameters)
  parameters_part [] fine = nothing Anything
  parameters_part (x ∷ later) fine =
      let k = and_parts (is_parameter x) (list_all is_parameter later) fine in
      let one = joined (one_parameter x k.0) (separator_part p.locale p.language) (λ rest after. separator_clear p.locale rest) in
      same_tokens (append_assoc (parameter_tokens x) (separator_token p.locale ∷ []) (parameters_tokens p later)) (in_turn one (parameters_part later k.1))
