-- Signs, words, texts and errors spell their tokens.
use Rattle.std.proofs.Common.{◌≡◌, ℕ, ◌<◌, Bool, true, false, cond, List, [], ◌∷◌, ◌++◌, refl, sym, ap, subst, ◌∙◌, append_assoc, arith}
use Rattle.std.specs.Prelude.{not, ◌==◌, ◌||◌, ◌&&◌, codes, encode_utf8, encode_utf8_all, Some, None}
use Rattle.std.specs.Cmp.Lexicographic.{bytes_decides}
use Rattle.std.specs.List.{list_all}
use Rattle.std.specs.Str.{chars, IsUtf8}
use Rattle.std.proofs.lemmas.Bool.{and_from, and_parts, or_right}
use Rattle.std.proofs.lemmas.Bool.Decides.{nat_tests}
use Rattle.std.proofs.lemmas.Str.{encode_ascii, encodes-append, encodes-chars, encodes-IsAscii, chars-append, chars-encodes, scalars-chars}
use lib.Utf8.{encode, scalars}
use Rattle.base_tables.specs.declared.Error.{Error}
use Rattle.base_tables.specs.declared.Error.TheVariants.{Ref, Name, Value, DivisionByZero, NotAvailable, Number, General, NotImplemented, Spill, Calc, Circular}
use Rattle.base_tables.specs.declared.Error.TheVariants.{Null}
use Rattle.base_tables.specs.declared.Function.{Function}
use Rattle.base_tables.specs.declared.Function.TheVariants.{Sum}
use Rattle.base_tables.specs.declared.Language.{Language}
use Rattle.base_tables.specs.declared.Language.TheVariants.{En, De, Fr, Es}
use Rattle.base_tables.specs.declared.Locale.{Locale}
use Rattle.base_tables.specs.declared.Locale.TheVariants as in_locale
use Rattle.base_tables.specs.Column.{is_letter, is_column_name, column_of_name}
use Rattle.base_tables.specs.Error.{all_errors, error_text, error_of_text, is_own_reference_error}
use Rattle.base_tables.specs.Function.{function_name}
use Rattle.base_tables.specs.Language.{boolean_text}
use Rattle.base_tables.specs.Locale.{argument_separator, row_separator}
use Rattle.base_tables.specs.Tables.{entry_named}
use Rattle.base_tables.specs.Word.{is_count, is_word, starts_word, goes_on_word, reads_as_cell}
use Rattle.base_tables.specs.laws.Error.{error_of_text-error_text}
use Rattle.base_tables.specs.laws.Tables.{found_name}
use Rattle.base_decimal.specs.Digits.{stops}
use Rattle.formula_tree.specs.declared.CompareKind.{CompareKind}
use Rattle.formula_tree.specs.declared.CompareKind.TheVariants as c
use Rattle.formula_tree.specs.declared.ProductKind.TheVariants as p
use Rattle.formula_tree.specs.declared.SumKind.TheVariants as s
use Rattle.formula_tree.specs.declared.Infix.{Infix}
use Rattle.formula_tree.specs.declared.Infix.TheVariants as op
use Rattle.formula_print.specs.Pieces.{text_constant, compare_sign, infix_sign}
use Rattle.formula_grammar.specs.declared.Token.TheVariants as t
use Rattle.formula_grammar.specs.Operators.{compare_token, infix_token}
use Rattle.formula_grammar.specs.Words.{separator_token, row_token}
use Rattle.formula_read.specs.Characters.{Text, goes_on_name, doubled}
use Rattle.formula_read.specs.Lexicon.{row_of_name, NoCell, NoRange, NoError}
use Rattle.formula_round.proofs.Characters.{is_ascii, each_ascii, in_word, in_cell, ascii_word, ascii_starts, follows, follows_low, follow_parts}
use Rattle.formula_round.proofs.Characters.{is_followed, ends_name, ends_text, ends_cell}
use Rattle.formula_round.proofs.Fronts.{weaker, no_cell_here}
use Rattle.formula_round.proofs.Parts.{Part, Anything, Followed, NoColon, Follows, NoComparison, starts_operand, StartsOperand, chars_front, ascii_chars}
use Rattle.formula_round.proofs.Parts.{ascii_utf8, one_token, ascii_token, joined}
use Rattle.formula_round.proofs.Places.{doubled_scalars}
use Rattle.formula_round.proofs.Words.{letters_word, word_goes_on, word_no_cell, word_no_cell_before, word_no_range, no_side_no_range}

-- ---- words of ASCII

-- a letter, and then letters and dots
abbrev pub is_letters : Text → Bool
is_letters [] = false
is_letters (c ∷ s) = is_letter c && list_all (λ d. is_letter d || d == 46) s

letters_are_word : (s : Text) → is_letters s ≡ true → is_word s ≡ true
letters_are_word [] e = absurd cc
letters_are_word (c ∷ s) e = let k = and_parts (is_letter c) _ e in letters_word c s k.0 k.1

letters_ascii : (s : Text) → is_letters s ≡ true → list_all is_ascii s ≡ true
letters_ascii [] e = refl
letters_ascii (c ∷ s) e =
    let k = and_parts (is_letter c) _ e in and_from (is_ascii c) _ (low c k.0) (weaker (λ d. is_letter d || d == 46) is_ascii low_dot s k.1)
  where
    low : (d : ℕ) → is_letter d ≡ true → is_ascii d ≡ true
    low d h = grind (arith, nat_tests, h)

    low_dot : (d : ℕ) → is_letter d || d == 46 ≡ true → is_ascii d ≡ true
    low_dot d h = grind (arith, nat_tests, h)

pub boolean_letters : (language : Language) (value : Bool) → is_letters (boolean_text language value) ≡ true
boolean_letters En true = refl
boolean_letters De true = refl
boolean_letters Fr true = refl
boolean_letters Es true = refl
boolean_letters _ _ = refl

boolean_no_cell : (language : Language) (value : Bool) → reads_as_cell (boolean_text language value) ≡ false
unfolding reads_as_cell is_column_name
boolean_no_cell En true = refl
boolean_no_cell De true = refl
boolean_no_cell Fr true = refl
boolean_no_cell Es true = refl
boolean_no_cell _ _ = refl

boolean_no_column : (language : Language) (value : Bool) → column_of_name (boolean_text language value) ≡ None
unfolding column_of_name is_column_name
boolean_no_column En true = refl
boolean_no_column De true = refl
boolean_no_column Fr true = refl
boolean_no_column Es true = refl
boolean_no_column _ _ = refl

boolean_no_row : (language : Language) (value : Bool) → row_of_name (boolean_text language value) ≡ None
unfolding is_count
boolean_no_row En true = refl
boolean_no_row De true = refl
boolean_no_row Fr true = refl
boolean_no_row Es true = refl
boolean_no_row _ _ = refl

pub function_letters : (language : Language) (function : Function) → is_letters (function_name language function) ≡ true
function_letters En Sum = refl
function_letters De Sum = refl
function_letters Fr Sum = refl
function_letters Es Sum = refl
function_letters _ _ = refl

open_no_word : goes_on_word 40 ≡ false
unfolding in_word
open_no_word = ascii_word 40 (omega arith)

letter_first : (s : Text) → is_letters s ≡ true → starts_operand s ≡ true
letter_first [] e = absurd cc
letter_first (c ∷ s) e = other c (and_parts (is_letter c) _ e).0
  where
    other : (c : ℕ) → is_letter c ≡ true → not (c == 61 || c == 62) ≡ true
    other c h = grind (arith, nat_tests, h)

pub letters_start : (word : List ℕ) → is_letters word ≡ true → StartsOperand word
letters_start word letters = ap starts_operand (ascii_chars word (letters_ascii word letters)) ∙ letter_first word letters

sign_starts_no_word : (c : ℕ) → c == 61 || c == 62 ≡ true → starts_word c ≡ false
sign_starts_no_word c e = ascii_starts c (low c e) ∙ no_letter c e
  where
    low : (c : ℕ) → c == 61 || c == 62 ≡ true → c < 128
    low c h = grind (arith, nat_tests, h)

    no_letter : (c : ℕ) → c == 61 || c == 62 ≡ true → is_letter c || c == 95 ≡ false
    no_letter c h = grind (arith, nat_tests, h)

-- a word begins as an operand does
pub word_first : (s : Text) → is_word s ≡ true → starts_operand s ≡ true
unfolding is_word
word_first [] e = absurd cc
word_first (c ∷ s) e = by (c == 61 || c == 62) refl
  where
    by : (b : Bool) → c == 61 || c == 62 ≡ b → not (c == 61 || c == 62) ≡ true
    by true h = let x : true ≡ false = sym (and_parts (starts_word c) _ e).0 ∙ sign_starts_no_word c h in absurd cc
    by false h = ap not h

-- ---- errors

-- the second byte of an error's text never follows an operand
record Hashed (bytes : List ℕ) : Type 0 where
  second : ℕ
  more : List ℕ
  parts : bytes ≡ 35 ∷ second ∷ more
  no_end : follows second ≡ false

english_hashed : (error : Error) → Hashed (error_text error)
unfolding follows in_word
english_hashed Ref = record { second = 82; more = codes "EF!"; parts = refl; no_end = refl }
english_hashed Name = record { second = 78; more = codes "AME?"; parts = refl; no_end = refl }
english_hashed Value = record { second = 86; more = codes "ALUE!"; parts = refl; no_end = refl }
english_hashed DivisionByZero = record { second = 68; more = codes "IV/0!"; parts = refl; no_end = refl }
english_hashed NotAvailable = record { second = 78; more = codes "/A"; parts = refl; no_end = refl }
english_hashed Number = record { second = 78; more = codes "UM!"; parts = refl; no_end = refl }
english_hashed General = record { second = 69; more = codes "RROR!"; parts = refl; no_end = refl }
english_hashed NotImplemented = record { second = 78; more = codes "/IMPL!"; parts = refl; no_end = refl }
english_hashed Spill = record { second = 83; more = codes "PILL!"; parts = refl; no_end = refl }
english_hashed Calc = record { second = 67; more = codes "ALC!"; parts = refl; no_end = refl }
english_hashed Circular = record { second = 67; more = codes "IRC!"; parts = refl; no_end = refl }
english_hashed Null = record { second = 78; more = codes "ULL!"; parts = refl; no_end = refl }

own_hashed : (language : Language) (bytes : List ℕ) → is_own_reference_error language bytes ≡ true → Hashed bytes
unfolding follows in_word
own_hashed En bytes e = absurd cc
own_hashed De bytes e = record { second = 66; more = codes "EZUG!"; parts = sym ((bytes_decides _ _).0 e); no_end = refl }
own_hashed Fr bytes e = absurd cc
own_hashed Es bytes e = record { second = 0xC2; more = 0xA1 ∷ codes "REF!"; parts = sym ((bytes_decides _ _).0 e); no_end = refl }

error_hashed : (language : Language) (bytes : List ℕ) (error : Error) → error_of_text language bytes ≡ Some error → Hashed bytes
error_hashed language bytes error e = by (is_own_reference_error language bytes) refl e
  where
    by : (own : Bool) → is_own_reference_error language bytes ≡ own → cond own (Some Ref) (entry_named error_text all_errors bytes) ≡ Some error → Hashed bytes
    by true is found = own_hashed language bytes is
    by false is found = subst Hashed (found_name error_text all_errors bytes error found) (english_hashed error)

encoded_first : (c : ℕ) (s : Text) → c < 128 → encode_utf8_all (c ∷ s) ≡ c ∷ encode_utf8_all s
encoded_first c s low = ap (λ (x : List ℕ). x ++ encode_utf8_all s) (encode_ascii c low)

-- no text of an error begins with a hash that ends an operand
no_error : (locale : Locale) (language : Language) (rest : Text) → is_followed locale rest ≡ true → NoError language (35 ∷ rest)
unfolding is_followed
no_error locale language rest ends error z r parts is stop = by z parts (error_hashed language (encode_utf8_all z) error is)
  where
    by : (z : Text) → 35 ∷ rest ≡ z ++ r → Hashed (encode_utf8_all z) → ⊥
    by [] e h = let x = h.parts in cc
    by (d ∷ []) e h =
        let first : d ≡ 35 = cc in
        let x = sym h.parts ∙ ap (λ (y : ℕ). encode_utf8_all (y ∷ [])) first ∙ encoded_first 35 [] (omega arith) in cc
    by (d ∷ b ∷ y) e h =
        let first : d ≡ 35 = cc in
        let behind : rest ≡ b ∷ (y ++ r) = cc in
        let k = follow_parts locale b (sym (ap (is_followed locale) behind) ∙ ends) in
        let x = sym h.parts ∙ ap (λ (w : ℕ). encode_utf8_all (w ∷ b ∷ y)) first ∙ encoded_first 35 (b ∷ y) (omega arith)
        ∙ ap (λ (w : List ℕ). 35 ∷ w) (encoded_first b y (follows_low b k.0)) in
        let same : h.second ≡ b = cc in
        let none : true ≡ false = sym k.0 ∙ ap follows (sym same) ∙ h.no_end in cc

error_ascii : (error : Error) → list_all is_ascii (error_text error) ≡ true
error_ascii Ref = refl
error_ascii _ = refl

pub error_first : (error : Error) (rest : Text) → NoCell None (chars (error_text error) ++ rest) × StartsOperand (error_text error)
error_first error rest =
    let h = english_hashed error in
    let is : chars (error_text error) ≡ 35 ∷ (h.second ∷ h.more) = ascii_chars (error_text error) (error_ascii error) ∙ h.parts in
    (subst (λ (s : Text). NoCell None (s ++ rest)) (sym is) (no_cell_here 35 (h.second ∷ h.more ++ rest) refl), ap starts_operand is)

pub boolean_first : (locale : Locale) (language : Language) (value : Bool) (rest : Text) → is_followed locale rest ≡ true
    → NoCell None (chars (boolean_text language value) ++ rest)
boolean_first locale language value rest after =
    let word = boolean_text language value in
    let letters = boolean_letters language value in
    subst (λ (s : Text). NoCell None (s ++ rest)) (sym (ascii_chars word (letters_ascii word letters)))
    (word_no_cell word rest (word_goes_on word (letters_are_word word letters)) (boolean_no_cell language value) (ends_cell locale rest after))

-- no cell begins with a word that is called
pub called_first : (word tail : List ℕ) (rest : Text) → IsUtf8 word → is_word (chars word) ≡ true → NoCell None (chars (word ++ (codes "(" ++ tail)) ++ rest)
unfolding in_cell
called_first word tail rest utf8 is =
    let parts : chars (word ++ (codes "(" ++ tail)) ++ rest ≡ chars word ++ (40 ∷ (chars tail ++ rest)) =
    ap (λ (x : Text). x ++ rest) (chars-append word (codes "(" ++ tail) utf8 ∙ ap (λ (x : Text). chars word ++ x) (chars_front 40 tail refl))
    ∙ append_assoc (chars word) (40 ∷ chars tail) rest in
    subst (NoCell None) (sym parts)
    (word_no_cell_before (chars word) 40 (chars tail ++ rest) (word_goes_on (chars word) is) refl (or_right (goes_on_word 40) _ refl))

-- a word of letters is one in UTF-8
pub letters_word_of : (word : List ℕ) → is_letters word ≡ true → IsUtf8 word × (is_word (chars word) ≡ true)
letters_word_of word letters =
    let ascii = letters_ascii word letters in
    (ascii_utf8 word ascii, ap is_word (ascii_chars word ascii) ∙ letters_are_word word letters)

-- ---- parts

greater_ends : (rest : Text) → NoComparison rest → stops (λ c. c == 61) rest ≡ true
greater_ends [] e = refl
greater_ends (c ∷ rest) e = go (c == 61) (c == 62) e
  where
    go : (a b : Bool) → not (a || b) ≡ true → not a ≡ true
    go true b h = h
    go false b h = refl

module _ {locale : Locale} {language : Language} where
  compare_part : (kind : CompareKind) → Part locale language NoComparison (compare_sign kind) (compare_token kind ∷ [])
  compare_part c.Equal = ascii_token locale language NoComparison t.Equal (codes "=") refl refl (λ rest after. tt)
  compare_part c.NotEqual = ascii_token locale language NoComparison t.NotEqual (codes "<>") refl refl (λ rest after. tt)
  compare_part c.Less = ascii_token locale language NoComparison t.Less (codes "<") refl refl (λ rest after. after)
  compare_part c.LessOrEqual = ascii_token locale language NoComparison t.LessOrEqual (codes "<=") refl refl (λ rest after. tt)
  compare_part c.Greater = ascii_token locale language NoComparison t.Greater (codes ">") refl refl greater_ends
  compare_part c.GreaterOrEqual = ascii_token locale language NoComparison t.GreaterOrEqual (codes ">=") refl refl (λ rest after. tt)

  pub infix_part : (operator : Infix) → Part locale language NoComparison (infix_sign operator) (infix_token operator ∷ [])
  infix_part (op.Compare kind) = compare_part kind
  infix_part op.Concatenate = ascii_token locale language NoComparison t.Ampersand (codes "&") refl refl (λ rest after. tt)
  infix_part (op.Sum s.Add) = ascii_token locale language NoComparison t.Plus (codes "+") refl refl (λ rest after. tt)
  infix_part (op.Sum s.Subtract) = ascii_token locale language NoComparison t.Minus (codes "-") refl refl (λ rest after. tt)
  infix_part (op.Product p.Multiply) = ascii_token locale language NoComparison t.Times (codes "*") refl refl (λ rest after. tt)
  infix_part (op.Product p.Divide) = ascii_token locale language NoComparison t.Divide (codes "/") refl refl (λ rest after. tt)
  infix_part op.Power = ascii_token locale language NoComparison t.Power (codes "^") refl refl (λ rest after. tt)
  infix_part op.Colon = ascii_token locale language NoComparison t.Colon (codes ":") refl refl (λ rest after. tt)

  pub minus_part : Part locale language Anything (codes "-") (t.Minus ∷ [])
  minus_part = ascii_token locale language Anything t.Minus (codes "-") refl refl (λ rest after. tt)

  pub percent_part : Part locale language Anything (codes "%") (t.Percent ∷ [])
  percent_part = ascii_token locale language Anything t.Percent (codes "%") refl refl (λ rest after. tt)

  pub at_part : Part locale language Anything (codes "@") (t.At ∷ [])
  at_part = ascii_token locale language Anything t.At (codes "@") refl refl (λ rest after. tt)

  pub colon_part : Part locale language Anything (codes ":") (t.Colon ∷ [])
  colon_part = ascii_token locale language Anything t.Colon (codes ":") refl refl (λ rest after. tt)

  pub open_part : Part locale language Anything (codes "(") (t.OpenParenthesis ∷ [])
  open_part = ascii_token locale language Anything t.OpenParenthesis (codes "(") refl refl (λ rest after. tt)

  pub close_part : Part locale language Anything (codes ")") (t.CloseParenthesis ∷ [])
  close_part = ascii_token locale language Anything t.CloseParenthesis (codes ")") refl refl (λ rest after. tt)

  pub open_brace_part : Part locale language Anything (codes "{") (t.OpenBrace ∷ [])
  open_brace_part = ascii_token locale language Anything t.OpenBrace (codes "{") refl refl (λ rest after. tt)

  pub close_brace_part : Part locale language Anything (codes "}") (t.CloseBrace ∷ [])
  close_brace_part = ascii_token locale language Anything t.CloseBrace (codes "}") refl refl (λ rest after. tt)

  pub open_bracket_part : Part locale language Anything (codes "[") (t.OpenBracket ∷ [])
  open_bracket_part = ascii_token locale language Anything t.OpenBracket (codes "[") refl refl (λ rest after. tt)

  pub close_bracket_part : Part locale language Anything (codes "]") (t.CloseBracket ∷ [])
  close_bracket_part = ascii_token locale language Anything t.CloseBracket (codes "]") refl refl (λ rest after. tt)

  pub hash_part : Part locale language (Followed locale) (codes "#") (t.Hash ∷ [])
  hash_part = ascii_token locale language (Followed locale) t.Hash (codes "#") refl refl (no_error locale language)

  pub error_part : (error : Error) → Part locale language Anything (error_text error) (t.Error error ∷ [])
  error_part error =
      let text = error_text error in
      let encoded = encodes-IsAscii text (each_ascii text (error_ascii error)) in
      ascii_token locale language Anything (t.Error error) text (error_ascii error)
      (ap (error_of_text language) encoded ∙ error_of_text-error_text language error)
      (λ rest after. tt)

  -- ---- texts

  pub text_part : (text : List ℕ) → IsUtf8 text → Part locale language (Followed locale) (text_constant text) (t.Text text ∷ [])
  text_part text utf8 =
      let inside : Text = doubled 34 (chars text) in
      let characters : Text = 34 ∷ inside ++ 34 ∷ [] in
      let all : scalars characters ≡ true = doubled_scalars 34 (chars text) refl (scalars-chars text utf8) in
      let closed : encode_utf8_all (inside ++ 34 ∷ []) ≡ encode_utf8_all inside ++ codes "\"" =
      encodes-append inside (34 ∷ []) ∙ ap (λ (x : List ℕ). encode_utf8_all inside ++ x) (encoded_first 34 [] (omega arith)) in
      let spelled : encode_utf8_all characters ≡ text_constant text = encoded_first 34 (inside ++ 34 ∷ []) (omega arith) ∙ ap (λ (x : List ℕ). 34 ∷ x) closed in
      let same : chars (text_constant text) ≡ characters = ap chars (sym spelled) ∙ chars-encodes characters all in
      one_token locale language (Followed locale) (t.Text text) (text_constant text) (characters, (all, spelled))
      (chars text, same, sym (encodes-chars text utf8))
      (ends_text locale)

  -- ---- words

  -- a word that reads as no cell, before no colon
  pub name_part : (word : List ℕ) → IsUtf8 word → is_word (chars word) ≡ true → reads_as_cell (chars word) ≡ false
      → Part locale language (NoColon locale) word (t.Word word ∷ [])
  name_part word utf8 is none =
      let all = word_goes_on (chars word) is in
      one_token locale language (NoColon locale) (t.Word word) word utf8 (is, sym (encodes-chars word utf8))
      (λ rest after.
      let ends = ends_cell locale rest after.0 in
      (ends_name locale rest after.0, word_no_cell (chars word) rest all none ends, word_no_range (chars word) rest all ends after.1))

  word_before : (word : List ℕ) → IsUtf8 word → is_word (chars word) ≡ true → Part locale language (Follows 40) word (t.Word word ∷ [])
  unfolding in_cell
  word_before word utf8 is =
      let s = chars word in
      let all = word_goes_on s is in
      one_token locale language (Follows 40) (t.Word word) word utf8 (is, sym (encodes-chars word utf8))
      (λ rest after. (
        ap (stops goes_on_name) after.1 ∙ ap (λ (b : Bool). not (b || false)) open_no_word,
        subst (λ (x : Text). NoCell None (s ++ x)) (sym after.1) (word_no_cell_before s 40 after.0 all refl (or_right (goes_on_word 40) _ refl)),
        subst (λ (x : Text). NoRange None (s ++ x)) (sym after.1) (word_no_range s (40 ∷ after.0) all refl refl),
      ))

  -- a word and the parenthesis behind it
  pub called_part : (word : List ℕ) → IsUtf8 word → is_word (chars word) ≡ true
      → Part locale language Anything (word ++ codes "(") (t.Word word ∷ t.OpenParenthesis ∷ [])
  called_part word utf8 is = joined (word_before word utf8 is) open_part (λ rest after. (rest, ap (λ (x : Text). x ++ rest) (ascii_chars (codes "(") refl)))

  pub boolean_part : (value : Bool) → Part locale language (Followed locale) (boolean_text language value) (t.Word (boolean_text language value) ∷ [])
  boolean_part value =
      let word = boolean_text language value in
      let ascii = letters_ascii word (boolean_letters language value) in
      let is = letters_are_word word (boolean_letters language value) in
      let all = word_goes_on word is in
      let no_cell = boolean_no_cell language value in
      ascii_token locale language (Followed locale) (t.Word word) word ascii (is, sym (encodes-IsAscii word (each_ascii word ascii)))
      (λ rest after.
      let ends = ends_cell locale rest after in (
        ends_name locale rest after,
        word_no_cell word rest all no_cell ends,
        no_side_no_range word rest all no_cell (boolean_no_column language value) (boolean_no_row language value) ends,
      ))

-- ---- separators

pub separator_part : (locale : Locale) (language : Language)
    → Part locale language Anything (encode_utf8 (argument_separator locale)) (separator_token locale ∷ [])
unfolding encode
separator_part in_locale.En language = ascii_token in_locale.En language Anything t.Comma (codes ",") refl refl (λ rest after. tt)
separator_part in_locale.De language = ascii_token in_locale.De language Anything t.Semicolon (codes ";") refl refl (λ rest after. tt)
separator_part in_locale.Fr language = ascii_token in_locale.Fr language Anything t.Semicolon (codes ";") refl refl (λ rest after. tt)
separator_part in_locale.Es language = ascii_token in_locale.Es language Anything t.Semicolon (codes ";") refl refl (λ rest after. tt)

pub row_part : (locale : Locale) (language : Language) → Part locale language Anything (encode_utf8 (row_separator locale)) (row_token locale ∷ [])
unfolding encode
row_part in_locale.En language = ascii_token in_locale.En language Anything t.Semicolon (codes ";") refl refl (λ rest after. tt)
row_part in_locale.De language = ascii_token in_locale.De language Anything t.Divide (codes "/") refl refl (λ rest after. tt)
row_part in_locale.Fr language = ascii_token in_locale.Fr language Anything t.Divide (codes "/") refl refl (λ rest after. tt)
row_part in_locale.Es language = ascii_token in_locale.Es language Anything t.Divide (codes "/") refl refl (λ rest after. tt)
