-- How each token is spelled and where it may end, and the texts that are a list of tokens.
use Rattle.std.specs.Prelude.{◌≡◌, ◌≢◌, ℕ, ◌==◌, Bool, true, false, ◌||◌, ℤ, pos, encode_utf8_all, List, [], ◌∷◌, ◌++◌, Option, Some, None, if◌then◌else◌}
use Rattle.std.specs.List.{list_all}
use Rattle.base_tables.specs.declared.Error.{Error}
use Rattle.base_tables.specs.declared.Language.{Language}
use Rattle.base_tables.specs.declared.Locale.{Locale}
use Rattle.base_tables.specs.Column.{column_of_name}
use Rattle.base_tables.specs.Error.{error_of_text}
use Rattle.base_tables.specs.Locale.{decimal_sign}
use Rattle.base_tables.specs.Word.{is_digit, is_word, is_row_number, digits_number, reads_as_cell}
use Rattle.base_decimal.specs.declared.Decimal.{Decimal}
use Rattle.base_decimal.specs.Digits.{stops}
use Rattle.base_decimal.specs.Numeral.{Reads}
use Rattle.formula_grammar.specs.declared.CellMark.{CellMark}
use Rattle.formula_grammar.specs.declared.Token.{Token}
use Rattle.formula_grammar.specs.declared.Token.TheVariants as t
use Rattle.formula_read.specs.Characters.{Text, is_blank, goes_on_place, goes_on_name, goes_on_number, doubled}

-- ---- columns, rows, cells and ranges

abbrev pub dollar : Bool → Text
dollar true = 36 ∷ []
dollar false = []

-- the row that digits name: 1 to 1048576 without a leading zero
abbrev pub row_of_name : Text → Option ℤ
row_of_name name = if is_row_number name then Some (pos (digits_number name)) else None

-- `[$]COL` or `[$]ROW`: maybe a dollar, and the name of a line
pub record IsLine (line_of_name : Text → Option ℤ) (absolute : Bool) (line : ℤ) (s : Text) : Type 0 where
  pub name : Text
  pub parts : s ≡ dollar absolute ++ name
  pub named : line_of_name name ≡ Some line

abbrev pub IsColumn : CellMark → Text → Type 0
IsColumn mark = IsLine column_of_name mark.absolute_column mark.column

abbrev pub IsRow : CellMark → Text → Type 0
IsRow mark = IsLine row_of_name mark.absolute_row mark.row

-- two parts with a text between them
pub record IsPair (First : Text → Type 0) (between : Text) (Second : Text → Type 0) (s : Text) : Type 0 where
  pub first : Text
  pub second : Text
  pub parts : s ≡ first ++ (between ++ second)
  pub is_first : First first
  pub is_second : Second second

-- `[$]COL[$]ROW`
abbrev pub IsCell : CellMark → Text → Type 0
IsCell mark = IsPair (IsColumn mark) [] (IsRow mark)

-- two parts of a range with a colon between them
abbrev pub IsSpan : (First Second : Text → Type 0) → Text → Type 0
IsSpan First = IsPair First (58 ∷ [])

abbrev pub on_row : ℤ → CellMark → Type 0
on_row row mark = mark ≡ record mark { absolute_row = true; row = row }

abbrev pub on_column : ℤ → CellMark → Type 0
on_column column mark = mark ≡ record mark { absolute_column = true; column = column }

-- `CELL:CELL`, `[$]COL:[$]COL` or `[$]ROW:[$]ROW`
pub data IsRange (a b : CellMark) (s : Text) : Type 0 where
  cells : IsSpan (IsCell a) (IsCell b) s → IsRange a b s
  columns : IsSpan (IsColumn a) (IsColumn b) s → on_row (pos 1) a → on_row (pos 1048576) b → IsRange a b s
  rows : IsSpan (IsRow a) (IsRow b) s → on_column (pos 1) a → on_column (pos 16384) b → IsRange a b s

-- ---- sheets

-- the name of a sheet: a word that is no cell, or any characters in quotes
pub data IsSheetName (sheet : Text) (s : Text) : Type 0 where
  plain : is_word s ≡ true → reads_as_cell s ≡ false → sheet ≡ encode_utf8_all s → IsSheetName sheet s
  quoted : (name : Text) → s ≡ 39 ∷ doubled 39 name ++ 39 ∷ [] → name ≢ [] → sheet ≡ encode_utf8_all name → IsSheetName sheet s

-- `!`, and blanks before what stands on the sheet
pub record IsMark (s : Text) : Type 0 where
  pub blanks : Text
  pub parts : s ≡ 33 ∷ blanks
  pub all_blank : list_all is_blank blanks ≡ true

abbrev pub IsSheet : Option Text → Text → Type 0
IsSheet None s = s ≡ []
IsSheet (Some sheet) s = IsPair (IsSheetName sheet) [] IsMark s

-- maybe a sheet, and what stands on it
abbrev pub OnSheet : Option Text → (Text → Type 0) → Text → Type 0
OnSheet sheet = IsPair (IsSheet sheet) []

-- ---- the other tokens

abbrev pub starts_digit : Text → Bool
starts_digit [] = false
starts_digit (c ∷ s) = is_digit c

-- the number that it reads as, without a minus
pub record IsNumber (locale : Locale) (number : Decimal) (s : Text) : Type 0 where
  pub starts : starts_digit s ≡ true
  pub reads : Reads (decimal_sign locale) (encode_utf8_all s) number

-- the token is spelled so
abbrev pub Spells : Locale → Language → Token → Text → Type 0
Spells locale language (t.Number number) s = IsNumber locale number s
Spells locale language (t.Text text) s = (characters : Text) × (s ≡ 34 ∷ doubled 34 characters ++ 34 ∷ []) × (text ≡ encode_utf8_all characters)
Spells locale language (t.Error error) s = error_of_text language (encode_utf8_all s) ≡ Some error
Spells locale language (t.Word word) s = (is_word s ≡ true) × (word ≡ encode_utf8_all s)
Spells locale language (t.Reference sheet mark) s = OnSheet sheet (IsCell mark) s
Spells locale language (t.Range sheet a b) s = OnSheet sheet (IsRange a b) s
Spells locale language t.Equal s = s ≡ 61 ∷ []
Spells locale language t.NotEqual s = s ≡ 60 ∷ 62 ∷ []
Spells locale language t.Less s = s ≡ 60 ∷ []
Spells locale language t.LessOrEqual s = s ≡ 60 ∷ 61 ∷ []
Spells locale language t.Greater s = s ≡ 62 ∷ []
Spells locale language t.GreaterOrEqual s = s ≡ 62 ∷ 61 ∷ []
Spells locale language t.Ampersand s = s ≡ 38 ∷ []
Spells locale language t.Plus s = s ≡ 43 ∷ []
Spells locale language t.Minus s = s ≡ 45 ∷ []
Spells locale language t.Times s = s ≡ 42 ∷ []
Spells locale language t.Divide s = s ≡ 47 ∷ []
Spells locale language t.Power s = s ≡ 94 ∷ []
Spells locale language t.Percent s = s ≡ 37 ∷ []
Spells locale language t.At s = s ≡ 64 ∷ []
Spells locale language t.Colon s = s ≡ 58 ∷ []
Spells locale language t.Hash s = s ≡ 35 ∷ []
Spells locale language t.OpenParenthesis s = s ≡ 40 ∷ []
Spells locale language t.CloseParenthesis s = s ≡ 41 ∷ []
Spells locale language t.OpenBrace s = s ≡ 123 ∷ []
Spells locale language t.CloseBrace s = s ≡ 125 ∷ []
Spells locale language t.OpenBracket s = s ≡ 91 ∷ []
Spells locale language t.CloseBracket s = s ≡ 93 ∷ []
Spells locale language t.Comma s = s ≡ 44 ∷ []
Spells locale language t.Semicolon s = s ≡ 59 ∷ []

-- ---- where a token ends: the longest one is taken

-- nothing of the kind stands at the front of the text
abbrev pub NoneAtFront : (Text → Type 0) → (ℕ → Bool) → Text → Type 0
NoneAtFront Is goes_on text = (s rest : Text) → text ≡ s ++ rest → Is s → stops goes_on rest ≡ true → ⊥

-- no cell of this sheet, or of no sheet
abbrev pub NoCell : Option Text → Text → Type 0
NoCell sheet text = (mark : CellMark) → NoneAtFront (OnSheet sheet (IsCell mark)) goes_on_place text

abbrev pub NoRange : Option Text → Text → Type 0
NoRange sheet text = (a b : CellMark) → NoneAtFront (OnSheet sheet (IsRange a b)) goes_on_place text

-- no text of an error
abbrev pub NoError : Language → Text → Type 0
NoError language text = (error : Error) → NoneAtFront (λ s. error_of_text language (encode_utf8_all s) ≡ Some error) (λ c. false) text

-- the token that is spelled s may end before the rest
abbrev pub Ends : Locale → Language → Token → Text → Text → Type 0
Ends locale language (t.Number number) s rest = (stops (goes_on_number locale) rest ≡ true) × NoRange None (s ++ rest)
Ends locale language (t.Text text) s rest = stops (λ c. c == 34) rest ≡ true
Ends locale language (t.Word word) s rest = (stops goes_on_name rest ≡ true) × NoCell None (s ++ rest) × NoRange None (s ++ rest)
Ends locale language (t.Reference sheet mark) s rest = (stops goes_on_place rest ≡ true) × NoRange sheet (s ++ rest)
Ends locale language (t.Range sheet a b) s rest = stops goes_on_place rest ≡ true
Ends locale language t.Less s rest = stops (λ c. c == 61 || c == 62) rest ≡ true
Ends locale language t.Greater s rest = stops (λ c. c == 61) rest ≡ true
Ends locale language t.Hash s rest = NoError language (s ++ rest)
Ends _ _ _ s rest = Unit {0}

-- ---- texts

-- blanks, a token, and a rest
pub record Begins (locale : Locale) (language : Language) (text : Text) (token : Token) (rest : Text) : Type 0 where
  pub blanks : Text
  pub spelled : Text
  pub parts : text ≡ blanks ++ (spelled ++ rest)
  pub all_blank : list_all is_blank blanks ≡ true
  pub spells : Spells locale language token spelled
  pub ends : Ends locale language token spelled rest

-- the text is these tokens, with blanks between, before and after them
abbrev pub IsTokens : Locale → Language → Text → List Token → Type 0
IsTokens locale language text [] = list_all is_blank text ≡ true
IsTokens locale language text (token ∷ tokens) = (rest : Text) × Begins locale language text token rest × IsTokens locale language rest tokens
