-- Text to tokens, as a function.
use Rattle.std.specs.Prelude.{ℕ, zero, suc, ◌+◌, ◌==◌, Bool, true, false, not, ◌&&◌, ◌||◌, nat_lt, ℤ, pos, codes, encode_utf8_all, List, [], ◌∷◌, length, Option, Some, None, if◌then◌else◌}
use Rattle.std.specs.Option.{option_map, option_and_then, option_or}
use Rattle.base_tables.specs.declared.Error.{Error}
use Rattle.base_tables.specs.declared.Error.TheVariants.{Ref}
use Rattle.base_tables.specs.declared.Language.{Language}
use Rattle.base_tables.specs.declared.Language.TheVariants.{En, De, Fr, Es}
use Rattle.base_tables.specs.declared.Locale.{Locale}
use Rattle.base_tables.specs.Column.{is_letter, column_of_name}
use Rattle.base_tables.specs.Error.{all_errors, error_text}
use Rattle.base_tables.specs.Locale.{decimal_sign}
use Rattle.base_tables.specs.Word.{is_digit, starts_word, goes_on_word, reads_as_cell}
use Rattle.base_decimal.specs.Digits.{span, stops}
use Rattle.base_decimal.specs.Numeral.{is_exponent_letter}
use Rattle.base_decimal.specs.laws.Reading.{decimal_of}
use Rattle.formula_grammar.specs.declared.CellMark.{CellMark}
use Rattle.formula_grammar.specs.declared.Token.{Token}
use Rattle.formula_grammar.specs.declared.Token.TheVariants as t
use Rattle.formula_read.specs.declared.place.Line.{Line}
use Rattle.formula_read.specs.declared.place.Side.{Side}
use Rattle.formula_read.specs.declared.place.Side.TheVariants as side
use Rattle.formula_read.specs.declared.place.Spot.{Spot}
use Rattle.formula_read.specs.declared.place.Spot.TheVariants as spot
use Rattle.formula_read.specs.Characters.{Text, is_blank, goes_on_place, goes_on_number}
use Rattle.formula_read.specs.Lexicon.{row_of_name}

-- a reader answers what it reads at the front of a text, and what follows
abbrev pub Reader : Type 0 → Type 0
Reader A = Text → Option (A × Text)

-- the first character, and what follows it
abbrev pub first : Reader ℕ
first [] = None
first (c ∷ text) = Some (c, text)

-- what follows this character
abbrev pub past : ℕ → Text → Option Text
past mark [] = None
past mark (c ∷ text) = if c == mark then Some text else None

-- what follows these characters
abbrev pub strip : Text → Text → Option Text
strip [] text = Some text
strip (c ∷ name) text = option_and_then (strip name) (past c text)

-- ---- cells and ranges

abbrev pub behind_dollar : Text → Option Text → Bool × Text
behind_dollar text None = (false, text)
behind_dollar text (Some rest) = (true, rest)

abbrev pub dollar_at : Text → Bool × Text
dollar_at text = behind_dollar text (past 36 text)

-- a column or a row: maybe a dollar, and the longest name
unfoldable pub line_at : (Text → Option ℤ) → (ℕ → Bool) → Reader Line
line_at line_of_name p text =
    let d = dollar_at text in
    let s = span p d.1 in
    option_map (λ number. (record { absolute = d.0; number = number }, s.1)) (line_of_name s.0)

abbrev pub column_at : Reader Line
column_at = line_at column_of_name is_letter

abbrev pub row_at : Reader Line
row_at = line_at row_of_name is_digit

abbrev pub mark_of : Line → Line → CellMark
mark_of column row = record { absolute_row = row.absolute; row = row.number; absolute_column = column.absolute; column = column.number }

abbrev pub absolute_line : ℤ → Line
absolute_line number = record { absolute = true; number = number }

-- behind a column: its row, if one follows
abbrev pub with_row : Line → Text → Option (Line × Text) → Option (Side × Text)
with_row column text None = Some (side.Column column, text)
with_row column text (Some p) = Some (side.Cell (mark_of column p.0), p.1)

abbrev pub with_column : Text → Option (Line × Text) → Option (Side × Text)
with_column text None = option_map (λ p. (side.Row p.0, p.1)) (row_at text)
with_column text (Some p) = with_row p.0 p.1 (row_at p.1)

-- a cell, or else a column or a row alone
unfoldable pub corner_at : Reader Side
corner_at text = with_column text (column_at text)

-- the corners of the range between two sides of one kind
abbrev pub between : Side → Side → Option (CellMark × CellMark)
between (side.Cell a) (side.Cell b) = Some (a, b)
between (side.Column a) (side.Column b) = Some (mark_of a (absolute_line (pos 1)), mark_of b (absolute_line (pos 1048576)))
between (side.Row a) (side.Row b) = Some (mark_of (absolute_line (pos 1)) a, mark_of (absolute_line (pos 16384)) b)
between _ _ = None

-- a range to this side, where one may end
abbrev pub range_to : Side → Side × Text → Option ((CellMark × CellMark) × Text)
range_to a p = if stops goes_on_place p.1 then option_map (λ range. (range, p.1)) (between a p.0) else None

-- behind the first side of a range: a colon and the second one
unfoldable pub range_behind : Side → Reader (CellMark × CellMark)
range_behind a text = option_and_then (λ rest. option_and_then (range_to a) (corner_at rest)) (past 58 text)

-- a side that is a cell by itself, where one may end
abbrev pub cell_alone : Side → Reader Spot
cell_alone (side.Cell mark) text = if stops goes_on_place text then Some (spot.Cell mark, text) else None
cell_alone _ text = None

abbrev pub behind_corner : Side × Text → Option (Spot × Text)
behind_corner p = option_or (option_map (λ r. (spot.Range r.0.0 r.0.1, r.1)) (range_behind p.0 p.1)) (cell_alone p.0 p.1)

-- a range, or else a cell
unfoldable pub spot_at : Reader Spot
spot_at text = option_and_then behind_corner (corner_at text)

abbrev pub place_token : Option Text → Spot → Token
place_token sheet (spot.Cell mark) = t.Reference sheet mark
place_token sheet (spot.Range a b) = t.Range sheet a b

abbrev pub place_at : Option Text → Reader Token
place_at sheet text = option_map (λ p. (place_token sheet p.0, p.1)) (spot_at text)

-- ---- texts and sheets

abbrev pub in_front : ℕ → Option (Text × Text) → Option (Text × Text)
in_front c = option_map (λ p. (c ∷ p.0, p.1))

-- up to the closing quote, where a doubled one stands for one. The test says whether the character before was a quote
abbrev pub quoted : ℕ → Bool → Reader Text
quoted quote false [] = None
quoted quote true [] = Some ([], [])
quoted quote false (c ∷ text) = if c == quote then quoted quote true text else in_front c (quoted quote false text)
quoted quote true (c ∷ text) = if c == quote then in_front quote (quoted quote false text) else Some ([], c ∷ text)

-- how it goes on from what stands next: a character, or nothing at the closing quote
abbrev pub goes_on : ℕ → Option (Option ℕ × Text) → Option (Text × Text)
goes_on quote None = None
goes_on quote (Some (None, rest)) = Some ([], rest)
goes_on quote (Some (Some c, rest)) = in_front c (quoted quote false rest)

-- the same in bytes
unfoldable pub quoted_text : ℕ → Reader Text
quoted_text quote text = option_map (λ p. (encode_utf8_all p.0, p.1)) (quoted quote false text)

-- what stands on a sheet, behind its name
abbrev pub on_sheet : Text → Reader Token
on_sheet sheet text = option_and_then (λ place. place_at (Some sheet) (span is_blank place).1) (past 33 text)

-- behind a name in quotes, which is not empty
abbrev pub behind_quotes : Text × Text → Option (Token × Text)
behind_quotes ([], rest) = None
behind_quotes (c ∷ sheet, rest) = on_sheet (c ∷ sheet) rest

unfoldable pub quoted_sheet_at : Reader Token
quoted_sheet_at text = option_and_then behind_quotes (quoted_text 39 text)

unfoldable pub text_at : Reader Token
text_at text = option_map (λ p. (t.Text p.0, p.1)) (quoted_text 34 text)

-- behind a word: what stands on the sheet of that name, or the word
abbrev pub behind_word : Text × Text → Option (Token × Text)
behind_word s =
    if stops (λ c. c == 33) s.1 then Some (t.Word (encode_utf8_all s.0), s.1)
    else (if reads_as_cell s.0 then None else on_sheet (encode_utf8_all s.0) s.1)

unfoldable pub word_at : Reader Token
word_at text = behind_word (span goes_on_word text)

-- ---- numbers

-- what a number may be made of: characters of words and decimal signs, and a sign behind the letter of an exponent
abbrev pub in_number : Locale → Bool → ℕ → Bool
in_number locale false c = goes_on_number locale c
in_number locale true c = (c == 43 || c == 45) || goes_on_number locale c

-- the longest such front, and what follows it
abbrev pub number_span : Locale → Bool → Text → Text × Text
number_span locale after_letter [] = ([], [])
number_span locale after_letter (c ∷ text) =
    let s = number_span locale (is_exponent_letter c) text in if in_number locale after_letter c then (c ∷ s.0, s.1) else ([], c ∷ text)

abbrev pub number_of : Locale → Text × Text → Option (Token × Text)
number_of locale s = option_map (λ number. (t.Number number, s.1)) (decimal_of (decimal_sign locale) (encode_utf8_all s.0))

unfoldable pub number_at : Locale → Reader Token
number_at locale text = number_of locale (number_span locale false text)

-- ---- errors

-- the first of the errors whose text stands at the front
abbrev pub english_error : List Error → Reader Error
english_error [] text = None
english_error (error ∷ errors) text = option_or (option_map (λ rest. (error, rest)) (strip (error_text error) text)) (english_error errors text)

-- the characters of the language's own text for a lost reference
abbrev pub own_text : Language → Option Text
own_text En = None
own_text De = Some (codes "#BEZUG!")
own_text Fr = None
own_text Es = Some (35 ∷ 161 ∷ codes "REF!")

abbrev pub own_error : Language → Text → Option Text
own_error language text = option_and_then (λ name. strip name text) (own_text language)

unfoldable pub error_at : Language → Reader Error
error_at language text = option_or (option_map (λ rest. (Ref, rest)) (own_error language text)) (english_error all_errors text)

abbrev pub error_or_hash : Text → Option (Error × Text) → Option (Token × Text)
error_or_hash text (Some p) = Some (t.Error p.0, p.1)
error_or_hash text None = Some (t.Hash, text)

-- ---- signs

-- the token where this character stands next, or else the other
abbrev pub if_next : ℕ → Token → Option (Token × Text) → Reader Token
if_next mark token other text = option_or (option_map (λ rest. (token, rest)) (past mark text)) other

-- behind `<`
abbrev pub behind_less : Reader Token
behind_less text = if_next 62 t.NotEqual (if_next 61 t.LessOrEqual (Some (t.Less, text)) text) text

-- behind `>`
abbrev pub behind_greater : Reader Token
behind_greater text = if_next 61 t.GreaterOrEqual (Some (t.Greater, text)) text

-- a token of one character, which no other begins with
abbrev pub single : ℕ → Option Token
single c =
    if c == 61 then Some t.Equal else (if c == 38 then Some t.Ampersand else (if c == 43 then Some t.Plus else (if c == 45 then Some t.Minus
    else (if c == 42 then Some t.Times else (if c == 47 then Some t.Divide else (if c == 94 then Some t.Power else (if c == 37 then Some t.Percent
    else (if c == 64 then Some t.At else (if c == 58 then Some t.Colon else (if c == 40 then Some t.OpenParenthesis else (if c == 41 then Some t.CloseParenthesis
    else (if c == 123 then Some t.OpenBrace else (if c == 125 then Some t.CloseBrace else (if c == 91 then Some t.OpenBracket else (if c == 93 then Some t.CloseBracket
    else (if c == 44 then Some t.Comma else (if c == 59 then Some t.Semicolon else None)))))))))))))))))

-- ---- the token at the front

-- ASCII that begins no place, no number and no word
abbrev pub is_sign : ℕ → Bool
is_sign c = nat_lt c 128 && not (is_letter c || (is_digit c || (c == 95 || c == 36)))

-- what such a character begins
unfoldable pub by_sign : Language → ℕ → Reader Token
by_sign language c text =
    if c == 34 then text_at text
    else (if c == 39 then quoted_sheet_at text
    else (if c == 35 then error_or_hash text (error_at language (35 ∷ text))
    else (if c == 60 then behind_less text
    else (if c == 62 then behind_greater text
    else option_map (λ token. (token, text)) (single c)))))

-- what stands where there is no place: a number or a word, by its first character
abbrev pub plain_at : Locale → ℕ → Reader Token
plain_at locale c text = if is_digit c then number_at locale text else (if starts_word c then word_at text else None)

-- the first character decides what is tried
unfoldable pub token_at : Locale → Language → Reader Token
token_at locale language [] = None
token_at locale language (c ∷ text) =
    if is_sign c then by_sign language c text else option_or (place_at None (c ∷ text)) (plain_at locale c (c ∷ text))

-- a text in which something stands
abbrev pub some_text : Text → Option Text
some_text [] = None
some_text (c ∷ text) = Some (c ∷ text)

-- what stands behind blanks, if anything does
unfoldable pub behind_blanks : Text → Option Text
behind_blanks text = some_text (span is_blank text).1

abbrev pub with_token : Locale → Language → (Text → Option (List Token)) → Option Text → Option (List Token)
with_token locale language rest None = Some []
with_token locale language rest (Some text) = option_and_then (λ p. option_map (λ tokens. p.0 ∷ tokens) (rest p.1)) (token_at locale language text)

-- the number bounds the tokens
unfoldable pub tokens_from : Locale → Language → ℕ → Text → Option (List Token)
tokens_from locale language zero text = None
tokens_from locale language (suc k) text = with_token locale language (tokens_from locale language k) (behind_blanks text)

unfoldable pub tokens_of : Locale → Language → Text → Option (List Token)
tokens_of locale language text = tokens_from locale language (length text + 1) text
