-- Words, and the words that read as a cell. Texts are here lists of characters.
use Rattle.std.specs.Prelude.{ℕ, ◌+◌, ◌-◌, ◌*◌, ◌==◌, Bool, false, not, ◌&&◌, ◌||◌, nat_le, List, [], ◌∷◌, ◌++◌, take, drop, flat_map, if◌then◌else◌}
use Rattle.std.specs.List.{list_all, prefix_len}
use Rattle.std.specs.Char.Unicode.Alphabetic.{is_alphabetic}
use Rattle.base_tables.specs.Column.{is_between, is_letter, is_column_name}

abbrev pub is_digit : ℕ → Bool
is_digit = is_between 48 57

-- an alphabetic character or `_`
abbrev pub starts_word : ℕ → Bool
starts_word c = is_alphabetic c || c == 95

-- an alphabetic character, an ASCII digit, `_` or `.`
abbrev pub goes_on_word : ℕ → Bool
goes_on_word c = is_alphabetic c || (is_digit c || (c == 95 || c == 46))

abbrev pub begins_word : List ℕ → Bool
begins_word [] = false
begins_word (c ∷ text) = starts_word c

unfoldable pub is_word : List ℕ → Bool
is_word text = begins_word text && list_all goes_on_word text

-- ---- numbers of rows and columns

-- the digits write a number after those of n
abbrev pub number_after : ℕ → List ℕ → ℕ
number_after n [] = n
number_after n (c ∷ digits) = number_after (n * 10 + (c - 48)) digits

unfoldable pub digits_number : List ℕ → ℕ
digits_number = number_after 0

abbrev pub starts_positive : List ℕ → Bool
starts_positive [] = false
starts_positive (c ∷ digits) = not (c == 48)

-- digits without a leading zero that write a number from 1 to the last one
unfoldable pub is_count : ℕ → List ℕ → Bool
is_count last text = list_all is_digit text && (starts_positive text && nat_le (digits_number text) last)

-- 1 to 1048576
abbrev pub is_row_number : List ℕ → Bool
is_row_number = is_count 1048576

-- 1 to 16384
abbrev pub is_column_number : List ℕ → Bool
is_column_number = is_count 16384

-- ---- words that read as a cell

-- the longest front whose characters pass
abbrev pub front : (ℕ → Bool) → List ℕ → List ℕ
front p text = take (prefix_len p text) text

-- what follows the longest front whose characters pass
abbrev pub behind : (ℕ → Bool) → List ℕ → List ℕ
behind p text = drop (prefix_len p text) text

-- a column and a row inside the sheet, as `B12`
unfoldable pub reads_as_cell : List ℕ → Bool
reads_as_cell text = is_column_name (front is_letter text) && is_row_number (behind is_letter text)

-- `C` in either case, and a column by its number
abbrev pub is_column_part : List ℕ → Bool
is_column_part [] = false
is_column_part (c ∷ digits) = (c == 67 || c == 99) && is_column_number digits

-- `R` in either case, a row, `C` in either case and a column by its number, as `R12C2`
unfoldable pub reads_as_row_column : List ℕ → Bool
reads_as_row_column [] = false
reads_as_row_column (c ∷ text) = (c == 82 || c == 114) && (is_row_number (front is_digit text) && is_column_part (behind is_digit text))

-- ---- sheet names

-- whether a sheet name stands in quotes: where it is no word, or reads as a cell in either form
abbrev pub needs_quotes : List ℕ → Bool
needs_quotes name = not (is_word name) || (reads_as_cell name || reads_as_row_column name)

-- the character as it stands between the quotes: the quote twice, any other once
abbrev pub twice : ℕ → ℕ → List ℕ
twice quote c = if c == quote then quote ∷ quote ∷ [] else c ∷ []

-- a text as it stands between the quotes
abbrev pub doubled : ℕ → List ℕ → List ℕ
doubled quote = flat_map (twice quote)

-- a sheet name as it is printed
unfoldable pub quoted_name : List ℕ → List ℕ
quoted_name name = if needs_quotes name then 39 ∷ doubled 39 name ++ 39 ∷ [] else name
