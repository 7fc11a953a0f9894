-- The names of columns: A to Z, AA to ZZ, AAA to XFD.
use Rattle.std.specs.Prelude.{ℕ, ℤ, pos, ◌+◌, ◌-◌, ◌*◌, ◌/◌, ◌%◌, Bool, ◌&&◌, ◌||◌, if◌then◌else◌, nat_le, Option, Some, None, List, [], ◌∷◌, length}
use Rattle.std.specs.List.{list_all}
use Rattle.std.specs.Int.RustNames.{unsigned_abs}
use Rattle.base_values.specs.Places.{is_line}

abbrev pub is_between : ℕ → ℕ → ℕ → Bool
is_between low high n = nat_le low n && nat_le n high

-- an ASCII letter
abbrev pub is_letter : ℕ → Bool
is_letter c = is_between 65 90 c || is_between 97 122 c

-- A is 1 and Z is 26, in either case
abbrev pub letter_value : ℕ → ℕ
letter_value c = if nat_le 97 c then c - 96 else c - 64

-- the capital letter of a value
abbrev pub letter_of : ℕ → ℕ
letter_of value = 64 + value

-- the last letter counts ones, and what stands before it counts twenty-sixes
abbrev pub number_after_letters : ℕ → List ℕ → ℕ
number_after_letters before [] = before
number_after_letters before (c ∷ letters) = number_after_letters (before * 26 + letter_value c) letters

abbrev pub letters_number : List ℕ → ℕ
letters_number = number_after_letters 0

-- the value of the last letter of a column's name
abbrev pub last_value : ℕ → ℕ
last_value n = (n - 1) % 26 + 1

-- the number of the letters before the last one
abbrev pub number_before : ℕ → ℕ
number_before n = (n - 1) / 26

-- the capital letters whose number is n, of which there are at most three
unfoldable pub column_letters : ℕ → List ℕ
column_letters n =
    if nat_le n 26 then letter_of n ∷ []
    else (if nat_le n 702 then letter_of (number_before n) ∷ letter_of (last_value n) ∷ []
    else letter_of (number_before (number_before n)) ∷ letter_of (last_value (number_before n)) ∷ letter_of (last_value n) ∷ [])

-- the name of a column, where it is inside the sheet
unfoldable pub column_name : ℤ → Option (List ℕ)
column_name column = if is_line (pos 16384) column then Some (column_letters (unsigned_abs column)) else None

-- one to three letters whose number is a column inside the sheet
abbrev pub number_a_column : List ℕ → Bool
number_a_column letters = is_between 1 3 (length letters) && nat_le (letters_number letters) 16384

-- one to three letters in either case that name a column inside the sheet
unfoldable pub is_column_name : List ℕ → Bool
is_column_name text = list_all is_letter text && number_a_column text

-- the column that the text names
unfoldable pub column_of_name : List ℕ → Option ℤ
column_of_name text = if is_column_name text then Some (pos (letters_number text)) else None
