-- Names of days and months, in whichever case they are written.
use Rattle.std.specs.Prelude.{ℕ, ◌+◌, ◌-◌, ◌==◌, Bool, false, ◌||◌, ℤ, pos, unsigned_abs, List, [], ◌∷◌, length, take, drop, map, get_or, position, Option, encode_utf8_all, if◌then◌else◌}
use Rattle.std.specs.Int.{int_rem_euclid}
use Rattle.std.specs.List.{list_all, prefix_len, suffix_len}
use Rattle.std.specs.Option.{option_map}
use Rattle.std.specs.Str.{chars}
use Rattle.std.specs.Char.Unicode.Uppercase.{is_uppercase}
use Rattle.base_tables.specs.declared.Locale.{Locale}
use Rattle.base_tables.specs.Calendar.{day_names, short_day_names, month_names, short_month_names}
use Rattle.base_tables.specs.Column.{is_between}
use Rattle.base_tables.specs.Tables.{same_text}
use Rattle.sheet_progress.specs.declared.case.CaseStyle.{CaseStyle}
use Rattle.sheet_progress.specs.declared.case.CaseStyle.TheVariants.{Upper, Capital, Lower}
use Rattle.sheet_progress.specs.declared.letters.Letters.{Letters}
use Rattle.sheet_progress.specs.declared.letters.Letters.TheVariants.{Raised, Lowered, Plain, AsWritten}
use Rattle.sheet_progress.specs.declared.names.NameList.{NameList}
use Rattle.sheet_progress.specs.declared.names.NameList.TheVariants.{Days, ShortDays, Months, ShortMonths}

-- ---- letters, of which those in names are a to z, á, ä, é and û

-- the letters a to z, á, ä, é and û as capitals
abbrev pub raised : ℕ → ℕ
raised c = if is_between 97 122 c || (c == 0xE1 || (c == 0xE4 || (c == 0xE9 || c == 0xFB))) then c - 32 else c

-- and back
abbrev pub lowered : ℕ → ℕ
lowered c = if is_between 65 90 c || (c == 0xC1 || (c == 0xC4 || (c == 0xC9 || c == 0xDB))) then c + 32 else c

-- the letters A to Z as small ones, and without its accent each á, ä, é, ì and û in either case
abbrev pub plain : ℕ → ℕ
plain c =
    if is_between 65 90 c then c + 32
    else if c == 0xE1 || (c == 0xC1 || (c == 0xE4 || c == 0xC4)) then 97
    else if c == 0xE9 || c == 0xC9 then 101
    else if c == 0xEC || c == 0xCC then 105
    else if c == 0xFB || c == 0xDB then 117
    else c

abbrev pub letter : Letters → ℕ → ℕ
letter Raised c = raised c
letter Lowered c = lowered c
letter Plain c = plain c
letter AsWritten c = c

-- ---- normal forms

-- a dot or a space
abbrev pub is_filler : ℕ → Bool
is_filler c = c == 46 || c == 32

-- the characters without the dots and spaces at both ends
abbrev pub trimmed_end : List ℕ → List ℕ
trimmed_end text = take (length text - suffix_len is_filler text) text

abbrev pub trimmed : List ℕ → List ℕ
trimmed text = trimmed_end (drop (prefix_len is_filler text) text)

unfoldable pub normal_form : List ℕ → List ℕ
normal_form text = encode_utf8_all (map plain (trimmed (chars text)))

-- ---- lists of names

abbrev pub names : NameList → Locale → List (List ℕ)
names Days locale = day_names locale
names ShortDays locale = short_day_names locale
names Months locale = month_names locale
names ShortMonths locale = short_month_names locale

-- in the order in which they are tried
abbrev pub all_lists : List NameList
all_lists = Days ∷ ShortDays ∷ Months ∷ ShortMonths ∷ []

-- the place of a text among names, all by their normal forms
abbrev pub place_among : List (List ℕ) → List ℕ → Option ℤ
place_among forms text = option_map pos (position (λ form. same_text form (normal_form text)) forms)

-- the name at an index, taken modulo their count
abbrev pub name_at : List (List ℕ) → ℤ → List ℕ
name_at names index = get_or names (unsigned_abs (int_rem_euclid index (pos (length names)))) []

-- ---- case

-- whether the first character is an uppercase one
abbrev pub begins_upper : List ℕ → Bool
begins_upper [] = false
begins_upper (c ∷ text) = is_uppercase c

-- the case of characters: upper where all are uppercase, also where there is none; capital where the first is; else lower
abbrev pub case_of : List ℕ → CaseStyle
case_of text = if list_all is_uppercase text then Upper else if begins_upper text then Capital else Lower

-- the case of a seed
unfoldable pub case_style : List ℕ → CaseStyle
case_style seed = case_of (trimmed (chars seed))

-- the first character as a capital
abbrev pub capital : List ℕ → List ℕ
capital [] = []
capital (c ∷ text) = raised c ∷ text

-- characters in a case
abbrev pub in_case : CaseStyle → List ℕ → List ℕ
in_case Upper text = map raised text
in_case Capital text = capital text
in_case Lower text = map lowered text

-- a name in a case
unfoldable pub cased : CaseStyle → List ℕ → List ℕ
cased style name = encode_utf8_all (in_case style (chars name))
