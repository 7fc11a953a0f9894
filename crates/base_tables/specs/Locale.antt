-- The locales: their numbers and names, and how each writes numbers and lists.
use Rattle.std.specs.Prelude.{ℕ, Option, List, [], ◌∷◌, codes, slice_get, ◌==◌, if◌then◌else◌}
use Rattle.base_tables.specs.declared.locale.Locale.{Locale}
use Rattle.base_tables.specs.declared.locale.Locale.TheVariants.{En, De, Fr, Es}
use Rattle.base_tables.specs.Tables.{entry_named}

-- in the order of their codes
abbrev pub all_locales : List Locale
all_locales = En ∷ De ∷ Fr ∷ Es ∷ []

-- the number in bytes
abbrev pub locale_code : Locale → ℕ
locale_code En = 0
locale_code De = 1
locale_code Fr = 2
locale_code Es = 3

abbrev pub locale_of_code : ℕ → Option Locale
locale_of_code code = slice_get all_locales code

abbrev pub locale_name : Locale → List ℕ
locale_name En = codes "en"
locale_name De = codes "de"
locale_name Fr = codes "fr"
locale_name Es = codes "es"

abbrev pub locale_of_name : List ℕ → Option Locale
locale_of_name text = entry_named locale_name all_locales text

-- between the whole and the fraction of a number
abbrev pub decimal_sign : Locale → ℕ
decimal_sign En = 46
decimal_sign De = 44
decimal_sign Fr = 44
decimal_sign Es = 44

-- between groups of three digits; in French a narrow blank that does not break
abbrev pub group_sign : Locale → ℕ
group_sign En = 44
group_sign De = 46
group_sign Fr = 0x202F
group_sign Es = 46

-- a comma where the decimal sign is a point, else a semicolon
abbrev pub argument_separator : Locale → ℕ
argument_separator locale = if decimal_sign locale == 46 then 44 else 59

-- between the rows of an array: a semicolon where the decimal sign is a point, else a slash
abbrev pub row_separator : Locale → ℕ
row_separator locale = if decimal_sign locale == 46 then 59 else 47

-- between the columns of an array: a comma where the decimal sign is a point, else a semicolon
abbrev pub column_separator : Locale → ℕ
column_separator locale = if decimal_sign locale == 46 then 44 else 59
