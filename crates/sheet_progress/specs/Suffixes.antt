-- Texts that end in a number.
use Rattle.std.specs.Prelude.{ℕ, ◌-◌, not, ◌&&◌, ℤ, List, length, take, drop, Option, None, if◌then◌else◌}
use Rattle.std.specs.List.{suffix_len}
use Rattle.base_tables.specs.declared.Locale.{Locale}
use Rattle.base_tables.specs.Tables.{same_text}
use Rattle.base_tables.specs.Word.{is_digit}
use Rattle.sheet_progress.specs.Numbers.{is_empty, number_in}

-- where the ASCII digits at the end of a text begin
abbrev pub suffix_start : List ℕ → ℕ
suffix_start text = length text - suffix_len is_digit text

-- what stands before them
abbrev pub prefix_of : List ℕ → List ℕ
prefix_of text = take (suffix_start text) text

-- the digits at the end of a text
abbrev pub suffix_of : List ℕ → List ℕ
suffix_of text = drop (suffix_start text) text

-- the number of the digits at the end of a text, where they stand behind this prefix and are not the whole text
unfoldable pub suffix_number : Locale → List ℕ → List ℕ → Option ℤ
suffix_number locale prefix text =
    if not (is_empty prefix) && same_text (prefix_of text) prefix then number_in locale (suffix_of text) else None
