-- Characters and runs of them, as tokens are made of. Texts are here lists of characters.
use Rattle.std.specs.Prelude.{ℕ, ◌==◌, Bool, ◌||◌, List}
use Rattle.base_tables.specs.declared.Locale.{Locale}
use Rattle.base_tables.specs.Locale.{decimal_sign}
use Rattle.base_tables.specs.Word.{goes_on_word}
pub use Rattle.base_tables.specs.Word.{twice, doubled}

abbrev pub Text : Type 0
Text = List ℕ

-- a space or a line feed
abbrev pub is_blank : ℕ → Bool
is_blank c = c == 32 || c == 10

-- before which neither a cell nor a range ends: a character of a word, `$`, `!` and `(`
abbrev pub goes_on_place : ℕ → Bool
goes_on_place c = goes_on_word c || (c == 36 || (c == 33 || c == 40))

-- before which no word ends: a character of a word, and `!`, before which a word is a sheet's name
abbrev pub goes_on_name : ℕ → Bool
goes_on_name c = goes_on_word c || c == 33

-- before which no number ends: a character of a word, and the decimal sign, which is no token of its own where it is a comma
abbrev pub goes_on_number : Locale → ℕ → Bool
goes_on_number locale c = goes_on_word c || c == decimal_sign locale
