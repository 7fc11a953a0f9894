-- Which texts may be defined names.
use Rattle.std.specs.Prelude.{ℕ, Bool, ◌&&◌, not, is_some, nat_le, List, length}
use Rattle.std.specs.List.{list_any}
use Rattle.std.specs.Str.{chars}
use Rattle.base_tables.specs.declared.Language.{Language}
use Rattle.base_tables.specs.Language.{all_languages, boolean_of_text}
use Rattle.base_tables.specs.Word.{needs_quotes}

-- the word for true or for false in a language
abbrev pub is_boolean : List ℕ → Language → Bool
is_boolean text language = is_some (boolean_of_text language text)

-- in any language
abbrev pub is_any_boolean : List ℕ → Bool
is_any_boolean text = list_any (is_boolean text) all_languages

-- at most 255 characters
abbrev pub is_short : List ℕ → Bool
is_short text = nat_le (length (chars text)) 255

-- a word that needs no quotes, since it reads as no cell in either form; it is short, and the word for true or false in no language
unfoldable pub is_defined_name : List ℕ → Bool
is_defined_name text = not (needs_quotes (chars text)) && is_short text && not (is_any_boolean text)
