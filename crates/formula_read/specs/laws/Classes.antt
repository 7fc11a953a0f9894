-- The characters of a class.
use Rattle.std.specs.Prelude.{ℕ, Bool}
use Rattle.base_tables.specs.Column.{is_letter}
use Rattle.base_tables.specs.Word.{is_digit, goes_on_word}
use Rattle.formula_read.specs.declared.characters.Class.{Class}
use Rattle.formula_read.specs.declared.characters.Class.TheVariants as class
use Rattle.formula_read.specs.Characters.{is_blank}

abbrev pub passes : Class → ℕ → Bool
passes class.Blank = is_blank
passes class.Letter = is_letter
passes class.Digit = is_digit
passes class.Word = goes_on_word
