-- A workbook that was asked whether it is well-formed.
use Rattle.std.specs.Prelude.{ℕ, Option, Some, None, Result, Ok, Err}
use Rattle.base_values.specs.declared.EditError.{EditError}
use Rattle.base_values.specs.declared.EditError.TheVariants.{IllFormed}
use Rattle.sheet_grid.specs.Book.{Book}
use Rattle.sheet_rules.specs.WellFormed.{broken_rule}

-- the refusal of a broken rule
abbrev pub unless_broken : Option ℕ → Book → Result Book EditError
unless_broken None book = Ok book
unless_broken (Some rule) book = Err (IllFormed rule)

-- the workbook, or the first rule that it breaks
abbrev pub checked : Book → Result Book EditError
checked book = unless_broken (broken_rule book) book
