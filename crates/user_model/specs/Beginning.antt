-- How a user model begins.
use Rattle.std.proofs.Common.{ℕ, List, Result}
use Rattle.base_values.specs.declared.EditError.{EditError}
use Rattle.base_values.specs.declared.EditError.TheVariants.{LocaleName, LanguageName, ZoneName}
use Rattle.base_values.specs.Answers.{and_then, map_ok, ok_or}
use Rattle.base_tables.specs.Language.{language_of_name}
use Rattle.base_tables.specs.Locale.{locale_of_name}
use Rattle.base_tables.specs.Zone.{zone_of_name}
use Rattle.sheet_grid.specs.Book.{Book, new_book}
use Rattle.open_book.specs.Machine.{State, begun}

-- a workbook of a name with one empty sheet, or the first refusal: no locale, no zone, no language has that name
abbrev pub new_state : List ℕ → List ℕ → List ℕ → List ℕ → Result State EditError
new_state name locale zone language =
    and_then (ok_or LocaleName (locale_of_name locale)) (λ l.
    and_then (ok_or ZoneName (zone_of_name zone)) (λ z.
    map_ok (λ g. begun g (new_book name l z)) (ok_or LanguageName (language_of_name language))))

-- a workbook that was found, in a language of that name, or the first refusal: no language has that name, or none was found
abbrev pub book_state : List ℕ → Result Book EditError → Result State EditError
book_state language found = and_then (ok_or LanguageName (language_of_name language)) (λ l. map_ok (begun l) found)
