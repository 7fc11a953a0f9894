-- What is listed of each defined name.
use Rattle.std.specs.Prelude.{ℕ, List, map, Option}
use Rattle.std.specs.Option.{option_and_then}
use Rattle.base_tables.specs.declared.Language.{Language}
use Rattle.base_tables.specs.declared.Language.TheVariants.{En as English}
use Rattle.base_tables.specs.declared.Locale.{Locale}
use Rattle.base_tables.specs.declared.Locale.TheVariants.{En}
use Rattle.formula_print.specs.Forms.{localized_text}
use Rattle.defined_names.specs.declared.DefinedName.{DefinedName}
use Rattle.sheet_grid.specs.Book.{Book, index_of}
use Rattle.sheet_rules.specs.Names.{first_place}
use Rattle.sheet_naming.specs.declared.listing.ScopedName.{ScopedName}

-- the index of the sheet where alone a name is known, or none where it is known in the whole workbook
abbrev pub scope_index : Book → Option ℕ → Option ℕ
scope_index book scope = option_and_then (index_of book) scope

-- the name, where it is known, and the text of its formula as at A1, without an equals sign
abbrev pub listed_name : Locale → Language → Book → DefinedName → ScopedName
listed_name locale language book name = record {
  name = name.name;
  scope = scope_index book name.scope;
  formula = localized_text first_place locale language name.formula;
}

-- of all names, in order
abbrev pub listed_names : Locale → Language → Book → List ScopedName
listed_names locale language book = map (listed_name locale language book) book.names

-- in English, whatever the locale of the workbook
abbrev pub names_with_scope : Book → List ScopedName
names_with_scope book = listed_names En English book
