-- The bytes of workbooks.
use Rattle.std.specs.Prelude.{ℕ, List, ◌++◌, codes}
use Rattle.std.specs.List.{AllByRecursion}
use Rattle.sheet_grid.specs.Book.{Book}
use Rattle.base_wire.specs.Encoding.{encode_list, encode_text, FitsItems, FitsText}
use Rattle.base_wire.specs.Reads.{Encodes}
use Rattle.grid_wire.specs.NameBytes.{encode_names, AreKnownNames, FitsNames}
use Rattle.grid_wire.specs.SheetBytes.{encode_sheet, FitsSheet, IsKnownSheet}
use Rattle.grid_wire.specs.TableBytes.{encode_locale, encode_zone}
use Rattle.grid_wire.specs.ThemeBytes.{encode_theme, FitsTheme}

-- the bytes that every workbook begins with
abbrev pub book_magic : List ℕ
book_magic = codes "ICW1"

-- its settings: the name, the locale, the time zone and the theme
abbrev pub encode_settings : Book → List ℕ
encode_settings book = encode_text book.name ++ (encode_locale book.locale ++ (encode_zone book.zone ++ encode_theme book.theme))

-- the one encoding of a workbook: its settings, its defined names, and its sheets in their order
unfoldable pub encode_book : Book → List ℕ
encode_book book = book_magic ++ (encode_settings book ++ (encode_names book.names ++ encode_list encode_sheet book.worksheets))

-- a workbook that bytes can carry
pub record FitsBook (book : Book) : Type 0 where
  pub name : FitsText book.name
  pub theme : FitsTheme book.theme
  pub names : FitsNames book.names
  pub sheets : FitsItems FitsSheet book.worksheets

-- these bytes are the workbook's
abbrev pub IsBook : List ℕ → Book → Type 0
IsBook = Encodes FitsBook encode_book

-- what encoding asks of a workbook: its formulas are at most 64 deep, and each line has something of its own
pub record IsKnownBook (book : Book) : Type 0 where
  pub names : AreKnownNames book.names
  pub sheets : AllByRecursion IsKnownSheet book.worksheets
