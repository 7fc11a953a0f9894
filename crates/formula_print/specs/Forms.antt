-- The forms in which formulas are printed: each is the one printing at a style of its own.
use Rattle.std.specs.Prelude.{ℕ, List}
use Rattle.base_values.specs.declared.Position.{Position}
use Rattle.base_tables.specs.declared.Language.{Language}
use Rattle.base_tables.specs.declared.Language.TheVariants as language
use Rattle.base_tables.specs.declared.Locale.{Locale}
use Rattle.base_tables.specs.declared.Locale.TheVariants as locale
use Rattle.formula_tree.specs.declared.Node.{Node}
use Rattle.formula_print.specs.declared.style.Style.{Style}
use Rattle.formula_print.specs.declared.style.Corners.TheVariants.{Letters, Numbers}
use Rattle.formula_print.specs.declared.style.Dialect.TheVariants.{Plain, Excel}
use Rattle.formula_print.specs.Print.{text_of}
use Rattle.formula_print.specs.Scope.{outermost, stored}

-- corners as letters and numbers, seen from the place of the formula's cell
abbrev pub localized_style : Position → Locale → Language → Style
localized_style place signs words = record { corners = Letters place; locale = signs; language = words; dialect = Plain }

abbrev pub english_style : Position → Style
english_style place = localized_style place locale.En language.En

-- corners by numbers alone
abbrev pub row_column_style : Style
row_column_style = record { corners = Numbers; locale = locale.En; language = language.En; dialect = Plain }

-- a formula's text in a locale and a language
unfoldable pub localized_text : Position → Locale → Language → Node → List ℕ
localized_text place signs words = text_of (localized_style place signs words)

-- a formula's text in English
unfoldable pub english_text : Position → Node → List ℕ
english_text place = text_of (english_style place)

-- a formula's text with corners by numbers, which is the same at each place that the formula is filled to
unfoldable pub row_column_text : Node → List ℕ
row_column_text = text_of row_column_style

-- as in English, with what older programs don't know as calls
abbrev pub excel_style : Position → Style
excel_style place = record { corners = Letters place; locale = locale.En; language = language.En; dialect = Excel }

-- a formula's text in a file of Excel: bound names are marked, and the tree is printed
unfoldable pub excel_text : Position → Node → List ℕ
excel_text place tree = text_of (excel_style place) (stored outermost tree)
