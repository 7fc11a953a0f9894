-- What single tokens come to: separators, words, corners and constants of arrays.
use Rattle.std.specs.Prelude.{ℕ, pos, neg_ℤ, Bool, true, ◌==◌, if◌then◌else◌, int_le, List, [], ◌∷◌, length, codes, Option, Some, None, Result}
use Rattle.std.specs.List.{list_all}
use Rattle.base_values.specs.declared.Position.{Position}
use Rattle.base_values.specs.declared.EditError.{EditError}
use Rattle.base_values.specs.Places.{place_of}
use Rattle.base_tables.specs.declared.Function.{Function}
use Rattle.base_tables.specs.declared.Language.{Language}
use Rattle.base_tables.specs.declared.Locale.{Locale}
use Rattle.base_tables.specs.Tables.{same_word}
use Rattle.base_tables.specs.Function.{function_of_name}
use Rattle.base_tables.specs.Language.{boolean_of_text}
use Rattle.base_tables.specs.Locale.{decimal_sign}
use Rattle.base_decimal.specs.declared.Decimal.{Decimal}
use Rattle.formula_tree.specs.declared.array_item.ArrayItem.{ArrayItem}
use Rattle.formula_tree.specs.declared.corner.Corner.{Corner}
use Rattle.formula_tree.specs.declared.node.Node.{Node}
use Rattle.formula_tree.specs.declared.node.Node.TheVariants as n
use Rattle.formula_tree.specs.declared.parameter.Parameter.{Parameter}
use Rattle.formula_tree.specs.Corners.{corner_to, lower_corner, higher_corner}
use Rattle.formula_grammar.specs.declared.token.CellMark.{CellMark}
use Rattle.formula_grammar.specs.declared.token.Token.{Token}
use Rattle.formula_grammar.specs.declared.token.Token.TheVariants as t

-- ---- separators

-- the decimal sign is a point
abbrev pub has_point : Locale → Bool
has_point locale = decimal_sign locale == 46

-- between arguments, and between the columns of an array
abbrev pub separator_token : Locale → Token
separator_token locale = if has_point locale then t.Comma else t.Semicolon

-- between the rows of an array
abbrev pub row_token : Locale → Token
row_token locale = if has_point locale then t.Semicolon else t.Divide

-- ---- words

-- the word is LAMBDA, in capitals or small letters
unfoldable pub is_lambda : List ℕ → Bool
is_lambda word = same_word (codes "LAMBDA") word

-- a call: of the function that has the name in the language, else of the name, with its letters
abbrev pub call_node : Option Function → List ℕ → List Node → Node
call_node (Some function) word arguments = n.Call function arguments
call_node None word arguments = n.NamedCall word arguments

abbrev pub called : Language → List ℕ → List Node → Node
called language word arguments = call_node (function_of_name language word) word arguments

-- a word alone: a boolean of the language, else a name
abbrev pub word_node : Option Bool → List ℕ → Node
word_node (Some value) word = n.Boolean value
word_node None word = n.Name word

abbrev pub worded : Language → List ℕ → Node
worded language word = word_node (boolean_of_text language word) word

-- a parameter of a lambda, in brackets where a call may leave it out. It reads as no cell: where it stands a cell is the token of a reference
abbrev pub parameter_tokens : Parameter → List Token
parameter_tokens parameter = if parameter.optional then t.OpenBracket ∷ t.Word parameter.name ∷ t.CloseBracket ∷ [] else t.Word parameter.name ∷ []

-- ---- corners

-- where a mark stands
abbrev pub mark_place : CellMark → Result Position EditError
mark_place mark = place_of mark.row mark.column

-- the corner with the marks of what is written, which stands there
abbrev pub corner_of : Position → CellMark → Position → Corner
corner_of place mark target = corner_to place mark.absolute_row mark.absolute_column target

-- the range between two corners, which are put in order
abbrev pub range_node : Position → Option (List ℕ) → Corner → Corner → Node
range_node place sheet a b = n.Range sheet (lower_corner place a b) (higher_corner place a b)

-- ---- constants of arrays

-- the number behind a minus sign, which is not negative itself
unfoldable pub negated : Decimal → Option Decimal
negated number = if int_le (pos 0) number.mantissa then Some (record number { mantissa = neg_ℤ number.mantissa }) else None

-- the line has so many items
abbrev pub has_length : ℕ → List ArrayItem → Bool
has_length count line = length line == count

-- the lines have one length
unfoldable pub are_even : List (List ArrayItem) → Bool
are_even [] = true
are_even (first ∷ lines) = list_all (has_length (length first)) lines
