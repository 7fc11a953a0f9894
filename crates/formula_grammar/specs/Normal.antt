-- Normal trees: those whose printed text reads back as them, in a formula at the same place, in the same locale and language. The reader gives others too.
use Rattle.std.specs.Prelude.{ℕ, Bool, true, false, not, ◌&&◌, nat_le, List, [], ◌∷◌, length, Option, Some, None}
use Rattle.std.specs.List.{list_all}
use Rattle.std.specs.Str.{chars, is_utf8}
use Rattle.base_values.specs.declared.Position.{Position}
use Rattle.base_tables.specs.declared.Language.{Language}
use Rattle.base_tables.specs.Column.{is_between}
use Rattle.base_tables.specs.Function.{function_of_name}
use Rattle.base_tables.specs.Language.{boolean_of_text}
use Rattle.base_tables.specs.Word.{is_word, reads_as_cell}
use Rattle.formula_tree.specs.declared.array_item.ArrayItem.{ArrayItem}
use Rattle.formula_tree.specs.declared.array_item.ArrayItem.TheVariants as item
use Rattle.formula_tree.specs.declared.node.Node.{Node, fold-Node}
use Rattle.formula_tree.specs.declared.node.Node.TheOpen.{Node-F}
use Rattle.formula_tree.specs.declared.node.Node.TheOpen as layer
use Rattle.formula_tree.specs.declared.numbers.NumberRule.TheVariants.{NotNegative}
use Rattle.formula_tree.specs.declared.operator.SumKind.{SumKind}
use Rattle.formula_tree.specs.declared.operator.SumKind.TheVariants.{Add, Subtract}
use Rattle.formula_tree.specs.declared.parameter.Parameter.{Parameter}
use Rattle.formula_tree.specs.Corners.{is_inside}
use Rattle.formula_tree.specs.Depth.{depth_of}
use Rattle.formula_tree.specs.Numbers.{number_follows}
use Rattle.formula_tree.specs.Placed.{is_placed_range}
use Rattle.formula_grammar.specs.Words.{is_lambda, are_even}

-- ---- words

abbrev pub is_absent : {A : Type 0} → Option A → Bool
is_absent None = true
is_absent (Some a) = false

-- a word in UTF-8, as each text of a program's tree is
abbrev pub is_text_word : List ℕ → Bool
is_text_word name = is_utf8 name && is_word (chars name)

-- a word that reads neither as a cell nor as a boolean of the language
abbrev pub is_plain_name : Language → List ℕ → Bool
is_plain_name language name = (is_text_word name && not (reads_as_cell (chars name))) && is_absent (boolean_of_text language name)

-- not a letter from A to Z
abbrev pub is_no_capital : ℕ → Bool
is_no_capital c = not (is_between 65 90 c)

-- a word, maybe one that reads as a cell, without capitals from A to Z, that is no function of the language and not `lambda`
abbrev pub is_called_name : Language → List ℕ → Bool
is_called_name language name = (is_text_word name && list_all is_no_capital name) && (is_absent (function_of_name language name) && not (is_lambda name))

-- a word that reads as no cell
abbrev pub is_parameter : Parameter → Bool
is_parameter parameter = is_text_word parameter.name && not (reads_as_cell (chars parameter.name))

-- a sheet that is named has a name that is not empty, in UTF-8
abbrev pub is_named : Option (List ℕ) → Bool
is_named None = true
is_named (Some []) = false
is_named (Some (c ∷ name)) = is_utf8 (c ∷ name)

-- ---- arrays

-- a line has an item
abbrev pub has_item : List ArrayItem → Bool
has_item line = nat_le 1 (length line)

-- a text is in UTF-8
abbrev pub is_constant : ArrayItem → Bool
is_constant (item.Boolean value) = true
is_constant (item.Number value) = true
is_constant (item.Text text) = is_utf8 text
is_constant (item.Error error) = true

-- at least one line, with at least one item, and lines of equal length
abbrev pub is_table : List (List ArrayItem) → Bool
is_table lines = ((nat_le 1 (length lines) && list_all has_item lines) && are_even lines) && list_all (list_all is_constant) lines

-- ---- trees

-- what the tree around it asks of a tree
pub data Sort : Type 0 where
  empty : Sort
  sum : Sort
  lambda : Sort
  other : Sort

pub record Seen : Type 0 where
  pub sort : Sort
  -- it is normal inside
  pub is_fine : Bool

abbrev pub is_empty : Sort → Bool
is_empty empty = true
is_empty _ = false

abbrev pub is_sum : Sort → Bool
is_sum sum = true
is_sum _ = false

-- a lambda, or a call of one
abbrev pub is_callee : Sort → Bool
is_callee lambda = true
is_callee _ = false

-- an operand is no empty argument
abbrev pub operand : Seen → Bool
operand a = a.is_fine && not (is_empty a.sort)

-- an empty argument stands only beside another
abbrev pub arguments : List Seen → Bool
arguments [] = true
arguments (a ∷ []) = operand a
arguments (a ∷ b ∷ all) = list_all (λ (x : Seen). x.is_fine) (a ∷ b ∷ all)

-- no sum stands on the right of `+`
abbrev pub right_of_sum : SumKind → Seen → Bool
right_of_sum Add b = not (is_sum b.sort)
right_of_sum Subtract b = true

abbrev pub seen : Sort → Bool → Seen
seen sort is_fine = record { sort = sort; is_fine = is_fine }

-- one node, whose children were looked at
abbrev pub normal_layer : Position → Language → Node-F Seen → Seen
normal_layer place language (layer.Boolean value) = seen other true
normal_layer place language (layer.Number value) = seen other (number_follows NotNegative value)
normal_layer place language (layer.Text text) = seen other (is_utf8 text)
normal_layer place language (layer.Reference sheet corner) = seen other (is_named sheet && is_inside place corner)
normal_layer place language (layer.Range sheet first second) = seen other (is_named sheet && is_placed_range place first second)
normal_layer place language (layer.Colon a b) = seen other (operand a && operand b)
normal_layer place language (layer.Concatenate a b) = seen other (operand a && operand b)
normal_layer place language (layer.Compare kind a b) = seen other (operand a && operand b)
normal_layer place language (layer.Sum kind a b) = seen sum ((operand a && operand b) && right_of_sum kind b)
normal_layer place language (layer.Product kind a b) = seen other (operand a && operand b)
normal_layer place language (layer.Power a b) = seen other (operand a && operand b)
normal_layer place language (layer.Unary kind a) = seen other (operand a)
normal_layer place language (layer.Call function all) = seen other (arguments all)
normal_layer place language (layer.NamedCall name all) = seen other (is_called_name language name && arguments all)
normal_layer place language (layer.Array lines) = seen other (is_table lines)
normal_layer place language (layer.Name name) = seen other (is_plain_name language name)
normal_layer place language (layer.Error error) = seen other true
normal_layer place language (layer.ParseError text) = seen other false
normal_layer place language layer.EmptyArgument = seen empty true
normal_layer place language (layer.Spill a) = seen other (operand a)
normal_layer place language (layer.Lambda parameters a) = seen lambda (list_all is_parameter parameters && operand a)
normal_layer place language (layer.LambdaCall a all) = seen lambda ((operand a && is_callee a.sort) && arguments all)
normal_layer place language (layer.ImplicitIntersection a) = seen other (operand a)

unfoldable pub normal_seen : Position → Language → Node → Seen
normal_seen place language = fold-Node Seen (normal_layer place language)

-- a normal tree: at most 64 deep, and each node of it as said above. That its numbers are canonical is not part of this
unfoldable pub is_normal : Position → Language → Node → Bool
is_normal place language tree = nat_le (depth_of tree) 64 && operand (normal_seen place language tree)
