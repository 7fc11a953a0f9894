-- Which trees a reader that reaches so deep can read, kind by kind.
use Rattle.std.proofs.Common.{◌≡◌, ℕ, ◌+◌, ◌^◌, ◌&&◌, Bool, true, false, List, [], ◌∷◌, length, Option, refl, ap, ◌∙◌}
use Rattle.std.specs.Prelude.{nat_lt}
use Rattle.std.specs.List.{list_all}
use Rattle.base_decimal.specs.declared.Decimal.{Decimal}
use Rattle.base_decimal.specs.Canonical.{is_canonical}
use Rattle.base_tables.specs.declared.Error.{Error}
use Rattle.base_tables.specs.declared.Function.{Function}
use Rattle.formula_tree.specs.declared.ArrayItem.{ArrayItem}
use Rattle.formula_tree.specs.declared.Corner.{Corner}
use Rattle.formula_tree.specs.declared.CompareKind.{CompareKind}
use Rattle.formula_tree.specs.declared.SumKind.{SumKind}
use Rattle.formula_tree.specs.declared.ProductKind.{ProductKind}
use Rattle.formula_tree.specs.declared.UnaryKind.{UnaryKind}
use Rattle.formula_tree.specs.declared.Parameter.{Parameter}
use Rattle.formula_tree.specs.declared.Node.{Node}
use Rattle.formula_tree.specs.declared.Node.TheVariants as node
use Rattle.formula_tree.specs.Depth.{is_within}
use Rattle.formula_tree.specs.laws.DepthBounds.{within_nothing, within_boolean, within_number, within_text, within_reference, within_range, within_colon, within_concatenate, within_compare, within_sum, within_product, within_power, within_unary, within_call, within_named_call, within_array, within_name, within_error, within_parse_error, within_empty_argument, within_spill, within_lambda, within_lambda_call, within_implicit_intersection}
use Rattle.base_wire.specs.Forms.{if_passes, is_text, is_list}
use Rattle.formula_wire.specs.Carried.{is_corner, is_item, is_parameter, is_carried}
use Rattle.formula_wire.specs.laws.CarriedEquations.{carried_boolean, carried_number, carried_text, carried_reference, carried_range, carried_colon, carried_concatenate, carried_compare, carried_sum, carried_product, carried_power, carried_unary, carried_call, carried_named_call, carried_array, carried_name, carried_error, carried_parse_error, carried_empty_argument, carried_spill, carried_lambda, carried_lambda_call, carried_implicit_intersection}

-- bytes can carry the parts of the tree, and it is at most so deep
abbrev pub fits_within : ℕ → Node → Bool
fits_within most n = is_carried n && is_within most n

-- ---- tests of many parts

nothing_more : (c : Bool) → c && true ≡ c
nothing_more true = refl
nothing_more false = refl

grouped : (a b c : Bool) → (a && b) && c ≡ a && (b && c)
grouped true b c = refl
grouped false b c = refl

exchanged : (a b c d : Bool) → (a && b) && (c && d) ≡ (a && c) && (b && d)
exchanged false b c d = refl
exchanged true true c d = turned c d
  where
    turned : (c d : Bool) → c && d ≡ c && d
    turned c d = refl
exchanged true false true d = refl
exchanged true false false d = refl

leaf : {c w t : Bool} → c ≡ t → w ≡ true → c && w ≡ t
leaf {t} same within = rw (same, within) (nothing_more t)

each : {c w t v : Bool} → c ≡ t → w ≡ v → c && w ≡ t && v
each same within = rw (same, within) refl

two : {c w : Bool} (a b v u : Bool) → c ≡ a && b → w ≡ v && u → c && w ≡ (a && v) && (b && u)
two a b v u same within = rw (same, within) (exchanged a b v u)

after : {c w : Bool} (a b v : Bool) → c ≡ a && b → w ≡ v → c && w ≡ a && (b && v)
after a b v same within = rw (same, within) (grouped a b v)

both_all : (most : ℕ) (all : List Node) → list_all is_carried all && list_all (is_within most) all ≡ list_all (fits_within most) all
both_all most [] = refl
both_all most (a ∷ all) = exchanged (is_carried a) (list_all is_carried all) (is_within most a) (list_all (is_within most) all) ∙ ap (λ (test : Bool). fits_within most a && test) (both_all most all)

all_fit : (most : ℕ) (all : List Node) → is_list is_carried all && list_all (is_within most) all ≡ is_list (fits_within most) all
all_fit most all = grouped (nat_lt (length all) (2 ^ 64)) (list_all is_carried all) (list_all (is_within most) all) ∙ ap (λ (test : Bool). nat_lt (length all) (2 ^ 64) && test) (both_all most all)

list : {c w : Bool} (most : ℕ) (all : List Node) → c ≡ is_list is_carried all → w ≡ list_all (is_within most) all → c && w ≡ is_list (fits_within most) all
list most all same within = each same within ∙ all_fit most all

named : {c w : Bool} (most : ℕ) (name : Bool) (all : List Node) → c ≡ name && is_list is_carried all → w ≡ list_all (is_within most) all → c && w ≡ name && is_list (fits_within most) all
named most name all same within = after name (is_list is_carried all) (list_all (is_within most) all) same within ∙ ap (λ (test : Bool). name && test) (all_fit most all)

called : {c w : Bool} (most : ℕ) (a : Node) (all : List Node) → c ≡ is_carried a && is_list is_carried all → w ≡ is_within most a && list_all (is_within most) all → c && w ≡ fits_within most a && is_list (fits_within most) all
called most a all same within = two (is_carried a) (is_list is_carried all) (is_within most a) (list_all (is_within most) all) same within ∙ ap (λ (test : Bool). fits_within most a && test) (all_fit most all)

-- ---- kinds

-- no tree is at most 0 deep
pub fits_nothing : (n : Node) → fits_within 0 n ≡ false
fits_nothing n = rw (within_nothing 0 n refl) (never (is_carried n))
  where
    never : (c : Bool) → c && false ≡ false
    never true = refl
    never false = refl

pub fits_boolean : (rest : ℕ) (value : Bool) → fits_within (rest + 1) (node.Boolean value) ≡ true
fits_boolean rest value = leaf (carried_boolean value) (within_boolean rest value)

pub fits_number : (rest : ℕ) (value : Decimal) → fits_within (rest + 1) (node.Number value) ≡ is_canonical value
fits_number rest value = leaf (carried_number value) (within_number rest value)

pub fits_text : (rest : ℕ) (text : List ℕ) → fits_within (rest + 1) (node.Text text) ≡ is_text text
fits_text rest text = leaf (carried_text text) (within_text rest text)

pub fits_reference : (rest : ℕ) (sheet : Option (List ℕ)) (corner : Corner) → fits_within (rest + 1) (node.Reference sheet corner) ≡ if_passes is_text sheet && is_corner corner
fits_reference rest sheet corner = leaf (carried_reference sheet corner) (within_reference rest sheet corner)

pub fits_range : (rest : ℕ) (sheet : Option (List ℕ)) (first second : Corner) → fits_within (rest + 1) (node.Range sheet first second) ≡ (if_passes is_text sheet && (is_corner first && is_corner second)) && nat_lt 0 rest
fits_range rest sheet first second = each (carried_range sheet first second) (within_range rest sheet first second)

pub fits_colon : (rest : ℕ) (a b : Node) → fits_within (rest + 1) (node.Colon a b) ≡ fits_within rest a && fits_within rest b
fits_colon rest a b = two (is_carried a) (is_carried b) (is_within rest a) (is_within rest b) (carried_colon a b) (within_colon rest a b)

pub fits_concatenate : (rest : ℕ) (a b : Node) → fits_within (rest + 1) (node.Concatenate a b) ≡ fits_within rest a && fits_within rest b
fits_concatenate rest a b = two (is_carried a) (is_carried b) (is_within rest a) (is_within rest b) (carried_concatenate a b) (within_concatenate rest a b)

pub fits_compare : (rest : ℕ) (kind : CompareKind) (a b : Node) → fits_within (rest + 1) (node.Compare kind a b) ≡ fits_within rest a && fits_within rest b
fits_compare rest kind a b = two (is_carried a) (is_carried b) (is_within rest a) (is_within rest b) (carried_compare kind a b) (within_compare rest kind a b)

pub fits_sum : (rest : ℕ) (kind : SumKind) (a b : Node) → fits_within (rest + 1) (node.Sum kind a b) ≡ fits_within rest a && fits_within rest b
fits_sum rest kind a b = two (is_carried a) (is_carried b) (is_within rest a) (is_within rest b) (carried_sum kind a b) (within_sum rest kind a b)

pub fits_product : (rest : ℕ) (kind : ProductKind) (a b : Node) → fits_within (rest + 1) (node.Product kind a b) ≡ fits_within rest a && fits_within rest b
fits_product rest kind a b = two (is_carried a) (is_carried b) (is_within rest a) (is_within rest b) (carried_product kind a b) (within_product rest kind a b)

pub fits_power : (rest : ℕ) (a b : Node) → fits_within (rest + 1) (node.Power a b) ≡ fits_within rest a && fits_within rest b
fits_power rest a b = two (is_carried a) (is_carried b) (is_within rest a) (is_within rest b) (carried_power a b) (within_power rest a b)

pub fits_unary : (rest : ℕ) (kind : UnaryKind) (a : Node) → fits_within (rest + 1) (node.Unary kind a) ≡ fits_within rest a
fits_unary rest kind a = each (carried_unary kind a) (within_unary rest kind a)

pub fits_call : (rest : ℕ) (function : Function) (all : List Node) → fits_within (rest + 1) (node.Call function all) ≡ is_list (fits_within rest) all
fits_call rest function all = list rest all (carried_call function all) (within_call rest function all)

pub fits_named_call : (rest : ℕ) (name : List ℕ) (all : List Node) → fits_within (rest + 1) (node.NamedCall name all) ≡ is_text name && is_list (fits_within rest) all
fits_named_call rest name all = named rest (is_text name) all (carried_named_call name all) (within_named_call rest name all)

pub fits_array : (rest : ℕ) (lines : List (List ArrayItem)) → fits_within (rest + 1) (node.Array lines) ≡ is_list (is_list is_item) lines
fits_array rest lines = leaf (carried_array lines) (within_array rest lines)

pub fits_name : (rest : ℕ) (name : List ℕ) → fits_within (rest + 1) (node.Name name) ≡ is_text name
fits_name rest name = leaf (carried_name name) (within_name rest name)

pub fits_error : (rest : ℕ) (error : Error) → fits_within (rest + 1) (node.Error error) ≡ true
fits_error rest error = leaf (carried_error error) (within_error rest error)

pub fits_parse_error : (rest : ℕ) (text : List ℕ) → fits_within (rest + 1) (node.ParseError text) ≡ is_text text
fits_parse_error rest text = leaf (carried_parse_error text) (within_parse_error rest text)

pub fits_empty_argument : (rest : ℕ) → fits_within (rest + 1) node.EmptyArgument ≡ true
fits_empty_argument rest = leaf carried_empty_argument (within_empty_argument rest)

pub fits_spill : (rest : ℕ) (a : Node) → fits_within (rest + 1) (node.Spill a) ≡ fits_within rest a
fits_spill rest a = each (carried_spill a) (within_spill rest a)

pub fits_lambda : (rest : ℕ) (parameters : List Parameter) (a : Node) → fits_within (rest + 1) (node.Lambda parameters a) ≡ is_list is_parameter parameters && fits_within rest a
fits_lambda rest parameters a = after (is_list is_parameter parameters) (is_carried a) (is_within rest a) (carried_lambda parameters a) (within_lambda rest parameters a)

pub fits_lambda_call : (rest : ℕ) (a : Node) (all : List Node) → fits_within (rest + 1) (node.LambdaCall a all) ≡ fits_within rest a && is_list (fits_within rest) all
fits_lambda_call rest a all = called rest a all (carried_lambda_call a all) (within_lambda_call rest a all)

pub fits_implicit_intersection : (rest : ℕ) (a : Node) → fits_within (rest + 1) (node.ImplicitIntersection a) ≡ fits_within rest a
fits_implicit_intersection rest a = each (carried_implicit_intersection a) (within_implicit_intersection rest a)
