-- The numbers of a tree that bytes can carry are canonical.
use Rattle.std.specs.Prelude.{◌≡◌, ◌^◌, Bool, true, ◌&&◌, nat_lt, List, [], ◌∷◌, length}
use Rattle.std.proofs.Common.{refl, sym, ◌∙◌}
use Rattle.std.specs.List.{list_all, AllByRecursion}
use Rattle.std.proofs.lemmas.Bool.{and_parts, and_from}
use Rattle.formula_tree.specs.declared.ArrayItem.{ArrayItem}
use Rattle.formula_tree.specs.declared.ArrayItem.TheVariants as item
use Rattle.formula_tree.specs.declared.Node.{Node}
use Rattle.formula_tree.specs.laws.Induction.{induct}
use Rattle.formula_tree.specs.Numbers.{has_canonical_numbers}
use Rattle.formula_tree.specs.laws.NumbersEquations.{numbers_boolean, numbers_number, numbers_text, numbers_reference, numbers_range, numbers_colon, numbers_concatenate, numbers_compare, numbers_sum, numbers_product, numbers_power, numbers_unary, numbers_call, numbers_named_call, numbers_name, numbers_error, numbers_parse_error, numbers_empty_argument, numbers_spill, numbers_lambda, numbers_lambda_call, numbers_implicit_intersection}
use Rattle.base_wire.specs.Forms.{is_text, is_list}
use Rattle.formula_wire.specs.Carried.{is_item, is_parameter, is_carried}
use Rattle.formula_wire.specs.laws.CarriedEquations.{carried_number, carried_colon, carried_concatenate, carried_compare, carried_sum, carried_product, carried_power, carried_unary, carried_call, carried_named_call, carried_array, carried_spill, carried_lambda, carried_lambda_call, carried_implicit_intersection}
use Rattle.formula_wire.specs.laws.CanonicalNumbers.{is_canonical_item}
use Rattle.formula_wire.specs.laws.CanonicalArrays.{canonical_array}

-- ---- tests of many parts

both : {c k : Bool} (a b x y : Bool) → c ≡ a && b → k ≡ x && y → (a ≡ true → x ≡ true) → (b ≡ true → y ≡ true) → c ≡ true → k ≡ true
both a b x y carried canonical one two h = let p = and_parts a b (sym carried ∙ h) in canonical ∙ and_from x y (one p.0) (two p.1)

second : {c k : Bool} (a b y : Bool) → c ≡ a && b → k ≡ y → (b ≡ true → y ≡ true) → c ≡ true → k ≡ true
second a b y carried canonical two h = canonical ∙ two (and_parts a b (sym carried ∙ h)).1

each_kept : (all : List Node) → AllByRecursion (λ n. is_carried n ≡ true → has_canonical_numbers n ≡ true) all → list_all is_carried all ≡ true → list_all has_canonical_numbers all ≡ true
each_kept [] one h = refl
each_kept (a ∷ all) one h = let p = and_parts (is_carried a) (list_all is_carried all) h in and_from (has_canonical_numbers a) (list_all has_canonical_numbers all) (one.0 p.0) (each_kept all one.1 p.1)

all_kept : (all : List Node) → AllByRecursion (λ n. is_carried n ≡ true → has_canonical_numbers n ≡ true) all → is_list is_carried all ≡ true → list_all has_canonical_numbers all ≡ true
all_kept all one h = each_kept all one (and_parts (nat_lt (length all) (2 ^ 64)) (list_all is_carried all) h).1

item_kept : (x : ArrayItem) → is_item x ≡ true → is_canonical_item x ≡ true
item_kept (item.Boolean value) h = refl
item_kept (item.Number value) h = h
item_kept (item.Text text) h = refl
item_kept (item.Error error) h = refl

items_kept : (line : List ArrayItem) → list_all is_item line ≡ true → list_all is_canonical_item line ≡ true
items_kept [] h = refl
items_kept (x ∷ line) h = let p = and_parts (is_item x) (list_all is_item line) h in and_from (is_canonical_item x) (list_all is_canonical_item line) (item_kept x p.0) (items_kept line p.1)

line_kept : (line : List ArrayItem) → is_list is_item line ≡ true → list_all is_canonical_item line ≡ true
line_kept line h = items_kept line (and_parts (nat_lt (length line) (2 ^ 64)) (list_all is_item line) h).1

each_line_kept : (lines : List (List ArrayItem)) → list_all (is_list is_item) lines ≡ true → list_all (list_all is_canonical_item) lines ≡ true
each_line_kept [] h = refl
each_line_kept (line ∷ lines) h = let p = and_parts (is_list is_item line) (list_all (is_list is_item) lines) h in and_from (list_all is_canonical_item line) (list_all (list_all is_canonical_item) lines) (line_kept line p.0) (each_line_kept lines p.1)

-- the constants of an array that bytes can carry are canonical
pub lines_kept : (lines : List (List ArrayItem)) → is_list (is_list is_item) lines ≡ true → list_all (list_all is_canonical_item) lines ≡ true
lines_kept lines h = each_line_kept lines (and_parts (nat_lt (length lines) (2 ^ 64)) (list_all (is_list is_item) lines) h).1

-- ---- trees

pub canonical_from_carried : (n : Node) → is_carried n ≡ true → has_canonical_numbers n ≡ true
canonical_from_carried = induct (λ n. is_carried n ≡ true → has_canonical_numbers n ≡ true) (record {
  boolean = λ value h. numbers_boolean _ value;
  number = λ value h. numbers_number _ value ∙ (sym (carried_number value) ∙ h);
  text = λ text h. numbers_text _ text;
  reference = λ sheet corner h. numbers_reference _ sheet corner;
  range = λ sheet first second h. numbers_range _ sheet first second;
  colon = λ a b one two. both (is_carried a) (is_carried b) (has_canonical_numbers a) (has_canonical_numbers b) (carried_colon a b) (numbers_colon _ a b) one two;
  concatenate = λ a b one two. both (is_carried a) (is_carried b) (has_canonical_numbers a) (has_canonical_numbers b) (carried_concatenate a b) (numbers_concatenate _ a b) one two;
  compare = λ kind a b one two. both (is_carried a) (is_carried b) (has_canonical_numbers a) (has_canonical_numbers b) (carried_compare kind a b) (numbers_compare _ kind a b) one two;
  sum = λ kind a b one two. both (is_carried a) (is_carried b) (has_canonical_numbers a) (has_canonical_numbers b) (carried_sum kind a b) (numbers_sum _ kind a b) one two;
  product = λ kind a b one two. both (is_carried a) (is_carried b) (has_canonical_numbers a) (has_canonical_numbers b) (carried_product kind a b) (numbers_product _ kind a b) one two;
  power = λ a b one two. both (is_carried a) (is_carried b) (has_canonical_numbers a) (has_canonical_numbers b) (carried_power a b) (numbers_power _ a b) one two;
  unary = λ kind a one h. numbers_unary _ kind a ∙ one (sym (carried_unary kind a) ∙ h);
  call = λ function all one h. numbers_call _ function all ∙ all_kept all one (sym (carried_call function all) ∙ h);
  named_call = λ name all one. second (is_text name) (is_list is_carried all) (list_all has_canonical_numbers all) (carried_named_call name all) (numbers_named_call _ name all) (all_kept all one);
  array = λ lines h. canonical_array lines ∙ lines_kept lines (sym (carried_array lines) ∙ h);
  name = λ name h. numbers_name _ name;
  error = λ error h. numbers_error _ error;
  parse_error = λ text h. numbers_parse_error _ text;
  empty_argument = λ h. numbers_empty_argument _;
  spill = λ a one h. numbers_spill _ a ∙ one (sym (carried_spill a) ∙ h);
  lambda = λ parameters a one. second (is_list is_parameter parameters) (is_carried a) (has_canonical_numbers a) (carried_lambda parameters a) (numbers_lambda _ parameters a) one;
  lambda_call = λ a all one two. both (is_carried a) (is_list is_carried all) (has_canonical_numbers a) (list_all has_canonical_numbers all) (carried_lambda_call a all) (numbers_lambda_call _ a all) one (all_kept all two);
  implicit_intersection = λ a one h. numbers_implicit_intersection _ a ∙ one (sym (carried_implicit_intersection a) ∙ h);
})
