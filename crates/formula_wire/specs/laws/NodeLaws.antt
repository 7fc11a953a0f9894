-- The laws of the bytes of trees.
use Rattle.std.proofs.Common.{◌≡◌, ℕ, zero, suc, ◌+◌, ◌≤◌, ◌&&◌, eqb, Bool, true, false, if◌then◌else◌, List, ◌∷◌, ◌++◌, length, Ok, refl, ap, sym, subst, ◌∙◌, arith}
use Rattle.std.specs.Prelude.{nat_lt}
use Rattle.std.proofs.lemmas.Bool.{and_parts, and_from}
use Rattle.std.proofs.lemmas.Bool.Decides.{nat_tests}
use Rattle.formula_tree.specs.declared.Node.{Node}
use Rattle.formula_tree.specs.declared.Node.TheVariants as node
use Rattle.formula_tree.specs.laws.Induction.{induct}
use Rattle.formula_tree.specs.Depth.{is_within}
use Rattle.base_wire.specs.laws.Reading.{Reader, refused, map_at, ◌⊗◌}
use Rattle.base_wire.specs.laws.Again.{ReadsAgain}
use Rattle.base_wire.specs.laws.Encoded.{ReadsEncoded, TagEncoded, tag_map, tag_plain, tag_refused, tag_if, tagged_encoded, fits_otherwise}
use Rattle.base_wire.specs.laws.Refusals.{IsPlain, map_plain, plain_plain, refused_plain, if_plain, tagged_plain}
use Rattle.base_wire.specs.laws.Format.{Format}
use Rattle.base_wire.specs.laws.Form.{Passes, Form, both_form, decimal_form, text_form, list_form}
use Rattle.formula_wire.specs.laws.Reading.{sheet_at, corner_at, reference_made, range_made, colon_made, concatenate_made, compare_made, sum_made, product_made, power_made, unary_made, call_made, named_call_made, lambda_made, lambda_call_made, node_of, node_within, node_at}
use Rattle.formula_wire.specs.laws.PartLaws.{boolean_form, error_form, compare_form, sum_form, product_form, unary_form, function_form, corner_form, sheet_form, lines_form, parameters_form}
use Rattle.formula_wire.specs.NodeBytes.{encode_node}
use Rattle.formula_wire.specs.laws.EncodeEquations.{encode_of_boolean, encode_of_number, encode_of_text, encode_of_reference, encode_of_range, encode_of_colon, encode_of_concatenate, encode_of_compare, encode_of_sum, encode_of_product, encode_of_power, encode_of_unary, encode_of_call, encode_of_named_call, encode_of_array, encode_of_name, encode_of_error, encode_of_parse_error, encode_of_empty_argument, encode_of_spill, encode_of_lambda, encode_of_lambda_call, encode_of_implicit_intersection}
use Rattle.formula_wire.specs.Carried.{is_carried, FitsNode}
use Rattle.formula_wire.specs.laws.NodeFits.{fits_within, fits_nothing, fits_boolean, fits_number, fits_text, fits_reference, fits_range, fits_colon, fits_concatenate, fits_compare, fits_sum, fits_product, fits_power, fits_unary, fits_call, fits_named_call, fits_array, fits_name, fits_error, fits_parse_error, fits_empty_argument, fits_spill, fits_lambda, fits_lambda_call, fits_implicit_intersection}

-- ---- a tree takes a byte at least

tag_first : {bytes : List ℕ} (tag : ℕ) (rest : List ℕ) → bytes ≡ tag ∷ rest → 1 ≤ length bytes
tag_first tag rest same = subst (λ (w : List ℕ). 1 ≤ length w) (sym same) (omega arith)

pub some_byte : (n : Node) → 1 ≤ length (encode_node n)
some_byte = induct (λ n. 1 ≤ length (encode_node n)) (record {
  boolean = λ value. tag_first _ _ (encode_of_boolean value);
  number = λ value. tag_first _ _ (encode_of_number value);
  text = λ text. tag_first _ _ (encode_of_text text);
  reference = λ sheet corner. tag_first _ _ (encode_of_reference sheet corner);
  range = λ sheet first second. tag_first _ _ (encode_of_range sheet first second);
  colon = λ a b _ _. tag_first _ _ (encode_of_colon a b);
  concatenate = λ a b _ _. tag_first _ _ (encode_of_concatenate a b);
  compare = λ kind a b _ _. tag_first _ _ (encode_of_compare kind a b);
  sum = λ kind a b _ _. tag_first _ _ (encode_of_sum kind a b);
  product = λ kind a b _ _. tag_first _ _ (encode_of_product kind a b);
  power = λ a b _ _. tag_first _ _ (encode_of_power a b);
  unary = λ kind a _. tag_first _ _ (encode_of_unary kind a);
  call = λ function all _. tag_first _ _ (encode_of_call function all);
  named_call = λ name all _. tag_first _ _ (encode_of_named_call name all);
  array = λ lines. tag_first _ _ (encode_of_array lines);
  name = λ name. tag_first _ _ (encode_of_name name);
  error = λ error. tag_first _ _ (encode_of_error error);
  parse_error = λ text. tag_first _ _ (encode_of_parse_error text);
  empty_argument = tag_first _ _ encode_of_empty_argument;
  spill = λ a _. tag_first _ _ (encode_of_spill a);
  lambda = λ parameters a _. tag_first _ _ (encode_of_lambda parameters a);
  lambda_call = λ a all _ _. tag_first _ _ (encode_of_lambda_call a all);
  implicit_intersection = λ a _. tag_first _ _ (encode_of_implicit_intersection a);
})

-- ---- one level more

map_reads : {A B : Type 0} (f : A → B) (r : Reader A) (bytes : List ℕ) (x : A) (rest : List ℕ) → r bytes ≡ Ok (x, rest) → map_at f r bytes ≡ Ok (f x, rest)
map_reads f r bytes x rest h = rw h refl

-- a kind is read again where its tag chooses the reader of its parts
kind_again : {A : Type 0} {test : A → Bool} {s : A → List ℕ} {r : Reader A} (rest tag : ℕ) → Form test s r → (f : A → Node) → ((bytes : List ℕ) → node_of (node_within rest) rest tag bytes ≡ map_at f r bytes) → (x : A) → encode_node (f x) ≡ tag ∷ s x → fits_within (rest + 1) (f x) ≡ test x
    → (tail : List ℕ) → Passes (fits_within (rest + 1)) (f x) → node_within (suc rest) (encode_node (f x) ++ tail) ≡ Ok (f x, tail)
unfolding node_within
kind_again {s} {r} rest tag form f chosen x same fit tail fits =
    ap (λ (w : List ℕ). node_within (suc rest) (w ++ tail)) same
    ∙ chosen (s x ++ tail)
    ∙ map_reads f r (s x ++ tail) x tail (form.again.again x tail (sym fit ∙ fits))

empty_again : (rest : ℕ) (tail : List ℕ) → node_within (suc rest) (encode_node node.EmptyArgument ++ tail) ≡ Ok (node.EmptyArgument, tail)
unfolding node_within
empty_again rest tail = ap (λ (w : List ℕ). node_within (suc rest) (w ++ tail)) encode_of_empty_argument

-- a range needs one level more than its own
not_zero : (rest : ℕ) → nat_lt 0 rest ≡ true → eqb rest 0 ≡ false
not_zero rest h = grind (arith, nat_tests)

above_zero : (rest : ℕ) → eqb rest 0 ≡ false → nat_lt 0 rest ≡ true
above_zero rest h = grind (arith, nat_tests)

range_chosen : (rest : ℕ) → nat_lt 0 rest ≡ true → (bytes : List ℕ) → node_of (node_within rest) rest 4 bytes ≡ map_at range_made (sheet_at ⊗ corner_at ⊗ corner_at) bytes
range_chosen rest h bytes = rw (not_zero rest h) refl

range_parts : (parts deeper : Bool) → deeper ≡ true → parts && deeper ≡ parts
range_parts true deeper h = h
range_parts false deeper h = refl

level_again : (rest : ℕ) → Form (fits_within rest) encode_node (node_within rest) → (n : Node) (tail : List ℕ) → Passes (fits_within (rest + 1)) n → node_within (suc rest) (encode_node n ++ tail) ≡ Ok (n, tail)
level_again rest law = induct (λ n. (tail : List ℕ) → Passes (fits_within (rest + 1)) n → node_within (suc rest) (encode_node n ++ tail) ≡ Ok (n, tail)) (record {
  boolean = λ value. kind_again rest 0 boolean_form node.Boolean (λ bytes. refl) value (encode_of_boolean value) (fits_boolean rest value);
  number = λ value. kind_again rest 1 decimal_form node.Number (λ bytes. refl) value (encode_of_number value) (fits_number rest value);
  text = λ text. kind_again rest 2 text_form node.Text (λ bytes. refl) text (encode_of_text text) (fits_text rest text);
  reference = λ sheet corner. kind_again rest 3 (both_form sheet_form corner_form) reference_made (λ bytes. refl) (sheet, corner) (encode_of_reference sheet corner) (fits_reference rest sheet corner);
  range = λ sheet first second tail fits.
      let deeper = (and_parts _ (nat_lt 0 rest) (sym (fits_range rest sheet first second) ∙ fits)).1 in
      kind_again rest 4 (both_form sheet_form (both_form corner_form corner_form)) range_made (range_chosen rest deeper) (sheet, (first, second)) (encode_of_range sheet first second) (fits_range rest sheet first second ∙ range_parts _ (nat_lt 0 rest) deeper) tail fits;
  colon = λ a b _ _. kind_again rest 5 (both_form law law) colon_made (λ bytes. refl) (a, b) (encode_of_colon a b) (fits_colon rest a b);
  concatenate = λ a b _ _. kind_again rest 6 (both_form law law) concatenate_made (λ bytes. refl) (a, b) (encode_of_concatenate a b) (fits_concatenate rest a b);
  compare = λ kind a b _ _. kind_again rest 7 (both_form compare_form (both_form law law)) compare_made (λ bytes. refl) (kind, (a, b)) (encode_of_compare kind a b) (fits_compare rest kind a b);
  sum = λ kind a b _ _. kind_again rest 8 (both_form sum_form (both_form law law)) sum_made (λ bytes. refl) (kind, (a, b)) (encode_of_sum kind a b) (fits_sum rest kind a b);
  product = λ kind a b _ _. kind_again rest 9 (both_form product_form (both_form law law)) product_made (λ bytes. refl) (kind, (a, b)) (encode_of_product kind a b) (fits_product rest kind a b);
  power = λ a b _ _. kind_again rest 10 (both_form law law) power_made (λ bytes. refl) (a, b) (encode_of_power a b) (fits_power rest a b);
  unary = λ kind a _. kind_again rest 11 (both_form unary_form law) unary_made (λ bytes. refl) (kind, a) (encode_of_unary kind a) (fits_unary rest kind a);
  call = λ function all _. kind_again rest 12 (both_form function_form (list_form law some_byte)) call_made (λ bytes. refl) (function, all) (encode_of_call function all) (fits_call rest function all);
  named_call = λ name all _. kind_again rest 13 (both_form text_form (list_form law some_byte)) named_call_made (λ bytes. refl) (name, all) (encode_of_named_call name all) (fits_named_call rest name all);
  array = λ lines. kind_again rest 14 lines_form node.Array (λ bytes. refl) lines (encode_of_array lines) (fits_array rest lines);
  name = λ name. kind_again rest 15 text_form node.Name (λ bytes. refl) name (encode_of_name name) (fits_name rest name);
  error = λ error. kind_again rest 16 error_form node.Error (λ bytes. refl) error (encode_of_error error) (fits_error rest error);
  parse_error = λ text. kind_again rest 17 text_form node.ParseError (λ bytes. refl) text (encode_of_parse_error text) (fits_parse_error rest text);
  empty_argument = λ tail fits. empty_again rest tail;
  spill = λ a _. kind_again rest 19 law node.Spill (λ bytes. refl) a (encode_of_spill a) (fits_spill rest a);
  lambda = λ parameters a _. kind_again rest 20 (both_form parameters_form law) lambda_made (λ bytes. refl) (parameters, a) (encode_of_lambda parameters a) (fits_lambda rest parameters a);
  lambda_call = λ a all _ _. kind_again rest 21 (both_form law (list_form law some_byte)) lambda_call_made (λ bytes. refl) (a, all) (encode_of_lambda_call a all) (fits_lambda_call rest a all);
  implicit_intersection = λ a _. kind_again rest 22 law node.ImplicitIntersection (λ bytes. refl) a (encode_of_implicit_intersection a) (fits_implicit_intersection rest a);
})

module _ (rest : ℕ) where
  kind_encoded : {A : Type 0} {test : A → Bool} {s : A → List ℕ} {r : Reader A} (tag : ℕ) → Form test s r → (f : A → Node) → ((x : A) → encode_node (f x) ≡ tag ∷ s x) → ((x : A) → fits_within (rest + 1) (f x) ≡ test x) → TagEncoded (Passes (fits_within (rest + 1))) encode_node tag (map_at f r)
  kind_encoded tag form f same fit = tag_map form.encoded f (Passes (fits_within (rest + 1))) encode_node tag same (λ x h. fit x ∙ h)

range_encoded : (rest : ℕ) → TagEncoded (Passes (fits_within (rest + 1))) encode_node 4 (if eqb rest 0 then refused else map_at range_made (sheet_at ⊗ corner_at ⊗ corner_at))
range_encoded rest = by_test (eqb rest 0) refl
  where
    by_test : (b : Bool) → eqb rest 0 ≡ b → TagEncoded (Passes (fits_within (rest + 1))) encode_node 4 (if b then refused else map_at range_made (sheet_at ⊗ corner_at ⊗ corner_at))
    by_test true same = tag_refused _ encode_node 4
    by_test false same = kind_encoded rest 4 (both_form sheet_form (both_form corner_form corner_form)) range_made (λ x. encode_of_range x.0 x.1.0 x.1.1) (λ x. fits_range rest x.0 x.1.0 x.1.1 ∙ range_parts _ (nat_lt 0 rest) (above_zero rest same))

level_encoded : (rest : ℕ) → Form (fits_within rest) encode_node (node_within rest) → (tag : ℕ) → TagEncoded (Passes (fits_within (rest + 1))) encode_node tag (node_of (node_within rest) rest tag)
level_encoded rest law tag =
    tag_if tag 5 (kind_encoded rest 5 (both_form law law) colon_made (λ x. encode_of_colon x.0 x.1) (λ x. fits_colon rest x.0 x.1))
    (tag_if tag 6 (kind_encoded rest 6 (both_form law law) concatenate_made (λ x. encode_of_concatenate x.0 x.1) (λ x. fits_concatenate rest x.0 x.1))
    (tag_if tag 10 (kind_encoded rest 10 (both_form law law) power_made (λ x. encode_of_power x.0 x.1) (λ x. fits_power rest x.0 x.1))
    (tag_if tag 7 (kind_encoded rest 7 (both_form compare_form (both_form law law)) compare_made (λ x. encode_of_compare x.0 x.1.0 x.1.1) (λ x. fits_compare rest x.0 x.1.0 x.1.1))
    (tag_if tag 8 (kind_encoded rest 8 (both_form sum_form (both_form law law)) sum_made (λ x. encode_of_sum x.0 x.1.0 x.1.1) (λ x. fits_sum rest x.0 x.1.0 x.1.1))
    (tag_if tag 9 (kind_encoded rest 9 (both_form product_form (both_form law law)) product_made (λ x. encode_of_product x.0 x.1.0 x.1.1) (λ x. fits_product rest x.0 x.1.0 x.1.1))
    (tag_if tag 11 (kind_encoded rest 11 (both_form unary_form law) unary_made (λ x. encode_of_unary x.0 x.1) (λ x. fits_unary rest x.0 x.1))
    (tag_if tag 12 (kind_encoded rest 12 (both_form function_form (list_form law some_byte)) call_made (λ x. encode_of_call x.0 x.1) (λ x. fits_call rest x.0 x.1))
    (tag_if tag 13 (kind_encoded rest 13 (both_form text_form (list_form law some_byte)) named_call_made (λ x. encode_of_named_call x.0 x.1) (λ x. fits_named_call rest x.0 x.1))
    (tag_if tag 19 (kind_encoded rest 19 law node.Spill (λ x. encode_of_spill x) (λ x. fits_spill rest x))
    (tag_if tag 20 (kind_encoded rest 20 (both_form parameters_form law) lambda_made (λ x. encode_of_lambda x.0 x.1) (λ x. fits_lambda rest x.0 x.1))
    (tag_if tag 21 (kind_encoded rest 21 (both_form law (list_form law some_byte)) lambda_call_made (λ x. encode_of_lambda_call x.0 x.1) (λ x. fits_lambda_call rest x.0 x.1))
    (tag_if tag 22 (kind_encoded rest 22 law node.ImplicitIntersection (λ x. encode_of_implicit_intersection x) (λ x. fits_implicit_intersection rest x))
    (tag_if tag 0 (kind_encoded rest 0 boolean_form node.Boolean (λ x. encode_of_boolean x) (λ x. fits_boolean rest x))
    (tag_if tag 1 (kind_encoded rest 1 decimal_form node.Number (λ x. encode_of_number x) (λ x. fits_number rest x))
    (tag_if tag 3 (kind_encoded rest 3 (both_form sheet_form corner_form) reference_made (λ x. encode_of_reference x.0 x.1) (λ x. fits_reference rest x.0 x.1))
    (tag_if tag 4 (range_encoded rest)
    (tag_if tag 14 (kind_encoded rest 14 lines_form node.Array (λ x. encode_of_array x) (λ x. fits_array rest x))
    (tag_if tag 16 (kind_encoded rest 16 error_form node.Error (λ x. encode_of_error x) (λ x. fits_error rest x))
    (tag_if tag 18 (tag_plain (Passes (fits_within (rest + 1))) encode_node 18 node.EmptyArgument encode_of_empty_argument (fits_empty_argument rest))
    (tag_if tag 2 (kind_encoded rest 2 text_form node.Text (λ x. encode_of_text x) (λ x. fits_text rest x))
    (tag_if tag 15 (kind_encoded rest 15 text_form node.Name (λ x. encode_of_name x) (λ x. fits_name rest x))
    (tag_if tag 17 (kind_encoded rest 17 text_form node.ParseError (λ x. encode_of_parse_error x) (λ x. fits_parse_error rest x))
    (tag_refused (Passes (fits_within (rest + 1))) encode_node tag)))))))))))))))))))))))

level_plain : (rest : ℕ) → Form (fits_within rest) encode_node (node_within rest) → (tag : ℕ) → IsPlain (node_of (node_within rest) rest tag)
level_plain rest law tag =
    if_plain (eqb tag 5) (map_plain colon_made (both_form law law).plain)
    (if_plain (eqb tag 6) (map_plain concatenate_made (both_form law law).plain)
    (if_plain (eqb tag 10) (map_plain power_made (both_form law law).plain)
    (if_plain (eqb tag 7) (map_plain compare_made (both_form compare_form (both_form law law)).plain)
    (if_plain (eqb tag 8) (map_plain sum_made (both_form sum_form (both_form law law)).plain)
    (if_plain (eqb tag 9) (map_plain product_made (both_form product_form (both_form law law)).plain)
    (if_plain (eqb tag 11) (map_plain unary_made (both_form unary_form law).plain)
    (if_plain (eqb tag 12) (map_plain call_made (both_form function_form (list_form law some_byte)).plain)
    (if_plain (eqb tag 13) (map_plain named_call_made (both_form text_form (list_form law some_byte)).plain)
    (if_plain (eqb tag 19) (map_plain node.Spill law.plain)
    (if_plain (eqb tag 20) (map_plain lambda_made (both_form parameters_form law).plain)
    (if_plain (eqb tag 21) (map_plain lambda_call_made (both_form law (list_form law some_byte)).plain)
    (if_plain (eqb tag 22) (map_plain node.ImplicitIntersection law.plain)
    (if_plain (eqb tag 0) (map_plain node.Boolean boolean_form.plain)
    (if_plain (eqb tag 1) (map_plain node.Number decimal_form.plain)
    (if_plain (eqb tag 3) (map_plain reference_made (both_form sheet_form corner_form).plain)
    (if_plain (eqb tag 4) (if_plain (eqb rest 0) refused_plain (map_plain range_made (both_form sheet_form (both_form corner_form corner_form)).plain))
    (if_plain (eqb tag 14) (map_plain node.Array lines_form.plain)
    (if_plain (eqb tag 16) (map_plain node.Error error_form.plain)
    (if_plain (eqb tag 18) (plain_plain node.EmptyArgument)
    (if_plain (eqb tag 2) (map_plain node.Text text_form.plain)
    (if_plain (eqb tag 15) (map_plain node.Name text_form.plain)
    (if_plain (eqb tag 17) (map_plain node.ParseError text_form.plain)
    refused_plain))))))))))))))))))))))

one_level : (rest : ℕ) → Form (fits_within rest) encode_node (node_within rest) → Form (fits_within (rest + 1)) encode_node (node_within (suc rest))
unfolding node_within
one_level rest law = record {
  again = record { again = level_again rest law };
  encoded = tagged_encoded (node_of (node_within rest) rest) (level_encoded rest law);
  plain = tagged_plain (node_of (node_within rest) rest) (level_plain rest law);
}

one_more : (n : ℕ) → n + 1 ≡ suc n
one_more n = omega arith

none_fit : (n : Node) → Passes (fits_within 0) n → ⊥
none_fit n fits = let none = fits_nothing n in cc

-- the laws of the bytes of trees that are at most so deep
pub within_form : (most : ℕ) → Form (fits_within most) encode_node (node_within most)
unfolding node_within
within_form zero = record {
  again = record { again = λ n rest fits. absurd (none_fit n fits) };
  encoded = record { encoded = λ bytes x small e. absurd cc };
  plain = record { only = λ bytes. refl };
}
within_form (suc most) = subst (λ k. Form (fits_within k) encode_node (node_within (suc most))) (one_more most) (one_level most (within_form most))

-- ---- trees of formulas

node_into : (n : Node) → FitsNode n → Passes (fits_within 64) n
node_into n fits = and_from (is_carried n) (is_within 64 n) fits.carried fits.depth

node_out : (n : Node) → Passes (fits_within 64) n → FitsNode n
node_out n h = let p = and_parts (is_carried n) (is_within 64 n) h in record { carried = p.0; depth = p.1 }

-- a tree that bytes can carry is read again from its encoding, whatever follows
pub node_again : ReadsAgain FitsNode encode_node node_at
unfolding node_at
node_again = record { again = λ n rest fits. (within_form 64).again.again n rest (node_into n fits) }

-- what is read was encoded so, and bytes can carry it
pub node_encoded : ReadsEncoded FitsNode encode_node node_at
unfolding node_at
node_encoded = fits_otherwise node_out (within_form 64).encoded

-- what encodes no tree is refused with ParseDiffs
pub node_plain : IsPlain node_at
unfolding node_at
node_plain = (within_form 64).plain

-- the three laws together
pub node_format : Format FitsNode encode_node node_at
node_format = record { again = node_again; encoded = node_encoded; plain = node_plain }
