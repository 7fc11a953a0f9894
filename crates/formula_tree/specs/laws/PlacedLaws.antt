-- A tree whose corners move is placed where they come to be inside, and stays where they stay.
use Rattle.std.specs.Prelude.{◌≡◌, ℕ, Bool, true, false, ◌&&◌, ◌||◌, if◌then◌else◌, List, [], ◌∷◌, map, Option, Some, None, IfSome}
use Rattle.std.proofs.Common.{refl, ap, sym, ◌∙◌, arith}
use Rattle.std.specs.List.{list_all, AllByRecursion}
use Rattle.base_values.specs.declared.Position.{Position}
use Rattle.base_tables.specs.declared.Error.TheVariants.{Ref}
use Rattle.formula_tree.specs.declared.corner.Corner.{Corner}
use Rattle.formula_tree.specs.declared.node.Node.{Node}
use Rattle.formula_tree.specs.declared.node.Node.TheVariants as node
use Rattle.formula_tree.specs.laws.Induction.{induct}
use Rattle.formula_tree.specs.Corners.{corner_row, corner_column, is_inside, are_in_order, are_rows_reversed, are_columns_reversed, crossing, lower_corner, higher_corner}
use Rattle.formula_tree.specs.laws.CornerLaws.{in_order-ordered, lower-in_order, higher-in_order}
use Rattle.formula_tree.specs.Placed.{is_placed, is_placed_range}
use Rattle.formula_tree.specs.laws.PlacedEquations.{placed_boolean, placed_number, placed_text, placed_reference, placed_range, placed_colon, placed_concatenate, placed_compare, placed_sum, placed_product, placed_power, placed_unary, placed_call, placed_named_call, placed_array, placed_name, placed_error, placed_parse_error, placed_empty_argument, placed_spill, placed_lambda, placed_lambda_call, placed_implicit_intersection}
use Rattle.formula_tree.specs.Moved.{Mapping, moved, reference_to, range_to}
use Rattle.formula_tree.specs.laws.MovedEquations.{moved_boolean, moved_number, moved_text, moved_reference, moved_range, moved_colon, moved_concatenate, moved_compare, moved_sum, moved_product, moved_power, moved_unary, moved_call, moved_named_call, moved_array, moved_name, moved_error, moved_parse_error, moved_empty_argument, moved_spill, moved_lambda, moved_lambda_call, moved_implicit_intersection}

left : (a b : Bool) → a && b ≡ true → a ≡ true
left a b both = grind arith

right : (a b : Bool) → a && b ≡ true → b ≡ true
right a b both = grind arith

both : (a b : Bool) → a ≡ true → b ≡ true → a && b ≡ true
both a b left right = grind arith

-- ---- a placed tree stays

-- the mapping leaves the corners that are inside for a formula at that place
pub record Keeps (to : Position) (m : Mapping) : Type 0 where
  pub reference : (sheet : Option (List ℕ)) (corner : Corner) → is_inside to corner ≡ true → m.reference sheet corner ≡ Some corner
  pub first : (sheet : Option (List ℕ)) (first second : Corner) → is_inside to first && is_inside to second ≡ true → m.first sheet first second ≡ Some first
  pub second : (sheet : Option (List ℕ)) (first second : Corner) → is_inside to first && is_inside to second ≡ true → m.second sheet first second ≡ Some second

reference_stays : (to : Position) (m : Mapping) → Keeps to m → (sheet : Option (List ℕ)) (corner : Corner) → is_inside to corner ≡ true → reference_to sheet (m.reference sheet corner) ≡ node.Reference sheet corner
unfolding reference_to
reference_stays to m keeps sheet corner inside = ap (reference_to sheet) (keeps.reference sheet corner inside)

range_stays : (to : Position) (m : Mapping) → Keeps to m → (sheet : Option (List ℕ)) (first second : Corner) → is_placed_range to first second ≡ true
    → range_to to sheet (m.first sheet first second) (m.second sheet first second) ≡ node.Range sheet first second
unfolding range_to is_placed_range
range_stays to m keeps sheet first second placed =
    let inside : is_inside to first && is_inside to second ≡ true = left (is_inside to first && is_inside to second) (are_in_order to first second) placed in
    let in_order : are_in_order to first second ≡ true = right (is_inside to first && is_inside to second) (are_in_order to first second) placed in
    (λ i. range_to to sheet (keeps.first sheet first second inside i) (keeps.second sheet first second inside i))
    ∙ (λ i. node.Range sheet (lower-in_order to first second in_order i) (higher-in_order to first second in_order i))

abbrev Stays : Position → Mapping → Node → Type 0
Stays to m n = is_placed to n ≡ true → moved to m n ≡ n

all_stay : (to : Position) (m : Mapping) (all : List Node) → AllByRecursion (Stays to m) all → list_all (is_placed to) all ≡ true → map (moved to m) all ≡ all
all_stay to m [] stays placed = refl
all_stay to m (n ∷ all) stays placed =
    let here : moved to m n ≡ n = stays.0 (left (is_placed to n) (list_all (is_placed to) all) placed) in
    let rest : map (moved to m) all ≡ all = all_stay to m all stays.1 (right (is_placed to n) (list_all (is_placed to) all) placed) in
    λ i. here i ∷ rest i

-- a tree whose corners are inside and in order stays as it is
pub moved-placed : (to : Position) (m : Mapping) → Keeps to m → (n : Node) → is_placed to n ≡ true → moved to m n ≡ n
moved-placed to m keeps = induct (Stays to m) (record {
  boolean = λ value _. moved_boolean to m value;
  number = λ value _. moved_number to m value;
  text = λ text _. moved_text to m text;
  reference = λ sheet corner placed. moved_reference to m sheet corner ∙ reference_stays to m keeps sheet corner (sym (placed_reference to sheet corner) ∙ placed);
  range = λ sheet first second placed. moved_range to m sheet first second ∙ range_stays to m keeps sheet first second (sym (placed_range to sheet first second) ∙ placed);
  colon = λ a b stays_a stays_b placed. moved_colon to m a b ∙ (λ i. node.Colon (stays_a (left (is_placed to a) (is_placed to b) (sym (placed_colon to a b) ∙ placed)) i) (stays_b (right (is_placed to a) (is_placed to b) (sym (placed_colon to a b) ∙ placed)) i));
  concatenate = λ a b stays_a stays_b placed. moved_concatenate to m a b ∙ (λ i. node.Concatenate (stays_a (left (is_placed to a) (is_placed to b) (sym (placed_concatenate to a b) ∙ placed)) i) (stays_b (right (is_placed to a) (is_placed to b) (sym (placed_concatenate to a b) ∙ placed)) i));
  compare = λ kind a b stays_a stays_b placed. moved_compare to m kind a b ∙ (λ i. node.Compare kind (stays_a (left (is_placed to a) (is_placed to b) (sym (placed_compare to kind a b) ∙ placed)) i) (stays_b (right (is_placed to a) (is_placed to b) (sym (placed_compare to kind a b) ∙ placed)) i));
  sum = λ kind a b stays_a stays_b placed. moved_sum to m kind a b ∙ (λ i. node.Sum kind (stays_a (left (is_placed to a) (is_placed to b) (sym (placed_sum to kind a b) ∙ placed)) i) (stays_b (right (is_placed to a) (is_placed to b) (sym (placed_sum to kind a b) ∙ placed)) i));
  product = λ kind a b stays_a stays_b placed. moved_product to m kind a b ∙ (λ i. node.Product kind (stays_a (left (is_placed to a) (is_placed to b) (sym (placed_product to kind a b) ∙ placed)) i) (stays_b (right (is_placed to a) (is_placed to b) (sym (placed_product to kind a b) ∙ placed)) i));
  power = λ a b stays_a stays_b placed. moved_power to m a b ∙ (λ i. node.Power (stays_a (left (is_placed to a) (is_placed to b) (sym (placed_power to a b) ∙ placed)) i) (stays_b (right (is_placed to a) (is_placed to b) (sym (placed_power to a b) ∙ placed)) i));
  unary = λ kind a stays_a placed. moved_unary to m kind a ∙ (λ i. node.Unary kind (stays_a (sym (placed_unary to kind a) ∙ placed) i));
  call = λ function all stays_all placed. moved_call to m function all ∙ (λ i. node.Call function (all_stay to m all stays_all (sym (placed_call to function all) ∙ placed) i));
  named_call = λ name all stays_all placed. moved_named_call to m name all ∙ (λ i. node.NamedCall name (all_stay to m all stays_all (sym (placed_named_call to name all) ∙ placed) i));
  array = λ lines _. moved_array to m lines;
  name = λ name _. moved_name to m name;
  error = λ error _. moved_error to m error;
  parse_error = λ text _. moved_parse_error to m text;
  empty_argument = λ _. moved_empty_argument to m;
  spill = λ a stays_a placed. moved_spill to m a ∙ (λ i. node.Spill (stays_a (sym (placed_spill to a) ∙ placed) i));
  lambda = λ parameters a stays_a placed. moved_lambda to m parameters a ∙ (λ i. node.Lambda parameters (stays_a (sym (placed_lambda to parameters a) ∙ placed) i));
  lambda_call = λ a all stays_a stays_all placed. moved_lambda_call to m a all ∙ (λ i. node.LambdaCall (stays_a (left (is_placed to a) (list_all (is_placed to) all) (sym (placed_lambda_call to a all) ∙ placed)) i) (all_stay to m all stays_all (right (is_placed to a) (list_all (is_placed to) all) (sym (placed_lambda_call to a all) ∙ placed)) i));
  implicit_intersection = λ a stays_a placed. moved_implicit_intersection to m a ∙ (λ i. node.ImplicitIntersection (stays_a (sym (placed_implicit_intersection to a) ∙ placed) i));
})

-- ---- a moved tree is placed

-- the mapping brings corners inside for a formula that then stands at `to`: those that are inside for it at `from`, or always every corner
pub record Lands (always : Bool) (from to : Position) (m : Mapping) : Type 0 where
  pub reference : (sheet : Option (List ℕ)) (corner : Corner) → always || is_inside from corner ≡ true → IfSome (m.reference sheet corner) (λ c. is_inside to c ≡ true)
  pub first : (sheet : Option (List ℕ)) (first second : Corner) → always || (is_inside from first && is_inside from second) ≡ true → IfSome (m.first sheet first second) (λ c. is_inside to c ≡ true)
  pub second : (sheet : Option (List ℕ)) (first second : Corner) → always || (is_inside from first && is_inside from second) ≡ true → IfSome (m.second sheet first second) (λ c. is_inside to c ≡ true)

or_left : (always a b : Bool) → always || (a && b) ≡ true → always || a ≡ true
or_left always a b either = grind arith

or_right : (always a b : Bool) → always || (a && b) ≡ true → always || b ≡ true
or_right always a b either = grind arith

placed-reference_to : (to : Position) (sheet : Option (List ℕ)) (corner : Option Corner) → IfSome corner (λ c. is_inside to c ≡ true) → is_placed to (reference_to sheet corner) ≡ true
unfolding reference_to
placed-reference_to to sheet (Some corner) inside = placed_reference to sheet corner ∙ inside
placed-reference_to to sheet None _ = placed_error to Ref

-- a corner of the row of one that is inside and the column of another does too
crossing_inside : (to : Position) (a b : Corner) (rows columns : Bool) → is_inside to a ≡ true → is_inside to b ≡ true → is_inside to (crossing (if rows then b else a) (if columns then b else a)) ≡ true
unfolding is_inside corner_row corner_column
crossing_inside to a b true true p q = q
crossing_inside to a b true false p q = grind arith
crossing_inside to a b false true p q = grind arith
crossing_inside to a b false false p q = p

-- the corners of a range that are inside are placed once they are in order
pub ordered_placed : (to : Position) (first second : Corner) → is_inside to first && is_inside to second ≡ true → is_placed_range to (lower_corner to first second) (higher_corner to first second) ≡ true
unfolding is_placed_range lower_corner higher_corner
ordered_placed to first second inside =
    let a : is_inside to first ≡ true = left (is_inside to first) (is_inside to second) inside in
    let b : is_inside to second ≡ true = right (is_inside to first) (is_inside to second) inside in
    let rows : Bool = are_rows_reversed to first second in
    let columns : Bool = are_columns_reversed to first second in
    both _ _ (both _ _ (crossing_inside to first second rows columns a b) (crossing_inside to second first rows columns b a)) (in_order-ordered to first second)

placed_apart : (to : Position) (sheet : Option (List ℕ)) (first second : Option Corner) → IfSome first (λ c. is_inside to c ≡ true) → IfSome second (λ c. is_inside to c ≡ true)
    → is_placed to (node.Colon (reference_to sheet first) (reference_to sheet second)) ≡ true
placed_apart to sheet first second p q =
    placed_colon to (reference_to sheet first) (reference_to sheet second)
    ∙ both (is_placed to (reference_to sheet first)) (is_placed to (reference_to sheet second)) (placed-reference_to to sheet first p) (placed-reference_to to sheet second q)

placed-range_to : (to : Position) (sheet : Option (List ℕ)) (first second : Option Corner) → IfSome first (λ c. is_inside to c ≡ true) → IfSome second (λ c. is_inside to c ≡ true)
    → is_placed to (range_to to sheet first second) ≡ true
unfolding range_to
placed-range_to to sheet (Some a) (Some b) p q = placed_range to sheet (lower_corner to a b) (higher_corner to a b) ∙ ordered_placed to a b (both (is_inside to a) (is_inside to b) p q)
placed-range_to to sheet (Some a) None p q = placed_apart to sheet (Some a) None p q
placed-range_to to sheet None second p q = placed_apart to sheet None second p q

abbrev PlacedAfter : Bool → Position → Position → Mapping → Node → Type 0
PlacedAfter always from to m n = always || is_placed from n ≡ true → is_placed to (moved to m n) ≡ true

all_placed : (always : Bool) (from to : Position) (m : Mapping) (all : List Node) → AllByRecursion (PlacedAfter always from to m) all
    → always || list_all (is_placed from) all ≡ true → list_all (is_placed to) (map (moved to m) all) ≡ true
all_placed always from to m [] placed either = refl
all_placed always from to m (n ∷ all) placed either =
    both (is_placed to (moved to m n)) (list_all (is_placed to) (map (moved to m) all))
    (placed.0 (or_left always (is_placed from n) (list_all (is_placed from) all) either))
    (all_placed always from to m all placed.1 (or_right always (is_placed from n) (list_all (is_placed from) all) either))

range_lands : (always : Bool) (from to : Position) (m : Mapping) → Lands always from to m → (sheet : Option (List ℕ)) (first second : Corner) → always || is_placed_range from first second ≡ true
    → is_placed to (range_to to sheet (m.first sheet first second) (m.second sheet first second)) ≡ true
unfolding is_placed_range
range_lands always from to m lands sheet first second either =
    let inside : always || (is_inside from first && is_inside from second) ≡ true = or_left always (is_inside from first && is_inside from second) (are_in_order from first second) either in
    placed-range_to to sheet (m.first sheet first second) (m.second sheet first second) (lands.first sheet first second inside) (lands.second sheet first second inside)

-- a moved tree's corners are inside and in order
pub placed-moved : (always : Bool) (from to : Position) (m : Mapping) → Lands always from to m → (n : Node) → always || is_placed from n ≡ true → is_placed to (moved to m n) ≡ true
placed-moved always from to m lands = induct (PlacedAfter always from to m) (record {
  boolean = λ value _. ap (is_placed to) (moved_boolean to m value) ∙ placed_boolean to value;
  number = λ value _. ap (is_placed to) (moved_number to m value) ∙ placed_number to value;
  text = λ text _. ap (is_placed to) (moved_text to m text) ∙ placed_text to text;
  reference = λ sheet corner either. ap (is_placed to) (moved_reference to m sheet corner) ∙ placed-reference_to to sheet (m.reference sheet corner) (lands.reference sheet corner (ap (λ t. always || t) (sym (placed_reference from sheet corner)) ∙ either));
  range = λ sheet first second either. ap (is_placed to) (moved_range to m sheet first second) ∙ range_lands always from to m lands sheet first second (ap (λ t. always || t) (sym (placed_range from sheet first second)) ∙ either);
  colon = λ a b placed_a placed_b either. let e : always || (is_placed from a && is_placed from b) ≡ true = ap (λ t. always || t) (sym (placed_colon from a b)) ∙ either in ap (is_placed to) (moved_colon to m a b) ∙ placed_colon to (moved to m a) (moved to m b) ∙ both (is_placed to (moved to m a)) (is_placed to (moved to m b)) (placed_a (or_left always (is_placed from a) (is_placed from b) e)) (placed_b (or_right always (is_placed from a) (is_placed from b) e));
  concatenate = λ a b placed_a placed_b either. let e : always || (is_placed from a && is_placed from b) ≡ true = ap (λ t. always || t) (sym (placed_concatenate from a b)) ∙ either in ap (is_placed to) (moved_concatenate to m a b) ∙ placed_concatenate to (moved to m a) (moved to m b) ∙ both (is_placed to (moved to m a)) (is_placed to (moved to m b)) (placed_a (or_left always (is_placed from a) (is_placed from b) e)) (placed_b (or_right always (is_placed from a) (is_placed from b) e));
  compare = λ kind a b placed_a placed_b either. let e : always || (is_placed from a && is_placed from b) ≡ true = ap (λ t. always || t) (sym (placed_compare from kind a b)) ∙ either in ap (is_placed to) (moved_compare to m kind a b) ∙ placed_compare to kind (moved to m a) (moved to m b) ∙ both (is_placed to (moved to m a)) (is_placed to (moved to m b)) (placed_a (or_left always (is_placed from a) (is_placed from b) e)) (placed_b (or_right always (is_placed from a) (is_placed from b) e));
  sum = λ kind a b placed_a placed_b either. let e : always || (is_placed from a && is_placed from b) ≡ true = ap (λ t. always || t) (sym (placed_sum from kind a b)) ∙ either in ap (is_placed to) (moved_sum to m kind a b) ∙ placed_sum to kind (moved to m a) (moved to m b) ∙ both (is_placed to (moved to m a)) (is_placed to (moved to m b)) (placed_a (or_left always (is_placed from a) (is_placed from b) e)) (placed_b (or_right always (is_placed from a) (is_placed from b) e));
  product = λ kind a b placed_a placed_b either. let e : always || (is_placed from a && is_placed from b) ≡ true = ap (λ t. always || t) (sym (placed_product from kind a b)) ∙ either in ap (is_placed to) (moved_product to m kind a b) ∙ placed_product to kind (moved to m a) (moved to m b) ∙ both (is_placed to (moved to m a)) (is_placed to (moved to m b)) (placed_a (or_left always (is_placed from a) (is_placed from b) e)) (placed_b (or_right always (is_placed from a) (is_placed from b) e));
  power = λ a b placed_a placed_b either. let e : always || (is_placed from a && is_placed from b) ≡ true = ap (λ t. always || t) (sym (placed_power from a b)) ∙ either in ap (is_placed to) (moved_power to m a b) ∙ placed_power to (moved to m a) (moved to m b) ∙ both (is_placed to (moved to m a)) (is_placed to (moved to m b)) (placed_a (or_left always (is_placed from a) (is_placed from b) e)) (placed_b (or_right always (is_placed from a) (is_placed from b) e));
  unary = λ kind a placed_a either. ap (is_placed to) (moved_unary to m kind a) ∙ placed_unary to kind (moved to m a) ∙ placed_a (ap (λ t. always || t) (sym (placed_unary from kind a)) ∙ either);
  call = λ function all placed_all either. ap (is_placed to) (moved_call to m function all) ∙ placed_call to function (map (moved to m) all) ∙ all_placed always from to m all placed_all (ap (λ t. always || t) (sym (placed_call from function all)) ∙ either);
  named_call = λ name all placed_all either. ap (is_placed to) (moved_named_call to m name all) ∙ placed_named_call to name (map (moved to m) all) ∙ all_placed always from to m all placed_all (ap (λ t. always || t) (sym (placed_named_call from name all)) ∙ either);
  array = λ lines _. ap (is_placed to) (moved_array to m lines) ∙ placed_array to lines;
  name = λ name _. ap (is_placed to) (moved_name to m name) ∙ placed_name to name;
  error = λ error _. ap (is_placed to) (moved_error to m error) ∙ placed_error to error;
  parse_error = λ text _. ap (is_placed to) (moved_parse_error to m text) ∙ placed_parse_error to text;
  empty_argument = λ _. ap (is_placed to) (moved_empty_argument to m) ∙ placed_empty_argument to;
  spill = λ a placed_a either. ap (is_placed to) (moved_spill to m a) ∙ placed_spill to (moved to m a) ∙ placed_a (ap (λ t. always || t) (sym (placed_spill from a)) ∙ either);
  lambda = λ parameters a placed_a either. ap (is_placed to) (moved_lambda to m parameters a) ∙ placed_lambda to parameters (moved to m a) ∙ placed_a (ap (λ t. always || t) (sym (placed_lambda from parameters a)) ∙ either);
  lambda_call = λ a all placed_a placed_all either. let e : always || (is_placed from a && list_all (is_placed from) all) ≡ true = ap (λ t. always || t) (sym (placed_lambda_call from a all)) ∙ either in ap (is_placed to) (moved_lambda_call to m a all) ∙ placed_lambda_call to (moved to m a) (map (moved to m) all) ∙ both (is_placed to (moved to m a)) (list_all (is_placed to) (map (moved to m) all)) (placed_a (or_left always (is_placed from a) (list_all (is_placed from) all) e)) (all_placed always from to m all placed_all (or_right always (is_placed from a) (list_all (is_placed from) all) e));
  implicit_intersection = λ a placed_a either. ap (is_placed to) (moved_implicit_intersection to m a) ∙ placed_implicit_intersection to (moved to m a) ∙ placed_a (ap (λ t. always || t) (sym (placed_implicit_intersection from a)) ∙ either);
})
