-- A tree whose leaves name other things is as deep as it was, and so are its numbers and corners what they were.
use Rattle.std.specs.Prelude.{◌≡◌, ℕ, ◌+◌, max, ◌&&◌, List, [], ◌∷◌, map, Option}
use Rattle.std.proofs.Common.{refl, ap, sym, ◌∙◌}
use Rattle.std.specs.List.{AllByRecursion, list_all}
use Rattle.base_values.specs.declared.Position.{Position}
use Rattle.formula_tree.specs.declared.Node.{Node}
use Rattle.formula_tree.specs.declared.Node.TheVariants as node
use Rattle.formula_tree.specs.declared.numbers.NumberRule.{NumberRule}
use Rattle.formula_tree.specs.laws.Induction.{induct}
use Rattle.formula_tree.specs.Depth.{depth_of, greatest}
use Rattle.formula_tree.specs.laws.DepthEquations.{depth_reference, depth_range, depth_colon, depth_concatenate, depth_compare, depth_sum, depth_product}
use Rattle.formula_tree.specs.laws.DepthEquations.{depth_power, depth_unary, depth_call, depth_named_call, depth_spill, depth_lambda, depth_lambda_call}
use Rattle.formula_tree.specs.laws.DepthEquations.{depth_implicit_intersection, depth_name}
use Rattle.formula_tree.specs.Numbers.{numbers_follow}
use Rattle.formula_tree.specs.laws.NumbersEquations.{numbers_reference, numbers_range, numbers_colon, numbers_concatenate, numbers_compare, numbers_sum, numbers_product}
use Rattle.formula_tree.specs.laws.NumbersEquations.{numbers_power, numbers_unary, numbers_call, numbers_named_call, numbers_spill, numbers_lambda, numbers_lambda_call}
use Rattle.formula_tree.specs.laws.NumbersEquations.{numbers_implicit_intersection, numbers_name}
use Rattle.formula_tree.specs.Placed.{is_placed}
use Rattle.formula_tree.specs.laws.PlacedEquations.{placed_reference, placed_range, placed_colon, placed_concatenate, placed_compare, placed_sum, placed_product}
use Rattle.formula_tree.specs.laws.PlacedEquations.{placed_power, placed_unary, placed_call, placed_named_call, placed_spill, placed_lambda, placed_lambda_call}
use Rattle.formula_tree.specs.laws.PlacedEquations.{placed_implicit_intersection, placed_name}
use Rattle.formula_names.specs.Named.{Naming, named}
use Rattle.formula_names.specs.laws.NamedEquations.{named_boolean, named_number, named_text, named_reference, named_range, named_colon, named_concatenate}
use Rattle.formula_names.specs.laws.NamedEquations.{named_compare, named_sum, named_product, named_power, named_unary, named_call, named_named_call}
use Rattle.formula_names.specs.laws.NamedEquations.{named_array, named_name, named_error, named_parse_error, named_empty_argument, named_spill, named_lambda}
use Rattle.formula_names.specs.laws.NamedEquations.{named_lambda_call, named_implicit_intersection}

-- the one, and then the other
abbrev pub followed : Naming → Naming → Naming
followed f g = record { sheet = λ sheet. g.sheet (f.sheet sheet); name = λ name. g.name (f.name name) }

module _ (f : Naming) where
  same_depths : (all : List Node) → AllByRecursion (λ n. depth_of (named f n) ≡ depth_of n) all → greatest (map depth_of (map (named f) all)) ≡ greatest (map depth_of all)
  same_depths [] same = refl
  same_depths (n ∷ all) same = λ i. max (same.0 i) (same_depths all same.1 i)

  -- it is as deep as it was
  pub depth-named : (n : Node) → depth_of (named f n) ≡ depth_of n
  depth-named = induct (λ n. depth_of (named f n) ≡ depth_of n) (record {
    boolean = λ value. ap depth_of (named_boolean f value);
    number = λ value. ap depth_of (named_number f value);
    text = λ text. ap depth_of (named_text f text);
    reference = λ sheet corner. ap depth_of (named_reference f sheet corner) ∙ depth_reference (f.sheet sheet) corner ∙ sym (depth_reference sheet corner);
    range = λ sheet first second. ap depth_of (named_range f sheet first second) ∙ depth_range (f.sheet sheet) first second ∙ sym (depth_range sheet first second);
    colon = λ a b same_a same_b. ap depth_of (named_colon f a b) ∙ depth_colon (named f a) (named f b) ∙ (λ i. max (same_a i) (same_b i) + 1) ∙ sym (depth_colon a b);
    concatenate = λ a b same_a same_b. ap depth_of (named_concatenate f a b) ∙ depth_concatenate (named f a) (named f b) ∙ (λ i. max (same_a i) (same_b i) + 1) ∙ sym (depth_concatenate a b);
    compare = λ kind a b same_a same_b. ap depth_of (named_compare f kind a b) ∙ depth_compare kind (named f a) (named f b) ∙ (λ i. max (same_a i) (same_b i) + 1) ∙ sym (depth_compare kind a b);
    sum = λ kind a b same_a same_b. ap depth_of (named_sum f kind a b) ∙ depth_sum kind (named f a) (named f b) ∙ (λ i. max (same_a i) (same_b i) + 1) ∙ sym (depth_sum kind a b);
    product = λ kind a b same_a same_b. ap depth_of (named_product f kind a b) ∙ depth_product kind (named f a) (named f b) ∙ (λ i. max (same_a i) (same_b i) + 1) ∙ sym (depth_product kind a b);
    power = λ a b same_a same_b. ap depth_of (named_power f a b) ∙ depth_power (named f a) (named f b) ∙ (λ i. max (same_a i) (same_b i) + 1) ∙ sym (depth_power a b);
    unary = λ kind a same_a. ap depth_of (named_unary f kind a) ∙ depth_unary kind (named f a) ∙ (λ i. same_a i + 1) ∙ sym (depth_unary kind a);
    call = λ function all same_all. ap depth_of (named_call f function all) ∙ depth_call function (map (named f) all) ∙ (λ i. same_depths all same_all i + 1) ∙ sym (depth_call function all);
    named_call = λ name all same_all. ap depth_of (named_named_call f name all) ∙ depth_named_call name (map (named f) all) ∙ (λ i. same_depths all same_all i + 1) ∙ sym (depth_named_call name all);
    array = λ lines. ap depth_of (named_array f lines);
    name = λ name. ap depth_of (named_name f name) ∙ depth_name (f.name name) ∙ sym (depth_name name);
    error = λ error. ap depth_of (named_error f error);
    parse_error = λ text. ap depth_of (named_parse_error f text);
    empty_argument = ap depth_of (named_empty_argument f);
    spill = λ a same_a. ap depth_of (named_spill f a) ∙ depth_spill (named f a) ∙ (λ i. same_a i + 1) ∙ sym (depth_spill a);
    lambda = λ parameters a same_a. ap depth_of (named_lambda f parameters a) ∙ depth_lambda parameters (named f a) ∙ (λ i. same_a i + 1) ∙ sym (depth_lambda parameters a);
    lambda_call = λ a all same_a same_all. ap depth_of (named_lambda_call f a all) ∙ depth_lambda_call (named f a) (map (named f) all) ∙ (λ i. max (same_a i) (same_depths all same_all i) + 1) ∙ sym (depth_lambda_call a all);
    implicit_intersection = λ a same_a. ap depth_of (named_implicit_intersection f a) ∙ depth_implicit_intersection (named f a) ∙ (λ i. same_a i + 1) ∙ sym (depth_implicit_intersection a);
  })

  module _ (rule : NumberRule) where
    same_numbers : (all : List Node) → AllByRecursion (λ n. numbers_follow rule (named f n) ≡ numbers_follow rule n) all → list_all (numbers_follow rule) (map (named f) all) ≡ list_all (numbers_follow rule) all
    same_numbers [] same = refl
    same_numbers (n ∷ all) same = λ i. same.0 i && same_numbers all same.1 i

    -- its numbers follow a rule where they did
    pub numbers-named : (n : Node) → numbers_follow rule (named f n) ≡ numbers_follow rule n
    numbers-named = induct (λ n. numbers_follow rule (named f n) ≡ numbers_follow rule n) (record {
      boolean = λ value. ap (numbers_follow rule) (named_boolean f value);
      number = λ value. ap (numbers_follow rule) (named_number f value);
      text = λ text. ap (numbers_follow rule) (named_text f text);
      reference = λ sheet corner. ap (numbers_follow rule) (named_reference f sheet corner) ∙ numbers_reference rule (f.sheet sheet) corner ∙ sym (numbers_reference rule sheet corner);
      range = λ sheet first second. ap (numbers_follow rule) (named_range f sheet first second) ∙ numbers_range rule (f.sheet sheet) first second ∙ sym (numbers_range rule sheet first second);
      colon = λ a b same_a same_b. ap (numbers_follow rule) (named_colon f a b) ∙ numbers_colon rule (named f a) (named f b) ∙ (λ i. same_a i && same_b i) ∙ sym (numbers_colon rule a b);
      concatenate = λ a b same_a same_b. ap (numbers_follow rule) (named_concatenate f a b) ∙ numbers_concatenate rule (named f a) (named f b) ∙ (λ i. same_a i && same_b i) ∙ sym (numbers_concatenate rule a b);
      compare = λ kind a b same_a same_b. ap (numbers_follow rule) (named_compare f kind a b) ∙ numbers_compare rule kind (named f a) (named f b) ∙ (λ i. same_a i && same_b i) ∙ sym (numbers_compare rule kind a b);
      sum = λ kind a b same_a same_b. ap (numbers_follow rule) (named_sum f kind a b) ∙ numbers_sum rule kind (named f a) (named f b) ∙ (λ i. same_a i && same_b i) ∙ sym (numbers_sum rule kind a b);
      product = λ kind a b same_a same_b. ap (numbers_follow rule) (named_product f kind a b) ∙ numbers_product rule kind (named f a) (named f b) ∙ (λ i. same_a i && same_b i) ∙ sym (numbers_product rule kind a b);
      power = λ a b same_a same_b. ap (numbers_follow rule) (named_power f a b) ∙ numbers_power rule (named f a) (named f b) ∙ (λ i. same_a i && same_b i) ∙ sym (numbers_power rule a b);
      unary = λ kind a same_a. ap (numbers_follow rule) (named_unary f kind a) ∙ numbers_unary rule kind (named f a) ∙ same_a ∙ sym (numbers_unary rule kind a);
      call = λ function all same_all. ap (numbers_follow rule) (named_call f function all) ∙ numbers_call rule function (map (named f) all) ∙ same_numbers all same_all ∙ sym (numbers_call rule function all);
      named_call = λ name all same_all. ap (numbers_follow rule) (named_named_call f name all) ∙ numbers_named_call rule name (map (named f) all) ∙ same_numbers all same_all ∙ sym (numbers_named_call rule name all);
      array = λ lines. ap (numbers_follow rule) (named_array f lines);
      name = λ name. ap (numbers_follow rule) (named_name f name) ∙ numbers_name rule (f.name name) ∙ sym (numbers_name rule name);
      error = λ error. ap (numbers_follow rule) (named_error f error);
      parse_error = λ text. ap (numbers_follow rule) (named_parse_error f text);
      empty_argument = ap (numbers_follow rule) (named_empty_argument f);
      spill = λ a same_a. ap (numbers_follow rule) (named_spill f a) ∙ numbers_spill rule (named f a) ∙ same_a ∙ sym (numbers_spill rule a);
      lambda = λ parameters a same_a. ap (numbers_follow rule) (named_lambda f parameters a) ∙ numbers_lambda rule parameters (named f a) ∙ same_a ∙ sym (numbers_lambda rule parameters a);
      lambda_call = λ a all same_a same_all. ap (numbers_follow rule) (named_lambda_call f a all) ∙ numbers_lambda_call rule (named f a) (map (named f) all) ∙ (λ i. same_a i && same_numbers all same_all i) ∙ sym (numbers_lambda_call rule a all);
      implicit_intersection = λ a same_a. ap (numbers_follow rule) (named_implicit_intersection f a) ∙ numbers_implicit_intersection rule (named f a) ∙ same_a ∙ sym (numbers_implicit_intersection rule a);
    })

  module _ (place : Position) where
    same_places : (all : List Node) → AllByRecursion (λ n. is_placed place (named f n) ≡ is_placed place n) all → list_all (is_placed place) (map (named f) all) ≡ list_all (is_placed place) all
    same_places [] same = refl
    same_places (n ∷ all) same = λ i. same.0 i && same_places all same.1 i

    -- its corners are inside, and in order, where they did
    pub placed-named : (n : Node) → is_placed place (named f n) ≡ is_placed place n
    placed-named = induct (λ n. is_placed place (named f n) ≡ is_placed place n) (record {
      boolean = λ value. ap (is_placed place) (named_boolean f value);
      number = λ value. ap (is_placed place) (named_number f value);
      text = λ text. ap (is_placed place) (named_text f text);
      reference = λ sheet corner. ap (is_placed place) (named_reference f sheet corner) ∙ placed_reference place (f.sheet sheet) corner ∙ sym (placed_reference place sheet corner);
      range = λ sheet first second. ap (is_placed place) (named_range f sheet first second) ∙ placed_range place (f.sheet sheet) first second ∙ sym (placed_range place sheet first second);
      colon = λ a b same_a same_b. ap (is_placed place) (named_colon f a b) ∙ placed_colon place (named f a) (named f b) ∙ (λ i. same_a i && same_b i) ∙ sym (placed_colon place a b);
      concatenate = λ a b same_a same_b. ap (is_placed place) (named_concatenate f a b) ∙ placed_concatenate place (named f a) (named f b) ∙ (λ i. same_a i && same_b i) ∙ sym (placed_concatenate place a b);
      compare = λ kind a b same_a same_b. ap (is_placed place) (named_compare f kind a b) ∙ placed_compare place kind (named f a) (named f b) ∙ (λ i. same_a i && same_b i) ∙ sym (placed_compare place kind a b);
      sum = λ kind a b same_a same_b. ap (is_placed place) (named_sum f kind a b) ∙ placed_sum place kind (named f a) (named f b) ∙ (λ i. same_a i && same_b i) ∙ sym (placed_sum place kind a b);
      product = λ kind a b same_a same_b. ap (is_placed place) (named_product f kind a b) ∙ placed_product place kind (named f a) (named f b) ∙ (λ i. same_a i && same_b i) ∙ sym (placed_product place kind a b);
      power = λ a b same_a same_b. ap (is_placed place) (named_power f a b) ∙ placed_power place (named f a) (named f b) ∙ (λ i. same_a i && same_b i) ∙ sym (placed_power place a b);
      unary = λ kind a same_a. ap (is_placed place) (named_unary f kind a) ∙ placed_unary place kind (named f a) ∙ same_a ∙ sym (placed_unary place kind a);
      call = λ function all same_all. ap (is_placed place) (named_call f function all) ∙ placed_call place function (map (named f) all) ∙ same_places all same_all ∙ sym (placed_call place function all);
      named_call = λ name all same_all. ap (is_placed place) (named_named_call f name all) ∙ placed_named_call place name (map (named f) all) ∙ same_places all same_all ∙ sym (placed_named_call place name all);
      array = λ lines. ap (is_placed place) (named_array f lines);
      name = λ name. ap (is_placed place) (named_name f name) ∙ placed_name place (f.name name) ∙ sym (placed_name place name);
      error = λ error. ap (is_placed place) (named_error f error);
      parse_error = λ text. ap (is_placed place) (named_parse_error f text);
      empty_argument = ap (is_placed place) (named_empty_argument f);
      spill = λ a same_a. ap (is_placed place) (named_spill f a) ∙ placed_spill place (named f a) ∙ same_a ∙ sym (placed_spill place a);
      lambda = λ parameters a same_a. ap (is_placed place) (named_lambda f parameters a) ∙ placed_lambda place parameters (named f a) ∙ same_a ∙ sym (placed_lambda place parameters a);
      lambda_call = λ a all same_a same_all. ap (is_placed place) (named_lambda_call f a all) ∙ placed_lambda_call place (named f a) (map (named f) all) ∙ (λ i. same_a i && same_places all same_all i) ∙ sym (placed_lambda_call place a all);
      implicit_intersection = λ a same_a. ap (is_placed place) (named_implicit_intersection f a) ∙ placed_implicit_intersection place (named f a) ∙ same_a ∙ sym (placed_implicit_intersection place a);
    })

-- to name things anew twice is to do it once by both
module _ (f g : Naming) where
  all_at_once : (all : List Node) → AllByRecursion (λ n. named g (named f n) ≡ named (followed f g) n) all → map (named g) (map (named f) all) ≡ map (named (followed f g)) all
  all_at_once [] same = refl
  all_at_once (n ∷ all) same = λ i. same.0 i ∷ all_at_once all same.1 i

  pub named-named : (n : Node) → named g (named f n) ≡ named (followed f g) n
  named-named = induct (λ n. named g (named f n) ≡ named (followed f g) n) (record {
    boolean = λ value. ap (named g) (named_boolean f value) ∙ named_boolean g value ∙ sym (named_boolean (followed f g) value);
    number = λ value. ap (named g) (named_number f value) ∙ named_number g value ∙ sym (named_number (followed f g) value);
    text = λ text. ap (named g) (named_text f text) ∙ named_text g text ∙ sym (named_text (followed f g) text);
    reference = λ sheet corner. ap (named g) (named_reference f sheet corner) ∙ named_reference g (f.sheet sheet) corner ∙ sym (named_reference (followed f g) sheet corner);
    range = λ sheet first second. ap (named g) (named_range f sheet first second) ∙ named_range g (f.sheet sheet) first second ∙ sym (named_range (followed f g) sheet first second);
    colon = λ a b same_a same_b. ap (named g) (named_colon f a b) ∙ named_colon g (named f a) (named f b) ∙ (λ i. node.Colon (same_a i) (same_b i)) ∙ sym (named_colon (followed f g) a b);
    concatenate = λ a b same_a same_b. ap (named g) (named_concatenate f a b) ∙ named_concatenate g (named f a) (named f b) ∙ (λ i. node.Concatenate (same_a i) (same_b i)) ∙ sym (named_concatenate (followed f g) a b);
    compare = λ kind a b same_a same_b. ap (named g) (named_compare f kind a b) ∙ named_compare g kind (named f a) (named f b) ∙ (λ i. node.Compare kind (same_a i) (same_b i)) ∙ sym (named_compare (followed f g) kind a b);
    sum = λ kind a b same_a same_b. ap (named g) (named_sum f kind a b) ∙ named_sum g kind (named f a) (named f b) ∙ (λ i. node.Sum kind (same_a i) (same_b i)) ∙ sym (named_sum (followed f g) kind a b);
    product = λ kind a b same_a same_b. ap (named g) (named_product f kind a b) ∙ named_product g kind (named f a) (named f b) ∙ (λ i. node.Product kind (same_a i) (same_b i)) ∙ sym (named_product (followed f g) kind a b);
    power = λ a b same_a same_b. ap (named g) (named_power f a b) ∙ named_power g (named f a) (named f b) ∙ (λ i. node.Power (same_a i) (same_b i)) ∙ sym (named_power (followed f g) a b);
    unary = λ kind a same_a. ap (named g) (named_unary f kind a) ∙ named_unary g kind (named f a) ∙ (λ i. node.Unary kind (same_a i)) ∙ sym (named_unary (followed f g) kind a);
    call = λ function all same_all. ap (named g) (named_call f function all) ∙ named_call g function (map (named f) all) ∙ (λ i. node.Call function (all_at_once all same_all i)) ∙ sym (named_call (followed f g) function all);
    named_call = λ name all same_all. ap (named g) (named_named_call f name all) ∙ named_named_call g name (map (named f) all) ∙ (λ i. node.NamedCall name (all_at_once all same_all i)) ∙ sym (named_named_call (followed f g) name all);
    array = λ lines. ap (named g) (named_array f lines) ∙ named_array g lines ∙ sym (named_array (followed f g) lines);
    name = λ name. ap (named g) (named_name f name) ∙ named_name g (f.name name) ∙ sym (named_name (followed f g) name);
    error = λ error. ap (named g) (named_error f error) ∙ named_error g error ∙ sym (named_error (followed f g) error);
    parse_error = λ text. ap (named g) (named_parse_error f text) ∙ named_parse_error g text ∙ sym (named_parse_error (followed f g) text);
    empty_argument = ap (named g) (named_empty_argument f) ∙ named_empty_argument g ∙ sym (named_empty_argument (followed f g));
    spill = λ a same_a. ap (named g) (named_spill f a) ∙ named_spill g (named f a) ∙ (λ i. node.Spill (same_a i)) ∙ sym (named_spill (followed f g) a);
    lambda = λ parameters a same_a. ap (named g) (named_lambda f parameters a) ∙ named_lambda g parameters (named f a) ∙ (λ i. node.Lambda parameters (same_a i)) ∙ sym (named_lambda (followed f g) parameters a);
    lambda_call = λ a all same_a same_all. ap (named g) (named_lambda_call f a all) ∙ named_lambda_call g (named f a) (map (named f) all) ∙ (λ i. node.LambdaCall (same_a i) (all_at_once all same_all i)) ∙ sym (named_lambda_call (followed f g) a all);
    implicit_intersection = λ a same_a. ap (named g) (named_implicit_intersection f a) ∙ named_implicit_intersection g (named f a) ∙ (λ i. node.ImplicitIntersection (same_a i)) ∙ sym (named_implicit_intersection (followed f g) a);
  })

-- a tree stays where everything that its leaves name does
module _ (f : Naming) (sheets : (sheet : Option (List ℕ)) → f.sheet sheet ≡ sheet) (names : (name : List ℕ) → f.name name ≡ name) where
  all_stay : (all : List Node) → AllByRecursion (λ n. named f n ≡ n) all → map (named f) all ≡ all
  all_stay [] same = refl
  all_stay (n ∷ all) same = λ i. same.0 i ∷ all_stay all same.1 i

  pub named-stays : (n : Node) → named f n ≡ n
  named-stays = induct (λ n. named f n ≡ n) (record {
    boolean = λ value. named_boolean f value;
    number = λ value. named_number f value;
    text = λ text. named_text f text;
    reference = λ sheet corner. named_reference f sheet corner ∙ ap (λ s. node.Reference s corner) (sheets sheet);
    range = λ sheet first second. named_range f sheet first second ∙ ap (λ s. node.Range s first second) (sheets sheet);
    colon = λ a b same_a same_b. named_colon f a b ∙ (λ i. node.Colon (same_a i) (same_b i));
    concatenate = λ a b same_a same_b. named_concatenate f a b ∙ (λ i. node.Concatenate (same_a i) (same_b i));
    compare = λ kind a b same_a same_b. named_compare f kind a b ∙ (λ i. node.Compare kind (same_a i) (same_b i));
    sum = λ kind a b same_a same_b. named_sum f kind a b ∙ (λ i. node.Sum kind (same_a i) (same_b i));
    product = λ kind a b same_a same_b. named_product f kind a b ∙ (λ i. node.Product kind (same_a i) (same_b i));
    power = λ a b same_a same_b. named_power f a b ∙ (λ i. node.Power (same_a i) (same_b i));
    unary = λ kind a same_a. named_unary f kind a ∙ ap (node.Unary kind) same_a;
    call = λ function all same_all. named_call f function all ∙ ap (node.Call function) (all_stay all same_all);
    named_call = λ name all same_all. named_named_call f name all ∙ ap (node.NamedCall name) (all_stay all same_all);
    array = λ lines. named_array f lines;
    name = λ name. named_name f name ∙ ap node.Name (names name);
    error = λ error. named_error f error;
    parse_error = λ text. named_parse_error f text;
    empty_argument = named_empty_argument f;
    spill = λ a same_a. named_spill f a ∙ ap node.Spill same_a;
    lambda = λ parameters a same_a. named_lambda f parameters a ∙ ap (node.Lambda parameters) same_a;
    lambda_call = λ a all same_a same_all. named_lambda_call f a all ∙ (λ i. node.LambdaCall (same_a i) (all_stay all same_all i));
    implicit_intersection = λ a same_a. named_implicit_intersection f a ∙ ap node.ImplicitIntersection same_a;
  })
