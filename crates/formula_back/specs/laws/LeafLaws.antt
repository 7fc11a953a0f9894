-- A test of leaves tells whether moving a tree's corners there and back gives the tree, if it tells that of each leaf.
use Rattle.std.specs.Prelude.{◌≡◌, ℕ, Bool, true, false, not, ◌&&◌, ◌||◌, List, [], ◌∷◌, map, Option}
use Rattle.std.proofs.Common.{refl, ap, sym, ◌∙◌, arith}
use Rattle.std.specs.Bool.{Decides}
use Rattle.std.specs.List.{AllByRecursion, list_all, list_any}
use Rattle.std.proofs.lemmas.Bool.Decides.{Decides-at, Decides-like, Decides-and}
use Rattle.base_values.specs.declared.Position.{Position}
use Rattle.base_tables.specs.declared.Function.{Function}
use Rattle.formula_tree.specs.declared.Corner.{Corner}
use Rattle.formula_tree.specs.declared.CompareKind.{CompareKind}
use Rattle.formula_tree.specs.declared.ProductKind.{ProductKind}
use Rattle.formula_tree.specs.declared.SumKind.{SumKind}
use Rattle.formula_tree.specs.declared.UnaryKind.{UnaryKind}
use Rattle.formula_tree.specs.declared.Parameter.{Parameter}
use Rattle.formula_tree.specs.declared.Node.{Node}
use Rattle.formula_tree.specs.declared.Node.TheVariants as node
use Rattle.formula_tree.specs.declared.Node.TheOpen.{Node-F}
use Rattle.formula_tree.specs.declared.Node.TheViews.{roll-Node, out-Node, out-roll-Node}
use Rattle.formula_tree.specs.Corners.{is_inside}
use Rattle.formula_tree.specs.Moved.{Mapping, moved, reference_to, range_to}
use Rattle.formula_tree.specs.Placed.{is_placed, is_placed_range}
use Rattle.formula_tree.specs.laws.Induction.{induct}
use Rattle.formula_tree.specs.laws.MovedEquations.{moved_boolean, moved_number, moved_text, moved_reference, moved_range, moved_colon}
use Rattle.formula_tree.specs.laws.MovedEquations.{moved_concatenate, moved_compare, moved_sum, moved_product, moved_power, moved_unary, moved_call}
use Rattle.formula_tree.specs.laws.MovedEquations.{moved_named_call, moved_array, moved_name, moved_error, moved_parse_error, moved_empty_argument}
use Rattle.formula_tree.specs.laws.MovedEquations.{moved_spill, moved_lambda, moved_lambda_call, moved_implicit_intersection}
use Rattle.formula_tree.specs.laws.PlacedEquations.{placed_reference, placed_range, placed_colon, placed_concatenate, placed_compare, placed_sum}
use Rattle.formula_tree.specs.laws.PlacedEquations.{placed_product, placed_power, placed_unary, placed_call, placed_named_call, placed_spill}
use Rattle.formula_tree.specs.laws.PlacedEquations.{placed_lambda, placed_lambda_call, placed_implicit_intersection}
use Rattle.formula_back.specs.Leaves.{LeafTests, has_leaf}
use Rattle.formula_back.specs.laws.LeafEquations.{leaf_boolean, leaf_number, leaf_text, leaf_reference, leaf_range, leaf_colon, leaf_concatenate}
use Rattle.formula_back.specs.laws.LeafEquations.{leaf_compare, leaf_sum, leaf_product, leaf_power, leaf_unary, leaf_call, leaf_named_call}
use Rattle.formula_back.specs.laws.LeafEquations.{leaf_array, leaf_name, leaf_error, leaf_parse_error, leaf_empty_argument, leaf_spill, leaf_lambda}
use Rattle.formula_back.specs.laws.LeafEquations.{leaf_lambda_call, leaf_implicit_intersection}

left : (a b : Bool) → a && b ≡ true → a ≡ true
left a b both = grind arith

right : (a b : Bool) → a && b ≡ true → b ≡ true
right a b both = grind arith

neither : (a b : Bool) → not (a || b) ≡ not a && not b
neither true b = refl
neither false b = refl

-- ---- equal trees have equal children

-- equal trees have equal layers
pub same_layers : (x y : Node-F Node) (m n : Node) → roll-Node x ≡ m → roll-Node y ≡ n → m ≡ n → x ≡ y
same_layers x y m n p q e = sym (out-roll-Node x) ∙ ap out-Node (p ∙ e ∙ sym q) ∙ out-roll-Node y

pub same_colon : (a b c d : Node) → node.Colon a b ≡ node.Colon c d → (a ≡ c) × (b ≡ d)
same_colon a b c d e = let same = same_layers (Node-F.Colon a b) (Node-F.Colon c d) _ _ (node.rolls-Colon a b) (node.rolls-Colon c d) e in (cc, cc)

pub same_concatenate : (a b c d : Node) → node.Concatenate a b ≡ node.Concatenate c d → (a ≡ c) × (b ≡ d)
same_concatenate a b c d e = let same = same_layers (Node-F.Concatenate a b) (Node-F.Concatenate c d) _ _ (node.rolls-Concatenate a b)
    (node.rolls-Concatenate c d) e in (cc, cc)

pub same_compare : (kind : CompareKind) (a b c d : Node) → node.Compare kind a b ≡ node.Compare kind c d → (a ≡ c) × (b ≡ d)
same_compare kind a b c d e = let same = same_layers (Node-F.Compare kind a b) (Node-F.Compare kind c d) _ _ (node.rolls-Compare kind a b)
    (node.rolls-Compare kind c d) e in (cc, cc)

pub same_sum : (kind : SumKind) (a b c d : Node) → node.Sum kind a b ≡ node.Sum kind c d → (a ≡ c) × (b ≡ d)
same_sum kind a b c d e = let same = same_layers (Node-F.Sum kind a b) (Node-F.Sum kind c d) _ _ (node.rolls-Sum kind a b) (node.rolls-Sum kind c d) e in
    (cc, cc)

pub same_product : (kind : ProductKind) (a b c d : Node) → node.Product kind a b ≡ node.Product kind c d → (a ≡ c) × (b ≡ d)
same_product kind a b c d e = let same = same_layers (Node-F.Product kind a b) (Node-F.Product kind c d) _ _ (node.rolls-Product kind a b)
    (node.rolls-Product kind c d) e in (cc, cc)

pub same_power : (a b c d : Node) → node.Power a b ≡ node.Power c d → (a ≡ c) × (b ≡ d)
same_power a b c d e = let same = same_layers (Node-F.Power a b) (Node-F.Power c d) _ _ (node.rolls-Power a b) (node.rolls-Power c d) e in (cc, cc)

pub same_unary : (kind : UnaryKind) (a c : Node) → node.Unary kind a ≡ node.Unary kind c → a ≡ c
same_unary kind a c e = let same = same_layers (Node-F.Unary kind a) (Node-F.Unary kind c) _ _ (node.rolls-Unary kind a) (node.rolls-Unary kind c) e in cc

pub same_spill : (a c : Node) → node.Spill a ≡ node.Spill c → a ≡ c
same_spill a c e = let same = same_layers (Node-F.Spill a) (Node-F.Spill c) _ _ (node.rolls-Spill a) (node.rolls-Spill c) e in cc

pub same_lambda : (parameters : List Parameter) (a c : Node) → node.Lambda parameters a ≡ node.Lambda parameters c → a ≡ c
same_lambda parameters a c e = let same = same_layers (Node-F.Lambda parameters a) (Node-F.Lambda parameters c) _ _ (node.rolls-Lambda parameters a)
    (node.rolls-Lambda parameters c) e in cc

pub same_implicit_intersection : (a c : Node) → node.ImplicitIntersection a ≡ node.ImplicitIntersection c → a ≡ c
same_implicit_intersection a c e = let same = same_layers (Node-F.ImplicitIntersection a) (Node-F.ImplicitIntersection c) _ _
    (node.rolls-ImplicitIntersection a) (node.rolls-ImplicitIntersection c) e in cc

pub same_call : (function : Function) (a c : List Node) → node.Call function a ≡ node.Call function c → a ≡ c
same_call function a c e = let same = same_layers (Node-F.Call function a) (Node-F.Call function c) _ _ (node.rolls-Call function a)
    (node.rolls-Call function c) e in cc

pub same_named_call : (name : List ℕ) (a c : List Node) → node.NamedCall name a ≡ node.NamedCall name c → a ≡ c
same_named_call name a c e = let same = same_layers (Node-F.NamedCall name a) (Node-F.NamedCall name c) _ _ (node.rolls-NamedCall name a)
    (node.rolls-NamedCall name c) e in cc

pub same_lambda_call : (a c : Node) (b d : List Node) → node.LambdaCall a b ≡ node.LambdaCall c d → (a ≡ c) × (b ≡ d)
same_lambda_call a c b d e = let same = same_layers (Node-F.LambdaCall a b) (Node-F.LambdaCall c d) _ _ (node.rolls-LambdaCall a b)
    (node.rolls-LambdaCall c d) e in (cc, cc)

pub same_heads : (x y : Node) (xs ys : List Node) → x ∷ xs ≡ y ∷ ys → (x ≡ y) × (xs ≡ ys)
same_heads x y xs ys e = (cc, cc)

-- ---- there and back

-- of each leaf whose corners are inside, and in order, a test tells whether moving there and back gives another tree; no name passes
pub record TellsLeaves (from to : Position) (there home : Mapping) (t : LeafTests) : Type 0 where
  pub reference : (sheet : Option (List ℕ)) (corner : Corner) → is_inside from corner ≡ true →
      Decides (not (t.reference sheet corner)) (moved from home (reference_to sheet (there.reference sheet corner)) ≡ node.Reference sheet corner)
  pub range : (sheet : Option (List ℕ)) (first second : Corner) → is_placed_range from first second ≡ true →
      Decides (not (t.range sheet first second)) (moved from home (range_to to sheet (there.first sheet first second) (there.second sheet first second))
      ≡ node.Range sheet first second)
  pub no_name : (name : List ℕ) → t.name name ≡ false

module _ (from to : Position) (there home : Mapping) (t : LeafTests) where
  abbrev pub returned : Node → Node
  returned n = moved from home (moved to there n)

  abbrev pub Told : Node → Type 0
  Told n = is_placed from n ≡ true → Decides (not (has_leaf t n)) (returned n ≡ n)

  constant : (n : Node) → ((p : Position) (m : Mapping) → moved p m n ≡ n) → has_leaf t n ≡ false → Told n
  constant n stays leaf h = (λ _. ap (moved from home) (stays to there) ∙ stays from home, λ _. ap not leaf)

  one_told : (f : Node → Node) → ((a c : Node) → f a ≡ f c → a ≡ c) → ((p : Position) (m : Mapping) (a : Node) → moved p m (f a) ≡ f (moved p m a)) →
      ((a : Node) → has_leaf t (f a) ≡ has_leaf t a) → ((a : Node) → is_placed from (f a) ≡ is_placed from a) → (a : Node) → Told a → Told (f a)
  one_told f same goes leaf placed a told h =
      let e : returned (f a) ≡ f (returned a) = ap (moved from home) (goes to there a) ∙ goes from home (moved to there a) in
      Decides-at (not (has_leaf t (f a))) (not (has_leaf t a)) (ap not (leaf a))
      (Decides-like (not (has_leaf t a)) (λ s. e ∙ ap f s) (λ s. same (returned a) a (sym e ∙ s)) (told (sym (placed a) ∙ h)))

  two_told : (f : Node → Node → Node) → ((a b c d : Node) → f a b ≡ f c d → (a ≡ c) × (b ≡ d)) →
      ((p : Position) (m : Mapping) (a b : Node) → moved p m (f a b) ≡ f (moved p m a) (moved p m b)) →
      ((a b : Node) → has_leaf t (f a b) ≡ has_leaf t a || has_leaf t b) → ((a b : Node) → is_placed from (f a b) ≡ is_placed from a && is_placed from b) →
      (a b : Node) → Told a → Told b → Told (f a b)
  two_told f same goes leaf placed a b told_a told_b h =
      let both : is_placed from a && is_placed from b ≡ true = sym (placed a b) ∙ h in
      let e : returned (f a b) ≡ f (returned a) (returned b) = ap (moved from home) (goes to there a b)
      ∙ goes from home (moved to there a) (moved to there b) in
      Decides-at (not (has_leaf t (f a b))) (not (has_leaf t a) && not (has_leaf t b)) (ap not (leaf a b) ∙ neither (has_leaf t a) (has_leaf t b))
      (Decides-like (not (has_leaf t a) && not (has_leaf t b)) (λ s. e ∙ (λ i. f (s.0 i) (s.1 i))) (λ s. same (returned a) (returned b) a b (sym e ∙ s))
      (Decides-and (not (has_leaf t a)) (not (has_leaf t b)) (told_a (left (is_placed from a) (is_placed from b) both))
      (told_b (right (is_placed from a) (is_placed from b) both))))

  abbrev all_returned : List Node → List Node
  all_returned all = map (moved from home) (map (moved to there) all)

  abbrev AllTold : List Node → Type 0
  AllTold all = list_all (is_placed from) all ≡ true → Decides (not (list_any (has_leaf t) all)) (all_returned all ≡ all)

  all_told : (all : List Node) → AllByRecursion Told all → AllTold all
  all_told [] told h = (λ _. refl, λ _. refl)
  all_told (n ∷ all) told h =
      Decides-at (not (has_leaf t n || list_any (has_leaf t) all)) (not (has_leaf t n) && not (list_any (has_leaf t) all))
      (neither (has_leaf t n) (list_any (has_leaf t) all))
      (Decides-like (not (has_leaf t n) && not (list_any (has_leaf t) all)) (λ s i. s.0 i ∷ s.1 i) (λ s. same_heads (returned n) n (all_returned all) all s)
      (Decides-and (not (has_leaf t n)) (not (list_any (has_leaf t) all)) (told.0 (left (is_placed from n) (list_all (is_placed from) all) h))
      (all_told all told.1 (right (is_placed from n) (list_all (is_placed from) all) h))))

  many_told : (f : List Node → Node) → ((a c : List Node) → f a ≡ f c → a ≡ c) →
      ((p : Position) (m : Mapping) (all : List Node) → moved p m (f all) ≡ f (map (moved p m) all)) →
      ((all : List Node) → has_leaf t (f all) ≡ list_any (has_leaf t) all) → ((all : List Node) → is_placed from (f all) ≡ list_all (is_placed from) all) →
      (all : List Node) → AllByRecursion Told all → Told (f all)
  many_told f same goes leaf placed all told h =
      let e : returned (f all) ≡ f (all_returned all) = ap (moved from home) (goes to there all) ∙ goes from home (map (moved to there) all) in
      Decides-at (not (has_leaf t (f all))) (not (list_any (has_leaf t) all)) (ap not (leaf all))
      (Decides-like (not (list_any (has_leaf t) all)) (λ s. e ∙ ap f s) (λ s. same (all_returned all) all (sym e ∙ s))
      (all_told all told (sym (placed all) ∙ h)))

  call_told : (a : Node) (all : List Node) → Told a → AllByRecursion Told all → Told (node.LambdaCall a all)
  call_told a all told_a told h =
      let both : is_placed from a && list_all (is_placed from) all ≡ true = sym (placed_lambda_call from a all) ∙ h in
      let e : returned (node.LambdaCall a all) ≡ node.LambdaCall (returned a) (all_returned all) = ap (moved from home) (moved_lambda_call to there a all)
      ∙ moved_lambda_call from home (moved to there a) (map (moved to there) all) in
      Decides-at (not (has_leaf t (node.LambdaCall a all))) (not (has_leaf t a) && not (list_any (has_leaf t) all))
      (ap not (leaf_lambda_call t a all) ∙ neither (has_leaf t a) (list_any (has_leaf t) all))
      (Decides-like (not (has_leaf t a) && not (list_any (has_leaf t) all)) (λ s. e ∙ (λ i. node.LambdaCall (s.0 i) (s.1 i)))
      (λ s. same_lambda_call (returned a) a (all_returned all) all (sym e ∙ s))
      (Decides-and (not (has_leaf t a)) (not (list_any (has_leaf t) all)) (told_a (left (is_placed from a) (list_all (is_placed from) all) both))
      (all_told all told (right (is_placed from a) (list_all (is_placed from) all) both))))

  leaf_told : (n m : Node) (leaf placed : Bool) → moved to there n ≡ m → has_leaf t n ≡ leaf → is_placed from n ≡ placed →
      (placed ≡ true → Decides (not leaf) (moved from home m ≡ n)) → Told n
  leaf_told n m leaf placed goes is_leaf is told h =
      let e = ap (moved from home) goes in
      Decides-at (not (has_leaf t n)) (not leaf) (ap not is_leaf) (Decides-like (not leaf) (λ s. e ∙ s) (λ s. sym e ∙ s) (told (sym is ∙ h)))

  -- the law of leaves: where a test tells it of each leaf, it tells of a tree whose corners are inside and in order whether moving there
  -- and back gives the tree
  pub tells_trees : TellsLeaves from to there home t → (n : Node) → Told n
  tells_trees tells = induct Told (record {
    boolean = λ value. constant (node.Boolean value) (λ p m. moved_boolean p m value) (leaf_boolean t value);
    number = λ value. constant (node.Number value) (λ p m. moved_number p m value) (leaf_number t value);
    text = λ text. constant (node.Text text) (λ p m. moved_text p m text) (leaf_text t text);
    reference = λ sheet corner. leaf_told _ _ _ _ (moved_reference to there sheet corner) (leaf_reference t sheet corner) (placed_reference from sheet corner)
        (tells.reference sheet corner);
    range = λ sheet first second. leaf_told _ _ _ _ (moved_range to there sheet first second) (leaf_range t sheet first second)
        (placed_range from sheet first second) (tells.range sheet first second);
    colon = λ a b told_a told_b. two_told node.Colon same_colon (λ p m. moved_colon p m) (leaf_colon t) (placed_colon from) a b told_a told_b;
    concatenate = λ a b told_a told_b. two_told node.Concatenate same_concatenate (λ p m. moved_concatenate p m) (leaf_concatenate t)
        (placed_concatenate from) a b told_a told_b;
    compare = λ kind a b told_a told_b. two_told (node.Compare kind) (same_compare kind) (λ p m. moved_compare p m kind) (leaf_compare t kind)
        (placed_compare from kind) a b told_a told_b;
    sum = λ kind a b told_a told_b. two_told (node.Sum kind) (same_sum kind) (λ p m. moved_sum p m kind) (leaf_sum t kind)
        (placed_sum from kind) a b told_a told_b;
    product = λ kind a b told_a told_b. two_told (node.Product kind) (same_product kind) (λ p m. moved_product p m kind) (leaf_product t kind)
        (placed_product from kind) a b told_a told_b;
    power = λ a b told_a told_b. two_told node.Power same_power (λ p m. moved_power p m) (leaf_power t) (placed_power from) a b told_a told_b;
    unary = λ kind a told. one_told (node.Unary kind) (same_unary kind) (λ p m. moved_unary p m kind) (leaf_unary t kind) (placed_unary from kind) a told;
    call = λ function all told. many_told (node.Call function) (same_call function) (λ p m. moved_call p m function) (leaf_call t function)
        (placed_call from function) all told;
    named_call = λ name all told. many_told (node.NamedCall name) (same_named_call name) (λ p m. moved_named_call p m name) (leaf_named_call t name)
        (placed_named_call from name) all told;
    array = λ lines. constant (node.Array lines) (λ p m. moved_array p m lines) (leaf_array t lines);
    name = λ name. constant (node.Name name) (λ p m. moved_name p m name) (leaf_name t name ∙ tells.no_name name);
    error = λ error. constant (node.Error error) (λ p m. moved_error p m error) (leaf_error t error);
    parse_error = λ text. constant (node.ParseError text) (λ p m. moved_parse_error p m text) (leaf_parse_error t text);
    empty_argument = constant node.EmptyArgument (λ p m. moved_empty_argument p m) (leaf_empty_argument t);
    spill = λ a told. one_told node.Spill same_spill (λ p m. moved_spill p m) (leaf_spill t) (placed_spill from) a told;
    lambda = λ parameters a told. one_told (node.Lambda parameters) (same_lambda parameters) (λ p m. moved_lambda p m parameters) (leaf_lambda t parameters)
        (placed_lambda from parameters) a told;
    lambda_call = call_told;
    implicit_intersection = λ a told. one_told node.ImplicitIntersection same_implicit_intersection (λ p m. moved_implicit_intersection p m)
        (leaf_implicit_intersection t) (placed_implicit_intersection from) a told;
  })
