-- A test of what leaves name tells of a tree whether naming things anew changes it, if it tells that of each sheet and each name.
use Rattle.std.specs.Prelude.{◌≡◌, ℕ, Bool, true, false, not, ◌&&◌, ◌||◌, List, [], ◌∷◌, map, Option}
use Rattle.std.proofs.Common.{refl, ap, sym, ◌∙◌}
use Rattle.std.specs.Bool.{Decides}
use Rattle.std.specs.List.{AllByRecursion, list_any}
use Rattle.std.proofs.lemmas.Bool.Decides.{Decides-at, Decides-like, Decides-and}
use Rattle.formula_tree.specs.declared.Corner.{Corner}
use Rattle.formula_tree.specs.declared.Node.{Node}
use Rattle.formula_tree.specs.declared.Node.TheVariants as node
use Rattle.formula_tree.specs.declared.Node.TheOpen.{Node-F}
use Rattle.formula_tree.specs.laws.Induction.{induct}
use Rattle.formula_back.specs.laws.LeafEquations.{leaf_boolean, leaf_number, leaf_text, leaf_reference, leaf_range, leaf_colon, leaf_concatenate}
use Rattle.formula_back.specs.laws.LeafEquations.{leaf_compare, leaf_sum, leaf_product, leaf_power, leaf_unary, leaf_call, leaf_named_call}
use Rattle.formula_back.specs.laws.LeafEquations.{leaf_array, leaf_name, leaf_error, leaf_parse_error, leaf_empty_argument, leaf_spill, leaf_lambda}
use Rattle.formula_back.specs.laws.LeafEquations.{leaf_lambda_call, leaf_implicit_intersection}
use Rattle.formula_back.specs.laws.LeafLaws.{same_layers}
use Rattle.formula_back.specs.laws.LeafLaws.{same_colon, same_concatenate, same_compare, same_sum, same_product, same_power, same_unary}
use Rattle.formula_back.specs.laws.LeafLaws.{same_call, same_named_call, same_spill, same_lambda, same_lambda_call, same_implicit_intersection, same_heads}
use Rattle.formula_names.specs.Named.{Naming, named}
use Rattle.formula_back.specs.Leaves.{LeafTests, has_leaf}
use Rattle.formula_names.specs.laws.NamedEquations.{named_boolean, named_number, named_text, named_reference, named_range, named_colon, named_concatenate}
use Rattle.formula_names.specs.laws.NamedEquations.{named_compare, named_sum, named_product, named_power, named_unary, named_call, named_named_call}
use Rattle.formula_names.specs.laws.NamedEquations.{named_array, named_name, named_error, named_parse_error, named_empty_argument, named_spill, named_lambda}
use Rattle.formula_names.specs.laws.NamedEquations.{named_lambda_call, named_implicit_intersection}

neither : (a b : Bool) → not (a || b) ≡ not a && not b
neither true b = refl
neither false b = refl

same_reference : (s u : Option (List ℕ)) (corner : Corner) → node.Reference s corner ≡ node.Reference u corner → s ≡ u
same_reference s u corner e = let same = same_layers (Node-F.Reference s corner) (Node-F.Reference u corner) _ _ (node.rolls-Reference s corner) (node.rolls-Reference u corner) e in cc

same_range : (s u : Option (List ℕ)) (first second : Corner) → node.Range s first second ≡ node.Range u first second → s ≡ u
same_range s u first second e = let same = same_layers (Node-F.Range s first second) (Node-F.Range u first second) _ _ (node.rolls-Range s first second) (node.rolls-Range u first second) e in cc

same_name : (s u : List ℕ) → node.Name s ≡ node.Name u → s ≡ u
same_name s u e = let same = same_layers (Node-F.Name s) (Node-F.Name u) _ _ (node.rolls-Name s) (node.rolls-Name u) e in cc

module _ (h : Naming) (t : LeafTests) where
  abbrev pub Told : Node → Type 0
  Told n = Decides (not (has_leaf t n)) (named h n ≡ n)

  constant : (n : Node) → named h n ≡ n → has_leaf t n ≡ false → Told n
  constant n stays leaf = (λ _. stays, λ _. ap not leaf)

  leaf_told : {X : Type 0} (f : X → Node) → ((s u : X) → f s ≡ f u → s ≡ u) → (g : X → X) (test : X → Bool) → ((s : X) → named h (f s) ≡ f (g s)) → ((s : X) → has_leaf t (f s) ≡ test s) →
      (x : X) → Decides (not (test x)) (g x ≡ x) → Told (f x)
  leaf_told f same g test goes leaf x told =
      Decides-at (not (has_leaf t (f x))) (not (test x)) (ap not (leaf x))
      (Decides-like (not (test x)) (λ s. goes x ∙ ap f s) (λ s. same (g x) x (sym (goes x) ∙ s)) told)

  one_told : (f : Node → Node) → ((a c : Node) → f a ≡ f c → a ≡ c) → ((a : Node) → named h (f a) ≡ f (named h a)) → ((a : Node) → has_leaf t (f a) ≡ has_leaf t a) →
      (a : Node) → Told a → Told (f a)
  one_told f same goes leaf a told =
      Decides-at (not (has_leaf t (f a))) (not (has_leaf t a)) (ap not (leaf a))
      (Decides-like (not (has_leaf t a)) (λ s. goes a ∙ ap f s) (λ s. same (named h a) a (sym (goes a) ∙ s)) told)

  two_told : (f : Node → Node → Node) → ((a b c d : Node) → f a b ≡ f c d → (a ≡ c) × (b ≡ d)) → ((a b : Node) → named h (f a b) ≡ f (named h a) (named h b)) →
      ((a b : Node) → has_leaf t (f a b) ≡ has_leaf t a || has_leaf t b) → (a b : Node) → Told a → Told b → Told (f a b)
  two_told f same goes leaf a b told_a told_b =
      Decides-at (not (has_leaf t (f a b))) (not (has_leaf t a) && not (has_leaf t b)) (ap not (leaf a b) ∙ neither (has_leaf t a) (has_leaf t b))
      (Decides-like (not (has_leaf t a) && not (has_leaf t b)) (λ s. goes a b ∙ (λ i. f (s.0 i) (s.1 i))) (λ s. same (named h a) (named h b) a b (sym (goes a b) ∙ s))
      (Decides-and (not (has_leaf t a)) (not (has_leaf t b)) told_a told_b))

  all_told : (all : List Node) → AllByRecursion Told all → Decides (not (list_any (has_leaf t) all)) (map (named h) all ≡ all)
  all_told [] told = (λ _. refl, λ _. refl)
  all_told (n ∷ all) told =
      Decides-at (not (has_leaf t n || list_any (has_leaf t) all)) (not (has_leaf t n) && not (list_any (has_leaf t) all)) (neither (has_leaf t n) (list_any (has_leaf t) all))
      (Decides-like (not (has_leaf t n) && not (list_any (has_leaf t) all)) (λ s i. s.0 i ∷ s.1 i) (λ s. same_heads (named h n) n (map (named h) all) all s)
      (Decides-and (not (has_leaf t n)) (not (list_any (has_leaf t) all)) told.0 (all_told all told.1)))

  many_told : (f : List Node → Node) → ((a c : List Node) → f a ≡ f c → a ≡ c) → ((all : List Node) → named h (f all) ≡ f (map (named h) all)) →
      ((all : List Node) → has_leaf t (f all) ≡ list_any (has_leaf t) all) → (all : List Node) → AllByRecursion Told all → Told (f all)
  many_told f same goes leaf all told =
      Decides-at (not (has_leaf t (f all))) (not (list_any (has_leaf t) all)) (ap not (leaf all))
      (Decides-like (not (list_any (has_leaf t) all)) (λ s. goes all ∙ ap f s) (λ s. same (map (named h) all) all (sym (goes all) ∙ s)) (all_told all told))

  call_told : (a : Node) (all : List Node) → Told a → AllByRecursion Told all → Told (node.LambdaCall a all)
  call_told a all told_a told =
      Decides-at (not (has_leaf t (node.LambdaCall a all))) (not (has_leaf t a) && not (list_any (has_leaf t) all)) (ap not (leaf_lambda_call t a all) ∙ neither (has_leaf t a) (list_any (has_leaf t) all))
      (Decides-like (not (has_leaf t a) && not (list_any (has_leaf t) all)) (λ s. named_lambda_call h a all ∙ (λ i. node.LambdaCall (s.0 i) (s.1 i)))
      (λ s. same_lambda_call (named h a) a (map (named h) all) all (sym (named_lambda_call h a all) ∙ s))
      (Decides-and (not (has_leaf t a)) (not (list_any (has_leaf t) all)) told_a (all_told all told)))

  -- where the tests tell of each sheet and each name whether it stays, they tell of a tree whether it does
  pub tells_named : ((sheet : Option (List ℕ)) (corner : Corner) → Decides (not (t.reference sheet corner)) (h.sheet sheet ≡ sheet)) →
      ((sheet : Option (List ℕ)) (first second : Corner) → Decides (not (t.range sheet first second)) (h.sheet sheet ≡ sheet)) →
      ((name : List ℕ) → Decides (not (t.name name)) (h.name name ≡ name)) → (n : Node) → Told n
  tells_named references ranges names = induct Told (record {
    boolean = λ value. constant (node.Boolean value) (named_boolean h value) (leaf_boolean t value);
    number = λ value. constant (node.Number value) (named_number h value) (leaf_number t value);
    text = λ text. constant (node.Text text) (named_text h text) (leaf_text t text);
    reference = λ sheet corner. leaf_told (λ s. node.Reference s corner) (λ s u. same_reference s u corner) h.sheet (λ s. t.reference s corner) (λ s. named_reference h s corner) (λ s. leaf_reference t s corner) sheet (references sheet corner);
    range = λ sheet first second. leaf_told (λ s. node.Range s first second) (λ s u. same_range s u first second) h.sheet (λ s. t.range s first second) (λ s. named_range h s first second) (λ s. leaf_range t s first second) sheet (ranges sheet first second);
    colon = two_told node.Colon same_colon (named_colon h) (leaf_colon t);
    concatenate = two_told node.Concatenate same_concatenate (named_concatenate h) (leaf_concatenate t);
    compare = λ kind. two_told (node.Compare kind) (same_compare kind) (named_compare h kind) (leaf_compare t kind);
    sum = λ kind. two_told (node.Sum kind) (same_sum kind) (named_sum h kind) (leaf_sum t kind);
    product = λ kind. two_told (node.Product kind) (same_product kind) (named_product h kind) (leaf_product t kind);
    power = two_told node.Power same_power (named_power h) (leaf_power t);
    unary = λ kind. one_told (node.Unary kind) (same_unary kind) (named_unary h kind) (leaf_unary t kind);
    call = λ function. many_told (node.Call function) (same_call function) (named_call h function) (leaf_call t function);
    named_call = λ name. many_told (node.NamedCall name) (same_named_call name) (named_named_call h name) (leaf_named_call t name);
    array = λ lines. constant (node.Array lines) (named_array h lines) (leaf_array t lines);
    name = λ name. leaf_told node.Name same_name h.name t.name (named_name h) (leaf_name t) name (names name);
    error = λ error. constant (node.Error error) (named_error h error) (leaf_error t error);
    parse_error = λ text. constant (node.ParseError text) (named_parse_error h text) (leaf_parse_error t text);
    empty_argument = constant node.EmptyArgument (named_empty_argument h) (leaf_empty_argument t);
    spill = one_told node.Spill same_spill (named_spill h) (leaf_spill t);
    lambda = λ parameters. one_told (node.Lambda parameters) (same_lambda parameters) (named_lambda h parameters) (leaf_lambda t parameters);
    lambda_call = call_told;
    implicit_intersection = one_told node.ImplicitIntersection same_implicit_intersection (named_implicit_intersection h) (leaf_implicit_intersection t);
  })
