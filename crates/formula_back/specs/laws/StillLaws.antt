-- A test that no leaf passes that stays where it is tells nothing of a tree that stays as it is; and a tree stays as it is exactly where none of
-- its leaves changes.
use Rattle.std.specs.Prelude.{◌≡◌, ℕ, Bool, true, false, not, ◌&&◌, ◌||◌, List, [], ◌∷◌, map, Option, Some, None}
use Rattle.std.proofs.Common.{refl, ap, sym, ◌∙◌, arith}
use Rattle.std.specs.Bool.{Decides}
use Rattle.std.specs.List.{AllByRecursion, list_any}
use Rattle.std.proofs.lemmas.Bool.Decides.{Decides-at, Decides-like, Decides-and}
use Rattle.base_values.specs.declared.Position.{Position}
use Rattle.base_tables.specs.declared.Error.TheVariants.{Ref}
use Rattle.formula_tree.specs.declared.Corner.{Corner}
use Rattle.formula_tree.specs.contracts.corner.CornerPartialEq.TheImpl as equality
use Rattle.formula_tree.specs.declared.Node.{Node}
use Rattle.formula_tree.specs.declared.Node.TheVariants as node
use Rattle.formula_tree.specs.declared.Node.TheOpen.{Node-F}
use Rattle.formula_tree.specs.Corners.{lower_corner, higher_corner}
use Rattle.formula_tree.specs.Moved.{Mapping, moved, reference_to, range_to}
use Rattle.formula_tree.specs.laws.Equals.{corner_equals}
use Rattle.formula_tree.specs.laws.Induction.{induct}
use Rattle.formula_tree.specs.laws.MovedEquations.{moved_boolean, moved_number, moved_text, moved_reference, moved_range, moved_colon}
use Rattle.formula_tree.specs.laws.MovedEquations.{moved_array, moved_name, moved_error, moved_parse_error, moved_empty_argument}
use Rattle.formula_tree.specs.laws.MovedEquations.{moved_concatenate, moved_compare, moved_sum, moved_product, moved_power, moved_unary, moved_call}
use Rattle.formula_tree.specs.laws.MovedEquations.{moved_named_call, moved_spill, moved_lambda, moved_lambda_call, moved_implicit_intersection}
use Rattle.formula_back.specs.Leaves.{LeafTests, has_leaf}
use Rattle.formula_back.specs.Still.{changes_reference, changes_range, changed_leaves}
use Rattle.formula_back.specs.laws.LeafEquations.{leaf_boolean, leaf_number, leaf_text, leaf_reference, leaf_range, leaf_colon, leaf_concatenate}
use Rattle.formula_back.specs.laws.LeafEquations.{leaf_compare, leaf_sum, leaf_product, leaf_power, leaf_unary, leaf_call, leaf_named_call}
use Rattle.formula_back.specs.laws.LeafEquations.{leaf_array, leaf_name, leaf_error, leaf_parse_error, leaf_empty_argument, leaf_spill, leaf_lambda}
use Rattle.formula_back.specs.laws.LeafEquations.{leaf_lambda_call, leaf_implicit_intersection}
use Rattle.formula_back.specs.laws.LeafLaws.{same_layers}
use Rattle.formula_back.specs.laws.LeafLaws.{same_colon, same_concatenate, same_compare, same_sum, same_product, same_power, same_unary, same_spill}
use Rattle.formula_back.specs.laws.LeafLaws.{same_lambda, same_implicit_intersection, same_call, same_named_call, same_lambda_call, same_heads}

-- no reference or range passes that is the same where its corners went, and no name
pub record PassesNoStill (to : Position) (m : Mapping) (t : LeafTests) : Type 0 where
  pub reference : (sheet : Option (List ℕ)) (corner : Corner) → reference_to sheet (m.reference sheet corner) ≡ node.Reference sheet corner →
      t.reference sheet corner ≡ false
  pub range : (sheet : Option (List ℕ)) (first second : Corner) →
      range_to to sheet (m.first sheet first second) (m.second sheet first second) ≡ node.Range sheet first second → t.range sheet first second ≡ false
  pub no_name : (name : List ℕ) → t.name name ≡ false

-- each reference and range that does not pass is the same where its corners went
pub record PassesEachChanged (to : Position) (m : Mapping) (t : LeafTests) : Type 0 where
  pub reference : (sheet : Option (List ℕ)) (corner : Corner) → t.reference sheet corner ≡ false →
      reference_to sheet (m.reference sheet corner) ≡ node.Reference sheet corner
  pub range : (sheet : Option (List ℕ)) (first second : Corner) → t.range sheet first second ≡ false →
      range_to to sheet (m.first sheet first second) (m.second sheet first second) ≡ node.Range sheet first second

first_fails : (a b : Bool) → a || b ≡ false → a ≡ false
first_fails a b none = grind arith

second_fails : (a b : Bool) → a || b ≡ false → b ≡ false
second_fails a b none = grind arith

module _ (to : Position) (m : Mapping) (t : LeafTests) where
  -- ---- a tree that stays has no leaf that passes

  abbrev pub Quiet : Node → Type 0
  Quiet n = moved to m n ≡ n → has_leaf t n ≡ false

  one_quiet : (f : Node → Node) → ((a c : Node) → f a ≡ f c → a ≡ c) → ((a : Node) → moved to m (f a) ≡ f (moved to m a)) →
      ((a : Node) → has_leaf t (f a) ≡ has_leaf t a) → (a : Node) → Quiet a → Quiet (f a)
  one_quiet f same goes leaf a quiet h = leaf a ∙ quiet (same (moved to m a) a (sym (goes a) ∙ h))

  two_quiet : (f : Node → Node → Node) → ((a b c d : Node) → f a b ≡ f c d → (a ≡ c) × (b ≡ d)) →
      ((a b : Node) → moved to m (f a b) ≡ f (moved to m a) (moved to m b)) → ((a b : Node) → has_leaf t (f a b) ≡ has_leaf t a || has_leaf t b) →
      (a b : Node) → Quiet a → Quiet b → Quiet (f a b)
  two_quiet f same goes leaf a b quiet_a quiet_b h =
      let s = same (moved to m a) (moved to m b) a b (sym (goes a b) ∙ h) in
      leaf a b ∙ (λ i. quiet_a s.0 i || quiet_b s.1 i)

  all_quiet : (all : List Node) → AllByRecursion Quiet all → map (moved to m) all ≡ all → list_any (has_leaf t) all ≡ false
  all_quiet [] quiet h = refl
  all_quiet (n ∷ all) quiet h =
      let s = same_heads (moved to m n) n (map (moved to m) all) all h in
      λ i. quiet.0 s.0 i || all_quiet all quiet.1 s.1 i

  many_quiet : (f : List Node → Node) → ((a c : List Node) → f a ≡ f c → a ≡ c) → ((all : List Node) → moved to m (f all) ≡ f (map (moved to m) all)) →
      ((all : List Node) → has_leaf t (f all) ≡ list_any (has_leaf t) all) → (all : List Node) → AllByRecursion Quiet all → Quiet (f all)
  many_quiet f same goes leaf all quiet h = leaf all ∙ all_quiet all quiet (same (map (moved to m) all) all (sym (goes all) ∙ h))

  call_quiet : (a : Node) (all : List Node) → Quiet a → AllByRecursion Quiet all → Quiet (node.LambdaCall a all)
  call_quiet a all quiet_a quiet h =
      let s = same_lambda_call (moved to m a) a (map (moved to m) all) all (sym (moved_lambda_call to m a all) ∙ h) in
      leaf_lambda_call t a all ∙ (λ i. quiet_a s.0 i || all_quiet all quiet s.1 i)

  -- a tree that stays as it is where its corners move has no leaf that passes
  pub still_passes_none : PassesNoStill to m t → (n : Node) → Quiet n
  still_passes_none still = induct Quiet (record {
    boolean = λ value _. leaf_boolean t value;
    number = λ value _. leaf_number t value;
    text = λ text _. leaf_text t text;
    reference = λ sheet corner h. leaf_reference t sheet corner ∙ still.reference sheet corner (sym (moved_reference to m sheet corner) ∙ h);
    range = λ sheet first second h. leaf_range t sheet first second ∙ still.range sheet first second (sym (moved_range to m sheet first second) ∙ h);
    colon = two_quiet node.Colon same_colon (moved_colon to m) (leaf_colon t);
    concatenate = two_quiet node.Concatenate same_concatenate (moved_concatenate to m) (leaf_concatenate t);
    compare = λ kind. two_quiet (node.Compare kind) (same_compare kind) (moved_compare to m kind) (leaf_compare t kind);
    sum = λ kind. two_quiet (node.Sum kind) (same_sum kind) (moved_sum to m kind) (leaf_sum t kind);
    product = λ kind. two_quiet (node.Product kind) (same_product kind) (moved_product to m kind) (leaf_product t kind);
    power = two_quiet node.Power same_power (moved_power to m) (leaf_power t);
    unary = λ kind. one_quiet (node.Unary kind) (same_unary kind) (moved_unary to m kind) (leaf_unary t kind);
    call = λ function. many_quiet (node.Call function) (same_call function) (moved_call to m function) (leaf_call t function);
    named_call = λ name. many_quiet (node.NamedCall name) (same_named_call name) (moved_named_call to m name) (leaf_named_call t name);
    array = λ lines _. leaf_array t lines;
    name = λ name _. leaf_name t name ∙ still.no_name name;
    error = λ error _. leaf_error t error;
    parse_error = λ text _. leaf_parse_error t text;
    empty_argument = λ _. leaf_empty_argument t;
    spill = one_quiet node.Spill same_spill (moved_spill to m) (leaf_spill t);
    lambda = λ parameters. one_quiet (node.Lambda parameters) (same_lambda parameters) (moved_lambda to m parameters) (leaf_lambda t parameters);
    lambda_call = call_quiet;
    implicit_intersection = one_quiet node.ImplicitIntersection same_implicit_intersection (moved_implicit_intersection to m) (leaf_implicit_intersection t);
  })

  -- ---- a tree without a leaf that passes stays

  abbrev pub Still : Node → Type 0
  Still n = has_leaf t n ≡ false → moved to m n ≡ n

  one_still : (f : Node → Node) → ((a : Node) → moved to m (f a) ≡ f (moved to m a)) → ((a : Node) → has_leaf t (f a) ≡ has_leaf t a) →
      (a : Node) → Still a → Still (f a)
  one_still f goes leaf a still h = goes a ∙ ap f (still (sym (leaf a) ∙ h))

  two_still : (f : Node → Node → Node) → ((a b : Node) → moved to m (f a b) ≡ f (moved to m a) (moved to m b)) →
      ((a b : Node) → has_leaf t (f a b) ≡ has_leaf t a || has_leaf t b) → (a b : Node) → Still a → Still b → Still (f a b)
  two_still f goes leaf a b still_a still_b h =
      let none : has_leaf t a || has_leaf t b ≡ false = sym (leaf a b) ∙ h in
      let left = still_a (first_fails (has_leaf t a) (has_leaf t b) none) in
      let right = still_b (second_fails (has_leaf t a) (has_leaf t b) none) in
      goes a b ∙ (λ i. f (left i) (right i))

  all_still : (all : List Node) → AllByRecursion Still all → list_any (has_leaf t) all ≡ false → map (moved to m) all ≡ all
  all_still [] still h = refl
  all_still (n ∷ all) still h =
      let first = still.0 (first_fails (has_leaf t n) (list_any (has_leaf t) all) h) in
      let rest = all_still all still.1 (second_fails (has_leaf t n) (list_any (has_leaf t) all) h) in
      λ i. first i ∷ rest i

  many_still : (f : List Node → Node) → ((all : List Node) → moved to m (f all) ≡ f (map (moved to m) all)) →
      ((all : List Node) → has_leaf t (f all) ≡ list_any (has_leaf t) all) → (all : List Node) → AllByRecursion Still all → Still (f all)
  many_still f goes leaf all still h = goes all ∙ ap f (all_still all still (sym (leaf all) ∙ h))

  call_still : (a : Node) (all : List Node) → Still a → AllByRecursion Still all → Still (node.LambdaCall a all)
  call_still a all still_a still h =
      let none : has_leaf t a || list_any (has_leaf t) all ≡ false = sym (leaf_lambda_call t a all) ∙ h in
      let called = still_a (first_fails (has_leaf t a) (list_any (has_leaf t) all) none) in
      let rest = all_still all still (second_fails (has_leaf t a) (list_any (has_leaf t) all) none) in
      moved_lambda_call to m a all ∙ (λ i. node.LambdaCall (called i) (rest i))

  -- a tree none of whose leaves passes stays as it is where its corners move
  pub none_passing_stays : PassesEachChanged to m t → (n : Node) → Still n
  none_passing_stays changed = induct Still (record {
    boolean = λ value _. moved_boolean to m value;
    number = λ value _. moved_number to m value;
    text = λ text _. moved_text to m text;
    reference = λ sheet corner h. moved_reference to m sheet corner ∙ changed.reference sheet corner (sym (leaf_reference t sheet corner) ∙ h);
    range = λ sheet first second h. moved_range to m sheet first second ∙ changed.range sheet first second (sym (leaf_range t sheet first second) ∙ h);
    colon = two_still node.Colon (moved_colon to m) (leaf_colon t);
    concatenate = two_still node.Concatenate (moved_concatenate to m) (leaf_concatenate t);
    compare = λ kind. two_still (node.Compare kind) (moved_compare to m kind) (leaf_compare t kind);
    sum = λ kind. two_still (node.Sum kind) (moved_sum to m kind) (leaf_sum t kind);
    product = λ kind. two_still (node.Product kind) (moved_product to m kind) (leaf_product t kind);
    power = two_still node.Power (moved_power to m) (leaf_power t);
    unary = λ kind. one_still (node.Unary kind) (moved_unary to m kind) (leaf_unary t kind);
    call = λ function. many_still (node.Call function) (moved_call to m function) (leaf_call t function);
    named_call = λ name. many_still (node.NamedCall name) (moved_named_call to m name) (leaf_named_call t name);
    array = λ lines _. moved_array to m lines;
    name = λ name _. moved_name to m name;
    error = λ error _. moved_error to m error;
    parse_error = λ text _. moved_parse_error to m text;
    empty_argument = λ _. moved_empty_argument to m;
    spill = one_still node.Spill (moved_spill to m) (leaf_spill t);
    lambda = λ parameters. one_still (node.Lambda parameters) (moved_lambda to m parameters) (leaf_lambda t parameters);
    lambda_call = call_still;
    implicit_intersection = one_still node.ImplicitIntersection (moved_implicit_intersection to m) (leaf_implicit_intersection t);
  })

-- ---- told by the leaves that change

twice_not : (b : Bool) → not (not b) ≡ b
twice_not true = refl
twice_not false = refl

fails : (b : Bool) → not b ≡ true → b ≡ false
fails b h = sym (twice_not b) ∙ ap not h

neither_differs : (a b : Bool) → not (not a || not b) ≡ a && b
neither_differs true b = twice_not b
neither_differs false b = refl

same_references : (sheet : Option (List ℕ)) (a c : Corner) → node.Reference sheet a ≡ node.Reference sheet c → a ≡ c
same_references sheet a c e = let same = same_layers (Node-F.Reference sheet a) (Node-F.Reference sheet c) _ _ (node.rolls-Reference sheet a)
    (node.rolls-Reference sheet c) e in cc

same_ranges : (sheet : Option (List ℕ)) (a b c d : Corner) → node.Range sheet a b ≡ node.Range sheet c d → (a ≡ c) × (b ≡ d)
same_ranges sheet a b c d e = let same = same_layers (Node-F.Range sheet a b) (Node-F.Range sheet c d) _ _ (node.rolls-Range sheet a b)
    (node.rolls-Range sheet c d) e in (cc, cc)

no_reference : {P : Type 0} (sheet : Option (List ℕ)) (corner : Corner) → node.Error Ref ≡ node.Reference sheet corner → P
no_reference sheet corner e = let same = same_layers (Node-F.Error Ref) (Node-F.Reference sheet corner) _ _ (node.rolls-Error Ref)
    (node.rolls-Reference sheet corner) e in absurd (cc)

no_range : {P : Type 0} (a b : Node) (sheet : Option (List ℕ)) (first second : Corner) → node.Colon a b ≡ node.Range sheet first second → P
no_range a b sheet first second e = let same = same_layers (Node-F.Colon a b) (Node-F.Range sheet first second) _ _ (node.rolls-Colon a b)
    (node.rolls-Range sheet first second) e in absurd (cc)

no_true : {P : Type 0} → not true ≡ true → P
no_true h = absurd (cc)

-- a reference stays exactly where it does not change
reference_stays : (sheet : Option (List ℕ)) (corner : Corner) (o : Option Corner) →
    Decides (not (changes_reference o corner)) (reference_to sheet o ≡ node.Reference sheet corner)
unfolding reference_to
reference_stays sheet corner (Some moved) =
    Decides-at (not (not (equality.ghosts.eq moved corner))) (equality.ghosts.eq moved corner) (twice_not (equality.ghosts.eq moved corner))
    (Decides-like (equality.ghosts.eq moved corner) (ap (node.Reference sheet)) (same_references sheet moved corner) (corner_equals moved corner))
reference_stays sheet corner None = (no_true, no_reference sheet corner)

-- so does a range
range_stays : (to : Position) (sheet : Option (List ℕ)) (first second : Corner) (o p : Option Corner) →
    Decides (not (changes_range to o p first second)) (range_to to sheet o p ≡ node.Range sheet first second)
unfolding range_to
range_stays to sheet first second (Some one) (Some other) =
    let lower = lower_corner to one other in
    let higher = higher_corner to one other in
    let same_lower = equality.ghosts.eq lower first in
    let same_higher = equality.ghosts.eq higher second in
    Decides-at (not (not same_lower || not same_higher)) (same_lower && same_higher) (neither_differs same_lower same_higher)
    (Decides-like (same_lower && same_higher) (λ s i. node.Range sheet (s.0 i) (s.1 i)) (same_ranges sheet lower higher first second)
    (Decides-and same_lower same_higher (corner_equals lower first) (corner_equals higher second)))
range_stays to sheet first second (Some one) None = (no_true, no_range _ _ sheet first second)
range_stays to sheet first second None p = (no_true, no_range _ _ sheet first second)

module _ (to : Position) (m : Mapping) where
  no_still_leaf_changes : PassesNoStill to m (changed_leaves to m)
  no_still_leaf_changes = record {
    reference = λ sheet corner same. fails _ ((reference_stays sheet corner (m.reference sheet corner)).1 same);
    range = λ sheet first second same. fails _ ((range_stays to sheet first second (m.first sheet first second) (m.second sheet first second)).1 same);
    no_name = λ name. refl;
  }

  each_other_leaf_stays : PassesEachChanged to m (changed_leaves to m)
  each_other_leaf_stays = record {
    reference = λ sheet corner none. (reference_stays sheet corner (m.reference sheet corner)).0 (ap not none);
    range = λ sheet first second none. (range_stays to sheet first second (m.first sheet first second) (m.second sheet first second)).0 (ap not none);
  }

  -- a tree stays as it is where its corners move exactly where none of its leaves changes
  pub stays_exactly : (n : Node) → Decides (not (has_leaf (changed_leaves to m) n)) (moved to m n ≡ n)
  stays_exactly n = (
    λ none. none_passing_stays to m (changed_leaves to m) each_other_leaf_stays n (fails _ none),
    λ still. ap not (still_passes_none to m (changed_leaves to m) no_still_leaf_changes n still),
  )
