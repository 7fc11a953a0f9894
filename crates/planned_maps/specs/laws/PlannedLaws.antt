-- What stands at each key of a plan.
use Rattle.std.proofs.Common.{◌≡◌, ◌⊎◌, inl, inr, ℕ, zero, suc, ◌<◌, ℤ, pos, ◌+ℤ◌, Bool, true, false, cond, ◌&&◌, List, [], ◌∷◌, ◌++◌, map, Option, Some, None, option_map, refl, ap, sym, subst, ◌∙◌, arith, T}
use Rattle.std.specs.Prelude.{◌==◌}
use Rattle.std.specs.List.{cons_option, filter_map, flat_map, fold, list_all}
use Rattle.std.specs.declared.cmp.Ordering.{Ordering}
use Rattle.std.specs.Ordering.{eq_by_cmp}
use Rattle.std.specs.Cmp.{IsTotalOrder, unsigned_Decides}
use Rattle.std.specs.FinMap.{FinMap, empty, entries, entries_sorted, get, get-empty, get-entries, get-from_entries, get-insert, same_map}
use Rattle.std.specs.FinMap.Entries.{find, is_sorted}
use Rattle.std.proofs.lemmas.Map.Lookups.{CmpEqualImpliesEq}
use Rattle.base_values.specs.KeyMap.{with_entry}
use Rattle.base_values.specs.laws.KeyMap.{get-with_entry}
use Rattle.base_maps.specs.laws.Keys.{first_once, one_key, own_key, sorted_rest}
use Rattle.planned_maps.specs.Planned.{carried_out, lines_from, made_entry, planned}
use Rattle.planned_maps.specs.laws.PlanWalks.{put_if, put_one}

-- ---- keys of a list

-- a key is one of a list
abbrev pub IsIn : {K : Type 0} → K → List K → Type 0
IsIn q [] = ⊥
IsIn q (key ∷ keys) = (q ≡ key) ⊎ IsIn q keys

pub in_front : {K : Type 0} (q : K) (xs ys : List K) → IsIn q xs → IsIn q (xs ++ ys)
in_front q [] ys h = absurd h
in_front q (x ∷ xs) ys (inl h) = inl h
in_front q (x ∷ xs) ys (inr h) = inr (in_front q xs ys h)

pub in_back : {K : Type 0} (q : K) (xs ys : List K) → IsIn q ys → IsIn q (xs ++ ys)
in_back q [] ys h = h
in_back q (x ∷ xs) ys h = inr (in_back q xs ys h)

pub in_mapped : {J K : Type 0} (f : J → K) (q : J) (xs : List J) → IsIn q xs → IsIn (f q) (map f xs)
in_mapped f q [] h = absurd h
in_mapped f q (x ∷ xs) (inl h) = inl (ap f h)
in_mapped f q (x ∷ xs) (inr h) = inr (in_mapped f q xs h)

pub in_each : {J K : Type 0} (f : J → List K) (j : J) (q : K) (xs : List J) → IsIn j xs → IsIn q (f j) → IsIn q (flat_map f xs)
in_each f j q [] h there = absurd h
in_each f j q (x ∷ xs) (inl h) there = in_front q (f x) (flat_map f xs) (subst (λ i. IsIn q (f i)) h there)
in_each f j q (x ∷ xs) (inr h) there = in_back q (f x) (flat_map f xs) (in_each f j q xs h there)

pub earlier : (index more : ℕ) → index < suc more → (index == more) ≡ false → index < more
earlier index more few other = grind (arith, other, few)

-- a line that stands so many lines behind the first one
pub line_is_in : (first : ℤ) (count index : ℕ) → index < count → IsIn (first +ℤ pos index) (lines_from first count)
line_is_in first zero index few = absurd (omega arith)
line_is_in first (suc more) index few = go (line_is_in first more index) (index == more) refl
  where
    go : (index < more → IsIn (first +ℤ pos index) (lines_from first more)) → (b : Bool) → (index == more) ≡ b
        → IsIn (first +ℤ pos index) (lines_from first more ++ (first +ℤ pos more) ∷ [])
    go rest true same = in_back (first +ℤ pos index) (lines_from first more) ((first +ℤ pos more) ∷ [])
        (inl (ap (λ n. first +ℤ pos n) ((unsigned_Decides index more).0 same)))
    go rest false other = in_front (first +ℤ pos index) (lines_from first more) ((first +ℤ pos more) ∷ []) (rest (earlier index more few other))

-- ---- tests of all keys of a list

both : (a b : Bool) → (a && b) ≡ true → (a ≡ true) × (b ≡ true)
both true b h = (refl, h)
both false b h = absurd (let never : false ≡ true = h in cc)

pub passes_in : {K : Type 0} (passes : K → Bool) (keys : List K) → list_all passes keys ≡ true → (q : K) → IsIn q keys → passes q ≡ true
passes_in passes [] all q h = absurd h
passes_in passes (key ∷ keys) all q (inl h) = ap passes h ∙ (both (passes key) (list_all passes keys) all).0
passes_in passes (key ∷ keys) all q (inr h) = passes_in passes keys (both (passes key) (list_all passes keys) all).1 q h

pub all_pass : {K : Type 0} (passes : K → Bool) (keys : List K) → ((q : K) → passes q ≡ true) → list_all passes keys ≡ true
all_pass passes [] each = refl
all_pass passes (key ∷ keys) each = λ i. each key i && all_pass passes keys each i

-- two tests that pass together are one
pub one_test : (a b : Bool) → (a ≡ true → b ≡ true) → (b ≡ true → a ≡ true) → a ≡ b
one_test true b there back = sym (there refl)
one_test false true there back = back refl
one_test false false there back = refl

module _ {K : Type 0} (R : K → K → Ordering) (total : IsTotalOrder R) (exact : CmpEqualImpliesEq R) {X : Type 0} (make : K → Option X) where
  -- ---- the map of what is made of keys

  -- what is made of a key, or nothing yet
  abbrev pub Fits : FinMap R X → Type 0
  Fits m = (q : K) → (get m q ≡ None) ⊎ (get m q ≡ make q)

  -- what is found among what is made of keys
  abbrev found : List K → K → Option X
  found keys q = find R q (filter_map (made_entry make) keys)

  abbrev found_with : K → List K → K → Option X → Option X
  found_with key keys q o = find R q (cons_option (option_map (λ x. (key, x)) o) (filter_map (made_entry make) keys))

  find-output : (keys : List K) (q : K) → (found keys q ≡ None) ⊎ (found keys q ≡ make q)
  find-output [] q = inl refl
  find-output (key ∷ keys) q = go (find-output keys q) (make key) refl
    where
      here : (found keys q ≡ None) ⊎ (found keys q ≡ make q) → (x : X) → make key ≡ Some x → (b : Bool) → eq_by_cmp R q key ≡ b
          → (cond b (Some x) (found keys q) ≡ None) ⊎ (cond b (Some x) (found keys q) ≡ make q)
      here rest x is true same = inr (sym is ∙ ap make (sym (one_key R total exact q key same)))
      here rest x is false other = rest

      go : (found keys q ≡ None) ⊎ (found keys q ≡ make q) → (o : Option X) → make key ≡ o
          → (found_with key keys q o ≡ None) ⊎ (found_with key keys q o ≡ make q)
      go rest None is = rest
      go rest (Some x) is = here rest x is (eq_by_cmp R q key) refl

  find-in : (keys : List K) (q : K) (x : X) → make q ≡ Some x → IsIn q keys → found keys q ≡ Some x
  find-in [] q x is h = absurd h
  find-in (key ∷ keys) q x is (inl h) =
      ap (found_with key keys q) (ap make (sym h) ∙ is)
      ∙ ap (λ b. cond b (Some x) (found keys q)) (ap (eq_by_cmp R q) (sym h) ∙ own_key R total exact q)
  find-in (key ∷ keys) q x is (inr h) = go (find-in keys q x is h) (make key) refl
    where
      here : found keys q ≡ Some x → (y : X) → make key ≡ Some y → (b : Bool) → eq_by_cmp R q key ≡ b → cond b (Some y) (found keys q) ≡ Some x
      here rest y output true same = sym output ∙ ap make (sym (one_key R total exact q key same)) ∙ is
      here rest y output false other = rest

      go : found keys q ≡ Some x → (o : Option X) → make key ≡ o → found_with key keys q o ≡ Some x
      go rest None output = rest
      go rest (Some y) output = here rest y output (eq_by_cmp R q key) refl

  made_or_not : (q : K) (o : Option X) → (o ≡ None) ⊎ (o ≡ make q) → ((x : X) → make q ≡ Some x → o ≡ Some x) → o ≡ make q
  made_or_not q o (inr is) there = is
  made_or_not q o (inl is) there = go (make q) refl
    where
      go : (m : Option X) → make q ≡ m → o ≡ make q
      go None none = is ∙ sym none
      go (Some x) some = there x some ∙ sym some

  -- a plan has at each key what is made of it, where each key is listed of which something is made
  pub get-planned : (keys : List K) → ((q : K) (x : X) → make q ≡ Some x → IsIn q keys) → (q : K) → get (planned {R = R} make keys) q ≡ make q
  unfolding planned
  get-planned keys listed q =
      get-from_entries total (filter_map (made_entry make) keys) q
      ∙ made_or_not q (find R q (filter_map (made_entry make) keys)) (find-output keys q) (λ x is. find-in keys q x is (listed q x is))

  -- ---- plans that are made key by key

  -- after more was put in a plan that fits it fits, and what was made stands there
  pub record Goes (m n : FinMap R X) : Type 0 where
    pub fits : Fits m → Fits n
    pub kept : (q : K) → get m q ≡ make q → get n q ≡ make q

  pub goes_nowhere : (m : FinMap R X) → Goes m m
  goes_nowhere m = record { fits = λ h. h; kept = λ q h. h }

  pub goes_on : (m n o : FinMap R X) → Goes m n → Goes n o → Goes m o
  goes_on m n o first second = record { fits = λ h. second.fits (first.fits h); kept = λ q h. second.kept q (first.kept q h) }

  put_at : (m : FinMap R X) (key q : K) (o : Option X) → make key ≡ o → (get (put_if m key o) q ≡ get m q) ⊎ (get (put_if m key o) q ≡ make q)
  put_at m key q None is = inl refl
  put_at m key q (Some x) is = go (eq_by_cmp R q key) refl
    where
      go : (b : Bool) → eq_by_cmp R q key ≡ b → (get (put_if m key (Some x)) q ≡ get m q) ⊎ (get (put_if m key (Some x)) q ≡ make q)
      go true same = inr (get-insert total m key x q ∙ ap (λ b. cond b (Some x) (get m q)) same ∙ sym is ∙ ap make (sym (one_key R total exact q key same)))
      go false other = inl (get-insert total m key x q ∙ ap (λ b. cond b (Some x) (get m q)) other)

  still_fits : (q : K) (old new : Option X) → (new ≡ old) ⊎ (new ≡ make q) → (old ≡ None) ⊎ (old ≡ make q) → (new ≡ None) ⊎ (new ≡ make q)
  still_fits q old new (inr is) h = inr is
  still_fits q old new (inl is) (inl h) = inl (is ∙ h)
  still_fits q old new (inl is) (inr h) = inr (is ∙ h)

  still_made : (q : K) (old new : Option X) → (new ≡ old) ⊎ (new ≡ make q) → old ≡ make q → new ≡ make q
  still_made q old new (inr is) h = is
  still_made q old new (inl is) h = is ∙ h

  -- one more key
  pub one_goes : (m : FinMap R X) (key : K) → Goes m (put_one make m key)
  one_goes m key = record {
    fits = λ h q. still_fits q (get m q) (get (put_one make m key) q) (put_at m key q (make key) refl) (h q);
    kept = λ q h. still_made q (get m q) (get (put_one make m key) q) (put_at m key q (make key) refl) h;
  }

  pub one_done : (m : FinMap R X) (key : K) → Fits m → get (put_one make m key) key ≡ make key
  one_done m key h = go (make key) refl
    where
      none : make key ≡ None → (get m key ≡ None) ⊎ (get m key ≡ make key) → get m key ≡ make key
      none is (inl e) = e ∙ sym is
      none is (inr e) = e

      go : (o : Option X) → make key ≡ o → get (put_if m key o) key ≡ make key
      go None is = none is (h key)
      go (Some x) is = get-insert total m key x key ∙ ap (λ b. cond b (Some x) (get m key)) (own_key R total exact key) ∙ sym is

  pub empty_fits : Fits empty
  empty_fits q = inl (get-empty R q)

  -- a plan that was made of keys in any order is the map of what is made
  pub same_plan : (keys : List K) → ((q : K) (x : X) → make q ≡ Some x → IsIn q keys) → (m : FinMap R X) → Fits m
      → ((q : K) (x : X) → make q ≡ Some x → get m q ≡ make q) → m ≡ planned make keys
  same_plan keys listed m fits done = same_map total exact _ _ (λ q.
      made_or_not q (get m q) (fits q) (λ x is. done q x is ∙ is) ∙ sym (get-planned keys listed q))

-- ---- a plan that is carried out

-- what stands at a key then
abbrev pub carried : {X : Type 0} → Option (Option X) → Option X → Option X
carried None old = old
carried (Some new) old = new

test_of : (b : Bool) → T b → b ≡ true
test_of true h = refl
test_of false h = absurd h

module _ {K : Type 0} (R : K → K → Ordering) (total : IsTotalOrder R) (exact : CmpEqualImpliesEq R) {X : Type 0} where
  carried_at : (es : List (K × Option X)) → is_sorted R es ≡ true → (m : FinMap R X) (q : K)
      → get (fold (λ output (e : K × Option X). with_entry output e.0 e.1) m es) q ≡ carried (find R q es) (get m q)
  carried_at [] sorted m q = refl
  carried_at (e ∷ es) sorted m q =
      carried_at es (sorted_rest R e es sorted) (with_entry m e.0 e.1) q
      ∙ ap (carried (find R q es)) (get-with_entry total m e.0 e.1 q)
      ∙ go (eq_by_cmp R q e.0) refl
    where
      go : (b : Bool) → eq_by_cmp R q e.0 ≡ b → carried (find R q es) (cond b e.1 (get m q)) ≡ carried (cond b (Some e.1) (find R q es)) (get m q)
      go true same = ap (λ o. carried o e.1) (ap (λ k. find R k es) (one_key R total exact q e.0 same) ∙ first_once R e es sorted)
      go false other = refl

  -- a planned key has what is planned there, and every other one what it had
  pub get-carried_out : (plan : FinMap R (Option X)) (m : FinMap R X) (q : K) → get (carried_out plan m) q ≡ carried (get plan q) (get m q)
  get-carried_out plan m q =
      carried_at (entries plan) (test_of _ (entries_sorted plan)) m q ∙ ap (λ o. carried o (get m q)) (sym (get-entries plan q))
