-- What the entries of a map show, each maybe one thing: a test of the list of these is that test at each key.
use Rattle.std.proofs.Common.{◌≡◌, Bool, true, false, not, cond, ◌&&◌, ◌||◌, List, [], ◌∷◌, Option, Some, None, refl, ap, sym, ◌∙◌, T}
use Rattle.std.specs.Prelude.{◌≢◌}
use Rattle.std.specs.List.{list_all, list_any, filter_map, cons_option}
use Rattle.std.specs.Option.{option_and_then, option_map_or}
use Rattle.std.specs.Cmp.{IsTotalOrder, tied_itself}
use Rattle.std.specs.Ordering.{is_eq, eq_by_cmp}
use Rattle.std.specs.declared.cmp.Ordering.{Ordering}
use Rattle.std.specs.FinMap.Entries.{find, is_sorted, below_all}
use Rattle.std.specs.FinMap.{FinMap, entries, entries_sorted, get, get-entries}
use Rattle.std.proofs.lemmas.Map.Lookups.{CmpEqualImpliesEq}
use Rattle.sheet_rules.specs.Distinct.{are_distinct}
use Rattle.sheet_rules.specs.laws.EntryLaws.{both, left, right, equal, not_found, passes_at_from_all, all_from_passes_at}

pub neither : (a b : Bool) → (a || b) ≡ false → (a ≡ false) × (b ≡ false)
neither false b h = (refl, h)
neither true b h = cc

pub not_true : (b : Bool) → not b ≡ true → b ≡ false
not_true false h = refl
not_true true h = cc

-- nothing is no value
pub no_value : {A : Type 0} (x : A) → None ≡ Some x → ⊥
no_value x h = absurd (cc)

module _ {K X M : Type 0} (R : K → K → Ordering) (total : IsTotalOrder R) (exact : CmpEqualImpliesEq R) (shape : K → X → Option M) where
  -- what the entries show, in their order
  abbrev pub shown : List (K × X) → List M
  shown es = filter_map (λ e. shape e.0 e.1) es

  -- what a key shows, which has a value or none
  abbrev pub shown_at : K → Option X → Option M
  shown_at key o = option_and_then (shape key) o

  here : (key : K) (e : K × X) (r : M) → eq_by_cmp R key e.0 ≡ true → shape key e.1 ≡ Some r → shape e.0 e.1 ≡ Some r
  here key e r is at = ap (λ k. shape k e.1) (sym (exact key e.0 (equal (R key e.0) is))) ∙ at

  -- what is found after an entry is found with it: no key stands twice
  later : (e : K × X) (es : List (K × X)) → T (below_all R e.0 es) → (key : K) (r : M) → shown_at key (find R key es) ≡ Some r → (b : Bool) → eq_by_cmp R key e.0 ≡ b → shown_at key (cond b (Some e.1) (find R key es)) ≡ Some r
  later e es below key r at false is = at
  later e es below key r at true is =
      absurd (no_value r (sym (ap (shown_at key) (ap (λ k. find R k es) (exact key e.0 (equal (R key e.0) is)) ∙ not_found R total exact (λ _ _. true) (λ _. refl) e.0 es below)) ∙ at))

  -- what the first entry shows is found at its key
  first : (e : K × X) (es : List (K × X)) (r : M) → shape e.0 e.1 ≡ Some r → shown_at e.0 (find R e.0 (e ∷ es)) ≡ Some r
  first e es r at = ap (λ o. shown_at e.0 (cond (is_eq o) (Some e.1) (find R e.0 es))) (tied_itself total e.0) ∙ at

  -- and no later key is its own
  apart_keys : (e : K × X) (es : List (K × X)) → T (below_all R e.0 es) → (q : K) (s : M) → shown_at q (find R q es) ≡ Some s → e.0 ≡ q → ⊥
  apart_keys e es below q s at same =
      no_value s (sym (ap (shown_at q) (ap (λ k. find R k es) (sym same) ∙ not_found R total exact (λ _ _. true) (λ _. refl) e.0 es below)) ∙ at)

  module _ (test : M → Bool) where
    head_or_tail : (e : K × X) (es : List (K × X)) (key : K) (r : M) → (list_any test (shown es) ≡ false → shown_at key (find R key es) ≡ Some r → test r ≡ false) → (b : Bool) → eq_by_cmp R key e.0 ≡ b
        → (o : Option M) → shape e.0 e.1 ≡ o → list_any test (cons_option o (shown es)) ≡ false → shown_at key (cond b (Some e.1) (find R key es)) ≡ Some r → test r ≡ false
    head_or_tail e es key r tail true is None shows none at = absurd (no_value r (sym shows ∙ here key e r is at))
    head_or_tail e es key r tail true is (Some s) shows none at =
        let same : ◌≡◌ {A = Option M} (Some s) (Some r) = sym shows ∙ here key e r is at in
        let one : s ≡ r = cc in
        ap test (sym one) ∙ (neither (test s) _ none).0
    head_or_tail e es key r tail false is None shows none at = tail none at
    head_or_tail e es key r tail false is (Some s) shows none at = tail (neither (test s) _ none).1 at

    all_more : (o : Option M) (rs : List M) → list_all test (cons_option o rs) ≡ (option_map_or test o true && list_all test rs)
    all_more None rs = refl
    all_more (Some r) rs = refl

    -- a test of all that is shown, entry by entry
    pub all_shown : (es : List (K × X)) → list_all test (shown es) ≡ list_all (λ e. option_map_or test (shape e.0 e.1) true) es
    all_shown [] = refl
    all_shown (e ∷ es) = all_more (shape e.0 e.1) (shown es) ∙ ap (λ b. option_map_or test (shape e.0 e.1) true && b) (all_shown es)

    -- so it is that test of what each key shows
    pub shown_pass : (m : FinMap R X) → list_all test (shown (entries m)) ≡ true → (key : K) (r : M) → shown_at key (get m key) ≡ Some r → test r ≡ true
    shown_pass m all key r at =
        sym (ap (λ o. option_map_or test o true) at)
        ∙ passes_at_from_all R total exact (λ k o. option_map_or test (shown_at k o) true) (λ _. refl) m (sym (all_shown (entries m)) ∙ all) key

    -- and back
    pub all_pass : (m : FinMap R X) → ((key : K) (r : M) → shown_at key (get m key) ≡ Some r → test r ≡ true) → list_all test (shown (entries m)) ≡ true
    all_pass m each =
        all_shown (entries m) ∙ all_from_passes_at R total exact (λ k o. option_map_or test (shown_at k o) true) (λ _. refl) m (λ key. go key (shown_at key (get m key)) refl)
      where
        go : (key : K) (o : Option M) → shown_at key (get m key) ≡ o → option_map_or test o true ≡ true
        go key None at = refl
        go key (Some r) at = each key r at

    -- no shown one passes: so it is with what each key shows
    pub misses : (es : List (K × X)) → list_any test (shown es) ≡ false → (key : K) (r : M) → shown_at key (find R key es) ≡ Some r → test r ≡ false
    misses [] none key r at = absurd (no_value r at)
    misses (e ∷ es) none key r at = head_or_tail e es key r (λ rest there. misses es rest key r there) (eq_by_cmp R key e.0) refl (shape e.0 e.1) refl none at

    one_more : (o : Option M) (rs : List M) → ((r : M) → o ≡ Some r → test r ≡ false) → list_any test rs ≡ false → list_any test (cons_option o rs) ≡ false
    one_more None rs head tail = tail
    one_more (Some r) rs head tail = λ i. head r refl i || tail i

    -- and back
    pub none_pass : (es : List (K × X)) → T (is_sorted R es) → ((key : K) (r : M) → shown_at key (find R key es) ≡ Some r → test r ≡ false) → list_any test (shown es) ≡ false
    none_pass [] sorted each = refl
    none_pass (e ∷ es) sorted each =
        one_more (shape e.0 e.1) (shown es) (λ r at. each e.0 r (first e es r at))
        (none_pass es (right _ _ sorted) (λ key r at. each key r (later e es (left _ _ sorted) key r at (eq_by_cmp R key e.0) refl)))

    -- so it is in a map
    pub none_in : (m : FinMap R X) → list_any test (shown (entries m)) ≡ false → (key : K) (r : M) → shown_at key (get m key) ≡ Some r → test r ≡ false
    none_in m none key r at = misses (entries m) none key r (sym (ap (shown_at key) (get-entries m key)) ∙ at)

    pub none_of : (m : FinMap R X) → ((key : K) (r : M) → shown_at key (get m key) ≡ Some r → test r ≡ false) → list_any test (shown (entries m)) ≡ false
    none_of m each = none_pass (entries m) (entries_sorted m) (λ key r at. each key r (ap (shown_at key) (get-entries m key) ∙ at))

  module _ (touches : M → M → Bool) (turned : (r s : M) → touches r s ≡ touches s r) where
    abbrev Apart : List (K × X) → Type 0
    Apart es = (p q : K) (r s : M) → p ≢ q → shown_at p (find R p es) ≡ Some r → shown_at q (find R q es) ≡ Some s → touches r s ≡ false

    apart_tail : (o : Option M) (rs : List M) → are_distinct touches (cons_option o rs) ≡ true → are_distinct touches rs ≡ true
    apart_tail None rs h = h
    apart_tail (Some r) rs h = (both _ _ h).1

    apart_head : (o : Option M) (rs : List M) → are_distinct touches (cons_option o rs) ≡ true → (r : M) → o ≡ Some r → list_any (touches r) rs ≡ false
    apart_head None rs h r is = absurd (no_value r is)
    apart_head (Some s) rs h r is = let one : s ≡ r = cc in ap (λ t. list_any (touches t) rs) (sym one) ∙ not_true _ (both _ _ h).0

    pair : (e : K × X) (es : List (K × X)) → are_distinct touches (shown (e ∷ es)) ≡ true → Apart es → (p q : K) (r s : M) → p ≢ q → (b c : Bool) → eq_by_cmp R p e.0 ≡ b → eq_by_cmp R q e.0 ≡ c
        → shown_at p (cond b (Some e.1) (find R p es)) ≡ Some r → shown_at q (cond c (Some e.1) (find R q es)) ≡ Some s → touches r s ≡ false
    pair e es h tail p q r s differ true true is_p is_q at_p at_q = absurd (differ (exact p e.0 (equal (R p e.0) is_p) ∙ sym (exact q e.0 (equal (R q e.0) is_q))))
    pair e es h tail p q r s differ true false is_p is_q at_p at_q = misses (touches r) es (apart_head (shape e.0 e.1) (shown es) h r (here p e r is_p at_p)) q s at_q
    pair e es h tail p q r s differ false true is_p is_q at_p at_q = turned r s ∙ misses (touches s) es (apart_head (shape e.0 e.1) (shown es) h s (here q e s is_q at_q)) p r at_p
    pair e es h tail p q r s differ false false is_p is_q at_p at_q = tail p q r s differ at_p at_q

    -- where no two of the list touch, no two that different keys show do
    pub apart_at : (es : List (K × X)) → are_distinct touches (shown es) ≡ true → Apart es
    apart_at [] h p q r s differ at_p at_q = absurd (no_value r at_p)
    apart_at (e ∷ es) h p q r s differ at_p at_q =
        pair e es h (apart_at es (apart_tail (shape e.0 e.1) (shown es) h)) p q r s differ (eq_by_cmp R p e.0) (eq_by_cmp R q e.0) refl refl at_p at_q

    apart_more : (o : Option M) (rs : List M) → ((r : M) → o ≡ Some r → list_any (touches r) rs ≡ false) → are_distinct touches rs ≡ true → are_distinct touches (cons_option o rs) ≡ true
    apart_more None rs head tail = tail
    apart_more (Some r) rs head tail = λ i. not (head r refl i) && tail i

    -- and back
    pub apart_from : (es : List (K × X)) → T (is_sorted R es) → Apart es → are_distinct touches (shown es) ≡ true
    apart_from [] sorted each = refl
    apart_from (e ∷ es) sorted each =
        apart_more (shape e.0 e.1) (shown es)
        (λ r at. none_pass (touches r) es (right _ _ sorted) (λ q s at_q.
        each e.0 q r s (λ same. apart_keys e es (left _ _ sorted) q s at_q same) (first e es r at) (later e es (left _ _ sorted) q s at_q (eq_by_cmp R q e.0) refl)))
        (apart_from es (right _ _ sorted) (λ p q r s differ at_p at_q.
        each p q r s differ (later e es (left _ _ sorted) p r at_p (eq_by_cmp R p e.0) refl) (later e es (left _ _ sorted) q s at_q (eq_by_cmp R q e.0) refl)))

    -- so it is in a map
    pub apart_in : (m : FinMap R X) → are_distinct touches (shown (entries m)) ≡ true → (p q : K) (r s : M) → p ≢ q → shown_at p (get m p) ≡ Some r → shown_at q (get m q) ≡ Some s → touches r s ≡ false
    apart_in m h p q r s differ at_p at_q =
        apart_at (entries m) h p q r s differ (sym (ap (shown_at p) (get-entries m p)) ∙ at_p) (sym (ap (shown_at q) (get-entries m q)) ∙ at_q)

    pub apart_of : (m : FinMap R X) → ((p q : K) (r s : M) → p ≢ q → shown_at p (get m p) ≡ Some r → shown_at q (get m q) ≡ Some s → touches r s ≡ false) → are_distinct touches (shown (entries m)) ≡ true
    apart_of m each = apart_from (entries m) (entries_sorted m) (λ p q r s differ at_p at_q.
        each p q r s differ (ap (shown_at p) (get-entries m p) ∙ at_p) (ap (shown_at q) (get-entries m q) ∙ at_q))
