-- Laws of maps in the order of their keys, as finite maps.
use Rattle.std.proofs.Common.{◌≡◌, Bool, true, false, cond, Option, Some, None, List, [], ◌∷◌, map, refl, ap, sym, subst, ◌∙◌, length, arith, ◌<◌}
use Rattle.std.specs.Ordering.{is_eq, eq_by_cmp}
use Rattle.std.specs.declared.cmp.Ordering.{Ordering}
use Rattle.std.specs.declared.cmp.Ordering.TheVariants.{Less, Equal, Greater}
use Rattle.std.specs.Cmp.{IsTotalOrder, eq_by_cmp_equiv}
use Rattle.std.specs.BTreeMap.{BTreeMap, is_at, IsOrdered, IsFromIterResult, keys}
use Rattle.std.specs.Map.{lookup, keys_of, update, update_all}
use Rattle.std.specs.List.{All}
use Rattle.std.specs.List.Sorted.{IsStrictlySortedBy}
use Rattle.std.specs.FinMap as fin
use Rattle.std.proofs.Math.ListN.{get_or-map}
use Rattle.std.proofs.lemmas.List.{length-map}
use Rattle.std.specs.FinMap.Entries.{by_order}
use Rattle.std.specs.FinMap.{empty, insert, len-entries, len-empty, entries-insert, FinMap, find, get, entries, from_entries, get-empty, get-insert, get-remove, get-from_entries, same_map, get_tied, same_entries_map}
use Rattle.std.proofs.lemmas.Map.Lookups.{CmpEqualImpliesEq}
use Rattle.std.specs.Bool.{Decides}
use Rattle.std.specs.Cmp.{IsPartialEquivalence, IsEquivalence, on_per, on_equiv, and_per, and_equiv}
use Rattle.std.specs.Cmp.Lexicographic.{pointwise, lists_per, lists_equiv, pointwise_decides}
use Rattle.std.proofs.lemmas.Bool.Decides.{Decides-like, Decides-and}
use Rattle.std.proofs.lemmas.List.Elements.{All-map, All-contains}
use Rattle.std.proofs.lemmas.Map.Views.{All-keys_from_lookup, btree_map_contains_key_from_list}
use Rattle.base_values.specs.KeyMap.{with_entry, with_entries, same_entry, same_entries, IsInside}

module _ {K X : Type 0} (R : K → K → Ordering) (total : IsTotalOrder R) (exact : CmpEqualImpliesEq R) where
  find-lookup : (es : List (K × X)) (q : K) → find R q es ≡ lookup (is_at (R q)) es
  find-lookup [] q = refl
  find-lookup (e ∷ es) q = ap (cond (is_at (R q) e.0) (Some e.1)) (find-lookup es q)

  -- what the map that the entries make has at a key
  pub get-model : (es : List (K × X)) (q : K) → get (from_entries {R = R} es) q ≡ lookup (is_at (R q)) es
  get-model es q = get-from_entries total es q ∙ find-lookup es q

  at_key : (w : Option X) (es : List (K × X)) (key q : K) → get (with_entry (from_entries {R = R} es) key w) q ≡ cond (is_at (R key) q) w (lookup (is_at (R q)) es)
  at_key None es key q =
      get-remove total (from_entries es) key q ∙ ap (cond (is_at (R q) key) None) (get-model es q)
      ∙ ap (λ b. cond b None (lookup (is_at (R q)) es)) ((eq_by_cmp_equiv total).symm q key)
  at_key (Some v) es key q =
      get-insert total (from_entries es) key v q ∙ ap (cond (is_at (R q) key) (Some v)) (get-model es q)
      ∙ ap (λ b. cond b (Some v) (lookup (is_at (R q)) es)) ((eq_by_cmp_equiv total).symm q key)

  no_entries : (es : List (K × X)) → length es ≡ 0 → es ≡ []
  no_entries [] e = refl
  no_entries (x ∷ es) e = absurd (omega arith)

  first_place : (e : K × X) (es : List (K × X)) → IsStrictlySortedBy R (keys_of (e ∷ es)) → fin.put R e.0 e.1 es ≡ e ∷ es
  unfolding IsStrictlySortedBy
  first_place e [] h = refl
  first_place e (f ∷ fs) h = ap (λ o. by_order o (e ∷ f ∷ fs) ((f.0, e.1) ∷ fs) (f ∷ fin.put R e.0 e.1 fs)) h.0.0

  -- the entries of the map that entries in order make
  pub entries-model : (es : List (K × X)) → IsStrictlySortedBy R (keys_of es) → entries (from_entries {R = R} es) ≡ es
  unfolding IsStrictlySortedBy
  entries-model [] h = no_entries _ (sym (len-entries (empty {X = X} {R = R})) ∙ len-empty R X)
  entries-model (e ∷ es) h = entries-insert total (from_entries es) e.0 e.1 ∙ ap (fin.put R e.0 e.1) (entries-model es h.1) ∙ first_place e es h

  -- entries that differ at one key make maps that differ there
  pub with_entry-model : (es fs : List (K × X)) (key : K) (w : Option X)
      → ((q : K) → lookup (is_at (R q)) fs ≡ cond (is_at (R key) q) w (lookup (is_at (R q)) es))
      → from_entries {R = R} fs ≡ with_entry (from_entries es) key w
  with_entry-model es fs key w h = same_map total exact _ _ (λ q. get-model fs q ∙ h q ∙ sym (at_key w es key q))

  -- what the map has at a key into which entries are put one after another
  get-put : (m : FinMap R X) (es : List (K × X)) (f : K → Option X) → ((q : K) → get m q ≡ f q) → (q : K) → get (with_entries m es) q ≡ update_all (eq_by_cmp R) f es q
  get-put m [] f h q = h q
  get-put m (e ∷ es) f h q = get-put (insert m e.0 e.1) es (update (eq_by_cmp R) f e.0 (Some e.1)) (λ p.
      get-insert total m e.0 e.1 p
      ∙ ap (λ b. cond b (Some e.1) (get m p)) ((eq_by_cmp_equiv total).symm p e.0)
      ∙ ap (cond (eq_by_cmp R e.0 p) (Some e.1)) (h p)) q

  -- the map that is made of entries in one go has them put in one after another
  pub made_of_entries : (es : List (K × X)) (n : BTreeMap K X) → IsFromIterResult R es n → from_entries {R = R} n.entries ≡ with_entries empty es
  made_of_entries es n h = same_map total exact _ _ (λ q. get-model n.entries q ∙ h.0 q ∙ sym (get-put empty es (λ _. None) (get-empty R) q))

  -- and its keys are theirs
  pub inside_of_entries : (P : K → Type 0) (es : List (K × X)) (n : BTreeMap K X) → All (λ e. P e.0) es → IsFromIterResult R es n → IsInside R P n
  inside_of_entries P es n all h = record {
    ordered = h.1;
    inside = All-keys_from_lookup (eq_by_cmp_equiv total) P n.entries
        (λ q there. All-contains P (keys_of es) q (All-map P (λ e. e.0) es all) ((btree_map_contains_key_from_list total exact es n h q).0 there));
  }

module _ {K X : Type 0} {R : K → K → Ordering} {D : K → K → Bool} {E : X → X → Bool} where
  pub same_entries_laws : IsPartialEquivalence D → IsPartialEquivalence E → IsPartialEquivalence (same_entries D E {R = R})
  same_entries_laws g h = on_per entries (lists_per (and_per (on_per (λ p. p.0) g) (on_per (λ p. p.1) h)))

  pub same_entries_equiv : IsEquivalence D → IsEquivalence E → IsEquivalence (same_entries D E {R = R})
  same_entries_equiv g h = on_equiv entries (lists_equiv (and_equiv (on_equiv (λ p. p.0) g) (on_equiv (λ p. p.1) h)))

  pub same_entries_decides : ((a b : K) → Decides (D a b) (a ≡ b)) → ((a b : X) → Decides (E a b) (a ≡ b)) → (m n : FinMap R X) → Decides (same_entries D E m n) (m ≡ n)
  same_entries_decides one same m n =
      Decides-like _ (same_entries_map m n) (ap entries)
      (pointwise_decides (λ p q. Decides-like _ (λ h i. (h.0 i, h.1 i)) (λ e. (ap (λ x. x.0) e, ap (λ x. x.1) e)) (Decides-and _ _ (one p.0 q.0) (same p.1 q.1))) (entries m) (entries n))

-- equality of what stands for finite maps is told by those
pub same_seen_decides : {K X M : Type 0} {R : K → K → Ordering} {D : K → K → Bool} {E : X → X → Bool} (model : FinMap R X → M) (seen : M → FinMap R X) → ((map : M) → model (seen map) ≡ map)
    → ((a b : K) → Decides (D a b) (a ≡ b)) → ((a b : X) → Decides (E a b) (a ≡ b)) → (a b : M) → Decides (same_entries D E (seen a) (seen b)) (a ≡ b)
same_seen_decides model seen model_seen one same a b = Decides-like _ (λ e. sym (model_seen a) ∙ ap model e ∙ model_seen b) (ap seen) (same_entries_decides one same (seen a) (seen b))

pub IsOrdered-same : {K X : Type 0} (R : K → K → Ordering) (m n : BTreeMap K X) → n.entries ≡ m.entries → IsOrdered R m → IsOrdered R n
IsOrdered-same R m n e h = subst (λ es. IsStrictlySortedBy R (keys_of es)) (sym e) h

module _ {K X : Type 0} {R : K → K → Ordering} where
  module _ (total : IsTotalOrder R) (exact : CmpEqualImpliesEq R) where
    pub same_entries-model : (D : K → K → Bool) (E : X → X → Bool) (m n : BTreeMap K X) → IsOrdered R m → IsOrdered R n
        → same_entries D E {R = R} (from_entries m.entries) (from_entries n.entries) ≡ pointwise (same_entry D E) m.entries n.entries
    same_entries-model D E m n h k = λ i. pointwise (same_entry D E) (entries-model R total exact m.entries h i) (entries-model R total exact n.entries k i)

    -- the finite map of a map has its keys
    pub keys-model : (m : BTreeMap K X) → IsOrdered R m → fin.keys (from_entries {R = R} m.entries) ≡ keys m
    keys-model m h = ap (map (λ e. e.0)) (entries-model R total exact m.entries h)

pub IsInside-same : {K X : Type 0} {R : K → K → Ordering} {P : K → Type 0} (m n : BTreeMap K X) → n.entries ≡ m.entries → IsInside R P m → IsInside R P n
IsInside-same {R = R} {P = P} m n e h = record {
  ordered = IsOrdered-same R m n e h.ordered;
  inside = subst (λ es. All P (keys_of es)) (sym e) h.inside;
}

-- what holds of each f of an item
pub All-unmap : {X Y : Type 0} (P : Y → Type 0) (f : X → Y) (xs : List X) → All P (map f xs) → All (λ x. P (f x)) xs
All-unmap P f xs h = λ k d within. let long : k < length (map f xs) = simp length-map within in subst P (get_or-map f xs k d) (h k (f d) long)

module _ {K X : Type 0} {R : K → K → Ordering} (total : IsTotalOrder R) where
  -- what a map has at a key after one entry was set
  pub get-with_entry : (m : FinMap R X) (key : K) (w : Option X) (q : K) → get (with_entry m key w) q ≡ cond (eq_by_cmp R q key) w (get m q)
  get-with_entry m key None q = get-remove total m key q
  get-with_entry m key (Some v) q = get-insert total m key v q

  restored : (m : FinMap R X) (key q : K) (w : Option X) (b : Bool) → eq_by_cmp R q key ≡ b → cond b (get m key) (cond b w (get m q)) ≡ get m q
  restored m key q w true e = get_tied total m q key (tied (R q key) e)
    where
      tied : (o : Ordering) → is_eq o ≡ true → o ≡ Equal
      tied Less p = cc
      tied Equal p = refl
      tied Greater p = cc
  restored m key q w false e = refl

  -- an entry put back gives the map back
  pub with_entry-back : CmpEqualImpliesEq R → (m : FinMap R X) (key : K) (w : Option X) → with_entry (with_entry m key w) key (get m key) ≡ m
  with_entry-back exact m key w = same_map total exact _ _ (λ q.
      get-with_entry (with_entry m key w) key (get m key) q
      ∙ ap (cond (eq_by_cmp R q key) (get m key)) (get-with_entry m key w q)
      ∙ restored m key q w (eq_by_cmp R q key) refl)
