-- Answers for a map in the order of its keys, of which contracts see what stands for the finite map of its entries.
use Rattle.std.proofs.Common.{◌≡◌, ◌↔◌, ℕ, Bool, false, IsTrue, nat_eq, cond, List, [], ◌∷◌, ◌++◌, Option, Some, None, length, refl, sym, ap, subst, ◌∙◌}
use Rattle.std.specs.declared.cmp.Ordering.{Ordering}
use Rattle.std.specs.Bool.{Decides}
use Rattle.std.specs.Cmp.{IsTotalOrder, unsigned_Decides}
use Rattle.std.specs.Cmp.Lexicographic.{pointwise}
use Rattle.std.specs.BTreeMap.{BTreeMap, IsOrdered, IsFromIterResult, insert_entry, is_at, keys, btree_map_len}
use Rattle.std.specs.FinMap as fin
use Rattle.std.specs.FinMap.{FinMap, from_entries, len-entries, len-empty, empty_of_len}
use Rattle.std.specs.List.{All, AllZip}
use Rattle.std.specs.Map.{lookup, keys_of, remove_entry}
use Rattle.std.specs.Ordering.{is_eq, is_gt, is_lt, is_le, ordering_reverse}
use Rattle.std.specs.Option.{IfSome, IsSome}
use Rattle.std.specs.List.{slice_get, filter}
use Rattle.std.specs.declared.ops.Bound.TheVariants.{Included, Unbounded}
use Rattle.std.specs.declared.cmp.Ordering.TheVariants.{Less, Equal, Greater}
use Rattle.std.specs.BTreeMap.Range.{IsRangeOf, IsEntryInRange, IsLeBy, entries_between}
use Rattle.std.proofs.Math.Bool.{and-true}
use Rattle.std.proofs.lemmas.Map.Entries.{entries_from_clone}
use Rattle.std.proofs.lemmas.Map.Lookups.{CmpEqualImpliesEq}
use Rattle.std.proofs.lemmas.Map.Views.{All-keys-insert_entry, All-map-remove_entry}
use Rattle.base_values.specs.KeyMap.{with_entry, with_entries, same_entry, same_entries, from_key, IsFirstFrom, IsLastUpTo, IsInside}
use Rattle.base_values.specs.laws.KeyMap.{get-model, entries-model, keys-model, with_entry-model, made_of_entries, inside_of_entries}

-- the code compares keys by S, whose equality is D. What contracts see stands for a map in the same order, R
module _ {K X M : Type 0} {S R : K → K → Ordering} {D : K → K → Bool}
    (same : S ≡ R) (total : IsTotalOrder S) (equals : (a b : K) → Decides (D a b) (a ≡ b)) (ties : (a b : K) → D a b ≡ is_eq (S a b))
    (model : FinMap R X → M) (seen : M → FinMap R X) (seen_model : (m : FinMap R X) → seen (model m) ≡ m) where
  total_seen : IsTotalOrder R
  total_seen = subst IsTotalOrder same total

  exact_code : CmpEqualImpliesEq S
  exact_code a b tied = (equals a b).0 (ties a b ∙ ap is_eq tied)

  exact_seen : CmpEqualImpliesEq R
  exact_seen = subst CmpEqualImpliesEq same exact_code

  module _ (n : BTreeMap K X) (map : M) (is : model (from_entries n.entries) ≡ map) where
    seen_is : from_entries n.entries ≡ seen map
    seen_is = sym (seen_model (from_entries n.entries)) ∙ ap seen is

    -- what the entries have at a key
    pub read : (key : K) (r : Option X) → r ≡ lookup (is_at (S key)) n.entries → r ≡ fin.get (seen map) key
    read key r found =
        found ∙ ap (λ (O : K → K → Ordering). lookup (is_at (O key)) n.entries) same
        ∙ sym (get-model R total_seen exact_seen n.entries key) ∙ ap (λ m. fin.get m key) seen_is

    -- entries that differ at one key
    pub changed : (o : BTreeMap K X) (key : K) (w : Option X)
        → ((q : K) → lookup (is_at (S q)) o.entries ≡ cond (is_at (S key) q) w (lookup (is_at (S q)) n.entries))
        → seen (model (from_entries o.entries)) ≡ with_entry (seen map) key w
    changed o key w there =
        seen_model (from_entries o.entries)
        ∙ with_entry-model R total_seen exact_seen n.entries o.entries key w
        (subst (λ (O : K → K → Ordering). (q : K) → lookup (is_at (O q)) o.entries ≡ cond (is_at (O key) q) w (lookup (is_at (O q)) n.entries)) same there)
        ∙ ap (λ m. with_entry m key w) seen_is

    -- a key that the entries hold
    found : (q : K) → IsSome (fin.get (seen map) q) → IsSome (lookup (is_at (S q)) n.entries)
    found q there = subst IsSome (sym (read q _ refl)) there

    -- the first of the entries from a key on
    pub first-seen : (key : K) (r : List (K × X)) → IsRangeOf S (Included key) Unbounded n r → (e : K × X) (t : List (K × X)) → r ≡ e ∷ t → IsFirstFrom (seen map) key (Some e)
    first-seen key r h e t is =
        let at : IsEntryInRange S (Included key) Unbounded n e = subst (λ xs. IfSome (slice_get xs 0) (IsEntryInRange S (Included key) Unbounded n)) is h.1
        in (
          sym (read e.0 (Some e.1) (sym at.1)),
          subst (λ O. IsLeBy O key e.0) same at.0.0,
          λ q below there.
              subst (λ O. IsLeBy O e.0 q) same
              (subst (λ xs. IfSome (slice_get xs 0) (λ f. IsLeBy S f.0 q)) is (h.2 q (subst (λ O. IsLeBy O key q) (sym same) below, tt) (found q there))),
        )

    pub none_from-seen : (key : K) (r : List (K × X)) → IsRangeOf S (Included key) Unbounded n r → r ≡ [] → IsFirstFrom (seen map) key None
    none_from-seen key r h is = λ q below. sym (read q None (sym (h.5 is q (subst (λ O. IsLeBy O key q) (sym same) below, tt))))

    -- the last of the entries up to a key
    pub last-seen : (key : K) (r : List (K × X)) → IsRangeOf S Unbounded (Included key) n r → (e : K × X) (t : List (K × X)) → r ≡ t ++ e ∷ [] → IsLastUpTo (seen map) key (Some e)
    last-seen key r h e t is = (
      sym (read e.0 (Some e.1) (sym (h.3 e t is).1)),
      subst (λ O. IsLeBy O e.0 key) same (h.3 e t is).0.1,
      λ q below there.
          ap is_gt (total_seen.antisymm q e.0) ∙ turned (R e.0 q)
          ∙ subst (λ O. is_lt (O e.0 q) ≡ false) same (h.4 e t is q (tt, subst (λ O. IsLeBy O q key) (sym same) below) (found q there)),
    )
      where
        turned : (o : Ordering) → is_gt (ordering_reverse o) ≡ is_lt o
        turned Less = refl
        turned Equal = refl
        turned Greater = refl

    pub none_up_to-seen : (key : K) (r : List (K × X)) → IsRangeOf S Unbounded (Included key) n r → r ≡ [] → IsLastUpTo (seen map) key None
    none_up_to-seen key r h is = λ q below. sym (read q None (sym (h.5 is q (tt, subst (λ O. IsLeBy O q key) (sym same) below))))

    module _ (ordered : IsOrdered R n) where
      pub entries-seen : n.entries ≡ fin.entries (seen map)
      entries-seen = sym (entries-model R total_seen exact_seen n.entries ordered) ∙ ap fin.entries seen_is

      pub from_key-seen : (key : K) (r : List (K × X)) → r ≡ entries_between S (Included key) Unbounded n.entries → r ≡ from_key R key (fin.entries (seen map))
      from_key-seen key r between =
          between ∙ (λ i. filter (λ e. and-true (is_le (S key e.0)) i) n.entries) ∙ ap (λ (O : K → K → Ordering). filter (λ e. is_le (O key e.0)) n.entries) same
          ∙ ap (from_key R key) entries-seen

      pub keys-seen : keys n ≡ fin.keys (seen map)
      keys-seen = sym (keys-model total_seen exact_seen n ordered) ∙ ap fin.keys seen_is

      pub len-seen : btree_map_len n ≡ fin.len (seen map)
      len-seen = ap length entries-seen ∙ sym (len-entries (seen map))

  pub same-seen : (E : X → X → Bool) (n : BTreeMap K X) (map : M) → model (from_entries n.entries) ≡ map → IsOrdered R n
      → (o : BTreeMap K X) (other : M) → model (from_entries o.entries) ≡ other → IsOrdered R o
      → pointwise (same_entry D E) n.entries o.entries ≡ same_entries D E (seen map) (seen other)
  same-seen E n map is ordered o other is_too ordered_too =
      λ i. pointwise (same_entry D E) (entries-seen n map is ordered i) (entries-seen o other is_too ordered_too i)

  -- the map that is made of entries in one go
  module _ (P : K → Type 0) (es : List (K × X)) (n : BTreeMap K X) (gathered : IsFromIterResult S es n) where
    gathered_seen : IsFromIterResult R es n
    gathered_seen = subst (λ (O : K → K → Ordering). IsFromIterResult O es n) same gathered

    pub model-seen : seen (model (from_entries n.entries)) ≡ with_entries fin.empty es
    model-seen = seen_model (from_entries n.entries) ∙ made_of_entries R total_seen exact_seen es n gathered_seen

    pub inside-model : All (λ e. P e.0) es → IsInside R P n
    inside-model all = inside_of_entries R total_seen exact_seen P es n all gathered_seen

-- the keys are inside after a change
module _ {K X : Type 0} {S R : K → K → Ordering} (same : S ≡ R) (P : K → Type 0) (n o : BTreeMap K X) (inside : IsInside R P n) (ordered : IsOrdered S o) where
  pub inside-put : (key : K) (value : X) → P key → o.entries ≡ insert_entry S n.entries key value → IsInside R P o
  inside-put key value fits put = record {
    ordered = subst (λ (O : K → K → Ordering). IsOrdered O o) same ordered;
    inside = subst (λ es. All P (keys_of es)) (sym put) (All-keys-insert_entry S key value P n.entries inside.inside fits);
  }

  pub inside-without : (test : K → Bool) → o.entries ≡ remove_entry test n.entries → IsInside R P o
  inside-without test gone = record {
    ordered = subst (λ (O : K → K → Ordering). IsOrdered O o) same ordered;
    inside = subst (λ es. All P (keys_of es)) (sym gone) (All-map-remove_entry test (λ e. e.0) P n.entries inside.inside);
  }

-- a map is empty where this test of its length says so
pub empty-seen : {K X : Type 0} {R : K → K → Ordering} (m : FinMap R X) (n : ℕ) → n ≡ fin.len m → IsTrue (nat_eq n 0) ↔ (m ≡ fin.empty)
empty-seen {X = X} {R = R} m n e =
    (λ zero. empty_of_len m (sym e ∙ (unsigned_Decides n 0).0 zero), λ empty. (unsigned_Decides n 0).1 (e ∙ ap fin.len empty ∙ len-empty R X))

-- entries that were cloned are the same
pub cloned : {K X : Type 0} {C : K → K → Type 0} {D : X → X → Type 0} → ((v w : K) → C v w → w ≡ v) → ((v w : X) → D v w → w ≡ v) → (es fs : List (K × X))
    → AllZip (λ p q. C p.0 q.0 × D p.1 q.1) es fs → fs ≡ es
cloned keys values es fs each = entries_from_clone _ _ keys values es fs each
