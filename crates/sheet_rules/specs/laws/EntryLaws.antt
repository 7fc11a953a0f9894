-- A test of all entries of a map is that test at each key.
use Rattle.std.proofs.Common.{◌≡◌, Bool, true, false, cond, ◌&&◌, List, [], ◌∷◌, Option, Some, None, refl, ap, sym, ◌∙◌, T}
use Rattle.std.specs.Prelude.{IsTrue}
use Rattle.std.specs.List.{list_all}
use Rattle.std.specs.Cmp.{IsTotalOrder, tied_itself}
use Rattle.std.specs.Ordering.{is_eq, is_lt, eq_by_cmp}
use Rattle.std.specs.declared.cmp.Ordering.{Ordering}
use Rattle.std.specs.declared.cmp.Ordering.TheVariants.{Less, Equal, Greater}
use Rattle.std.specs.FinMap.Entries.{find, is_sorted, below_all}
use Rattle.std.specs.FinMap.{FinMap, entries, entries_sorted, get, get-entries}
use Rattle.std.proofs.lemmas.Map.Lookups.{CmpEqualImpliesEq}

-- both of two tests that pass
pub both : (a b : Bool) → (a && b) ≡ true → (a ≡ true) × (b ≡ true)
both true b h = (refl, h)
both false b h = cc

pub left : (a b : Bool) → T (a && b) → T a
left true b h = tt
left false b h = absurd h

pub right : (a b : Bool) → T (a && b) → T b
right true b h = h
right false b h = absurd h

pub less : (o : Ordering) → T (is_lt o) → is_eq o ≡ false
less Less h = refl
less Equal h = absurd h
less Greater h = absurd h

pub equal : (o : Ordering) → is_eq o ≡ true → o ≡ Equal
equal Less h = cc
equal Equal h = refl
equal Greater h = cc

module _ {K X : Type 0} (R : K → K → Ordering) (total : IsTotalOrder R) (exact : CmpEqualImpliesEq R) (passes : K → Option X → Bool) (none : (key : K) → passes key None ≡ true) where
  -- the value that is found passes, where all entries do
  pub found_passes : (es : List (K × X)) → list_all (λ e. passes e.0 (Some e.1)) es ≡ true → (key : K) → passes key (find R key es) ≡ true
  found_passes [] all key = none key
  found_passes (e ∷ es) all key = either (eq_by_cmp R key e.0) refl (found_passes es (both _ _ all).1 key)
    where
      either : (b : Bool) → eq_by_cmp R key e.0 ≡ b → passes key (find R key es) ≡ true → passes key (cond b (Some e.1) (find R key es)) ≡ true
      either true is later = ap (λ k. passes k (Some e.1)) (exact key e.0 (equal (R key e.0) is)) ∙ (both _ _ all).0
      either false is later = later

  -- a key below all others is not found among them
  pub not_found : (key : K) (es : List (K × X)) → T (below_all R key es) → find R key es ≡ None
  not_found key [] below = refl
  not_found key (e ∷ es) below = ap (λ b. cond b (Some e.1) (find R key es)) (less (R key e.0) (left _ _ below)) ∙ not_found key es (right _ _ below)

  -- all entries pass, where what is found at each key does
  pub entries_pass : (es : List (K × X)) → T (is_sorted R es) → ((key : K) → passes key (find R key es) ≡ true) → list_all (λ e. passes e.0 (Some e.1)) es ≡ true
  entries_pass [] sorted found = refl
  entries_pass (e ∷ es) sorted found =
      ap (λ b. b && list_all (λ f. passes f.0 (Some f.1)) es) first ∙ entries_pass es (right _ _ sorted) (λ key. later key (eq_by_cmp R key e.0) refl)
    where
      first : passes e.0 (Some e.1) ≡ true
      first = ap (λ o. passes e.0 (cond (is_eq o) (Some e.1) (find R e.0 es))) (sym (tied_itself total e.0)) ∙ found e.0

      later : (key : K) (b : Bool) → eq_by_cmp R key e.0 ≡ b → passes key (find R key es) ≡ true
      later key true is =
          ap (λ k. passes key (find R k es)) (exact key e.0 (equal (R key e.0) is)) ∙ ap (passes key) (not_found e.0 es (left _ _ sorted)) ∙ none key
      later key false is = ap (λ b. passes key (cond b (Some e.1) (find R key es))) (sym is) ∙ found key

  -- so it is in a map
  pub passes_at_from_all : (m : FinMap R X) → list_all (λ e. passes e.0 (Some e.1)) (entries m) ≡ true → (key : K) → IsTrue (passes key (get m key))
  passes_at_from_all m all key = ap (passes key) (get-entries m key) ∙ found_passes (entries m) all key

  pub all_from_passes_at : (m : FinMap R X) → ((key : K) → IsTrue (passes key (get m key))) → list_all (λ e. passes e.0 (Some e.1)) (entries m) ≡ true
  all_from_passes_at m each = entries_pass (entries m) (entries_sorted m) (λ key. ap (passes key) (sym (get-entries m key)) ∙ each key)
