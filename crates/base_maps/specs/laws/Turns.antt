-- A turn of a loop over the entries of a map.
use Rattle.std.proofs.Common.{◌≡◌, suc, arith, subst, List, [], ◌∷◌, ◌++◌, map, Option, Some, ap, sym, ◌∙◌, append_assoc}
use Rattle.std.proofs.lemmas.List.{append-nil}
use Rattle.std.proofs.lemmas.Map.Lookups.{CmpEqualImpliesEq}
use Rattle.std.specs.declared.cmp.Ordering.{Ordering}
use Rattle.std.specs.Cmp.{IsTotalOrder}
use Rattle.std.specs.List.{All, filter_map}
use Rattle.std.specs.FinMap.{FinMap, entries, from_entries, from_entries_push, get, insert}
use Rattle.base_maps.specs.Carried.{entry_made, gathered, overlaid}
use Rattle.base_maps.specs.Carried.{Inverse}
use Rattle.base_maps.specs.laws.Gathering.{with_made, gathered_by_turns, gathered_more, rises_of, held_between, overlaid_more, own_entries}
use Rattle.base_maps.specs.laws.Keys.{not_before}

map_push : {A X : Type 0} (shows : A → X) (ys : List A) (y : A) → map shows (ys ++ y ∷ []) ≡ map shows ys ++ shows y ∷ []
map_push shows [] y = λ i. shows y ∷ []
map_push shows (z ∷ ys) y = ap (λ es. shows z ∷ es) (map_push shows ys y)

module _ {A K X : Type 0} (R : K → K → Ordering) (total : IsTotalOrder R) (exact : CmpEqualImpliesEq R) (shows : A → K × X) (m : FinMap R X) (ys : List A) (y : A) (left rest : List (K × X))
    (all : map shows ys ++ left ≡ entries m) (step : left ≡ shows y ∷ rest) where
  split : map shows ys ++ shows y ∷ rest ≡ entries m
  split = ap (λ es. map shows ys ++ es) (sym step) ∙ all

  -- the entry is seen now
  pub turn_seen : map shows (ys ++ y ∷ []) ++ rest ≡ entries m
  turn_seen = ap (λ es. es ++ rest) (map_push shows ys y) ∙ append_assoc (map shows ys) (shows y ∷ []) rest ∙ split

  -- it is what the map has at its key
  pub turn_held : get m (shows y).0 ≡ Some (shows y).1
  turn_held = held_between R total exact m (map shows ys) (shows y) rest split

  -- what was made goes on with what is made of it
  pub turn_made : {Y : Type 0} (to from : K → Option K) → Inverse to from → (make : K → K → X → Option Y) (before after : FinMap R Y) →
      before ≡ from_entries (filter_map (entry_made to make) (map shows ys)) → after ≡ with_made (entry_made to make (shows y)) before →
      after ≡ from_entries (filter_map (entry_made to make) (map shows (ys ++ y ∷ [])))
  turn_made to from i make before after was now =
      now ∙ ap (with_made (entry_made to make (shows y))) was
      ∙ sym (ap (λ es. from_entries (filter_map (entry_made to make) es)) (map_push shows ys y)
      ∙ gathered_more R total exact to from i make (map shows ys) (shows y) rest (rises_of m (map shows ys) (shows y) rest split))

  -- what is laid over a map goes on with it
  pub turn_laid : (own before after : FinMap R X) → before ≡ overlaid (from_entries (map shows ys)) own → after ≡ insert before (shows y).0 (shows y).1 →
      after ≡ overlaid (from_entries (map shows (ys ++ y ∷ []))) own
  turn_laid own before after was now =
      now ∙ ap (λ n. insert n (shows y).0 (shows y).1) was
      ∙ overlaid_more R total exact (from_entries (map shows ys)) own (shows y).0 (shows y).1
      ∙ sym (ap (λ es. overlaid (from_entries es) own) (map_push shows ys y)
      ∙ ap (λ n. overlaid n own) (from_entries_push total exact (map shows ys) (shows y).0 (shows y).1
      (not_before R total exact (map shows ys) (shows y) rest (rises_of m (map shows ys) (shows y) rest split))))

module _ {A K X : Type 0} (R : K → K → Ordering) (total : IsTotalOrder R) (exact : CmpEqualImpliesEq R) (shows : A → K × X) (m : FinMap R X) (ys : List A) (left : List (K × X))
    (all : map shows ys ++ left ≡ entries m) (over : left ≡ []) where
  whole : map shows ys ≡ entries m
  whole = sym (append-nil (map shows ys)) ∙ ap (λ es. map shows ys ++ es) (sym over) ∙ all

  -- all entries are seen
  pub end_made : {Y : Type 0} (to from : K → Option K) → Inverse to from → (make : K → K → X → Option Y) →
      from_entries {R = R} (filter_map (entry_made to make) (map shows ys)) ≡ gathered to from make m
  end_made to from i make = ap (λ es. from_entries (filter_map (entry_made to make) es)) whole ∙ gathered_by_turns R total exact to from i make m

  pub end_laid : (own : FinMap R X) → overlaid (from_entries (map shows ys)) own ≡ overlaid m own
  end_laid own = ap (λ es. overlaid (from_entries es) own) whole ∙ ap (λ n. overlaid n own) (own_entries R total exact m)

-- what holds of all entries that are left holds of the first of them, and of those behind it
module _ {E : Type 0} (P : E → Type 0) {left rest : List E} {e : E} (all : All P left) (step : left ≡ e ∷ rest) where
  all_now : All P (e ∷ rest)
  all_now = subst (All P) step all

  pub first_holds : P e
  first_holds = all_now 0 e (omega arith)

  pub rest_hold : All P rest
  rest_hold = λ k d lt. all_now (suc k) d (omega arith)
