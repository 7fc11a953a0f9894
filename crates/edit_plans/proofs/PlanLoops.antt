-- A loop over a planned map that adds the changes of its entries.
use Rattle.std.proofs.Common.{◌≡◌, List, [], ◌∷◌, ◌++◌, map, Option, Some, None, ap, sym, ◌∙◌, append_assoc}
use Rattle.std.specs.List.{flat_map}
use Rattle.std.specs.Cmp.{IsTotalOrder}
use Rattle.std.specs.declared.cmp.Ordering.{Ordering}
use Rattle.std.specs.Map.Iter.{TakesFirst}
use Rattle.std.proofs.lemmas.List.{append-nil}
use Rattle.std.proofs.lemmas.Map.Iter.{rest_more, rest_all}
use Rattle.std.proofs.lemmas.Map.Lookups.{CmpEqualImpliesEq}
use Rattle.std.specs.FinMap.{FinMap, entries, get}
use Rattle.base_maps.specs.laws.Turns.{turn_seen, turn_held}
use Rattle.sheet_history.specs.declared.Diff.{Diff}
use Rattle.sheet_history.specs.Diffs.{IsCanonicalList}

-- the entries seen and those left are all, and the list has the changes of those seen behind what it had
pub record Adds {A K X : Type 0} {R : K → K → Ordering} (shows : A → K × X) (diffs_of : K × X → List Diff) (plan : FinMap R X)
    (own : List Diff) (seen : List A) (left : List (K × X)) (diffs : List Diff) : Type 0 where
  pub all : map shows seen ++ left ≡ entries plan
  pub now : diffs ++ flat_map diffs_of left ≡ own ++ flat_map diffs_of (entries plan)
  pub canonical : IsCanonicalList diffs

module _ {A K X : Type 0} (R : K → K → Ordering) (total : IsTotalOrder R) (exact : CmpEqualImpliesEq R) {shows : A → K × X} {diffs_of : K × X → List Diff}
    {plan : FinMap R X} {own : List Diff} {seen : List A} {left : List (K × X)} {before : List Diff} (so_far : Adds shows diffs_of plan own seen left before)
  where
    -- the entry at hand is what is planned at its key
    pub adds_held : (rest : List (K × X)) {r : Option A} (y : A) → r ≡ Some y → TakesFirst shows left r rest → get plan (shows y).0 ≡ Some (shows y).1
    adds_held rest {r = r} y is steps = turn_held R total exact shows plan seen y left rest so_far.all (rest_more shows left rest r y is steps)

    -- and is seen now
    pub adds_on : {rest : List (K × X)} {r : Option A} {after : List Diff} (y : A) → r ≡ Some y → TakesFirst shows left r rest
        → after ≡ before ++ diffs_of (shows y) → IsCanonicalList after → Adds shows diffs_of plan own (seen ++ y ∷ []) rest after
    adds_on {rest = rest} {r = r} {after = after} y is steps now kept = record {
      all = turn_seen R total exact shows plan seen y left rest so_far.all (rest_more shows left rest r y is steps);
      now = ap (λ ds. ds ++ flat_map diffs_of rest) now ∙ append_assoc before (diffs_of (shows y)) (flat_map diffs_of rest)
          ∙ sym (ap (λ es. before ++ flat_map diffs_of es) (rest_more shows left rest r y is steps)) ∙ so_far.now;
      canonical = kept;
    }

    -- all are seen
    pub adds_all : (rest : List (K × X)) {r : Option A} → r ≡ None → TakesFirst shows left r rest → before ≡ own ++ flat_map diffs_of (entries plan)
    adds_all rest {r = r} is steps =
        sym (append-nil before) ∙ sym (ap (λ es. before ++ flat_map diffs_of es) (rest_all shows left rest r is steps)) ∙ so_far.now
