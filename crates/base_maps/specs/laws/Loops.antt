-- Loops over the entries of a map.
use Rattle.std.proofs.Common.{◌≡◌, List, [], ◌∷◌, ◌++◌, map, Option, Some, None, ◌∙◌}
use Rattle.std.proofs.lemmas.Map.Iter.{rest_more, rest_all}
use Rattle.std.proofs.lemmas.Map.Lookups.{CmpEqualImpliesEq}
use Rattle.std.specs.declared.cmp.Ordering.{Ordering}
use Rattle.std.specs.Cmp.{IsTotalOrder}
use Rattle.std.specs.List.{filter_map}
use Rattle.std.specs.Map.Iter.{TakesFirst}
use Rattle.std.specs.FinMap.{FinMap, entries, from_entries, get, insert}
use Rattle.base_maps.specs.Carried.{Inverse, entry_made, gathered, overlaid}
use Rattle.base_maps.specs.laws.Gathering.{with_made}
use Rattle.base_maps.specs.laws.Turns.{turn_seen, turn_held, turn_made, turn_laid, end_made, end_laid}

-- the entries seen and those left are all, and the map has what those seen have made
pub record Made {A K X Y : Type 0} {R : K → K → Ordering} (shows : A → K × X) (to : K → Option K) (make : K → K → X → Option Y) (m : FinMap R X) (seen : List A) (left : List (K × X)) (output : FinMap R Y) : Type 0 where
  pub all : map shows seen ++ left ≡ entries m
  pub now : output ≡ from_entries (filter_map (entry_made to make) (map shows seen))

-- the entries seen and those left are all, and the map has those seen in place of its own
pub record Laid {A K X : Type 0} {R : K → K → Ordering} (shows : A → K × X) (m own : FinMap R X) (seen : List A) (left : List (K × X)) (output : FinMap R X) : Type 0 where
  pub all : map shows seen ++ left ≡ entries m
  pub now : output ≡ overlaid (from_entries (map shows seen)) own

module _ {A K X : Type 0} {R : K → K → Ordering} (total : IsTotalOrder R) (exact : CmpEqualImpliesEq R) {shows : A → K × X} {m : FinMap R X} {seen : List A} {left : List (K × X)} where
  module _ {Y : Type 0} {to : K → Option K} {make : K → K → X → Option Y} {before : FinMap R Y} (so_far : Made shows to make m seen left before) where
    -- the entry at hand is what the map has at its key
    pub made_held : (rest : List (K × X)) {r : Option A} (y : A) → r ≡ Some y → TakesFirst shows left r rest → get m (shows y).0 ≡ Some (shows y).1
    made_held rest {r = r} y is steps = turn_held R total exact shows m seen y left rest so_far.all (rest_more shows left rest r y is steps)

    -- and is seen now
    pub made_on : {from : K → Option K} → Inverse to from → {rest : List (K × X)} {r : Option A} {after : FinMap R Y} (y : A) → r ≡ Some y → TakesFirst shows left r rest →
        after ≡ with_made (entry_made to make (shows y)) before → Made shows to make m (seen ++ y ∷ []) rest after
    made_on {from = from} i {rest = rest} {r = r} {after = after} y is steps now = record {
      all = turn_seen R total exact shows m seen y left rest so_far.all (rest_more shows left rest r y is steps);
      now = turn_made R total exact shows m seen y left rest so_far.all (rest_more shows left rest r y is steps) to from i make before after so_far.now now;
    }

    -- all entries are seen
    pub made_all : {from : K → Option K} → Inverse to from → (rest : List (K × X)) {r : Option A} → r ≡ None → TakesFirst shows left r rest →
        before ≡ gathered to from make m
    made_all {from = from} i rest {r = r} is steps =
        so_far.now ∙ end_made R total exact shows m seen left so_far.all (rest_all shows left rest r is steps) to from i make

  module _ {own before : FinMap R X} (so_far : Laid shows m own seen left before) where
    pub laid_held : (rest : List (K × X)) {r : Option A} (y : A) → r ≡ Some y → TakesFirst shows left r rest → get m (shows y).0 ≡ Some (shows y).1
    laid_held rest {r = r} y is steps = turn_held R total exact shows m seen y left rest so_far.all (rest_more shows left rest r y is steps)

    pub laid_on : {rest : List (K × X)} {r : Option A} {after : FinMap R X} (y : A) → r ≡ Some y → TakesFirst shows left r rest → after ≡ insert before (shows y).0 (shows y).1 → Laid shows m own (seen ++ y ∷ []) rest after
    laid_on {rest = rest} {r = r} {after = after} y is steps now = record {
      all = turn_seen R total exact shows m seen y left rest so_far.all (rest_more shows left rest r y is steps);
      now = turn_laid R total exact shows m seen y left rest so_far.all (rest_more shows left rest r y is steps) own before after so_far.now now;
    }

    pub laid_all : (rest : List (K × X)) {r : Option A} → r ≡ None → TakesFirst shows left r rest → before ≡ overlaid m own
    laid_all rest {r = r} is steps = so_far.now ∙ end_laid R total exact shows m seen left so_far.all (rest_all shows left rest r is steps) own
