-- Loops that list what the entries of a map make, each where its key goes.
use Rattle.std.proofs.Common.{◌≡◌, List, [], ◌∷◌, ◌++◌, map, Option, Some, None, refl, ap, sym, subst, ◌∙◌}
use Rattle.std.specs.declared.cmp.Ordering.{Ordering}
use Rattle.std.specs.Cmp.{IsTotalOrder}
use Rattle.std.specs.FinMap.{FinMap, empty, entries, get}
use Rattle.std.specs.List.{All, cons_option, filter_map}
use Rattle.std.specs.Map.Iter.{TakesFirst}
use Rattle.std.proofs.lemmas.List.{append-nil, map-append}
use Rattle.std.proofs.lemmas.List.Elements.{All-append, All-cons, All-nil, filter_map-append}
use Rattle.std.proofs.lemmas.Map.Iter.{rest_more, rest_all}
use Rattle.std.proofs.lemmas.Map.Lookups.{CmpEqualImpliesEq}
use Rattle.base_values.specs.KeyMap.{with_entries}
use Rattle.base_maps.specs.Carried.{Inverse, entry_made, gathered, if_there}
use Rattle.base_maps.specs.laws.Gathering.{gathered_in_turn}
use Rattle.base_maps.specs.laws.Turns.{turn_seen, turn_held}

-- the entries seen and those left are all, and those seen have made the list, under keys that are inside
pub record Listed {A K X Y : Type 0} {R : K → K → Ordering} (Inside : K → Type 0) (shows : A → K × X) (to : K → Option K) (make : K → K → X → Option Y)
    (m : FinMap R X) (seen : List A) (left : List (K × X)) (output : List (K × Y)) : Type 0 where
  pub all : map shows seen ++ left ≡ entries m
  pub now : output ≡ filter_map (entry_made to make) (map shows seen)
  pub inside : All (λ (entry : K × Y). Inside entry.0) output

module _ {K X Y : Type 0} (Inside : K → Type 0) (make : K → K → X → Option Y) where
  abbrev KeyInside : K × Y → Type 0
  KeyInside entry = Inside entry.0

  value_inside : (q : K) → Inside q → (y : Option Y) → All KeyInside (cons_option (if_there y (λ y. Some (q, y))) [])
  value_inside q h None = All-nil KeyInside
  value_inside q h (Some y) = All-cons KeyInside (q, y) [] h (All-nil KeyInside)

  -- an entry that is made is inside, where the key does that it goes to
  entry_inside : (p : K) (x : X) (t : Option K) → ((q : K) → t ≡ Some q → Inside q) →
      All KeyInside (cons_option (if_there t (λ q. if_there (make p q x) (λ y. Some (q, y)))) [])
  entry_inside p x None h = All-nil KeyInside
  entry_inside p x (Some q) h = value_inside q (h q refl) (make p q x)

module _ {A K X Y : Type 0} {R : K → K → Ordering} (total : IsTotalOrder R) (exact : CmpEqualImpliesEq R)
    {Inside : K → Type 0} {shows : A → K × X} {to : K → Option K} {make : K → K → X → Option Y} {m : FinMap R X}
    {seen : List A} {left : List (K × X)} {before : List (K × Y)} (so_far : Listed Inside shows to make m seen left before) where
  -- the entry at hand is what the map has at its key
  pub listed_held : (rest : List (K × X)) {r : Option A} (y : A) → r ≡ Some y → TakesFirst shows left r rest → get m (shows y).0 ≡ Some (shows y).1
  listed_held rest {r = r} y is steps = turn_held R total exact shows m seen y left rest so_far.all (rest_more shows left rest r y is steps)

  -- and is seen now
  pub listed_on : {rest : List (K × X)} {r : Option A} {after : List (K × Y)} (y : A) → r ≡ Some y → TakesFirst shows left r rest →
      ((q : K) → to (shows y).0 ≡ Some q → Inside q) →
      after ≡ before ++ cons_option (entry_made to make (shows y)) [] → Listed Inside shows to make m (seen ++ y ∷ []) rest after
  listed_on {rest = rest} {r = r} {after = after} y is steps lands now = record {
    all = turn_seen R total exact shows m seen y left rest so_far.all (rest_more shows left rest r y is steps);
    now = now
        ∙ ap (λ es. es ++ cons_option (entry_made to make (shows y)) []) so_far.now
        ∙ sym (filter_map-append (entry_made to make) (map shows seen) (shows y ∷ []))
        ∙ sym (ap (filter_map (entry_made to make)) (map-append shows seen (y ∷ [])));
    inside = subst (All (λ (entry : K × Y). Inside entry.0)) (sym now)
        (All-append (λ (entry : K × Y). Inside entry.0) before _ so_far.inside (entry_inside Inside make (shows y).0 (shows y).1 (to (shows y).0) lands));
  }

  -- all entries are seen, and the map of the list is the gathered one
  pub listed_all : {from : K → Option K} → Inverse to from → (rest : List (K × X)) {r : Option A} → r ≡ None → TakesFirst shows left r rest →
      with_entries (empty {R = R}) before ≡ gathered to from make m
  listed_all {from = from} i rest {r = r} is steps =
      let whole : map shows seen ≡ entries m = sym (append-nil (map shows seen)) ∙ ap (λ es. map shows seen ++ es) (sym (rest_all shows left rest r is steps))
      ∙ so_far.all in
      ap (with_entries (empty {R = R})) (so_far.now ∙ ap (filter_map (entry_made to make)) whole)
      ∙ gathered_in_turn R total exact to from i make m
