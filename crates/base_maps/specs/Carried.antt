-- Finite maps whose entries are carried along a partial one-to-one map of their keys.
use Rattle.std.proofs.Common.{◌≡◌, ◌++◌, Option, Some, None}
use Rattle.std.specs.Prelude.{is_none, is_some, List, if◌then◌else◌}
use Rattle.std.specs.List.{filter_map}
use Rattle.std.specs.declared.cmp.Ordering.{Ordering}
use Rattle.std.specs.FinMap.{FinMap, from_entries, get, keys, retain_keys}

-- two partial maps that undo each other
pub record Inverse {K : Type 0} (to from : K → Option K) : Type 0 where
  pub back : (p q : K) → to p ≡ Some q → from q ≡ Some p
  pub forth : (p q : K) → from q ≡ Some p → to p ≡ Some q

-- what a function gives of the value, if there is one
abbrev pub if_there : {X Y : Type 0} → Option X → (X → Option Y) → Option Y
if_there None f = None
if_there (Some x) f = f x

-- the entry that an entry makes where its key goes, if it makes one
abbrev pub entry_made : {K X Y : Type 0} → (K → Option K) → (K → K → X → Option Y) → K × X → Option (K × Y)
entry_made to make e = if_there (to e.0) (λ q. if_there (make e.0 q e.1) (λ y. Some (q, y)))

-- an entry as it is, where its key goes nowhere
abbrev pub if_lost : {K X : Type 0} → (K → Option K) → K → K → X → Option X
if_lost to p q x = if is_none (to p) then Some x else None

module _ {K : Type 0} {R : K → K → Ordering} where
  -- the map that has at each of these keys what a function gives there, and nothing elsewhere
  unfoldable pub map_at : {X : Type 0} → List K → (K → Option X) → FinMap R X
  map_at places at = from_entries (filter_map (λ q. if_there (at q) (λ x. Some (q, x))) places)

  -- at each key: what is made of the entry whose key goes there
  unfoldable pub gathered : {X Y : Type 0} → (to from : K → Option K) → (K → K → X → Option Y) → FinMap R X → FinMap R Y
  gathered to from make m = map_at (filter_map to (keys m)) (λ q. if_there (from q) (λ p. if_there (get m p) (make p q)))

  -- at each key: the entry whose key goes there, carried along from its key to that one
  abbrev pub carried_map : {X Y : Type 0} → (to from : K → Option K) → (K → K → X → Y) → FinMap R X → FinMap R Y
  carried_map to from carry m = gathered to from (λ p q x. Some (carry p q x)) m

  -- at each key: the entry whose key goes there, as it is
  abbrev pub moved_map : {X : Type 0} → (to from : K → Option K) → FinMap R X → FinMap R X
  moved_map to from m = carried_map to from (λ _ _ x. x) m

  -- at each key: the part that its own entry has, if the key goes somewhere
  abbrev pub parts_map : {X P : Type 0} → (K → Option K) → (K → K → X → Option P) → FinMap R X → FinMap R P
  parts_map to part m = gathered Some Some (λ p _ x. if_there (to p) (λ q. part p q x)) m

  -- the entries whose keys go nowhere
  unfoldable pub lost_map : {X : Type 0} → (K → Option K) → FinMap R X → FinMap R X
  lost_map to m = retain_keys m (λ key. is_none (to key))

  -- at each key: the entry of the first map, if it has one, else that of the second
  unfoldable pub overlaid : {X : Type 0} → FinMap R X → FinMap R X → FinMap R X
  overlaid over m = map_at (keys over ++ keys m) (λ q. if is_some (get over q) then get over q else get m q)

-- what an entry gives that goes back to a key: what is restored from the part that is kept under that key, if there is one, else
-- what is carried back
abbrev pub settled : {X P : Type 0} → (X → X) → (X → P → X) → Option P → X → X
settled carry restore None x = carry x
settled carry restore (Some part) x = restore x part
