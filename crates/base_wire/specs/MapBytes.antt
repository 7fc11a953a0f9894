-- The bytes of maps: how many entries they have, and the entries in the order of their keys.
use Rattle.std.specs.Prelude.{List, ℕ, IfSome}
use Rattle.std.specs.FinMap.{FinMap, entries, get}
use Rattle.std.specs.declared.cmp.Ordering.{Ordering}
use Rattle.base_wire.specs.Encoding.{Both, encode_both, encode_list, FitsItems}

-- entries, each a key and its value
abbrev pub encode_entries : {K X : Type 0} → (K → List ℕ) → (X → List ℕ) → List (K × X) → List ℕ
encode_entries key value = encode_list (encode_both key value)

-- each key of the first kind is one of the second
abbrev pub Within : {K : Type 0} → (K → Type 0) → (K → Type 0) → Type 0
Within {K} P Q = (key : K) → P key → Q key

module _ {K X : Type 0} {order : K → K → Ordering} where
  abbrev pub encode_map : (K → List ℕ) → (X → List ℕ) → FinMap order X → List ℕ
  encode_map key value m = encode_entries key value (entries m)

  -- a map of at most 2 ^ 64 - 1 entries, whose keys and values bytes can carry
  abbrev pub FitsMap : (K → Type 0) → (X → Type 0) → FinMap order X → Type 0
  FitsMap Key Value m = FitsItems (Both Key Value) (entries m)

  -- each value of the map is of this kind
  abbrev pub HasValues : (X → Type 0) → FinMap order X → Type 0
  HasValues Value m = (key : K) → IfSome (get m key) Value

  -- what writing asks: of every key, and of the value at each
  pub record IsKnownMap (Key : K → Type 0) (Value : X → Type 0) (m : FinMap order X) : Type 0 where
    pub keys : (key : K) → Key key
    pub values : (key : K) → IfSome (get m key) Value
