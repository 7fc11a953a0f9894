-- Maps whose entries are carried along with their keys.
use Rattle.std.specs.Prelude.{◌≡◌, Bool, Option, Some, None, is_none, if◌then◌else◌}
use Rattle.std.specs.FinMap.{FinMap, empty, get}
use Rattle.std.specs.declared.cmp.Ordering.{Ordering}
use Rattle.base_values.specs.declared.Position.{Position}
use Rattle.base_values.specs.Places.{IsPlace, position_cmp}
use Rattle.base_maps.specs.Carried.{carried_map, entry_made, if_there, parts_map, settled}
use Rattle.line_map.specs.Keys.{KeysAre}
use Rattle.line_routes.specs.RouteModel.{RouteModel, at, back, place_goes}

-- every part that is kept under a key that goes somewhere fits there
abbrev pub PartsFit : {Q P : Type 0} → (RouteModel → Q → Option Q) → (RouteModel → Q → Q → RouteModel) → (RouteModel → P → Type 0) → RouteModel → (Q → Option P) → Type 0
PartsFit goes route_at Fits w parts = (p q : _) (part : _) → goes w p ≡ Some q → parts p ≡ Some part → Fits (route_at w p q) part

-- where keys go, and the way of what goes from a key to a key
module _ {Q F : Type 0} (goes : RouteModel → Q → Option Q) (route_at : RouteModel → Q → Q → RouteModel) where
  -- one entry where its key goes
  abbrev pub carried_entry : (RouteModel → F → F) → RouteModel → Q × F → Option (Q × F)
  carried_entry carry w entry = entry_made (goes w) (λ p q x. Some (carry (route_at w p q) x)) entry

  -- the part of one entry that goes somewhere, under its key before
  abbrev pub kept_entry : {P : Type 0} → (RouteModel → F → Option P) → RouteModel → Q × F → Option (Q × P)
  kept_entry part w entry = entry_made Some (λ p _ x. if_there (goes w p) (λ q. part (route_at w p q) x)) entry

  -- one entry where its key came from: restored from its part, or carried back
  abbrev pub restored_entry : {P : Type 0} → (RouteModel → F → F) → (RouteModel → F → P → F) → RouteModel → (Q → Option P) → Q × F → Option (Q × F)
  restored_entry carry restore w parts entry =
      entry_made (goes (back w)) (λ q p x. Some (settled (carry (back (route_at w p q))) (restore (route_at w p q)) (parts p) x)) entry

  module _ {R : Q → Q → Ordering} where
    -- each entry where its key goes
    abbrev pub entries_carried : (RouteModel → F → F) → RouteModel → FinMap R F → FinMap R F
    entries_carried carry w m = carried_map (goes w) (goes (back w)) (λ p q x. carry (route_at w p q) x) m

    -- the parts of the entries that go somewhere, under their keys before
    abbrev pub entries_parts : {P : Type 0} → (RouteModel → F → Option P) → RouteModel → FinMap R F → FinMap R P
    entries_parts part w m = parts_map (goes w) (λ p q x. part (route_at w p q) x) m

    -- each entry where its key came from: restored from its part, or carried back
    abbrev pub entries_restored : {P : Type 0} → (RouteModel → F → F) → (RouteModel → F → P → F) → RouteModel → (Q → Option P) → FinMap R F → FinMap R F
    entries_restored carry restore w parts m = carried_map (goes (back w)) (goes w)
        (λ q p x. settled (carry (back (route_at w p q))) (restore (route_at w p q)) (parts p) x) m

    -- what a carried map has at a key: the entry of the key that it came from, carried along
    abbrev pub entry_carried : (RouteModel → F → F) → RouteModel → FinMap R F → Q → Option F
    entry_carried carry w m q = if_there (goes (back w) q) (λ p. if_there (get m p) (λ x. Some (carry (route_at w p q) x)))

    -- what is kept of an entry whose key goes somewhere
    abbrev pub entry_part : {P : Type 0} → (RouteModel → F → Option P) → RouteModel → FinMap R F → Q → Option P
    entry_part part w m p = if_there (get m p) (λ x. if_there (goes w p) (λ q. part (route_at w p q) x))

    -- its followers are inside, under keys that fit
    pub record AllInside (fits : Q → Type 0) (Inside : RouteModel → F → Type 0) (w : RouteModel) (m : FinMap R F) : Type 0 where
      pub places : KeysAre fits m
      pub items : (p q : Q) (x : F) → get m p ≡ Some x → goes w p ≡ Some q → Inside (route_at w p q) x

  -- what is kept of a map: what is laid over it stands at keys that fit, and each part fits
  pub record KeptFits {P : Type 0} {R : Q → Q → Ordering} (fits : Q → Type 0) (Fits : RouteModel → P → Type 0) (w : RouteModel) (lost : FinMap R F) (parts : Q →
      Option P) : Type 0 where
    pub lost_inside : KeysAre fits lost
    pub parts_fit : PartsFit goes route_at Fits w parts

module _ {F : Type 0} where
  -- what is lost of a map: each entry whose key goes nowhere
  abbrev pub entry_lost : {Q : Type 0} {R : Q → Q → Ordering} → (Q → Option Q) → FinMap R F → Q → Option F
  entry_lost to m p = if is_none (to p) then get m p else None

  -- what was lost where keys go along, and nothing where they stay
  abbrev pub lost_along : {Q : Type 0} {R : Q → Q → Ordering} → Bool → FinMap R F → FinMap R F
  lost_along along lost = if along then lost else empty

  -- the same for maps by place
  abbrev pub places_carried : (RouteModel → F → F) → RouteModel → FinMap position_cmp F → FinMap position_cmp F
  places_carried carry w m = entries_carried place_goes at carry w m

  abbrev pub places_parts : {P : Type 0} → (RouteModel → F → Option P) → RouteModel → FinMap position_cmp F → FinMap position_cmp P
  places_parts part w m = entries_parts place_goes at part w m

  abbrev pub places_restored : {P : Type 0} → (RouteModel → F → F) → (RouteModel → F → P → F) → RouteModel → (Position → Option P) → FinMap position_cmp F → FinMap position_cmp F
  places_restored carry restore w parts m = entries_restored place_goes at carry restore w parts m

  -- every key is a place of the sheet
  abbrev pub KeysInside : FinMap position_cmp F → Type 0
  KeysInside m = KeysAre IsPlace m
