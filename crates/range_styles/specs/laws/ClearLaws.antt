-- Clearing makes something of the places of a rectangle alone that have a cell or a link.
use Rattle.std.proofs.Common.{◌≡◌, Bool, true, false, cond, Option, Some, None, option_map, refl}
use Rattle.std.specs.Prelude.{is_some}
use Rattle.std.specs.FinMap.{FinMap, get}
use Rattle.base_values.specs.declared.Position.{Position}
use Rattle.base_values.specs.Places.{position_cmp}
use Rattle.base_axis.specs.declared.MergedCell.{MergedCell}
use Rattle.base_axis.specs.Rectangles.{holds}
use Rattle.range_styles.specs.PlaceWalks.{MakesThere}

module _ {V X : Type 0} (r : MergedCell) (left : V → X) (values : FinMap position_cmp V) where
  abbrev make : Position → Option X
  make q = cond (holds r q) (option_map left (get values q)) None

  pub made_here : (q : Position) (x : X) → make q ≡ Some x → holds r q ≡ true
  made_here q x is = go (holds r q) refl is
    where
      go : (b : Bool) → holds r q ≡ b → cond b (option_map left (get values q)) None ≡ Some x → holds r q ≡ true
      go true it e = it
      go false it e = absurd (let never : ◌≡◌ {A = Option X} None (Some x) = e in cc)

  -- only places get something that have a value
  pub made_there : MakesThere make values
  made_there q x is = go (holds r q) (get values q) is
    where
      go : (b : Bool) (o : Option V) → cond b (option_map left o) None ≡ Some x → is_some o ≡ true
      go true None e = absurd (let never : ◌≡◌ {A = Option X} None (Some x) = e in cc)
      go true (Some v) e = refl
      go false o e = absurd (let never : ◌≡◌ {A = Option X} None (Some x) = e in cc)
