-- The law of followers for a value with the part that is kept of it.
use Rattle.std.proofs.Common.{◌≡◌, Option, Some, None, refl}
use Rattle.base_maps.specs.Carried.{settled}
use Rattle.base_maps.specs.laws.Each.{holds_of}
use Rattle.line_map.specs.Alone.{Restores}
use Rattle.line_routes.specs.RouteModel.{RouteModel, IsRoute, back}

-- a value settles to what it was with the part that is kept of it
pub settles : {F P : Type 0} (home : F → F) (restore : F → P → F) (carried x : F) (part o : Option P) → part ≡ o → (part ≡ None → home carried ≡ x) →
    ((k : P) → part ≡ Some k → restore carried k ≡ x) → settled home restore o carried ≡ x
settles home restore carried x part None h comes restored = comes h
settles home restore carried x part (Some k) h comes restored = restored k h

module _ {F P : Type 0} (Inside : RouteModel → F → Type 0) (carry : RouteModel → F → F) (part : RouteModel → F → Option P) (w : RouteModel) (is : IsRoute w) where
  -- what is kept can be laid over the value that was carried along
  pub kept_fits : (Fits : RouteModel → P → Type 0) → ((w : RouteModel) → IsRoute w → (v : F) → Inside w v → Inside (back w) (carry w v)) →
      ((w : RouteModel) → IsRoute w → (v : F) → Inside w v → (k : P) → part w v ≡ Some k → Fits w k) →
      (v : F) → Inside w v → Restores Inside Fits w (carry w v) (part w v)
  kept_fits Fits stays fits v lies = record { lies = stays w is v lies; fits = holds_of (Fits w) (part w v) (fits w is v lies) }

  -- and gives the value back
  pub kept_restores : (restore : RouteModel → F → P → F) → ((w : RouteModel) → IsRoute w → (v : F) → Inside w v → part w v ≡ None → carry (back w) (carry w v) ≡ v) →
      ((w : RouteModel) → IsRoute w → (v : F) → Inside w v → (k : P) → part w v ≡ Some k → restore w (carry w v) k ≡ v) →
      (v : F) → Inside w v → settled (carry (back w)) (restore w) (part w v) (carry w v) ≡ v
  kept_restores restore comes restored v lies =
      settles (carry (back w)) (restore w) (carry w v) v (part w v) (part w v) refl (comes w is v lies) (restored w is v lies)
