-- What is kept by trying restores the value.
use Rattle.std.proofs.Common.{◌≡◌, Bool, true, false, Some, None, refl, ap, sym}
use Rattle.std.specs.Prelude.{not, if◌then◌else◌}
use Rattle.std.specs.Bool.{Decides}
use Rattle.std.proofs.lemmas.Bool.Decides.{same_from_decides}
use Rattle.line_routes.specs.RouteModel.{RouteModel, back}
use Rattle.line_routes.specs.Trial.{comes_back, part_by_trial}

nothing_at : {F : Type 0} (v : F) (b : Bool) → (if b then None else Some v) ≡ None → b ≡ true
nothing_at v true h = refl
nothing_at v false h = absurd (cc)

part_at : {F : Type 0} (v k : F) (b : Bool) → (if b then None else Some v) ≡ Some k → k ≡ v
part_at v k true h = absurd (cc)
part_at v k false h = let same : v ≡ k = cc in sym same

told_at : {F : Type 0} (v : F) (b c : Bool) → c ≡ not b → (if c then None else Some v) ≡ (if b then Some v else None)
told_at v true c h = ap (λ c. if c then None else Some v) h
told_at v false c h = ap (λ c. if c then None else Some v) h

module _ {F : Type 0} (same : F → F → Bool) (carry : RouteModel → F → F) where
  -- where nothing is kept, the way back gives the value
  pub trial_comes_back : ((a b : F) → Decides (same a b) (a ≡ b)) → (w : RouteModel) (v : F) → part_by_trial same carry w v ≡ None → carry (back w) (carry w v) ≡ v
  unfolding part_by_trial
  trial_comes_back exact w v h = (exact (carry (back w) (carry w v)) v).0 (nothing_at v (comes_back same carry w v) h)

  -- what is kept is the value
  pub trial_part : (w : RouteModel) (v k : F) → part_by_trial same carry w v ≡ Some k → k ≡ v
  unfolding part_by_trial
  trial_part w v k h = part_at v k (comes_back same carry w v) h

  -- what tells whether the value has to be kept tells what is kept of it
  pub trial_told : ((a b : F) → Decides (same a b) (a ≡ b)) → (w : RouteModel) (v : F) (b : Bool) → Decides (not b) (carry (back w) (carry w v) ≡ v) →
      part_by_trial same carry w v ≡ (if b then Some v else None)
  unfolding part_by_trial
  trial_told exact w v b told = told_at v b (comes_back same carry w v) (same_from_decides _ _ (exact (carry (back w) (carry w v)) v) told)
