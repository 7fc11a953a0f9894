-- One more key of a plan is one more entry that is made.
use Rattle.std.proofs.Common.{◌≡◌, Option, Some, None, refl}
use Rattle.std.specs.declared.cmp.Ordering.{Ordering}
use Rattle.std.specs.FinMap.{FinMap}
use Rattle.base_maps.specs.Carried.{entry_made, if_there}
use Rattle.base_maps.specs.laws.Gathering.{with_made}
use Rattle.planned_maps.specs.laws.PlanWalks.{put_if, put_one}

pub put_is_made : {K V X : Type 0} {R : K → K → Ordering} (make : K → Option X) (m : FinMap R X) (key : K) (v : V)
    → put_one make m key ≡ with_made (entry_made Some (λ _ q (u : V). make q) (key, v)) m
put_is_made {X = X} make m key v = go (make key)
  where
    go : (o : Option X) → put_if m key o ≡ with_made (if_there o (λ y. Some (key, y))) m
    go None = refl
    go (Some x) = refl
