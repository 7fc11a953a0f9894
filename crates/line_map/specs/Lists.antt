-- Lists whose items are carried along.
use Rattle.std.specs.Prelude.{List, Option}
use Rattle.base_maps.specs.Carried.{settled}
use Rattle.base_maps.specs.Lists.{zip_by}

-- each item: what is restored from its part, if it has one, else what is carried back
abbrev pub items_restored : {F P : Type 0} → (F → F) → (F → P → F) → List F → List (Option P) → List F
items_restored carry restore xs parts = zip_by (λ x part. settled carry restore part x) xs parts
