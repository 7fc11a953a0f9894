-- Lists taken together.
use Rattle.std.specs.Prelude.{List, [], ◌∷◌}

-- item by item, as long as both lists have one
abbrev pub zip_by : {F K G : Type 0} → (F → K → G) → List F → List K → List G
zip_by f [] ks = []
zip_by f (x ∷ xs) [] = []
zip_by f (x ∷ xs) (k ∷ ks) = f x k ∷ zip_by f xs ks
