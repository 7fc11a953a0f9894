-- Reading maps. Serves proofs alone.
use Rattle.std.specs.Prelude.{List}
use Rattle.std.specs.FinMap.{FinMap, from_entries, is_sorted}
use Rattle.std.specs.declared.cmp.Ordering.{Ordering}
use Rattle.base_wire.specs.laws.Reading.{Reader, map_at, ◌⊗◌, check_at, list_at}

-- entries whose keys rise strictly
abbrev pub entries_at : {K X : Type 0} → (K → K → Ordering) → Reader K → Reader X → Reader (List (K × X))
entries_at order key value = check_at (is_sorted order) (list_at (key ⊗ value))

-- the map that such entries make, as a value of its type
abbrev pub map_of_at : {K X M : Type 0} (order : K → K → Ordering) → (FinMap order X → M) → Reader K → Reader X → Reader M
map_of_at order model key value = map_at (λ es. model (from_entries es)) (entries_at order key value)
