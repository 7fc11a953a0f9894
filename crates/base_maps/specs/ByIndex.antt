-- What is kept of the items of a list, under their places in it.
use Rattle.std.specs.Prelude.{ℕ, List, Option, map}
use Rattle.std.specs.List.{enumerate_from, filter_map}
use Rattle.std.specs.Option.{option_map}
use Rattle.std.specs.Ordering.{nat_cmp}
use Rattle.std.specs.FinMap.{FinMap, from_entries}
use Rattle.base_maps.specs.Carried.{settled}

module _ {F P : Type 0} where
  -- what is kept of an item under its place, if something is
  abbrev pub kept_at : (F → Option P) → ℕ × F → Option (ℕ × P)
  kept_at part entry = option_map (λ kept. (entry.0, kept)) (part entry.1)

  -- what is kept of each item
  abbrev pub kept_by_index : (F → Option P) → List F → FinMap nat_cmp P
  kept_by_index part items = from_entries (filter_map (kept_at part) (enumerate_from 0 items))

  -- the item at a place: what is restored from what is kept there, or else what is carried back
  abbrev pub restored_at : (F → F) → (F → P → F) → (ℕ → Option P) → ℕ × F → F
  restored_at carry restore kept entry = settled carry restore (kept entry.0) entry.1

  abbrev pub restored_by_index : (F → F) → (F → P → F) → (ℕ → Option P) → List F → List F
  restored_by_index carry restore kept items = map (restored_at carry restore kept) (enumerate_from 0 items)
