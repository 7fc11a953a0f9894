-- A map from each name of a list to its first place.
use Rattle.std.specs.Prelude.{◌≡◌, ℕ, ◌&&◌, cond, Some, None, List, String, nat_eq}
use Rattle.std.specs.List.{position}
use Rattle.std.specs.Option.{option_eq, unwrap_or}
use Rattle.std.specs.BTreeMap.{BTreeMap, get_by_text}
use Rattle.base_tables.specs.Tables.{same_text}

module _ {Y : Type 0} where
  abbrev pub HoldsFirstPlaces : BTreeMap (String Y) ℕ → List (List ℕ) → Type 0
  HoldsFirstPlaces places names = (name : List ℕ) → get_by_text places name ≡ position (same_text name) names

  -- the name stands at `at`, unless it stood before
  abbrev pub NotesPlace : BTreeMap (String Y) ℕ → BTreeMap (String Y) ℕ → List ℕ → ℕ → Type 0
  NotesPlace old new name at = (other : List ℕ) → get_by_text new other ≡ cond (same_text name other) (Some (unwrap_or (get_by_text old name) at)) (get_by_text old other)

  -- the name does not stand at `at` any longer
  abbrev pub DropsPlace : BTreeMap (String Y) ℕ → BTreeMap (String Y) ℕ → List ℕ → ℕ → Type 0
  DropsPlace old new name at = (other : List ℕ) → get_by_text new other ≡ cond (same_text name other && option_eq nat_eq (get_by_text old name) (Some at)) None (get_by_text old other)

  abbrev pub KeepsPlaces : BTreeMap (String Y) ℕ → BTreeMap (String Y) ℕ → Type 0
  KeepsPlaces old new = (name : List ℕ) → get_by_text new name ≡ get_by_text old name
