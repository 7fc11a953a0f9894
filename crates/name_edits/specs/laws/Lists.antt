-- Lists of defined names after a change: the change is taken back, and the names keep their rules.
use Rattle.std.proofs.Common.{◌≡◌, ℕ, ◌≤◌, ◌<◌, Bool, true, false, cond, ◌&&◌, List, length, Option, Some, None, refl, ap, sym, subst, ◌∙◌, arith}
use Rattle.std.specs.Prelude.{IfSome, nat_eq, nat_lt, slice_get}
use Rattle.std.specs.Cmp.{unsigned_Decides}
use Rattle.std.specs.List.{AllByRecursion, insert, list_all, list_any, position, position_or_len, remove}
use Rattle.std.specs.Option.{option_eq}
use Rattle.std.specs.Bool.{Decides}
use Rattle.std.proofs.lemmas.Bool.{ltb-true}
use Rattle.std.proofs.lemmas.Bool.Decides.{Decides-and, Decides-like, same_from_decides}
use Rattle.std.proofs.lemmas.List.Elements.{All-from_recursion, recursion_from_All}
use Rattle.base_values.specs.laws.Decided.{option_equals}
use Rattle.base_tables.specs.Folding.{SameFolded, same_folded}
use Rattle.base_tables.specs.laws.Folding.{same_folded_decides}
use Rattle.cell_content.specs.Fitting.{tree_fits_at}
use Rattle.defined_names.specs.declared.DefinedName.{DefinedName}
use Rattle.defined_names.specs.Legal.{is_defined_name}
use Rattle.defined_names.specs.Names.{IsCanonicalName, AreCanonicalNames, is_same_name}
use Rattle.sheet_rules.specs.Distinct.{are_distinct}
use Rattle.sheet_rules.specs.Names.{first_place, has_living_scope, have_name_trees, are_names}
use Rattle.book_sheets.specs.laws.Placed.{all_inserted, all_removed}
use Rattle.book_sheets.specs.laws.LaterNames.{named_parts}
use Rattle.book_sheets.specs.laws.ListEdits.{remove_inserted, insert_removed, got_within, length_inserted, length_removed}
use Rattle.book_sheets.specs.laws.ListTests.{all_with, all_without, distinct_with, distinct_without}
use Rattle.name_edits.specs.declared.name_change.NameChange.{NameChange}
use Rattle.name_edits.specs.LookUp.{is_named, place_of}
use Rattle.name_edits.specs.NameChanges.{name_come, name_gone, names_changed, opposite}
use Rattle.name_edits.specs.NameDiffs.{has_place}

-- where a change takes place: the name that goes stands at the index, or where none goes the index is one of the list, or that behind it
abbrev pub IsAt : Option DefinedName → ℕ → List DefinedName → Type 0
IsAt None index names = index ≤ length names
IsAt (Some old) index names = slice_get names index ≡ Some old

abbrev pub change_at : ℕ → Option DefinedName → Option DefinedName → NameChange
change_at index old new = record { index = index; old = old; new = new }

-- ---- there and back

-- an index of the list is one of the list without the name there, or that behind it
within_left : (index : ℕ) (old : DefinedName) (names : List DefinedName) → slice_get names index ≡ Some old → index ≤ length (remove names index)
within_left index old names at =
    let within = got_within names index old at in
    let count = length_removed names index old at in
    omega (arith, within, count)

-- the opposite change gives the names back
pub names_regained : (index : ℕ) (old new : Option DefinedName) (names : List DefinedName) → IsAt old index names
    → names_changed (opposite (change_at index old new)) (names_changed (change_at index old new) names) ≡ names
names_regained index None None names at = refl
names_regained index None (Some new) names at = remove_inserted names index new at
names_regained index (Some old) None names at = insert_removed names index old at
names_regained index (Some old) (Some new) names at =
    ap (λ left. insert left index old) (remove_inserted (remove names index) index new (within_left index old names at)) ∙ insert_removed names index old at

-- ---- places

found_within : {X : Type 0} (p : X → Bool) (xs : List X) (i : ℕ) → position p xs ≡ Some i → i < length xs
found_within p xs i h = go (nat_lt (position_or_len p xs) (length xs)) refl h
  where
    go : (b : Bool) → nat_lt (position_or_len p xs) (length xs) ≡ b → cond b (Some (position_or_len p xs)) None ≡ Some i → i < length xs
    go true is e = let same : position_or_len p xs ≡ i = cc in subst (λ k. k < length xs) same (ltb-true (position_or_len p xs) (length xs) is)
    go false is e = absurd (cc)

-- the place of a name is one of the list
pub place_within : (scope : Option ℕ) (text : List ℕ) (names : List DefinedName) (place : ℕ) → place_of scope text names ≡ Some place → place < length names
unfolding place_of
place_within scope text names place h = found_within (is_named scope text) names place h

pub place_before : (index : ℕ) (old new : Option DefinedName) (names : List DefinedName) → IsAt old index names → has_place (change_at index old new) (length names) ≡ true
place_before index None new names at = grind (arith, at)
place_before index (Some old) new names at = let within = got_within names index old at in grind (arith, within)

-- a name that stands in the place of another leaves as many
pub same_count : (index : ℕ) (old new : DefinedName) (names : List DefinedName) → slice_get names index ≡ Some old → length (insert (remove names index) index new) ≡ length names
same_count index old new names at = length_inserted (remove names index) index new (within_left index old names at) ∙ length_removed names index old at

pub place_later : (index : ℕ) (old new : Option DefinedName) (names : List DefinedName) → IsAt old index names
    → has_place (opposite (change_at index old new)) (length (names_changed (change_at index old new) names)) ≡ true
place_later index None None names at = grind (arith, at)
place_later index None (Some new) names at = let count = length_inserted names index new at in grind (arith, at, count)
place_later index (Some old) None names at = let left = within_left index old names at in grind (arith, left)
place_later index (Some old) (Some new) names at =
    let within = got_within names index old at in
    let count = same_count index old new names at in
    grind (arith, within, count)

-- ---- numbers

gone_by : (P : DefinedName → Type 0) (index : ℕ) (old : Option DefinedName) (names : List DefinedName) → AllByRecursion P names → AllByRecursion P (name_gone index old names)
gone_by P index None names all = all
gone_by P index (Some old) names all = all_removed P names index all

come_by : (P : DefinedName → Type 0) (index : ℕ) (new : Option DefinedName) (names : List DefinedName) → AllByRecursion P names → IfSome new P → AllByRecursion P (name_come index new names)
come_by P index None names all one = all
come_by P index (Some new) names all one = all_inserted P names index new all one

-- the trees of the later names have canonical numbers
pub names_numbers : (change : NameChange) (names : List DefinedName) → AreCanonicalNames names → IfSome change.new IsCanonicalName → AreCanonicalNames (names_changed change names)
names_numbers change names all one =
    All-from_recursion IsCanonicalName (names_changed change names)
    (come_by IsCanonicalName change.index change.new (name_gone change.index change.old names)
    (gone_by IsCanonicalName change.index change.old names (recursion_from_All IsCanonicalName names all)) one)

-- ---- rules

module _ (p : DefinedName → Bool) where
  all_gone : (index : ℕ) (old : Option DefinedName) (names : List DefinedName) → list_all p names ≡ true → list_all p (name_gone index old names) ≡ true
  all_gone index None names all = all
  all_gone index (Some old) names all = all_without p names index all

  -- a test that each name passes, and so does the one that comes
  pub all_changed : (index : ℕ) (old new : Option DefinedName) (names : List DefinedName) → list_all p names ≡ true → IfSome new (λ name. p name ≡ true)
      → list_all p (names_changed (change_at index old new) names) ≡ true
  all_changed index old None names all one = all_gone index old names all
  all_changed index old (Some new) names all one = all_with p (name_gone index old names) index new (all_gone index old names all) one

-- names are the same in either order
same_turned : (a b : DefinedName) → is_same_name a b ≡ is_same_name b a
same_turned a b =
    same_from_decides (is_same_name a b) (is_same_name b a) (decides a b) (Decides-like (is_same_name b a) (λ s. (sym s.0, sym s.1)) (λ s. (sym s.0, sym s.1)) (decides b a))
  where
    decides : (x y : DefinedName) → Decides (is_same_name x y) ((x.scope ≡ y.scope) × SameFolded x.name y.name)
    decides x y = Decides-and (option_eq nat_eq x.scope y.scope) (same_folded x.name y.name) (option_equals unsigned_Decides x.scope y.scope) (same_folded_decides x.name y.name)

apart_gone : (index : ℕ) (old : Option DefinedName) (names : List DefinedName) → are_distinct is_same_name names ≡ true → are_distinct is_same_name (name_gone index old names) ≡ true
apart_gone index None names apart = apart
apart_gone index (Some old) names apart = distinct_without is_same_name names index apart

-- no two are the same, where the one that comes is none of those that are left
apart_changed : (index : ℕ) (old new : Option DefinedName) (names : List DefinedName) → are_distinct is_same_name names ≡ true
    → IfSome new (λ name. list_any (is_same_name name) (name_gone index old names) ≡ false) → are_distinct is_same_name (names_changed (change_at index old new) names) ≡ true
apart_changed index old None names apart none = apart_gone index old names apart
apart_changed index old (Some new) names apart none =
    distinct_with is_same_name (λ x y other. same_turned y x ∙ other) (name_gone index old names) index new (apart_gone index old names apart) none

-- what is asked of a name that comes among those that are left: it may be one, it is none of them, and its sheet is there
pub record MayCome (ids : List ℕ) (left : List DefinedName) (name : DefinedName) : Type 0 where
  pub legal : is_defined_name name.name ≡ true
  pub free : list_any (is_same_name name) left ≡ false
  pub living : has_living_scope ids name ≡ true
  pub fits : tree_fits_at first_place name.formula ≡ true

legal_of : (ids : List ℕ) (left : List DefinedName) (o : Option DefinedName) → IfSome o (MayCome ids left) → IfSome o (λ name. is_defined_name name.name ≡ true)
legal_of ids left None may = tt
legal_of ids left (Some name) may = may.legal

free_of : (ids : List ℕ) (left : List DefinedName) (o : Option DefinedName) → IfSome o (MayCome ids left) → IfSome o (λ name. list_any (is_same_name name) left ≡ false)
free_of ids left None may = tt
free_of ids left (Some name) may = may.free

living_of : (ids : List ℕ) (left : List DefinedName) (o : Option DefinedName) → IfSome o (MayCome ids left) → IfSome o (λ name. has_living_scope ids name ≡ true)
living_of ids left None may = tt
living_of ids left (Some name) may = may.living

fits_of : (ids : List ℕ) (left : List DefinedName) (o : Option DefinedName) → IfSome o (MayCome ids left) → IfSome o (λ name. tree_fits_at first_place name.formula ≡ true)
fits_of ids left None may = tt
fits_of ids left (Some name) may = may.fits

-- the later names keep their rules
pub names_stay : (ids : List ℕ) (index : ℕ) (old new : Option DefinedName) (names : List DefinedName) → are_names ids names ≡ true → IfSome new (MayCome ids (name_gone index old names))
    → are_names ids (names_changed (change_at index old new) names) ≡ true
unfolding are_names
names_stay ids index old new names rules may =
    let left = name_gone index old names in
    let parts = named_parts ids names rules in
    λ i.
    all_changed (λ name. is_defined_name name.name) index old new names parts.legal (legal_of ids left new may) i
    && apart_changed index old new names parts.apart (free_of ids left new may) i
    && all_changed (has_living_scope ids) index old new names parts.living (living_of ids left new may) i

-- and their trees fit A1
pub trees_stay : (ids : List ℕ) (index : ℕ) (old new : Option DefinedName) (names : List DefinedName) → have_name_trees names ≡ true → IfSome new (MayCome ids (name_gone index old names))
    → have_name_trees (names_changed (change_at index old new) names) ≡ true
unfolding have_name_trees
trees_stay ids index old new names rules may =
    all_changed (λ name. tree_fits_at first_place name.formula) index old new names rules (fits_of ids (name_gone index old names) new may)
