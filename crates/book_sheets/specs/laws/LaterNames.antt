-- The defined names of a later workbook keep their rules: with another sheet, with a copy, without a sheet, and with a sheet at another index.
use Rattle.std.proofs.Common.{◌≡◌, ℕ, Bool, true, false, cond, not, ◌&&◌, ◌||◌, List, [], ◌∷◌, Option, Some, None, refl, ap, sym, ◌∙◌, true≢false}
use Rattle.std.specs.Prelude.{◌==◌, nat_eq, slice_get}
use Rattle.std.specs.Cmp.{unsigned_Decides}
use Rattle.std.specs.List.{AllByRecursion, cons_option, filter_map, insert, list_all, list_any, remove}
use Rattle.std.specs.Option.{option_eq, option_map_or}
use Rattle.std.proofs.lemmas.List.Folds.{list_all-append}
use Rattle.base_tables.specs.Folding.{same_folded}
use Rattle.cell_content.specs.Fitting.{tree_fits_at}
use Rattle.defined_names.specs.declared.DefinedName.{DefinedName}
use Rattle.defined_names.specs.Legal.{is_defined_name}
use Rattle.defined_names.specs.Names.{is_scoped_to, is_same_name, names_left, name_in, copied_name, names_copied}
use Rattle.sheet_rules.specs.Distinct.{are_distinct}
use Rattle.sheet_rules.specs.Names.{first_place, is_id_of, has_living_scope, have_name_trees, are_names}
use Rattle.sheet_rules.specs.laws.EntryLaws.{both}
use Rattle.sheet_rules.specs.laws.FollowedLists.{followed_all, followed_distinct}
use Rattle.sheet_rules.specs.laws.ShownLaws.{not_true}
use Rattle.book_sheets.specs.laws.ListTests.{all_others, all_left, any_here, any_with, any_without, distinct_left, distinct_joined}

-- ---- the parts of rule 8

abbrev is_legal : DefinedName → Bool
is_legal name = is_defined_name name.name

pub record AreNamed (ids : List ℕ) (names : List DefinedName) : Type 0 where
  pub legal : list_all is_legal names ≡ true
  pub apart : are_distinct is_same_name names ≡ true
  pub living : list_all (has_living_scope ids) names ≡ true

pub named_parts : (ids : List ℕ) (names : List DefinedName) → are_names ids names ≡ true → AreNamed ids names
unfolding are_names
named_parts ids names h =
    let outer = both (list_all is_legal names && are_distinct is_same_name names) (list_all (has_living_scope ids) names) h in
    let inner = both (list_all is_legal names) (are_distinct is_same_name names) outer.0 in
    record { legal = inner.0; apart = inner.1; living = outer.1 }

named_from_parts : (ids : List ℕ) (names : List DefinedName) → AreNamed ids names → are_names ids names ≡ true
unfolding are_names
named_from_parts ids names h = λ i. h.legal i && h.apart i && h.living i

-- ---- scopes

equal_itself : (id : ℕ) → (id == id) ≡ true
equal_itself id = (unsigned_Decides id id).1 refl

-- a scope lives on where each id does
lives_on : (ids later : List ℕ) → ((id : ℕ) → is_id_of ids id ≡ true → is_id_of later id ≡ true) → (name : DefinedName) → has_living_scope ids name ≡ true → has_living_scope later name ≡ true
lives_on ids later step name lives = go name.scope lives
  where
    go : (o : Option ℕ) → option_map_or (is_id_of ids) o true ≡ true → option_map_or (is_id_of later) o true ≡ true
    go None h = refl
    go (Some id) h = step id h

-- names keep rule 8 where each id lives on
named_on : (ids later : List ℕ) → ((id : ℕ) → is_id_of ids id ≡ true → is_id_of later id ≡ true) → (names : List DefinedName) → AreNamed ids names → AreNamed later names
named_on ids later step names h = record { legal = h.legal; apart = h.apart; living = all_others (has_living_scope ids) (has_living_scope later) names (lives_on ids later step) h.living }

-- no name is known in a sheet that is not there
unscoped : (ids : List ℕ) (id : ℕ) → is_id_of ids id ≡ false → (name : DefinedName) → has_living_scope ids name ≡ true → not (is_scoped_to id name) ≡ true
unscoped ids id free name lives = go name.scope lives
  where
    at : (scope : ℕ) (b : Bool) → (scope == id) ≡ b → is_id_of ids scope ≡ true → not b ≡ true
    at scope false is h = refl
    at scope true is h = absurd (true≢false (sym h ∙ ap (is_id_of ids) ((unsigned_Decides scope id).0 is) ∙ free))

    go : (o : Option ℕ) → option_map_or (is_id_of ids) o true ≡ true → not (option_map_or (λ scope. scope == id) o false) ≡ true
    go None h = refl
    go (Some scope) h = at scope (scope == id) refl h

pub none_scoped : (ids : List ℕ) (id : ℕ) → is_id_of ids id ≡ false → (names : List DefinedName) → AreNamed ids names → list_all (λ (name : DefinedName). not (is_scoped_to id name)) names ≡ true
none_scoped ids id free names h = all_others (has_living_scope ids) (λ (name : DefinedName). not (is_scoped_to id name)) names (unscoped ids id free) h.living

-- ---- with another sheet

pub names_with : (ids : List ℕ) (index id : ℕ) (names : List DefinedName) → AreNamed ids names → are_names (insert ids index id) names ≡ true
names_with ids index id names h = named_from_parts (insert ids index id) names (named_on ids (insert ids index id) (λ other lives. any_with (λ o. other == o) ids index id lives) names h)

-- ---- with a sheet at another index

pub names_moved : (ids : List ℕ) (from to id : ℕ) → slice_get ids from ≡ Some id → (names : List DefinedName) → AreNamed ids names → are_names (insert (remove ids from) to id) names ≡ true
names_moved ids from to id found names h = named_from_parts later names (named_on ids later stays names h)
  where
    later : List ℕ
    later = insert (remove ids from) to id

    at : (other : ℕ) (b : Bool) → (other == id) ≡ b → is_id_of ids other ≡ true → is_id_of (insert (remove ids from) to id) other ≡ true
    at other true is lives = any_here (λ o. other == o) (remove ids from) to id is
    at other false is lives = any_with (λ o. other == o) (remove ids from) to id (any_without (λ o. other == o) ids from id lives found is)

    stays : (other : ℕ) → is_id_of ids other ≡ true → is_id_of (insert (remove ids from) to id) other ≡ true
    stays other lives = at other (other == id) refl lives

-- ---- without a sheet

lives_without : (ids : List ℕ) (index id : ℕ) → slice_get ids index ≡ Some id → (name : DefinedName) → not (is_scoped_to id name) ≡ true → has_living_scope ids name ≡ true → has_living_scope (remove ids index) name ≡ true
lives_without ids index id found name other lives = go name.scope other lives
  where
    go : (o : Option ℕ) → not (option_map_or (λ scope. scope == id) o false) ≡ true → option_map_or (is_id_of ids) o true ≡ true → option_map_or (is_id_of (remove ids index)) o true ≡ true
    go None other lives = refl
    go (Some scope) other lives = any_without (λ o. scope == o) ids index id lives found (not_true (scope == id) other)

pub names_without : (ids : List ℕ) (index id : ℕ) → slice_get ids index ≡ Some id → (names : List DefinedName) → AreNamed ids names → are_names (remove ids index) (names_left id names) ≡ true
names_without ids index id found names h =
    let left : DefinedName → Bool = λ (name : DefinedName). not (is_scoped_to id name) in
    named_from_parts (remove ids index) (names_left id names) (record {
      legal = all_left is_legal is_legal left names (λ name is passes. passes) h.legal;
      apart = distinct_left is_same_name left names h.apart;
      living = all_left (has_living_scope ids) (has_living_scope (remove ids index)) left names (lives_without ids index id found) h.living;
    })

pub trees_without : (id : ℕ) (names : List DefinedName) → have_name_trees names ≡ true → have_name_trees (names_left id names) ≡ true
unfolding have_name_trees
trees_without id names all =
    all_left (λ (name : DefinedName). tree_fits_at first_place name.formula) (λ (name : DefinedName). tree_fits_at first_place name.formula) (λ (name : DefinedName). not (is_scoped_to id name)) names (λ name is passes. passes) all

-- ---- with a copy

module _ (source id : ℕ) where
  -- a copy is the same name in another sheet
  copy_is : (x y : DefinedName) → copied_name source id x ≡ Some y → (x.scope ≡ Some source) × (name_in id x ≡ y)
  copy_is x y is = go x.scope refl (is_scoped_to source x) refl is
    where
      there : (o : Option ℕ) → option_map_or (λ scope. scope == source) o false ≡ true → o ≡ Some source
      there None h = absurd (true≢false (sym h))
      there (Some scope) h = ap Some ((unsigned_Decides scope source).0 h)

      go : (o : Option ℕ) → x.scope ≡ o → (b : Bool) → is_scoped_to source x ≡ b → cond b (Some (name_in id x)) None ≡ Some y → (x.scope ≡ Some source) × (name_in id x ≡ y)
      go o scope true scoped is = (there x.scope scoped, (let same : name_in id x ≡ y = cc in same))
      go o scope false scoped is = absurd (cc)

  abbrev copies : List DefinedName → List DefinedName
  copies names = filter_map (copied_name source id) names

  -- it differs from a name of another scope
  differs_from_copy : (x y : DefinedName) → not (is_scoped_to id x) ≡ true → is_same_name x (name_in id y) ≡ false
  differs_from_copy x y other = go x.scope other
    where
      go : (o : Option ℕ) → not (option_map_or (λ scope. scope == id) o false) ≡ true → (option_eq nat_eq o (Some id) && same_folded x.name y.name) ≡ false
      go None h = refl
      go (Some scope) h = ap (λ b. b && same_folded x.name y.name) (not_true (scope == id) h)

  apart_from_copies : (x : DefinedName) → not (is_scoped_to id x) ≡ true → (names : List DefinedName) → list_any (is_same_name x) (copies names) ≡ false
  apart_from_copies x other [] = refl
  apart_from_copies x other (y ∷ ys) = go (is_scoped_to source y) (apart_from_copies x other ys)
    where
      go : (b : Bool) → list_any (is_same_name x) (copies ys) ≡ false → list_any (is_same_name x) (cons_option (cond b (Some (name_in id y)) None) (copies ys)) ≡ false
      go true rest = λ i. differs_from_copy x y other i || rest i
      go false rest = rest

  all_apart : (names others : List DefinedName) → list_all (λ (name : DefinedName). not (is_scoped_to id name)) names ≡ true → AllByRecursion (λ x. list_any (is_same_name x) (copies others) ≡ false) names
  all_apart [] others all = tt
  all_apart (x ∷ xs) others all =
      let parts = both (not (is_scoped_to id x)) (list_all (λ (name : DefinedName). not (is_scoped_to id name)) xs) all in
      (apart_from_copies x parts.0 others, all_apart xs others parts.1)

  -- two copies differ where the names do
  copies_differ : (x y a b : DefinedName) → is_same_name x y ≡ false → copied_name source id x ≡ Some a → copied_name source id y ≡ Some b → is_same_name a b ≡ false
  copies_differ x y a b differ is other =
      let first = copy_is x a is in
      let second = copy_is y b other in
      let one : (option_eq nat_eq x.scope y.scope) ≡ true = (λ i. option_eq nat_eq (first.0 i) (second.0 i)) ∙ equal_itself source in
      let texts : same_folded x.name y.name ≡ false = (λ i. sym one i && same_folded x.name y.name) ∙ differ in
      (λ i. is_same_name (sym first.1 i) (sym second.1 i)) ∙ (λ i. equal_itself id i && texts i)

  module _ (ids : List ℕ) (index : ℕ) (names : List DefinedName) (free : is_id_of ids id ≡ false) (h : AreNamed ids names) where
    pub names_with_copies : are_names (insert ids index id) (names_copied source id names) ≡ true
    names_with_copies =
        let later = insert ids index id in
        let on = named_on ids later (λ other lives. any_with (λ o. other == o) ids index id lives) names h in
        named_from_parts later (names_copied source id names) (record {
          legal = list_all-append is_legal names (copies names)
              ∙ (λ i. h.legal i && followed_all is_legal (copied_name source id) is_legal names h.legal (λ x y legal is. ap is_legal (sym (copy_is x y is).1) ∙ legal) i);
          apart = distinct_joined is_same_name names (copies names) h.apart
              (followed_distinct is_legal (copied_name source id) is_same_name is_same_name names h.legal h.apart (λ x y a b p q differ is other. copies_differ x y a b differ is other))
              (all_apart names names (none_scoped ids id free names h));
          living = list_all-append (has_living_scope later) names (copies names)
              ∙ (λ i. on.living i && followed_all is_legal (copied_name source id) (has_living_scope later) names h.legal
              (λ x y legal is. ap (has_living_scope later) (sym (copy_is x y is).1) ∙ any_here (λ o. id == o) ids index id (equal_itself id)) i);
        })

  pub trees_with_copies : (names : List DefinedName) → have_name_trees names ≡ true → have_name_trees (names_copied source id names) ≡ true
  unfolding have_name_trees
  trees_with_copies names all =
      let fits : DefinedName → Bool = λ (name : DefinedName). tree_fits_at first_place name.formula in
      list_all-append fits names (copies names)
      ∙ (λ i. all i && followed_all fits (copied_name source id) fits names all (λ x y passes is. ap fits (sym (copy_is x y is).1) ∙ passes) i)
