-- First places of names, where one is added at the end or taken away there.
use Rattle.std.proofs.Common.{◌≡◌, ℕ, ◌+◌, ◌≤◌, ◌<◌, eqb, Bool, true, false, cond, not, ◌&&◌, ◌||◌, Option, Some, None, List, [], ◌∷◌, ◌++◌, length, refl, sym, ap, ◌∙◌, arith, length-append, suc}
use Rattle.std.specs.Prelude.{nat_lt, nat_eq, is_some, String}
use Rattle.std.specs.Option.{option_eq, unwrap_or}
use Rattle.std.specs.List.{position, position_or_len, list_any}
use Rattle.std.specs.Ordering.{nat_cmp}
use Rattle.std.specs.String.{string_cmp, string_bytes}
use Rattle.std.specs.BTreeMap.{BTreeMap, get_by_text, UpdatesBy}
use Rattle.std.specs.Cmp.Lexicographic.{bytes_decides, nat_list_eq_equiv, slice_cmp}
use Rattle.std.proofs.lemmas.Bool.Decides.{nat_tests}
use Rattle.std.proofs.lemmas.List.Folds.{position_or_len_push}
use Rattle.std.proofs.lemmas.List.Quantifiers.{position-Some}
use Rattle.std.proofs.lemmas.List.Sums.{prefix_len-le-length}
use Rattle.std.proofs.lemmas.Map.Text.{btree_map_updates_text}
use Rattle.base_tables.specs.Tables.{same_text}
use Rattle.formula_print.specs.FirstPlaces.{HoldsFirstPlaces, NotesPlace, DropsPlace}

-- the first place after one more item was looked at
abbrev then_at : Option ℕ → Bool → ℕ → Option ℕ
then_at (Some i) b n = Some i
then_at None b n = cond b (Some n) None

by_counts : (i n j m : ℕ) (b : Bool) → i ≤ n → j ≡ cond (eqb i n) (n + cond b 0 1) i → m ≡ n + 1
    → cond (nat_lt j m) (Some j) None ≡ then_at (cond (nat_lt i n) (Some i) None) b n
by_counts i n j m true h e l = grind (arith, nat_tests)
by_counts i n j m false h e l = grind (arith, nat_tests)

one_more : (i n : ℕ) (b : Bool) (found : Bool) → is_some (cond {A = Option ℕ} (nat_lt i n) (Some i) None) ≡ found
    → is_some (cond {A = Option ℕ} (nat_lt (cond (not b) (1 + i) 0) (suc n)) (Some (cond (not b) (1 + i) 0)) None) ≡ (b || found)
one_more i n true found h = grind (arith, nat_tests)
one_more i n false found h = grind (arith, nat_tests)

module _ {X : Type 0} (p : X → Bool) where
  position_pushed : (xs : List X) (y : X) → position p (xs ++ y ∷ []) ≡ then_at (position p xs) (p y) (length xs)
  position_pushed xs y =
      by_counts (position_or_len p xs) (length xs) (position_or_len p (xs ++ y ∷ [])) (length (xs ++ y ∷ [])) (p y) (prefix_len-le-length (λ x. not (p x)) xs)
      (position_or_len_push p xs y) (length-append xs (y ∷ []))

  -- an item that passes has a first place, and the other way round
  pub is_some-position : (xs : List X) → is_some (position p xs) ≡ list_any p xs
  is_some-position [] = refl
  is_some-position (x ∷ xs) = one_more (position_or_len p xs) (length xs) (p x) (list_any p xs) (is_some-position xs)

-- ---- what the calls of a map do

noted_value : (before : Option ℕ) (at : ℕ) (b : Bool) → is_some before ≡ false → (rest : Option ℕ) → cond b (Some at) rest ≡ cond b (Some (unwrap_or before at)) rest
noted_value None at b h rest = refl
noted_value (Some i) at b h rest = cc

dropped_value : (b found : Bool) → found ≡ true → (rest : Option ℕ) → cond b None rest ≡ cond (b && found) None rest
dropped_value true true h rest = refl
dropped_value true false h rest = cc
dropped_value false found h rest = refl

module _ {Y : Type 0} (old new : BTreeMap (String Y) ℕ) (name : List ℕ) (at : ℕ) where
  -- a new name is inserted
  pub notes_new : (key : List ℕ) → key ≡ name → is_some (get_by_text old name) ≡ false → UpdatesBy string_cmp (λ k. slice_cmp nat_cmp key (string_bytes k)) old new (Some at) → NotesPlace old new name at
  notes_new key e absent h other =
      btree_map_updates_text key old new (Some at) h other
      ∙ ap (λ bs. cond (same_text bs other) (Some at) (get_by_text old other)) e
      ∙ noted_value (get_by_text old name) at (same_text name other) absent (get_by_text old other)

  -- a name that stood there first is removed
  pub drops_first : (key : List ℕ) → key ≡ name → option_eq nat_eq (get_by_text old name) (Some at) ≡ true → UpdatesBy string_cmp (λ k. slice_cmp nat_cmp key (string_bytes k)) old new None → DropsPlace old new name at
  drops_first key e first h other =
      btree_map_updates_text key old new None h other
      ∙ ap (λ bs. cond (same_text bs other) None (get_by_text old other)) e
      ∙ dropped_value (same_text name other) (option_eq nat_eq (get_by_text old name) (Some at)) first (get_by_text old other)

-- ---- what that is of the list

pushed_value : (before : Option ℕ) (own : Option ℕ) (b : Bool) (n : ℕ) → (b ≡ true → own ≡ before) → cond b (Some (unwrap_or own n)) before ≡ then_at before b n
pushed_value (Some i) own true n h = ap (λ o. Some (unwrap_or o n)) (h refl)
pushed_value None own true n h = ap (λ o. Some (unwrap_or o n)) (h refl)
pushed_value (Some i) own false n h = refl
pushed_value None own false n h = refl

own_place : (first : Option ℕ) (n : ℕ) → ((i : ℕ) → first ≡ Some i → i < n) → cond (option_eq nat_eq (then_at first true n) (Some n)) None (then_at first true n) ≡ first
own_place (Some i) n short = let less : i < n = short i refl in grind (arith, nat_tests)
own_place None n short = grind (arith, nat_tests)

popped_value : (before own : Option ℕ) (b : Bool) (n : ℕ) → ((i : ℕ) → before ≡ Some i → i < n) → (b ≡ true → own ≡ before)
    → cond (b && option_eq nat_eq (then_at own true n) (Some n)) None (then_at before b n) ≡ before
popped_value before own true n short h = ap (λ o. cond (option_eq nat_eq (then_at o true n) (Some n)) None (then_at before true n)) (h refl) ∙ own_place before n short
popped_value (Some i) own false n short h = refl
popped_value None own false n short h = refl

module _ {Y : Type 0} (old new : BTreeMap (String Y) ℕ) (names : List (List ℕ)) (name : List ℕ) where
  abbrev first_in : List ℕ → Option ℕ
  first_in other = position (same_text other) names

  same_first : (other : List ℕ) → same_text name other ≡ true → first_in name ≡ first_in other
  same_first other e = ap first_in ((bytes_decides name other).0 e)

  with_name : (other : List ℕ) → position (same_text other) (names ++ name ∷ []) ≡ then_at (first_in other) (same_text name other) (length names)
  with_name other =
      position_pushed (same_text other) names name
      ∙ ap (λ (b : Bool). then_at (first_in other) b (length names)) (nat_list_eq_equiv.symm other name)

  -- the first places after a name was added
  pub holds_pushed : HoldsFirstPlaces old names → NotesPlace old new name (length names) → HoldsFirstPlaces new (names ++ name ∷ [])
  holds_pushed h noted other =
      noted other
      ∙ ap (λ (o : Option ℕ). cond (same_text name other) (Some (unwrap_or o (length names))) (get_by_text old other)) (h name)
      ∙ ap (λ (o : Option ℕ). cond (same_text name other) (Some (unwrap_or (first_in name) (length names))) o) (h other)
      ∙ pushed_value (first_in other) (first_in name) (same_text name other) (length names) (same_first other)
      ∙ sym (with_name other)

  -- the first places after the last name was taken away
  pub holds_popped : HoldsFirstPlaces old (names ++ name ∷ []) → DropsPlace old new name (length names) → HoldsFirstPlaces new names
  holds_popped h dropped other =
      let at_name : get_by_text old name ≡ then_at (first_in name) true (length names) = h name ∙ with_name name ∙ ap (λ (b : Bool). then_at (first_in name) b (length names)) (nat_list_eq_equiv.refl name) in
      dropped other
      ∙ ap (λ (o : Option ℕ). cond (same_text name other && option_eq nat_eq o (Some (length names))) None (get_by_text old other)) at_name
      ∙ ap (λ (o : Option ℕ). cond (same_text name other && option_eq nat_eq (then_at (first_in name) true (length names)) (Some (length names))) None o) (h other ∙ with_name other)
      ∙ popped_value (first_in other) (first_in name) (same_text name other) (length names) (λ i e. (position-Some (same_text other) names i [] e).0) (same_first other)
