-- A list of which each element may change or go passes the tests that each element then passes.
use Rattle.std.proofs.Common.{◌≡◌, Bool, true, false, not, ◌&&◌, ◌||◌, List, [], ◌∷◌, Option, Some, None, refl}
use Rattle.std.specs.List.{list_all, list_any, filter_map, cons_option}
use Rattle.sheet_rules.specs.Distinct.{are_distinct}
use Rattle.sheet_rules.specs.laws.EntryLaws.{both}
use Rattle.sheet_rules.specs.laws.ShownLaws.{neither, not_true}

module _ {X Y : Type 0} (P : X → Bool) (f : X → Option Y) where
  module _ (Q : Y → Bool) where
    all_more : (o : Option Y) (ys : List Y) → ((y : Y) → o ≡ Some y → Q y ≡ true) → list_all Q ys ≡ true → list_all Q (cons_option o ys) ≡ true
    all_more None ys head tail = tail
    all_more (Some y) ys head tail = λ i. head y refl i && tail i

    -- where all pass, all that they become pass another test
    pub followed_all : (xs : List X) → list_all P xs ≡ true → ((x : X) (y : Y) → P x ≡ true → f x ≡ Some y → Q y ≡ true) → list_all Q (filter_map f xs) ≡ true
    followed_all [] all step = refl
    followed_all (x ∷ xs) all step = let parts = both _ _ all in all_more (f x) (filter_map f xs) (λ y is. step x y parts.0 is) (followed_all xs parts.1 step)

    none_more : (o : Option Y) (ys : List Y) → ((y : Y) → o ≡ Some y → Q y ≡ false) → list_any Q ys ≡ false → list_any Q (cons_option o ys) ≡ false
    none_more None ys head tail = tail
    none_more (Some y) ys head tail = λ i. head y refl i || tail i

    -- where none passes a test, none that they become passes another
    pub followed_none : (T : X → Bool) (xs : List X) → list_all P xs ≡ true → list_any T xs ≡ false → ((x : X) (y : Y) → P x ≡ true → T x ≡ false → f x ≡ Some y → Q y ≡ false) → list_any Q (filter_map f xs) ≡ false
    followed_none T [] all none step = refl
    followed_none T (x ∷ xs) all none step =
        let parts = both _ _ all in
        let others = neither _ _ none in
        none_more (f x) (filter_map f xs) (λ y is. step x y parts.0 others.0 is) (followed_none T xs parts.1 others.1 step)

  module _ (before : X → X → Bool) (after : Y → Y → Bool) where
    distinct_more : (o : Option Y) (ys : List Y) → ((y : Y) → o ≡ Some y → list_any (after y) ys ≡ false) → are_distinct after ys ≡ true → are_distinct after (cons_option o ys) ≡ true
    distinct_more None ys head tail = tail
    distinct_more (Some y) ys head tail = λ i. not (head y refl i) && tail i

    -- where no two are the same in one sense, no two that they become are in another
    pub followed_distinct : (xs : List X) → list_all P xs ≡ true → are_distinct before xs ≡ true
        → ((x y : X) (a b : Y) → P x ≡ true → P y ≡ true → before x y ≡ false → f x ≡ Some a → f y ≡ Some b → after a b ≡ false) → are_distinct after (filter_map f xs) ≡ true
    followed_distinct [] all apart step = refl
    followed_distinct (x ∷ xs) all apart step =
        let parts = both _ _ all in
        let others = both _ _ apart in
        distinct_more (f x) (filter_map f xs)
        (λ a is. followed_none (after a) (before x) xs parts.1 (not_true _ others.0) (λ y b passes differ goes. step x y a b parts.0 passes differ is goes))
        (followed_distinct xs parts.1 others.1 step)
