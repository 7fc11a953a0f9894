-- The law of followers for lists.
use Rattle.std.proofs.Common.{◌≡◌, List, [], ◌∷◌, Option, Some, None, map, refl, ap, subst, sym, ◌∙◌}
use Rattle.std.specs.Prelude.{IfSome}
use Rattle.std.specs.List.{All, AllByRecursion}
use Rattle.std.proofs.lemmas.List.Elements.{recursion_from_All, All-from_recursion}
use Rattle.base_maps.specs.laws.Each.{holds_of}
use Rattle.line_map.specs.Lists.{items_restored}
use Rattle.line_map.specs.laws.AloneLaws.{settles}

module _ {F : Type 0} (P Q : F → Type 0) (f : F → F) (h : (x : F) → P x → Q (f x)) where
  stay : (xs : List F) → AllByRecursion P xs → AllByRecursion Q (map f xs)
  stay [] all = tt
  stay (x ∷ xs) all = (h x all.0, stay xs all.1)

  pub items_stay : (xs : List F) → All P xs → All Q (map f xs)
  items_stay xs all = All-from_recursion Q (map f xs) (stay xs (recursion_from_All P xs all))

module _ {F K : Type 0} (P : F → Type 0) where
  fit : (part : F → Option K) (Fits : K → Type 0) → ((x : F) → P x → (k : K) → part x ≡ Some k → Fits k) → (xs : List F) → AllByRecursion P xs →
      AllByRecursion (λ o. IfSome o Fits) (map part xs)
  fit part Fits h [] all = tt
  fit part Fits h (x ∷ xs) all = (holds_of Fits (part x) (h x all.0), fit part Fits h xs all.1)

  -- the parts of items fit
  pub parts_fit : (part : F → Option K) (Fits : K → Type 0) → ((x : F) → P x → (k : K) → part x ≡ Some k → Fits k) → (xs : List F) → All P xs →
      (ks : List (Option K)) → Some (map part xs) ≡ Some ks → All (λ o. IfSome o Fits) ks
  parts_fit part Fits h xs all ks is =
      let same : map part xs ≡ ks = cc in
      subst (All (λ o. IfSome o Fits)) same (All-from_recursion (λ o. IfSome o Fits) (map part xs) (fit part Fits h xs (recursion_from_All P xs all)))

  module _ (carry home : F → F) (restore : F → K → F) (part : F → Option K) (back : (x : F) → P x → part x ≡ None → home (carry x) ≡ x)
      (regained : (x : F) → P x → (k : K) → part x ≡ Some k → restore (carry x) k ≡ x) where
    restored : (xs : List F) → AllByRecursion P xs → items_restored home restore (map carry xs) (map part xs) ≡ xs
    restored [] all = refl
    restored (x ∷ xs) all =
        ap (λ y. y ∷ items_restored home restore (map carry xs) (map part xs)) (settles home restore (carry x) x (part x) (part x) refl (back x all.0)
        (regained x all.0))
        ∙ ap (λ ys. x ∷ ys) (restored xs all.1)

    -- items are restored from their parts
    pub items_restore : (xs : List F) → All P xs → (ks : List (Option K)) → Some (map part xs) ≡ Some ks → items_restored home restore (map carry xs) ks ≡ xs
    items_restore xs all ks is =
        let same : map part xs ≡ ks = cc in
        ap (items_restored home restore (map carry xs)) (sym same) ∙ restored xs (recursion_from_All P xs all)
