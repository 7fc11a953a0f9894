-- Items taken in pairs, as long as both lists have one, and items that a function finds.
use Rattle.std.proofs.Common.{◌≡◌, ℕ, zero, suc, ◌+◌, ◌<◌, ◌≤◌, min, List, [], ◌∷◌, ◌++◌, length, take, get_or, Option, Some, None, refl, ap, arith, sym, ◌∙◌, add-one}
use Rattle.std.specs.Prelude.{IfSome}
use Rattle.std.specs.List.{All, AllByRecursion, filter_map, cons_option}
use Rattle.std.proofs.lemmas.List.{take_more}
use Rattle.std.proofs.lemmas.List.Elements.{recursion_from_All, All-from_recursion, filter_map-append}
use Rattle.base_maps.specs.Lists.{zip_by}

zip_suc : {F K G : Type 0} (f : F → K → G) (xs : List F) (ks : List K) (i : ℕ) (x : F) (k : K) → i < length xs → i < length ks → x ≡ get_or xs i x → k ≡ get_or ks i k → zip_by f (take (suc i) xs) (take (suc i) ks) ≡ zip_by f (take i xs) (take i ks) ++ (f x k ∷ [])
zip_suc f [] ks i x k h j p q = absurd (omega arith)
zip_suc f (y ∷ ys) [] i x k h j p q = absurd (omega arith)
zip_suc f (y ∷ ys) (l ∷ ls) zero x k h j p q = ap (λ v. v ∷ []) (ap (λ w. f w l) (sym p) ∙ ap (f x) (sym q))
zip_suc f (y ∷ ys) (l ∷ ls) (suc i) x k h j p q = ap (λ v. f y l ∷ v) (zip_suc f ys ls i x k (omega arith) (omega arith) p q)

pub zip_more : {F K G : Type 0} (f : F → K → G) (xs : List F) (ks : List K) (i : ℕ) (x : F) (k : K) → i < length xs → i < length ks → x ≡ get_or xs i x → k ≡ get_or ks i k → zip_by f (take (i + 1) xs) (take (i + 1) ks) ≡ zip_by f (take i xs) (take i ks) ++ (f x k ∷ [])
zip_more f xs ks i x k h j p q = rw add-one (zip_suc f xs ks i x k h j p q)

pub zip_all : {F K G : Type 0} (f : F → K → G) (xs : List F) (ks : List K) (i : ℕ) → min (length xs) (length ks) ≤ i → zip_by f (take i xs) (take i ks) ≡ zip_by f xs ks
zip_all f [] ks zero h = refl
zip_all f [] ks (suc i) h = refl
zip_all f (y ∷ ys) [] zero h = refl
zip_all f (y ∷ ys) [] (suc i) h = refl
zip_all f (y ∷ ys) (l ∷ ls) zero h = absurd (omega arith)
zip_all f (y ∷ ys) (l ∷ ls) (suc i) h = ap (λ v. f y l ∷ v) (zip_all f ys ls i (omega arith))

-- what a function finds of items has what it gives of each
module _ {X Y : Type 0} (P : X → Type 0) (Q : Y → Type 0) (f : X → Option Y) (h : (x : X) → P x → IfSome (f x) Q) where
  one_more : (o : Option Y) (ys : List Y) → IfSome o Q → AllByRecursion Q ys → AllByRecursion Q (cons_option o ys)
  one_more None ys i all = all
  one_more (Some y) ys i all = (i, all)

  found : (xs : List X) → AllByRecursion P xs → AllByRecursion Q (filter_map f xs)
  found [] all = tt
  found (x ∷ xs) all = one_more (f x) (filter_map f xs) (h x all.0) (found xs all.1)

  pub all_found : (xs : List X) → All P xs → All Q (filter_map f xs)
  all_found xs all = All-from_recursion Q (filter_map f xs) (found xs (recursion_from_All P xs all))

-- one more item
pub one_left : {X Y : Type 0} (f : X → Option Y) (xs : List X) (i : ℕ) (d : X) → i < length xs → filter_map f (take (i + 1) xs) ≡ filter_map f (take i xs) ++ cons_option (f (get_or xs i d)) []
one_left f xs i d h = ap (filter_map f) (take_more xs i d h) ∙ filter_map-append f (take i xs) (get_or xs i d ∷ [])
