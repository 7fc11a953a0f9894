-- Keys that compare alike, and entries in the order of their keys.
use Rattle.std.proofs.Common.{◌≡◌, Bool, true, false, cond, List, [], ◌∷◌, ◌++◌, Some, None, refl, ap, ◌∙◌}
use Rattle.std.specs.Prelude.{◌&&◌}
use Rattle.std.specs.declared.cmp.Ordering.{Ordering}
use Rattle.std.specs.declared.cmp.Ordering.TheVariants.{Less, Equal, Greater}
use Rattle.std.specs.Ordering.{is_eq, is_lt, eq_by_cmp}
use Rattle.std.specs.Cmp.{IsTotalOrder, eq_by_cmp_equiv}
use Rattle.std.proofs.lemmas.Map.Lookups.{CmpEqualImpliesEq}
use Rattle.std.specs.FinMap.Entries.{find, is_sorted, below_all}

module _ {K : Type 0} (R : K → K → Ordering) (total : IsTotalOrder R) (exact : CmpEqualImpliesEq R) where
  tied : (o : Ordering) → is_eq o ≡ true → o ≡ Equal
  tied Less h = absurd (cc)
  tied Equal h = refl
  tied Greater h = absurd (cc)

  -- keys that compare alike are one
  pub one_key : (p q : K) → eq_by_cmp R p q ≡ true → p ≡ q
  one_key p q h = exact p q (tied (R p q) h)

  pub own_key : (p : K) → eq_by_cmp R p p ≡ true
  own_key p = (eq_by_cmp_equiv total).refl p

  pub apart_keys : (p q : K) → (p ≡ q → ⊥) → eq_by_cmp R p q ≡ false
  apart_keys p q h = elim (eq_by_cmp R p q) as (λ b. eq_by_cmp R p q ≡ b → b ≡ false) [ true ↦ λ e. absurd (h (one_key p q e)) | false ↦ λ e. refl ] refl

lower : (a b : Bool) → (a && b) ≡ true → a ≡ true
lower true b h = refl
lower false b h = absurd (cc)

upper : (a b : Bool) → (a && b) ≡ true → b ≡ true
upper true b h = h
upper false b h = absurd (cc)

not_tied : (o : Ordering) → is_lt o ≡ true → is_eq o ≡ false
not_tied Less h = refl
not_tied Equal h = absurd (cc)
not_tied Greater h = absurd (cc)

both_true : (a b : Bool) → a ≡ true → b ≡ true → (a && b) ≡ true
both_true true b h i = i
both_true false b h i = absurd (cc)

module _ {K X : Type 0} (R : K → K → Ordering) where
  -- below all keys of a list nothing is found
  below_none : (p : K) (es : List (K × X)) → below_all R p es ≡ true → find R p es ≡ None
  below_none p [] h = refl
  below_none p (e ∷ es) h =
      ap (λ b. cond b (Some e.1) (find R p es)) (not_tied (R p e.0) (lower (is_lt (R p e.0)) (below_all R p es) h))
      ∙ below_none p es (upper (is_lt (R p e.0)) (below_all R p es) h)

  -- the first key of a sorted list does not stand again behind it
  pub first_once : (e : K × X) (es : List (K × X)) → is_sorted R (e ∷ es) ≡ true → find R e.0 es ≡ None
  first_once e es h = below_none e.0 es (lower (below_all R e.0 es) (is_sorted R es) h)

  -- behind the first entry a sorted list is sorted
  pub sorted_rest : (e : K × X) (es : List (K × X)) → is_sorted R (e ∷ es) ≡ true → is_sorted R es ≡ true
  sorted_rest e es h = upper (below_all R e.0 es) (is_sorted R es) h

  -- in a sorted list the first key is below each later one, and what stands before an entry is sorted too
  below_later : (p : K) (ys : List (K × X)) (e : K × X) (zs : List (K × X)) → below_all R p (ys ++ e ∷ zs) ≡ true → is_lt (R p e.0) ≡ true
  below_later p [] e zs h = lower (is_lt (R p e.0)) (below_all R p zs) h
  below_later p (y ∷ ys) e zs h = below_later p ys e zs (upper (is_lt (R p y.0)) (below_all R p (ys ++ e ∷ zs)) h)

  below_front : (p : K) (ys zs : List (K × X)) → below_all R p (ys ++ zs) ≡ true → below_all R p ys ≡ true
  below_front p [] zs h = refl
  below_front p (y ∷ ys) zs h =
      both_true (is_lt (R p y.0)) (below_all R p ys) (lower (is_lt (R p y.0)) (below_all R p (ys ++ zs)) h) (below_front p ys zs (upper (is_lt (R p y.0)) (below_all R p (ys ++ zs)) h))

  pub sorted_front : (ys zs : List (K × X)) → is_sorted R (ys ++ zs) ≡ true → is_sorted R ys ≡ true
  sorted_front [] zs h = refl
  sorted_front (y ∷ ys) zs h =
      both_true (below_all R y.0 ys) (is_sorted R ys) (below_front y.0 ys zs (lower (below_all R y.0 (ys ++ zs)) (is_sorted R (ys ++ zs)) h))
      (sorted_front ys zs (upper (below_all R y.0 (ys ++ zs)) (is_sorted R (ys ++ zs)) h))

  -- the key of an entry does not stand before it
  pub not_before : (total : IsTotalOrder R) → (exact : CmpEqualImpliesEq R) → (ys : List (K × X)) (e : K × X) (zs : List (K × X)) → is_sorted R (ys ++ e ∷ zs) ≡ true → find R e.0 ys ≡ None
  not_before total exact [] e zs h = refl
  not_before total exact (y ∷ ys) e zs h =
      let less : is_lt (R y.0 e.0) ≡ true = below_later y.0 ys e zs (lower (below_all R y.0 (ys ++ e ∷ zs)) (is_sorted R (ys ++ e ∷ zs)) h) in
      ap (λ b. cond b (Some y.1) (find R e.0 ys)) (apart_keys R total exact e.0 y.0 (λ same.
      let tie : is_eq (R y.0 e.0) ≡ true = ap (λ k. is_eq (R y.0 k)) same ∙ own_key R total exact y.0 in
      let no : is_eq (R y.0 e.0) ≡ false = not_tied (R y.0 e.0) less in absurd (cc)))
      ∙ not_before total exact ys e zs (upper (below_all R y.0 (ys ++ e ∷ zs)) (is_sorted R (ys ++ e ∷ zs)) h)
