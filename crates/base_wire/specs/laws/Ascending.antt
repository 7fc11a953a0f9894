-- Entries whose keys rise strictly.
use Rattle.std.proofs.Common.{◌≡◌, ℕ, zero, suc, ◌+◌, ◌<◌, Bool, true, false, List, [], ◌∷◌, ◌++◌, length, get_or, refl, ap, sym, ◌∙◌, append_assoc, arith, inl, inr}
use Rattle.std.proofs.lemmas.List.{append-nil, get_or_default}
use Rattle.std.proofs.lemmas.Bool.{and_parts, and_from, cases_lt}
use Rattle.std.proofs.lemmas.Map.Lookups.{CmpEqualImpliesEq}
use Rattle.std.specs.Cmp.{IsTotalOrder}
use Rattle.std.specs.Ordering.{is_lt}
use Rattle.std.specs.declared.cmp.Ordering.{Ordering}
use Rattle.std.specs.declared.cmp.Ordering.TheVariants.{Less, Equal, Greater}
use Rattle.std.specs.FinMap.{empty, from_entries, insert, from_entries_push, is_sorted}
use Rattle.std.specs.FinMap.Entries.{below_all}
use Rattle.base_values.specs.KeyMap.{with_entries}
use Rattle.base_maps.specs.laws.Keys.{not_before}

is_less : (o : Ordering) → is_lt o ≡ true → o ≡ Less
is_less Less h = refl
is_less Equal h = cc
is_less Greater h = cc

module _ {K X : Type 0} (R : K → K → Ordering) (total : IsTotalOrder R) where
  below_further : (x y : K) (es : List (K × X)) → R x y ≡ Less → below_all R y es ≡ true → below_all R x es ≡ true
  below_further x y [] h all = refl
  below_further x y (e ∷ es) h all =
      let p = and_parts (is_lt (R y e.0)) (below_all R y es) all in
      and_from (is_lt (R x e.0)) (below_all R x es) (ap is_lt (total.trans x y e.0 h (is_less (R y e.0) p.0))) (below_further x y es h p.1)

  -- below n, the key of each entry is below that of the next
  abbrev pub RisesTo : List (K × X) → ℕ → Type 0
  RisesTo es n = (k j : ℕ) (d e : K × X) → k + 1 ≡ j → j < n → is_lt (R (get_or es k d).0 (get_or es j e).0) ≡ true

  pub rises_more : (es : List (K × X)) (k i : ℕ) (x y : K × X) → k + 1 ≡ i → i < length es → is_lt (R (get_or es k x).0 (get_or es i y).0) ≡ true → RisesTo es i → RisesTo es (i + 1)
  rises_more es k i x y last lt h so_far l j d e next below =
      elim (cases_lt j i) [
        | inl before ↦ so_far l j d e next before
        | inr after ↦
            let here : j ≡ i = omega arith in
            let there : l ≡ k = omega arith in
            rw (here, there, get_or_default es k d x (omega arith), get_or_default es i e y lt) h
      ]

  -- keys of which each is below the next rise
  pub rise_by_steps : (es : List (K × X)) → RisesTo es (length es) → is_sorted R es ≡ true
  rise_by_steps [] steps = refl
  rise_by_steps (e ∷ []) steps = refl
  rise_by_steps (e ∷ f ∷ fs) steps =
      let first : is_lt (R e.0 f.0) ≡ true = steps 0 1 e e refl (omega arith) in
      let rest = rise_by_steps (f ∷ fs) (λ k j d g next lt. steps (suc k) (suc j) d g (omega arith) (omega arith)) in
      let p = and_parts (below_all R f.0 fs) (is_sorted R fs) rest in
      and_from (below_all R e.0 (f ∷ fs)) (is_sorted R (f ∷ fs)) (and_from (is_lt (R e.0 f.0)) (below_all R e.0 fs) first (below_further e.0 f.0 fs (is_less (R e.0 f.0) first) p.0)) rest

  -- of keys that rise, each is below the next
  rises_step : (es : List (K × X)) (k j : ℕ) (d e : K × X) → k + 1 ≡ j → j < length es → is_sorted R es ≡ true → is_lt (R (get_or es k d).0 (get_or es j e).0) ≡ true
  rises_step es k zero d e next lt h = absurd (omega arith)
  rises_step [] k (suc j) d e next lt h = absurd (omega arith)
  rises_step (x ∷ []) k (suc j) d e next lt h = absurd (omega arith)
  rises_step (x ∷ y ∷ ys) zero (suc zero) d e next lt h = (and_parts (is_lt (R x.0 y.0)) (below_all R x.0 ys) (and_parts (below_all R x.0 (y ∷ ys)) (is_sorted R (y ∷ ys)) h).0).0
  rises_step (x ∷ y ∷ ys) zero (suc (suc j)) d e next lt h = absurd (omega arith)
  rises_step (x ∷ y ∷ ys) (suc k) (suc j) d e next lt h = rises_step (y ∷ ys) k j d e (omega arith) (omega arith) (and_parts (below_all R x.0 (y ∷ ys)) (is_sorted R (y ∷ ys)) h).1

  -- where a key is not below the next, they don't rise
  pub no_rise : (es : List (K × X)) (k j : ℕ) (d e : K × X) → k + 1 ≡ j → j < length es → is_lt (R (get_or es k d).0 (get_or es j e).0) ≡ false → is_sorted R es ≡ false
  no_rise es k j d e next lt h = by_test (is_sorted R es) refl
    where
      by_test : (b : Bool) → is_sorted R es ≡ b → b ≡ false
      by_test true same = sym (rises_step es k j d e next lt same) ∙ h
      by_test false same = refl

  -- a map made of the first entries goes on with the next one
  made_more : CmpEqualImpliesEq R → (es fs : List (K × X)) (e : K × X) → is_sorted R (es ++ e ∷ fs) ≡ true → from_entries {R = R} (es ++ e ∷ []) ≡ insert (from_entries es) e.0 e.1
  made_more exact es fs e h = from_entries_push total exact es e.0 e.1 (not_before R total exact es e fs h)

  -- entries in order make the same map where they are put in one after another
  put_on : CmpEqualImpliesEq R → (es fs : List (K × X)) → is_sorted R (es ++ fs) ≡ true → with_entries (from_entries {R = R} es) fs ≡ from_entries (es ++ fs)
  put_on exact es [] h = ap from_entries (sym (append-nil es))
  put_on exact es (f ∷ fs) h =
      let whole : (es ++ f ∷ []) ++ fs ≡ es ++ f ∷ fs = append_assoc es (f ∷ []) fs in
      ap (λ m. with_entries m fs) (sym (made_more exact es fs f h)) ∙ put_on exact (es ++ f ∷ []) fs (ap (is_sorted R) whole ∙ h) ∙ ap from_entries whole

  pub put_in_turn : CmpEqualImpliesEq R → (es : List (K × X)) → is_sorted R es ≡ true → with_entries (empty {R = R}) es ≡ from_entries es
  put_in_turn exact es h = put_on exact [] es h
