-- Among one more numbers than there are names, one gives a text that no name is equal to.
use Rattle.std.proofs.Common.{◌≡◌, ◌⊎◌, inl, inr, ⊎_elim, ℕ, zero, suc, ◌+◌, ◌≤◌, ◌<◌, Bool, true, false, cond, not, ◌||◌, List, [], ◌∷◌, length, refl, ap, sym, ◌∙◌, arith, true≢false}
use Rattle.std.specs.List.{AllByRecursion, filter}
use Rattle.base_tables.specs.Folding.{same_folded}
use Rattle.sheet_naming.specs.FreeNames.{is_taken, least_free, free_text}

-- numbers below a bound that rise strictly
abbrev rise : ℕ → List ℕ → Type 0
rise bound [] = Unit {0}
rise bound (n ∷ ns) = (n < bound) × AllByRecursion (λ m. n < m) ns × rise bound ns

-- a number and so many more behind it
abbrev numbers : ℕ → ℕ → List ℕ
numbers first zero = first ∷ []
numbers first (suc more) = first ∷ numbers (first + 1) more

all_behind : (low first more : ℕ) → low < first → AllByRecursion (λ m. low < m) (numbers first more)
all_behind low first zero h = (h, tt)
all_behind low first (suc more) h = (h, all_behind low (first + 1) more (omega arith))

numbers_rise : (bound first more : ℕ) → first + more < bound → rise bound (numbers first more)
numbers_rise bound first zero h = (omega arith, tt, tt)
numbers_rise bound first (suc more) h = (omega arith, all_behind first (first + 1) more (omega arith), numbers_rise bound (first + 1) more (omega arith))

count : (first more : ℕ) → length (numbers first more) ≡ suc more
count first zero = refl
count first (suc more) = ap suc (count (first + 1) more)

all_filtered : {X : Type 0} (P : X → Type 0) (p : X → Bool) (xs : List X) → AllByRecursion P xs → AllByRecursion P (filter p xs)
all_filtered P p [] all = tt
all_filtered P p (x ∷ xs) all =
    elim (p x) as (λ b. AllByRecursion P (cond b (x ∷ filter p xs) (filter p xs)))
    [ true ↦ (all.0, all_filtered P p xs all.1) | false ↦ all_filtered P p xs all.1 ]

rise_filtered : (bound : ℕ) (p : ℕ → Bool) (ns : List ℕ) → rise bound ns → rise bound (filter p ns)
rise_filtered bound p [] r = tt
rise_filtered bound p (n ∷ ns) r =
    elim (p n) as (λ b. rise bound (cond b (n ∷ filter p ns) (filter p ns)))
    [ true ↦ (r.0, all_filtered (λ m. n < m) p ns r.1, rise_filtered bound p ns r.2) | false ↦ rise_filtered bound p ns r.2 ]

-- texts of numbers below a bound, where no name is equal to those of two
module _ (text : ℕ → List ℕ) (bound : ℕ)
    (apart : (m n : ℕ) (name : List ℕ) → m < n → n < bound → same_folded (text m) name ≡ true → same_folded (text n) name ≡ false) where
  -- the numbers whose text a name does not take
  abbrev left_by : List ℕ → List ℕ → List ℕ
  left_by name ns = filter (λ n. not (same_folded (text n) name)) ns

  none_later : (name : List ℕ) (n : ℕ) (ns : List ℕ) → same_folded (text n) name ≡ true → AllByRecursion (λ m. n < m) ns → rise bound ns
      → left_by name ns ≡ ns
  none_later name n [] hit behind r = refl
  none_later name n (m ∷ ns) hit behind r =
      (λ i. cond (not (apart n m name behind.0 r.0 hit i)) (m ∷ left_by name ns) (left_by name ns))
      ∙ ap (λ ms. m ∷ ms) (none_later name n ns hit behind.1 r.2)

  -- a name takes one of them at most
  one_taken : (name : List ℕ) (ns : List ℕ) → rise bound ns → length ns ≤ suc (length (left_by name ns))
  one_taken name [] r = omega arith
  one_taken name (n ∷ ns) r = go (same_folded (text n) name) refl (one_taken name ns r.2)
    where
      go : (b : Bool) → same_folded (text n) name ≡ b → length ns ≤ suc (length (left_by name ns))
          → suc (length ns) ≤ suc (length (cond (not b) (n ∷ left_by name ns) (left_by name ns)))
      go true hit rest = let all : length (left_by name ns) ≡ length ns = ap length (none_later name n ns hit r.1 r.2) in omega (arith, all)
      go false miss rest = omega (arith, rest)

  still_taken : (one : List ℕ) (others : List (List ℕ)) (ms : List ℕ) → AllByRecursion (λ n. is_taken (one ∷ others) (text n) ≡ true) ms
      → AllByRecursion (λ n. is_taken others (text n) ≡ true) (left_by one ms)
  still_taken one others [] all = tt
  still_taken one others (m ∷ ms) all =
      let rest = still_taken one others ms all.1 in
      elim (same_folded (text m) one) as (λ b. (b || is_taken others (text m)) ≡ true →
      AllByRecursion (λ n. is_taken others (text n) ≡ true) (cond (not b) (m ∷ left_by one ms) (left_by one ms)))
      [ true ↦ λ taken. rest | false ↦ λ taken. (taken, rest) ] all.0

  -- numbers that are all taken are no more than there are names
  all_taken_short : (names : List (List ℕ)) (ns : List ℕ) → rise bound ns → AllByRecursion (λ n. is_taken names (text n) ≡ true) ns
      → length ns ≤ length names
  all_taken_short [] [] r all = omega arith
  all_taken_short [] (n ∷ ns) r all = absurd (true≢false (sym all.0))
  all_taken_short (name ∷ names) ns r all =
      let rest : length (left_by name ns) ≤ length names =
      all_taken_short names (left_by name ns) (rise_filtered bound (λ n. not (same_folded (text n) name)) ns r) (still_taken name names ns all) in
      let one : length ns ≤ suc (length (left_by name ns)) = one_taken name ns r in
      omega (arith, rest, one)

  -- the number that is found is free, or all of them are taken
  found_or_all : (taken : ℕ → Bool) (first more : ℕ)
      → (taken (least_free taken first more) ≡ false) ⊎ AllByRecursion (λ n. taken n ≡ true) (numbers first more)
  found_or_all taken first zero = elim (taken first) as (λ b. (b ≡ false) ⊎ ((b ≡ true) × Unit {0})) [ true ↦ inr (refl, tt) | false ↦ inl refl ]
  found_or_all taken first (suc more) = go (taken first) refl (found_or_all taken (first + 1) more)
    where
      go : (b : Bool) → taken first ≡ b → (taken (least_free taken (first + 1) more) ≡ false) ⊎ AllByRecursion (λ n. taken n ≡ true) (numbers (first + 1) more)
          → (taken (cond b (least_free taken (first + 1) more) first) ≡ false)
          ⊎ ((taken first ≡ true) × AllByRecursion (λ n. taken n ≡ true) (numbers (first + 1) more))
      go true is (inl free) = inl free
      go true is (inr all) = inr (is, all)
      go false is rest = inl is

  -- so the number that is found among one more than there are names is free
  pub least_is_free : (names : List (List ℕ)) (first : ℕ) → first + length names < bound → is_taken names (free_text text first names) ≡ false
  least_is_free names first below =
      ⊎_elim (λ free. free)
      (λ all. let rising = numbers_rise bound first (length names) below in
      let short : length (numbers first (length names)) ≤ length names = all_taken_short names (numbers first (length names)) rising all in
      let long : length (numbers first (length names)) ≡ suc (length names) = count first (length names) in
      absurd (omega (arith, short, long)))
      (found_or_all (λ n. is_taken names (text n)) first (length names))

-- the number that is found is one of those that are tried
pub least_among : (taken : ℕ → Bool) (first more : ℕ) → least_free taken first more ≤ first + more
least_among taken first zero = omega arith
least_among taken first (suc more) =
    let rest : least_free taken (first + 1) more ≤ (first + 1) + more = least_among taken (first + 1) more in
    elim (taken first) as (λ b. cond b (least_free taken (first + 1) more) first ≤ first + suc more)
    [ true ↦ omega (arith, rest) | false ↦ omega arith ]
