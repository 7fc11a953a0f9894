-- What is known of the values of a map that bytes can carry, and of a value that may be missing.
use Rattle.std.proofs.Common.{◌≡◌, ◌^◌, ◌<◌, List, [], ◌∷◌, length, Option, Some, None, Result, Ok, Err, sym, subst}
use Rattle.std.specs.Prelude.{IfOk, IfSome}
use Rattle.std.proofs.lemmas.List.Elements.{All-from_recursion, All-same, recursion_from_All}
use Rattle.std.proofs.lemmas.Map.Lookups.{CmpEqualImpliesEq}
use Rattle.std.specs.Cmp.{IsTotalOrder}
use Rattle.std.specs.List.{All, AllByRecursion}
use Rattle.std.specs.FinMap.{FinMap, entries, get}
use Rattle.std.specs.declared.cmp.Ordering.{Ordering}
use Rattle.base_values.specs.Answers.{map_ok}
use Rattle.base_maps.specs.laws.Known.{entries_known, values_known}
use Rattle.base_wire.specs.Encoding.{Any, Both}
use Rattle.base_wire.specs.MapBytes.{FitsMap, Within}

-- bytes can carry the entry where it is known
abbrev pub Carried : {K X : Type 0} → (K → Type 0) → (X → Type 0) → (K → Type 0) → (X → Type 0) → K × X → Type 0
Carried KnownKey KnownValue FitsKey FitsValue entry = Both KnownKey KnownValue entry → Both FitsKey FitsValue entry

-- nothing is asked of it
pub any_option : {A : Type 0} (o : Option A) → IfSome o Any
any_option None = tt
any_option (Some x) = tt

module _ {K X : Type 0} (P : K → Type 0) (Q S : X → Type 0) (change : (x : X) → Q x → S x) where
  second_holds : (es : List (K × X)) → AllByRecursion (Both P Q) es → AllByRecursion (λ e. S e.1) es
  second_holds [] all = tt
  second_holds (e ∷ es) all = (change e.1 all.0.1, second_holds es all.1)

  -- what holds of each value that bytes can carry holds of those of a map that they can carry
  pub values_hold : {R : K → K → Ordering} (m : FinMap R X) → FitsMap P Q m → (key : K) → IfSome (get m key) S
  values_hold m fits key = values_known S m (second_holds (entries m) fits.each) key

module _ {K X : Type 0} (KnownKey : K → Type 0) (Known : X → Type 0) (FitsKey : K → Type 0) (Fits : X → Type 0) where
  each_fits : (es : List (K × X)) → AllByRecursion (Carried KnownKey Known FitsKey Fits) es → AllByRecursion (λ e. KnownKey e.0) es → AllByRecursion (λ e. Known e.1) es → AllByRecursion (Both FitsKey Fits) es
  each_fits [] carried keys values = tt
  each_fits (e ∷ es) carried keys values = (carried.0 (keys.0, values.0), each_fits es carried.1 keys.1 values.1)

  -- bytes can carry a map that is known, by what was written of its entries
  pub written_fits : {R : K → K → Ordering} → IsTotalOrder R → CmpEqualImpliesEq R → (m : FinMap R X) (es : List (K × X)) → es ≡ entries m → length es < 2 ^ 64 → AllByRecursion (Carried KnownKey Known FitsKey Fits) es
      → AllByRecursion (λ e. KnownKey e.0) (entries m) → ((key : K) → IfSome (get m key) Known) → FitsMap FitsKey Fits m
  written_fits {R} total exact m es same short carried keys values = record {
    short = subst (λ (fs : List (K × X)). length fs < 2 ^ 64) same short;
    each = each_fits (entries m) (subst (AllByRecursion (Carried KnownKey Known FitsKey Fits)) same carried) keys (entries_known R total exact Known m values);
  }

-- what holds of the parts of each entry holds of its key
pub keys_hold : {K X : Type 0} (P : K → Type 0) (Q : X → Type 0) (es : List (K × X)) → AllByRecursion (Both P Q) es → All (λ e. P e.0) es
keys_hold P Q es all = All-from_recursion (λ e. P e.0) es (firsts es all)
  where
    firsts : (es : List _) → AllByRecursion (Both P Q) es → AllByRecursion (λ e. P e.0) es
    firsts [] all = tt
    firsts (e ∷ es) all = (all.0.0, firsts es all.1)

-- what holds of the keys of entries as another thing does
pub keys_more : {K X : Type 0} (P Q : K → Type 0) → Within P Q → (es fs : List (K × X)) → es ≡ fs → All (λ e. P e.0) es → AllByRecursion (λ e. Q e.0) fs
keys_more {K} {X} P Q change es fs same all = recursion_from_All (λ e. Q e.0) fs (λ k d within. change _ (All-same (λ (e : K × X). P e.0) fs es (sym same) all k d within))

-- what holds of all that is seen of an answer
pub of_answer : {A B E : Type 0} {f : A → B} (P : B → Type 0) (Q : A → Type 0) → ((x : A) → P (f x) → Q x) → (result : Result A E) → IfOk (map_ok f result) P → IfOk result Q
of_answer P Q change (Ok x) holds = change x holds
of_answer P Q change (Err e) holds = tt
