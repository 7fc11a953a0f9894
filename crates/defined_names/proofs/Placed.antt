-- The kept names of a list with one more name.
use Rattle.std.proofs.Common.{◌≡◌, ℕ, ◌+◌, ◌<◌, ◌≤◌, Bool, true, false, cond, List, [], ◌∷◌, ◌++◌, length, take, get_or, Some, None, refl, ap, sym, subst, ◌∙◌, ◌==◌, arith}
use Rattle.std.specs.Cmp.{nat_cmp_total, unsigned_Decides}
use Rattle.std.specs.declared.cmp.Ordering.TheVariants.{Less, Equal, Greater}
use Rattle.std.specs.List.{enumerate_from, filter}
use Rattle.std.specs.Ordering.{is_eq, nat_cmp}
use Rattle.std.specs.FinMap.{from_entries, from_entries_push, insert}
use Rattle.std.specs.FinMap.Entries.{find}
use Rattle.std.proofs.lemmas.Bool.{le-ltb}
use Rattle.std.proofs.lemmas.List.{append-nil, length-take-le, take_more}
use Rattle.std.proofs.lemmas.List.Elements.{filter-append}
use Rattle.std.proofs.lemmas.Map.Lookups.{exact_unsigned}
use Rattle.defined_names.specs.declared.defined_name.DefinedName.{DefinedName}
use Rattle.defined_names.specs.Names.{is_scoped_to, placed_names, kept_names}

counted : (at : ℕ) (names : List DefinedName) (name : DefinedName) → enumerate_from at (names ++ name ∷ []) ≡ enumerate_from at names ++ (at + length names, name) ∷ []
counted at [] name = let here : at ≡ at + 0 = omega arith in ap (λ n. (n, name) ∷ []) here
counted at (first ∷ names) name =
    let on : (at + 1) + length names ≡ at + length (first ∷ names) = omega arith in
    ap (λ es. (at, first) ∷ es) (counted (at + 1) names name ∙ ap (λ n. enumerate_from (at + 1) names ++ (n, name) ∷ []) on)

unequal : (m n : ℕ) → m < n → (n == m) ≡ false
unequal m n h = go (n == m) refl
  where
    go : (b : Bool) → (n == m) ≡ b → b ≡ false
    go true is = absurd (let same : n ≡ m = (unsigned_Decides n m).0 is in omega arith)
    go false is = refl

apart : (m n : ℕ) → m < n → is_eq (nat_cmp n m) ≡ false
apart m n h =
    let low : m ≤ n = omega arith in
    (λ i. is_eq (cond (le-ltb n m low i) Less (cond (n == m) Equal Greater))) ∙ ap (λ b. is_eq (cond b Equal Greater)) (unequal m n h)

-- behind the last place nothing stands
none_behind : (id at place : ℕ) (names : List DefinedName) → at + length names ≤ place → find nat_cmp place (placed_names id at names) ≡ None
none_behind id at place [] behind = refl
none_behind id at place (name ∷ names) behind =
    let rest : find nat_cmp place (placed_names id (at + 1) names) ≡ None = none_behind id (at + 1) place names (omega arith) in
    elim (is_scoped_to id name) as (λ b. find nat_cmp place (cond b ((at, name) ∷ placed_names id (at + 1) names) (placed_names id (at + 1) names)) ≡ None)
    [ true ↦ ap (λ b. cond b (Some name) (find nat_cmp place (placed_names id (at + 1) names))) (apart at place (omega arith)) ∙ rest | false ↦ rest ]

-- whether an entry is of the sheet
abbrev mine : ℕ → ℕ × DefinedName → Bool
mine id entry = is_scoped_to id entry.1

-- one more name is kept, if it is one of the sheet
pub kept_more : (id : ℕ) (names : List DefinedName) (i : ℕ) (d : DefinedName) → i < length names
    → kept_names id (take (i + 1) names) ≡ cond (is_scoped_to id (get_or names i d)) (insert (kept_names id (take i names)) i (get_or names i d)) (kept_names id (take i names))
kept_more id names i d within =
    ap (kept_names id) (take_more names i d within)
    ∙ ap (λ es. from_entries (filter (mine id) es)) (counted 0 (take i names) (get_or names i d))
    ∙ ap (λ n. from_entries (filter (mine id) (enumerate_from 0 (take i names) ++ (n, get_or names i d) ∷ []))) count
    ∙ ap from_entries (filter-append (mine id) (enumerate_from 0 (take i names)) ((i, get_or names i d) ∷ []))
    ∙ elim (is_scoped_to id (get_or names i d)) as (λ b. from_entries {R = nat_cmp} (placed_names id 0 (take i names) ++ cond b ((i, get_or names i d) ∷ []) []) ≡ cond b (insert (kept_names id (take i names)) i (get_or names i d)) (kept_names id (take i names))) [
      | true ↦ from_entries_push nat_cmp_total exact_unsigned (placed_names id 0 (take i names)) i (get_or names i d) (none_behind id 0 i (take i names) (omega (arith, count)))
      | false ↦ ap from_entries (append-nil (placed_names id 0 (take i names)))
    ]
  where
    count : 0 + length (take i names) ≡ i
    count = let long : length (take i names) ≡ i = length-take-le i names (omega arith) in omega (arith, long)
