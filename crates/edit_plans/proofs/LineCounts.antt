-- How many entries a map of lines can have.
use Rattle.std.proofs.Common.{ℕ, ℤ, pos, ◌+ℤ◌, ◌≤ℤ◌, ◌&&◌, Bool, true, false, T, List, [], ◌∷◌, length, suc, arith}
use Rattle.std.specs.List.{All, AllByRecursion}
use Rattle.std.specs.Ordering.{int_cmp, is_lt}
use Rattle.std.specs.FinMap.{FinMap, entries, entries_sorted, is_sorted}
use Rattle.std.specs.FinMap.Entries.{below_all}
use Rattle.std.proofs.lemmas.Int.{ints}
use Rattle.std.proofs.lemmas.List.Elements.{recursion_from_All}
use Rattle.base_values.specs.Places.{IsLine}
use Rattle.sheet_rules.specs.laws.EntryLaws.{left, right}

both_hold : (a b : Bool) → T a → T b → T (a && b)
both_hold true b h k = k
both_hold false b h k = absurd h

later : (m n : ℤ) → T (is_lt (int_cmp m n)) → (m +ℤ pos 1) ≤ℤ n
later m n h = grind (arith, ints)

before : (m n : ℤ) → (m +ℤ pos 1) ≤ℤ n → T (is_lt (int_cmp m n))
before m n h = grind (arith, ints)

one_more : (n : ℕ) (first next last : ℤ) → (first +ℤ pos 1) ≤ℤ next → (pos n +ℤ next) ≤ℤ last → (pos (suc n) +ℤ first) ≤ℤ last
one_more n first next last h k = grind (arith, ints)

module _ {X : Type 0} (last : ℤ) where
  -- so many ascending lines behind a first one end at a last
  room : (first : ℤ) (es : List (ℤ × X)) → first ≤ℤ last → T (below_all int_cmp first es) → T (is_sorted int_cmp es)
      → AllByRecursion (λ e. e.0 ≤ℤ last) es → (pos (length es) +ℤ first) ≤ℤ last
  room first [] low below sorted all = grind (arith, ints)
  room first (e ∷ es) low below sorted all =
      one_more (length es) first e.0 last (later first e.0 (left _ _ below)) (room e.0 es all.0 (left _ _ sorted) (right _ _ sorted) all.1)

  behind : (es : List (ℤ × X)) → AllByRecursion (λ e. IsLine last e.0) es → T (below_all int_cmp (pos 0) es) × AllByRecursion (λ e. e.0 ≤ℤ last) es
  behind [] all = (tt, tt)
  behind (e ∷ es) all = let rest = behind es all.1 in (both_hold _ _ (before (pos 0) e.0 (grind (arith, ints, all.0.0))) rest.0, (all.0.1, rest.1))

  -- a map of the lines of an axis has no more entries than the axis has lines
  pub few_lines : (m : FinMap int_cmp X) → pos 0 ≤ℤ last → All (λ e. IsLine last e.0) (entries m) → pos (length (entries m)) ≤ℤ last
  few_lines m low all =
      let parts = behind (entries m) (recursion_from_All (λ e. IsLine last e.0) (entries m) all) in
      let sum : (pos (length (entries m)) +ℤ pos 0) ≤ℤ last = room (pos 0) (entries m) low parts.0 (entries_sorted m) parts.1 in
      grind (arith, ints, sum)
