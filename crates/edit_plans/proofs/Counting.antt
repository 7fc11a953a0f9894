-- A loop that counts the entries that pass a test.
use Rattle.std.proofs.Common.{◌≡◌, ℕ, ℤ, pos, ◌+ℤ◌, ◌≤ℤ◌, Bool, true, false, cond, List, [], ◌∷◌, length, w32, w64, FitsSigned, to_z, of_z, ap, sym, subst, ◌∙◌, arith, ◌≤◌}
use Rattle.std.specs.List.{filter, All}
use Rattle.std.specs.Ordering.{int_cmp}
use Rattle.std.specs.FinMap.{FinMap, entries}
use Rattle.std.proofs.lemmas.Int.{ints, to_z-of_z}
use Rattle.base_values.specs.Places.{IsLine}
use Rattle.base_maps.specs.laws.Turns.{first_holds}
use Rattle.edit_plans.proofs.LineCounts.{few_lines}

module _ {X : Type 0} (test : X → Bool) where
  abbrev pub passing : List X → ℕ
  passing xs = length (filter test xs)

  -- those that are counted, and those of what is left, are those of all
  pub record Counts (all left : List X) (count : ℤ) : Type 0 where
    pub low : pos 0 ≤ℤ count
    pub sum : (count +ℤ pos (passing left)) ≡ pos (passing all)

  few_pass : (xs : List X) → passing xs ≤ length xs
  few_pass [] = omega arith
  few_pass (x ∷ xs) = by_test (test x) (few_pass xs)
    where
      by_test : (b : Bool) → passing xs ≤ length xs → length (cond b (x ∷ filter test xs) (filter test xs)) ≤ length (x ∷ xs)
      by_test true rest = omega (arith, rest)
      by_test false rest = omega (arith, rest)

  pub counts_none : (all : List X) → Counts all all (pos 0)
  counts_none all = record { low = grind (arith, ints); sum = grind (arith, ints) }

  -- one more is seen, and counts if it passes
  pub counts_next : (all left rest : List X) (x : X) (count : ℤ) → left ≡ x ∷ rest → Counts all left count
      → Counts all rest (count +ℤ cond (test x) (pos 1) (pos 0))
  counts_next all left rest x count step so_far = by_test (test x) so_far.low (ap (λ xs. count +ℤ pos (passing xs)) (sym step) ∙ so_far.sum)
    where
      by_test : (b : Bool) → pos 0 ≤ℤ count → (count +ℤ pos (length (cond b (x ∷ filter test rest) (filter test rest)))) ≡ pos (passing all)
          → Counts all rest (count +ℤ cond b (pos 1) (pos 0))
      by_test true low sum = record { low = grind (arith, ints, low); sum = grind (arith, ints, sum) }
      by_test false low sum = record { low = grind (arith, ints, low); sum = grind (arith, ints, sum) }

  -- no more are counted than there are
  pub counts_few : (all left : List X) (count : ℤ) → Counts all left count → count ≤ℤ pos (length all)
  counts_few all left count so_far =
      let few = few_pass all in
      let sum = so_far.sum in
      grind (arith, ints)

  -- at the end all are
  pub counts_all : (all left : List X) (count : ℤ) → left ≡ [] → Counts all left count → count ≡ pos (passing all)
  counts_all all left count over so_far =
      let sum : (count +ℤ pos 0) ≡ pos (passing all) = ap (λ xs. count +ℤ pos (passing xs)) (sym over) ∙ so_far.sum in
      grind (arith, ints)

-- a map of the lines of an axis has no more that pass than a sheet has rows
pub counts_fit : {X : Type 0} (test : ℤ × X → Bool) (last : ℤ) (m : FinMap int_cmp X) (left : List (ℤ × X)) (count : ℤ) → pos 1 ≤ℤ last → last ≤ℤ pos 1048576
    → All (λ e. IsLine last e.0) (entries m) → Counts test (entries m) left count → (pos 0 ≤ℤ count) × (count ≤ℤ pos 1048576)
counts_fit test last m left count low high inside so_far =
    let few = few_lines last m (grind (arith, ints)) inside in
    let most = counts_few test (entries m) left count so_far in
    (so_far.low, grind (arith, ints))

-- the line of an entry at hand is a number of the code
pub line_fits : {X : Type 0} (last : ℤ) (left rest : List (ℤ × X)) (e : ℤ × X) → last ≤ℤ pos 1048576 → All (λ e. IsLine last e.0) left
    → left ≡ e ∷ rest → to_z w32 (of_z w32 e.0) ≡ e.0
line_fits last left rest e high inside step = let on : IsLine last e.0 = first_holds (λ e. IsLine last e.0) inside step in omega (arith, ints, on.0, on.1, high)

-- a number of the code that is 1 or 0
one_or_none : (b : Bool) (n : ℤ) → n ≡ cond b (pos 1) (pos 0) → to_z w64 (of_z w64 n) ≡ cond b (pos 1) (pos 0)
one_or_none true n is = ap (λ k. to_z w64 (of_z w64 k)) is
one_or_none false n is = ap (λ k. to_z w64 (of_z w64 k)) is

pub fits_by_bounds : (count : ℤ) → pos 0 ≤ℤ count → count ≤ℤ pos 1048576 → FitsSigned w64 count
fits_by_bounds count low high = omega (arith, ints, low, high)

-- a turn of the code's loop
module _ {X : Type 0} (test : ℤ × X → Bool) (last : ℤ) (low : pos 1 ≤ℤ last) (high : last ≤ℤ pos 1048576) (m : FinMap int_cmp X) (inside : All (λ e. IsLine last e.0) (entries m))
    (left rest : List (ℤ × X)) (e : ℤ × X) (lines : All (λ e. IsLine last e.0) left) (step : left ≡ e ∷ rest) (count n : ℤ) (so_far : Counts test (entries m) left count)
    (is : n ≡ cond (test (to_z w32 (of_z w32 e.0), e.1)) (pos 1) (pos 0)) where
  more : to_z w64 (of_z w64 n) ≡ cond (test e) (pos 1) (pos 0)
  more = one_or_none (test e) n (is ∙ ap (λ (k : ℤ). cond (test (k, e.1)) (pos 1) (pos 0)) (line_fits last left rest e high lines step))

  counted : Counts test (entries m) rest (count +ℤ to_z w64 (of_z w64 n))
  counted = subst (λ k. Counts test (entries m) rest (count +ℤ k)) (sym more) (counts_next test (entries m) left rest e count step so_far)

  pub turn_fits : FitsSigned w64 (count +ℤ to_z w64 (of_z w64 n))
  turn_fits = let bounds = counts_fit test last m rest _ low high inside counted in fits_by_bounds _ bounds.0 bounds.1

  pub turn_counted : Counts test (entries m) rest (to_z w64 (of_z w64 (count +ℤ to_z w64 (of_z w64 n))))
  turn_counted = subst (Counts test (entries m) rest) (sym (to_z-of_z w64 (count +ℤ to_z w64 (of_z w64 n)) turn_fits)) counted
