-- Lines that are changed, told line by line.
use Rattle.std.proofs.Common.{◌≡◌, ◌≢◌, ℕ, zero, suc, ◌+◌, ◌<◌, ℤ, pos, ◌+ℤ◌, ◌-ℤ◌, ◌≤ℤ◌, Bool, true, false, cond, Some, refl, ap, sym, subst, ◌∙◌, arith}
use Rattle.std.specs.Prelude.{nat_lt}
use Rattle.std.specs.Ordering.{int_cmp}
use Rattle.std.specs.Cmp.{int_cmp_total}
use Rattle.std.specs.FinMap.{FinMap, get}
use Rattle.std.proofs.lemmas.Int.{ints}
use Rattle.std.proofs.lemmas.Map.Lookups.{exact_signed}
use Rattle.base_values.specs.laws.KeyMap.{get-with_entry}
use Rattle.base_maps.specs.laws.Keys.{apart_keys, own_key}
use Rattle.sheet_grid.specs.declared.LineAttr.{LineAttr}
use Rattle.line_sizes.specs.declared.change.LineChange.{LineChange}
use Rattle.line_sizes.specs.LineChanges.{changed_entry, lines_changed}

-- ---- lines that are changed

module _ (change : LineChange) (lines : FinMap int_cmp LineAttr) (first : ℤ) where
  -- of lines where one more is changed, another one has what it had
  other_line : (more : ℕ) (line : ℤ) → line ≢ first +ℤ pos more
      → get (lines_changed change lines first (suc more)) line ≡ get (lines_changed change lines first more) line
  other_line more line other =
      get-with_entry int_cmp_total (lines_changed change lines first more) (first +ℤ pos more) (changed_entry change (get lines (first +ℤ pos more))) line
      ∙ ap (λ b. cond b (changed_entry change (get lines (first +ℤ pos more))) (get (lines_changed change lines first more) line))
      (apart_keys int_cmp int_cmp_total exact_signed line (first +ℤ pos more) other)

  -- a line behind those that were changed has what it had
  pub untouched : (count : ℕ) (line : ℤ) → (first +ℤ pos count) ≤ℤ line → get (lines_changed change lines first count) line ≡ get lines line
  untouched zero line behind = refl
  untouched (suc more) line behind =
      let other : (line ≢ first +ℤ pos more) = λ same. absurd (omega (arith, ints)) in
      other_line more line other ∙ untouched more line (omega (arith, ints))

  -- so has a line before them
  pub untouched_before : (count : ℕ) (line : ℤ) → (line +ℤ pos 1) ≤ℤ first → get (lines_changed change lines first count) line ≡ get lines line
  untouched_before zero line before = refl
  untouched_before (suc more) line before =
      let other : (line ≢ first +ℤ pos more) = λ same. absurd (omega (arith, ints)) in
      other_line more line other ∙ untouched_before more line before

  -- each of them has what the change makes of what it had
  pub changed_line : (count k : ℕ) → k < count → get (lines_changed change lines first count) (first +ℤ pos k) ≡ changed_entry change (get lines (first +ℤ pos k))
  changed_line zero k less = absurd (omega arith)
  changed_line (suc more) k less = go (nat_lt k more) refl (λ before. changed_line more k before)
    where
      Made : ℕ → Type 0
      Made n = get (lines_changed change lines first (suc more)) (first +ℤ pos n) ≡ changed_entry change (get lines (first +ℤ pos n))

      last : Made more
      last =
          get-with_entry int_cmp_total (lines_changed change lines first more) (first +ℤ pos more) (changed_entry change (get lines (first +ℤ pos more))) (first +ℤ pos more)
          ∙ ap (λ b. cond b (changed_entry change (get lines (first +ℤ pos more))) (get (lines_changed change lines first more) (first +ℤ pos more)))
          (own_key int_cmp int_cmp_total exact_signed (first +ℤ pos more))

      Before : Type 0
      Before = k < more → get (lines_changed change lines first more) (first +ℤ pos k) ≡ changed_entry change (get lines (first +ℤ pos k))

      go : (b : Bool) → nat_lt k more ≡ b → Before → Made k
      go true e earlier =
          let before : k < more = grind (arith, e) in
          let other : (first +ℤ pos k ≢ first +ℤ pos more) = λ same. absurd (omega (arith, ints)) in
          other_line more (first +ℤ pos k) other ∙ earlier before
      go false e earlier =
          let same : more ≡ k = grind (arith, e, less) in
          subst Made same last
