-- The line that is selected where lines are hidden: shown where one is, and always a line of the axis.
use Rattle.std.proofs.Common.{◌≡◌, ℕ, zero, suc, ◌+◌, ◌<◌, ℤ, pos, ◌+ℤ◌, ◌-ℤ◌, ◌≤ℤ◌, Bool, true, false, cond, Option, Some, None, refl, ap, sym, ◌∙◌, arith}
use Rattle.std.specs.Prelude.{int_le}
use Rattle.std.specs.Ordering.{int_cmp}
use Rattle.std.specs.Option.{option_or, unwrap_or}
use Rattle.std.specs.FinMap.{FinMap, get}
use Rattle.std.proofs.lemmas.Int.{ints}
use Rattle.base_values.specs.Places.{is_line}
use Rattle.sheet_grid.specs.declared.LineAttr.{LineAttr}
use Rattle.sheet_grid.specs.Lines.{is_hidden}
use Rattle.line_sizes.specs.LineChanges.{has_lines, line_count}
use Rattle.line_sizes.specs.ShownLines.{next_shown, shown_from, shown_before}

-- a line that is shown, so many behind a first one, where those between are hidden
pub record IsNextShown (lines : FinMap int_cmp LineAttr) (at : ℕ → ℤ) (count : ℕ) (line : ℤ) : Type 0 where
  pub index : ℕ
  pub within : index < count
  pub place : line ≡ at index
  pub shown : is_hidden (get lines line) ≡ false
  pub hidden : (k : ℕ) → k < index → is_hidden (get lines (at k)) ≡ true

module _ (lines : FinMap int_cmp LineAttr) where
  -- the first one is shown
  here : (at : ℕ → ℤ) (more : ℕ) (line : ℤ) → line ≡ at 0 → is_hidden (get lines line) ≡ false → IsNextShown lines at (suc more) line
  here at more line place shown = record { index = 0; within = omega arith; place = place; shown = shown; hidden = λ k less. absurd (omega arith) }

  -- it is hidden, and the line is the next one that is shown behind it
  further : (at next : ℕ → ℤ) → ((k : ℕ) → next k ≡ at (suc k)) → is_hidden (get lines (at 0)) ≡ true → (more : ℕ) (line : ℤ) → IsNextShown lines next more line
      → IsNextShown lines at (suc more) line
  further at next steps first more line found = record {
    index = suc found.index;
    within = let less = found.within in omega arith;
    place = found.place ∙ steps found.index;
    shown = found.shown;
    hidden = λ k. behind k;
  }
    where
      behind : (k : ℕ) → k < suc found.index → is_hidden (get lines (at k)) ≡ true
      behind zero less = first
      behind (suc k) less = ap (λ line. is_hidden (get lines line)) (sym (steps k)) ∙ found.hidden k (omega arith)

  -- the walk behind lines finds the next one that is shown
  pub next_from : (count : ℕ) (first line : ℤ) → shown_from lines first count ≡ Some line → IsNextShown lines (λ k. first +ℤ pos k) count line
  next_from zero first line found = absurd (cc)
  next_from (suc more) first line found = go (is_hidden (get lines first)) refl found (λ rest. next_from more (first +ℤ pos 1) line rest)
    where
      start : first ≡ first +ℤ pos 0
      start = omega (arith, ints)

      go : (b : Bool) → is_hidden (get lines first) ≡ b → cond b (shown_from lines (first +ℤ pos 1) more) (Some first) ≡ Some line
          → (shown_from lines (first +ℤ pos 1) more ≡ Some line → IsNextShown lines (λ k. (first +ℤ pos 1) +ℤ pos k) more line)
          → IsNextShown lines (λ k. first +ℤ pos k) (suc more) line
      go true hidden rest walk =
          further (λ k. first +ℤ pos k) (λ k. (first +ℤ pos 1) +ℤ pos k) (λ k. omega (arith, ints)) (ap (λ line. is_hidden (get lines line)) (sym start) ∙ hidden) more line
          (walk rest)
      go false shown rest walk =
          let same : line ≡ first = cc in
          here (λ k. first +ℤ pos k) more line (same ∙ start) (ap (λ line. is_hidden (get lines line)) same ∙ shown)

  -- where it finds none, all lines that it passes are hidden
  pub none_from : (count : ℕ) (first : ℤ) → shown_from lines first count ≡ None → (k : ℕ) → k < count → is_hidden (get lines (first +ℤ pos k)) ≡ true
  none_from zero first none k less = absurd (omega arith)
  none_from (suc more) first none k less = go (is_hidden (get lines first)) refl none k less (λ rest. none_from more (first +ℤ pos 1) rest)
    where
      go : (b : Bool) → is_hidden (get lines first) ≡ b → cond b (shown_from lines (first +ℤ pos 1) more) (Some first) ≡ None
          → (k : ℕ) → k < suc more → (shown_from lines (first +ℤ pos 1) more ≡ None → (j : ℕ) → j < more → is_hidden (get lines ((first +ℤ pos 1) +ℤ pos j)) ≡ true)
          → is_hidden (get lines (first +ℤ pos k)) ≡ true
      go true hidden rest zero less walk = let start : first +ℤ pos 0 ≡ first = omega (arith, ints) in ap (λ line. is_hidden (get lines line)) start ∙ hidden
      go true hidden rest (suc k) less walk =
          let step : first +ℤ pos (suc k) ≡ (first +ℤ pos 1) +ℤ pos k = omega (arith, ints) in
          ap (λ line. is_hidden (get lines line)) step ∙ walk rest k (omega arith)
      go false shown never k less walk = absurd (cc)

  -- the walk before lines finds the nearest one
  pub next_before : (count : ℕ) (first line : ℤ) → shown_before lines first count ≡ Some line → IsNextShown lines (λ k. first -ℤ pos k) count line
  next_before zero first line found = absurd (cc)
  next_before (suc more) first line found = go (is_hidden (get lines first)) refl found (λ rest. next_before more (first -ℤ pos 1) line rest)
    where
      start : first ≡ first -ℤ pos 0
      start = omega (arith, ints)

      go : (b : Bool) → is_hidden (get lines first) ≡ b → cond b (shown_before lines (first -ℤ pos 1) more) (Some first) ≡ Some line
          → (shown_before lines (first -ℤ pos 1) more ≡ Some line → IsNextShown lines (λ k. (first -ℤ pos 1) -ℤ pos k) more line)
          → IsNextShown lines (λ k. first -ℤ pos k) (suc more) line
      go true hidden rest walk =
          further (λ k. first -ℤ pos k) (λ k. (first -ℤ pos 1) -ℤ pos k) (λ k. omega (arith, ints)) (ap (λ line. is_hidden (get lines line)) (sym start) ∙ hidden) more line
          (walk rest)
      go false shown rest walk =
          let same : line ≡ first = cc in
          here (λ k. first -ℤ pos k) more line (same ∙ start) (ap (λ line. is_hidden (get lines line)) same ∙ shown)

  -- where it finds none, all lines that it passes are hidden
  pub none_before : (count : ℕ) (first : ℤ) → shown_before lines first count ≡ None → (k : ℕ) → k < count → is_hidden (get lines (first -ℤ pos k)) ≡ true
  none_before zero first none k less = absurd (omega arith)
  none_before (suc more) first none k less = go (is_hidden (get lines first)) refl none k less (λ rest. none_before more (first -ℤ pos 1) rest)
    where
      go : (b : Bool) → is_hidden (get lines first) ≡ b → cond b (shown_before lines (first -ℤ pos 1) more) (Some first) ≡ None
          → (k : ℕ) → k < suc more → (shown_before lines (first -ℤ pos 1) more ≡ None → (j : ℕ) → j < more → is_hidden (get lines ((first -ℤ pos 1) -ℤ pos j)) ≡ true)
          → is_hidden (get lines (first -ℤ pos k)) ≡ true
      go true hidden rest zero less walk = let start : first -ℤ pos 0 ≡ first = omega (arith, ints) in ap (λ line. is_hidden (get lines line)) start ∙ hidden
      go true hidden rest (suc k) less walk =
          let step : first -ℤ pos (suc k) ≡ (first -ℤ pos 1) -ℤ pos k = omega (arith, ints) in
          ap (λ line. is_hidden (get lines line)) step ∙ walk rest k (omega arith)
      go false shown never k less walk = absurd (cc)

  -- ---- the line that is selected

  -- lines from one of the axis on to its end, and from one down to the first
  behind_inside : (end last line : ℤ) (k : ℕ) → pos 1 ≤ℤ last → last ≤ℤ end → line ≡ (last +ℤ pos 1) +ℤ pos k → k < line_count (last +ℤ pos 1) end → (pos 1 ≤ℤ line) × (line ≤ℤ end)
  behind_inside end last line k low high is within = (omega (arith, ints, low, is), omega (arith, ints, high, is, within))

  before_inside : (end first line : ℤ) (k : ℕ) → pos 1 ≤ℤ first → first ≤ℤ end → line ≡ (first -ℤ pos 1) -ℤ pos k → k < line_count (pos 1) (first -ℤ pos 1) → (pos 1 ≤ℤ line) × (line ≤ℤ end)
  before_inside end first line k low high is within = (omega (arith, ints, low, is, within), omega (arith, ints, high, is))

  -- where lines of an axis are hidden, the line that is selected is one of the axis
  pub next_inside : (end first last : ℤ) → pos 1 ≤ℤ first → first ≤ℤ last → last ≤ℤ end → (pos 1 ≤ℤ next_shown end lines first last) × (next_shown end lines first last ≤ℤ end)
  next_inside end first last low order high =
      go (shown_from lines (last +ℤ pos 1) (line_count (last +ℤ pos 1) end)) refl (shown_before lines (first -ℤ pos 1) (line_count (pos 1) (first -ℤ pos 1))) refl
    where
      go : (o : Option ℤ) → shown_from lines (last +ℤ pos 1) (line_count (last +ℤ pos 1) end) ≡ o
          → (p : Option ℤ) → shown_before lines (first -ℤ pos 1) (line_count (pos 1) (first -ℤ pos 1)) ≡ p
          → (pos 1 ≤ℤ unwrap_or (option_or o p) (pos 1)) × (unwrap_or (option_or o p) (pos 1) ≤ℤ end)
      go (Some line) found p other =
          let next = next_from (line_count (last +ℤ pos 1) end) (last +ℤ pos 1) line found in
          behind_inside end last line next.index (omega (arith, ints, low, order)) high next.place next.within
      go None none (Some line) found =
          let next = next_before (line_count (pos 1) (first -ℤ pos 1)) (first -ℤ pos 1) line found in
          before_inside end first line next.index low (omega (arith, ints, order, high)) next.place next.within
      go None none None nowhere = (omega (arith, ints), omega (arith, ints, low, order, high))
