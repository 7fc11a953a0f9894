-- A walk over lines passes the hidden ones, and ends at the first that is shown.
use Rattle.std.proofs.Common.{◌≡◌, ℕ, suc, ◌+◌, ◌-◌, ◌<◌, ℤ, pos, ◌+ℤ◌, ◌-ℤ◌, true, false, cond, Some, ap, ◌∙◌, arith}
use Rattle.std.specs.Ordering.{int_cmp}
use Rattle.std.specs.FinMap.{FinMap, get}
use Rattle.std.proofs.lemmas.Int.{ints}
use Rattle.sheet_grid.specs.declared.LineAttr.{LineAttr}
use Rattle.sheet_grid.specs.Lines.{is_hidden}
use Rattle.line_sizes.specs.ShownLines.{shown_from, shown_before}

module _ (lines : FinMap int_cmp LineAttr) (first : ℤ) (count index : ℕ) (more : index < count) where
  left : count - index ≡ suc (count - (index + 1))
  left = omega arith

  pub from_passed : is_hidden (get lines (first +ℤ pos index)) ≡ true
      → shown_from lines (first +ℤ pos index) (count - index) ≡ shown_from lines (first +ℤ pos (index + 1)) (count - (index + 1))
  from_passed hidden =
      let next : (first +ℤ pos index) +ℤ pos 1 ≡ first +ℤ pos (index + 1) = omega (arith, ints) in
      ap (shown_from lines (first +ℤ pos index)) left
      ∙ ap (λ b. cond b (shown_from lines ((first +ℤ pos index) +ℤ pos 1) (count - (index + 1))) (Some (first +ℤ pos index))) hidden
      ∙ ap (λ line. shown_from lines line (count - (index + 1))) next

  pub from_found : is_hidden (get lines (first +ℤ pos index)) ≡ false → shown_from lines (first +ℤ pos index) (count - index) ≡ Some (first +ℤ pos index)
  from_found shown =
      ap (shown_from lines (first +ℤ pos index)) left
      ∙ ap (λ b. cond b (shown_from lines ((first +ℤ pos index) +ℤ pos 1) (count - (index + 1))) (Some (first +ℤ pos index))) shown

  pub before_passed : is_hidden (get lines (first -ℤ pos index)) ≡ true
      → shown_before lines (first -ℤ pos index) (count - index) ≡ shown_before lines (first -ℤ pos (index + 1)) (count - (index + 1))
  before_passed hidden =
      let next : (first -ℤ pos index) -ℤ pos 1 ≡ first -ℤ pos (index + 1) = omega (arith, ints) in
      ap (shown_before lines (first -ℤ pos index)) left
      ∙ ap (λ b. cond b (shown_before lines ((first -ℤ pos index) -ℤ pos 1) (count - (index + 1))) (Some (first -ℤ pos index))) hidden
      ∙ ap (λ line. shown_before lines line (count - (index + 1))) next

  pub before_found : is_hidden (get lines (first -ℤ pos index)) ≡ false → shown_before lines (first -ℤ pos index) (count - index) ≡ Some (first -ℤ pos index)
  before_found shown =
      ap (shown_before lines (first -ℤ pos index)) left
      ∙ ap (λ b. cond b (shown_before lines ((first -ℤ pos index) -ℤ pos 1) (count - (index + 1))) (Some (first -ℤ pos index))) shown
