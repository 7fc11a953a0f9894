-- Merges on lines of the axis, in order, stay on such lines; and what a move does not split goes as a whole.
use Rattle.std.proofs.Common.{◌≡◌, ℤ, pos, ◌+ℤ◌, ◌-ℤ◌, ◌≤ℤ◌, Bool, true, false, Option, Some, None, refl, arith, ◌∙◌}
use Rattle.std.specs.Prelude.{IfSome, int_lt, ◌||◌, ◌&&◌, if◌then◌else◌}
use Rattle.std.specs.Ordering.{int_eq}
use Rattle.std.proofs.lemmas.Int.{ints}
use Rattle.line_edits.specs.declared.edit.EditKind.{EditKind}
use Rattle.line_edits.specs.declared.edit.EditKind.TheVariants.{Insert, Delete, Move}
use Rattle.line_edits.specs.Edit.{moved_by, IsValid}
use Rattle.line_edits.specs.Merged.{AreLines, pushed_on, cut_to, fallen_to, if_merge, merged_by}
use Rattle.line_edits.specs.Moves.{StaysInside}
use Rattle.line_edits.specs.Splits.{splits}
use Rattle.line_edits.specs.laws.Images.{IsWithin, IsMove, insert_parts, delete_parts, move_parts, moved_inside}
use Rattle.line_edits.specs.laws.Passing.{by_passing, of_block, passed_down, passed_up, stays_before, stays_behind}

left_inside : (last across first end : ℤ) → pos 1 ≤ℤ first → end ≤ℤ last → IfSome {T = ℤ × ℤ} (if_merge across first end) (λ lines. AreLines last lines.0 lines.1)
unfolding if_merge
left_inside last across first end low high = by_test (int_lt end first) (int_eq first end && int_eq across (pos 1)) refl
  where
    by_test : (a b : Bool) → int_lt end first ≡ a → IfSome {T = ℤ × ℤ} (if a || b then None else Some (first, end)) (λ lines. AreLines last lines.0 lines.1)
    by_test true b e = tt
    by_test false true e = tt
    by_test false false e = ((low, grind (arith, ints)), (grind (arith, ints), high), grind (arith, ints))

pub pushed_low : (last start count n : ℤ) → IsWithin last start count → pos 1 ≤ℤ n → pos 1 ≤ℤ pushed_on start count n
pushed_low last start count n v h = let k = v.amount.0 in grind (arith, ints)

pub cut_high : (last n : ℤ) → cut_to last n ≤ℤ last
cut_high last n = grind (arith, ints)

pub fallen_behind : (start count there n : ℤ) → start ≤ℤ n → (start +ℤ count) ≤ℤ n → fallen_to start count there n ≡ n -ℤ count
fallen_behind start count there n h i = grind (arith, ints)

pub fallen_low : (start count n : ℤ) → pos 1 ≤ℤ start → pos 1 ≤ℤ n → pos 1 ≤ℤ fallen_to start count start n
fallen_low start count n h i = grind (arith, ints)

pub fallen_high : (last start count n : ℤ) → IsWithin last start count → n ≤ℤ last → fallen_to start count (start -ℤ pos 1) n ≤ℤ last
fallen_high last start count n v h = let a = v.begins.1 in let k = v.amount.0 in grind (arith, ints)

-- what a move does not split goes as a whole: each of its lines as far as the first
module _ (c k d first end n : ℤ) (some : pos 1 ≤ℤ k) (whole : splits (Move c k d) first end ≡ false) (low : first ≤ℤ n) (high : n ≤ℤ end) where
  unsplit_block : c ≤ℤ first → (first +ℤ pos 1) ≤ℤ (c +ℤ k) → (end +ℤ pos 1) ≤ℤ (c +ℤ k)
  unfolding splits
  unsplit_block h i = grind (arith, ints)

  unsplit_down : (c +ℤ k) ≤ℤ first → (first +ℤ pos 1) ≤ℤ ((c +ℤ k) +ℤ d) → (end +ℤ pos 1) ≤ℤ ((c +ℤ k) +ℤ d)
  unfolding splits
  unsplit_down h i = grind (arith, ints)

  unsplit_up : (c +ℤ d) ≤ℤ first → (first +ℤ pos 1) ≤ℤ c → (end +ℤ pos 1) ≤ℤ c
  unfolding splits
  unsplit_up h i = grind (arith, ints)

  unsplit_before : (first +ℤ pos 1) ≤ℤ c → (first +ℤ pos 1) ≤ℤ (c +ℤ d) → ((end +ℤ pos 1) ≤ℤ c) × ((end +ℤ pos 1) ≤ℤ (c +ℤ d))
  unfolding splits
  unsplit_before h i = (grind (arith, ints), grind (arith, ints))

  pub goes_whole : moved_by c k d n ≡ moved_by c k d first
  goes_whole = by_passing c k d first (omega (arith, ints)) (λ s. moved_by c k d n ≡ s)
      (λ h i. let j = unsplit_block h i in of_block c k d n (omega (arith, ints)) (omega (arith, ints)) (omega (arith, ints)))
      (λ h i. let j = unsplit_down h i in passed_down c k d n (omega (arith, ints)) (omega (arith, ints)) (omega (arith, ints)))
      (λ h i. let j = unsplit_up h i in passed_up c k d n (omega (arith, ints)) (omega (arith, ints)) (omega (arith, ints)))
      (λ h i. let j = unsplit_before h i in stays_before c k d n (omega (arith, ints)) (omega (arith, ints, j.0)) (omega (arith, ints, j.1)))
      (λ h i. stays_behind c k d n (omega (arith, ints)) (omega (arith, ints)) (omega (arith, ints)))

-- what an edit makes of merges on lines of the axis stands on such lines
moved_lines : (last c k d first end across : ℤ) → IsMove last c k d → AreLines last first end → IfSome {T = ℤ × ℤ} (merged_by last (Move c k d) first end across) (λ lines. AreLines last lines.0 lines.1)
unfolding merged_by
moved_lines last c k d first end across v lie = by_test (splits (Move c k d) first end) refl
  where
    by_test : (b : Bool) → splits (Move c k d) first end ≡ b → IfSome {T = ℤ × ℤ} (if b then Some (first, end) else Some (first +ℤ moved_by c k d first, end +ℤ moved_by c k d end)) (λ lines. AreLines last lines.0 lines.1)
    by_test true e = lie
    by_test false e =
        let same = goes_whole c k d first end end v.amount.0 e lie.2 (omega (arith, ints)) in
        (moved_inside last c k d v first lie.0, moved_inside last c k d v end lie.1, omega (arith, ints, same, lie.2))

pub merged_inside : (last : ℤ) (kind : EditKind) → IsValid last kind → StaysInside last (merged_by last kind)
unfolding merged_by
merged_inside last (Insert c k) v first end across lie =
    let w = insert_parts last c k v in
    left_inside last across (pushed_on c k first) (cut_to last (pushed_on c k end)) (pushed_low last c k first w lie.0.0) (cut_high last (pushed_on c k end))
merged_inside last (Delete c k) v first end across lie =
    let w = delete_parts last c k v in
    left_inside last across (fallen_to c k c first) (fallen_to c k (c -ℤ pos 1) end) (fallen_low c k first w.begins.0 lie.0.0) (fallen_high last c k end w lie.1.1)
merged_inside last (Move c k d) v first end across lie = moved_lines last c k d first end across (move_parts last c k d v) lie

-- at numbers that are written otherwise
pub same_merge : (r : Option (ℤ × ℤ)) (kind : EditKind) (l f e x last first end across : ℤ) → r ≡ merged_by l kind f e x → l ≡ last → f ≡ first → e ≡ end → x ≡ across → r ≡ merged_by last kind first end across
same_merge r kind l f e x last first end across h p q s t = h ∙ (λ i. merged_by (p i) kind (q i) (s i) (t i))
