-- Where a line stood before an edit. One that was inserted counts as the line that it was inserted at.
use Rattle.std.proofs.Common.{◌≡◌, ℤ, pos, ◌+ℤ◌, ◌-ℤ◌, ◌≤ℤ◌, false, Option, Some, refl, arith, ap, sym, subst, ◌∙◌}
use Rattle.std.specs.Prelude.{IfSome, int_lt, if◌then◌else◌}
use Rattle.std.proofs.lemmas.Int.{ints}
use Rattle.base_values.specs.Places.{IsLine, as_line}
use Rattle.line_edits.specs.declared.EditKind.{EditKind}
use Rattle.line_edits.specs.declared.EditKind.TheVariants.{Insert, Delete, Move}
use Rattle.line_edits.specs.Edit.{moved_by, goes_to, image_at, IsValid, opposite_of}
use Rattle.line_edits.specs.Splits.{splits}
use Rattle.line_edits.specs.laws.Images.{IsWithin, IsMove, insert_parts, delete_parts, move_parts, image_back, image_inside, move_image}
use Rattle.line_edits.specs.laws.MergedLaws.{goes_whole}

-- the line that a line stood on
unfoldable pub source : EditKind → ℤ → ℤ
source (Insert c k) m = if int_lt m c then m else if int_lt m (c +ℤ k) then c else m -ℤ k
source (Delete c k) m = if int_lt m c then m else m +ℤ k
source (Move c k d) m = m +ℤ moved_by (c +ℤ d) k (pos 0 -ℤ d) m

-- it is one from a first to a last line
pub record Stood (kind : EditKind) (first last m : ℤ) : Type 0 where
  pub low : first ≤ℤ source kind m
  pub high : source kind m ≤ℤ last

insert_source : (last c k n m : ℤ) → pos 1 ≤ℤ k → image_at last (Insert c k) n ≡ Some m → source (Insert c k) m ≡ n
unfolding image_at goes_to as_line source
insert_source last c k n m few e = grind (arith, ints)

delete_source : (last c k n m : ℤ) → pos 1 ≤ℤ k → image_at last (Delete c k) n ≡ Some m → source (Delete c k) m ≡ n
unfolding image_at goes_to as_line source
delete_source last c k n m few e = grind (arith, ints)

moved_to : (last c k d n m : ℤ) → image_at last (Move c k d) n ≡ Some m → n +ℤ moved_by c k d n ≡ m
unfolding image_at goes_to as_line
moved_to last c k d n m e = grind (arith, ints)

move_source : (last c k d n m : ℤ) → IsValid last (Move c k d) → image_at last (Move c k d) n ≡ Some m → source (Move c k d) m ≡ n
unfolding source opposite_of
move_source last c k d n m v e = moved_to last (c +ℤ d) k (pos 0 -ℤ d) m n (image_back last (Move c k d) v n m e)

-- where a line went, it came from there
pub source_of_image : (last : ℤ) (kind : EditKind) → IsValid last kind → (n m : ℤ) → image_at last kind n ≡ Some m → source kind m ≡ n
source_of_image last (Insert c k) v n m e = insert_source last c k n m (insert_parts last c k v).amount.0 e
source_of_image last (Delete c k) v n m e = delete_source last c k n m (delete_parts last c k v).amount.0 e
source_of_image last (Move c k d) v n m e = move_source last c k d n m v e

stood_at : (kind : EditKind) (first end m n : ℤ) → source kind m ≡ n → first ≤ℤ n → n ≤ℤ end → Stood kind first end m
stood_at kind first end m n is low high = record { low = subst (λ x. first ≤ℤ x) (sym is) low; high = subst (λ x. x ≤ℤ end) (sym is) high }

back_by : (s m : ℤ) → (m -ℤ s) +ℤ s ≡ m
back_by s m = grind (arith, ints)

-- how many lines an edit brings in
abbrev pub brings : EditKind → ℤ
brings (Insert c k) = k
brings (Delete c k) = pos 0
brings (Move c k d) = pos 0

-- what lies whole under an edit, has room for the lines that it brings in, and where its first line goes
pub record Whole (most : ℤ) (kind : EditKind) (first end n : ℤ) : Type 0 where
  pub first_inside : IsLine most first
  pub some : first ≤ℤ end
  pub room : (end +ℤ brings kind) ≤ℤ most
  pub unsplit : splits kind first end ≡ false
  pub goes : image_at most kind first ≡ Some n

module _ (last first end n : ℤ) where
  module _ (c k m : ℤ) (few : pos 1 ≤ℤ k) (low : n ≤ℤ m) (high : m ≤ℤ (n +ℤ (end -ℤ first))) where
    whole_insert : Whole last (Insert c k) first end n → Stood (Insert c k) first end m
    unfolding image_at goes_to as_line source splits
    whole_insert w = let whole = w.unsplit in let e = w.goes in let some = w.some in record { low = grind (arith, ints); high = grind (arith, ints) }

    whole_delete : Whole last (Delete c k) first end n → Stood (Delete c k) first end m
    unfolding image_at goes_to as_line source splits
    whole_delete w = let whole = w.unsplit in let e = w.goes in let some = w.some in record { low = grind (arith, ints); high = grind (arith, ints) }

  module _ (c k d : ℤ) (v : IsMove last c k d) (w : Whole last (Move c k d) first end n) where
    -- how far its first line goes, and so each of its lines
    abbrev by : ℤ
    by = moved_by c k d first

    first_goes : first +ℤ by ≡ n
    first_goes = moved_to last c k d first n w.goes

    each_goes : (line : ℤ) → first ≤ℤ line → line ≤ℤ end → image_at last (Move c k d) line ≡ Some (line +ℤ by)
    each_goes line low high =
        let a = w.first_inside.0 in
        let b = w.room in
        move_image last c k d line v (omega (arith, ints), omega (arith, ints))
        ∙ ap (λ s. Some (line +ℤ s)) (goes_whole c k d first end line v.amount.0 w.unsplit low high)

    whole_move : IsValid last (Move c k d) → (m : ℤ) → n ≤ℤ m → m ≤ℤ (n +ℤ (end -ℤ first)) → Stood (Move c k d) first end m
    whole_move valid m low high =
        let e = first_goes in
        let p : ℤ = m -ℤ by in
        let after : first ≤ℤ p = omega (arith, ints) in
        let before : p ≤ℤ end = omega (arith, ints) in
        stood_at (Move c k d) first end m p (move_source last c k d p m valid (each_goes p after before ∙ ap Some (back_by by m))) after before

  -- each line that it then takes is one of its own
  pub whole_stood : (kind : EditKind) → IsValid last kind → Whole last kind first end n → (m : ℤ) → n ≤ℤ m → m ≤ℤ (n +ℤ (end -ℤ first)) → Stood kind first end m
  whole_stood (Insert c k) v w m low high = whole_insert c k m (insert_parts last c k v).amount.0 low high w
  whole_stood (Delete c k) v w m low high = whole_delete c k m (delete_parts last c k v).amount.0 low high w
  whole_stood (Move c k d) v w m low high = whole_move c k d (move_parts last c k d v) w v m low high

  inside_insert : (c k : ℤ) → IsWithin last c k → Whole last (Insert c k) first end n → IsLine last n × ((n +ℤ (end -ℤ first)) ≤ℤ last)
  unfolding image_at goes_to as_line
  inside_insert c k v w = let few = v.amount.0 in let e = w.goes in let a = w.first_inside.0 in let b = w.room in let some = w.some in ((grind (arith, ints), grind (arith, ints)), grind (arith, ints))

  inside_delete : (c k : ℤ) → IsWithin last c k → Whole last (Delete c k) first end n → IsLine last n × ((n +ℤ (end -ℤ first)) ≤ℤ last)
  unfolding image_at goes_to as_line
  inside_delete c k v w = let few = v.amount.0 in let start = v.begins.0 in let e = w.goes in let a = w.first_inside.0 in let b = w.room in let some = w.some in ((grind (arith, ints), grind (arith, ints)), grind (arith, ints))

  inside_move : (c k d : ℤ) → IsMove last c k d → Whole last (Move c k d) first end n → IsLine last n × ((n +ℤ (end -ℤ first)) ≤ℤ last)
  inside_move c k d v w =
      let e = first_goes c k d v w in
      let Is : Option ℤ → Type 0 = λ o. IfSome o (IsLine last) in
      let there = subst Is w.goes (image_inside last (Move c k d) first _ refl) in
      let there_end = subst Is (each_goes c k d v w end w.some (omega (arith, ints))) (image_inside last (Move c k d) end _ refl) in
      (there, omega (arith, ints, there_end.1))

  -- it then lies on the axis
  pub whole_inside : (kind : EditKind) → IsValid last kind → Whole last kind first end n → IsLine last n × ((n +ℤ (end -ℤ first)) ≤ℤ last)
  whole_inside (Insert c k) v w = inside_insert c k (insert_parts last c k v) w
  whole_inside (Delete c k) v w = inside_delete c k (delete_parts last c k v) w
  whole_inside (Move c k d) v w = inside_move c k d (move_parts last c k d v) w
