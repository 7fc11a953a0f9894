-- The first line with an image is found beside the lines that an edit loses.
use Rattle.std.proofs.Common.{◌≡◌, ℤ, pos, ◌+ℤ◌, ◌-ℤ◌, ◌≤ℤ◌, Bool, true, false, Option, Some, None, refl, arith, ap, sym, ◌∙◌}
use Rattle.std.specs.Prelude.{int_lt, is_some, if◌then◌else◌}
use Rattle.std.proofs.lemmas.Int.{ints}
use Rattle.base_values.specs.Places.{IsLine, as_line}
use Rattle.line_edits.specs.declared.edit.EditKind.{EditKind}
use Rattle.line_edits.specs.declared.edit.EditKind.TheVariants.{Insert, Delete, Move}
use Rattle.line_edits.specs.Edit.{goes_to, image_at, IsValid}
use Rattle.line_edits.specs.Lost.{pushed_from, lost_from, lost_to, is_lost, beside, beside_lost}
use Rattle.line_edits.specs.Moves.{IsFirstImage, is_between}
use Rattle.line_edits.specs.laws.Images.{IsWithin, insert_parts, delete_parts, move_parts, move_image, image_of_line, is_line-of}

insert_lost : (last c k n : ℤ) → IsWithin last c k → is_lost (pushed_from last c k) last n ≡ true → goes_to last (Insert c k) n ≡ None
unfolding goes_to as_line
insert_lost last c k n v h = grind (arith, ints)

delete_lost : (last c k n : ℤ) → IsWithin last c k → is_lost c ((c +ℤ k) -ℤ pos 1) n ≡ true → goes_to last (Delete c k) n ≡ None
unfolding goes_to as_line
delete_lost last c k n v h = grind (arith, ints)

insert_kept : (last c k n : ℤ) → IsWithin last c k → IsLine last n → is_lost (pushed_from last c k) last n ≡ false → is_some (goes_to last (Insert c k) n) ≡ true
unfolding goes_to as_line
insert_kept last c k n v h i = grind (arith, ints)

delete_kept : (last c k n : ℤ) → IsWithin last c k → IsLine last n → is_lost c ((c +ℤ k) -ℤ pos 1) n ≡ false → is_some (goes_to last (Delete c k) n) ≡ true
unfolding goes_to as_line
delete_kept last c k n v h i = grind (arith, ints)

-- exactly the lines from the first to the last lost one have no image
lost_none : (last : ℤ) (kind : EditKind) → IsValid last kind → (n : ℤ) → is_lost (lost_from last kind) (lost_to last kind) n ≡ true → goes_to last kind n ≡ None
lost_none last (Insert c k) v n h = insert_lost last c k n (insert_parts last c k v) h
lost_none last (Delete c k) v n h = delete_lost last c k n (delete_parts last c k v) h
lost_none last (Move c k d) v n h = absurd (grind (arith, ints))

kept_some : (last : ℤ) (kind : EditKind) → IsValid last kind → (n : ℤ) → IsLine last n → is_lost (lost_from last kind) (lost_to last kind) n ≡ false → is_some (goes_to last kind n) ≡ true
kept_some last (Insert c k) v n h i = insert_kept last c k n (insert_parts last c k v) h i
kept_some last (Delete c k) v n h i = delete_kept last c k n (delete_parts last c k v) h i
kept_some last (Move c k d) v n h i =
    ap is_some (sym (image_of_line last (Move c k d) n (is_line-of last n h)) ∙ move_image last c k d n (move_parts last c k d v) h)

module _ (last low high line towards : ℤ) (to : ℤ → Option ℤ) (on : IsLine last line) (up : IsLine last towards)
    (lost : (n : ℤ) → IsLine last n → is_lost low high n ≡ true → to n ≡ None) (kept : (n : ℤ) → IsLine last n → is_lost low high n ≡ false → is_some (to n) ≡ true) where
  -- a line between two lines of the axis is one
  between_lines : (m n : ℤ) → IsLine last m → is_between line m n ≡ true → IsLine last n
  between_lines m n h i =
      let a = on.0 in
      let b = on.1 in
      let c = h.0 in
      let d = h.1 in
      (grind (arith, ints), grind (arith, ints))

  own : is_lost low high line ≡ false → IsFirstImage to line towards (Some line)
  own h = (grind (arith, ints), kept line on h, λ n between apart. absurd (grind (arith, ints)))

  after : is_lost low high line ≡ true → int_lt high towards ≡ true → IsFirstImage to line towards (Some (high +ℤ pos 1))
  after h g =
      let a = on.0 in
      let b = on.1 in
      let c = up.0 in
      let d = up.1 in
      let next : IsLine last (high +ℤ pos 1) = (grind (arith, ints), grind (arith, ints)) in
      (grind (arith, ints), kept (high +ℤ pos 1) next (grind (arith, ints)), λ n between apart. lost n (between_lines (high +ℤ pos 1) n next between) (grind (arith, ints)))

  before : is_lost low high line ≡ true → int_lt towards low ≡ true → IsFirstImage to line towards (Some (low -ℤ pos 1))
  before h g =
      let a = on.0 in
      let b = on.1 in
      let c = up.0 in
      let d = up.1 in
      let next : IsLine last (low -ℤ pos 1) = (grind (arith, ints), grind (arith, ints)) in
      (grind (arith, ints), kept (low -ℤ pos 1) next (grind (arith, ints)), λ n between apart. lost n (between_lines (low -ℤ pos 1) n next between) (grind (arith, ints)))

  none : is_lost low high line ≡ true → int_lt high towards ≡ false → int_lt towards low ≡ false → IsFirstImage to line towards None
  none h g f = λ n between. lost n (between_lines towards n up between) (grind (arith, ints))

  beside_is : is_lost low high line ≡ true → (b c : Bool) → int_lt high towards ≡ b → int_lt towards low ≡ c → IsFirstImage to line towards (if b then Some (high +ℤ pos 1) else if c then Some (low -ℤ pos 1) else None)
  beside_is h true c g f = after h g
  beside_is h false true g f = before h f
  beside_is h false false g f = none h g f

  first_is : (b : Bool) → is_lost low high line ≡ b → IsFirstImage to line towards (if b then beside low high towards else Some line)
  first_is true h = beside_is h _ _ refl refl
  first_is false h = own h

-- the first line with an image is found beside the lines that are lost
pub first_image_is : (last : ℤ) (kind : EditKind) → IsValid last kind → (line towards : ℤ) → IsLine last line → IsLine last towards →
    IsFirstImage (image_at last kind) line towards (beside_lost (lost_from last kind) (lost_to last kind) line towards)
unfolding beside_lost
first_image_is last kind v line towards on up =
    first_is last (lost_from last kind) (lost_to last kind) line towards (image_at last kind) on up
    (λ n h i. image_of_line last kind n (is_line-of last n h) ∙ lost_none last kind v n i)
    (λ n h i. ap is_some (image_of_line last kind n (is_line-of last n h)) ∙ kept_some last kind v n h i)
    _ refl

-- the first line that an insertion pushes past the end, where that is after it
pub pushed_late : (last c k : ℤ) → c ≤ℤ (last -ℤ k) → pushed_from last c k ≡ (last -ℤ k) +ℤ pos 1
pushed_late last c k h = let late : int_lt c ((last -ℤ k) +ℤ pos 1) ≡ true = grind (arith, ints) in ap (λ b. if b then (last -ℤ k) +ℤ pos 1 else c) late

-- the line that is answered
pub beside_after : (low high line towards : ℤ) → is_lost low high line ≡ true → int_lt high towards ≡ true → beside_lost low high line towards ≡ Some (high +ℤ pos 1)
unfolding beside_lost
beside_after low high line towards h g = rw (h, g) refl

pub beside_before : (low high line towards : ℤ) → is_lost low high line ≡ true → int_lt high towards ≡ false → int_lt towards low ≡ true → beside_lost low high line towards ≡ Some (low -ℤ pos 1)
unfolding beside_lost
beside_before low high line towards h g f = rw (h, g, f) refl

pub same_beside : (r : Option ℤ) (a b c d low high line towards : ℤ) → r ≡ beside_lost a b c d → a ≡ low → b ≡ high → c ≡ line → d ≡ towards → r ≡ beside_lost low high line towards
same_beside r a b c d low high line towards h e f g k = h ∙ (λ i. beside_lost (e i) (f i) (g i) (k i))
