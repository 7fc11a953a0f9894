-- Laws of the images of lines.
use Rattle.std.proofs.Common.{◌≡◌, ℤ, pos, ◌+ℤ◌, ◌-ℤ◌, ◌≤ℤ◌, Bool, true, false, Option, Some, None, refl, arith, ap, sym, ◌∙◌}
use Rattle.std.specs.Prelude.{IfSome, if◌then◌else◌}
use Rattle.std.proofs.lemmas.Int.{ints}
use Rattle.base_values.specs.Places.{IsLine, is_line, as_line}
use Rattle.line_edits.specs.declared.edit.EditKind.{EditKind}
use Rattle.line_edits.specs.declared.edit.EditKind.TheVariants.{Insert, Delete, Move}
use Rattle.line_edits.specs.Edit.{is_in_block, moved_by, goes_to, image_at, opposite_of, begins_inside, is_valid, IsValid}
use Rattle.line_edits.specs.laws.Passing.{by_passing, of_block, passed_down, passed_up, stays_before, stays_behind}
use Rattle.line_edits.specs.Moves.{inserted_by, is_brought}

-- the numbers of a valid insertion or deletion
pub record IsWithin (last first count : ℤ) : Type 0 where
  pub begins : IsLine last first
  pub amount : IsLine last count

-- those of a valid move
pub record IsMove (last first count delta : ℤ) : Type 0 where
  pub begins : IsLine last first
  pub amount : IsLine last count
  pub ends : (first +ℤ count) ≤ℤ (last +ℤ pos 1)
  pub target_begins : pos 1 ≤ℤ (first +ℤ delta)
  pub target_ends : ((first +ℤ count) +ℤ delta) ≤ℤ (last +ℤ pos 1)

pub within_parts : (last first count : ℤ) → begins_inside last first count ≡ true → IsWithin last first count
within_parts last first count h = record { begins = (grind (arith, ints), grind (arith, ints)); amount = (grind (arith, ints), grind (arith, ints)) }

pub insert_parts : (last first count : ℤ) → IsValid last (Insert first count) → IsWithin last first count
unfolding is_valid
insert_parts last first count h = within_parts last first count h

pub delete_parts : (last first count : ℤ) → IsValid last (Delete first count) → IsWithin last first count
unfolding is_valid
delete_parts last first count h = within_parts last first count h

pub move_parts : (last first count delta : ℤ) → IsValid last (Move first count delta) → IsMove last first count delta
unfolding is_valid
move_parts last first count delta h = record {
  begins = (grind (arith, ints), grind (arith, ints));
  amount = (grind (arith, ints), grind (arith, ints));
  ends = grind (arith, ints);
  target_begins = grind (arith, ints);
  target_ends = grind (arith, ints);
}

pub valid_move : (last first count delta : ℤ) → IsMove last first count delta → IsValid last (Move first count delta)
unfolding is_valid
valid_move last first count delta v = grind (arith, ints)

-- ---- images

inside : (last : ℤ) (kind : EditKind) (n m : ℤ) → image_at last kind n ≡ Some m → IsLine last m
unfolding image_at goes_to as_line
inside last (Insert c k) n m e = (grind (arith, ints), grind (arith, ints))
inside last (Delete c k) n m e = (grind (arith, ints), grind (arith, ints))
inside last (Move c k d) n m e = (grind (arith, ints), grind (arith, ints))

-- an image is a line of the axis
pub image_inside : (last : ℤ) (kind : EditKind) (n : ℤ) (o : Option ℤ) → image_at last kind n ≡ o → IfSome o (IsLine last)
image_inside last kind n None e = tt
image_inside last kind n (Some m) e = inside last kind n m e

insert_back : (last c k n m : ℤ) → IsWithin last c k → image_at last (Insert c k) n ≡ Some m → image_at last (Delete c k) m ≡ Some n
unfolding image_at goes_to as_line
insert_back last c k n m v e = grind (arith, ints)

delete_back : (last c k n m : ℤ) → IsWithin last c k → image_at last (Delete c k) n ≡ Some m → image_at last (Insert c k) m ≡ Some n
unfolding image_at goes_to as_line
delete_back last c k n m v e = grind (arith, ints)

-- a line that goes on by how far it goes comes back
moved_back : (c k d n : ℤ) → pos 1 ≤ℤ k → (n +ℤ moved_by c k d n) +ℤ moved_by (c +ℤ d) k (pos 0 -ℤ d) (n +ℤ moved_by c k d n) ≡ n
moved_back c k d n some = by_passing c k d n (omega (arith, ints)) (λ s. (n +ℤ s) +ℤ moved_by (c +ℤ d) k (pos 0 -ℤ d) (n +ℤ s) ≡ n)
    (λ h i. let e = of_block (c +ℤ d) k (pos 0 -ℤ d) (n +ℤ d) (omega (arith, ints)) (omega (arith, ints)) (omega (arith, ints)) in omega (arith, ints, e))
    (λ h i. let e = passed_up (c +ℤ d) k (pos 0 -ℤ d) (n +ℤ (pos 0 -ℤ k)) (omega (arith, ints)) (omega (arith, ints)) (omega (arith, ints)) in omega (arith, ints, e))
    (λ h i. let e = passed_down (c +ℤ d) k (pos 0 -ℤ d) (n +ℤ k) (omega (arith, ints)) (omega (arith, ints)) (omega (arith, ints)) in omega (arith, ints, e))
    (λ h i. let e = stays_before (c +ℤ d) k (pos 0 -ℤ d) (n +ℤ pos 0) (omega (arith, ints)) (omega (arith, ints)) (omega (arith, ints)) in omega (arith, ints, e))
    (λ h i. let e = stays_behind (c +ℤ d) k (pos 0 -ℤ d) (n +ℤ pos 0) (omega (arith, ints)) (omega (arith, ints)) (omega (arith, ints)) in omega (arith, ints, e))

-- where a line goes is a line of the axis
pub moved_inside : (last c k d : ℤ) → IsMove last c k d → (n : ℤ) → IsLine last n → IsLine last (n +ℤ moved_by c k d n)
moved_inside last c k d v n on = by_passing c k d n (omega (arith, ints, v.amount.0)) (λ s. IsLine last (n +ℤ s))
    (λ h i. (omega (arith, ints, v.target_begins), omega (arith, ints, v.target_ends)))
    (λ h i. (omega (arith, ints, v.begins.0), omega (arith, ints, on.1, v.amount.0)))
    (λ h i. (omega (arith, ints, on.0, v.amount.0), omega (arith, ints, v.ends)))
    (λ h i. (omega (arith, ints, on.0), omega (arith, ints, on.1)))
    (λ h i. (omega (arith, ints, on.0), omega (arith, ints, on.1)))

within_is : (last n m : ℤ) → as_line last n ≡ Some m → m ≡ n
unfolding as_line
within_is last n m e = grind (arith, ints)

line_of_image : (last : ℤ) (kind : EditKind) (n m : ℤ) → image_at last kind n ≡ Some m → is_line last n ≡ true
unfolding image_at
line_of_image last kind n m e = at_test (is_line last n) e
  where
    at_test : (b : Bool) → (if b then goes_to last kind n else None) ≡ Some m → b ≡ true
    at_test true h = refl
    at_test false h = absurd (cc)

pub image_of_line : (last : ℤ) (kind : EditKind) (n : ℤ) → is_line last n ≡ true → image_at last kind n ≡ goes_to last kind n
unfolding image_at
image_of_line last kind n h = rw h refl

pub is_line-of : (last n : ℤ) → IsLine last n → is_line last n ≡ true
is_line-of last n h = let a = h.0 in let b = h.1 in grind (arith, ints)

pub within_of : (last n : ℤ) → is_line last n ≡ true → as_line last n ≡ Some n
unfolding as_line
within_of last n h = rw h refl

move_back : (last c k d n m : ℤ) → IsMove last c k d → image_at last (Move c k d) n ≡ Some m → image_at last (Move (c +ℤ d) k (pos 0 -ℤ d)) m ≡ Some n
unfolding goes_to
move_back last c k d n m v e =
    let line = line_of_image last (Move c k d) n m e in
    let there : m ≡ n +ℤ moved_by c k d n = within_is last (n +ℤ moved_by c k d n) m (sym (image_of_line last (Move c k d) n line) ∙ e) in
    let home : m +ℤ moved_by (c +ℤ d) k (pos 0 -ℤ d) m ≡ n = ap (λ x. x +ℤ moved_by (c +ℤ d) k (pos 0 -ℤ d) x) there ∙ moved_back c k d n v.amount.0 in
    image_of_line last (Move (c +ℤ d) k (pos 0 -ℤ d)) m (is_line-of last m (inside last (Move c k d) n m e))
    ∙ ap (as_line last) home ∙ within_of last n line

-- the opposite takes each line that has an image back
pub image_back : (last : ℤ) (kind : EditKind) → IsValid last kind → (n m : ℤ) → image_at last kind n ≡ Some m → image_at last (opposite_of kind) m ≡ Some n
unfolding opposite_of
image_back last (Insert c k) v n m e = insert_back last c k n m (insert_parts last c k v) e
image_back last (Delete c k) v n m e = delete_back last c k n m (delete_parts last c k v) e
image_back last (Move c k d) v n m e = move_back last c k d n m (move_parts last c k d v) e

there_and_back : (c d : ℤ) → (c +ℤ d) +ℤ (pos 0 -ℤ d) ≡ c
there_and_back c d = grind (arith, ints)

twice_turned : (d : ℤ) → pos 0 -ℤ (pos 0 -ℤ d) ≡ d
twice_turned d = grind (arith, ints)

pub opposite_twice : (kind : EditKind) → opposite_of (opposite_of kind) ≡ kind
unfolding opposite_of
opposite_twice (Insert c k) = refl
opposite_twice (Delete c k) = refl
opposite_twice (Move c k d) = λ i. Move (there_and_back c d i) k (twice_turned d i)

move_turned : (last c k d : ℤ) → IsMove last c k d → IsMove last (c +ℤ d) k (pos 0 -ℤ d)
move_turned last c k d v = record {
  begins = (v.target_begins, omega (arith, ints));
  amount = v.amount;
  ends = omega (arith, ints);
  target_begins = omega (arith, ints);
  target_ends = omega (arith, ints);
}

pub valid_opposite : (last : ℤ) (kind : EditKind) → IsValid last kind → IsValid last (opposite_of kind)
unfolding opposite_of is_valid
valid_opposite last (Insert c k) v = v
valid_opposite last (Delete c k) v = v
valid_opposite last (Move c k d) v = valid_move last (c +ℤ d) k (pos 0 -ℤ d) (move_turned last c k d (move_parts last c k d v))

-- lines that are brought in come from nowhere
pub brought : (last : ℤ) (kind : EditKind) → IsValid last kind → (n : ℤ) → is_brought (inserted_by kind) n ≡ true → image_at last (opposite_of kind) n ≡ None
unfolding opposite_of image_at goes_to is_in_block
brought last (Insert c k) v n h = let w = insert_parts last c k v in grind (arith, ints)
brought last (Delete c k) v n h = absurd (cc)
brought last (Move c k d) v n h = absurd (cc)

-- a line of the axis that moves
pub move_image : (last c k d n : ℤ) → IsMove last c k d → IsLine last n → image_at last (Move c k d) n ≡ Some (n +ℤ moved_by c k d n)
unfolding goes_to
move_image last c k d n v h =
    image_of_line last (Move c k d) n (is_line-of last n h)
    ∙ within_of last (n +ℤ moved_by c k d n) (is_line-of last (n +ℤ moved_by c k d n) (moved_inside last c k d v n h))

pub line_moves : (last c k d n : ℤ) → IsValid last (Move c k d) → IsLine last n → goes_to last (Move c k d) n ≡ Some (n +ℤ moved_by c k d n)
line_moves last c k d n v h = sym (image_of_line last (Move c k d) n (is_line-of last n h)) ∙ move_image last c k d n (move_parts last c k d v) h
