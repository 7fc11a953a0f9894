-- Lines go under a displacement as under an edit.
use Rattle.std.proofs.Common.{◌≡◌, ℤ, pos, ◌+ℤ◌, ◌-ℤ◌, Bool, true, false, Some, None, refl, ap, sym, ◌∙◌, arith}
use Rattle.std.specs.Ordering.{int_eq}
use Rattle.std.specs.Prelude.{int_lt, int_le, ◌&&◌, if◌then◌else◌}
use Rattle.std.proofs.lemmas.Int.{ints}
use Rattle.base_values.specs.Places.{is_line, as_line}
use Rattle.formula_move.specs.Lines as displacing
use Rattle.line_edits.specs.Edit.{is_in_block, moved_by, goes_to, image_at, IsValid}
use Rattle.line_edits.specs.declared.EditKind.TheVariants.{Insert, Delete, Move}
use Rattle.line_edits.specs.laws.Images.{insert_parts, delete_parts}

pub inserted : (last first count n : ℤ) → IsValid last (Insert first count) → displacing.shifted last first count n ≡ image_at last (Insert first count) n
unfolding displacing.goes_on as_line image_at goes_to
inserted last first count n valid = let v = insert_parts last first count valid in let a = v.amount.0 in let b = v.begins.0 in grind (arith, ints)

pub deleted : (last first count n : ℤ) → IsValid last (Delete first count) → displacing.shifted last first (pos 0 -ℤ count) n ≡ image_at last (Delete first count) n
unfolding displacing.goes_on as_line image_at goes_to
deleted last first count n valid = let v = delete_parts last first count valid in let a = v.amount.0 in let b = v.begins.0 in grind (arith, ints)

-- the tests of a move of one line, as a displacement has them
own_line : (line n : ℤ) → is_in_block line (pos 1) n ≡ int_eq n line
unfolding is_in_block
own_line line n = grind (arith, ints)

passed_down : (line delta n : ℤ) → is_in_block (line +ℤ pos 1) delta n ≡ (int_lt line n && int_le n (line +ℤ delta))
unfolding is_in_block
passed_down line delta n = grind (arith, ints)

passed_up : (line delta n : ℤ) → is_in_block (line +ℤ delta) (pos 0 -ℤ delta) n ≡ (int_le (line +ℤ delta) n && int_lt n line)
unfolding is_in_block
passed_up line delta n = grind (arith, ints)

by_tests : (last delta n : ℤ) (own down up : Bool) → is_line last n ≡ true →
    (if own then as_line last (n +ℤ delta) else if down then as_line last (n -ℤ pos 1) else if up then as_line last (n +ℤ pos 1) else Some n)
    ≡ as_line last (n +ℤ (if own then delta else if down then pos 0 -ℤ pos 1 else if up then pos 1 else pos 0))
unfolding as_line
by_tests last delta n true down up h = refl
by_tests last delta n false true up h = let e : (n -ℤ pos 1) ≡ (n +ℤ (pos 0 -ℤ pos 1)) = omega (arith, ints) in ap (λ m. if is_line last m then Some m else None) e
by_tests last delta n false false true h = refl
by_tests last delta n false false false h =
    let e : (n +ℤ pos 0) ≡ n = omega (arith, ints) in
    sym (ap (λ m. if is_line last m then Some m else None) e ∙ ap (λ b. if b then Some n else None) h)

step_of_line : (last line delta n : ℤ) → is_line last n ≡ true → displacing.steps last line delta n ≡ goes_to last (Move line (pos 1) delta) n
unfolding displacing.steps goes_to moved_by
step_of_line last line delta n h =
    by_tests last delta n (int_eq n line) (int_lt line n && int_le n (line +ℤ delta)) (int_le (line +ℤ delta) n && int_lt n line) h
    ∙ sym (λ i. as_line last (n +ℤ (if own_line line n i then delta else if passed_down line delta n i then pos 0 -ℤ pos 1 else if passed_up line delta n i then pos 1 else pos 0)))

pub stepped : (last line delta n : ℤ) → displacing.stepped last line delta n ≡ image_at last (Move line (pos 1) delta) n
unfolding as_line image_at
stepped last line delta n = at_test (is_line last n) refl
  where
    at_test : (b : Bool) → is_line last n ≡ b → displacing.image_within (displacing.steps last line delta) (if b then Some n else None) ≡ (if b then goes_to last (Move line (pos 1) delta) n else None)
    at_test true h = step_of_line last line delta n h
    at_test false h = refl
