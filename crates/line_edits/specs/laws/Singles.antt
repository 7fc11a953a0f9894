-- A block of lines moves as its lines do one by one.
use Rattle.std.proofs.Common.{◌≡◌, ℕ, zero, suc, ℤ, pos, negsuc, ◌+ℤ◌, ◌≤ℤ◌, Bool, true, false, Some, ap, refl, sym, ◌∙◌, arith}
use Rattle.std.specs.Prelude.{int_lt, if◌then◌else◌}
use Rattle.std.proofs.lemmas.Int.{ints, by_lt_z}
use Rattle.base_values.specs.Places.{IsLine}
use Rattle.line_edits.specs.declared.edit.EditKind.TheVariants.{Move}
use Rattle.base_maps.specs.Carried.{if_there}
use Rattle.line_edits.specs.Edit.{moved_by, image_at, IsValid}
use Rattle.line_edits.specs.Singles.{far_first, near_first, line_by_line}
use Rattle.line_edits.specs.laws.Images.{IsMove, move_parts, moved_inside, move_image}
use Rattle.line_edits.specs.laws.Passing.{by_passing, of_block, passed_down, passed_up, stays_before, stays_behind}

abbrev moved : ℤ → ℤ → ℤ → ℤ → ℤ
moved c k d n = n +ℤ moved_by c k d n

module _ (c k d n : ℤ) (some : pos 0 ≤ℤ k) where
  -- the last line goes on first, and then the others
  far_step : pos 0 ≤ℤ d → moved c k d (moved (c +ℤ k) (pos 1) d n) ≡ moved c (k +ℤ pos 1) d n
  far_step on = by_passing c (k +ℤ pos 1) d n (omega (arith, ints)) (λ s. moved c k d (moved (c +ℤ k) (pos 1) d n) ≡ n +ℤ s)
      (λ h i. by_lt_z {P = moved c k d (moved (c +ℤ k) (pos 1) d n) ≡ n +ℤ d} n (c +ℤ k)
      (λ j. let e = stays_before (c +ℤ k) (pos 1) d n (omega (arith, ints)) (omega (arith, ints)) (omega (arith, ints)) in
      let f = of_block c k d (moved (c +ℤ k) (pos 1) d n) (omega (arith, ints)) (omega (arith, ints)) (omega (arith, ints)) in omega (arith, ints, e, f))
      (λ j. let e = of_block (c +ℤ k) (pos 1) d n (omega (arith, ints)) (omega (arith, ints)) (omega (arith, ints)) in
      let f = stays_behind c k d (moved (c +ℤ k) (pos 1) d n) (omega (arith, ints)) (omega (arith, ints)) (omega (arith, ints)) in omega (arith, ints, e, f)))
      (λ h i. let e = passed_down (c +ℤ k) (pos 1) d n (omega (arith, ints)) (omega (arith, ints)) (omega (arith, ints)) in
      let f = passed_down c k d (moved (c +ℤ k) (pos 1) d n) (omega (arith, ints)) (omega (arith, ints)) (omega (arith, ints)) in omega (arith, ints, e, f))
      (λ h i. absurd (omega (arith, ints)))
      (λ h i. let e = stays_before (c +ℤ k) (pos 1) d n (omega (arith, ints)) (omega (arith, ints)) (omega (arith, ints)) in
      let f = stays_before c k d (moved (c +ℤ k) (pos 1) d n) (omega (arith, ints)) (omega (arith, ints)) (omega (arith, ints)) in omega (arith, ints, e, f))
      (λ h i. let e = stays_behind (c +ℤ k) (pos 1) d n (omega (arith, ints)) (omega (arith, ints)) (omega (arith, ints)) in
      let f = stays_behind c k d (moved (c +ℤ k) (pos 1) d n) (omega (arith, ints)) (omega (arith, ints)) (omega (arith, ints)) in omega (arith, ints, e, f))

  -- the first line goes back first, and then the others
  near_step : d ≤ℤ pos 0 → moved (c +ℤ pos 1) k d (moved c (pos 1) d n) ≡ moved c (k +ℤ pos 1) d n
  near_step back = by_passing c (k +ℤ pos 1) d n (omega (arith, ints)) (λ s. moved (c +ℤ pos 1) k d (moved c (pos 1) d n) ≡ n +ℤ s)
      (λ h i. by_lt_z {P = moved (c +ℤ pos 1) k d (moved c (pos 1) d n) ≡ n +ℤ d} n (c +ℤ pos 1)
      (λ j. let e = of_block c (pos 1) d n (omega (arith, ints)) (omega (arith, ints)) (omega (arith, ints)) in
      let f = stays_before (c +ℤ pos 1) k d (moved c (pos 1) d n) (omega (arith, ints)) (omega (arith, ints)) (omega (arith, ints)) in omega (arith, ints, e, f))
      (λ j. let e = stays_behind c (pos 1) d n (omega (arith, ints)) (omega (arith, ints)) (omega (arith, ints)) in
      let f = of_block (c +ℤ pos 1) k d (moved c (pos 1) d n) (omega (arith, ints)) (omega (arith, ints)) (omega (arith, ints)) in omega (arith, ints, e, f)))
      (λ h i. absurd (omega (arith, ints)))
      (λ h i. let e = passed_up c (pos 1) d n (omega (arith, ints)) (omega (arith, ints)) (omega (arith, ints)) in
      let f = passed_up (c +ℤ pos 1) k d (moved c (pos 1) d n) (omega (arith, ints)) (omega (arith, ints)) (omega (arith, ints)) in omega (arith, ints, e, f))
      (λ h i. let e = stays_before c (pos 1) d n (omega (arith, ints)) (omega (arith, ints)) (omega (arith, ints)) in
      let f = stays_before (c +ℤ pos 1) k d (moved c (pos 1) d n) (omega (arith, ints)) (omega (arith, ints)) (omega (arith, ints)) in omega (arith, ints, e, f))
      (λ h i. let e = stays_behind c (pos 1) d n (omega (arith, ints)) (omega (arith, ints)) (omega (arith, ints)) in
      let f = stays_behind (c +ℤ pos 1) k d (moved c (pos 1) d n) (omega (arith, ints)) (omega (arith, ints)) (omega (arith, ints)) in omega (arith, ints, e, f))

-- a block of no line moves nothing
nothing_moves : (c d n : ℤ) → moved c (pos 0) d n ≡ n
nothing_moves c d n = by_passing c (pos 0) d n (omega (arith, ints)) (λ s. n +ℤ s ≡ n) (λ h i. omega (arith, ints)) (λ h i. omega (arith, ints)) (λ h i. omega (arith, ints)) (λ h i. omega (arith, ints)) (λ h i. omega (arith, ints))

module _ (last d : ℤ) where
  -- where the lines of a block lie on the axis, and where it goes
  record Lie (c : ℤ) (k : ℕ) : Type 0 where
    begins : pos 1 ≤ℤ c
    ends : (c +ℤ pos k) ≤ℤ (last +ℤ pos 1)
    target_begins : pos 1 ≤ℤ (c +ℤ d)
    target_ends : ((c +ℤ pos k) +ℤ d) ≤ℤ (last +ℤ pos 1)

  far_is : pos 0 ≤ℤ d → (c : ℤ) (k : ℕ) → Lie c k → (n : ℤ) → IsLine last n → far_first last c d k n ≡ Some (moved c (pos k) d n)
  unfolding far_first
  far_is on c zero lie n h = ap Some (sym (nothing_moves c d n))
  far_is on c (suc k) lie n h =
      let v : IsMove last (c +ℤ pos k) (pos 1) d = record {
        begins = (omega (arith, ints, lie.begins), omega (arith, ints, lie.ends));
        amount = (omega (arith, ints), omega (arith, ints, h.0, h.1));
        ends = omega (arith, ints, lie.ends);
        target_begins = omega (arith, ints, lie.target_begins);
        target_ends = omega (arith, ints, lie.target_ends);
      } in
      let fewer : Lie c k = record {
        begins = lie.begins;
        ends = omega (arith, ints, lie.ends);
        target_begins = lie.target_begins;
        target_ends = omega (arith, ints, lie.target_ends);
      } in
      let count : pos k +ℤ pos 1 ≡ pos (suc k) = omega (arith, ints) in
      ap (λ o. if_there o (far_first last c d k)) (move_image last (c +ℤ pos k) (pos 1) d n v h)
      ∙ far_is on c k fewer (moved (c +ℤ pos k) (pos 1) d n) (moved_inside last (c +ℤ pos k) (pos 1) d v n h)
      ∙ ap Some (far_step c (pos k) d n (omega (arith, ints)) on ∙ ap (λ s. moved c s d n) count)

  near_is : d ≤ℤ pos 0 → (c : ℤ) (k : ℕ) → Lie c k → (n : ℤ) → IsLine last n → near_first last c d k n ≡ Some (moved c (pos k) d n)
  unfolding near_first
  near_is back c zero lie n h = ap Some (sym (nothing_moves c d n))
  near_is back c (suc k) lie n h =
      let v : IsMove last c (pos 1) d = record {
        begins = (lie.begins, omega (arith, ints, lie.ends));
        amount = (omega (arith, ints), omega (arith, ints, h.0, h.1));
        ends = omega (arith, ints, lie.ends);
        target_begins = lie.target_begins;
        target_ends = omega (arith, ints, lie.target_ends);
      } in
      let fewer : Lie (c +ℤ pos 1) k = record {
        begins = omega (arith, ints, lie.begins);
        ends = omega (arith, ints, lie.ends);
        target_begins = omega (arith, ints, lie.target_begins);
        target_ends = omega (arith, ints, lie.target_ends);
      } in
      let count : pos k +ℤ pos 1 ≡ pos (suc k) = omega (arith, ints) in
      ap (λ o. if_there o (near_first last (c +ℤ pos 1) d k)) (move_image last c (pos 1) d n v h)
      ∙ near_is back (c +ℤ pos 1) k fewer (moved c (pos 1) d n) (moved_inside last c (pos 1) d v n h)
      ∙ ap Some (near_step c (pos k) d n (omega (arith, ints)) back ∙ ap (λ s. moved c s d n) count)

counted : (last c k d : ℤ) → IsMove last c k d → (n : ℤ) → IsLine last n → Some (moved c k d n) ≡ line_by_line last c k d n
counted last c (negsuc k) d v n h = absurd (omega (arith, ints, v.amount.0))
counted last c (pos k) d v n h = by_test (int_lt d (pos 0)) refl
  where
    lie : Lie last d c k
    lie = record { begins = v.begins.0; ends = v.ends; target_begins = v.target_begins; target_ends = v.target_ends }

    by_test : (b : Bool) → int_lt d (pos 0) ≡ b → Some (moved c (pos k) d n) ≡ (if b then near_first last c d k n else far_first last c d k n)
    by_test true e = sym (near_is last d (grind (arith, ints)) c k lie n h)
    by_test false e = sym (far_is last d (grind (arith, ints)) c k lie n h)

-- a valid move takes each line where the moves of its lines one by one take it
pub moves_line_by_line : (last c k d : ℤ) → IsValid last (Move c k d) → (n : ℤ) → IsLine last n → image_at last (Move c k d) n ≡ line_by_line last c k d n
moves_line_by_line last c k d valid n h =
    let v = move_parts last c k d valid in
    move_image last c k d n v h ∙ counted last c k d v n h
