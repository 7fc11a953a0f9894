-- Where the lines stood before an edit that a merge then takes.
use Rattle.std.proofs.Common.{◌≡◌, ℤ, pos, ◌+ℤ◌, ◌-ℤ◌, ◌≤ℤ◌, Bool, true, false, Option, Some, refl, arith, ap, sym, ◌∙◌}
use Rattle.std.specs.Prelude.{int_lt, ◌||◌, if◌then◌else◌}
use Rattle.std.proofs.lemmas.Int.{ints}
use Rattle.base_values.specs.Places.{IsLine, as_line}
use Rattle.line_edits.specs.declared.EditKind.{EditKind}
use Rattle.line_edits.specs.declared.EditKind.TheVariants.{Insert, Delete, Move}
use Rattle.line_edits.specs.Edit.{moved_by, goes_to, image_at, IsValid}
use Rattle.line_edits.specs.Merged.{pushed_on, cut_to, fallen_to, if_merge, merged_by}
use Rattle.line_edits.specs.Splits.{splits}
use Rattle.line_edits.specs.laws.Images.{IsWithin, IsMove, insert_parts, delete_parts, move_parts, move_image}
use Rattle.line_edits.specs.laws.MergedLaws.{goes_whole}
use Rattle.sheet_actions.specs.laws.Sources.{source, Stood, Whole, whole_stood, whole_inside}

-- whether an edit is a move
abbrev pub is_move : EditKind → Bool
is_move (Insert c k) = false
is_move (Delete c k) = false
is_move (Move c k d) = true

-- the lines of a merge after an edit
pub record Left (across first last f l : ℤ) : Type 0 where
  pub first_is : first ≡ f
  pub last_is : last ≡ l
  pub some : f ≤ℤ l
  pub many : (int_lt f l || int_lt (pos 1) across) ≡ true

left_from : (across first last f l : ℤ) → pos 1 ≤ℤ across → if_merge across first last ≡ Some (f, l) → Left across first last f l
unfolding if_merge
left_from across first last f l wide h = record { first_is = grind (arith, ints); last_is = grind (arith, ints); some = grind (arith, ints); many = grind (arith, ints) }

module _ (most c k first end across f l : ℤ) (v : IsWithin most c k) (a : IsLine most first) (b : first ≤ℤ end) (e : end ≤ℤ most) (wide : pos 1 ≤ℤ across) where
  insert_stood : merged_by most (Insert c k) first end across ≡ Some (f, l) → (m : ℤ) → f ≤ℤ m → m ≤ℤ l → Stood (Insert c k) first end m
  unfolding merged_by source
  insert_stood h m low high =
      let few = v.amount.0 in
      let left = left_from across (pushed_on c k first) (cut_to most (pushed_on c k end)) f l wide h in
      let p = left.first_is in let q = left.last_is in
      record { low = grind (arith, ints); high = grind (arith, ints) }

  delete_stood : merged_by most (Delete c k) first end across ≡ Some (f, l) → (m : ℤ) → f ≤ℤ m → m ≤ℤ l → Stood (Delete c k) first end m
  unfolding merged_by source
  delete_stood h m low high =
      let few = v.amount.0 in
      let left = left_from across (fallen_to c k c first) (fallen_to c k (c -ℤ pos 1) end) f l wide h in
      let p = left.first_is in let q = left.last_is in
      record { low = grind (arith, ints); high = grind (arith, ints) }

  -- the first line of a merge goes where its own line goes
  insert_first : merged_by most (Insert c k) first end across ≡ Some (f, l) → (m : ℤ) → image_at most (Insert c k) first ≡ Some m → m ≡ f
  unfolding merged_by image_at goes_to as_line
  insert_first h m i =
      let few = v.amount.0 in
      let left = left_from across (pushed_on c k first) (cut_to most (pushed_on c k end)) f l wide h in
      let p = left.first_is in
      grind (arith, ints)

  delete_first : merged_by most (Delete c k) first end across ≡ Some (f, l) → (m : ℤ) → image_at most (Delete c k) first ≡ Some m → m ≡ f
  unfolding merged_by image_at goes_to as_line
  delete_first h m i =
      let few = v.amount.0 in
      let left = left_from across (fallen_to c k c first) (fallen_to c k (c -ℤ pos 1) end) f l wide h in
      let p = left.first_is in
      grind (arith, ints)

  insert_left : merged_by most (Insert c k) first end across ≡ Some (f, l) → (pos 1 ≤ℤ f) × (f ≤ℤ l) × (l ≤ℤ most) × ((int_lt f l || int_lt (pos 1) across) ≡ true)
  unfolding merged_by
  insert_left h =
      let few = v.amount.0 in
      let low = a.0 in
      let left = left_from across (pushed_on c k first) (cut_to most (pushed_on c k end)) f l wide h in
      let p = left.first_is in let q = left.last_is in
      (grind (arith, ints), left.some, grind (arith, ints), left.many)

  delete_left : merged_by most (Delete c k) first end across ≡ Some (f, l) → (pos 1 ≤ℤ f) × (f ≤ℤ l) × (l ≤ℤ most) × ((int_lt f l || int_lt (pos 1) across) ≡ true)
  unfolding merged_by
  delete_left h =
      let few = v.amount.0 in
      let start = v.begins.0 in
      let low = a.0 in
      let left = left_from across (fallen_to c k c first) (fallen_to c k (c -ℤ pos 1) end) f l wide h in
      let p = left.first_is in let q = left.last_is in
      (grind (arith, ints), left.some, grind (arith, ints), left.many)

same_pair : (a b c d : ℤ) → ◌≡◌ {A = Option (ℤ × ℤ)} (Some (a, b)) (Some (c, d)) → (a ≡ c) × (b ≡ d)
same_pair a b c d h = let p : ◌≡◌ {A = ℤ × ℤ} (a, b) (c, d) = cc in (ap (λ t. t.0) p, ap (λ t. t.1) p)

-- what two options hold that are equal
pub some_is : {X : Type 0} (x y : X) → ◌≡◌ {A = Option X} (Some x) (Some y) → x ≡ y
some_is x y h = cc

shifted : (first end across f l s : ℤ) → (int_lt first end || int_lt (pos 1) across) ≡ true → (first +ℤ s) ≡ f → (end +ℤ s) ≡ l → (int_lt f l || int_lt (pos 1) across) ≡ true
shifted first end across f l s h p q = grind (arith, ints)

module _ (most c k d first end across f l : ℤ) (valid : IsValid most (Move c k d)) (v : IsMove most c k d) (a : IsLine most first) (b : first ≤ℤ end) (e : end ≤ℤ most) (whole : splits (Move c k d) first end ≡ false) where
  abbrev by : ℤ
  by = moved_by c k d first

  goes_by : (line : ℤ) → first ≤ℤ line → line ≤ℤ end → image_at most (Move c k d) line ≡ Some (line +ℤ by)
  goes_by line low high = move_image most c k d line v (omega (arith, ints, a.0), omega (arith, ints)) ∙ ap (λ t. Some (line +ℤ t)) (goes_whole c k d first end line v.amount.0 whole low high)

  here : Whole most (Move c k d) first end (first +ℤ by)
  here = record { first_inside = a; some = b; room = omega (arith, ints); unsplit = whole; goes = goes_by first (omega (arith, ints)) b }

  -- both lines of a merge go on by one number
  move_ends : merged_by most (Move c k d) first end across ≡ Some (f, l) → ((first +ℤ by) ≡ f) × ((end +ℤ by) ≡ l)
  unfolding merged_by
  move_ends h =
      same_pair (first +ℤ by) (end +ℤ by) f l
      (sym ((λ i. if whole i then Some (first, end) else Some (first +ℤ by, end +ℤ goes_whole c k d first end end v.amount.0 whole b (omega (arith, ints)) i))) ∙ h)

  move_stood : merged_by most (Move c k d) first end across ≡ Some (f, l) → (m : ℤ) → f ≤ℤ m → m ≤ℤ l → Stood (Move c k d) first end m
  move_stood h m low high =
      let ends = move_ends h in
      let p = ends.0 in let q = ends.1 in
      whole_stood most first end (first +ℤ by) (Move c k d) valid here m (omega (arith, ints)) (omega (arith, ints))

  move_first : merged_by most (Move c k d) first end across ≡ Some (f, l) → (m : ℤ) → image_at most (Move c k d) first ≡ Some m → m ≡ f
  move_first h m i = some_is m (first +ℤ by) (sym i ∙ here.goes) ∙ (move_ends h).0

  move_left : (int_lt first end || int_lt (pos 1) across) ≡ true → merged_by most (Move c k d) first end across ≡ Some (f, l) → (pos 1 ≤ℤ f) × (f ≤ℤ l) × (l ≤ℤ most) × ((int_lt f l || int_lt (pos 1) across) ≡ true)
  move_left some h =
      let ends = move_ends h in
      let p = ends.0 in let q = ends.1 in
      let inside = whole_inside most first end (first +ℤ by) (Move c k d) valid here in
      let low = inside.0.0 in let high = inside.1 in
      (omega (arith, ints), omega (arith, ints), omega (arith, ints), shifted first end across f l by some p q)

-- what a move has to leave whole
abbrev pub IsLeft : EditKind → ℤ → ℤ → Type 0
IsLeft kind first end = is_move kind ≡ true → splits kind first end ≡ false

-- a merge that lies on the axis and has more than one cell, and what becomes of it
pub record Carried (most : ℤ) (kind : EditKind) (first end across f l : ℤ) : Type 0 where
  pub first_inside : IsLine most first
  pub some : first ≤ℤ end
  pub end_inside : end ≤ℤ most
  pub wide : pos 1 ≤ℤ across
  pub has_many : (int_lt first end || int_lt (pos 1) across) ≡ true
  pub unsplit : IsLeft kind first end
  pub becomes : merged_by most kind first end across ≡ Some (f, l)

module _ (most : ℤ) (first end across f l : ℤ) where
  -- each line that a merge then takes is one of its own, or was inserted at one
  pub merged_stood : (kind : EditKind) → IsValid most kind → Carried most kind first end across f l → (m : ℤ) → f ≤ℤ m → m ≤ℤ l → Stood kind first end m
  merged_stood (Insert c k) v h = insert_stood most c k first end across f l (insert_parts most c k v) h.first_inside h.some h.end_inside h.wide h.becomes
  merged_stood (Delete c k) v h = delete_stood most c k first end across f l (delete_parts most c k v) h.first_inside h.some h.end_inside h.wide h.becomes
  merged_stood (Move c k d) v h = move_stood most c k d first end across f l v (move_parts most c k d v) h.first_inside h.some h.end_inside (h.unsplit refl) h.becomes

  -- its first line is where the one before goes, if that goes somewhere
  pub merged_first : (kind : EditKind) → IsValid most kind → Carried most kind first end across f l → (m : ℤ) → image_at most kind first ≡ Some m → m ≡ f
  merged_first (Insert c k) v h = insert_first most c k first end across f l (insert_parts most c k v) h.first_inside h.some h.end_inside h.wide h.becomes
  merged_first (Delete c k) v h = delete_first most c k first end across f l (delete_parts most c k v) h.first_inside h.some h.end_inside h.wide h.becomes
  merged_first (Move c k d) v h = move_first most c k d first end across f l v (move_parts most c k d v) h.first_inside h.some h.end_inside (h.unsplit refl) h.becomes

  -- it lies on the axis, and still has more than one cell
  pub merged_left : (kind : EditKind) → IsValid most kind → Carried most kind first end across f l → (pos 1 ≤ℤ f) × (f ≤ℤ l) × (l ≤ℤ most) × ((int_lt f l || int_lt (pos 1) across) ≡ true)
  merged_left (Insert c k) v h = insert_left most c k first end across f l (insert_parts most c k v) h.first_inside h.some h.end_inside h.wide h.becomes
  merged_left (Delete c k) v h = delete_left most c k first end across f l (delete_parts most c k v) h.first_inside h.some h.end_inside h.wide h.becomes
  merged_left (Move c k d) v h = move_left most c k d first end across f l v (move_parts most c k d v) h.first_inside h.some h.end_inside (h.unsplit refl) h.has_many h.becomes
