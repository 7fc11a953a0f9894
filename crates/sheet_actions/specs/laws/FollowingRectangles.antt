-- Rectangles that follow an edit, by the places that theirs were before.
use Rattle.std.proofs.Common.{◌≡◌, ⊎_elim, ℤ, pos, ◌+ℤ◌, ◌-ℤ◌, ◌≤ℤ◌, Bool, true, false, ◌&&◌, ◌||◌, Option, Some, None, refl, arith, ap, sym, subst, ◌∙◌}
use Rattle.std.specs.Prelude.{int_lt}
use Rattle.std.proofs.lemmas.Int.{ints}
use Rattle.base_values.specs.declared.Position.{Position}
use Rattle.base_axis.specs.Along.{Along, IsAxis, rows, columns}
use Rattle.base_axis.specs.declared.MergedCell.{MergedCell}
use Rattle.base_axis.specs.Rectangles.{IsInside, is_between, holds, meets, anchor_place, first_line, last_line, across, line_span, last_of, with_lines}
use Rattle.base_axis.specs.laws.RectangleLaws.{first_cross, last_cross, shared_meets, meets_shared, first_put, last_put, first_cross_stays, last_cross_stays, put_lines_inside, holds_along}
use Rattle.line_edits.specs.declared.EditKind.{EditKind}
use Rattle.line_edits.specs.Edit.{image_at, IsValid}
use Rattle.line_edits.specs.Moves.{place_image, at_line}
use Rattle.sheet_rules.specs.laws.EntryLaws.{both}
use Rattle.sheet_actions.specs.laws.Sources.{source, Stood, Whole, whole_stood, whole_inside, source_of_image}
use Rattle.sheet_actions.specs.laws.MergedSources.{some_is, Carried, merged_stood, merged_first, merged_left}

-- each place of a rectangle came from one of another
abbrev pub CameFrom : (Position → Position) → MergedCell → MergedCell → Type 0
CameFrom came r s = (place : Position) → holds s place ≡ true → holds r (came place) ≡ true

not_both : (b : Bool) → b ≡ true → b ≡ false → ⊥
not_both true h k = cc
not_both false h k = cc

false_unless : (b : Bool) → (b ≡ true → ⊥) → b ≡ false
false_unless true h = absurd (h refl)
false_unless false h = refl

module _ (came : Position → Position) where
  -- rectangles that did not meet do not meet where they come to lie
  pub apart_stay : (r s t u : MergedCell) → CameFrom came r t → CameFrom came s u → IsInside t → IsInside u → meets r s ≡ false → meets t u ≡ false
  apart_stay r s t u from_r from_s in_t in_u apart = false_unless (meets t u) (λ h.
      let shared = meets_shared t u in_t in_u h in
      not_both (meets r s) (shared_meets r s (came shared.place) (from_r shared.place shared.here) (from_s shared.place shared.there)) apart)

-- the place where one stood
abbrev pub source_place : Along → EditKind → Position → Position
source_place a kind place = a.with_line place (source kind (a.line place))

between_from : (first last n : ℤ) → first ≤ℤ n → n ≤ℤ last → is_between first last n ≡ true
between_from first last n p q = grind (arith, ints)

low_of : (first last n : ℤ) → is_between first last n ≡ true → first ≤ℤ n
low_of first last n h = grind (arith, ints)

high_of : (first last n : ℤ) → is_between first last n ≡ true → n ≤ℤ last
high_of first last n h = grind (arith, ints)

module _ (a : Along) (is : IsAxis a) (kind : EditKind) where
  -- one whose lines came from its own, on the same cross lines
  pub put_came_from : (r : MergedCell) (f l : ℤ) → ((m : ℤ) → f ≤ℤ m → m ≤ℤ l → Stood kind (first_line a r) (last_line a r) m) → CameFrom (source_place a kind) r (with_lines a r f l)
  put_came_from r f l stood place h =
      let split = both (is_between (first_line a (with_lines a r f l)) (last_line a (with_lines a r f l)) (a.line place))
      (is_between (first_cross a (with_lines a r f l)) (last_cross a (with_lines a r f l)) (a.cross place)) (sym (holds_along a is (with_lines a r f l) place) ∙ h) in
      let on_line : is_between f l (a.line place) ≡ true = sym (λ i. is_between (first_put a is r f l i) (last_put a is r f l i) (a.line place)) ∙ split.0 in
      let on_cross : is_between (first_cross a r) (last_cross a r) (a.cross place) ≡ true =
      sym (λ i. is_between (first_cross_stays a is r f l i) (last_cross_stays a is r f l i) (a.cross place)) ∙ split.1 in
      let own = stood (a.line place) (low_of f l (a.line place) on_line) (high_of f l (a.line place) on_line) in
      let back = source_place a kind place in
      let line_back : is_between (first_line a r) (last_line a r) (a.line back) ≡ true =
      ap (is_between (first_line a r) (last_line a r)) (is.line_put place (source kind (a.line place))) ∙ between_from (first_line a r) (last_line a r) (source kind (a.line place)) own.low own.high in
      let cross_back : is_between (first_cross a r) (last_cross a r) (a.cross back) ≡ true =
      ap (is_between (first_cross a r) (last_cross a r)) (is.cross_stays place (source kind (a.line place))) ∙ on_cross in
      holds_along a is r back ∙ (λ i. line_back i && cross_back i)

  -- a place that went somewhere came from where it was
  pub source_of_place : IsValid a.last kind → (p q : Position) → place_image a (image_at a.last kind) p ≡ Some q → source_place a kind q ≡ p
  unfolding place_image
  source_of_place valid p q h = at_line_of (image_at a.last kind (a.line p)) refl h
    where
      at_line_of : (o : Option ℤ) → image_at a.last kind (a.line p) ≡ o → at_line a p o ≡ Some q → source_place a kind q ≡ p
      at_line_of None e g = absurd (cc)
      at_line_of (Some n) e g =
          let put : a.with_line p n ≡ q = cc in
          let here : a.line q ≡ n = ap a.line (sym put) ∙ is.line_put p n in
          sym (λ i. a.with_line (put i) (source kind (a.line q)))
          ∙ ap (λ x. a.with_line (a.with_line p n) (source kind x)) here
          ∙ is.put_twice p n (source kind n)
          ∙ ap (a.with_line p) (source_of_image a.last kind valid (a.line p) n e)
          ∙ is.own_line p

-- what holds along both axes
pub by_axis : (P : Along → Type 0) → P rows → P columns → (a : Along) → IsAxis a → P a
by_axis P of_rows of_columns a is = ⊎_elim (λ e. subst P (sym e) of_rows) (λ e. subst P (sym e) of_columns) is.one_of

-- a rectangle that follows another one: it is inside, its places came from that one's, and it begins where that one's first place goes
pub record Follows (goes : Position → Option Position) (came : Position → Position) (r s : MergedCell) : Type 0 where
  pub inside : IsInside s
  pub from : CameFrom came r s
  pub anchor : (q : Position) → goes (anchor_place r) ≡ Some q → q ≡ anchor_place s

-- the rectangle with its first place put somewhere
abbrev pub placed_at : Position → MergedCell → MergedCell
placed_at q r = record r { row = q.row; column = q.column }

same_span : (n first count : ℤ) → line_span n (n +ℤ (last_of first count -ℤ first)) ≡ count
same_span n first count = omega (arith, ints)

pub many_lines : (first count across : ℤ) → (int_lt (pos 1) across || int_lt (pos 1) count) ≡ true → (int_lt first (last_of first count) || int_lt (pos 1) across) ≡ true
many_lines first count across h = grind (arith, ints)

pub many_span : (f l across : ℤ) → (int_lt f l || int_lt (pos 1) across) ≡ true → (int_lt (pos 1) across || int_lt (pos 1) (line_span f l)) ≡ true
many_span f l across h = grind (arith, ints)

module _ (a : Along) (is : IsAxis a) (kind : EditKind) (valid : IsValid a.last kind) where
  abbrev goes : Position → Option Position
  goes = place_image a (image_at a.last kind)

  -- a rectangle of as many lines from a line on
  pub put_lines : (r : MergedCell) (n : ℤ) → placed_at (a.with_line (anchor_place r) n) r ≡ with_lines a r n (n +ℤ (last_line a r -ℤ first_line a r))
  put_lines r n = sym (by_axis (λ b. with_lines b r n (n +ℤ (last_line b r -ℤ first_line b r)) ≡ placed_at (b.with_line (anchor_place r) n) r)
      (λ i. record r { row = n; height = same_span n r.row r.height i }) (λ i. record r { column = n; width = same_span n r.column r.width i }) a is)

  -- the line to which a place goes
  pub line_of_place : (p q : Position) → goes p ≡ Some q → (n : ℤ) × (image_at a.last kind (a.line p) ≡ Some n) × (a.with_line p n ≡ q)
  unfolding place_image
  line_of_place p q h = at_line_of (image_at a.last kind (a.line p)) refl h
    where
      at_line_of : (o : Option ℤ) → image_at a.last kind (a.line p) ≡ o → at_line a p o ≡ Some q → (n : ℤ) × (image_at a.last kind (a.line p) ≡ Some n) × (a.with_line p n ≡ q)
      at_line_of None e g = absurd (cc)
      at_line_of (Some n) e g = (n, e, cc)

  -- an array that lies whole follows
  pub whole_follows : (r : MergedCell) (n : ℤ) → IsInside r → Whole a.last kind (first_line a r) (last_line a r) n → Follows goes (source_place a kind) r (with_lines a r n (n +ℤ (last_line a r -ℤ first_line a r)))
  whole_follows r n inside whole =
      let l : ℤ = n +ℤ (last_line a r -ℤ first_line a r) in
      let there = whole_inside a.last (first_line a r) (last_line a r) n kind valid whole in
      let some = whole.some in
      let low = there.0.0 in
      let order : n ≤ℤ l = omega (arith, ints) in
      record {
        inside = put_lines_inside a is r n l inside there.0 (omega (arith, ints), there.1) order;
        from = put_came_from a is kind r n l (whole_stood a.last (first_line a r) (last_line a r) n kind valid whole);
        anchor = λ q h.
            let found = line_of_place (anchor_place r) q h in
            sym found.2 ∙ ap (a.with_line (anchor_place r)) (some_is found.0 n (sym found.1 ∙ whole.goes));
      }

  -- a merge that is left follows, and has more than one cell
  pub merge_follows : (r : MergedCell) (f l : ℤ) → IsInside r → Carried a.last kind (first_line a r) (last_line a r) (across a r) f l → Follows goes (source_place a kind) r (with_lines a r f l)
  merge_follows r f l inside carried =
      let left = merged_left a.last (first_line a r) (last_line a r) (across a r) f l kind valid carried in
      let low = left.0 in let order = left.1 in let high = left.2 in
      record {
        inside = put_lines_inside a is r f l inside (low, omega (arith, ints)) (omega (arith, ints), high) order;
        from = put_came_from a is kind r f l (merged_stood a.last (first_line a r) (last_line a r) (across a r) f l kind valid carried);
        anchor = λ q h.
            let found = line_of_place (anchor_place r) q h in
            sym found.2 ∙ ap (a.with_line (anchor_place r)) (merged_first a.last (first_line a r) (last_line a r) (across a r) f l kind valid carried found.0 found.1);
      }
