-- The lines and places of a rectangle inside the sheet are inside.
use Rattle.std.proofs.Common.{◌≡◌, ◌⊎◌, inl, inr, ℕ, ◌<◌, ℤ, pos, ◌+ℤ◌, ◌≤ℤ◌, sym, subst, arith}
use Rattle.std.proofs.lemmas.Int.{ints}
use Rattle.std.specs.Prelude.{unsigned_abs}
use Rattle.base_values.specs.Places.{IsLine, IsPlace}
use Rattle.base_axis.specs.declared.MergedCell.{MergedCell}
use Rattle.base_axis.specs.Along.{Along, IsAxis, rows, columns}
use Rattle.base_axis.specs.Rectangles.{IsInside, first_line, last_of, line_count}
use Rattle.planned_maps.specs.Walks.{count_across, place_across}

-- a line of so many that are inside is inside
one_inside : (last first count : ℤ) (index : ℕ) → pos 1 ≤ℤ first → pos 1 ≤ℤ count → last_of first count ≤ℤ last → index < unsigned_abs count
    → IsLine last (first +ℤ pos index)
one_inside last first count index begins some ends few = (omega (arith, ints), omega (arith, ints))

-- and stands within reach of any axis
one_near : (last first count : ℤ) (index : ℕ) → last ≤ℤ pos 1048576 → IsLine last (first +ℤ pos index) → (first +ℤ pos index) ≤ℤ pos 1048576
one_near last first count index high inside = omega (arith, ints)

module _ (r : MergedCell) (inside : IsInside r) (index : ℕ) where
  row_in : index < unsigned_abs r.height → IsLine (pos 1048576) (r.row +ℤ pos index)
  row_in = one_inside (pos 1048576) r.row r.height index inside.first.0.0 inside.high inside.last.0.1

  column_in : index < unsigned_abs r.width → IsLine (pos 16384) (r.column +ℤ pos index)
  column_in = one_inside (pos 16384) r.column r.width index inside.first.1.0 inside.wide inside.last.1.1

  abbrev LineIn : Along → Type 0
  LineIn a = index < unsigned_abs (line_count a r) → IsLine a.last (first_line a r +ℤ pos index)

  abbrev CrossIn : Along → Type 0
  CrossIn a = index < count_across a r → (a.count_of r.column r.row +ℤ pos index) ≤ℤ pos 1048576

  abbrev PlaceIn : ℤ → Along → Type 0
  PlaceIn line a = index < count_across a r → IsLine a.last line → IsPlace (place_across a r line index)

  -- so many lines behind the first one a line of the axis stands
  pub line_inside : (a : Along) → IsAxis a → index < unsigned_abs (line_count a r) → IsLine a.last (first_line a r +ℤ pos index)
  line_inside a is = go is.one_of
    where
      go : (a ≡ rows) ⊎ (a ≡ columns) → LineIn a
      go (inl e) = subst LineIn (sym e) row_in
      go (inr e) = subst LineIn (sym e) column_in

  -- so many cross lines behind the first one stands one of some axis
  pub cross_inside : (a : Along) → IsAxis a → index < count_across a r → (a.count_of r.column r.row +ℤ pos index) ≤ℤ pos 1048576
  cross_inside a is = go is.one_of
    where
      go : (a ≡ rows) ⊎ (a ≡ columns) → CrossIn a
      go (inl e) = subst CrossIn (sym e) (λ few. one_near (pos 16384) r.column r.width index (omega (arith, ints)) (column_in few))
      go (inr e) = subst CrossIn (sym e) (λ few. (row_in few).1)

  -- and a place of the sheet
  pub place_inside : (a : Along) → IsAxis a → (line : ℤ) → index < count_across a r → IsLine a.last line → IsPlace (place_across a r line index)
  place_inside a is line = go is.one_of
    where
      go : (a ≡ rows) ⊎ (a ≡ columns) → PlaceIn line a
      go (inl e) = subst (PlaceIn line) (sym e) (λ few on. (on, column_in few))
      go (inr e) = subst (PlaceIn line) (sym e) (λ few on. (row_in few, on))
