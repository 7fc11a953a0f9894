-- The greatest line of a sheet: it is at least 1, and no array ends behind it.
use Rattle.std.proofs.Common.{◌≡◌, ℤ, pos, ◌≤ℤ◌, Bool, true, List, [], ◌∷◌, map, Option, Some, None, refl, ap, sym, ◌∙◌, arith}
use Rattle.std.specs.Prelude.{◌&&◌, int_le}
use Rattle.std.specs.List.{list_all, AllByRecursion}
use Rattle.std.proofs.lemmas.Int.{ints, fold-int_max_bounds}
use Rattle.std.proofs.lemmas.List.Elements.{recursion_from_All}
use Rattle.std.specs.FinMap.{entries, get}
use Rattle.base_values.specs.declared.Position.{Position}
use Rattle.base_values.specs.Places.{position_cmp}
use Rattle.base_values.specs.laws.Places.{position_total, exact_positions}
use Rattle.base_axis.specs.Along.{Along, IsAxis}
use Rattle.base_axis.specs.declared.MergedCell.{MergedCell}
use Rattle.base_axis.specs.Rectangles.{IsInside, last_of, last_line}
use Rattle.sheet_grid.specs.declared.Cell.{Cell}
use Rattle.sheet_grid.specs.declared.WorksheetDimension.{WorksheetDimension}
use Rattle.sheet_grid.specs.Arrays.{array_at}
use Rattle.sheet_grid.specs.Dimension.{reached, extent_at, extent_of, extents_of, last_corner}
use Rattle.sheet_grid.specs.Sheet.{Sheet}
use Rattle.sheet_rules.specs.laws.EntryLaws.{passes_at_from_all}
use Rattle.sheet_actions.specs.GreatestLine.{greatest_line}
use Rattle.sheet_actions.specs.laws.FollowingRectangles.{by_axis}

-- where what a cell takes of the sheet ends
abbrev end_of : Along → WorksheetDimension → ℤ
end_of a extent = a.line (last_corner extent)

-- a sheet's greatest line is at least 1
pub at_least_one : (a : Along) (sheet : Sheet) → pos 1 ≤ℤ greatest_line a sheet
unfolding greatest_line
at_least_one a sheet = (fold-int_max_bounds (pos 1) (map (end_of a) (extents_of sheet.cells)) _ refl).0

le_test : (m n : ℤ) → m ≤ℤ n → int_le m n ≡ true
le_test m n h = grind (arith, ints)

le_from : (m n : ℤ) → int_le m n ≡ true → m ≤ℤ n
le_from m n h = grind (arith, ints)

-- what is inside reaches its own last line
reaches : (last first count : ℤ) → pos 1 ≤ℤ count → last_of first count ≤ℤ last → reached last first count ≡ last_of first count
reaches last first count some inside = grind (arith, ints)

none_behind : (a : Along) (most : ℤ) (es : List (Position × Cell)) → AllByRecursion (λ line. line ≤ℤ most) (map (end_of a) (map extent_of es)) → list_all (λ e. int_le (end_of a (extent_of e)) most) es ≡ true
none_behind a most [] h = refl
none_behind a most (e ∷ es) h = λ i. le_test (end_of a (extent_of e)) most h.0 i && none_behind a most es h.1 i

module _ (a : Along) (is : IsAxis a) (sheet : Sheet) where
  abbrev ends : Position → Option Cell → Bool
  ends place None = true
  ends place (Some cell) = int_le (end_of a (extent_of (place, cell))) (greatest_line a sheet)

  each_ends : (place : Position) → ends place (get sheet.cells place) ≡ true
  unfolding greatest_line
  each_ends place =
      passes_at_from_all position_cmp position_total exact_positions ends (λ _. refl) sheet.cells
      (none_behind a (greatest_line a sheet) (entries sheet.cells)
      (recursion_from_All (λ line. line ≤ℤ greatest_line a sheet) (map (end_of a) (extents_of sheet.cells)) (fold-int_max_bounds (pos 1) (map (end_of a) (extents_of sheet.cells)) _ refl).1)) place

  end_of_array : (r : MergedCell) → IsInside r → end_of a (extent_at (record { row = r.row; column = r.column }) (Some r)) ≡ last_line a r
  end_of_array r inside =
      by_axis (λ b. end_of b (extent_at (record { row = r.row; column = r.column }) (Some r)) ≡ last_line b r)
      (reaches (pos 1048576) r.row r.height inside.high inside.last.0.1) (reaches (pos 16384) r.column r.width inside.wide inside.last.1.1) a is

  -- an array that is inside does not end behind it
  pub array_ends : (place : Position) (cell : Cell) (r : MergedCell) → get sheet.cells place ≡ Some cell → array_at place cell.content ≡ Some r → place ≡ record { row = r.row; column = r.column } → IsInside r →
      last_line a r ≤ℤ greatest_line a sheet
  array_ends place cell r held shows at inside =
      let passes : int_le (end_of a (extent_of (place, cell))) (greatest_line a sheet) ≡ true = sym (ap (ends place) held) ∙ each_ends place in
      let there : end_of a (extent_of (place, cell)) ≡ last_line a r = (λ i. end_of a (extent_at (at i) (shows i))) ∙ end_of_array r inside in
      le_from (last_line a r) (greatest_line a sheet) (ap (λ n. int_le n (greatest_line a sheet)) (sym there) ∙ passes)
