-- Laws of corners: numbers and lines there and back, and ordering.
use Rattle.std.proofs.Common.{◌≡◌, ℤ, Bool, true, false, not, ◌&&◌, arith, refl}
use Rattle.std.specs.Prelude.{if◌then◌else◌, int_lt}
use Rattle.std.proofs.lemmas.Int.{ints}
use Rattle.base_values.specs.declared.Position.{Position}
use Rattle.formula_tree.specs.declared.corner.Corner.{Corner}
use Rattle.formula_tree.specs.Corners.{line_at, number_at, corner_row, corner_column, corner_to, are_in_order, are_rows_reversed, are_columns_reversed, crossing, lower_corner, higher_corner}

line_at-number_at : (absolute : Bool) (from line : ℤ) → line_at absolute from (number_at absolute from line) ≡ line
line_at-number_at true from line = refl
line_at-number_at false from line = omega (arith, ints)

number_at-line_at : (absolute : Bool) (from number : ℤ) → number_at absolute from (line_at absolute from number) ≡ number
number_at-line_at true from number = refl
number_at-line_at false from number = omega (arith, ints)

-- the corner made for a target stands on the target's row
pub corner_row-corner_to : (place : Position) (absolute_row absolute_column : Bool) (target : Position) → corner_row place (corner_to place absolute_row absolute_column target) ≡ target.row
unfolding corner_row corner_to
corner_row-corner_to place absolute_row absolute_column target = line_at-number_at absolute_row place.row target.row

-- and on its column
pub corner_column-corner_to : (place : Position) (absolute_row absolute_column : Bool) (target : Position) → corner_column place (corner_to place absolute_row absolute_column target) ≡ target.column
unfolding corner_column corner_to
corner_column-corner_to place absolute_row absolute_column target = line_at-number_at absolute_column place.column target.column

-- a corner is the one made for where it stands, with its marks
pub corner_to-corner : (place : Position) (corner : Corner)
    → corner_to place corner.absolute_row corner.absolute_column (record { row = corner_row place corner; column = corner_column place corner }) ≡ corner
unfolding corner_row corner_column corner_to
corner_to-corner place corner = λ i. record {
  absolute_row = corner.absolute_row;
  row = number_at-line_at corner.absolute_row place.row corner.row i;
  absolute_column = corner.absolute_column;
  column = number_at-line_at corner.absolute_column place.column corner.column i;
}

not_after : (a b : ℤ) → int_lt b a ≡ true → int_lt a b ≡ false
not_after a b after = grind (arith, ints)

ordered_rows : (place : Position) (a b k l : Corner) (reversed : Bool) → are_rows_reversed place a b ≡ reversed
    → are_rows_reversed place (crossing (if reversed then b else a) k) (crossing (if reversed then a else b) l) ≡ false
unfolding corner_row
ordered_rows place a b k l true after = not_after (corner_row place a) (corner_row place b) after
ordered_rows place a b k l false after = after

ordered_columns : (place : Position) (a b k l : Corner) (reversed : Bool) → are_columns_reversed place a b ≡ reversed
    → are_columns_reversed place (crossing k (if reversed then b else a)) (crossing l (if reversed then a else b)) ≡ false
unfolding corner_column
ordered_columns place a b k l true after = not_after (corner_column place a) (corner_column place b) after
ordered_columns place a b k l false after = after

neither : (rows columns : Bool) → rows ≡ false → columns ≡ false → not rows && not columns ≡ true
neither rows columns same_rows same_columns = grind arith

-- ordered corners are in order
pub in_order-ordered : (place : Position) (first second : Corner) → are_in_order place (lower_corner place first second) (higher_corner place first second) ≡ true
unfolding are_in_order lower_corner higher_corner corner_row corner_column
in_order-ordered place first second =
    neither (are_rows_reversed place (lower_corner place first second) (higher_corner place first second)) (are_columns_reversed place (lower_corner place first second) (higher_corner place first second))
    (ordered_rows place first second first second (are_rows_reversed place first second) refl)
    (ordered_columns place first second first second (are_columns_reversed place first second) refl)

stays : (a b : Corner) (rows columns : Bool) → not rows && not columns ≡ true → crossing (if rows then b else a) (if columns then b else a) ≡ a
stays a b true columns in_order = absurd (cc)
stays a b false true in_order = absurd (cc)
stays a b false false in_order = refl

-- corners in order stay
pub lower-in_order : (place : Position) (first second : Corner) → are_in_order place first second ≡ true → lower_corner place first second ≡ first
unfolding are_in_order lower_corner
lower-in_order place first second in_order = stays first second (are_rows_reversed place first second) (are_columns_reversed place first second) in_order

pub higher-in_order : (place : Position) (first second : Corner) → are_in_order place first second ≡ true → higher_corner place first second ≡ second
unfolding are_in_order higher_corner
higher-in_order place first second in_order = stays second first (are_rows_reversed place first second) (are_columns_reversed place first second) in_order
