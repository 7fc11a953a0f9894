-- The corners of a formula, carried there and back.
use Rattle.std.proofs.Common.{◌≡◌, ◌⊎◌, inl, inr, ℤ, pos, Bool, true, false, Option, Some, None, refl, ap, sym, subst, ◌∙◌, arith}
use Rattle.std.specs.Ordering.{int_eq}
use Rattle.std.specs.Prelude.{int_lt, not, ◌&&◌, if◌then◌else◌, IfSome}
use Rattle.std.proofs.lemmas.Int.{ints}
use Rattle.base_values.specs.declared.Position.{Position}
use Rattle.base_values.specs.Places.{IsPlace, is_line}
use Rattle.base_axis.specs.Along.{Along, rows, columns}
use Rattle.base_maps.specs.Carried.{if_there}
use Rattle.formula_tree.specs.declared.Corner.{Corner}
use Rattle.formula_tree.specs.Corners.{line_at, number_at, corner_row, corner_column, is_inside, are_in_order, corner_at, corner_to, crossing}
use Rattle.formula_tree.specs.Corners.{lower_corner, higher_corner, are_rows_reversed, are_columns_reversed, is_whole_rows, is_whole_columns}
use Rattle.formula_tree.specs.laws.CornerLaws.{corner_row-corner_to, corner_column-corner_to, corner_to-corner}
use Rattle.line_edits.specs.Moves.{LineMoves, at_line, place_image}
use Rattle.line_routes.specs.Trees.{corner_of, target, moved_corner}
use Rattle.line_routes.specs.RouteModel.{RouteModel, IsRoute, back, place_goes}
use Rattle.line_routes.specs.laws.TreeLaws.{landed}
use Rattle.line_routes.specs.laws.RouteLaws.{goes_inverse, goes_inside}

-- where a corner stands
abbrev pub place_of : Position → Corner → Position
place_of formula corner = record { row = corner_row formula corner; column = corner_column formula corner }

-- the route on which a corner's place goes where it is exposed, and stays where it is not
abbrev pub exposing : RouteModel → Bool → RouteModel
exposing w exposed = record w { is_edited = exposed }

pub exposing_is_route : (w : RouteModel) → IsRoute w → (b : Bool) → IsRoute (exposing w b)
exposing_is_route w is b = record { axis = is.axis; one_to_one = is.one_to_one }

-- a corner that is inside goes where its place goes
pub target_goes : (w : RouteModel) (b : Bool) (corner : Corner) → is_inside w.from corner ≡ true →
    target w b corner ≡ place_goes (exposing w b) (place_of w.from corner)
unfolding target corner_at place_goes
target_goes w true corner h = ap (λ i. if_there (if i then Some (place_of w.from corner) else None) (place_image w.along w.moves.to)) h
target_goes w false corner h = ap (λ i. if i then Some (place_of w.from corner) else None) h

pub moved_goes : (w : RouteModel) (b : Bool) (corner : Corner) → is_inside w.from corner ≡ true →
    moved_corner w b corner ≡ if_there (place_goes (exposing w b) (place_of w.from corner)) (λ place. Some (corner_of w.to corner place))
moved_goes w b corner h = ap (λ o. if_there o (λ place. Some (corner_of w.to corner place))) (target_goes w b corner h)

pub corner_place_inside : (formula : Position) (corner : Corner) → is_inside formula corner ≡ true → IsPlace (place_of formula corner)
unfolding is_inside
corner_place_inside formula corner h = parts (corner_row formula corner) (corner_column formula corner) h
  where
    parts : (row column : ℤ) → is_line (pos 1048576) row && is_line (pos 16384) column ≡ true → IsPlace (record { row = row; column = column })
    parts row column e = ((grind (arith, ints), grind (arith, ints)), (grind (arith, ints), grind (arith, ints)))

-- where a corner comes to stand
pub lands : (to : Position) (corner : Corner) (place : Position) → place_of to (corner_of to corner place) ≡ place
lands to corner place = λ i. record {
  row = corner_row-corner_to to corner.absolute_row corner.absolute_column place i;
  column = corner_column-corner_to to corner.absolute_row corner.absolute_column place i;
}

-- a corner that stands at a place, with the marks of another one that stands where this place comes from, goes back to it
pub home : (w : RouteModel) (b : Bool) (corner : Corner) (place source : Position) → IsPlace place → place_goes (exposing (back w) b) place ≡ Some source →
    place_of w.from corner ≡ source →
    moved_corner (back w) b (corner_of w.to corner place) ≡ Some corner
unfolding corner_to
home w b corner place source inside goes is =
    moved_goes (back w) b (corner_of w.to corner place) (landed w.to corner (Some place) inside)
    ∙ ap (λ p. if_there (place_goes (exposing (back w) b) p) (λ q. Some (corner_of w.from corner q))) (lands w.to corner place)
    ∙ ap (λ o. if_there o (λ q. Some (corner_of w.from corner q))) goes
    ∙ ap (λ q. Some (corner_of w.from corner q)) (sym is)
    ∙ ap Some (corner_to-corner w.from corner)

-- ---- places go by their rows and by their columns

pub record ByLines (go : Position → Option Position) (row column : ℤ → Option ℤ) : Type 0 where
  pub of_row : (p q : Position) → go p ≡ Some q → row p.row ≡ Some q.row
  pub of_column : (p q : Position) → go p ≡ Some q → column p.column ≡ Some q.column
  pub both : (p q : Position) → row p.row ≡ Some q.row → column p.column ≡ Some q.column → go p ≡ Some q

put_rows : (p q : Position) (o : Option ℤ) → at_line rows p o ≡ Some q → (o ≡ Some q.row) × (Some p.column ≡ Some q.column)
put_rows p q None h = absurd (cc)
put_rows p q (Some n) h = let is : record p { row = n } ≡ q = cc in (ap (λ (x : Position). Some x.row) is, ap (λ (x : Position). Some x.column) is)

put_columns : (p q : Position) (o : Option ℤ) → at_line columns p o ≡ Some q → (Some p.row ≡ Some q.row) × (o ≡ Some q.column)
put_columns p q None h = absurd (cc)
put_columns p q (Some n) h = let is : record p { column = n } ≡ q = cc in (ap (λ (x : Position). Some x.row) is, ap (λ (x : Position). Some x.column) is)

some_same : (m n : ℤ) → Some m ≡ Some n → m ≡ n
some_same m n h = cc

rows_by_lines : (to : ℤ → Option ℤ) → ByLines (place_image rows to) to Some
unfolding place_image
rows_by_lines to = record {
  of_row = λ p q h. (put_rows p q (to p.row) h).0;
  of_column = λ p q h. (put_rows p q (to p.row) h).1;
  both = λ p q h i. ap (at_line rows p) h ∙ (λ j. Some (record { row = q.row; column = some_same p.column q.column i j }));
}

columns_by_lines : (to : ℤ → Option ℤ) → ByLines (place_image columns to) Some to
unfolding place_image
columns_by_lines to = record {
  of_row = λ p q h. (put_columns p q (to p.column) h).0;
  of_column = λ p q h. (put_columns p q (to p.column) h).1;
  both = λ p q h i. ap (at_line columns p) i ∙ (λ j. Some (record { row = some_same p.row q.row h j; column = q.column }));
}

own_by_lines : ByLines Some Some Some
own_by_lines = record {
  of_row = λ p q h. let is : p ≡ q = cc in ap (λ (x : Position). Some x.row) is;
  of_column = λ p q h. let is : p ≡ q = cc in ap (λ (x : Position). Some x.column) is;
  both = λ p q h i. λ j. Some (record { row = some_same p.row q.row h j; column = some_same p.column q.column i j });
}

-- a way there and back, by lines
pub record LinesBack (go come : Position → Option Position) : Type 0 where
  pub row : ℤ → Option ℤ
  pub row_back : ℤ → Option ℤ
  pub column : ℤ → Option ℤ
  pub column_back : ℤ → Option ℤ
  pub there : ByLines go row column
  pub returns : ByLines come row_back column_back

axis_back : (a : Along) → (a ≡ rows) ⊎ (a ≡ columns) → (m : LineMoves) → LinesBack (place_image a m.to) (place_image a m.from)
axis_back a (inl is) m = subst (λ x. LinesBack (place_image x m.to) (place_image x m.from)) (sym is) (record {
  row = m.to;
  row_back = m.from;
  column = Some;
  column_back = Some;
  there = rows_by_lines m.to;
  returns = rows_by_lines m.from;
})
axis_back a (inr is) m = subst (λ x. LinesBack (place_image x m.to) (place_image x m.from)) (sym is) (record {
  row = Some;
  row_back = Some;
  column = m.to;
  column_back = m.from;
  there = columns_by_lines m.to;
  returns = columns_by_lines m.from;
})

pub goes_back : (w : RouteModel) → IsRoute w → (b : Bool) → LinesBack (place_goes (exposing w b)) (place_goes (exposing (back w) b))
unfolding place_goes
goes_back w is true = axis_back w.along is.axis.one_of w.moves
goes_back w is false = record {
  row = Some;
  row_back = Some;
  column = Some;
  column_back = Some;
  there = own_by_lines;
  returns = own_by_lines;
}

-- ---- two corners, put in order there and back

-- the row of one of two places, and the column of one of them
abbrev pub mixed : Bool → Bool → Position → Position → Position
mixed r c p q = record { row = if r then q.row else p.row; column = if c then q.column else p.column }

-- likewise of two corners, with their marks
abbrev pub crossed : Bool → Bool → Corner → Corner → Corner
crossed r c first second = crossing (if r then second else first) (if c then second else first)

crossed_of : (to : Position) (r c : Bool) (first second : Corner) (p q : Position) →
    crossed r c (corner_of to first p) (corner_of to second q) ≡ corner_of to (crossed r c first second) (mixed r c p q)
unfolding corner_to
crossed_of to true true first second p q = refl
crossed_of to true false first second p q = refl
crossed_of to false true first second p q = refl
crossed_of to false false first second p q = refl

crossed_stands : (formula : Position) (r c : Bool) (first second : Corner) →
    place_of formula (crossed r c first second) ≡ mixed r c (place_of formula first) (place_of formula second)
unfolding corner_row corner_column
crossed_stands formula true true first second = refl
crossed_stands formula true false first second = refl
crossed_stands formula false true first second = refl
crossed_stands formula false false first second = refl

mixed_inside : (r c : Bool) (p q : Position) → IsPlace p → IsPlace q → IsPlace (mixed r c p q)
mixed_inside true true p q h i = i
mixed_inside true false p q h i = (i.0, h.1)
mixed_inside false true p q h i = (h.0, i.1)
mixed_inside false false p q h i = h

chosen : (go : ℤ → Option ℤ) (b : Bool) (m n k l : ℤ) → go m ≡ Some k → go n ≡ Some l → go (if b then n else m) ≡ Some (if b then l else k)
chosen go true m n k l e f = f
chosen go false m n k l e f = e

mixed_goes : (go : Position → Option Position) (row column : ℤ → Option ℤ) → ByLines go row column → (r c : Bool) (p q s t : Position) → go p ≡ Some s →
    go q ≡ Some t → go (mixed r c p q) ≡ Some (mixed r c s t)
mixed_goes go row column lines r c p q s t e f =
    lines.both (mixed r c p q) (mixed r c s t)
    (chosen row r p.row q.row s.row t.row (lines.of_row p s e) (lines.of_row q t f))
    (chosen column c p.column q.column s.column t.column (lines.of_column p s e) (lines.of_column q t f))

-- two lines whose images are exchanged are exchanged again on the way back
again : (go : ℤ → Option ℤ) (m n k l : ℤ) (b : Bool) → go m ≡ Some k → go n ≡ Some l → int_lt n m ≡ false → int_lt l k ≡ b →
    int_lt (if b then m else n) (if b then n else m) ≡ b
again go m n k l false e f ordered h = ordered
again go m n k l true e f ordered h = at_test (int_lt m n) refl
  where
    at_test : (x : Bool) → int_lt m n ≡ x → int_lt m n ≡ true
    at_test true i = i
    at_test false i =
        let is : m ≡ n = grind (arith, ints) in
        let same : k ≡ l = some_same k l (sym e ∙ ap go is ∙ f) in
        absurd (grind (arith, ints))

chosen_twice : (r c x y : Bool) (first second : Corner) → x ≡ r → y ≡ c → crossed x y (crossed r c first second) (crossed r c second first) ≡ first
chosen_twice r c x y first second e f = (λ i. crossed (e i) (f i) (crossed r c first second) (crossed r c second first)) ∙ at_tests r c
  where
    at_tests : (r c : Bool) → crossed r c (crossed r c first second) (crossed r c second first) ≡ first
    at_tests true true = refl
    at_tests true false = refl
    at_tests false true = refl
    at_tests false false = refl

first_false : (a b : Bool) → not a && not b ≡ true → a ≡ false
first_false a b h = grind arith

second_false : (a b : Bool) → not a && not b ≡ true → b ≡ false
second_false a b h = grind arith

rows_in_order : (formula : Position) (first second : Corner) → are_in_order formula first second ≡ true → are_rows_reversed formula first second ≡ false
unfolding are_in_order
rows_in_order formula first second h = first_false (are_rows_reversed formula first second) (are_columns_reversed formula first second) h

columns_in_order : (formula : Position) (first second : Corner) → are_in_order formula first second ≡ true → are_columns_reversed formula first second ≡ false
unfolding are_in_order
columns_in_order formula first second h = second_false (are_rows_reversed formula first second) (are_columns_reversed formula first second) h

module _ (w : RouteModel) (is : IsRoute w) (b : Bool) (first second : Corner) (r s : Position)
    (goes_first : place_goes (exposing w b) (place_of w.from first) ≡ Some r) (goes_second : place_goes (exposing w b) (place_of w.from second) ≡ Some s)
    (first_inside : is_inside w.from first ≡ true) (second_inside : is_inside w.from second ≡ true) where
  abbrev pub first_there : Corner
  first_there = corner_of w.to first r

  abbrev pub second_there : Corner
  second_there = corner_of w.to second s

  abbrev pub lower_there : Corner
  lower_there = lower_corner w.to first_there second_there

  abbrev pub higher_there : Corner
  higher_there = higher_corner w.to first_there second_there

  abbrev rows_exchanged : Bool
  rows_exchanged = are_rows_reversed w.to first_there second_there

  abbrev columns_exchanged : Bool
  columns_exchanged = are_columns_reversed w.to first_there second_there

  abbrev pub first_back : Corner
  first_back = crossed rows_exchanged columns_exchanged first second

  abbrev pub second_back : Corner
  second_back = crossed rows_exchanged columns_exchanged second first

  image_of : (p q : Position) → IsPlace p → place_goes (exposing w b) p ≡ Some q → IsPlace q
  image_of p q h e = let P : Option Position → Type 0 = λ o. IfSome o IsPlace in subst P e (goes_inside (exposing w b) (exposing_is_route w is b) p h)

  pub first_image : IsPlace r
  first_image = image_of (place_of w.from first) r (corner_place_inside w.from first first_inside) goes_first

  pub second_image : IsPlace s
  second_image = image_of (place_of w.from second) s (corner_place_inside w.from second second_inside) goes_second

  source_of : (p q : Position) → place_goes (exposing w b) p ≡ Some q → place_goes (exposing (back w) b) q ≡ Some p
  source_of p q e = (goes_inverse (exposing w b) (exposing_is_route w is b)).back p q e

  lower_is : lower_there ≡ corner_of w.to first_back (mixed rows_exchanged columns_exchanged r s)
  unfolding lower_corner
  lower_is = crossed_of w.to rows_exchanged columns_exchanged first second r s

  higher_is : higher_there ≡ corner_of w.to second_back (mixed rows_exchanged columns_exchanged s r)
  unfolding higher_corner
  higher_is = crossed_of w.to rows_exchanged columns_exchanged second first s r

  -- the two corners are inside
  pub lower_inside : is_inside w.to lower_there ≡ true
  lower_inside = ap (is_inside w.to) lower_is ∙ landed w.to first_back (Some (mixed rows_exchanged columns_exchanged r s))
      (mixed_inside rows_exchanged columns_exchanged r s first_image second_image)

  pub higher_inside : is_inside w.to higher_there ≡ true
  higher_inside = ap (is_inside w.to) higher_is ∙ landed w.to second_back (Some (mixed rows_exchanged columns_exchanged s r))
      (mixed_inside rows_exchanged columns_exchanged s r second_image first_image)

  -- they go back to the corners that they were, which may be exchanged
  goes_home : (c d : Corner) (t u : Position) → IsPlace t → IsPlace u → place_goes (exposing w b) (place_of w.from c) ≡ Some t →
      place_goes (exposing w b) (place_of w.from d) ≡ Some u →
      moved_corner (back w) b (corner_of w.to (crossed rows_exchanged columns_exchanged c d) (mixed rows_exchanged columns_exchanged t u)) ≡
      Some (crossed rows_exchanged columns_exchanged c d)
  goes_home c d t u t_inside u_inside e f =
      let p = place_of w.from c in
      let q = place_of w.from d in
      let lines = goes_back w is b in
      home w b (crossed rows_exchanged columns_exchanged c d) (mixed rows_exchanged columns_exchanged t u) (mixed rows_exchanged columns_exchanged p q)
      (mixed_inside rows_exchanged columns_exchanged t u t_inside u_inside)
      (mixed_goes _ lines.row_back lines.column_back lines.returns rows_exchanged columns_exchanged t u p q (source_of p t e) (source_of q u f))
      (crossed_stands w.from rows_exchanged columns_exchanged c d)

  pub lower_goes_back : moved_corner (back w) b lower_there ≡ Some first_back
  lower_goes_back = ap (moved_corner (back w) b) lower_is ∙ goes_home first second r s first_image second_image goes_first goes_second

  pub higher_goes_back : moved_corner (back w) b higher_there ≡ Some second_back
  higher_goes_back = ap (moved_corner (back w) b) higher_is ∙ goes_home second first s r second_image first_image goes_second goes_first

  module _ (in_order : are_in_order w.from first second ≡ true) where
    rows_again : are_rows_reversed w.from first_back second_back ≡ rows_exchanged
    rows_again =
        let lines = goes_back w is b in
        (λ i. int_lt (crossed_stands w.from rows_exchanged columns_exchanged second first i).row
        (crossed_stands w.from rows_exchanged columns_exchanged first second i).row)
        ∙ again lines.row (corner_row w.from first) (corner_row w.from second) r.row s.row rows_exchanged (lines.there.of_row _ r goes_first)
        (lines.there.of_row _ s goes_second)
        (rows_in_order w.from first second in_order) (sym (λ i. int_lt (lands w.to second s i).row (lands w.to first r i).row))

    columns_again : are_columns_reversed w.from first_back second_back ≡ columns_exchanged
    columns_again =
        let lines = goes_back w is b in
        (λ i. int_lt (crossed_stands w.from rows_exchanged columns_exchanged second first i).column
        (crossed_stands w.from rows_exchanged columns_exchanged first second i).column)
        ∙ again lines.column (corner_column w.from first) (corner_column w.from second) r.column s.column columns_exchanged
        (lines.there.of_column _ r goes_first) (lines.there.of_column _ s goes_second)
        (columns_in_order w.from first second in_order) (sym (λ i. int_lt (lands w.to second s i).column (lands w.to first r i).column))

    -- and put in order they are these corners
    pub lower_again : lower_corner w.from first_back second_back ≡ first
    unfolding lower_corner
    lower_again = chosen_twice rows_exchanged columns_exchanged _ _ first second rows_again columns_again

    pub higher_again : higher_corner w.from first_back second_back ≡ second
    unfolding higher_corner
    higher_again = chosen_twice rows_exchanged columns_exchanged _ _ second first rows_again columns_again

-- corners in order stay so where they stand
pub order_stays : (formula to : Position) (first second : Corner) →
    are_in_order to (corner_of to first (place_of formula first)) (corner_of to second (place_of formula second)) ≡ are_in_order formula first second
unfolding are_in_order
order_stays formula to first second = λ i.
    not (int_lt (lands to second (place_of formula second) i).row (lands to first (place_of formula first) i).row)
    && not (int_lt (lands to second (place_of formula second) i).column (lands to first (place_of formula first) i).column)

whole_stays : (a b : Bool) (from to low high m n : ℤ) →
    (a && b) && (int_eq (number_at a to (line_at a from m)) low && int_eq (number_at b to (line_at b from n)) high) ≡ (a && b) &&
    (int_eq m low && int_eq n high)
whole_stays true true from to low high m n = refl
whole_stays true false from to low high m n = refl
whole_stays false b from to low high m n = refl

-- a range that is whole stays so where its corners stand, and no other becomes so
pub whole_rows_stay : (formula to : Position) (first second : Corner) →
    is_whole_rows (corner_of to first (place_of formula first)) (corner_of to second (place_of formula second)) ≡ is_whole_rows first second
unfolding is_whole_rows corner_to corner_row
whole_rows_stay formula to first second = whole_stays first.absolute_row second.absolute_row formula.row to.row (pos 1) (pos 1048576) first.row second.row

pub whole_columns_stay : (formula to : Position) (first second : Corner) →
    is_whole_columns (corner_of to first (place_of formula first)) (corner_of to second (place_of formula second)) ≡ is_whole_columns first second
unfolding is_whole_columns corner_to corner_column
whole_columns_stay formula to first second = whole_stays first.absolute_column second.absolute_column formula.column to.column (pos 1)
    (pos 16384) first.column second.column
