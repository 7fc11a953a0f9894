-- Ranges that are carried along an insertion or a deletion.
use Rattle.std.proofs.Common.{◌≡◌, ◌⊎◌, inl, inr, ℕ, ℤ, pos, ◌≤ℤ◌, Bool, true, false, List, Option, Some, None, refl, ap, sym, subst, ◌∙◌, arith}
use Rattle.std.specs.Prelude.{◌&&◌, if◌then◌else◌, IfSome}
use Rattle.std.proofs.lemmas.Int.{ints}
use Rattle.base_values.specs.declared.Position.{Position}
use Rattle.base_values.specs.Places.{IsLine, IsPlace, is_line, as_line}
use Rattle.base_axis.specs.Along.{Along, rows, columns}
use Rattle.formula_tree.specs.declared.Corner.{Corner}
use Rattle.formula_tree.specs.declared.Node.TheVariants as node
use Rattle.formula_tree.specs.Corners.{corner_row, corner_column, corner_at, is_inside, are_rows_reversed, are_columns_reversed, crossing, lower_corner, higher_corner}
use Rattle.formula_tree.specs.Moved.{moved, range_to}
use Rattle.formula_tree.specs.laws.CornerLaws.{corner_row-corner_to, corner_column-corner_to}
use Rattle.line_edits.specs.declared.edit.EditKind.{EditKind}
use Rattle.line_edits.specs.declared.edit.EditKind.TheVariants.{Insert, Delete, Move}
use Rattle.base_maps.specs.Carried.{if_there}
use Rattle.line_edits.specs.Edit.{goes_to, image_at, IsValid}
use Rattle.line_edits.specs.Moves.{at_line, place_image, is_between}
use Rattle.line_routes.specs.Trees.{corner_of, target, is_exposed, moved_corner, tree_carried}
use Rattle.line_routes.specs.RouteModel.{RouteModel, IsRoute, at}
use Rattle.line_edits.specs.laws.Images.{insert_parts, delete_parts}
use Rattle.line_edits.specs.laws.PlaceLaws.{image_inside}
use Rattle.line_routes.specs.laws.RouteLaws.{at_is_route}
use Rattle.line_laws.specs.Ranges.{is_insertion_or_deletion, Denotes, Holds, Survives, IsImage, IsLeastRange, GoesByNodes, range_carried, RangesHoldImages}

-- lines that go somewhere stay in their order
abbrev KeepsOrder : (ℤ → Option ℤ) → Type 0
KeepsOrder to = (m n k l : ℤ) → to m ≡ Some k → to n ≡ Some l → m ≤ℤ n → k ≤ℤ l

edit_keeps_order : (last : ℤ) (kind : EditKind) → IsValid last kind → is_insertion_or_deletion kind ≡ true → KeepsOrder (image_at last kind)
unfolding image_at goes_to as_line
edit_keeps_order last (Insert c j) v h m n k l e f g = let w = insert_parts last c j v in let a = w.amount.0 in grind (arith, ints)
edit_keeps_order last (Delete c j) v h m n k l e f g = let w = delete_parts last c j v in let a = w.amount.0 in grind (arith, ints)
edit_keeps_order last (Move c j d) v h m n k l e f g = absurd (cc)

-- ---- lines between two lines

between_cases : (m n k : ℤ) → is_between m n k ≡ true → ((m ≤ℤ k) × (k ≤ℤ n)) ⊎ ((n ≤ℤ k) × (k ≤ℤ m))
between_cases m n k h = grind (arith, ints)

between_up : (m n k : ℤ) → m ≤ℤ k → k ≤ℤ n → is_between m n k ≡ true
between_up m n k h i = grind (arith, ints)

between_down : (m n k : ℤ) → n ≤ℤ k → k ≤ℤ m → is_between m n k ≡ true
between_down m n k h i = grind (arith, ints)

between_turned : (m n k : ℤ) → is_between n m k ≡ is_between m n k
between_turned m n k = grind arith

first_between : (m n : ℤ) → is_between m n m ≡ true
first_between m n = grind (arith, ints)

last_between : (m n : ℤ) → is_between m n n ≡ true
last_between m n = grind (arith, ints)

-- lines that go somewhere stay between two others that do
between_kept : (to : ℤ → Option ℤ) → KeepsOrder to → (m n k a b c : ℤ) → to m ≡ Some a → to n ≡ Some b → to k ≡ Some c → is_between m n k ≡ true → is_between a b c ≡ true
between_kept to keeps m n k a b c e f g h =
    elim (between_cases m n k h) [
      | inl i ↦ between_up a b c (keeps m k a c e g i.0) (keeps k n c b g f i.1)
      | inr i ↦ between_down a b c (keeps n k b c f g i.0) (keeps k m c a g e i.1)
    ]

-- a line between two that lie from a first to a last line lies there too
between_within : (first last m n k : ℤ) → first ≤ℤ m → m ≤ℤ last → first ≤ℤ n → n ≤ℤ last → is_between m n k ≡ true → (first ≤ℤ k) × (k ≤ℤ last)
between_within first last m n k a b c d h =
    elim (between_cases m n k h) [
      | inl i ↦ (omega (arith, ints, i.0, i.1), omega (arith, ints, i.0, i.1))
      | inr i ↦ (omega (arith, ints, i.0, i.1), omega (arith, ints, i.0, i.1))
    ]

-- ---- places between two places

-- from the row of one to the row of the other, and likewise by column
record IsSpanned (p q place : Position) : Type 0 where
  in_rows : is_between p.row q.row place.row ≡ true
  in_columns : is_between p.column q.column place.column ≡ true

module _ (to : ℤ → Option ℤ) (keeps : KeepsOrder to) where
  -- of a place with an image the line goes, and the cross line stays
  line_goes : (a : Along) (p r : Position) (o : Option ℤ) → to (a.line p) ≡ o → at_line a p o ≡ Some r → (n : ℤ) × ((to (a.line p) ≡ Some n) × (r ≡ a.with_line p n))
  line_goes a p r None e h = absurd (cc)
  line_goes a p r (Some n) e h = (n, (e, let is : a.with_line p n ≡ r = cc in sym is))

  row_goes : (p r : Position) → place_image rows to p ≡ Some r → (to p.row ≡ Some r.row) × (r.column ≡ p.column)
  unfolding place_image
  row_goes p r e =
      let there = line_goes rows p r _ refl e in
      let is : r ≡ record p { row = there.0 } = there.1.1 in
      (there.1.0 ∙ ap Some (sym (ap (λ (x : Position). x.row) is)), ap (λ (x : Position). x.column) is)

  column_goes : (p r : Position) → place_image columns to p ≡ Some r → (to p.column ≡ Some r.column) × (r.row ≡ p.row)
  unfolding place_image
  column_goes p r e =
      let there = line_goes columns p r _ refl e in
      let is : r ≡ record p { column = there.0 } = there.1.1 in
      (there.1.0 ∙ ap Some (sym (ap (λ (x : Position). x.column) is)), ap (λ (x : Position). x.row) is)

  spanned_rows : (p q i r s j : Position) → place_image rows to p ≡ Some r → place_image rows to q ≡ Some s → place_image rows to i ≡ Some j → IsSpanned p q i → IsSpanned r s j
  spanned_rows p q i r s j e f g h =
      let a = row_goes p r e in
      let b = row_goes q s f in
      let c = row_goes i j g in
      record {
        in_rows = between_kept to keeps p.row q.row i.row r.row s.row j.row a.0 b.0 c.0 h.in_rows;
        in_columns = (λ t. is_between (a.1 t) (b.1 t) (c.1 t)) ∙ h.in_columns;
      }

  spanned_columns : (p q i r s j : Position) → place_image columns to p ≡ Some r → place_image columns to q ≡ Some s → place_image columns to i ≡ Some j → IsSpanned p q i → IsSpanned r s j
  spanned_columns p q i r s j e f g h =
      let a = column_goes p r e in
      let b = column_goes q s f in
      let c = column_goes i j g in
      record {
        in_rows = (λ t. is_between (a.1 t) (b.1 t) (c.1 t)) ∙ h.in_rows;
        in_columns = between_kept to keeps p.column q.column i.column r.column s.column j.column a.0 b.0 c.0 h.in_columns;
      }

  -- the image of a place between two others stands between their images
  spanned_images : (a : Along) → (a ≡ rows) ⊎ (a ≡ columns) → (p q i r s j : Position) → place_image a to p ≡ Some r → place_image a to q ≡ Some s → place_image a to i ≡ Some j → IsSpanned p q i → IsSpanned r s j
  spanned_images a (inl is) p q i r s j e f g h = spanned_rows p q i r s j (ap (λ b. place_image b to p) (sym is) ∙ e) (ap (λ b. place_image b to q) (sym is) ∙ f) (ap (λ b. place_image b to i) (sym is) ∙ g) h
  spanned_images a (inr is) p q i r s j e f g h = spanned_columns p q i r s j (ap (λ b. place_image b to p) (sym is) ∙ e) (ap (λ b. place_image b to q) (sym is) ∙ f) (ap (λ b. place_image b to i) (sym is) ∙ g) h

-- what stands between two places is in each rectangle that holds both
spanned_held : (start end p q place : Position) → Holds start end p → Holds start end q → IsSpanned p q place → Holds start end place
spanned_held start end p q place h i s =
    let in_rows = between_within start.row end.row p.row q.row place.row h.below h.above i.below i.above s.in_rows in
    let in_columns = between_within start.column end.column p.column q.column place.column h.after h.before i.after i.before s.in_columns in
    record { below = in_rows.0; above = in_rows.1; after = in_columns.0; before = in_columns.1 }

-- ---- corners

-- a corner stands on the row and the column of a place, inside the sheet
record StandsAt (formula : Position) (corner : Corner) (place : Position) : Type 0 where
  in_rows : is_line (pos 1048576) (corner_row formula corner) ≡ true
  in_columns : is_line (pos 16384) (corner_column formula corner) ≡ true
  row : corner_row formula corner ≡ place.row
  column : corner_column formula corner ≡ place.column

and_parts : (a b : Bool) → (a && b) ≡ true → (a ≡ true) × (b ≡ true)
and_parts a b h = (grind arith, grind arith)

inside_parts : (formula : Position) (corner : Corner) → is_inside formula corner ≡ true → (is_line (pos 1048576) (corner_row formula corner) ≡ true) × (is_line (pos 16384) (corner_column formula corner) ≡ true)
unfolding is_inside
inside_parts formula corner h = and_parts (is_line (pos 1048576) (corner_row formula corner)) (is_line (pos 16384) (corner_column formula corner)) h

parts_inside : (formula : Position) (corner : Corner) → is_line (pos 1048576) (corner_row formula corner) ≡ true → is_line (pos 16384) (corner_column formula corner) ≡ true → is_inside formula corner ≡ true
unfolding is_inside
parts_inside formula corner h i = λ j. h j && i j

stands_at : (formula : Position) (corner : Corner) (place : Position) → corner_at formula corner ≡ Some place → StandsAt formula corner place
unfolding corner_at
stands_at formula corner place h = at_test (is_inside formula corner) refl h
  where
    at_test : (b : Bool) → is_inside formula corner ≡ b → (if b then Some (record { row = corner_row formula corner; column = corner_column formula corner }) else None) ≡ Some place → StandsAt formula corner place
    at_test true e h =
        let is : record { row = corner_row formula corner; column = corner_column formula corner } ≡ place = cc in
        let inside = inside_parts formula corner e in
        record { in_rows = inside.0; in_columns = inside.1; row = ap (λ (x : Position). x.row) is; column = ap (λ (x : Position). x.column) is }
    at_test false e h = absurd (cc)

at_stands : (formula : Position) (corner : Corner) (place : Position) → StandsAt formula corner place → corner_at formula corner ≡ Some place
unfolding corner_at
at_stands formula corner place s = λ i. if parts_inside formula corner s.in_rows s.in_columns i then Some (record { row = s.row i; column = s.column i }) else None

-- what a range denotes is what stands between the places of its corners
denotes_spanned : (formula : Position) (first second : Corner) (p q place : Position) → corner_at formula first ≡ Some p → corner_at formula second ≡ Some q → Denotes formula first second place → IsSpanned p q place
denotes_spanned formula first second p q place e f d =
    let start : d.start ≡ p = cc (d.first_stands) in
    let stop : d.stop ≡ q = cc (d.second_stands) in
    record {
      in_rows = sym (λ i. is_between (start i).row (stop i).row place.row) ∙ d.in_rows;
      in_columns = sym (λ i. is_between (start i).column (stop i).column place.column) ∙ d.in_columns;
    }

spanned_denotes : (formula : Position) (first second : Corner) (p q place : Position) → corner_at formula first ≡ Some p → corner_at formula second ≡ Some q → IsSpanned p q place → Denotes formula first second place
spanned_denotes formula first second p q place e f s = record { start = p; stop = q; first_stands = e; second_stands = f; in_rows = s.in_rows; in_columns = s.in_columns }

-- the row of one of two places, and the column of one of them
abbrev mixed : Bool → Bool → Position → Position → Position
mixed r c p q = record { row = if r then q.row else p.row; column = if c then q.column else p.column }

mixed_stands : (formula : Position) (first second : Corner) (p q : Position) → StandsAt formula first p → StandsAt formula second q → (r c : Bool) → StandsAt formula (crossing (if r then second else first) (if c then second else first)) (mixed r c p q)
unfolding corner_row corner_column
mixed_stands formula first second p q s t true true = record { in_rows = t.in_rows; in_columns = t.in_columns; row = t.row; column = t.column }
mixed_stands formula first second p q s t true false = record { in_rows = t.in_rows; in_columns = s.in_columns; row = t.row; column = s.column }
mixed_stands formula first second p q s t false true = record { in_rows = s.in_rows; in_columns = t.in_columns; row = s.row; column = t.column }
mixed_stands formula first second p q s t false false = record { in_rows = s.in_rows; in_columns = s.in_columns; row = s.row; column = s.column }

between_exchanged : (b : Bool) (m n k : ℤ) → is_between (if b then n else m) (if b then m else n) k ≡ is_between m n k
between_exchanged true m n k = between_turned m n k
between_exchanged false m n k = refl

-- two places that exchange their rows or their columns have the same places between them
mixed_spans : (r c : Bool) (p q place : Position) → IsSpanned p q place → IsSpanned (mixed r c p q) (mixed r c q p) place
mixed_spans r c p q place s = record {
  in_rows = between_exchanged r p.row q.row place.row ∙ s.in_rows;
  in_columns = between_exchanged c p.column q.column place.column ∙ s.in_columns;
}

spans_mixed : (r c : Bool) (p q place : Position) → IsSpanned (mixed r c p q) (mixed r c q p) place → IsSpanned p q place
spans_mixed r c p q place s = record {
  in_rows = sym (between_exchanged r p.row q.row place.row) ∙ s.in_rows;
  in_columns = sym (between_exchanged c p.column q.column place.column) ∙ s.in_columns;
}

-- so a range denotes the same after its corners are ordered
module _ (formula : Position) (first second : Corner) (p q : Position) (s : StandsAt formula first p) (t : StandsAt formula second q) where
  ordered_denotes : (place : Position) → IsSpanned p q place → Denotes formula (lower_corner formula first second) (higher_corner formula first second) place
  unfolding lower_corner higher_corner
  ordered_denotes place spanned =
      let r = are_rows_reversed formula first second in
      let c = are_columns_reversed formula first second in
      spanned_denotes formula _ _ (mixed r c p q) (mixed r c q p) place
      (at_stands formula _ (mixed r c p q) (mixed_stands formula first second p q s t r c))
      (at_stands formula _ (mixed r c q p) (mixed_stands formula second first q p t s r c))
      (mixed_spans r c p q place spanned)

  denotes_ordered : (place : Position) → Denotes formula (lower_corner formula first second) (higher_corner formula first second) place → IsSpanned p q place
  unfolding lower_corner higher_corner
  denotes_ordered place d =
      let r = are_rows_reversed formula first second in
      let c = are_columns_reversed formula first second in
      spans_mixed r c p q place (denotes_spanned formula _ _ (mixed r c p q) (mixed r c q p) place
      (at_stands formula _ (mixed r c p q) (mixed_stands formula first second p q s t r c))
      (at_stands formula _ (mixed r c q p) (mixed_stands formula second first q p t s r c))
      d)

-- ---- ranges

is_line_of : (last n : ℤ) → IsLine last n → is_line last n ≡ true
is_line_of last n h = let a = h.0 in let b = h.1 in grind (arith, ints)

of_is_line : (last n : ℤ) → is_line last n ≡ true → IsLine last n
of_is_line last n h = (grind (arith, ints), grind (arith, ints))

module _ (w : RouteModel) (is : IsRoute w) where
  module _ (corner : Corner) (s : Survives w corner) where
    image_is_place : IsPlace s.image
    image_is_place =
        let there = stands_at w.from corner s.place s.stands in
        let row : IsLine (pos 1048576) s.place.row = of_is_line (pos 1048576) s.place.row (ap (λ n. is_line (pos 1048576) n) (sym there.row) ∙ there.in_rows) in
        let column : IsLine (pos 16384) s.place.column = of_is_line (pos 16384) s.place.column (ap (λ n. is_line (pos 16384) n) (sym there.column) ∙ there.in_columns) in
        let P : Option Position → Type 0 = λ o. IfSome o IsPlace in
        subst P s.goes (image_inside w.along is.axis w.moves is.one_to_one s.place (row, column))

    -- where the corner goes, seen from the formula's new place
    stands_there : StandsAt w.to (corner_of w.to corner s.image) s.image
    stands_there =
        let row = corner_row-corner_to w.to corner.absolute_row corner.absolute_column s.image in
        let column = corner_column-corner_to w.to corner.absolute_row corner.absolute_column s.image in
        record {
          in_rows = ap (λ n. is_line (pos 1048576) n) row ∙ is_line_of (pos 1048576) s.image.row image_is_place.0;
          in_columns = ap (λ n. is_line (pos 16384) n) column ∙ is_line_of (pos 16384) s.image.column image_is_place.1;
          row = row;
          column = column;
        }

    goes_there : (exposed : Bool) → exposed ≡ true → moved_corner w exposed corner ≡ Some (corner_of w.to corner s.image)
    unfolding target
    goes_there exposed h =
        ap (λ b. moved_corner w b corner) h
        ∙ (ap (λ o. if_there (if_there o (place_image w.along w.moves.to)) (λ place. Some (corner_of w.to corner place))) s.stands
        ∙ ap (λ o. if_there o (λ place. Some (corner_of w.to corner place))) s.goes)

  becomes_range : (sheet : Option (List ℕ)) (first second c d : Corner) → moved_corner w (is_exposed w sheet first second) first ≡ Some c → moved_corner w (is_exposed w sheet first second) second ≡ Some d →
      range_carried w sheet first second ≡ node.Range sheet (lower_corner w.to c d) (higher_corner w.to c d)
  unfolding range_to
  becomes_range sheet first second c d e f = λ i. range_to w.to sheet (e i) (f i)

  holds_images : KeepsOrder w.moves.to → (sheet : Option (List ℕ)) (first second : Corner) → is_exposed w sheet first second ≡ true → Survives w first → Survives w second →
      IsLeastRange w.to sheet (range_carried w sheet first second) (IsImage w first second)
  holds_images keeps sheet first second exposed s t =
      let c : Corner = corner_of w.to first s.image in
      let d : Corner = corner_of w.to second t.image in
      let starts : StandsAt w.to c s.image = stands_there first s in
      let stops : StandsAt w.to d t.image = stands_there second t in
      record {
        first = lower_corner w.to c d;
        second = higher_corner w.to c d;
        is_range = becomes_range sheet first second c d (goes_there first s _ exposed) (goes_there second t _ exposed);
        denotes = λ place image.
            ordered_denotes w.to c d s.image t.image starts stops place
            (spanned_images w.moves.to keeps w.along is.axis.one_of s.place t.place image.place s.image t.image place s.goes t.goes image.goes
            (denotes_spanned w.from first second s.place t.place image.place s.stands t.stands image.denoted));
        least = λ start end all place denoted.
            spanned_held start end s.image t.image place
            (all s.image (record { place = s.place; denoted = spanned_denotes w.from first second s.place t.place s.place s.stands t.stands (record { in_rows = first_between s.place.row t.place.row; in_columns = first_between s.place.column t.place.column }); goes = s.goes }))
            (all t.image (record { place = t.place; denoted = spanned_denotes w.from first second s.place t.place t.place s.stands t.stands (record { in_rows = last_between s.place.row t.place.row; in_columns = last_between s.place.column t.place.column }); goes = t.goes }))
            (denotes_ordered w.to c d s.image t.image starts stops place denoted);
      }

pub goes_by_nodes : (w : RouteModel) → GoesByNodes w
unfolding tree_carried moved
goes_by_nodes w from to tree = refl

-- after an insertion or a deletion
pub edit_holds_images : (w : RouteModel) → IsRoute w → (kind : EditKind) → IsValid w.along.last kind → is_insertion_or_deletion kind ≡ true → w.moves.to ≡ image_at w.along.last kind → RangesHoldImages w
edit_holds_images w is kind valid h moves = λ from to _ sheet first second exposed s t.
    holds_images (at w from to) (at_is_route w is from to) (subst KeepsOrder (sym moves) (edit_keeps_order w.along.last kind valid h)) sheet first second exposed s t
