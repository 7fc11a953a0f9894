-- The least rectangle of what cells take, cell by cell.
use Rattle.std.proofs.Common.{◌≡◌, ℤ, pos, ◌≤ℤ◌, ◌<ℤ◌, Bool, true, false, Option, Some, None, refl, List, [], ◌∷◌, ◌++◌, map, cond, sym, subst, arith}
use Rattle.std.proofs.lemmas.Int.{ints}
use Rattle.std.specs.Prelude.{int_le, int_lt, if◌then◌else◌}
use Rattle.std.specs.Cmp.{int_ranks}
use Rattle.std.specs.Ordering.{MatchOrdering, int_cmp, is_lt, ord_min, ord_max}
use Rattle.std.specs.declared.cmp.Ordering.{Ordering}
use Rattle.std.specs.declared.cmp.Ordering.TheVariants.{Less, Equal, Greater}
use Rattle.std.proofs.lemmas.List.{map-append}
use Rattle.std.proofs.lemmas.List.Elements.{All-nil, All-cons, All-push, All-weaker, All-map, All-contains, Contains-push, Contains-append_left}
use Rattle.base_values.specs.declared.Position.{Position}
use Rattle.std.specs.List.{All, Contains}
use Rattle.base_values.specs.Places.{IsLine, IsRow, IsColumn, IsPlace}
use Rattle.base_axis.specs.declared.MergedCell.{MergedCell}
use Rattle.base_axis.specs.Rectangles.{last_of}
use Rattle.sheet_grid.specs.declared.cell.Cell.{Cell}
use Rattle.sheet_grid.specs.Arrays.{array_at}
use Rattle.sheet_grid.specs.Dimension.{IsLeast, IsGreatest, IsLeastRectangle, IsRectangle, reached, extent_at, extent_of}
use Rattle.sheet_grid.specs.declared.dimension.WorksheetDimension.{WorksheetDimension}

-- the least number, after one more
pub least_more : (ns : List ℤ) (n m : ℤ) → IsLeast ns n → IsLeast (ns ++ m ∷ []) (ord_min int_cmp n m)
least_more ns n m h = go (int_cmp m n) (int_ranks m n)
  where
    keeps : n ≤ℤ m → IsLeast (ns ++ m ∷ []) n
    keeps le = record { below = All-push (λ k. n ≤ℤ k) ns m h.below le; among = Contains-append_left ns (m ∷ []) n h.among }

    lower : m <ℤ n → (k : ℤ) → n ≤ℤ k → m ≤ℤ k
    lower lt k le = omega (arith, ints)

    own : m ≤ℤ m
    own = omega (arith, ints)

    go : (o : Ordering) → MatchOrdering o (m <ℤ n) (m ≡ n) (n <ℤ m) → IsLeast (ns ++ m ∷ []) (cond (is_lt o) m n)
    go Less lt = record { below = All-push (λ k. m ≤ℤ k) ns m (All-weaker (λ k. n ≤ℤ k) (λ k. m ≤ℤ k) (lower lt) ns h.below) own; among = Contains-push ns m }
    go Equal e = keeps (omega (arith, ints))
    go Greater gt = keeps (omega (arith, ints))

-- the greatest number, after one more
pub greatest_more : (ns : List ℤ) (n m : ℤ) → IsGreatest ns n → IsGreatest (ns ++ m ∷ []) (ord_max int_cmp n m)
greatest_more ns n m h = go (int_cmp m n) (int_ranks m n)
  where
    lower : n ≤ℤ m → (k : ℤ) → k ≤ℤ n → k ≤ℤ m
    lower le k under = omega (arith, ints)

    own : m ≤ℤ m
    own = omega (arith, ints)

    rises : n ≤ℤ m → IsGreatest (ns ++ m ∷ []) m
    rises le = record { above = All-push (λ k. k ≤ℤ m) ns m (All-weaker (λ k. k ≤ℤ n) (λ k. k ≤ℤ m) (lower le) ns h.above) own; among = Contains-push ns m }

    keeps : m <ℤ n → IsGreatest (ns ++ m ∷ []) n
    keeps lt = record { above = All-push (λ k. k ≤ℤ n) ns m h.above (omega (arith, ints)); among = Contains-append_left ns (m ∷ []) n h.among }

    go : (o : Ordering) → MatchOrdering o (m <ℤ n) (m ≡ n) (n <ℤ m) → IsGreatest (ns ++ m ∷ []) (cond (is_lt o) n m)
    go Less lt = keeps lt
    go Equal e = rises (omega (arith, ints))
    go Greater gt = rises (omega (arith, ints))

module _ {X : Type 0} (f : X → ℤ) (xs : List X) (x : X) (n : ℤ) where
  -- so it is of one side of what cells take
  pub least_with : IsLeast (map f xs) n → IsLeast (map f (xs ++ x ∷ [])) (ord_min int_cmp n (f x))
  least_with h = subst (λ ns. IsLeast ns (ord_min int_cmp n (f x))) (sym (map-append f xs (x ∷ []))) (least_more (map f xs) n (f x) h)

  pub greatest_with : IsGreatest (map f xs) n → IsGreatest (map f (xs ++ x ∷ [])) (ord_max int_cmp n (f x))
  greatest_with h = subst (λ ns. IsGreatest ns (ord_max int_cmp n (f x))) (sym (map-append f xs (x ∷ []))) (greatest_more (map f xs) n (f x) h)

-- a number alone
alone_least : (n : ℤ) → IsLeast (n ∷ []) n
alone_least n = let own : n ≤ℤ n = omega (arith, ints) in record { below = All-cons (λ k. n ≤ℤ k) n [] own (All-nil (λ k. n ≤ℤ k)); among = Contains-push [] n }

alone_greatest : (n : ℤ) → IsGreatest (n ∷ []) n
alone_greatest n = let own : n ≤ℤ n = omega (arith, ints) in record { above = All-cons (λ k. k ≤ℤ n) n [] own (All-nil (λ k. k ≤ℤ n)); among = Contains-push [] n }

-- what one cell takes alone
pub alone : (extent : WorksheetDimension) → IsLeastRectangle (extent ∷ []) extent
alone extent = record {
  min_row = alone_least extent.min_row;
  max_row = alone_greatest extent.max_row;
  min_column = alone_least extent.min_column;
  max_column = alone_greatest extent.max_column;
}

-- what some cells take and one more
pub rectangle_with : (extents : List WorksheetDimension) (rectangle other : WorksheetDimension) → IsLeastRectangle extents rectangle
    → IsLeastRectangle (extents ++ other ∷ []) (record {
      min_row = ord_min int_cmp rectangle.min_row other.min_row;
      max_row = ord_max int_cmp rectangle.max_row other.max_row;
      min_column = ord_min int_cmp rectangle.min_column other.min_column;
      max_column = ord_max int_cmp rectangle.max_column other.max_column;
    })
rectangle_with extents rectangle other h = record {
  min_row = least_with (λ (e : WorksheetDimension). e.min_row) extents other rectangle.min_row h.min_row;
  max_row = greatest_with (λ (e : WorksheetDimension). e.max_row) extents other rectangle.max_row h.max_row;
  min_column = least_with (λ (e : WorksheetDimension). e.min_column) extents other rectangle.min_column h.min_column;
  max_column = greatest_with (λ (e : WorksheetDimension). e.max_column) extents other rectangle.max_column h.max_column;
}

-- what is inside the sheet has a least rectangle inside
pub rectangle_inside : (extents : List WorksheetDimension) (rectangle : WorksheetDimension) → All IsRectangle extents → IsLeastRectangle extents rectangle → IsRectangle rectangle
rectangle_inside extents rectangle inside least = record {
  first = (among IsRow (λ e. e.min_row) (λ e h. h.first.0) rectangle.min_row least.min_row.among, among IsColumn (λ e. e.min_column) (λ e h. h.first.1) rectangle.min_column least.min_column.among);
  last = (among IsRow (λ e. e.max_row) (λ e h. h.last.0) rectangle.max_row least.max_row.among, among IsColumn (λ e. e.max_column) (λ e h. h.last.1) rectangle.max_column least.max_column.among);
}
  where
    among : (P : ℤ → Type 0) (side : WorksheetDimension → ℤ) → ((e : WorksheetDimension) → IsRectangle e → P (side e)) → (line : ℤ) → Contains (map side extents) line → P line
    among P side has line there = All-contains P (map side extents) line (All-map P side extents (All-weaker IsRectangle (λ e. P (side e)) has extents inside)) there

-- so many lines from a line inside reach one inside
reached_inside : (last first count : ℤ) → IsLine last first → IsLine last (reached last first count)
reached_inside last first count inside = go (int_le count (pos 1)) refl (int_lt (last_of first count) last) refl
  where
    one : pos 1 ≤ℤ first
    one = inside.0

    within : first ≤ℤ last
    within = inside.1

    go : (b : Bool) → int_le count (pos 1) ≡ b → (d : Bool) → int_lt (last_of first count) last ≡ d → IsLine last (if b then first else if d then last_of first count else last)
    go true few d near = inside
    go false many true near = (grind (arith, ints), grind (arith, ints))
    go false many false far = (omega (arith, ints), omega (arith, ints))

-- what a cell of the sheet takes is inside
pub extent_inside : (entry : Position × Cell) → IsPlace entry.0 → IsRectangle (extent_of entry)
extent_inside entry inside = go (array_at entry.0 entry.1.content)
  where
    go : (o : Option MergedCell) → IsRectangle (extent_at entry.0 o)
    go None = record { first = inside; last = inside }
    go (Some r) = record {
      first = inside;
      last = (reached_inside (pos 1048576) entry.0.row r.height inside.0, reached_inside (pos 16384) entry.0.column r.width inside.1);
    }

-- so it is of all cells
pub extents_inside : (entries : List (Position × Cell)) → All (λ (entry : Position × Cell). IsPlace entry.0) entries → All IsRectangle (map extent_of entries)
extents_inside entries inside = All-map IsRectangle extent_of entries (All-weaker (λ (entry : Position × Cell). IsPlace entry.0) (λ entry. IsRectangle (extent_of entry)) extent_inside entries inside)
