-- The places of a rectangle that are gone over are all that get something.
use Rattle.std.proofs.Common.{◌≡◌, ℕ, zero, suc, ℤ, pos, ◌+ℤ◌, Bool, true, false, ◌&&◌, Option, Some, None, refl, ap, sym, subst, ◌∙◌}
use Rattle.std.specs.Prelude.{is_some, unsigned_abs}
use Rattle.std.specs.FinMap.{FinMap, empty, get}
use Rattle.base_values.specs.declared.Position.{Position}
use Rattle.base_values.specs.Places.{position_cmp}
use Rattle.base_values.specs.laws.Places.{position_total, exact_positions}
use Rattle.base_axis.specs.declared.MergedCell.{MergedCell}
use Rattle.base_axis.specs.Along.{Along, IsAxis, rows}
use Rattle.base_axis.specs.Rectangles.{first_line, holds, is_between, last_line}
use Rattle.base_axis.specs.laws.RectangleLaws.{holds_along}
use Rattle.planned_maps.specs.Planned.{planned_places, places_of}
use Rattle.planned_maps.specs.laws.PlanWalks.{line_done, line_put, places_put, put_if, rows_put}
use Rattle.planned_maps.specs.Walks.{count_across, place_across}
use Rattle.planned_maps.specs.laws.PlannedLaws.{empty_fits, same_plan}
use Rattle.planned_maps.specs.laws.WalkLaws.{IsFit, across_row, all_places_go, all_places_made, column_index, place_is_in, row_index, rows_go, rows_made}
use Rattle.range_styles.specs.PlaceWalks.{MakesThere}

not_both : (a b : Bool) → a ≡ false → (a && b) ≡ false
not_both true b h = absurd (let never : true ≡ false = h in cc)
not_both false b h = refl

-- a rectangle holds no place of a line outside it
pub none_across : (r : MergedCell) (a : Along) → IsAxis a → (line : ℤ) → is_between (first_line a r) (last_line a r) line ≡ false → (index : ℕ)
    → holds r (place_across a r line index) ≡ false
none_across r a is line outside index =
    let place = place_across a r line index in
    let on : a.line place ≡ line = is.line_put _ line in
    holds_along a is r place
    ∙ not_both (is_between (first_line a r) (last_line a r) (a.line place)) _ (ap (is_between (first_line a r) (last_line a r)) on ∙ outside)

module _ {X : Type 0} (make : Position → Option X) (r : MergedCell) where
  empty_fit : IsFit make empty
  empty_fit = empty_fits position_cmp position_total exact_positions make

  -- a place of a rectangle whose rows are all gone over has what is made of it
  pub row_made : (q : Position) → holds r q ≡ true → get (rows_put make r empty (unsigned_abs r.height)) q ≡ make q
  row_made q inside =
      let i = row_index r q inside in
      let j = column_index r q inside in
      let same : place_across rows r (r.row +ℤ pos i.index) j.index ≡ q =
      ap (λ line. place_across rows r line j.index) (sym i.is) ∙ across_row r q inside in
      subst (λ p. get (rows_put make r empty (unsigned_abs r.height)) p ≡ make p) same
      (rows_made make r empty empty_fit (unsigned_abs r.height) i.index i.few j.index j.few)

  module _ (inside : (q : Position) (x : X) → make q ≡ Some x → holds r q ≡ true) where
    -- the plan of all rows of a rectangle
    pub rows_planned : rows_put make r empty (unsigned_abs r.height) ≡ planned_places make r
    rows_planned = same_plan position_cmp position_total exact_positions make (places_of r) (λ q x is. place_is_in r q (inside q x is))
        (rows_put make r empty (unsigned_abs r.height)) ((rows_go make r empty (unsigned_abs r.height)).fits empty_fit)
        (λ q x is. row_made q (inside q x is))

    -- of the places that have an entry, where no other one gets something
    pub entries_planned : {V : Type 0} (there : FinMap position_cmp V) → MakesThere make there → places_put make empty there ≡ planned_places make r
    entries_planned {V} there only = same_plan position_cmp position_total exact_positions make (places_of r)
        (λ q x is. place_is_in r q (inside q x is))
        (places_put make empty there) ((all_places_go make there empty).fits empty_fit)
        (λ q x is. go q (get there q) refl (only q x is))
      where
        go : (q : Position) (o : Option V) → get there q ≡ o → is_some o ≡ true → get (places_put make empty there) q ≡ make q
        go q None none it = absurd (let never : false ≡ true = it in cc)
        go q (Some v) found it = all_places_made make there empty empty_fit q v found

    -- the places of a line outside the rectangle get nothing
    module _ (a : Along) (is : IsAxis a) (line : ℤ) (outside : is_between (first_line a r) (last_line a r) line ≡ false) where
      nothing : (index : ℕ) (o : Option X) → make (place_across a r line index) ≡ o → o ≡ None
      nothing index None e = refl
      nothing index (Some x) e =
          absurd (let never : false ≡ true = sym (none_across r a is line outside index) ∙ inside (place_across a r line index) x e in cc)

      line_stays : (m : FinMap position_cmp X) (count : ℕ) → line_put make a r line m count ≡ m
      line_stays m zero = refl
      line_stays m (suc more) =
          (λ i. put_if (line_put make a r line m more) (place_across a r line more) (nothing more (make (place_across a r line more)) refl i))
          ∙ line_stays m more

      pub nothing_put : (m : FinMap position_cmp X) → line_done make a r line m ≡ m
      nothing_put m = line_stays m (count_across a r)
