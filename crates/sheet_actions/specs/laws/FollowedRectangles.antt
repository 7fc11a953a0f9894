-- A sheet whose arrays and merges follow keeps the rules of arrays, of merges, and of the places that they cover.
use Rattle.std.proofs.Common.{◌≡◌, Bool, true, false, not, ◌&&◌, Option, Some, refl, ap, sym, ◌∙◌}
use Rattle.std.specs.List.{list_all, list_any, filter_map}
use Rattle.std.specs.Option.{option_and_then}
use Rattle.std.specs.Cmp.{signed_Decides}
use Rattle.std.specs.Ordering.{int_eq}
use Rattle.std.specs.FinMap.{get}
use Rattle.base_values.specs.declared.Position.{Position}
use Rattle.base_values.specs.Places.{same_position}
use Rattle.base_values.specs.laws.Places.{position_equiv}
use Rattle.base_axis.specs.declared.MergedCell.{MergedCell}
use Rattle.base_axis.specs.Rectangles.{holds, meets, anchor_place}
use Rattle.base_axis.specs.laws.RectangleLaws.{inside_passes}
use Rattle.sheet_grid.specs.declared.Cell.{Cell}
use Rattle.sheet_grid.specs.Arrays.{array_at, large_array_at}
use Rattle.sheet_grid.specs.Merges.{is_empty}
use Rattle.sheet_grid.specs.Sheet.{Sheet}
use Rattle.sheet_rules.specs.Distinct.{are_distinct}
use Rattle.sheet_rules.specs.Occupied.{is_merge, covers}
use Rattle.sheet_rules.specs.laws.EntryLaws.{both}
use Rattle.sheet_rules.specs.laws.FollowedLists.{followed_all, followed_none, followed_distinct}
use Rattle.sheet_rules.specs.laws.OccupiedLaws.{KeepsArrays, KeepsMerges, KeepsHidden}
use Rattle.sheet_actions.specs.laws.MergedSources.{some_is}
use Rattle.sheet_actions.specs.laws.FollowingRectangles.{Follows, apart_stay}

one_place : (p q : Position) → same_position p q ≡ true → p ≡ q
one_place p q h =
    let parts = both (int_eq p.row q.row) (int_eq p.column q.column) h in
    let rows = (signed_Decides p.row q.row).0 parts.0 in
    let columns = (signed_Decides p.column q.column).0 parts.1 in
    λ i. record { row = rows i; column = columns i }

own_place : (p q : Position) → p ≡ q → same_position p q ≡ true
own_place p q h = ap (same_position p) (sym h) ∙ position_equiv.refl p

module _ (goes : Position → Option Position) (came : Position → Position) (sheet after : Sheet) where
  -- the cell that came to a place: it is empty where it was, and its array follows
  pub record Came (q : Position) (cell : Cell) : Type 0 where
    pub place : Position
    pub before : Cell
    pub there : goes place ≡ Some q
    pub held : get sheet.cells place ≡ Some before
    pub empty : is_empty cell.content ≡ is_empty before.content

  -- a rectangle that a cell shows which came to a place follows the one that it showed before
  pub record Shown (shape : Position → Cell → Option MergedCell) (q : Position) (s : MergedCell) : Type 0 where
    pub place : Position
    pub before : MergedCell
    pub there : goes place ≡ Some q
    pub held : option_and_then (shape place) (get sheet.cells place) ≡ Some before
    pub follows : Follows goes came before s

  abbrev pub shown_at : (Position → Cell → Option MergedCell) → Position → Option MergedCell
  shown_at shape q = option_and_then (shape q) (get after.cells q)

  abbrev array_shape : Position → Cell → Option MergedCell
  array_shape place cell = array_at place cell.content

  abbrev large_shape : Position → Cell → Option MergedCell
  large_shape place cell = large_array_at place cell.content

  -- what a sheet has that follows: its cells came from those before, and so did its arrays; each merge before that passes a test
  -- follows, or goes
  pub record HasFollowed (good : MergedCell → Bool) (g : MergedCell → Option MergedCell) : Type 0 where
    pub cells : (q : Position) (cell : Cell) → get after.cells q ≡ Some cell → Came q cell
    pub arrays : (q : Position) (s : MergedCell) → shown_at array_shape q ≡ Some s → Shown array_shape q s
    pub large : (q : Position) (s : MergedCell) → shown_at large_shape q ≡ Some s → Shown large_shape q s
    pub all_good : list_all good sheet.merges ≡ true
    pub listed : after.merges ≡ filter_map g sheet.merges
    pub merges : (r s : MergedCell) → good r ≡ true → g r ≡ Some s → Follows goes came r s
    pub many : (r s : MergedCell) → good r ≡ true → g r ≡ Some s → is_merge s ≡ true

module _ (goes : Position → Option Position) (came : Position → Position) (comes : (p q : Position) → goes p ≡ Some q → came q ≡ p) where
  -- a rectangle that follows one covers no place of a cell that the one before did not cover
  uncovered_stays : (r s : MergedCell) → Follows goes came r s → (p q : Position) → goes p ≡ Some q → covers r p ≡ false → covers s q ≡ false
  uncovered_stays r s f p q there none = at_holds (holds s q) refl (same_position (anchor_place s) q) refl
    where
      held : holds s q ≡ true → holds r p ≡ true
      held h = ap (holds r) (sym (comes p q there)) ∙ f.from q h

      elsewhere : same_position (anchor_place s) q ≡ false → same_position (anchor_place r) p ≡ false
      elsewhere h = at_anchor (same_position (anchor_place r) p) refl
        where
          at_anchor : (b : Bool) → same_position (anchor_place r) p ≡ b → b ≡ false
          at_anchor false is = refl
          at_anchor true is = absurd (
              let same = one_place (anchor_place r) p is in
              let here = own_place (anchor_place s) q (sym (f.anchor q (ap goes same ∙ there))) in
              let never : true ≡ false = sym here ∙ h in cc)

      at_holds : (a : Bool) → holds s q ≡ a → (b : Bool) → same_position (anchor_place s) q ≡ b → covers s q ≡ false
      at_holds false is b at = ap (λ x. x && not (same_position (anchor_place s) q)) is
      at_holds true is true at = λ i. is i && not (at i)
      at_holds true is false at = absurd (let never : true ≡ false = sym (λ i. held is i && not (elsewhere at i)) ∙ none in cc)

  module _ (sheet after : Sheet) (good : MergedCell → Bool) (g : MergedCell → Option MergedCell) (f : HasFollowed goes came sheet after good g) where
    -- each array is inside, and large ones do not meet
    pub arrays_follow : KeepsArrays sheet → KeepsArrays after
    arrays_follow h = record {
      inside = λ q s at. inside_passes s (f.arrays q s at).follows.inside;
      apart = λ p q r s differ at_p at_q.
          let x = f.large p r at_p in
          let y = f.large q s at_q in
          apart_stay came x.before y.before r s x.follows.from y.follows.from x.follows.inside y.follows.inside
          (h.apart x.place y.place x.before y.before (λ same. differ (some_is p q (sym x.there ∙ ap goes same ∙ y.there))) x.held y.held);
    }

    -- what follows rectangles that do not meet does not meet
    apart_follows : (r s t u : MergedCell) → Follows goes came r t → Follows goes came s u → meets r s ≡ false → meets t u ≡ false
    apart_follows r s t u x y = apart_stay came r s t u x.from y.from x.inside y.inside

    -- merges are merges, do not meet, and meet no large array
    pub merges_follow : KeepsMerges sheet → KeepsMerges after
    merges_follow h = record {
      merges = ap (list_all is_merge) f.listed ∙ followed_all good g is_merge sheet.merges f.all_good f.many;
      apart = ap (are_distinct meets) f.listed
          ∙ followed_distinct good g meets meets sheet.merges f.all_good h.apart
          (λ r s t u good_r good_s apart to_t to_u. apart_follows r s t u (f.merges r t good_r to_t) (f.merges s u good_s to_u) apart);
      arrays = λ q s at.
          let x = f.large q s at in
          ap (list_any (meets s)) f.listed
          ∙ followed_none good g (meets s) (meets x.before) sheet.merges f.all_good (h.arrays x.place x.before x.held)
          (λ r t good_r apart to_t. apart_follows x.before r s t x.follows (f.merges r t good_r to_t) apart);
    }

    filled_before : (q : Position) (cell : Cell) (c : Came goes came sheet after q cell) → is_empty cell.content ≡ false → is_empty c.before.content ≡ false
    filled_before q cell c h = sym c.empty ∙ h

    -- no content stands where a merge or a large array covers
    pub hidden_follow : KeepsHidden sheet → KeepsHidden after
    hidden_follow h = record {
      merges = λ q cell held filled.
          let c = f.cells q cell held in
          ap (list_any (λ merge. covers merge q)) f.listed
          ∙ followed_none good g (λ merge. covers merge q) (λ merge. covers merge c.place) sheet.merges f.all_good
          (h.merges c.place c.before c.held (filled_before q cell c filled))
          (λ r s good_r apart to_s. uncovered_stays r s (f.merges r s good_r to_s) c.place q c.there apart);
      arrays = λ p q array cell at held filled.
          let x = f.large p array at in
          let c = f.cells q cell held in
          uncovered_stays x.before array x.follows c.place q c.there
          (h.arrays x.place c.place x.before c.before x.held c.held (filled_before q cell c filled));
    }
