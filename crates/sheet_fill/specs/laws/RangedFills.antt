-- What a fill that is not refused goes on from: where its target lies, and what stands on its sheet.
use Rattle.std.proofs.Common.{◌≡◌, ℤ, pos, ◌+ℤ◌, ◌-ℤ◌, ◌<ℤ◌, Bool, true, false, cond, not, Result, Ok, Err, refl, ap, subst, ◌∙◌, arith}
use Rattle.std.proofs.lemmas.Int.{ints}
use Rattle.std.specs.Prelude.{int_lt, if◌then◌else◌}
use Rattle.std.specs.List.{list_any}
use Rattle.base_values.specs.declared.EditError.{EditError}
use Rattle.base_values.specs.declared.EditError.TheVariants.{InvalidArea, NothingToFill, PartialMerge, CutMerge, PartialArray}
use Rattle.base_values.specs.Answers.{and_then, map_ok}
use Rattle.base_values.specs.Places.{IsLine, is_line}
use Rattle.base_axis.specs.declared.MergedCell.{MergedCell}
use Rattle.base_axis.specs.Along.{Along, IsAxis, outside}
use Rattle.base_axis.specs.Rectangles.{IsInside, first_line, is_inside, last_line}
use Rattle.base_axis.specs.laws.RectangleLaws.{first_cross, first_cross_stays, first_inside, first_put, inside_found, last_cross, last_cross_stays, last_inside, last_put, put_lines_inside}
use Rattle.base_tables.specs.declared.Language.{Language}
use Rattle.base_tables.specs.declared.Locale.{Locale}
use Rattle.sheet_grid.specs.Arrays.{large_arrays_of}
use Rattle.sheet_grid.specs.Sheet.{Sheet}
use Rattle.sheet_fill.specs.declared.range.FillRange.{FillRange}
use Rattle.sheet_fill.specs.declared.plan.FillPlan.{FillPlan}
use Rattle.sheet_fill.specs.FillRanges.{ahead, behind, range_of, target_line}
use Rattle.sheet_fill.specs.Tiles.{cuts_tile, is_cut, is_partial, range_tested}
use Rattle.sheet_fill.specs.Plans.{plan_of, planned_in}

-- ---- where the target lies

-- the line beside a source on which its target begins
abbrev pub line_beside : Along → FillRange → ℤ
line_beside a f = if f.is_behind then last_line a f.source +ℤ pos 1 else first_line a f.source -ℤ pos 1

-- source and target are inside the sheet, side by side, on the same cross lines
pub record IsBeside (a : Along) (f : FillRange) : Type 0 where
  pub source : IsInside f.source
  pub target : IsInside f.target
  pub beside : target_line a f 0 ≡ line_beside a f
  pub first_cross : first_cross a f.target ≡ first_cross a f.source
  pub last_cross : last_cross a f.target ≡ last_cross a f.source

pub line_found : (last line : ℤ) → is_line last line ≡ true → IsLine last line
line_found last line h = (grind (arith, ints), grind (arith, ints))

below_found : (m n : ℤ) → int_lt m n ≡ true → m <ℤ n
below_found m n h = grind (arith, ints)

nothing_more : (x : ℤ) → (x +ℤ pos 0) ≡ x
nothing_more x = omega (arith, ints)

nothing_less : (x : ℤ) → (x -ℤ pos 0) ≡ x
nothing_less x = omega (arith, ints)

module _ (a : Along) (is : IsAxis a) (source : MergedCell) (inside : IsInside source) (to : ℤ) (on : IsLine a.last to) where
  behind_beside : last_line a source <ℤ to → IsBeside a (behind a source to)
  behind_beside more =
      let own = last_inside a is source inside in
      let own_low = own.0 in
      let to_high = on.1 in
      record {
        source = inside;
        target = put_lines_inside a is source (last_line a source +ℤ pos 1) to inside (omega (arith, ints), omega (arith, ints)) on (omega (arith, ints));
        beside = nothing_more _ ∙ first_put a is source (last_line a source +ℤ pos 1) to;
        first_cross = first_cross_stays a is source (last_line a source +ℤ pos 1) to;
        last_cross = last_cross_stays a is source (last_line a source +ℤ pos 1) to;
      }

  ahead_beside : to <ℤ first_line a source → IsBeside a (ahead a source to)
  ahead_beside less =
      let own = first_inside a is source inside in
      let own_high = own.1 in
      let to_low = on.0 in
      record {
        source = inside;
        target = put_lines_inside a is source to (first_line a source -ℤ pos 1) inside on (omega (arith, ints), omega (arith, ints)) (omega (arith, ints));
        beside = nothing_less _ ∙ last_put a is source to (first_line a source -ℤ pos 1);
        first_cross = first_cross_stays a is source to (first_line a source -ℤ pos 1);
        last_cross = last_cross_stays a is source to (first_line a source -ℤ pos 1);
      }

refused : {A : Type 0} (error : EditError) (value : A) → ◌≡◌ {A = Result A EditError} (Err error) (Ok value) → ⊥
refused error value e = cc

pub range_beside : (a : Along) → IsAxis a → (source : MergedCell) (to : ℤ) (f : FillRange) → range_of a source to ≡ Ok f → IsBeside a f
unfolding range_of
range_beside a is source to f ranged = go (is_inside source) refl (is_line a.last to) refl (int_lt (last_line a source) to) refl (int_lt to (first_line a source)) refl ranged
  where
    go : (b : Bool) → is_inside source ≡ b → (c : Bool) → is_line a.last to ≡ c → (d : Bool) → int_lt (last_line a source) to ≡ d
        → (e : Bool) → int_lt to (first_line a source) ≡ e
        → cond (not b) (Err InvalidArea) (cond (not c) (Err (outside a)) (cond d (Ok (behind a source to)) (cond e (Ok (ahead a source to)) (Err NothingToFill)))) ≡ Ok f
        → IsBeside a f
    go false one c two d three e four is_f = absurd (refused InvalidArea f is_f)
    go true one false two d three e four is_f = absurd (refused (outside a) f is_f)
    go true one true two true three e four is_f =
        let same : behind a source to ≡ f = cc in
        subst (IsBeside a) same (behind_beside a is source (inside_found source one) to (line_found a.last to two) (below_found _ _ three))
    go true one true two false three true four is_f =
        let same : ahead a source to ≡ f = cc in
        subst (IsBeside a) same (ahead_beside a is source (inside_found source one) to (line_found a.last to two) (below_found _ _ four))
    go true one true two false three false four is_f = absurd (refused NothingToFill f is_f)

-- ---- what stands on the sheet

-- no merge and no array of more than one cell is in the way
pub record IsFree (a : Along) (f : FillRange) (sheet : Sheet) : Type 0 where
  pub partial : list_any (is_partial f) sheet.merges ≡ false
  pub cut : list_any (cuts_tile a f) sheet.merges ≡ false
  pub arrays : list_any (is_cut f) (large_arrays_of sheet) ≡ false

-- a fill that is not refused goes on from what was named, and the sheet is free
pub record IsTested (a : Along) (f g : FillRange) (sheet : Sheet) : Type 0 where
  pub same : f ≡ g
  pub free : IsFree a f sheet

pub range_free : (a : Along) (f g : FillRange) (sheet : Sheet) → range_tested a f sheet ≡ Ok g → IsTested a f g sheet
unfolding range_tested
range_free a f g sheet tested =
    go (list_any (is_partial f) sheet.merges) refl (list_any (cuts_tile a f) sheet.merges) refl (list_any (is_cut f) (large_arrays_of sheet)) refl tested
  where
    go : (b : Bool) → list_any (is_partial f) sheet.merges ≡ b → (c : Bool) → list_any (cuts_tile a f) sheet.merges ≡ c
        → (d : Bool) → list_any (is_cut f) (large_arrays_of sheet) ≡ d
        → cond b (Err PartialMerge) (cond c (Err CutMerge) (cond d (Err PartialArray) (Ok f))) ≡ Ok g → IsTested a f g sheet
    go true one c two d three e = absurd (refused PartialMerge g e)
    go false one true two d three e = absurd (refused CutMerge g e)
    go false one false two true three e = absurd (refused PartialArray g e)
    go false one false two false three e = record { same = cc; free = record { partial = one; cut = two; arrays = three } }

-- ---- a plan

-- what a plan was made of
pub record IsPlanned (a : Along) (locale : Locale) (language : Language) (sheet : Sheet) (plan : FillPlan) : Type 0 where
  pub range : FillRange
  pub beside : IsBeside a range
  pub free : IsFree a range sheet
  pub is : plan_of a locale language sheet range ≡ plan

pub plan_found : (a : Along) → IsAxis a → (source : MergedCell) (to : ℤ) (locale : Locale) (language : Language) (sheet : Sheet) (plan : FillPlan)
    → planned_in a source to locale language sheet ≡ Ok plan → IsPlanned a locale language sheet plan
plan_found a is source to locale language sheet plan planned = go (range_of a source to) refl planned
  where
    free : (f : FillRange) → range_of a source to ≡ Ok f → (r : Result FillRange EditError) → range_tested a f sheet ≡ r
        → map_ok (plan_of a locale language sheet) r ≡ Ok plan → IsPlanned a locale language sheet plan
    free f ranged (Err error) tested e = absurd (refused error plan e)
    free f ranged (Ok g) tested e =
        let it = range_free a f g sheet tested in
        let output : plan_of a locale language sheet g ≡ plan = cc in
        record { range = f; beside = range_beside a is source to f ranged; free = it.free; is = ap (plan_of a locale language sheet) it.same ∙ output }

    go : (r : Result FillRange EditError) → range_of a source to ≡ r
        → map_ok (plan_of a locale language sheet) (and_then r (λ f. range_tested a f sheet)) ≡ Ok plan → IsPlanned a locale language sheet plan
    go (Err error) ranged e = absurd (refused error plan e)
    go (Ok f) ranged e = free f ranged (range_tested a f sheet) refl e
