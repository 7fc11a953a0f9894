-- The law of followers for merges.
use Rattle.std.proofs.Common.{◌≡◌, ℤ, true, false, List, Option, Some, None, subst, sym}
use Rattle.std.specs.Prelude.{IfSome, if◌then◌else◌}
use Rattle.std.specs.Cmp.Lexicographic.{pointwise_decides}
use Rattle.std.specs.List.{filter_map}
use Rattle.base_axis.specs.Along.{Along, IsAxis}
use Rattle.base_axis.specs.declared.MergedCell.{MergedCell}
use Rattle.base_axis.specs.contracts.merge_list.MergeListPartialEq.TheImpl as equality
use Rattle.base_axis.specs.Rectangles.{IsInside, first_line, last_line, across, with_lines}
use Rattle.base_axis.specs.laws.MergedEquals.{merged_equals}
use Rattle.base_axis.specs.laws.RectangleLaws.{first_inside, last_inside, lines_in_order, put_lines_inside}
use Rattle.base_maps.specs.Carried.{if_there}
use Rattle.base_maps.specs.laws.Lists.{all_found}
use Rattle.line_edits.specs.Merged.{AreLines}
use Rattle.line_routes.specs.Merges.{merge_carried, merges_carried, merges_part, MergesInside}
use Rattle.line_routes.specs.RouteModel.{RouteModel, IsRoute, back}
use Rattle.line_routes.specs.laws.TrialLaws.{trial_comes_back, trial_part}

put_inside : (a : Along) → IsAxis a → (merge : MergedCell) → IsInside merge → (o : Option (ℤ × ℤ)) →
    IfSome {T = ℤ × ℤ} o (λ lines. AreLines a.last lines.0 lines.1) →
    IfSome {T = MergedCell} (if_there o (λ lines. Some (with_lines a merge lines.0 lines.1))) IsInside
put_inside a is merge h None i = tt
put_inside a is merge h (Some lines) i = put_lines_inside a is merge lines.0 lines.1 h i.0 i.1 i.2

-- a merge that is left is inside
merge_stays : (w : RouteModel) → IsRoute w → (merge : MergedCell) → IsInside merge → IfSome (merge_carried w merge) IsInside
merge_stays w is merge h =
    let a = w.along in
    put_inside a is.axis merge h _
    (is.one_to_one.merged_inside (first_line a merge) (last_line a merge) (across a merge)
    (first_inside a is.axis merge h, last_inside a is.axis merge h, lines_in_order a is.axis merge h))

pub left_stay : (w : RouteModel) → IsRoute w → (merges : List MergedCell) → MergesInside merges → MergesInside (filter_map (merge_carried w) merges)
left_stay w is merges h = all_found IsInside IsInside (merge_carried w) (merge_stays w is) merges h

pub merges_stay : (w : RouteModel) → IsRoute w → (merges : List MergedCell) → MergesInside merges → MergesInside (merges_carried w merges)
unfolding merges_carried
merges_stay w is merges h = elim w.is_edited as (λ b. MergesInside (if b then filter_map (merge_carried w) merges else merges))
    [ true ↦ left_stay w is merges h | false ↦ h ]

pub merges_come_back : (w : RouteModel) (merges : List MergedCell) → merges_part w merges ≡ None → merges_carried (back w) (merges_carried w merges) ≡ merges
merges_come_back w merges h = trial_comes_back equality.ghosts.eq merges_carried (pointwise_decides merged_equals) w merges h

pub merges_restore : (w : RouteModel) (merges part : List MergedCell) → merges_part w merges ≡ Some part → part ≡ merges
merges_restore w merges part h = trial_part equality.ghosts.eq merges_carried w merges part h

pub merges_part_fits : (w : RouteModel) → IsRoute w → (merges : List MergedCell) → MergesInside merges → (part : List MergedCell) → merges_part w merges ≡ Some part →
    MergesInside part
merges_part_fits w is merges h part kept = subst MergesInside (sym (merges_restore w merges part kept)) h
