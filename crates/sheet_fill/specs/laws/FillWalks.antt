-- Plans of the places of a target, cross line by cross line and away from the source. Serves private contracts and proofs.
use Rattle.std.proofs.Common.{ℕ, zero, suc, Option}
use Rattle.std.specs.FinMap.{FinMap, empty}
use Rattle.base_values.specs.declared.Position.{Position}
use Rattle.base_values.specs.Places.{position_cmp}
use Rattle.base_axis.specs.Along.{Along}
use Rattle.base_axis.specs.Rectangles.{first_line}
use Rattle.planned_maps.specs.laws.PlanWalks.{put_one}
use Rattle.planned_maps.specs.Walks.{place_across}
use Rattle.sheet_fill.specs.declared.range.FillRange.{FillRange}
use Rattle.sheet_fill.specs.FillRanges.{lines, target_place}

module _ {X : Type 0} (make : Position → Option X) (a : Along) (f : FillRange) where
  -- a plan with what is made of the first so many targets of a cross line
  abbrev pub targets_put : FinMap position_cmp X → Position → ℕ → FinMap position_cmp X
  targets_put m at zero = m
  targets_put m at (suc n) = put_one make (targets_put m at n) (target_place a f at n)

  -- and of those of the first so many cross lines
  abbrev pub across_put : ℕ → FinMap position_cmp X
  across_put zero = empty
  across_put (suc n) = targets_put (across_put n) (place_across a f.target (first_line a f.target) n) (lines a f.target)
