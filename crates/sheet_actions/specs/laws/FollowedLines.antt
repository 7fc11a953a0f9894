-- What is asked of what lines have holds of what is carried along, and of what inserted lines take.
use Rattle.std.proofs.Common.{◌≡◌, ℤ, pos, ◌-ℤ◌, Bool, true, false, Option, Some, None, refl, ap, ◌∙◌}
use Rattle.std.specs.Prelude.{◌&&◌, if◌then◌else◌}
use Rattle.std.specs.List.{list_all}
use Rattle.std.specs.Ordering.{int_cmp}
use Rattle.std.specs.Cmp.{int_cmp_total}
use Rattle.std.specs.FinMap.{FinMap, entries, get, int_cmp-IsAntisymmetric}
use Rattle.base_values.specs.Places.{is_line}
use Rattle.base_axis.specs.Along.{Along}
use Rattle.base_maps.specs.Carried.{if_there}
use Rattle.line_edits.specs.declared.Block.{Block}
use Rattle.line_edits.specs.Moves.{is_brought}
use Rattle.line_map.specs.Attributes.{heir, line_brought, line_goes_along, lines_carried}
use Rattle.line_routes.specs.RouteModel.{RouteModel, IsRoute}
use Rattle.sheet_lines.specs.laws.LinesAfter.{get-lines_carried}
use Rattle.sheet_rules.specs.laws.EntryLaws.{passes_at_from_all, all_from_passes_at}

module _ {X : Type 0} (P : X → Bool) where
  abbrev passes : Option X → Bool
  passes None = true
  passes (Some x) = P x

  -- what lines have passes
  abbrev Passes : FinMap int_cmp X → Type 0
  Passes m = (n : ℤ) → passes (get m n) ≡ true

  either_passes : (t : Bool) (o v : Option X) → passes o ≡ true → passes v ≡ true → passes (if t then o else v) ≡ true
  either_passes true o v h i = h
  either_passes false o v h i = i

  heir_passes : (same : X → X → Bool) (before after : Option X) → passes before ≡ true → passes (heir same before after) ≡ true
  heir_passes same None after h = refl
  heir_passes same (Some x) None h = refl
  heir_passes same (Some x) (Some y) h = either_passes (same x y) (Some x) None h refl

  module _ (w : RouteModel) (is : IsRoute w) (b : Along) (same : X → X → Bool) (m : FinMap int_cmp X) where
    brought_passes : (o : Option Block) → Passes m → passes (if_there o (line_brought b same m)) ≡ true
    brought_passes None all = refl
    brought_passes (Some block) all = let before : Option X = get m (block.first -ℤ pos 1) in
        either_passes (b.of false true) (heir same before (get m block.first)) None (heir_passes same before _ (all (block.first -ℤ pos 1))) refl

    came_passes : (s : Option ℤ) → Passes m → passes (if_there s (get m)) ≡ true
    came_passes None all = refl
    came_passes (Some line) all = all line

    carried_passes : Passes m → Passes (lines_carried b same w m)
    carried_passes all n = ap passes (get-lines_carried w is b same m n) ∙ either_passes (line_goes_along b w) _ _
        (either_passes (is_brought w.moves.inserted n && is_line b.last n) _ _ (brought_passes w.moves.inserted all) (came_passes (w.moves.from n) all)) (all n)

  -- a test of all that lines have
  pub values_follow : (w : RouteModel) → IsRoute w → (b : Along) (same : X → X → Bool) (m : FinMap int_cmp X) → list_all (λ e. P e.1) (entries m) ≡ true →
      list_all (λ e. P e.1) (entries (lines_carried b same w m)) ≡ true
  values_follow w is b same m h = all_from_passes_at int_cmp int_cmp_total int_cmp-IsAntisymmetric (λ _. passes) (λ _. refl) (lines_carried b same w m)
      (carried_passes w is b same m (passes_at_from_all int_cmp int_cmp_total int_cmp-IsAntisymmetric (λ _. passes) (λ _. refl) m h))
