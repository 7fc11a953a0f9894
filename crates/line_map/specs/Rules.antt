-- The rules of a sheet, carried along.
use Rattle.std.specs.Prelude.{◌≡◌, ◌≢◌, ◌↔◌, ℕ, Bool, nat_lt, List, [], ◌∷◌, map, Option, Some, slice_get, if◌then◌else◌}
use Rattle.std.specs.List.{All, list_all}
use Rattle.std.specs.Ordering.{nat_cmp}
use Rattle.std.specs.FinMap.{FinMap, entries, get}
use Rattle.base_axis.specs.declared.MergedCell.{MergedCell}
use Rattle.base_axis.specs.Rectangles.{anchor_place}
use Rattle.format_rules.specs.declared.ConditionalFormatting.{ConditionalFormatting}
use Rattle.format_rules.specs.contracts.formatting.ConditionalFormattingPartialEq.TheImpl as equality
use Rattle.format_rules.specs.Fitting.{RuleInside}
use Rattle.format_rules.specs.RuleTrees.{trees_changed}
use Rattle.line_routes.specs.MergedCells.{merged_cell_carried}
use Rattle.line_routes.specs.Trees.{tree_carried}
use Rattle.line_routes.specs.Trial.{part_by_trial}
use Rattle.line_routes.specs.RouteModel.{RouteModel, at, back}
use Rattle.base_maps.specs.ByIndex.{kept_by_index, restored_by_index}

-- how the map meets what stands at the first place of a part: it goes with the part, and stays where the part stays
abbrev pub at_part : RouteModel → MergedCell → RouteModel
at_part w part = at w (anchor_place part) (anchor_place (merged_cell_carried w part))

-- how it meets the formulas of a rule: they stand at the first place of the rule's first part
abbrev pub route_of_trees : RouteModel → List MergedCell → RouteModel
route_of_trees w [] = w
route_of_trees w (first ∷ others) = at_part w first

-- a rule each of whose parts is carried along by its corners, and each of whose formulas with the first part
abbrev pub formatting_moved : RouteModel → ConditionalFormatting → ConditionalFormatting
formatting_moved w formatting = record formatting {
  parts = map (merged_cell_carried w) formatting.parts;
  rule = trees_changed (tree_carried (route_of_trees w formatting.parts)) formatting.rule;
}

-- a rule of the edited sheet is. On another sheet it stays
unfoldable pub formatting_carried : RouteModel → ConditionalFormatting → ConditionalFormatting
formatting_carried w formatting = if w.is_edited then formatting_moved w formatting else formatting

-- the whole rule, where the way back does not give it
abbrev pub formatting_part : RouteModel → ConditionalFormatting → Option ConditionalFormatting
formatting_part w formatting = part_by_trial equality.ghosts.eq formatting_carried w formatting

-- each rule of a list, in their order
abbrev pub rules_carried : RouteModel → List ConditionalFormatting → List ConditionalFormatting
rules_carried w rules = map (formatting_carried w) rules

-- the rules that the way back does not give, under their places in the list
abbrev pub rules_kept : RouteModel → List ConditionalFormatting → FinMap nat_cmp ConditionalFormatting
rules_kept w rules = kept_by_index (formatting_part w) rules

-- a rule that the way back does not give
abbrev pub DoesNotReturn : RouteModel → ConditionalFormatting → Type 0
DoesNotReturn w rule = formatting_carried (back w) (formatting_carried w rule) ≢ rule

-- under an index exactly the rule is kept that stands there in the list and that the way back does not give
abbrev pub KeepsRule : RouteModel → List ConditionalFormatting → FinMap nat_cmp ConditionalFormatting → ℕ → ConditionalFormatting → Type 0
KeepsRule w rules kept index rule = (get kept index ≡ Some rule) ↔ ((slice_get rules index ≡ Some rule) × DoesNotReturn w rule)

-- each rule that was kept, and each other one carried back
abbrev pub rules_restored : RouteModel → FinMap nat_cmp ConditionalFormatting → List ConditionalFormatting → List ConditionalFormatting
rules_restored w kept rules = restored_by_index (formatting_carried (back w)) (λ _ own. own) (get kept) rules

-- each rule is inside the sheet
abbrev pub RulesInside : List ConditionalFormatting → Type 0
RulesInside rules = All RuleInside rules

-- each kept rule has the place of one of so many rules
unfoldable pub are_there : FinMap nat_cmp ConditionalFormatting → ℕ → Bool
are_there kept count = list_all (λ (entry : ℕ × ConditionalFormatting). nat_lt entry.0 count) (entries kept)
