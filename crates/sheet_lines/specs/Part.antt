-- A part of a sheet that goes along with its lines: what becomes of it, what is kept of it, and that this restores it.
use Rattle.std.specs.Prelude.{◌≡◌, true, List, Option, None, if◌then◌else◌}
use Rattle.std.specs.Ordering.{nat_cmp}
use Rattle.std.specs.FinMap.{FinMap}
use Rattle.base_axis.specs.declared.MergedCell.{MergedCell}
use Rattle.base_maps.specs.Carried.{settled}
use Rattle.format_rules.specs.declared.ConditionalFormatting.{ConditionalFormatting}
use Rattle.line_routes.specs.Merges.{merges_carried}
use Rattle.line_routes.specs.RouteModel.{RouteModel, IsRoute, back}
use Rattle.line_map.specs.Rules.{rules_restored}
use Rattle.sheet_grid.specs.declared.SheetEntries.{SheetEntries}
use Rattle.sheet_grid.specs.Sheet.{Sheet}
use Rattle.sheet_lines.specs.declared.kept.KeptLines.{KeptLines}

-- what a sheet has of it, and what is kept of that; where it stands in a sheet, among what a sheet holds, and in what is kept; what it is
-- along the way of its sheet, what is kept of it on the edited sheet, and what it is when that is taken back; and the law of followers
pub record Part : Type 1 where
  pub Value : Type 0
  pub Kept : Type 0
  pub value_of : Sheet → Value
  pub with_value : SheetEntries → Value → SheetEntries
  pub kept_in : KeptLines → Kept
  pub with_kept : KeptLines → Kept → KeptLines
  pub carried : RouteModel → Value → Value
  pub kept : RouteModel → Value → Kept
  pub restored : RouteModel → Kept → Value → Value
  pub restores : (w : RouteModel) → IsRoute w → (v : Value) (k : Kept) → (w.is_edited ≡ true → k ≡ kept w v) → restored w k (carried w v) ≡ v

module _ (part : Part) where
  -- entries with this part of a sheet, carried along
  abbrev pub part_carried : RouteModel → Sheet → SheetEntries → SheetEntries
  part_carried w sheet entries = part.with_value entries (part.carried w (part.value_of sheet))

  -- what is kept, with what is kept of this part of a sheet
  abbrev pub part_kept : RouteModel → Sheet → KeptLines → KeptLines
  part_kept w sheet kept = part.with_kept kept (part.kept w (part.value_of sheet))

  -- entries with this part of a sheet, taken back
  abbrev pub part_restored : RouteModel → KeptLines → Sheet → SheetEntries → SheetEntries
  part_restored w kept sheet entries = part.with_value entries (part.restored w (part.kept_in kept) (part.value_of sheet))

-- two parts
abbrev pub joined : Part → Part → Part
joined p q = record {
  Value = p.Value × q.Value;
  Kept = p.Kept × q.Kept;
  value_of = λ sheet. (p.value_of sheet, q.value_of sheet);
  with_value = λ entries v. q.with_value (p.with_value entries v.0) v.1;
  kept_in = λ kept. (p.kept_in kept, q.kept_in kept);
  with_kept = λ kept k. q.with_kept (p.with_kept kept k.0) k.1;
  carried = λ w v. (p.carried w v.0, q.carried w v.1);
  kept = λ w v. (p.kept w v.0, q.kept w v.1);
  restored = λ w k v. (p.restored w k.0 v.0, q.restored w k.1 v.1);
  restores = λ w is v k same i. (p.restores w is v.0 k.0 (λ h j. (same h j).0) i, q.restores w is v.1 k.1 (λ h j. (same h j).1) i);
}

-- the merges that were kept of the edited sheet, else those that go back
abbrev pub merges_back : RouteModel → Option (List MergedCell) → List MergedCell → List MergedCell
merges_back w kept merges = settled (merges_carried (back w)) (λ _ list. list) (if w.is_edited then kept else None) merges

-- the conditional rules of the edited sheet: each that was kept, and each other one carried back. On another sheet they stay
abbrev pub formattings_back : RouteModel → FinMap nat_cmp ConditionalFormatting → List ConditionalFormatting → List ConditionalFormatting
formattings_back w kept rules = if w.is_edited then rules_restored w kept rules else rules
