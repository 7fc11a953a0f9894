-- `==` of what is kept is equality of its values.
use Rattle.std.proofs.Common.{◌≡◌, ap}
use Rattle.std.specs.Bool.{Decides}
use Rattle.std.specs.Cmp.{signed_Decides, unsigned_Decides}
use Rattle.std.specs.Cmp.Lexicographic.{pointwise_decides}
use Rattle.std.proofs.lemmas.Bool.Decides.{Decides-like, Decides-and}
use Rattle.base_values.specs.laws.PositionEquals.{position_equals}
use Rattle.base_values.specs.laws.KeyMap.{same_entries_decides}
use Rattle.base_values.specs.laws.CodedEq.{same_value_decides}
use Rattle.base_values.specs.laws.Decided.{option_equals}
use Rattle.base_axis.specs.laws.MergedEquals.{merged_equals}
use Rattle.base_maps.specs.laws.SheetPlaceEquals.{sheet_place_equals}
use Rattle.format_rules.specs.laws.RuleEquals.{formatting_equals}
use Rattle.formula_tree.specs.contracts.node.Node.{the_row}
use Rattle.sheet_grid.specs.laws.CellEquals.{cell_equals}
use Rattle.sheet_grid.specs.laws.LineEquals.{link_equals, line_attr_equals}
use Rattle.sheet_lines.specs.declared.kept.KeptLines.{KeptLines}
use Rattle.sheet_lines.specs.contracts.kept.KeptLinesPartialEq.TheImpl as kept

pub kept_equals : (a b : KeptLines) → Decides (kept.ghosts.eq a b) (a ≡ b)
kept_equals a b =
    Decides-like _
    (λ p i. record { cells = p.0 i; links = p.1.0 i; lines = p.1.1.0 i; formulas = p.1.1.1.0 i; merges = p.1.1.1.1.0 i; formattings = p.1.1.1.1.1 i })
    (λ e. (ap (λ x. x.cells) e, (ap (λ x. x.links) e, (ap (λ x. x.lines) e, (ap (λ x. x.formulas) e, (ap (λ x. x.merges) e, ap (λ x. x.formattings) e))))))
    (Decides-and _ _ (same_entries_decides position_equals cell_equals _ _)
    (Decides-and _ _ (same_entries_decides position_equals link_equals _ _)
    (Decides-and _ _ (same_entries_decides signed_Decides line_attr_equals _ _)
    (Decides-and _ _ (same_entries_decides sheet_place_equals (same_value_decides the_row.coded) _ _)
    (Decides-and _ _ (option_equals (pointwise_decides merged_equals) _ _)
    (same_entries_decides unsigned_Decides formatting_equals _ _))))))
