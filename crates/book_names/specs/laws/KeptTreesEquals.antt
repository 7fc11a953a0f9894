-- `==` of what is kept of a renaming is equality of its values.
use Rattle.std.proofs.Common.{◌≡◌, ap}
use Rattle.std.specs.Bool.{Decides}
use Rattle.std.specs.Cmp.{unsigned_Decides}
use Rattle.std.proofs.lemmas.Bool.Decides.{Decides-like, Decides-and}
use Rattle.base_values.specs.laws.CodedEq.{same_value_decides}
use Rattle.base_values.specs.laws.KeyMap.{same_entries_decides}
use Rattle.base_maps.specs.laws.SheetPlaceEquals.{sheet_place_equals}
use Rattle.format_rules.specs.laws.RuleEquals.{formatting_equals}
use Rattle.formula_tree.specs.contracts.node.Node.{the_row}
use Rattle.base_maps.specs.laws.SheetIndexEquals.{sheet_index_equals}
use Rattle.book_names.specs.declared.kept_trees.KeptTrees.{KeptTrees}
use Rattle.book_names.specs.contracts.kept_trees.KeptTreesPartialEq.TheImpl as kept

pub kept_trees_equals : (a b : KeptTrees) → Decides (kept.ghosts.eq a b) (a ≡ b)
kept_trees_equals a b =
    Decides-like _ (λ p i. record { formulas = p.0 i; names = p.1.0 i; formattings = p.1.1 i })
    (λ e. (ap (λ x. x.formulas) e, (ap (λ x. x.names) e, ap (λ x. x.formattings) e)))
    (Decides-and _ _ (same_entries_decides sheet_place_equals (same_value_decides the_row.coded) _ _)
    (Decides-and _ _ (same_entries_decides unsigned_Decides (same_value_decides the_row.coded) _ _)
    (same_entries_decides sheet_index_equals formatting_equals _ _)))
