-- The conditional rules of a well-formed workbook may stand where they do, and their formulas are at most 64 deep.
use Rattle.std.proofs.Common.{◌≡◌, ℕ, Bool, true, ◌&&◌, List, [], ◌∷◌, Option, Some, None, refl}
use Rattle.std.specs.List.{AllByRecursion, list_all}
use Rattle.base_values.specs.declared.Position.{Position}
use Rattle.cell_content.specs.declared.Content.TheVariants.{Formula}
use Rattle.cell_content.specs.laws.FittingLaws.{shallow_where_fits}
use Rattle.formula_tree.specs.declared.Node.{Node}
use Rattle.formula_tree.specs.Depth.{is_within}
use Rattle.format_rules.specs.declared.ConditionalFormatting.{ConditionalFormatting}
use Rattle.format_rules.specs.Fitting.{has_fitting_trees, has_parts, place_of, tree_fits}
use Rattle.rule_edits.specs.RuleChanges.{may_stand}
use Rattle.rule_edits.specs.laws.EditLaws.{each_weaker}
use Rattle.sheet_grid.specs.Sheet.{Sheet}
use Rattle.sheet_grid.specs.Book.{Book}
use Rattle.sheet_rules.specs.WellFormed.{IsWellFormed, have_rule_parts, have_rule_trees}
use Rattle.sheet_rules.specs.laws.EntryLaws.{both}
use Rattle.sheet_rules.specs.laws.WellFormedLaws.{well_formed_parts}
use Rattle.sheet_ids.specs.Ids.{sheet_of}
use Rattle.sheet_history.specs.laws.Depth.{is_shallow_rule}
use Rattle.sheet_history.specs.laws.RuleLaws.{sheet_rules}

-- each conditional rule of a sheet may stand
abbrev pub has_standing_rules : Sheet → Bool
has_standing_rules sheet = list_all may_stand sheet.formattings

-- what passes two tests passes both
each_both : (rules : List ConditionalFormatting) → list_all has_parts rules ≡ true → list_all has_fitting_trees rules ≡ true → list_all may_stand rules ≡ true
each_both [] parts trees = refl
each_both (rule ∷ rules) parts trees =
    let p = both (has_parts rule) (list_all has_parts rules) parts in
    let t = both (has_fitting_trees rule) (list_all has_fitting_trees rules) trees in
    λ i. (p.0 i && t.0 i) && each_both rules p.1 t.1 i

sheets_stand : (sheets : List Sheet) → list_all have_rule_parts sheets ≡ true → list_all have_rule_trees sheets ≡ true → list_all has_standing_rules sheets ≡ true
sheets_stand [] parts trees = refl
sheets_stand (sheet ∷ sheets) parts trees =
    let p = both (have_rule_parts sheet) (list_all have_rule_parts sheets) parts in
    let t = both (have_rule_trees sheet) (list_all have_rule_trees sheets) trees in
    λ i. each_both sheet.formattings p.0 t.0 i && sheets_stand sheets p.1 t.1 i

-- so it is in a well-formed workbook
pub rules_stand : (book : Book) → IsWellFormed book → list_all has_standing_rules book.worksheets ≡ true
rules_stand book rules = let parts = well_formed_parts book rules in sheets_stand book.worksheets parts.rule_parts parts.rule_trees

-- and on the sheet of an id
pub sheet_rules_stand : (book : Book) → IsWellFormed book → (id : ℕ) (sheet : Sheet) → sheet_of book id ≡ Some sheet → list_all may_stand sheet.formattings ≡ true
sheet_rules_stand book rules id sheet found = let keeps = sheet_rules book rules id sheet found in each_both sheet.formattings keeps.rule_parts keeps.rule_trees

-- each rule passes a test that all do
pub passing_rules : (test : ConditionalFormatting → Bool) (rules : List ConditionalFormatting) → list_all test rules ≡ true → AllByRecursion (λ rule. test rule ≡ true) rules
passing_rules test [] all = tt
passing_rules test (rule ∷ rules) all = let parts = both (test rule) (list_all test rules) all in (parts.0, passing_rules test rules parts.1)

-- rules that may stand have parts
pub have_parts : (rules : List ConditionalFormatting) → list_all may_stand rules ≡ true → list_all has_parts rules ≡ true
have_parts [] all = refl
have_parts (rule ∷ rules) all =
    let own = both (may_stand rule) (list_all may_stand rules) all in
    λ i. (both (has_parts rule) (has_fitting_trees rule) own.0).0 i && have_parts rules own.1 i

tree_shallow : (place : Option Position) (tree : Node) → tree_fits place tree ≡ true → is_within 64 tree ≡ true
tree_shallow None tree fits = (both (is_within 64 tree) _ fits).0
tree_shallow (Some place) tree fits = shallow_where_fits place (Formula tree) fits

-- a rule whose formulas fit is at most 64 deep
pub rule_shallow : (rule : ConditionalFormatting) → has_fitting_trees rule ≡ true → is_shallow_rule rule ≡ true
rule_shallow rule fits = each_weaker (tree_fits (place_of rule.parts)) (is_within 64) (tree_shallow (place_of rule.parts)) rule.rule fits

-- so are rules that may stand
pub all_shallow : (rules : List ConditionalFormatting) → list_all may_stand rules ≡ true → list_all is_shallow_rule rules ≡ true
all_shallow [] all = refl
all_shallow (rule ∷ rules) all =
    let own = both (may_stand rule) (list_all may_stand rules) all in
    λ i. rule_shallow rule (both (has_parts rule) (has_fitting_trees rule) own.0).1 i && all_shallow rules own.1 i
