-- What writing asks of a rule is that its numbers are canonical and its formulas at most 64 deep, and what bytes carry has both.
use Rattle.std.proofs.Common.{◌≡◌, Bool, true, List, [], ◌∷◌, Option, Some, None, refl}
use Rattle.std.specs.Prelude.{IfSome, IsTrue}
use Rattle.std.specs.List.{AllByRecursion, list_all}
use Rattle.std.specs.Option.{option_map_or}
use Rattle.std.proofs.lemmas.List.Elements.{All-from_recursion, recursion_from_All}
use Rattle.formula_tree.specs.declared.Node.{Node}
use Rattle.formula_tree.specs.Depth.{is_within}
use Rattle.formula_tree.specs.Numbers as tree
use Rattle.formula_wire.specs.Carried.{FitsNode, IsKnownNode}
use Rattle.formula_wire.specs.laws.CanonicalLaws.{canonical_from_carried}
use Rattle.format_rules.specs.declared.Cfvo.{Cfvo}
use Rattle.format_rules.specs.declared.Cfvo.TheVariants as cfvo
use Rattle.format_rules.specs.declared.ColorThreshold.{ColorThreshold}
use Rattle.format_rules.specs.declared.IconThreshold.{IconThreshold}
use Rattle.format_rules.specs.declared.CfRule.{CfRule}
use Rattle.format_rules.specs.declared.CfRule.TheVariants.{Formula, CellIs, ColorScale, DataBar, IconSet, IconRating}
use Rattle.format_rules.specs.declared.ConditionalFormatting.{ConditionalFormatting}
use Rattle.format_rules.specs.Canonical.{cfvo_is_canonical, has_canonical_numbers, IsCanonicalFormatting, AreCanonicalRules}
use Rattle.format_rules.specs.RuleTrees.{cfvo_passes, each_cfvo, own_trees_pass, each_tree}
use Rattle.format_rules.specs.laws.RuleTreeLaws.{left, right, both}
use Rattle.grid_wire.specs.ThresholdBytes.{FitsCfvo, IsKnownCfvo, FitsColorThreshold, IsKnownColorThreshold, FitsIconThreshold, IsKnownIconThreshold}
use Rattle.grid_wire.specs.RuleBytes.{FitsRule, IsKnownRule}
use Rattle.grid_wire.specs.FormattingBytes.{AreKnownFormattings, FitsFormatting, FitsFormattings, IsKnownFormatting}
use Rattle.grid_wire.specs.NameBytes.{AreKnownNames, FitsName, FitsNames, IsKnownName}
use Rattle.grid_wire.specs.CellBytes.{IsKnownCell}
use Rattle.sheet_grid.specs.declared.Cell.{Cell}
use Rattle.sheet_grid.specs.CanonicalCell.{IsCanonicalCell}
use Rattle.sheet_grid.specs.laws.FittingCells.{is_shallow_entry}
use Rattle.defined_names.specs.declared.DefinedName.{DefinedName}
use Rattle.defined_names.specs.Names.{AreCanonicalNames, IsCanonicalName}

-- ---- known

cfvo_known : (c : Cfvo) → cfvo_is_canonical c ≡ true → cfvo_passes tree.has_canonical_numbers c ≡ true → cfvo_passes (is_within 64) c ≡ true → IsKnownCfvo c
cfvo_known cfvo.Min n t d = tt
cfvo_known cfvo.Max n t d = tt
cfvo_known (cfvo.Number number) n t d = n
cfvo_known (cfvo.Percent number) n t d = n
cfvo_known (cfvo.Percentile number) n t d = n
cfvo_known (cfvo.Formula formula) n t d = record { canonical = t; depth = d }

bound_known : (o : Option Cfvo) → option_map_or cfvo_is_canonical o true ≡ true → option_map_or (cfvo_passes tree.has_canonical_numbers) o true ≡ true →
    option_map_or (cfvo_passes (is_within 64)) o true ≡ true → IfSome o IsKnownCfvo
bound_known None n t d = tt
bound_known (Some c) n t d = cfvo_known c n t d

colors_known : (xs : List ColorThreshold) → list_all (λ (x : ColorThreshold). cfvo_is_canonical x.cfvo) xs ≡ true →
    list_all (λ (x : ColorThreshold). cfvo_passes tree.has_canonical_numbers x.cfvo) xs ≡ true → list_all
    (λ (x : ColorThreshold). cfvo_passes (is_within 64) x.cfvo) xs ≡ true →
    AllByRecursion IsKnownColorThreshold xs
colors_known [] n t d = tt
colors_known (x ∷ xs) n t d = (
  cfvo_known x.cfvo (left (cfvo_is_canonical x.cfvo) _ n) (left (cfvo_passes tree.has_canonical_numbers x.cfvo) _ t)
      (left (cfvo_passes (is_within 64) x.cfvo) _ d),
  colors_known xs (right (cfvo_is_canonical x.cfvo) _ n) (right (cfvo_passes tree.has_canonical_numbers x.cfvo) _ t)
      (right (cfvo_passes (is_within 64) x.cfvo) _ d),
)

icons_known : (xs : List IconThreshold) → list_all (λ (x : IconThreshold). cfvo_is_canonical x.cfvo) xs ≡ true →
    list_all (λ (x : IconThreshold). cfvo_passes tree.has_canonical_numbers x.cfvo) xs ≡ true → list_all
    (λ (x : IconThreshold). cfvo_passes (is_within 64) x.cfvo) xs ≡ true →
    AllByRecursion IsKnownIconThreshold xs
icons_known [] n t d = tt
icons_known (x ∷ xs) n t d = (
  cfvo_known x.cfvo (left (cfvo_is_canonical x.cfvo) _ n) (left (cfvo_passes tree.has_canonical_numbers x.cfvo) _ t)
      (left (cfvo_passes (is_within 64) x.cfvo) _ d),
  icons_known xs (right (cfvo_is_canonical x.cfvo) _ n) (right (cfvo_passes tree.has_canonical_numbers x.cfvo) _ t)
      (right (cfvo_passes (is_within 64) x.cfvo) _ d),
)

second_known : (o : Option Node) → option_map_or tree.has_canonical_numbers o true ≡ true → option_map_or (is_within 64) o true ≡ true → IfSome o IsKnownNode
second_known None t d = tt
second_known (Some formula) t d = record { canonical = t; depth = d }

known_at : (rule : CfRule) → each_cfvo cfvo_is_canonical rule ≡ true → own_trees_pass tree.has_canonical_numbers rule ≡ true → each_cfvo
    (cfvo_passes tree.has_canonical_numbers) rule ≡ true →
    own_trees_pass (is_within 64) rule ≡ true → each_cfvo (cfvo_passes (is_within 64)) rule ≡ true → IsKnownRule rule
known_at (Formula formula style stop) n t ts d ds = record { canonical = t; depth = d }
known_at (CellIs operator formula formula2 style stop) n t ts d ds = (
  record { canonical = left (tree.has_canonical_numbers formula) _ t; depth = left (is_within 64 formula) _ d },
  second_known formula2 (right (tree.has_canonical_numbers formula) _ t) (right (is_within 64 formula) _ d),
)
known_at (ColorScale thresholds) n t ts d ds = colors_known thresholds n ts ds
known_at (DataBar min max positive negative gradient show) n t ts d ds = (
  bound_known min (left (option_map_or cfvo_is_canonical min true) _ n) (left (option_map_or (cfvo_passes tree.has_canonical_numbers) min true) _ ts)
      (left (option_map_or (cfvo_passes (is_within 64)) min true) _ ds),
  bound_known max (right (option_map_or cfvo_is_canonical min true) _ n) (right (option_map_or (cfvo_passes tree.has_canonical_numbers) min true) _ ts)
      (right (option_map_or (cfvo_passes (is_within 64)) min true) _ ds),
)
known_at (IconSet icons thresholds show) n t ts d ds = icons_known thresholds n ts ds
known_at (IconRating icon color thresholds show) n t ts d ds = icons_known thresholds n ts ds

-- a rule with canonical numbers whose formulas are at most 64 deep can be written
pub rule_known : (rule : CfRule) → has_canonical_numbers rule ≡ true → each_tree (is_within 64) rule ≡ true → IsKnownRule rule
rule_known rule numbers depth =
    let trees = right (each_cfvo cfvo_is_canonical rule) (each_tree tree.has_canonical_numbers rule) numbers in
    known_at rule (left (each_cfvo cfvo_is_canonical rule) (each_tree tree.has_canonical_numbers rule) numbers)
    (left (own_trees_pass tree.has_canonical_numbers rule) _ trees) (right (own_trees_pass tree.has_canonical_numbers rule) _ trees)
    (left (own_trees_pass (is_within 64) rule) _ depth) (right (own_trees_pass (is_within 64) rule) _ depth)

-- ---- what fits is canonical

cfvo_canonical : (c : Cfvo) → FitsCfvo c → cfvo_is_canonical c ≡ true
cfvo_canonical cfvo.Min fits = refl
cfvo_canonical cfvo.Max fits = refl
cfvo_canonical (cfvo.Number number) fits = fits
cfvo_canonical (cfvo.Percent number) fits = fits
cfvo_canonical (cfvo.Percentile number) fits = fits
cfvo_canonical (cfvo.Formula formula) fits = refl

cfvo_tree : (c : Cfvo) → FitsCfvo c → cfvo_passes tree.has_canonical_numbers c ≡ true
cfvo_tree cfvo.Min fits = refl
cfvo_tree cfvo.Max fits = refl
cfvo_tree (cfvo.Number number) fits = refl
cfvo_tree (cfvo.Percent number) fits = refl
cfvo_tree (cfvo.Percentile number) fits = refl
cfvo_tree (cfvo.Formula formula) fits = canonical_from_carried formula fits.carried

module _ (test : Cfvo → Bool) (h : (c : Cfvo) → FitsCfvo c → test c ≡ true) where
  bound_test : (o : Option Cfvo) → IfSome o FitsCfvo → option_map_or test o true ≡ true
  bound_test None fits = refl
  bound_test (Some c) fits = h c fits

  colors_test : (xs : List ColorThreshold) → AllByRecursion FitsColorThreshold xs → list_all (λ (x : ColorThreshold). test x.cfvo) xs ≡ true
  colors_test [] all = refl
  colors_test (x ∷ xs) all = both (test x.cfvo) _ (h x.cfvo all.0.cfvo) (colors_test xs all.1)

  icons_test : (xs : List IconThreshold) → AllByRecursion FitsIconThreshold xs → list_all (λ (x : IconThreshold). test x.cfvo) xs ≡ true
  icons_test [] all = refl
  icons_test (x ∷ xs) all = both (test x.cfvo) _ (h x.cfvo all.0) (icons_test xs all.1)

  each_test : (rule : CfRule) → FitsRule rule → each_cfvo test rule ≡ true
  each_test (Formula formula style stop) fits = refl
  each_test (CellIs operator formula formula2 style stop) fits = refl
  each_test (ColorScale thresholds) fits = colors_test thresholds fits.each
  each_test (DataBar min max positive negative gradient show) fits = both (option_map_or test min true) _ (bound_test min fits.min) (bound_test max fits.max)
  each_test (IconSet icons thresholds show) fits = icons_test thresholds fits.thresholds.each
  each_test (IconRating icon color thresholds show) fits = icons_test thresholds fits.thresholds.each

second_canonical : (o : Option Node) → IfSome o FitsNode → option_map_or tree.has_canonical_numbers o true ≡ true
second_canonical None fits = refl
second_canonical (Some formula) fits = canonical_from_carried formula fits.carried

own_canonical : (rule : CfRule) → FitsRule rule → own_trees_pass tree.has_canonical_numbers rule ≡ true
own_canonical (Formula formula style stop) fits = canonical_from_carried formula fits.formula.carried
own_canonical (CellIs operator formula formula2 style stop) fits =
    both (tree.has_canonical_numbers formula) _ (canonical_from_carried formula fits.formula.carried) (second_canonical formula2 fits.formula2)
own_canonical (ColorScale thresholds) fits = refl
own_canonical (DataBar min max positive negative gradient show) fits = refl
own_canonical (IconSet icons thresholds show) fits = refl
own_canonical (IconRating icon color thresholds show) fits = refl

-- the numbers of a rule that bytes carry are canonical
pub canonical_from_fits : (rule : CfRule) → FitsRule rule → has_canonical_numbers rule ≡ true
canonical_from_fits rule fits =
    both (each_cfvo cfvo_is_canonical rule) _ (each_test cfvo_is_canonical cfvo_canonical rule fits)
    (both (own_trees_pass tree.has_canonical_numbers rule) _ (own_canonical rule fits) (each_test (cfvo_passes tree.has_canonical_numbers) cfvo_tree rule fits))

each_canonical : (rules : List ConditionalFormatting) → AllByRecursion FitsFormatting rules → AllByRecursion IsCanonicalFormatting rules
each_canonical [] all = tt
each_canonical (x ∷ xs) all = (canonical_from_fits x.rule all.0.rule, each_canonical xs all.1)

-- so are those of each rule of a list
pub canonical_rules_from_fit : (rules : List ConditionalFormatting) → FitsFormattings rules → AreCanonicalRules rules
canonical_rules_from_fit rules fits = All-from_recursion IsCanonicalFormatting rules (each_canonical rules fits.each)

-- ---- what writing asks of values whose numbers are canonical

pub known_entry : (entry : Option Cell) → IfSome entry IsCanonicalCell → IsTrue (is_shallow_entry entry) → IfSome entry IsKnownCell
known_entry None kept shallow = tt
known_entry (Some cell) kept shallow = record { canonical = kept; shallow = shallow }

each_known : (rules : List ConditionalFormatting) → AllByRecursion IsCanonicalFormatting rules → AreKnownFormattings rules → AllByRecursion IsKnownFormatting rules
each_known [] numbers deep = tt
each_known (x ∷ xs) numbers deep =
    (rule_known x.rule numbers.0 (left (each_tree (is_within 64) x.rule) _ deep), each_known xs numbers.1 (right (each_tree (is_within 64) x.rule) _ deep))

pub rules_known : (rules : List ConditionalFormatting) → AreCanonicalRules rules → AreKnownFormattings rules → AllByRecursion IsKnownFormatting rules
rules_known rules numbers deep = each_known rules (recursion_from_All IsCanonicalFormatting rules numbers) deep

each_name_known : (names : List DefinedName) → AllByRecursion IsCanonicalName names → AreKnownNames names → AllByRecursion IsKnownName names
each_name_known [] numbers deep = tt
each_name_known (x ∷ xs) numbers deep =
    (record { canonical = numbers.0; depth = left (is_within 64 x.formula) _ deep }, each_name_known xs numbers.1 (right (is_within 64 x.formula) _ deep))

pub names_known : (names : List DefinedName) → AreCanonicalNames names → AreKnownNames names → AllByRecursion IsKnownName names
names_known names numbers deep = each_name_known names (recursion_from_All IsCanonicalName names numbers) deep

each_name_canonical : (names : List DefinedName) → AllByRecursion FitsName names → AllByRecursion IsCanonicalName names
each_name_canonical [] all = tt
each_name_canonical (x ∷ xs) all = (canonical_from_carried x.formula all.0.formula.carried, each_name_canonical xs all.1)

pub canonical_names_from_fit : (names : List DefinedName) → FitsNames names → AreCanonicalNames names
canonical_names_from_fit names fits = All-from_recursion IsCanonicalName names (each_name_canonical names fits.each)
