use Rattle.std.proofs.Common.{◌≡◌, rules, tests, sym, ◌∙◌}
use Rattle.std.specs.List.{list_any}
use Rattle.std.proofs.lemmas.Iterator.{YieldsList-from_slice}
use Rattle.std.proofs.lemmas.Iterator.Search.{any_from_yields_List}
use Rattle.sheet_naming.proofs.Naming.{list_any-map}
use Rattle.base_tables.specs.Folding.{same_folded}
use Rattle.sheet_grid.specs.Sheet.{Sheet}
use Rattle.sheet_naming.proofs.names.is_taken.Goals as goal

pub returns : goal.returns
returns c =
    let direct : c.any.result ≡ list_any (λ (s : Sheet). same_folded c.args.text.now s.name) c.args.sheets.now =
    any_from_yields_List (λ (s : Sheet). same_folded c.args.text.now s.name) _ _ c.any.result c.any.ensures.ran (YieldsList-from_slice c.args.sheets.now cc)
    (λ x b q k. search (rules, tests)) in
    direct ∙ sym (list_any-map (same_folded c.args.text.now) (λ (s : Sheet). s.name) c.args.sheets.now)
