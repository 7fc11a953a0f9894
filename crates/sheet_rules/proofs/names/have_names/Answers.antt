use Rattle.std.proofs.Common.{◌≡◌, rules, tests, sym, ◌∙◌}
use Rattle.std.specs.List.{list_all}
use Rattle.std.proofs.lemmas.Iterator.{YieldsList-from_slice}
use Rattle.std.proofs.lemmas.Iterator.Search.{all_from_yields_List}
use Rattle.std.proofs.lemmas.List.Folds.{list_all-map}
use Rattle.sheet_grid.specs.Sheet.{Sheet}
use Rattle.sheet_rules.specs.SheetNames.{is_sheet_name}
use Rattle.sheet_rules.proofs.names.have_names.Goals as goal

pub returns : goal.returns
returns c =
    let direct : c.all.result ≡ list_all (λ (s : Sheet). is_sheet_name s.name) c.args.sheets.now =
    all_from_yields_List (λ (s : Sheet). is_sheet_name s.name) _ _ c.all.result c.all.ensures.ran (YieldsList-from_slice c.args.sheets.now cc) (λ x b q k. search (rules, tests)) in
    direct ∙ sym (list_all-map is_sheet_name (λ (s : Sheet). s.name) c.args.sheets.now)
