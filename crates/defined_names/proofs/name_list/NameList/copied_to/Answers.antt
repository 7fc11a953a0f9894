use Rattle.std.proofs.Common.{◌≡◌, ◌++◌, sym, subst, ◌∙◌}
use Rattle.std.specs.List.{filter_map}
use Rattle.defined_names.specs.Names.{AreCanonicalNames, copied_name, names_copied}
use Rattle.defined_names.specs.laws.NameLaws.{all_copied_kept}
use Rattle.defined_names.proofs.name_list.NameList.copied_to.Goals as goal

pub new-requires : goal.new-requires
new-requires c =
    let all : c.in_ok-all.all ≡ names_copied c.args.source c.args.sheet_id c.args.self.now =
    c.in_ok-all.ensures.names ∙ (λ j. (c.in_ok-names.ensures.copy ∙ c.as_items.ensures.names) j ++ filter_map (copied_name c.args.source c.args.sheet_id) (c.as_slice.ensures.names j)) in
    subst AreCanonicalNames (sym all) (all_copied_kept c.args.source c.args.sheet_id c.args.self.now (subst AreCanonicalNames c.as_slice.ensures.names c.as_slice.ensures.canonical))
