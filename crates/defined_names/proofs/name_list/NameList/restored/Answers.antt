use Rattle.std.proofs.Common.{◌≡◌, ap, sym, subst, ◌∙◌}
use Rattle.defined_names.specs.Names.{AreCanonicalNames, names_restored}
use Rattle.defined_names.specs.laws.NameLaws.{restored_kept}
use Rattle.defined_names.proofs.name_list.NameList.restored.Goals as goal

pub new-requires-2 : goal.new-requires-2
new-requires-2 c =
    let all : c.new.result ≡ names_restored c.args.kept.now c.args.self.now =
    c.new.ensures ∙ c.in_ok-all.ensures.names ∙ ap (names_restored c.args.kept.now) (c.into_vec.ensures ∙ c.in_ok-names.ensures.copy ∙ c.as_items.ensures.names) in
    subst AreCanonicalNames (sym all) (restored_kept c.args.kept.now c.args.self.now c.requires (subst AreCanonicalNames c.as_items.ensures.names c.as_items.ensures.canonical))
