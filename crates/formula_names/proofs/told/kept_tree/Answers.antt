use Rattle.std.proofs.Common.{◌≡◌, subst, ◌∙◌}
use Rattle.std.specs.Bool.{Decides}
use Rattle.std.proofs.lemmas.Result.{IfOk-weaker}
use Rattle.formula_tree.specs.declared.Node.{Node}
use Rattle.formula_names.specs.Renamed.{renamed_and_back}
use Rattle.formula_names.specs.laws.RenamedLaws.{kept_by_test}
use Rattle.formula_names.proofs.told.kept_tree.Goals as goal

pub returns-clause-kept : goal.returns-clause-kept
returns-clause-kept c =
    let old = c.args.old.now in
    let new = c.args.new.now in
    let Told : Node → Type 0 = λ tree. Decides c.comes_back.result (renamed_and_back c.args.there c.args.back old new tree ≡ tree) in
    let told = subst Told c.get.ensures c.comes_back.ensures in
    IfOk-weaker c.kept_unless.result _ _ (λ kept is. is ∙ kept_by_test c.args.there c.args.back old new c.args.tree.now c.comes_back.result told) c.kept_unless.ensures.kept
