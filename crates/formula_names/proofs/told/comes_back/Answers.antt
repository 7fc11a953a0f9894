use Rattle.std.proofs.Common.{not, ap}
use Rattle.std.proofs.lemmas.Bool.Decides.{Decides-at}
use Rattle.formula_names.specs.laws.RenamedLaws.{lost_tree}
use Rattle.formula_names.proofs.told.comes_back.Goals as goal

pub returns : goal.returns
returns c = Decides-at _ _ (ap not c.has_leaf.ensures) (lost_tree c.args.there c.args.back c.args.old.now c.args.new.now c.args.tree.now)
