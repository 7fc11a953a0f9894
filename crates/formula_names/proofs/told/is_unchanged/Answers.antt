use Rattle.std.proofs.Common.{not, ap}
use Rattle.std.proofs.lemmas.Bool.Decides.{Decides-at}
use Rattle.formula_names.specs.laws.RenamedLaws.{changed_tree}
use Rattle.formula_names.proofs.told.is_unchanged.Goals as goal

pub returns : goal.returns
returns c = Decides-at _ _ (ap not c.has_leaf.ensures) (changed_tree c.args.reach c.args.old.now c.args.new.now c.args.tree.now)
