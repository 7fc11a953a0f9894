use Rattle.std.proofs.Common.{not, ap}
use Rattle.std.proofs.lemmas.Bool.Decides.{Decides-at}
use Rattle.formula_back.specs.laws.StillLaws.{stays_exactly}
use Rattle.formula_back.proofs.still.is_still.Goals as goal

pub returns : goal.returns
returns g c = Decides-at _ _ (ap not c.has_leaf.ensures) (stays_exactly c.args.to (g.M.CornerMap.mapping c.args.corners.now) c.args.node.now)
