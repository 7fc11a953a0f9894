use Rattle.formula_round.proofs.Back.{content_back}
use Rattle.formula_round.proofs.round.normal_contents_read_back.Goals as goal

pub returns : goal.returns
returns c p = content_back p (c.normal_trees_read_back.ensures.read p) c.contents_read_again.ensures
