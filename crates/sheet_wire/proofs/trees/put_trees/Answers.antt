use Rattle.sheet_wire.specs.TreesBytes.{encode_trees}
use Rattle.sheet_wire.proofs.Joined.{three_joined}
use Rattle.sheet_wire.proofs.trees.put_trees.Goals as goal

pub returns-clause-encoded : goal.returns-clause-encoded
unfolding encode_trees
returns-clause-encoded c = three_joined _ _ _ _ _ _ _ c.in_ok-put.ensures.encoded c.in_ok-put-2.ensures.encoded c.in_ok-put-3.ensures.encoded

pub returns-clause-fits : goal.returns-clause-fits
returns-clause-fits c = λ known. record {
  formulas = c.in_ok-put.ensures.fits (record { keys = λ key. tt; values = known.formulas });
  formattings = c.in_ok-put-2.ensures.fits (record { keys = λ key. tt; values = known.formattings });
  names = c.in_ok-put-3.ensures.fits (record { keys = λ key. tt; values = known.names });
}
