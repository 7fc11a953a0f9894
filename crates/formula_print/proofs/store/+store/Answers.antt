use Rattle.formula_print.proofs.Stores.{loop_turn, extends_turn}
use Rattle.formula_print.proofs.store.+store.Goals as goal

pub bound_arguments-loop-at-preserved : goal.bound_arguments-loop-at-preserved
bound_arguments-loop-at-preserved t c = record {
  trees =
      loop_turn _ _ _ _ _ _ _ _ _ _ _ c.loop-at-test.true c.index-items-at.is c.is_name_place-binds.ensures c.in_ok-argument.ensures.tree c.in_ok-argument.ensures.scope c.in_ok-push.ensures.ok
      c.loop-at.invariant.trees;
  scope = extends_turn _ _ _ _ _ c.in_ok-argument.ensures.scope c.loop-at.invariant.scope;
}
