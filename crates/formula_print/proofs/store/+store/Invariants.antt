use Rattle.std.proofs.Common.{◌≡◌, ◌++◌, take, drop, map}
use Rattle.formula_print.specs.Scope.{all_within, scoped, let_arguments}
use Rattle.formula_print.proofs.Stores.{Extends, turns_from}
use Rattle.formula_print.proofs.store.+store.Given as goal

-- the first trees are stored, in the same scope
abbrev pub invariant-stored_all-loop-node : goal.invariant-stored_all-loop-node
invariant-stored_all-loop-node l = record {
  trees : l.trees ≡ all_within l.initial.scope (map scoped (take l.node-index l.node-items));
  scope : l.scope ≡ l.initial.scope;
}

-- the first arguments are stored, and the others are left
abbrev pub invariant-bound_arguments-loop-at : goal.invariant-bound_arguments-loop-at
invariant-bound_arguments-loop-at l = record {
  trees : l.trees ++ turns_from l.is_place l.scope (map scoped (drop l.at l.items)) ≡ let_arguments l.initial.scope (map scoped l.items);
  scope : Extends l.initial.scope l.scope;
}
