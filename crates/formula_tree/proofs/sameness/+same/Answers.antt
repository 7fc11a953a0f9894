use Rattle.std.proofs.Common.{arith}
use Rattle.std.proofs.lemmas.Grind.{common_steps}
use Rattle.formula_tree.proofs.sameness.+same.Goals as goal

pub same_node-returns-in_default : goal.same_node-returns-in_default
same_node-returns-in_default t c = grind (arith, common_steps)

pub same_node-returns-in_default-2 : goal.same_node-returns-in_default-2
same_node-returns-in_default-2 t c = grind (arith, common_steps)

pub same_node-returns-in_default-3 : goal.same_node-returns-in_default-3
same_node-returns-in_default-3 t c = grind (arith, common_steps)

pub same_node-returns-in_default-4 : goal.same_node-returns-in_default-4
same_node-returns-in_default-4 t c = grind (arith, common_steps)

pub same_node-returns-in_default-5 : goal.same_node-returns-in_default-5
same_node-returns-in_default-5 t c = grind (arith, common_steps)

pub same_node-returns-in_default-6 : goal.same_node-returns-in_default-6
same_node-returns-in_default-6 t c = grind (arith, common_steps)

pub same_node-returns-in_default-7 : goal.same_node-returns-in_default-7
same_node-returns-in_default-7 t c = grind (arith, common_steps)

pub same_node-returns-in_default-8 : goal.same_node-returns-in_default-8
same_node-returns-in_default-8 t c = grind (arith, common_steps)

pub same_node-returns-in_default-9 : goal.same_node-returns-in_default-9
same_node-returns-in_default-9 t c = grind (arith, common_steps)

pub same_node-returns-in_default-10 : goal.same_node-returns-in_default-10
same_node-returns-in_default-10 t c = grind (arith, common_steps)

pub same_node-returns-in_default-11 : goal.same_node-returns-in_default-11
same_node-returns-in_default-11 t c = grind (arith, common_steps)

pub same_node-returns-in_default-12 : goal.same_node-returns-in_default-12
same_node-returns-in_default-12 t c = grind (arith, common_steps)

pub same_node-returns-in_default-13 : goal.same_node-returns-in_default-13
same_node-returns-in_default-13 t c = grind (arith, common_steps)

pub same_node-returns-in_default-14 : goal.same_node-returns-in_default-14
same_node-returns-in_default-14 t c = grind (arith, common_steps)

pub same_node-returns-in_default-15 : goal.same_node-returns-in_default-15
same_node-returns-in_default-15 t c = grind (arith, common_steps)

pub same_node-returns-in_default-16 : goal.same_node-returns-in_default-16
same_node-returns-in_default-16 t c = grind (arith, common_steps)

pub same_node-returns-in_default-17 : goal.same_node-returns-in_default-17
same_node-returns-in_default-17 t c = grind (arith, common_steps)

pub same_node-returns-in_default-18 : goal.same_node-returns-in_default-18
same_node-returns-in_default-18 t c = grind (arith, common_steps)

pub same_node-returns-in_default-19 : goal.same_node-returns-in_default-19
same_node-returns-in_default-19 t c = grind (arith, common_steps)

pub same_node-returns-in_default-20 : goal.same_node-returns-in_default-20
same_node-returns-in_default-20 t c = grind (arith, common_steps)

pub same_node-returns-in_default-21 : goal.same_node-returns-in_default-21
same_node-returns-in_default-21 t c = grind (arith, common_steps)

pub same_node-returns-in_default-22 : goal.same_node-returns-in_default-22
same_node-returns-in_default-22 t c = grind (arith, common_steps)

pub same_node-returns-in_default-23 : goal.same_node-returns-in_default-23
same_node-returns-in_default-23 t c = grind (arith, common_steps)
