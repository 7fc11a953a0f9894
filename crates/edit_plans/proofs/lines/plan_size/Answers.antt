use Rattle.std.proofs.Common.{Result, subst, sym, w32, SFits}
use Rattle.std.specs.Prelude.{IfOk, IsTrue}
use Rattle.std.proofs.lemmas.Int.{to_z-of_z}
use Rattle.base_values.specs.declared.EditError.{EditError}
use Rattle.line_sizes.specs.declared.LineChange.{LineChange}
use Rattle.edit_plans.specs.LineRecords.{change_fits}
use Rattle.edit_plans.specs.laws.AttrRules.{size_fits}
use Rattle.edit_plans.proofs.lines.plan_size.Goals as goal

pub plan_change-requires-clause-fits : goal.plan_change-requires-clause-fits
plan_change-requires-clause-fits c =
    let size_fit : SFits w32 c.args.size = c.ranges.size in
    subst (λ (r : Result LineChange EditError). IfOk r (λ output. IsTrue (change_fits c.args.axis output))) (sym (simp to_z-of_z at c.size_change-change.ensures.change)) (size_fits c.args.axis c.args.size)
