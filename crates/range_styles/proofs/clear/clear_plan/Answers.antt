use Rattle.std.proofs.Common.{Ok, sym}
use Rattle.range_styles.proofs.clear.clear_plan.Goals as goal

pub returns-clause-plan : goal.returns-clause-plan
returns-clause-plan c =
    let cells = c.in_ok-cleared_cells.ensures.output in
    let links = c.in_ok-cleared_links.ensures.output in
    record {
      done = λ i. Ok (record { cells = sym cells i; links = sym links i; columns = sym c.new.ensures i; rows = sym c.new-2.ensures i });
      refused = tt;
      memory = tt;
    }
