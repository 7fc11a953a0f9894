use Rattle.sheet_wire.proofs.rule_changes.put_rule_change.Goals as goal

pub returns-clause-fits : goal.returns-clause-fits
returns-clause-fits c = λ known. record {
  index = c.in_ok-put.ensures.fits tt;
  old = c.in_ok-put-2.ensures.fits known.old;
  new = c.in_ok-put-3.ensures.fits known.new;
}
