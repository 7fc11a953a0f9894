use Rattle.sheet_wire.proofs.sheets.put_kept_sheet.Goals as goal

pub returns-clause-fits : goal.returns-clause-fits
returns-clause-fits c = λ known. record {
  sheet = c.in_ok-put.ensures.fits known.sheet;
  names = c.in_ok-put-2.ensures.fits (record { keys = λ key. tt; values = known.names });
}
