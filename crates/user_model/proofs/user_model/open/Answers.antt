use Rattle.open_book.specs.Machine.{begun}
use Rattle.open_book.proofs.Sounds.{sound_begun}
use Rattle.user_model.proofs.user_model.open.Goals as goal

pub returns-clause-stands : goal.returns-clause-stands
returns-clause-stands g c = record { document = (c.in_ok-book.ensures {u = _}).document; sound = sound_begun c.args.language c.args.workbook c.requires.rules }

pub invariant_of-result : goal.invariant_of-result
invariant_of-result g c =
    (begun c.args.language c.args.workbook, record { document = (c.in_ok-book.ensures {u = _}).document; sound = sound_begun c.args.language c.args.workbook c.requires.rules })
