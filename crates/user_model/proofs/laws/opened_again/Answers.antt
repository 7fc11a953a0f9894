use Rattle.grid_wire.specs.BookBytes.{IsBook}
use Rattle.user_model.proofs.Saved.{opened_equal, opened_only}
use Rattle.user_model.proofs.laws.opened_again.Goals as goal

pub returns-clause-equal : goal.returns-clause-equal
returns-clause-equal g c =
    let is : IsBook c.deref.result.now c.args.model.now.document.book = rw (c.deref.ensures.value) (c.in_ok-bytes.ensures {u = _}).encoded in
    opened_equal c.args.language.now c.args.model.now.document.book c.get_model.ensures.rules c.from_bytes.result (c.from_bytes.ensures.opens c.args.model.now.document.book is)

pub returns-clause-only : goal.returns-clause-only
returns-clause-only g c =
    let is : IsBook c.deref.result.now c.args.model.now.document.book = rw (c.deref.ensures.value) (c.in_ok-bytes.ensures {u = _}).encoded in
    opened_only c.args.language.now c.args.model.now.document.book c.get_model.ensures.rules c.from_bytes.result (c.from_bytes.ensures.opens c.args.model.now.document.book is)
