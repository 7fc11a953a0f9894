use Rattle.std.proofs.Common.{rules, ap, sym, subst, ◌∙◌}
use Rattle.sheet_wire.specs.QueueBytes.{encode_queue, FitsQueue, IsKnownQueue}
use Rattle.open_book.specs.Machine.{synced_of}
use Rattle.open_book.specs.Opened.{document_in}
use Rattle.open_book.specs.Values.{Session}
use Rattle.open_book.proofs.Moving.{flushed_carries, flushed_fits, queued_known, synced_document}
use Rattle.user_model.proofs.user_model.UserModel.flush_send_queue.Goals as goal

pub encode_queue-requires : goal.encode_queue-requires
encode_queue-requires g c = record { known = subst IsKnownQueue (sym c.as_slice.ensures.items) (queued_known (document_in c.self.inside.book) c.self.invariant) }

pub returns-clause-carries : goal.returns-clause-carries
returns-clause-carries g c = λ state stands.
    flushed_carries c.args.self.now.document state c.in_ok-bytes.bytes.items stands
    ((c.in_ok-bytes.ensures {u = _}).encoded.encoded ∙ ap encode_queue c.as_slice.ensures.items ∙ ap (λ (seen : Session). encode_queue seen.document.queue) c.self.view_is)

pub returns-clause-fits : goal.returns-clause-fits
returns-clause-fits g c = λ state stands.
    flushed_fits c.args.self.now.document state stands
    (subst (λ (seen : Session). FitsQueue seen.document.queue) c.self.view_is (subst FitsQueue c.as_slice.ensures.items (c.in_ok-bytes.ensures {u = _}).encoded.fits))

pub invariant_of-self : goal.invariant_of-self
invariant_of-self g c = let is = c.self.invariant in (synced_of is.0, synced_document (document_in c.self.inside.book) _ is.0 is.1 (search rules))
