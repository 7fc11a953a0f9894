use Rattle.std.proofs.Common.{◌≡◌, ◌⊎◌, inr, refl, sym, subst}
use Rattle.std.proofs.lemmas.Result.{err_from_is_err_and}
use Rattle.sheet_history.specs.Diffs.{IsCanonicalQueue}
use Rattle.sheet_wire.specs.laws.Fitting.{canonical_queue_from_fits}
use Rattle.open_book.specs.Opened.{document_in, session_of}
use Rattle.open_book.specs.Stands.{StandsFor, Leaves}
use Rattle.open_book.specs.Values.{Session, IsMade, LeavesMade}
use Rattle.user_model.proofs.Unread.{unread_leaves, unread_made, unread_edits, parse_no_queue, read_leaves, read_made, left_reached}
use Rattle.open_book.proofs.Received.{carried_only, carried_there, left_made}
use Rattle.user_model.proofs.Refusals.{never_unread}
use Rattle.user_model.proofs.user_model.UserModel.apply_external_diffs.Goals as goal

pub receive_all-requires-clause-canonical : goal.receive_all-requires-clause-canonical
receive_all-requires-clause-canonical g c = subst IsCanonicalQueue (sym c.as_slice.ensures.items) (canonical_queue_from_fits c.in_ok-queue.queue (c.in_ok-queue.ensures {u = _}).read.encoded.fits)

pub receive_all-requires-clause-reached : goal.receive_all-requires-clause-reached
receive_all-requires-clause-reached g c = c.self.invariant

pub returns-in_err-queue-clause-next : goal.returns-in_err-queue-clause-next
returns-in_err-queue-clause-next g c =
    let p = err_from_is_err_and c.from_residual.result c.from_residual.ensures.1 in
    rw (p.1, p.2) (λ s stands entries is_theirs. unread_leaves c.in_err-queue.field-0.0 c.args.self.now.document entries s stands (c.in_err-queue.ensures.read.again entries is_theirs))

pub returns-in_err-queue-clause-led : goal.returns-in_err-queue-clause-led
returns-in_err-queue-clause-led g c =
    let is = c.self.invariant in
    let stands = subst (λ (seen : Session). StandsFor seen.document is.0) c.self.view_is is.1 in
    carried_there c.from_residual.result c.args.self.now.document c.args.self.now.document is.0 c.args.bytes.now stands (λ entries is_theirs. returns-in_err-queue-clause-next g c is.0 stands entries is_theirs)

pub returns-in_err-queue-clause-carried : goal.returns-in_err-queue-clause-carried
returns-in_err-queue-clause-carried g c =
    let is = c.self.invariant in
    let stands = subst (λ (seen : Session). StandsFor seen.document is.0) c.self.view_is is.1 in
    carried_only c.from_residual.result c.args.self.now.document c.args.self.now.document is.0 c.args.bytes.now stands (λ entries is_theirs. returns-in_err-queue-clause-next g c is.0 stands entries is_theirs)

pub returns-in_err-queue-clause-unencoded : goal.returns-in_err-queue-clause-unencoded
returns-in_err-queue-clause-unencoded g c =
    let p = err_from_is_err_and c.from_residual.result c.from_residual.ensures.1 in
    rw (p.1, p.2) (λ none. unread_edits _ _ refl c.in_err-queue.field-0.0 c.in_err-queue.ensures.read.refused)

pub returns-in_err-queue-clause-parsed : goal.returns-in_err-queue-clause-parsed
returns-in_err-queue-clause-parsed g c =
    let p = err_from_is_err_and c.from_residual.result c.from_residual.ensures.1 in
    rw (p.1, p.2) (parse_no_queue c.args.bytes.now c.in_err-queue.field-0.0 c.in_err-queue.ensures.read)

pub returns-in_err-queue-clause-output : goal.returns-in_err-queue-clause-output
returns-in_err-queue-clause-output g c =
    let p = err_from_is_err_and c.from_residual.result c.from_residual.ensures.1 in
    rw (p.1, p.2) (λ entries is_theirs. unread_made c.in_err-queue.field-0.0 entries g.R.Recalc.Fits c.args.self.now (c.in_err-queue.ensures.read.again entries is_theirs))

pub returns-in_err-queue-clause-made_or_same : goal.returns-in_err-queue-clause-made_or_same
returns-in_err-queue-clause-made_or_same g c = inr refl

pub returns-clause-next : goal.returns-clause-next
returns-clause-next g c = λ s stands entries is_theirs.
    read_leaves c.receive_all.result (document_in c.receive_all.new.self) c.in_ok-queue.queue entries s ((c.in_ok-queue.ensures {u = _}).read.again entries is_theirs)
    (subst (λ q. Leaves c.receive_all.result (document_in c.receive_all.new.self) q s) c.as_slice.ensures.items
    (c.receive_all.ensures.next s (subst (λ (seen : Session). StandsFor seen.document s) (sym c.self.view_is) stands)))

pub returns-clause-led : goal.returns-clause-led
returns-clause-led g c =
    let is = c.self.invariant in
    let stands = subst (λ (seen : Session). StandsFor seen.document is.0) c.self.view_is is.1 in
    carried_there c.receive_all.result c.args.self.now.document (document_in c.receive_all.new.self) is.0 c.args.bytes.now stands (λ entries is_theirs. returns-clause-next g c is.0 stands entries is_theirs)

pub returns-clause-carried : goal.returns-clause-carried
returns-clause-carried g c =
    let is = c.self.invariant in
    let stands = subst (λ (seen : Session). StandsFor seen.document is.0) c.self.view_is is.1 in
    carried_only c.receive_all.result c.args.self.now.document (document_in c.receive_all.new.self) is.0 c.args.bytes.now stands (λ entries is_theirs. returns-clause-next g c is.0 stands entries is_theirs)

pub returns-clause-unencoded : goal.returns-clause-unencoded
returns-clause-unencoded g c = λ none. absurd (none c.in_ok-queue.queue (c.in_ok-queue.ensures {u = _}).read.encoded)

pub returns-clause-parsed : goal.returns-clause-parsed
returns-clause-parsed g c = λ is.
    let state = c.self.invariant in
    absurd (never_unread c.receive_all.result (document_in c.receive_all.new.self) _ state.0 (c.receive_all.ensures.next state.0 state.1) is)

pub returns-clause-output : goal.returns-clause-output
returns-clause-output g c = λ entries is_theirs.
    read_made c.receive_all.result c.in_ok-queue.queue entries g.R.Recalc.Fits c.args.self.now (session_of c.receive_all.new.self c.receive_all.new.results) ((c.in_ok-queue.ensures {u = _}).read.again entries is_theirs)
    (subst (λ q. LeavesMade c.receive_all.result q g.R.Recalc.Fits c.args.self.now (session_of c.receive_all.new.self c.receive_all.new.results)) c.as_slice.ensures.items
    (subst (λ (seen : Session). LeavesMade c.receive_all.result c.as_slice.result.now g.R.Recalc.Fits seen (session_of c.receive_all.new.self c.receive_all.new.results)) c.self.view_is c.receive_all.ensures.output))

pub returns-clause-made_or_same : goal.returns-clause-made_or_same
returns-clause-made_or_same g c =
    subst (λ (seen : Session). IsMade g.R.Recalc.Fits (session_of c.receive_all.new.self c.receive_all.new.results) ⊎ (session_of c.receive_all.new.self c.receive_all.new.results ≡ seen)) c.self.view_is
    (left_made c.receive_all.result c.as_slice.result.now g.R.Recalc.Fits _ _ c.receive_all.ensures.output)

pub invariant_of-self : goal.invariant_of-self
invariant_of-self g c =
    let state = c.self.invariant in
    left_reached c.receive_all.result (document_in c.receive_all.new.self) _ state.0 (c.receive_all.ensures.next state.0 state.1)
