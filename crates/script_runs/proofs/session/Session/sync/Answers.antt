use Rattle.std.proofs.Common.{ap, ◌++◌, ◌∙◌}
use Rattle.std.specs.Prelude.{codes}
use Rattle.script_dump.specs.Text.{line, hex}
use Rattle.script_runs.proofs.Syncs.{carries_to, sync_runs}
use Rattle.script_runs.proofs.session.Session.sync.Goals as goal

pub returns : goal.returns
returns c = λ state stands.
    let sent = c.in_ok-bytes.ensures {u = _} in
    let fits = sent.fits state stands.model in
    let carries =
    carries_to state.sent c.in_ok-bytes.bytes.items c.deref-2.result.now state.synced c.args.self.now.copy.document.book state.present c.deref-2.ensures.value stands.copy
    (sent.carries state stands.model) in
    sync_runs c.apply_external_diffs.result c.args.self.now _ state _
    ((c.in_ok-push_sync.ensures {u = _}).text
    ∙ ap (λ bytes. c.args.self.now.out.items ++ line (codes "sync " ++ hex bytes)) (c.deref.ensures.value ∙ sent.bytes state stands.model))
    (sent.next state stands.model).done
    (c.apply_external_diffs.ensures.led state.sent state.present fits carries)
    (c.apply_external_diffs.ensures.carried state.sent state.present fits carries)
    fits
