use Rattle.std.proofs.Common.{◌≡◌, ap, length, take, ◌∙◌}
use Rattle.std.proofs.lemmas.Result.{err_from_is_err_and}
use Rattle.std.specs.Prelude.{slice_get}
use Rattle.script_runs.specs.Script.{plain_reply, reply_text}
use Rattle.script_runs.specs.Tallies.{counted_by}
use Rattle.script_runs.proofs.Draws.{counted_told, front}
use Rattle.script_runs.proofs.session.Session.count_command.Goals as goal

pub returns-in_err-run_plain-clause-counts : goal.returns-in_err-run_plain-clause-counts
returns-in_err-run_plain-clause-counts c = λ s stands.
    let ran = c.in_err-run_plain.ensures s stands in
    let p = err_from_is_err_and c.from_residual.result c.from_residual.ensures.1 in
    rw (p.1, p.2) (record { out = tt; stands = tt; counts = tt; sends = tt; only = ran.only })

pub returns-clause-counts : goal.returns-clause-counts
returns-clause-counts c = λ s stands.
    let ran = c.in_ok-run_plain.ensures s stands in
    let before = c.args.self.now.out.items in
    let written = c.run_plain.new.self.out.items in
    let reply = plain_reply c.args.command s in
    let length_is : length c.as_slice-before.result.now ≡ length before = ap length c.as_slice-before.ensures.value in
    let first : c.byte_at.result ≡ slice_get written (length before) = c.byte_at.ensures ∙ (λ i. slice_get (c.deref.ensures.value i) (length_is i)) in
    record {
      out = c.truncate.ensures.items ∙ (λ i. take (length_is i) (ran.out i)) ∙ front before (reply_text reply);
      stands = record { model = ran.stands.model; copy = ran.stands.copy };
      counts =
          c.count.ensures.counts
          ∙ ap (λ o. counted_by o c.args.tally.now) first
          ∙ counted_told before written reply c.args.tally.now ran.out;
      sends = ran.sends;
      only = tt;
    }
