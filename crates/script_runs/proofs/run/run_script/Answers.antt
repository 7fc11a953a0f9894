use Rattle.std.proofs.Common.{◌≡◌, ap, ◌∙◌}
use Rattle.std.specs.Io.KnownBytes.{append_known}
use Rattle.script_runs.specs.Script.{output_of}
use Rattle.script_runs.proofs.Ends.{ran_told}
use Rattle.script_runs.proofs.run.run_script.Goals as goal

pub returns-clause-ok : goal.returns-clause-ok
returns-clause-ok g c =
    let script = c.in_ok-script.script.items in
    let read = c.in_ok-script.ensures {u = _} in
    let text : c.in-Ok.text.items ≡ output_of script = (c.in-Ok.ensures {u = _}).text ∙ ap output_of c.deref.ensures.value in
    let written : g.K.Sink.taken c.write_all.new.output ≡ append_known (g.K.Sink.taken c.args.output.now) (output_of script) =
    (c.in_ok-write_all.ensures {u = _}).ok ∙ (λ i. append_known (c.reserve.ensures.taken i) ((c.deref-2.ensures.value ∙ text) i)) in
    ran_told script (g.S.Source.left c.args.input.now) (g.S.Source.left c.read_all.new.input) (g.K.Sink.taken c.args.output.now) (g.K.Sink.taken c.write_all.new.output) read.ok read.ended written

pub returns-clause-ran : goal.returns-clause-ran
returns-clause-ran g c =
    let script = c.in_ok-script.script.items in
    let read = c.in_ok-script.ensures {u = _} in
    let text : c.in-Ok.text.items ≡ output_of script = (c.in-Ok.ensures {u = _}).text ∙ ap output_of c.deref.ensures.value in
    record {
      script = script;
      within = read.within;
      read = read.ok;
      ended = read.ended;
      written = (c.in_ok-write_all.ensures {u = _}).ok ∙ (λ i. append_known (c.reserve.ensures.taken i) ((c.deref-2.ensures.value ∙ text) i));
    }
