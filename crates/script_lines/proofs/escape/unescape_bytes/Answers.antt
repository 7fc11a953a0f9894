use Rattle.std.proofs.Common.{sym}
use Rattle.std.proofs.lemmas.Bool.{eqb-true}
use Rattle.script_lines.proofs.Unescaping.{goes_on, stands_utf8}
use Rattle.script_lines.proofs.escape.unescape_bytes.Goals as goal

pub bytes-preserved : goal.bytes-preserved
bytes-preserved c =
    rw c.in_ok-push.ensures.items (goes_on c.args.bytes.now c.bytes.text.items c.bytes.rest.now c.in-Some.byte c.in-Some.others.now c.bytes.invariant c.in-Some.ensures.value)

pub returns-clause-text : goal.returns-clause-text
returns-clause-text c = λ h. stands_utf8 c.args.bytes.now c.bytes.text.items c.bytes.rest.now h c.bytes.invariant (eqb-true _ _ (sym c.bytes-test.ensures))
