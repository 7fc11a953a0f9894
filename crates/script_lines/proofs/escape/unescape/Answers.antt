use Rattle.std.proofs.Common.{◌≡◌, ◌==◌, Some, ap, sym, ◌∙◌}
use Rattle.std.specs.Prelude.{not}
use Rattle.std.specs.List.{list_any}
use Rattle.script_lines.specs.Escapes.{unescaped}
use Rattle.script_lines.proofs.Plain.{stands_for_itself}
use Rattle.script_lines.proofs.escape.unescape.Goals as goal

pub returns-then-is_plain-clause-value : goal.returns-then-is_plain-clause-value
returns-then-is_plain-clause-value c =
    let plain : unescaped c.args.text.now ≡ Some c.args.text.now =
    stands_for_itself c.args.text.now c.is_plain.result (c.is_plain.ensures ∙ ap (λ l. not (list_any (λ b. b == 92) l)) c.as_bytes.ensures.value) c.if-is_plain.true in
    ap Some (c.new.ensures ∙ (c.in_ok-to_string.ensures {u = _}).ok) ∙ sym plain
