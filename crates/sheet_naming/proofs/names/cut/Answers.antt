use Rattle.std.proofs.Common.{◌≡◌, ℕ, ◌+◌, ◌-◌, suc, take, ◌++◌, ap, sym, subst, ◌∙◌, arith}
use Rattle.std.specs.Str.{chars, encode_utf8_all, IsUtf8}
use Rattle.std.specs.Str.Iter.{chars_rest}
use Rattle.std.specs.String.{string_bytes}
use Rattle.std.proofs.lemmas.Str.{IsUtf8-past_char}
use Rattle.sheet_naming.proofs.Naming.{one_taken, none_left, none_asked}
use Rattle.sheet_naming.proofs.names.cut.Goals.{else-loop-test, then-loop-test+in_default}
use Rattle.sheet_naming.proofs.names.cut.Goals as goal

pub loop-init : goal.loop-init
loop-init c = record {
  valid = subst IsUtf8 (sym c.chars-characters.ensures.rest) c.utf8.name;
  whole = whole (c.args.room - 0) (omega arith) ∙ (λ i. c.new-text.ensures.bytes i ++ encode_utf8_all (take c.args.room (chars (c.chars-characters.ensures.rest i))));
}
  where
    whole : (n : ℕ) → n ≡ c.args.room
        → string_bytes c.new-text.result ++ encode_utf8_all (take n (chars (chars_rest c.chars-characters.result)))
        ≡ string_bytes c.new-text.result ++ encode_utf8_all (take c.args.room (chars (chars_rest c.chars-characters.result)))
    whole n is = ap (λ m. string_bytes c.new-text.result ++ encode_utf8_all (take m (chars (chars_rest c.chars-characters.result)))) is

pub loop-preserved : goal.loop-preserved
loop-preserved c =
    let text = chars_rest c.loop.characters in
    let rest = chars_rest c.next.new.self in
    let more = c.args.room - (c.loop.counter + 1) in
    let one : suc more ≡ c.args.room - c.loop.counter = omega (arith, c.loop-test.true) in
    record {
      valid = IsUtf8-past_char _ _ _ c.loop.invariant.valid c.in-Some.ensures.steps.0;
      whole =
          ap (λ bytes. bytes ++ encode_utf8_all (take more (chars rest))) (c.in_ok-push.ensures {u = _}).bytes
          ∙ one_taken (string_bytes c.loop.text) text rest c.in-Some.c more c.loop.invariant.valid c.in-Some.ensures.steps.0
          ∙ ap (λ n. string_bytes c.loop.text ++ encode_utf8_all (take n (chars text))) one ∙ c.loop.invariant.whole;
    }

pub returns-clause-text : goal.returns-clause-text
returns-clause-text c =
    let text = chars_rest c.loop.characters in
    let more = c.args.room - c.loop.counter in
    elim c.loop-test.branch [
      | else-loop-test w ↦ none_asked (string_bytes c.loop.text) text more (omega (arith, w.loop-test.false)) ∙ c.loop.invariant.whole
      | then-loop-test+in_default w ↦ none_left (string_bytes c.loop.text) text more w.in_default.ensures.steps.0.0 ∙ c.loop.invariant.whole
    ]
