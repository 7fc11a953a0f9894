use Rattle.std.proofs.Common.{sym, ◌∙◌}
use Rattle.std.specs.Str.{chars}
use Rattle.std.proofs.lemmas.Str.{chars_past_char}
use Rattle.base_decimal.specs.Digits.{span}
use Rattle.base_decimal.proofs.Spans.{span_parts}
use Rattle.formula_read.specs.laws.Classes.{passes}
use Rattle.formula_read.proofs.Lexing.{went_start, went_turn, went_end, last_read}
use Rattle.formula_read.proofs.characters.run_len.Goals as goal

pub loop-c-init : goal.loop-c-init
loop-c-init c = went_start c.args.text.now (span (passes c.args.class)) c.utf8.text

pub loop-c-preserved : goal.loop-c-preserved
loop-c-preserved c = went_turn _ _ _ _ _ _ _ c.loop-c.invariant c.in-Some.ensures.bytes (λ z. rw (sym c.passes.ensures ∙ c.if-not-passes.false))

pub returns-then-not-passes : goal.returns-then-not-passes
returns-then-not-passes c =
    let p = passes c.args.class in
    went_end _ _ (span p) (span p) c.utf8.text c.loop-c.invariant
    (rw (chars_past_char _ _ _ c.loop-c.invariant.utf8 c.in-Some.ensures.bytes, sym c.passes.ensures ∙ c.if-not-passes.true)) (span_parts p (chars c.args.text.now))

pub returns : goal.returns
returns c =
    let p = passes c.args.class in
    went_end _ _ (span p) (span p) c.utf8.text c.loop-c.invariant (rw (← last_read (chars c.loop-c.rest.now) c.in_default.ensures.value)) (span_parts p (chars c.args.text.now))
