use Rattle.std.proofs.Common.{sym, ◌∙◌, false}
use Rattle.std.specs.Str.{chars}
use Rattle.std.proofs.lemmas.Str.{chars_past_char}
use Rattle.formula_read.specs.laws.Lex.{number_span}
use Rattle.formula_read.proofs.Lexing.{went_start, went_turn, went_end, last_read, number_span_is}
use Rattle.formula_read.proofs.front.number_len.Goals as goal

pub loop-c-init : goal.loop-c-init
loop-c-init c = went_start c.args.text.now (number_span c.args.locale false) c.utf8.text

pub loop-c-preserved : goal.loop-c-preserved
loop-c-preserved c = went_turn _ _ _ _ _ _ _ c.loop-c.invariant c.in-Some.ensures.bytes (λ z. rw (sym c.in_number.ensures ∙ c.if-not-in_number.false, c.is_exponent_letter-after_letter.ensures))

pub returns-then-not-in_number : goal.returns-then-not-in_number
returns-then-not-in_number c =
    went_end _ _ (number_span c.args.locale false) (number_span c.args.locale c.loop-c.after_letter) c.utf8.text c.loop-c.invariant
    (rw (chars_past_char _ _ _ c.loop-c.invariant.utf8 c.in-Some.ensures.bytes, sym c.in_number.ensures ∙ c.if-not-in_number.true)) (number_span_is c.args.locale false (chars c.args.text.now)).0

pub returns : goal.returns
returns c =
    went_end _ _ (number_span c.args.locale false) (number_span c.args.locale c.loop-c.after_letter) c.utf8.text c.loop-c.invariant
    (rw (← last_read (chars c.loop-c.rest.now) c.in_default.ensures.value)) (number_span_is c.args.locale false (chars c.args.text.now)).0
