use Rattle.std.proofs.Common.{◌≡◌, ℕ, suc, ◌+◌, ◌-◌, Bool, length, ap, sym, ◌∙◌, arith}
use Rattle.std.proofs.lemmas.List.{length-map}
use Rattle.sheet_grid.specs.Sheet.{Sheet}
use Rattle.sheet_grid.specs.Book.{names_of}
use Rattle.sheet_naming.specs.FreeNames.{is_taken, least_free}
use Rattle.sheet_naming.specs.Texts.{text_of}
use Rattle.sheet_naming.proofs.Naming.{least_here, least_next, least_last}
use Rattle.sheet_naming.proofs.names.free_text.Goals.{else-loop-test, then-loop-test+then-not-is_taken}
use Rattle.sheet_naming.proofs.names.free_text.Goals as goal

pub loop-init : goal.loop-init
loop-init c = record {
  number = omega arith;
  text = (c.in_ok-text.ensures {u = _}).text;
  same = ap (least_free (λ n. is_taken (names_of c.args.sheets.now) (text_of c.args.texts n)) c.args.first) (omega arith);
}

pub overflow_add-n : goal.overflow_add-n
overflow_add-n c = let number = c.loop.invariant.number in omega (arith, number, c.loop-test.true, c.requires)

pub loop-preserved : goal.loop-preserved
loop-preserved c =
    let taken : ℕ → Bool = λ n. is_taken (names_of c.args.sheets.now) (text_of c.args.texts n) in
    let hit : taken c.loop.n ≡ _ = ap (is_taken (names_of c.args.sheets.now)) (sym c.loop.invariant.text ∙ sym c.as_str.ensures.value) ∙ sym (c.if-not-is_taken.ensures {u = _}) in
    let more = length c.args.sheets.now - (c.loop.counter + 1) in
    let left : length c.args.sheets.now - c.loop.counter ≡ suc more = omega (arith, c.loop-test.true) in
    record {
      number = omega (arith, c.loop.invariant.number);
      text = (c.in_ok-text-2.ensures {u = _}).text;
      same = sym (least_next taken c.loop.n more (length c.args.sheets.now - c.loop.counter) left hit) ∙ c.loop.invariant.same;
    }

pub returns-clause-text : goal.returns-clause-text
returns-clause-text c =
    let names = names_of c.args.sheets.now in
    let taken : ℕ → Bool = λ n. is_taken names (text_of c.args.texts n) in
    let left = length c.args.sheets.now - c.loop.counter in
    let found : least_free taken c.args.first (length c.args.sheets.now) ≡ c.loop.n = elim c.loop-test.branch [
      | else-loop-test w ↦ sym c.loop.invariant.same ∙ least_last taken c.loop.n left (omega (arith, w.loop-test.false))
      | then-loop-test+then-not-is_taken w ↦
          sym c.loop.invariant.same ∙ least_here taken c.loop.n left
          (ap (is_taken names) (sym c.loop.invariant.text ∙ sym w.as_str.ensures.value) ∙ sym (w.if-not-is_taken.ensures {u = _}))
    ] in
    let count = length-map c.args.sheets.now (λ (sheet : Sheet). sheet.name) in
    c.new.ensures ∙ c.loop.invariant.text ∙ ap (text_of c.args.texts) (sym found ∙ ap (least_free taken c.args.first) (sym count))
