use Rattle.std.proofs.Common.{sym, ◌∙◌}
use Rattle.std.specs.Str.Iter.{chars_rest}
use Rattle.std.proofs.lemmas.Str.{IsUtf8-past_char}
use Rattle.base_tables.proofs.Folds.{Begins, fold_turn, fold_differs, fold_longer, fold_end, fold_shorter}
use Rattle.base_tables.proofs.folding.same_characters.Goals as goal

pub loop-c-preserved : goal.loop-c-preserved
loop-c-preserved c =
    let left : Begins (chars_rest c.loop-c.left) c.in-Some.c (chars_rest c.next.new.self) = record { valid = c.loop-c.invariant.left_so; parts = c.in-Some.ensures.steps.0 } in
    let right : Begins (chars_rest c.loop-c.right) c.in-Some-next.d (chars_rest c.next-in-Some.new.self) = record { valid = c.loop-c.invariant.right_so; parts = c.in-Some-next.ensures.steps.0 } in
    record {
      left_so = IsUtf8-past_char _ _ _ left.valid left.parts;
      right_so = IsUtf8-past_char _ _ _ right.valid right.parts;
      same = fold_turn _ _ _ _ _ _ left right (sym c.fold_alike.ensures ∙ c.if-fold_alike.true) ∙ c.loop-c.invariant.same;
    }

pub returns-in_default-next : goal.returns-in_default-next
returns-in_default-next c =
    let left : Begins (chars_rest c.loop-c.left) c.in-Some.c (chars_rest c.next.new.self) = record { valid = c.loop-c.invariant.left_so; parts = c.in-Some.ensures.steps.0 } in
    let right : Begins (chars_rest c.loop-c.right) c.in-Some-next.d (chars_rest c.next-in-Some.new.self) = record { valid = c.loop-c.invariant.right_so; parts = c.in-Some-next.ensures.steps.0 } in
    fold_differs _ _ _ _ _ _ left right (sym c.fold_alike.ensures ∙ c.if-fold_alike.false) ∙ c.loop-c.invariant.same

pub returns-in_default-next-2 : goal.returns-in_default-next-2
returns-in_default-next-2 c =
    let left : Begins (chars_rest c.loop-c.left) c.in-Some.c (chars_rest c.next.new.self) = record { valid = c.loop-c.invariant.left_so; parts = c.in-Some.ensures.steps.0 } in
    fold_longer _ _ _ _ left c.in_default-next.ensures.steps.0.0 ∙ c.loop-c.invariant.same

pub returns-in-Some-next-2 : goal.returns-in-Some-next-2
returns-in-Some-next-2 c =
    let right : Begins (chars_rest c.loop-c.right) c.in-Some-next-2.field-0 (chars_rest c.next-2.new.self) = record { valid = c.loop-c.invariant.right_so; parts = c.in-Some-next-2.ensures.steps.0 } in
    fold_shorter _ _ _ _ c.in_default.ensures.steps.0.0 right ∙ c.loop-c.invariant.same

pub returns-in-None : goal.returns-in-None
returns-in-None c = fold_end _ _ c.in_default.ensures.steps.0.0 c.in-None.ensures.steps.0.0 ∙ c.loop-c.invariant.same
