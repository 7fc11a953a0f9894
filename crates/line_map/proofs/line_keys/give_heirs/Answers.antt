use Rattle.std.proofs.Common.{Some, None, ap, refl, sym, ◌∙◌}
use Rattle.std.proofs.lemmas.Result.{IfOk-weaker}
use Rattle.std.specs.Option.{option_copied}
use Rattle.line_map.specs.laws.HeirLaws.{filled_all, none_filled}
use Rattle.line_map.proofs.line_keys.give_heirs.Goals as goal

pub returns-in-Some-line_brought-clause-output : goal.returns-in-Some-line_brought-clause-output
returns-in-Some-line_brought-clause-output g c = rw c.in-Some.is (IfOk-weaker c.fill_block.result _ _ (λ _ filled.
    filled_all g.B.Axis.along g.V.PartialEq.eq (Some c.in-Some.block) c.args.map.now c.args.output.now _ _ filled
    (sym c.line_brought.ensures ∙ ap option_copied c.in-Some-line_brought.is)) c.fill_block.ensures.map)

pub returns-in-None-line_brought-clause-output : goal.returns-in-None-line_brought-clause-output
returns-in-None-line_brought-clause-output g c = rw c.in-Some.is
    (filled_all g.B.Axis.along g.V.PartialEq.eq (Some c.in-Some.block) c.args.map.now _ None _ (none_filled _ _)
    (sym c.line_brought.ensures ∙ ap option_copied c.in-None-line_brought.is))

pub returns-in-None-clause-output : goal.returns-in-None-clause-output
returns-in-None-clause-output g c = rw c.in-None.is (filled_all g.B.Axis.along g.V.PartialEq.eq None c.args.map.now _ None _ (λ n. refl) refl)
