use Rattle.std.proofs.Common.{◌≡◌, ◌∷◌, ◌++◌, ◌∙◌, List, ℤ, ap, rules, w32, SFits}
use Rattle.std.proofs.lemmas.Int.{to_z-of_z}
use Rattle.std.specs.Int.{cast_signed, cast_unsigned}
use Rattle.sheet_grid.specs.declared.LineAttr.{LineAttr}
use Rattle.script_dump.specs.Dump.{attr_line}
use Rattle.script_dump.proofs.Written.{written_more}
use Rattle.script_dump.proofs.lines.push_attrs.Goals as goal

pub loop-number-preserved : goal.loop-number-preserved
loop-number-preserved c =
    let entry : ℤ × LineAttr = (c.in-Some.number.now, c.in-Some.attr.now) in
    let rest : List (ℤ × LineAttr) = c.next.new.self in
    let step : c.loop-number.number-iterator ≡ entry ∷ rest = search rules in
    let fits : SFits w32 c.in-Some.number.now = search rules in
    let said : c.push_attr.new.out.items ≡ c.loop-number.out.items ++ attr_line c.args.word.now (cast_signed w32 (cast_unsigned w32 c.in-Some.number.now), c.in-Some.attr.now) = c.in_ok-push_attr.ensures.text in
    let written : c.push_attr.new.out.items ≡ c.loop-number.out.items ++ attr_line c.args.word.now entry =
    said ∙ ap (λ (number : ℤ). c.loop-number.out.items ++ attr_line c.args.word.now (number, c.in-Some.attr.now)) (to_z-of_z w32 c.in-Some.number.now fits) in (
      tt,
      tt,
      written_more (attr_line c.args.word.now) c.loop-number.out.items c.push_attr.new.out.items _ entry rest c.loop-number.number-iterator step written c.loop-number.invariant.2,
    )
