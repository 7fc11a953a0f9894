use Rattle.std.proofs.Common.{◌+◌, ◌∷◌, take, sym, ap, ◌∙◌, arith, length-drop}
use Rattle.std.proofs.lemmas.List.{take_all}
use Rattle.script_lines.specs.Parts.{parts_at}
use Rattle.script_lines.proofs.Splitting.{parts_at_place, parts_no_place}
use Rattle.script_lines.proofs.parts.split_first.Goals as goal

pub returns-in-Some-clause-parts : goal.returns-in-Some-clause-parts
returns-in-Some-clause-parts c =
    let all = c.args.bytes.now in
    let at = c.in-Some.at in
    parts_at_place c.args.separator all at (sym c.first_place.ensures ∙ c.in-Some.is)
    ∙ ap (λ l. take at all ∷ parts_at c.args.separator l) (sym (take_all _ _ (omega (arith, length-drop (at + 1) all))))

pub returns-in-None-clause-parts : goal.returns-in-None-clause-parts
returns-in-None-clause-parts c = parts_no_place c.args.separator c.args.bytes.now (sym c.first_place.ensures ∙ c.in-None.is)
