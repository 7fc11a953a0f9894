use Rattle.std.proofs.Common.{Some, None, lit<, ◌∙◌, ◌∷◌, sym, arith}
use Rattle.std.proofs.lemmas.Str.Pattern.{split_once_first}
use Rattle.script_lines.specs.Parts.{parts_at}
use Rattle.script_lines.proofs.Splitting.{one_part, more_parts}
use Rattle.script_lines.proofs.parts.split_word.Goals as goal

pub returns-in-Some : goal.returns-in-Some
returns-in-Some c =
    let p = split_once_first 32 c.args.text.now (Some (c.in-Some.word, c.in-Some.words)) c.in-Some.ensures.cases (lit< tt) in
    more_parts 32 c.args.text.now p.0 ∙ (λ i. sym p.1 i ∷ parts_at 32 (sym p.2 i))

pub returns-in-None : goal.returns-in-None
returns-in-None c =
    let p = split_once_first 32 c.args.text.now None c.in-None.ensures.cases (lit< tt) in
    one_part 32 c.args.text.now (omega (arith, p))
