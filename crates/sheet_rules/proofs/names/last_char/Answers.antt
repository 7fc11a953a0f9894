use Rattle.std.proofs.Common.{◌≡◌, None, map, ap, sym, ◌∙◌}
use Rattle.std.proofs.lemmas.Iterator.{items_from_drains, YieldsList-from_chars}
use Rattle.std.proofs.lemmas.List.{map-id}
use Rattle.std.specs.List.{last_or}
use Rattle.std.specs.Str.{chars}
use Rattle.sheet_rules.proofs.names.last_char.Goals as goal

pub returns : goal.returns
returns c =
    let ran = c.last.ensures.ran in
    let step = ran.1.1 in
    let all : map (λ x. x) ran.0 ≡ chars c.args.name.now = items_from_drains ran.0 (step.0, step.1, λ _. (ran.1.0, step.2)) (YieldsList-from_chars c.args.name.now c.utf8.name cc) in
    ran.2 ∙ ap (last_or None) (sym (map-id ran.0) ∙ all)
