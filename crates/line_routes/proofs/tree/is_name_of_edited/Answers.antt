use Rattle.std.proofs.Common.{◌≡◌, ap, sym, ◌∙◌}
use Rattle.std.specs.Cmp.Lexicographic.{bytes_decides}
use Rattle.std.specs.Str.{chars}
use Rattle.base_tables.specs.Folding.{folded}
use Rattle.base_tables.specs.laws.Folding.{same_folded_decides}
use Rattle.line_routes.proofs.tree.is_name_of_edited.Goals as goal

pub returns-then-eq : goal.returns-then-eq
returns-then-eq g c =
    let name = c.args.name.now in
    let edited = c.args.route.now.edited.now in
    let same : name ≡ edited = (bytes_decides name edited).0 (sym c.eq.ensures ∙ c.if-eq.true) in
    c.if-eq.true ∙ sym ((same_folded_decides name edited).1 (ap (λ text. folded (chars text)) same))
