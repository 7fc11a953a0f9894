use Rattle.std.proofs.Common.{◌∙◌}
use Rattle.line_map.proofs.follow.there_and_back.Goals as goal

pub regain-requires-clause-restores : goal.regain-requires-clause-restores
regain-requires-clause-restores g c =
    rw (c.in_ok-there.ensures.value, c.in_ok-kept.ensures.kept) (g.met.F.Follow.fits c.args.edit.now.kind c.requires.valid c.args.value.now c.requires.lies)

pub returns-clause-value : goal.returns-clause-value
returns-clause-value g c =
    c.in_ok-back.ensures.value
    ∙ (λ i. g.F.Follow.regain_of c.args.edit.now.kind (c.in_ok-there.ensures.value i) (c.in_ok-kept.ensures.kept i))
    ∙ g.met.F.Follow.regains c.args.edit.now.kind c.requires.valid c.args.value.now c.requires.lies
