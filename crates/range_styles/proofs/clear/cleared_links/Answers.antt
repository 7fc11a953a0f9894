use Rattle.std.proofs.Common.{Option, None, sym, subst}
use Rattle.sheet_grid.specs.declared.Link.{Link}
use Rattle.range_styles.specs.Clearing.{place_unlinked}
use Rattle.range_styles.specs.PlaceWalks.{MakesThere}
use Rattle.range_styles.specs.laws.ClearLaws.{made_there}
use Rattle.range_styles.proofs.clear.cleared_links.Goals as goal

pub plan_there-requires-clause-there : goal.plan_there-requires-clause-there
plan_there-requires-clause-there c =
    let gone : Link → Option Link = λ link. None in
    subst (MakesThere (place_unlinked c.args.area c.args.sheet.now)) (sym c.link_map.ensures) (made_there c.args.area gone c.args.sheet.now.links)
