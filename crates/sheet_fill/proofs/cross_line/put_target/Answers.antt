use Rattle.std.proofs.Common.{Some, ap, sym, subst, ◌∙◌}
use Rattle.std.specs.FinMap.{get, insert}
use Rattle.planned_maps.specs.laws.PlanWalks.{put_if}
use Rattle.sheet_fill.specs.FillRanges.{target_place}
use Rattle.sheet_fill.specs.Plans.{CanonicalFill}
use Rattle.sheet_fill.specs.laws.FilledPlaces.{filled_here, linked_here}
use Rattle.sheet_fill.proofs.CanonicalFills.{canonical_put}
use Rattle.sheet_fill.proofs.cross_line.put_target.Goals as goal

pub returns-clause-cells : goal.returns-clause-cells
returns-clause-cells g c =
    let fill = c.args.fill.now in
    c.in_ok-_no_cell.ensures.ok
    ∙ (λ i. insert c.args.cells.now (c.target_place-place.ensures.place i) (Some (c.requires.cell i)))
    ∙ sym (ap (put_if c.args.cells.now (target_place g.A.Axis.along fill.range c.args.at c.args.index))
    (filled_here g.A.Axis.along g.met.A.Axis.lawful fill.range c.args.at c.requires.range.target c.requires.held c.args.index c.requires.index fill.sheet.now fill.locale fill.language))

pub returns-clause-links : goal.returns-clause-links
returns-clause-links g c =
    let fill = c.args.fill.now in
    c.in_ok-_no_link.ensures.ok
    ∙ (λ i. insert c.args.links.now (c.target_place-place.ensures.place i) ((c.in_ok-link.ensures.link ∙ ap (get fill.sheet.now.links) c.source_place.ensures.place) i))
    ∙ sym (ap (put_if c.args.links.now (target_place g.A.Axis.along fill.range c.args.at c.args.index))
    (linked_here g.A.Axis.along g.met.A.Axis.lawful fill.range c.args.at c.requires.range.target c.requires.held c.args.index c.requires.index fill.sheet.now))

pub returns-clause-canonical : goal.returns-clause-canonical
returns-clause-canonical g c =
    subst CanonicalFill (sym c.in_ok-_no_cell.ensures.ok) (canonical_put c.args.cells.now c.requires.canonical c.target_place-place.result c.args.cell c.requires.kept)
