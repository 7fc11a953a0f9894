use Rattle.std.proofs.Common.{◌≡◌, ℤ, Option, ap, sym, subst, ◌∙◌, arith}
use Rattle.std.proofs.lemmas.Int.{ints}
use Rattle.line_edits.specs.Edit.{image_at}
use Rattle.line_edits.specs.Lost.{lost_from, lost_to, beside_lost}
use Rattle.line_edits.specs.Moves.{IsFirstImage}
use Rattle.line_edits.specs.laws.FirstImages.{first_image_is, same_beside}
use Rattle.line_edits.proofs.edit.LineEditLineMap.first_image.Goals as goal

pub returns : goal.returns
returns g c =
    let last : ℤ = g.A.Axis.along.last in
    let kind = c.args.self.now.kind in
    let line = c.args.line in
    let towards = c.args.towards in
    let low : c.lost_from-low.result ≡ lost_from last kind = c.lost_from-low.ensures ∙ ap (λ (l : ℤ). lost_from l kind) (omega (arith, ints, g.met.A.Axis.last_is)) in
    let high : c.lost_to-high.result ≡ lost_to last kind = c.lost_to-high.ensures ∙ ap (λ (l : ℤ). lost_to l kind) (omega (arith, ints, g.met.A.Axis.last_is)) in
    let found : c.beside_lost.result ≡ beside_lost (lost_from last kind) (lost_to last kind) line towards =
    same_beside _ _ _ _ _ _ _ _ _ c.beside_lost.ensures (omega (arith, ints)) (omega (arith, ints)) (omega (arith, ints)) (omega (arith, ints)) in
    let P : Option ℤ → Type 0 = IsFirstImage (image_at last kind) line towards in
    subst P (sym found) (first_image_is last kind c.requires.valid line towards c.requires.line c.requires.towards)
