use Rattle.std.proofs.Common.{sym, subst, SFits, w32, rules}
use Rattle.std.proofs.lemmas.Int.{to_z-of_z}
use Rattle.base_values.specs.declared.Position.{Position}
use Rattle.base_values.specs.Places.{IsPlace}
use Rattle.line_edits.proofs.places.place_image.Goals as goal

pub returns-in-Some-clause-inside : goal.returns-in-Some-clause-inside
returns-in-Some-clause-inside g c = λ is.
    let P : Position → Type 0 = λ p. IsPlace p in
    let l = g.met.A.Axis.lawful in
    let f : SFits w32 c.in-Some.line = search rules in
    subst P (sym (simp to_z-of_z at c.with_line.ensures)) (l.put_inside c.args.place c.in-Some.line is c.in-Some.ensures.inside)
