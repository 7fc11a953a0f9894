-- Laws of places that go with their lines, and of the map that takes the lines back.
use Rattle.std.proofs.Common.{◌≡◌, ℤ, Option, Some, None, refl, ap, ◌∙◌}
use Rattle.std.specs.Prelude.{IfSome}
use Rattle.base_values.specs.declared.Position.{Position}
use Rattle.base_values.specs.Places.{IsLine, IsPlace}
use Rattle.base_axis.specs.Along.{Along, IsAxis}
use Rattle.base_maps.specs.Carried.{Inverse}
use Rattle.base_maps.specs.laws.Inverses.{turned_inverse}
use Rattle.line_edits.specs.Moves.{LineMoves, IsOneToOne, turned, at_line, place_image}

-- the map that takes the lines back is one to one
pub turned_one_to_one : (last : ℤ) (m : LineMoves) → IsOneToOne last m → IsOneToOne last (turned m)
turned_one_to_one last m o = record {
  inverse = turned_inverse o.inverse;
  to_inside = o.from_inside;
  from_inside = o.to_inside;
  fresh = λ n h. absurd (cc);
  merged_inside = o.merged_back_inside;
  merged_back_inside = o.merged_inside;
}

at_line_inside : (a : Along) → IsAxis a → (p : Position) → IsPlace p → (o : Option ℤ) → IfSome o (IsLine a.last) → IfSome (at_line a p o) IsPlace
at_line_inside a l p h None i = tt
at_line_inside a l p h (Some m) i = l.put_inside p m h i

-- an image is a place of the sheet
pub image_inside : (a : Along) → IsAxis a → (m : LineMoves) → IsOneToOne a.last m → (p : Position) → IsPlace p → IfSome (place_image a m.to p) IsPlace
unfolding place_image
image_inside a l m o p h = at_line_inside a l p h _ (o.to_inside (a.line p))

home_at : (a : Along) → IsAxis a → (m : LineMoves) → IsOneToOne a.last m → (p : Position) (o : Option ℤ) → m.to (a.line p) ≡ o → (q : Position) → at_line a p o ≡ Some q → at_line a q (m.from (a.line q)) ≡ Some p
home_at a l m one p None e q i = absurd (cc)
home_at a l m one p (Some n) e q i =
    let is : q ≡ a.with_line p n = cc in
    let line : a.line q ≡ n = ap a.line is ∙ l.line_put p n in
    ap (λ k. at_line a q (m.from k)) line
    ∙ ap (at_line a q) (one.inverse.back (a.line p) n e)
    ∙ ap Some (ap (λ t. a.with_line t (a.line p)) is ∙ l.put_twice p n (a.line p) ∙ l.own_line p)

image_home : (a : Along) → IsAxis a → (m : LineMoves) → IsOneToOne a.last m → (p q : Position) → place_image a m.to p ≡ Some q → place_image a m.from q ≡ Some p
unfolding place_image
image_home a l m one p q h = home_at a l m one p _ refl q h

-- places go to and fro along a map
pub image_inverse : (a : Along) → IsAxis a → (m : LineMoves) → IsOneToOne a.last m → Inverse (place_image a m.to) (place_image a m.from)
image_inverse a l m one = record {
  back = λ p q h. image_home a l m one p q h;
  forth = λ p q h. image_home a l (turned m) (turned_one_to_one a.last m one) q p h;
}
