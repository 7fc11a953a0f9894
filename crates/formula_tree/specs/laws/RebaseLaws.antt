-- A rebased tree is placed and as deep as it was, and a placed tree stays as it is.
use Rattle.std.specs.Prelude.{◌≡◌, Bool, true, false, ◌&&◌, if◌then◌else◌, Some, None, IfSome}
use Rattle.std.proofs.Common.{refl, ap, arith}
use Rattle.base_values.specs.declared.Position.{Position}
use Rattle.formula_tree.specs.declared.corner.Corner.{Corner}
use Rattle.formula_tree.specs.declared.node.Node.{Node}
use Rattle.formula_tree.specs.Corners.{is_inside}
use Rattle.formula_tree.specs.Depth.{depth_of}
use Rattle.formula_tree.specs.laws.MovedLaws.{depth-moved}
use Rattle.formula_tree.specs.Placed.{is_placed}
use Rattle.formula_tree.specs.laws.PlacedLaws.{moved-placed, placed-moved}
use Rattle.formula_tree.specs.Rebase.{same_corner, filling, rebased}

-- a rebased tree is as deep as it was
pub depth-rebased : (to : Position) (n : Node) → depth_of (rebased to n) ≡ depth_of n
unfolding rebased
depth-rebased to n = depth-moved to (filling to) n

-- a corner inside is kept
kept_inside : (to : Position) (corner : Corner) → is_inside to corner ≡ true → same_corner to corner ≡ Some corner
unfolding same_corner
kept_inside to corner inside = ap (λ t. if t then Some corner else None) inside

left : (a b : Bool) → a && b ≡ true → a ≡ true
left a b both = grind arith

right : (a b : Bool) → a && b ≡ true → b ≡ true
right a b both = grind arith

-- a tree whose corners are inside and in order is rebased to itself
pub rebased-placed : (to : Position) (n : Node) → is_placed to n ≡ true → rebased to n ≡ n
unfolding rebased
rebased-placed to = moved-placed to (filling to) (record {
  reference = λ sheet corner inside. kept_inside to corner inside;
  first = λ sheet first second inside. kept_inside to first (left (is_inside to first) (is_inside to second) inside);
  second = λ sheet first second inside. kept_inside to second (right (is_inside to first) (is_inside to second) inside);
})

kept_if : (to : Position) (corner : Corner) (inside : Bool) → is_inside to corner ≡ inside → IfSome (if inside then Some corner else None) (λ c. is_inside to c ≡ true)
kept_if to corner true inside = inside
kept_if to corner false _ = tt

-- what is kept is inside
inside_kept : (to : Position) (corner : Corner) → IfSome (same_corner to corner) (λ c. is_inside to c ≡ true)
unfolding same_corner
inside_kept to corner = kept_if to corner (is_inside to corner) refl

-- the corners of a rebased tree are inside and in order
pub placed-rebased : (to : Position) (n : Node) → is_placed to (rebased to n) ≡ true
unfolding rebased
placed-rebased to n = placed-moved true to to (filling to) (record {
  reference = λ sheet corner _. inside_kept to corner;
  first = λ sheet first second _. inside_kept to first;
  second = λ sheet first second _. inside_kept to second;
}) n refl
