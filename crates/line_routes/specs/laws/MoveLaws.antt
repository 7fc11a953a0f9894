-- Where every line has an image, only ranges that become whole have to be kept.
use Rattle.std.proofs.Common.{◌≡◌, ℕ, ℤ, Bool, true, false, List, Option, Some, None, refl, ap, ◌∙◌, arith}
use Rattle.std.specs.Prelude.{◌&&◌, is_some, is_none}
use Rattle.base_values.specs.declared.Position.{Position}
use Rattle.base_values.specs.Places.{IsLine}
use Rattle.base_maps.specs.Carried.{if_there}
use Rattle.formula_tree.specs.declared.Corner.{Corner}
use Rattle.formula_tree.specs.Corners.{is_inside, are_in_order}
use Rattle.formula_tree.specs.Placed.{is_placed_range}
use Rattle.line_edits.specs.declared.EditKind.{EditKind}
use Rattle.line_edits.specs.declared.EditKind.TheVariants.{Insert, Delete, Move}
use Rattle.line_edits.specs.Edit.{image_at, IsValid}
use Rattle.line_edits.specs.Moves.{at_line, place_image}
use Rattle.line_edits.specs.laws.Images.{move_image, move_parts}
use Rattle.line_routes.specs.MustKeep.{keeps_reference, is_given_up, keeps_range, BecomesWhole, is_move}
use Rattle.line_routes.specs.Trees.{corner_of, is_exposed, is_on_edited, moved_corner}
use Rattle.line_routes.specs.RouteModel.{RouteModel, IsRoute, place_goes}
use Rattle.line_routes.specs.laws.CornersBack.{place_of, moved_goes, corner_place_inside}

-- every line of the axis has an image
abbrev pub LosesNone : RouteModel → Type 0
LosesNone w = (n : ℤ) → IsLine w.along.last n → is_some (w.moves.to n) ≡ true

-- as under a move
pub move_loses_none : (last first count delta n : ℤ) → IsValid last (Move first count delta) → IsLine last n →
    is_some (image_at last (Move first count delta) n) ≡ true
move_loses_none last first count delta n valid line = ap is_some (move_image last first count delta n (move_parts last first count delta valid) line)

not_none : (o : Option Corner) → is_some o ≡ true → is_none o ≡ false
not_none (Some corner) h = refl
not_none None h = absurd (cc)

and_parts : (a b : Bool) → a && b ≡ true → (a ≡ true) × (b ≡ true)
and_parts a b h = (grind arith, grind arith)

and_false : (a b : Bool) → b ≡ false → a && b ≡ false
and_false a b h = grind arith

module _ (w : RouteModel) (is : IsRoute w) (none : LosesNone w) where
  put : (p : Position) (o : Option ℤ) → is_some o ≡ true → is_some (at_line w.along p o) ≡ true
  put p (Some n) h = refl
  put p None h = absurd (cc)

  carried : (corner : Corner) (o : Option Position) → is_some o ≡ true → is_some (if_there o (λ place. Some (corner_of w.to corner place))) ≡ true
  carried corner (Some place) h = refl
  carried corner None h = absurd (cc)

  corner_goes : (corner : Corner) → is_inside w.from corner ≡ true → is_some (moved_corner w true corner) ≡ true
  unfolding place_goes place_image
  corner_goes corner inside =
      let p : Position = place_of w.from corner in
      ap is_some (moved_goes w true corner inside)
      ∙ carried corner (at_line w.along p (w.moves.to (w.along.line p)))
      (put p (w.moves.to (w.along.line p)) (none (w.along.line p) (is.axis.line_inside p (corner_place_inside w.from corner inside))))

  -- no reference has to be kept
  pub references_stay : (sheet : Option (List ℕ)) (corner : Corner) → is_inside w.from corner ≡ true → keeps_reference w sheet corner ≡ false
  unfolding keeps_reference
  references_stay sheet corner inside = and_false (is_on_edited w.is_edited w.edited sheet) (is_none (moved_corner w true corner))
      (not_none (moved_corner w true corner) (corner_goes corner inside))

  becomes_at : (sheet : Option (List ℕ)) (first second : Corner) → is_exposed w sheet first second ≡ true → (o u : Option Corner) →
      moved_corner w true first ≡ o → moved_corner w true second ≡ u →
      is_some o ≡ true → is_some u ≡ true → is_given_up w o u ≡ true → BecomesWhole w sheet first second
  becomes_at sheet first second exposed (Some one) (Some other) e f h i given =
      record { exposed = exposed; one = one; other = other; first_goes = e; second_goes = f; whole = given }
  becomes_at sheet first second exposed (Some one) None e f h i given = absurd (cc)
  becomes_at sheet first second exposed None u e f h i given = absurd (cc)

  inside_parts : (first second : Corner) → is_placed_range w.from first second ≡ true → (is_inside w.from first ≡ true) × (is_inside w.from second ≡ true)
  unfolding is_placed_range
  inside_parts first second h =
      and_parts (is_inside w.from first) (is_inside w.from second)
      (and_parts (is_inside w.from first && is_inside w.from second) (are_in_order w.from first second) h).0

  -- and a range that has to be kept becomes whole
  pub kept_ranges_become_whole : (sheet : Option (List ℕ)) (first second : Corner) → is_placed_range w.from first second ≡ true →
      keeps_range w sheet first second ≡ true → BecomesWhole w sheet first second
  unfolding keeps_range
  kept_ranges_become_whole sheet first second placed kept =
      let inside = inside_parts first second placed in
      let parts = and_parts (is_exposed w sheet first second) (is_given_up w (moved_corner w true first) (moved_corner w true second)) kept in
      becomes_at sheet first second parts.0 _ _ refl refl (corner_goes first inside.0) (corner_goes second inside.1) parts.1

-- after a move of lines
pub move_way_loses_none : (w : RouteModel) (kind : EditKind) → is_move kind ≡ true → IsValid w.along.last kind → w.moves.to ≡ image_at w.along.last kind → LosesNone w
move_way_loses_none w (Move first count delta) h valid moves = λ n line. ap (λ f. is_some (f n)) moves
    ∙ move_loses_none w.along.last first count delta n valid line
move_way_loses_none w (Insert first count) h valid moves = absurd (cc)
move_way_loses_none w (Delete first count) h valid moves = absurd (cc)
