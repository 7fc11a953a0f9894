-- What fits a place is not deep, and what changes so that its tree fits another place fits there.
use Rattle.std.specs.Prelude.{◌≡◌, Bool, ◌&&◌, true, Option, Some, None}
use Rattle.std.specs.Option.{option_map, option_map_or}
use Rattle.std.proofs.Common.{refl, ap, ◌∙◌, arith}
use Rattle.base_values.specs.declared.Position.{Position}
use Rattle.formula_tree.specs.declared.Node.{Node}
use Rattle.formula_tree.specs.Depth.{is_within}
use Rattle.cell_content.specs.declared.content.Content.{Content}
use Rattle.cell_content.specs.Lens.{tree_of, content_changed}
use Rattle.cell_content.specs.Fitting.{tree_fits_at, fits_at, is_shallow}
use Rattle.cell_content.specs.laws.ChangedLaws.{tree_of-changed}

second : (a b c : Bool) → a && b && c ≡ true → b ≡ true
second a b c all = grind arith

shallow_tree : (place : Position) (tree : Node) → tree_fits_at place tree ≡ true → is_within 64 tree ≡ true
unfolding tree_fits_at
shallow_tree place tree fits = second _ _ _ fits

shallow_where_tree_fits : (place : Position) (o : Option Node) → option_map_or (tree_fits_at place) o true ≡ true → option_map_or (is_within 64) o true ≡ true
shallow_where_tree_fits place None fits = refl
shallow_where_tree_fits place (Some tree) fits = shallow_tree place tree fits

pub shallow_where_fits : (place : Position) (content : Content) → fits_at place content ≡ true → is_shallow content ≡ true
shallow_where_fits place content fits = shallow_where_tree_fits place (tree_of content) fits

pub changed_fits : (change : Node → Node) (from to : Position) → ((tree : Node) → tree_fits_at from tree ≡ true → tree_fits_at to (change tree) ≡ true) →
    (content : Content) → fits_at from content ≡ true → fits_at to (content_changed change content) ≡ true
changed_fits change from to each content fits = ap (λ o. option_map_or (tree_fits_at to) o true) (tree_of-changed change content) ∙ go (tree_of content) fits
  where
    go : (o : Option Node) → option_map_or (tree_fits_at from) o true ≡ true → option_map_or (tree_fits_at to) (option_map change o) true ≡ true
    go None fits = refl
    go (Some tree) fits = each tree fits
