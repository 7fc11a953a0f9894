-- References and ranges.
use Rattle.std.specs.Prelude.{◌≡◌, ℕ, pos, Bool, true, false, ◌&&◌, if◌then◌else◌, List, [], ◌∷◌, Option, Ok, Err}
use Rattle.std.proofs.Common.{refl, arith, ◌∙◌}
use Rattle.base_values.specs.declared.EditError.TheVariants.{InvalidRow, InvalidColumn}
use Rattle.base_values.specs.declared.Position.{Position}
use Rattle.base_values.specs.Places.{is_line, place_of}
use Rattle.base_tables.specs.laws.Tables.{both_parts}
use Rattle.formula_tree.specs.declared.Corner.{Corner}
use Rattle.formula_tree.specs.declared.Node.TheVariants as n
use Rattle.formula_tree.specs.Corners.{corner_row, corner_column, is_inside, are_in_order}
use Rattle.formula_tree.specs.Placed.{is_placed_range}
use Rattle.formula_tree.specs.laws.CornerLaws.{corner_to-corner, lower-in_order, higher-in_order}
use Rattle.formula_grammar.specs.declared.Profile.{Profile}
use Rattle.formula_grammar.specs.declared.Token.TheVariants as t
use Rattle.formula_grammar.specs.Grammar.{reference, range}
use Rattle.formula_grammar.specs.Words.{mark_place, corner_of, range_node}
use Rattle.formula_round.specs.Tokens.{mark_of}
use Rattle.formula_round.proofs.Expressions.{Expressed}

-- where a corner stands
abbrev spot : Position → Corner → Position
spot place corner = record { row = corner_row place corner; column = corner_column place corner }

inside_both : (rows columns : Bool) (at : Position) → rows && columns ≡ true
    → (if rows then (if columns then Ok at else Err InvalidColumn) else Err InvalidRow) ≡ Ok at
inside_both true true at inside = refl
inside_both true false at inside = absurd cc
inside_both false columns at inside = absurd cc

-- the mark of a corner inside the sheet stands where the corner does
marks : (place : Position) (corner : Corner) → is_inside place corner ≡ true → mark_place (mark_of place corner) ≡ Ok (spot place corner)
unfolding is_inside place_of
marks place corner inside =
    inside_both (is_line (pos 1048576) (corner_row place corner)) (is_line (pos 16384) (corner_column place corner)) (spot place corner) inside

-- and has its corner
remade : (place : Position) (corner : Corner) → corner_of place (mark_of place corner) (spot place corner) ≡ corner
remade place corner = corner_to-corner place corner

pub reference_expressed : (p : Profile) (sheet : Option (List ℕ)) (corner : Corner) → is_inside p.place corner ≡ true
    → Expressed p 0 (t.Reference sheet (mark_of p.place corner) ∷ []) (n.Reference sheet corner) 1
reference_expressed p sheet corner inside = record {
  by = reference sheet (mark_of p.place corner) (spot p.place corner) (marks p.place corner inside);
  spells = refl;
  gives = λ i. n.Reference sheet (remade p.place corner i);
  open_few = omega arith;
}

ordered : (place : Position) (sheet : Option (List ℕ)) (first second : Corner) → are_in_order place first second ≡ true
    → range_node place sheet first second ≡ n.Range sheet first second
ordered place sheet first second in_order = λ i. n.Range sheet (lower-in_order place first second in_order i) (higher-in_order place first second in_order i)

placed_parts : (place : Position) (first second : Corner) → is_placed_range place first second ≡ true
    → (is_inside place first ≡ true) × (is_inside place second ≡ true) × (are_in_order place first second ≡ true)
unfolding is_placed_range
placed_parts place first second placed =
    let parts = both_parts (is_inside place first && is_inside place second) (are_in_order place first second) placed in
    let inside = both_parts (is_inside place first) (is_inside place second) parts.0 in
    (inside.0, inside.1, parts.1)

pub range_expressed : (p : Profile) (sheet : Option (List ℕ)) (first second : Corner) → is_placed_range p.place first second ≡ true
    → Expressed p 0 (t.Range sheet (mark_of p.place first) (mark_of p.place second) ∷ []) (n.Range sheet first second) 2
range_expressed p sheet first second placed =
    let parts = placed_parts p.place first second placed in
    record {
      by =
          range sheet (mark_of p.place first) (mark_of p.place second) (spot p.place first) (spot p.place second)
          (marks p.place first parts.0) (marks p.place second parts.1);
      spells = refl;
      gives = (λ i. range_node p.place sheet (remade p.place first i) (remade p.place second i)) ∙ ordered p.place sheet first second parts.2;
      open_few = omega arith;
    }
