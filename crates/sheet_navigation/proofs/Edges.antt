-- Merges that are inside a sheet, and their anchors.
use Rattle.std.proofs.Common.{◌≡◌, ℤ, Bool, true, false, List, [], ◌∷◌, Option, Some, None, cond, refl, ap, sym, subst, ◌∙◌, arith}
use Rattle.std.specs.Prelude.{Result, Ok, IfSome}
use Rattle.std.specs.List.{All, find}
use Rattle.std.specs.Option.{option_map_or}
use Rattle.std.proofs.lemmas.Int.{ints}
use Rattle.std.proofs.lemmas.List.Elements.{All-tail}
use Rattle.std.specs.Result.{result_unwrap_or}
use Rattle.base_values.specs.declared.EditError.{EditError}
use Rattle.base_values.specs.declared.Position.{Position}
use Rattle.base_values.specs.Answers.{map_ok}
use Rattle.base_values.specs.Places.{IsPlace, place_of}
use Rattle.base_axis.specs.declared.MergedCell.{MergedCell}
use Rattle.base_axis.specs.Rectangles.{IsInside, holds, anchor_place, last_row, last_column}
use Rattle.base_axis.specs.laws.RectangleLaws.{held_inside}
use Rattle.sheet_grid.specs.Merges.{merge_holding, anchor_of, is_blank, blank_at}
use Rattle.sheet_grid.specs.Sheet.{Sheet}
use Rattle.sheet_navigation.specs.declared.direction.NavigationDirection.{NavigationDirection}
use Rattle.sheet_navigation.specs.declared.direction.NavigationDirection.TheVariants.{Left, Right, Up, Down}
use Rattle.sheet_navigation.specs.Navigated.{far_edge, walk_start, shows_nothing}

-- the merge that holds a place is one of the list, and holds it
pub record Held (place : Position) (merge : MergedCell) : Type 0 where
  pub inside : IsInside merge
  pub holds_it : holds merge place ≡ true

held_at : (place : Position) (merge : MergedCell) (rest : List MergedCell) (b : Bool) → holds merge place ≡ b → IsInside merge → IfSome (find (λ m. holds m place) rest) (Held place) → IfSome (cond b (Some merge) (find (λ m. holds m place) rest)) (Held place)
held_at place merge rest true is inside others = record { inside = inside; holds_it = is }
held_at place merge rest false is inside others = others

pub held : (merges : List MergedCell) (place : Position) → All IsInside merges → IfSome (merge_holding merges place) (Held place)
held [] place all = tt
held (merge ∷ merges) place all = held_at place merge merges _ refl (all 0 merge (omega arith)) (held merges place (All-tail IsInside merge merges all))

anchor_at : (place : Position) (o : Option MergedCell) → IsPlace place → IfSome o (Held place) → IsPlace (option_map_or anchor_place o place)
anchor_at place None h found = h
anchor_at place (Some merge) h found = found.inside.first

-- the anchor of a place is a place of the sheet
pub anchor_inside : (merges : List MergedCell) (place : Position) → All IsInside merges → IsPlace place → IsPlace (anchor_of merges place)
anchor_inside merges place all h = anchor_at place (merge_holding merges place) h (held merges place all)

pub place_found : (place : Position) → IsPlace place → place_of place.row place.column ≡ Ok place
unfolding place_of
place_found place h = let a = h.0.0 in let b = h.0.1 in let c = h.1.0 in let d = h.1.1 in grind (arith, ints)

-- the place at the far edge of a merge, as its row and its column
pub left_edge : (d : NavigationDirection) (merge : MergedCell) (place : Position) (row column : ℤ) → d ≡ Left → row ≡ place.row → column ≡ merge.column → record { row = row; column = column } ≡ far_edge d merge place
unfolding far_edge
left_edge d merge place row column is r c = (λ i. record { row = r i; column = c i }) ∙ sym (ap (λ e. far_edge e merge place) is)

pub right_edge : (d : NavigationDirection) (merge : MergedCell) (place : Position) (row column : ℤ) → d ≡ Right → row ≡ place.row → column ≡ last_column merge → record { row = row; column = column } ≡ far_edge d merge place
unfolding far_edge
right_edge d merge place row column is r c = (λ i. record { row = r i; column = c i }) ∙ sym (ap (λ e. far_edge e merge place) is)

pub up_edge : (d : NavigationDirection) (merge : MergedCell) (place : Position) (row column : ℤ) → d ≡ Up → row ≡ merge.row → column ≡ place.column → record { row = row; column = column } ≡ far_edge d merge place
unfolding far_edge
up_edge d merge place row column is r c = (λ i. record { row = r i; column = c i }) ∙ sym (ap (λ e. far_edge e merge place) is)

pub down_edge : (d : NavigationDirection) (merge : MergedCell) (place : Position) (row column : ℤ) → d ≡ Down → row ≡ last_row merge → column ≡ place.column → record { row = row; column = column } ≡ far_edge d merge place
unfolding far_edge
down_edge d merge place row column is r c = (λ i. record { row = r i; column = c i }) ∙ sym (ap (λ e. far_edge e merge place) is)

-- it is a place of the sheet
pub edge_inside : (d : NavigationDirection) (merge : MergedCell) (place : Position) → IsInside merge → holds merge place ≡ true → IsPlace (far_edge d merge place)
unfolding far_edge
edge_inside Left merge place inside h = ((held_inside merge place inside h).0, inside.first.1)
edge_inside Right merge place inside h = ((held_inside merge place inside h).0, inside.last.1)
edge_inside Up merge place inside h = (inside.first.0, (held_inside merge place inside h).1)
edge_inside Down merge place inside h = (inside.last.0, (held_inside merge place inside h).1)

-- ---- what the calls of a sheet say, whose numbers are those of a place

same_place : (place : Position) (row column : ℤ) → row ≡ place.row → column ≡ place.column → record { row = row; column = column } ≡ place
same_place place row column r c = λ i. record { row = r i; column = c i }

module _ (sheet : Sheet) (place : Position) (row column : ℤ) (r : row ≡ place.row) (c : column ≡ place.column) where
  at_place : {X : Type 0} (f : Position → X) → f (record { row = row; column = column }) ≡ f place
  at_place f = ap f (same_place place row column r c)

  pub held_from : (o : Option MergedCell) (merge : MergedCell) → o ≡ merge_holding sheet.merges (record { row = row; column = column }) → o ≡ Some merge → All IsInside sheet.merges → Held place merge
  held_from o merge e f all =
      let P : Option MergedCell → Type 0 = λ x. IfSome x (Held place) in
      subst P (sym (at_place (merge_holding sheet.merges)) ∙ (sym e ∙ f)) (held sheet.merges place all)

  pub start_from : (d : NavigationDirection) (o : Option MergedCell) → o ≡ merge_holding sheet.merges (record { row = row; column = column }) → option_map_or (λ merge. far_edge d merge place) o place ≡ walk_start sheet d place
  unfolding walk_start
  start_from d o e = ap (λ x. option_map_or (λ merge. far_edge d merge place) x place) (e ∙ at_place (merge_holding sheet.merges))

  module _ (all : All IsInside sheet.merges) (h : IsPlace place) (first second : ℤ) (e : first ≡ (anchor_of sheet.merges (record { row = row; column = column })).row) (f : second ≡ (anchor_of sheet.merges (record { row = row; column = column })).column) where
    is_anchor : record { row = first; column = second } ≡ anchor_of sheet.merges place
    is_anchor = same_place (anchor_of sheet.merges place) first second
        (e ∙ ap (λ (p : Position). p.row) (at_place (anchor_of sheet.merges)))
        (f ∙ ap (λ (p : Position). p.column) (at_place (anchor_of sheet.merges)))

    pub anchor_from : IsPlace (record { row = first; column = second })
    anchor_from = subst IsPlace (sym is_anchor) (anchor_inside sheet.merges place all h)

    pub blank_from : (m n : ℤ) → m ≡ first → n ≡ second → (answer : Result Bool EditError) (value : Bool) → answer ≡ blank_at sheet m n → value ≡ result_unwrap_or answer true → value ≡ shows_nothing sheet place
    unfolding shows_nothing
    blank_from m n a b answer value g k =
        k
        ∙ (ap (λ x. result_unwrap_or x true) (g ∙ (λ i. blank_at sheet (a i) (b i)))
        ∙ (ap (λ x. result_unwrap_or (map_ok (is_blank sheet) x) true) (place_found (record { row = first; column = second }) anchor_from)
        ∙ ap (is_blank sheet) is_anchor))
