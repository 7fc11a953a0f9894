-- What holds of a workbook that follows, and of one that is taken back.
use Rattle.std.proofs.Common.{◌≡◌, ◌⊎◌, inl, inr, ℕ, ℤ, true, false, List, [], ◌∷◌, map, Option, Some, None, ap, sym, subst}
use Rattle.std.specs.Prelude.{IfSome, IsTrue, if◌then◌else◌}
use Rattle.std.specs.Option.{option_map}
use Rattle.std.specs.List.{AllByRecursion}
use Rattle.std.specs.Cmp.{int_cmp_total}
use Rattle.std.specs.Ordering.{int_cmp, nat_cmp}
use Rattle.std.proofs.lemmas.Map.Lookups.{exact_signed}
use Rattle.std.specs.FinMap.{FinMap, get}
use Rattle.base_values.specs.declared.Position.{Position}
use Rattle.base_values.specs.Places.{IsLine, IsPlace, position_cmp}
use Rattle.base_values.specs.laws.Places.{position_total, exact_positions}
use Rattle.base_axis.specs.Along.{Along, IsAxis, rows, columns}
use Rattle.base_axis.specs.declared.MergedCell.{MergedCell}
use Rattle.base_maps.specs.Carried.{if_there, lost_map, overlaid, settled}
use Rattle.base_maps.specs.SheetPlaces.{sheet_place_cmp}
use Rattle.base_maps.specs.Tagged.{place_on}
use Rattle.base_maps.specs.laws.Each.{Each, each_found, each_from, each_gathered, each_lost, each_overlaid, holds_of, keys_lost, no_entry}
use Rattle.base_maps.specs.laws.Inverses.{own_inverse, turned_inverse}
use Rattle.formula_tree.specs.declared.Node.{Node}
use Rattle.formula_tree.specs.declared.numbers.NumberRule.TheVariants.{Canonical}
use Rattle.formula_tree.specs.Numbers.{has_canonical_numbers}
use Rattle.formula_tree.specs.Placed.{is_placed}
use Rattle.formula_back.specs.laws.MovedNumbers.{numbers-moved}
use Rattle.cell_content.specs.Lens.{tree_of}
use Rattle.cell_content.specs.laws.ChangedLaws.{changed-kept}
use Rattle.cell_content.specs.laws.LensLaws.{tree_of-with_tree, tree_of-kept, with_tree-kept}
use Rattle.format_rules.specs.declared.ConditionalFormatting.{ConditionalFormatting}
use Rattle.sheet_grid.specs.declared.Cell.{Cell}
use Rattle.sheet_grid.specs.CanonicalCell.{IsCanonicalCell, CanonicalCells}
use Rattle.sheet_grid.specs.Sheet.{Sheet}
use Rattle.line_edits.specs.declared.EditKind.{EditKind}
use Rattle.line_edits.specs.Edit.{IsValid}
use Rattle.line_edits.specs.Moves.{edit_moves, place_image}
use Rattle.line_edits.specs.laws.OneToOne.{edit_one_to_one}
use Rattle.line_map.specs.Attributes.{LinesInside}
use Rattle.line_map.specs.Contents.{cell_carried, cell_part, cell_restored}
use Rattle.line_map.specs.Maps.{lost_along, places_carried, places_parts, places_restored}
use Rattle.line_routes.specs.Merges.{merges_carried, merges_part, MergesInside}
use Rattle.line_routes.specs.Trees.{following, tree_carried, tree_part}
use Rattle.line_routes.specs.RouteModel.{RouteModel, IsRoute, at, back, place_goes}
use Rattle.line_map.specs.laws.ContentLaws.{cell_stays}
use Rattle.line_routes.specs.laws.MergeLaws.{merges_part_fits, merges_stay}
use Rattle.line_routes.specs.laws.TreeLaws.{tree_restores}
use Rattle.line_routes.specs.laws.RouteLaws.{at_is_route, back_is_route, goes_inverse}
use Rattle.line_map.specs.Canonical.{KeptInside}
use Rattle.line_map.specs.Rules.{rules_restored, RulesInside}
use Rattle.line_map.specs.laws.RuleLaws.{kept_numbers, restored_are_inside, rules_stay}
use Rattle.sheet_lines.specs.declared.kept.KeptLines.{KeptLines}
use Rattle.sheet_lines.specs.Back.{AreCanonicalFormulas, sheet_back, sheets_back, KeptLinesInside, ArePlacedLines}
use Rattle.sheet_lines.specs.Part.{merges_back, formattings_back}
use Rattle.sheet_lines.specs.Workbooks.{IsSoundSheet, LinesFit}
use Rattle.sheet_lines.specs.Followed.{edited_route, route_of, route_on, sheet_followed, sheets_followed}
use Rattle.sheet_lines.specs.Kept.{lines_of, kept_of}
use Rattle.sheet_lines.specs.Sheets.{IsPlacedCell, IsPlacedSheet}

-- ---- cells

-- a fact of cells at their places that following keeps, and putting trees back that have a fact of their own
pub record Stays (P : Position → Cell → Type 0) (Q : Position → Node → Type 0) : Type 0 where
  pub carried : (w : RouteModel) → IsRoute w → (p q : Position) (x : Cell) → P p x → P q (cell_carried (at w p q) x)
  pub restored : (p q : Position) (x : Cell) (k : Node) → P q x → Q p k → P p (cell_restored x k)

abbrev pub HasCanonicalNumbers : Node → Type 0
HasCanonicalNumbers tree = IsTrue (has_canonical_numbers tree)

numbers_carried : (w : RouteModel) (tree : Node) → HasCanonicalNumbers tree → HasCanonicalNumbers (tree_carried w tree)
unfolding tree_carried
numbers_carried w tree numbers = subst IsTrue (sym (numbers-moved Canonical w.to (following w) tree)) numbers

-- numbers stay canonical
pub numbers_stay : Stays (λ _. IsCanonicalCell) (λ _. HasCanonicalNumbers)
numbers_stay = record {
  carried = λ w is p q x h. changed-kept (tree_carried (at w p q)) x.content
      (numbers_carried (at w p q)) h;
  restored = λ p q x k h kept. with_tree-kept x.content k h kept;
}

placed_tree : (p : Position) (k : Node) (o : Option Node) → is_placed p k ≡ true → IfSome (option_map (λ _. k) o) (λ tree. is_placed p tree ≡ true)
placed_tree p k None h = tt
placed_tree p k (Some tree) h = h

-- formulas may stand at their places
pub places_stay : Stays IsPlacedCell (λ place tree. is_placed place tree ≡ true)
places_stay = record {
  carried = λ w is p q x h. cell_stays (at w p q) (at_is_route w is p q) x h;
  restored = λ p q x k h placed. subst (λ o. IfSome o (λ tree. is_placed p tree ≡ true)) (sym (tree_of-with_tree x.content k))
      (placed_tree p k (tree_of x.content) placed);
}

-- ---- sheets

module _ (w : RouteModel) (is : IsRoute w) where
  module _ (P : Position → Cell → Type 0) (Q : Position → Node → Type 0) (stays : Stays P Q) (cells : FinMap position_cmp Cell) (all : Each P cells) where
    -- a fact of cells holds of those that follow
    pub followed_are : Each P (places_carried cell_carried w cells)
    followed_are =
        each_gathered position_cmp position_total exact_positions P (place_goes w) (place_goes (back w)) (goes_inverse w is)
        (λ p q x. Some (cell_carried (at w p q) x)) cells
        (λ p q x there held. stays.carried w is p q x (each_found position_cmp P cells all p x held))

    settled_are : (p q : Position) (x : Cell) → P q x → (o : Option Node) → IfSome o (Q p) → P p (settled (cell_carried (back (at w p q))) cell_restored o x)
    settled_are p q x h None part = stays.carried (back w) (back_is_route w is) q p x h
    settled_are p q x h (Some k) part = stays.restored p q x k h part

    -- and of those that are taken back, with cells and trees of which it holds
    pub back_are : (lost : FinMap position_cmp Cell) (parts : Position → Option Node) → Each P lost → ((p : Position) → IfSome (parts p) (Q p)) →
        Each P (overlaid (lost_along w.is_edited lost) (places_restored cell_carried (λ _ cell tree. cell_restored cell tree) w parts cells))
    back_are lost parts laid fit =
        let restored = places_restored cell_carried (λ _ cell tree. cell_restored cell tree) w parts cells in
        let all_restored : Each P restored =
        each_gathered position_cmp position_total exact_positions P (place_goes (back w)) (place_goes w) (turned_inverse (goes_inverse w is))
        (λ q p x. Some (settled (cell_carried (back (at w p q))) cell_restored (parts p) x)) cells
        (λ q p x home held. settled_are p q x (each_found position_cmp P cells all q x held) (parts p) (fit p)) in
        each_overlaid position_cmp position_total exact_positions P (lost_along w.is_edited lost) restored
        (elim w.is_edited as (λ t. Each P (lost_along t lost)) [ true ↦ laid | false ↦ no_entry position_cmp P ]) all_restored

  part_at : (v : RouteModel) (o : Option Node) → IfSome o HasCanonicalNumbers → IfSome (if_there o (tree_part v)) HasCanonicalNumbers
  part_at v None h = tt
  part_at v (Some tree) h = holds_of HasCanonicalNumbers (tree_part v tree) (λ part g. subst HasCanonicalNumbers (sym (tree_restores v tree part g)) h)

  part_kept : (p : Position) (o : Option Position) (x : Cell) → IsCanonicalCell x → IfSome (if_there o (λ q. cell_part (at w p q) x)) HasCanonicalNumbers
  part_kept p None x h = tt
  part_kept p (Some q) x h = part_at (at w p q) (tree_of x.content) (tree_of-kept x.content h)

  -- numbers of the trees that are kept of cells are canonical
  pub parts_kept : (m : FinMap position_cmp Cell) → CanonicalCells m → AreCanonicalFormulas (places_parts cell_part w m)
  parts_kept m h =
      each_gathered position_cmp position_total exact_positions (λ _. HasCanonicalNumbers) Some Some own_inverse
      (λ p _ x. if_there (place_goes w p) (λ q. cell_part (at w p q) x)) m
      (λ p q x there held. part_kept p (place_goes w p) x (each_found position_cmp (λ _. IsCanonicalCell) m h p x held))

-- what the lines of the edited axis have lies on it
pub lost_lines_are_inside : (a : Along) → IsAxis a → (sheet : Sheet) → LinesInside rows sheet.rows → LinesInside columns sheet.columns → (to : ℤ → Option ℤ) →
    LinesInside a (lost_map to (lines_of a sheet))
lost_lines_are_inside a l sheet h i to = keys_lost int_cmp int_cmp_total exact_signed (IsLine a.last) to (lines_of a sheet) (by_axis l.one_of)
  where
    by_axis : (a ≡ rows) ⊎ (a ≡ columns) → LinesInside a (lines_of a sheet)
    by_axis (inl is) = subst (λ b. LinesInside b (lines_of b sheet)) (sym is) h
    by_axis (inr is) = subst (λ b. LinesInside b (lines_of b sheet)) (sym is) i

-- on the edited sheet what goes nowhere is what has no image
pub lost_places : {X : Type 0} (w : RouteModel) → w.is_edited ≡ true → (m : FinMap position_cmp X) →
    lost_map (place_goes w) m ≡ lost_map (place_image w.along w.moves.to) m
unfolding place_goes
lost_places w e m = ap (λ b. lost_map (λ p. if b then place_image w.along w.moves.to p else Some p) m) e

-- merges that are taken back are inside
merges_return : (w : RouteModel) → IsRoute w → (kept : Option (List MergedCell)) (merges : List MergedCell) → IfSome kept MergesInside → MergesInside merges →
    MergesInside (merges_back w kept merges)
merges_return w is kept merges h lie = elim w.is_edited as (λ b. MergesInside
    (settled (merges_carried (back w)) (λ _ list. list) (if b then kept else None) merges)) [ true ↦ at_kept kept h | false ↦ at_kept None tt ]
  where
    at_kept : (o : Option (List MergedCell)) → IfSome o MergesInside → MergesInside (settled (merges_carried (back w)) (λ _ list. list) o merges)
    at_kept None i = merges_stay (back w) (back_is_route w is) merges lie
    at_kept (Some list) i = i

-- conditional rules that are taken back are inside
formattings_return : (w : RouteModel) → IsRoute w → (kept : FinMap nat_cmp ConditionalFormatting) (rules : List ConditionalFormatting) → KeptInside kept → RulesInside rules →
    RulesInside (formattings_back w kept rules)
formattings_return w is kept rules h lie = elim w.is_edited as (λ b. RulesInside (if b then rules_restored w kept rules else rules))
    [ true ↦ restored_are_inside w is kept h rules lie | false ↦ lie ]

-- ---- workbooks

pub all_mapped : (P : Sheet → Type 0) (f : Sheet → Sheet) → ((sheet : Sheet) → P sheet → P (f sheet)) → (sheets : List Sheet) → AllByRecursion P sheets →
    AllByRecursion P (map f sheets)
all_mapped P f step [] all = tt
all_mapped P f step (sheet ∷ sheets) all = (step sheet all.0, all_mapped P f step sheets all.1)

pub edit_is_route : (a : Along) → IsAxis a → (e : EditKind) → IsValid a.last e → (id : ℕ) (edited : List ℕ) → IsRoute (edited_route a (edit_moves a.last e) id edited)
edit_is_route a l e valid id edited = record { axis = l; one_to_one = edit_one_to_one a.last e valid }

pub way_is : (a : Along) → IsAxis a → (e : EditKind) → IsValid a.last e → (id : ℕ) (edited : List ℕ) (sheet : Sheet) →
    IsRoute (route_of a (edit_moves a.last e) id edited sheet)
way_is a l e valid id edited sheet = record { axis = l; one_to_one = edit_one_to_one a.last e valid }

-- along the way of the edited sheet
module _ (w : RouteModel) (is : IsRoute w) where
  pub is_route_on : (sheet : Sheet) → IsRoute (route_on w sheet)
  is_route_on sheet = record { axis = is.axis; one_to_one = is.one_to_one }

  -- a sheet that follows stays placed
  pub sheet_placed : (sheet : Sheet) → IsPlacedSheet sheet → IsPlacedSheet (sheet_followed (route_on w sheet) sheet)
  sheet_placed sheet h = let v : RouteModel = route_on w sheet in record {
    cells = each_found position_cmp IsPlacedCell (places_carried cell_carried v sheet.cells)
        (followed_are v (is_route_on sheet) IsPlacedCell (λ place tree. is_placed place tree ≡ true) places_stay sheet.cells
        (each_from position_cmp IsPlacedCell sheet.cells h.cells));
    merges = merges_stay v (is_route_on sheet) sheet.merges h.merges;
    formattings = rules_stay v (is_route_on sheet) sheet.formattings h.formattings;
  }

  pub followed_placed : (sheets : List Sheet) → AllByRecursion IsPlacedSheet sheets → AllByRecursion IsPlacedSheet (sheets_followed w sheets)
  followed_placed = all_mapped IsPlacedSheet (λ sheet. sheet_followed (route_on w sheet) sheet) sheet_placed

  -- what is kept of a sound sheet can be laid over the workbook
  pub sheet_kept_fits : (sheet : Sheet) → IsSoundSheet sheet → LinesFit w (kept_of (route_on w sheet) sheet)
  sheet_kept_fits sheet it = record {
    numbers = record {
      cells = each_lost position_cmp position_total exact_positions (λ _. IsCanonicalCell) (place_image w.along w.moves.to) sheet.cells it.numbers;
      formulas = no_entry sheet_place_cmp (λ _. HasCanonicalNumbers);
      formattings = kept_numbers (route_on w sheet) sheet.formattings it.rules;
    };
    inside = record {
      cells = keys_lost position_cmp position_total exact_positions IsPlace (place_image w.along w.moves.to) sheet.cells it.cells;
      links = keys_lost position_cmp position_total exact_positions IsPlace (place_image w.along w.moves.to) sheet.links it.links;
      lines = lost_lines_are_inside w.along is.axis sheet it.rows it.columns w.moves.to;
      merges = holds_of MergesInside (merges_part (route_on w sheet) sheet.merges) (merges_part_fits (route_on w sheet) (is_route_on sheet) sheet.merges it.placed.merges);
    };
  }

  -- so it can with canonical trees
  pub fits_with_formulas : (kept : KeptLines) → LinesFit w kept → (formulas : FinMap sheet_place_cmp Node) → AreCanonicalFormulas formulas →
      LinesFit w (record kept { formulas = formulas })
  fits_with_formulas kept fit formulas canonical = record {
    numbers = record { cells = fit.numbers.cells; formulas = canonical; formattings = fit.numbers.formattings };
    inside = record { cells = fit.inside.cells; links = fit.inside.links; lines = fit.inside.lines; merges = fit.inside.merges };
  }

  -- sheets that are taken back stay placed, with cells, trees and conditional rules that may stand where they stood
  pub back_placed : (kept : KeptLines) → KeptLinesInside w.along kept → ArePlacedLines kept → (sheets : List Sheet) → AllByRecursion IsPlacedSheet sheets →
      AllByRecursion IsPlacedSheet (sheets_back w kept sheets)
  back_placed kept inside lines = all_mapped IsPlacedSheet (λ sheet. sheet_back (route_on w sheet) kept sheet)
      (λ sheet h. let v : RouteModel = route_on w sheet in record {
        cells = each_found position_cmp IsPlacedCell (sheet_back v kept sheet).cells
            (back_are v (is_route_on sheet) IsPlacedCell (λ place tree. is_placed place tree ≡ true) places_stay sheet.cells
            (each_from position_cmp IsPlacedCell sheet.cells h.cells)
            kept.cells (λ place. get kept.formulas (place_on sheet.id place)) (each_from position_cmp IsPlacedCell kept.cells lines.cells)
            (λ p. holds_of (λ tree. is_placed p tree ≡ true) (get kept.formulas (place_on sheet.id p)) (λ tree. lines.formulas (place_on sheet.id p) tree)));
        merges = merges_return v (is_route_on sheet) kept.merges sheet.merges inside.merges h.merges;
        formattings = formattings_return v (is_route_on sheet) kept.formattings sheet.formattings lines.formattings h.formattings;
      })
