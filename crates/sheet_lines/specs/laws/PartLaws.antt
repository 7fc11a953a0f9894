-- Going back with what was kept of a part of a sheet gives the part.
use Rattle.std.proofs.Common.{◌≡◌, ◌⊎◌, inl, inr, Bool, true, false, List, [], ◌∷◌, Option, Some, None, refl, ap, sym, ◌∙◌}
use Rattle.std.specs.Prelude.{⊤, if◌then◌else◌}
use Rattle.std.specs.List.{filter_map}
use Rattle.std.specs.Ordering.{int_cmp, nat_cmp}
use Rattle.std.specs.FinMap.{FinMap}
use Rattle.base_values.specs.Places.{IsPlace, position_cmp}
use Rattle.base_axis.specs.Along.{Along, IsAxis, rows, columns}
use Rattle.base_axis.specs.declared.MergedCell.{MergedCell}
use Rattle.base_axis.specs.laws.Lawful.{rows_lawful, columns_lawful}
use Rattle.base_maps.specs.Carried.{lost_map, moved_map, overlaid, settled}
use Rattle.format_rules.specs.declared.ConditionalFormatting.{ConditionalFormatting}
use Rattle.sheet_grid.specs.declared.LineAttr.{LineAttr}
use Rattle.sheet_grid.specs.declared.Link.{Link}
use Rattle.sheet_grid.specs.contracts.line_attr.LineAttrPartialEq.TheImpl as attribute
use Rattle.line_edits.specs.Moves.{place_image}
use Rattle.line_map.specs.Attributes.{lines_carried, lines_restored}
use Rattle.line_map.specs.Maps.{lost_along, places_carried}
use Rattle.line_routes.specs.Merges.{merge_carried, merges_carried, merges_part}
use Rattle.line_routes.specs.RouteModel.{RouteModel, IsRoute, back, place_goes, is_along}
use Rattle.line_map.specs.laws.AttributeLaws.{lines_restore}
use Rattle.line_map.specs.laws.HeirLaws.{both_of}
use Rattle.line_map.specs.laws.MapLaws.{brings_nothing, entries_return, lost_given, place_keys}
use Rattle.line_routes.specs.laws.MergeLaws.{merges_come_back, merges_restore}
use Rattle.line_map.specs.Rules.{rules_carried, rules_kept, rules_restored}
use Rattle.line_map.specs.laws.FollowLaws.{formatting_elsewhere}
use Rattle.line_map.specs.laws.RuleLaws.{rules_regained}
use Rattle.sheet_lines.specs.Part.{merges_back, formattings_back}

-- what was lost of the edited sheet alone is what each sheet lost itself
pub lost_laid : {X : Type 0} (w : RouteModel) (given m : FinMap position_cmp X) → (w.is_edited ≡ true → given ≡ lost_map (place_image w.along w.moves.to) m) →
    lost_along w.is_edited given ≡ lost_map (place_goes w) m
unfolding place_goes
lost_laid w given m lost = lost_given position_cmp place_keys (place_image w.along w.moves.to) w.is_edited given m lost

columns_alone : (a : Along) → IsAxis a → a.of false true ≡ true → a.of true false ≡ false
columns_alone a l h = by_axis l.one_of
  where
    by_axis : (a ≡ rows) ⊎ (a ≡ columns) → a.of true false ≡ false
    by_axis (inl is) = let no : false ≡ true = sym (ap (λ b. b.of false true) is) ∙ h in absurd (cc)
    by_axis (inr is) = ap (λ b. b.of true false) is

module _ (w : RouteModel) (is : IsRoute w) where
  -- links, of which nothing but the lost ones is kept
  pub links_regained : (links given : FinMap position_cmp Link) → (w.is_edited ≡ true → given ≡ lost_map (place_image w.along w.moves.to) links) →
      overlaid (lost_along w.is_edited given) (moved_map (place_goes (back w)) (place_goes w) (places_carried (λ _ link. link) w links)) ≡ links
  links_regained links given lost =
      ap (λ l. overlaid l (moved_map (place_goes (back w)) (place_goes w) (places_carried (λ _ link. link) w links))) (lost_laid w given links lost)
      ∙ entries_return place_keys w is {P = ⊤} (λ _ link. link) (λ _ _. None) (λ _ link _. link) (λ _ _. ⊤) (λ v _ x _ h. refl)
      (λ v _ x _ k h. refl) (brings_nothing IsPlace place_goes) links (λ p q x held there. tt) (λ _. None) (λ p q x there held. refl)

  pub lines_regained : (v : FinMap int_cmp LineAttr × FinMap int_cmp LineAttr) (lost : FinMap int_cmp LineAttr) →
      (w.is_edited ≡ true → lost ≡ lost_map w.moves.to (if w.along.of true false then v.0 else v.1)) →
      (lines_restored rows w (lines_carried rows attribute.ghosts.eq w v.0) lost, lines_restored columns w (lines_carried columns attribute.ghosts.eq w v.1) lost) ≡ v
  lines_regained v lost same i = (
    lines_restore w is rows rows_lawful attribute.ghosts.eq v.0 lost (λ h. let along = both_of w.is_edited (is_along w.along rows) h in same along.0
        ∙ ap (λ t. lost_map w.moves.to (if t then v.0 else v.1)) along.1) i,
    lines_restore w is columns columns_lawful attribute.ghosts.eq v.1 lost (λ h. let along = both_of w.is_edited (is_along w.along columns) h in same along.0
        ∙ ap (λ t. lost_map w.moves.to (if t then v.0 else v.1)) (columns_alone w.along is.axis along.1)) i,
  )

-- on another sheet than the edited one merges stay
apart : (w : RouteModel) → w.is_edited ≡ false → (merges : List MergedCell) → merges_carried (back w) (merges_carried w merges) ≡ merges
unfolding merges_carried
apart w h merges = ap (λ b. if b then filter_map (merge_carried (back w)) (if b then filter_map (merge_carried w) merges else merges) else
    (if b then filter_map (merge_carried w) merges else merges)) h

pub merges_regained : (w : RouteModel) → IsRoute w → (merges : List MergedCell) (kept : Option (List MergedCell)) → (w.is_edited ≡ true → kept ≡ merges_part w merges) →
    merges_back w kept (merges_carried w merges) ≡ merges
merges_regained w is merges kept lost = at_sheet w.is_edited refl
  where
    at_part : (o : Option (List MergedCell)) → merges_part w merges ≡ o →
        settled (merges_carried (back w)) (λ _ list. list) o (merges_carried w merges) ≡ merges
    at_part None h = merges_come_back w merges h
    at_part (Some part) h = merges_restore w merges part h

    at_sheet : (b : Bool) → w.is_edited ≡ b → settled (merges_carried (back w)) (λ _ list. list) (if b then kept else None) (merges_carried w merges) ≡ merges
    at_sheet true h = at_part kept (sym (lost h))
    at_sheet false h = apart w h merges

-- on another sheet than the edited one conditional rules stay
rules_apart : (w : RouteModel) → w.is_edited ≡ false → (rules : List ConditionalFormatting) → rules_carried w rules ≡ rules
rules_apart w h [] = refl
rules_apart w h (rule ∷ rules) = λ i. formatting_elsewhere w h rule i ∷ rules_apart w h rules i

pub formattings_regained : (w : RouteModel) → IsRoute w → (rules : List ConditionalFormatting) (kept : FinMap nat_cmp ConditionalFormatting) →
    (w.is_edited ≡ true → kept ≡ rules_kept w rules) → formattings_back w kept (rules_carried w rules) ≡ rules
formattings_regained w is rules kept same = at_sheet w.is_edited refl
  where
    at_sheet : (b : Bool) → w.is_edited ≡ b → (if b then rules_restored w kept (rules_carried w rules) else rules_carried w rules) ≡ rules
    at_sheet true h = ap (λ k. rules_restored w k (rules_carried w rules)) (same h) ∙ rules_regained w rules
    at_sheet false h = rules_apart w h rules
