-- What is asked of the entries of a map by place holds of the map that is carried along.
use Rattle.std.proofs.Common.{◌≡◌, Bool, true, Option, Some, None, refl, ap, ◌∙◌}
use Rattle.std.specs.Prelude.{⊤}
use Rattle.std.specs.List.{list_all}
use Rattle.std.specs.FinMap.{FinMap, entries, get}
use Rattle.base_values.specs.declared.Position.{Position}
use Rattle.base_values.specs.Places.{position_cmp, is_place}
use Rattle.base_values.specs.laws.Places.{position_total, exact_positions}
use Rattle.base_maps.specs.Carried.{if_there}
use Rattle.line_map.specs.Maps.{places_carried}
use Rattle.line_routes.specs.RouteModel.{RouteModel, IsRoute, at, back, place_goes}
use Rattle.base_maps.specs.laws.CarriedLaws.{get-carried_map}
use Rattle.line_map.specs.laws.MapLaws.{places_stay}
use Rattle.line_routes.specs.laws.RouteLaws.{goes_inverse}
use Rattle.sheet_rules.specs.laws.EntryLaws.{passes_at_from_all, all_from_passes_at}
use Rattle.sheet_rules.specs.laws.InsideLaws.{places_from_test, test_from_places}

module _ (w : RouteModel) (is : IsRoute w) {F : Type 0} (carry : RouteModel → F → F) where
  -- its keys are places of the sheet
  pub places_follow : (m : FinMap position_cmp F) → list_all (λ e. is_place e.0) (entries m) ≡ true → list_all (λ e. is_place e.0) (entries (places_carried carry w m)) ≡ true
  places_follow m h =
      test_from_places (places_carried carry w m)
      (places_stay w is carry (λ _ _. ⊤) (λ v route_model x lies. tt) m (record { places = places_from_test m h; items = λ p q x held there. tt })).places

  -- and its items pass a test that each passes where it goes
  module _ (P : Position → F → Bool) (follows : (p q : Position) (x : F) → P p x ≡ true → P q (carry (at w p q) x) ≡ true) where
    abbrev passes : Position → Option F → Bool
    passes p None = true
    passes p (Some x) = P p x

    goes : (p q : Position) (o : Option F) → passes p o ≡ true → passes q (if_there o (λ x. Some (carry (at w p q) x))) ≡ true
    goes p q None h = refl
    goes p q (Some x) h = follows p q x h

    comes : (m : FinMap position_cmp F) → ((p : Position) → passes p (get m p) ≡ true) → (q : Position) (s : Option Position) → passes q (if_there s (λ p. if_there (get m p) (λ x. Some (carry (at w p q) x)))) ≡ true
    comes m all q None = refl
    comes m all q (Some p) = goes p q (get m p) (all p)

    pub items_follow : (m : FinMap position_cmp F) → list_all (λ e. P e.0 e.1) (entries m) ≡ true → list_all (λ e. P e.0 e.1) (entries (places_carried carry w m)) ≡ true
    items_follow m h = all_from_passes_at position_cmp position_total exact_positions passes (λ _. refl) (places_carried carry w m) (λ q.
        ap (passes q) (get-carried_map position_cmp position_total exact_positions (place_goes w) (place_goes (back w)) (goes_inverse w is) (λ p q x. carry (at w p q) x) m q)
        ∙ comes m (passes_at_from_all position_cmp position_total exact_positions passes (λ _. refl) m h) q (place_goes (back w) q))
