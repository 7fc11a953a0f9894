-- The law of followers for what lines have of their own.
use Rattle.std.proofs.Common.{◌≡◌, ◌⊎◌, inl, inr, ℤ, Bool, true, false, Option, Some, None, refl, arith}
use Rattle.std.proofs.Common.{ap, sym, subst, ◌∙◌}
use Rattle.std.proofs.lemmas.Int.{ints}
use Rattle.std.specs.Prelude.{◌&&◌, IfSome, ⊤, is_some, if◌then◌else◌}
use Rattle.std.specs.Ordering.{int_cmp}
use Rattle.std.specs.Cmp.{int_cmp_total}
use Rattle.std.specs.FinMap.{FinMap, get, int_cmp-IsAntisymmetric}
use Rattle.base_values.specs.Places.{IsLine, is_line}
use Rattle.base_axis.specs.Along.{Along, IsAxis, rows, columns}
use Rattle.base_maps.specs.Carried.{Inverse, if_there, lost_map, moved_map, overlaid}
use Rattle.base_maps.specs.laws.Inverses.{own_inverse}
use Rattle.line_edits.specs.Moves.{is_brought}
use Rattle.line_map.specs.Attributes.{heirs, line_brought, line_goes_along, line_goes, lines_brought, lines_carried, lines_restored, LinesInside}
use Rattle.line_map.specs.Keys.{AreKeys, BringsBeside, KeysAre}
use Rattle.line_map.specs.laws.HeirLaws.{both_of, get-brought}
use Rattle.line_map.specs.laws.MapLaws.{entries_return, entries_stay, lost_given}
use Rattle.line_routes.specs.RouteModel.{RouteModel, IsRoute, back, is_along}

-- lines that go along are those of the same axis
pub same_last : (a b : Along) → IsAxis a → IsAxis b → is_along a b ≡ true → a.last ≡ b.last
same_last a b h i along = by_axes h.one_of i.one_of
  where
    by_axes : (a ≡ rows) ⊎ (a ≡ columns) → (b ≡ rows) ⊎ (b ≡ columns) → a.last ≡ b.last
    by_axes (inl p) (inl q) = ap (λ c. c.last) (p ∙ sym q)
    by_axes (inl p) (inr q) = absurd (let no : false ≡ true = (λ j. is_along (sym p j) (sym q j)) ∙ along in cc)
    by_axes (inr p) (inl q) = absurd (let no : false ≡ true = (λ j. is_along (sym p j) (sym q j)) ∙ along in cc)
    by_axes (inr p) (inr q) = ap (λ c. c.last) (p ∙ sym q)

-- lines are keys that are carried along
pub line_keys : (b : Along) → IsAxis b → AreKeys int_cmp (IsLine b.last) (line_goes b) (λ w _ _. w)
line_keys b i = record {
  total = int_cmp_total;
  exact = int_cmp-IsAntisymmetric;
  inverse = λ w is. elim (line_goes_along b w) as (λ t. Inverse (λ n. if t then w.moves.to n else Some n) (λ n. if t then w.moves.from n else Some n))
      [ true ↦ is.one_to_one.inverse | false ↦ own_inverse ];
  lands = λ w is p q fits. (elim (line_goes_along b w) as (λ t. line_goes_along b w ≡ t → (if t then w.moves.to p else Some p) ≡ Some q → IsLine b.last q) [
    | true ↦ λ along there.
        let Lands : Option ℤ → Type 0 = λ o. IfSome o (IsLine w.along.last) in
        subst (λ last. IsLine last q) (same_last w.along b is.axis i (both_of w.is_edited (is_along w.along b) along).1) (subst Lands there
        (is.one_to_one.to_inside p))
    | false ↦ λ apart there. let same : p ≡ q = cc in subst (IsLine b.last) same fits
  ]) refl;
  is_route = λ w is p q. is;
  turns = λ w p q. refl;
}

-- what is brought in stands on lines of the axis that nothing came to
pub lines_bring : {X : Type 0} (b : Along) → IsAxis b → (same : X → X → Bool) → BringsBeside (IsLine b.last) (line_goes b) (lines_brought b same)
lines_bring {X} b i same = record {
  beside = λ w is m carried p q. elim (line_goes_along b w) as (λ t. (if t then w.moves.to p else Some p) ≡ Some q →
      get (if t then overlaid (heirs b same w.moves.inserted m) carried else carried) q ≡ get carried q) [
        | true ↦ λ there. let taken : Option X = if_there w.moves.inserted (line_brought b same m) in get-brought b same w.moves.inserted m carried q
            ∙ ap (λ t. if t && is_line b.last q then (if is_some taken then taken else get carried q) else get carried q) (none_comes w is p q there _ refl)
        | false ↦ λ there. refl
      ];
  inside = λ w is m carried fit. elim (line_goes_along b w) as (λ t. KeysAre (IsLine b.last) (if t then overlaid
      (heirs b same w.moves.inserted m) carried else carried)) [
        | true ↦ λ n x h. lies n x (is_brought w.moves.inserted n) _ _ _ refl (fit n x) (sym (get-brought b same w.moves.inserted m carried n) ∙ h)
        | false ↦ fit
      ];
}
  where
    none_comes : (w : RouteModel) → IsRoute w → (p q : ℤ) → w.moves.to p ≡ Some q → (t : Bool) → is_brought w.moves.inserted q ≡ t → t ≡ false
    none_comes w is p q there false e = refl
    none_comes w is p q there true e =
        let nowhere : w.moves.from q ≡ None = is.one_to_one.fresh q e in
        let from : w.moves.from q ≡ Some p = is.one_to_one.inverse.back p q there in
        absurd (cc)

    lies : (n : ℤ) (x : X) (a t : Bool) (o v : Option X) → (a && is_line b.last n) ≡ t → (v ≡ Some x → IsLine b.last n) → (if t then o else v) ≡ Some x →
        IsLine b.last n
    lies n x a true o v e fit h = let on_axis = (both_of a (is_line b.last n) e).1 in (grind (arith, ints), grind (arith, ints))
    lies n x a false o v e fit h = fit h

module _ {X : Type 0} (w : RouteModel) (is : IsRoute w) (b : Along) (i : IsAxis b) (same : X → X → Bool) (m : FinMap int_cmp X) where
  -- what is carried along lies on the axis
  pub lines_stay : LinesInside b m → LinesInside b (lines_carried b same w m)
  lines_stay lie = (entries_stay (line_keys b i) w is (λ _ x. x) (λ _ _. ⊤) (λ v route_model x h. tt) m
      (record { places = lie; items = λ p q x held there. tt }) (lines_bring b i same)).places

  -- what goes back with what was kept is the map
  pub lines_restore : (given : FinMap int_cmp X) → (line_goes_along b w ≡ true → given ≡ lost_map w.moves.to m) →
      lines_restored b w (lines_carried b same w m) given ≡ m
  lines_restore given lost =
      ap (λ l. overlaid l (moved_map (line_goes b (back w)) (line_goes b w) (lines_carried b same w m)))
      (lost_given int_cmp (line_keys b i) w.moves.to (line_goes_along b w) given m lost)
      ∙ entries_return (line_keys b i) w is {P = ⊤} (λ _ x. x) (λ _ _. None) (λ _ x _. x) (λ _ _. ⊤) (λ v route_model x lies h. refl) (λ v route_model x lies k h. refl)
      (lines_bring b i same) m (λ p q x held there. tt) (λ _. None) (λ p q x there held. refl)
