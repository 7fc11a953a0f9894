-- The law of followers for maps.
use Rattle.std.proofs.Common.{◌≡◌, Bool, true, false, Option, Some, None, refl, ap, sym, subst, ◌∙◌}
use Rattle.std.specs.Prelude.{if◌then◌else◌}
use Rattle.std.specs.FinMap.{FinMap, empty, get, get-empty, same_map}
use Rattle.std.specs.declared.cmp.Ordering.{Ordering}
use Rattle.base_values.specs.Places.{IsPlace, position_cmp}
use Rattle.base_values.specs.laws.Places.{position_total, exact_positions}
use Rattle.base_maps.specs.Carried.{Inverse, if_there, lost_map, overlaid, settled}
use Rattle.base_maps.specs.laws.CarriedLaws.{get-carried_map, get-parts_map, map_restores}
use Rattle.base_maps.specs.laws.Each.{each_found, each_gathered, keys_lost}
use Rattle.base_maps.specs.laws.Gathering.{get-lost_map}
use Rattle.base_maps.specs.laws.Inverses.{turned_inverse}
use Rattle.line_map.specs.Keys.{AreKeys, BringsBeside}
use Rattle.line_map.specs.Maps.{AllInside, KeptFits, entries_carried, entries_parts, entries_restored, entry_part, places_carried}
use Rattle.line_map.specs.laws.AloneLaws.{settles}
use Rattle.line_routes.specs.RouteModel.{RouteModel, IsRoute, at, back, place_goes}
use Rattle.line_routes.specs.laws.RouteLaws.{goes_inverse, goes_there, at_is_route}

-- places are keys that are carried along
pub place_keys : AreKeys position_cmp IsPlace place_goes at
place_keys = record {
  total = position_total;
  exact = exact_positions;
  inverse = goes_inverse;
  lands = goes_there;
  is_route = at_is_route;
  turns = λ w p q. refl;
}

-- where nothing is brought in
pub brings_nothing : {Q F : Type 0} {R : Q → Q → Ordering} (fits : Q → Type 0) (goes : RouteModel → Q → Option Q) → BringsBeside {F = F} {R = R} fits goes
    (λ w m carried. carried)
brings_nothing fits goes = record { beside = λ w is m carried p q there. refl; inside = λ w is m carried fit. fit }

part_from : {F P : Type 0} (part : F → Option P) (v : Option F) (k : P) → if_there v part ≡ Some k → (x : F) × (v ≡ Some x) × (part x ≡ Some k)
part_from part None k h = absurd (cc)
part_from part (Some x) k h = (x, refl, h)

-- what holds of what is kept
pub of_kept : {K : Type 0} (P : K → Type 0) (own k : K) → Some own ≡ Some k → P own → P k
of_kept P own k h own_holds = let same : own ≡ k = cc in subst P same own_holds

module _ {Q : Type 0} {R : Q → Q → Ordering} {fits : Q → Type 0} {goes : RouteModel → Q → Option Q} {route_at : RouteModel → Q → Q → RouteModel}
    (keys : AreKeys R fits goes route_at) (w : RouteModel) (is : IsRoute w) where
  abbrev inverse : Inverse (goes w) (goes (back w))
  inverse = keys.inverse w is

  module _ {F : Type 0} (carry : RouteModel → F → F) (Inside : RouteModel → F → Type 0) where
    module _ (stays : (v : RouteModel) → IsRoute v → (x : F) → Inside v x → Inside (back v) (carry v x)) (m : FinMap R F) (lie : AllInside goes route_at fits Inside w m) where
      -- an entry of a carried map: its key fits, and it is inside on the way back to any key that goes there
      abbrev InsideBack : Q → F → Type 0
      InsideBack q y = fits q × ((p : Q) → goes w p ≡ Some q → Inside (route_at (back w) q p) y)

      each_is_inside : (q : Q) (y : F) → get (entries_carried goes route_at carry w m) q ≡ Some y → InsideBack q y
      each_is_inside = each_found R InsideBack (entries_carried goes route_at carry w m)
          (each_gathered R keys.total keys.exact InsideBack (goes w) (goes (back w)) inverse (λ p q x. Some (carry (route_at w p q) x)) m (λ p q x there held. (
            keys.lands w is p q (lie.places p x held) there,
            λ r goes_too.
                let same : p ≡ r = let one : Some p ≡ Some r = sym (inverse.back p q there) ∙ inverse.back r q goes_too in cc in
                let P : Q → Type 0 = λ k. Inside (route_at (back w) q k) (carry (route_at w p q) x) in
                subst P same (subst (λ v. Inside v (carry (route_at w p q) x)) (sym (keys.turns w p q))
                (stays (route_at w p q) (keys.is_route w is p q) x (lie.items p q x held there))),
          )))

      -- a map that is carried along is inside
      pub entries_stay : {with_brought : RouteModel → FinMap R F → FinMap R F → FinMap R F} → BringsBeside fits goes with_brought →
          AllInside goes route_at fits Inside (back w) (with_brought w m (entries_carried goes route_at carry w m))
      entries_stay brings = record {
        places = brings.inside w is m (entries_carried goes route_at carry w m) (λ q y g. (each_is_inside q y g).0);
        items = λ q p y g there.
            let going = inverse.forth p q there in
            (each_is_inside q y (sym (brings.beside w is m (entries_carried goes route_at carry w m) p q going) ∙ g)).1 p going;
      }

  -- the part of an entry that goes somewhere
  pub part_there : {F P : Type 0} (part : RouteModel → F → Option P) (m : FinMap R F) (p q : Q) (x : F) → goes w p ≡ Some q →
      get m p ≡ Some x → entry_part goes route_at part w m p ≡ part (route_at w p q) x
  part_there part m p q x there held = λ i. if_there (held i) (λ x. if_there (there i) (λ q. part (route_at w p q) x))

  module _ {F P : Type 0} (carry : RouteModel → F → F) (part : RouteModel → F → Option P) (restore : RouteModel → F → P → F) (Inside : RouteModel → F → Type 0)
      (comes_back : (v : RouteModel) → IsRoute v → (x : F) → Inside v x → part v x ≡ None → carry (back v) (carry v x) ≡ x)
      (restores : (v : RouteModel) → IsRoute v → (x : F) → Inside v x → (k : P) → part v x ≡ Some k → restore v (carry v x) k ≡ x)
      {with_brought : RouteModel → FinMap R F → FinMap R F → FinMap R F} (brings : BringsBeside fits goes with_brought) where
    -- what is brought in goes nowhere on the way back
    brought_ignored : (parts : Q → Option P) (m carried : FinMap R F) →
        entries_restored goes route_at carry restore w parts (with_brought w m carried) ≡ entries_restored goes route_at carry restore w parts carried
    brought_ignored parts m carried = same_map keys.total keys.exact _ _ (λ p.
        get-carried_map R keys.total keys.exact (goes (back w)) (goes w) (turned_inverse inverse) settle (with_brought w m carried) p
        ∙ at_key p (goes w p) refl
        ∙ sym (get-carried_map R keys.total keys.exact (goes (back w)) (goes w) (turned_inverse inverse) settle carried p))
      where
        settle : Q → Q → F → F
        settle q p x = settled (carry (back (route_at w p q))) (restore (route_at w p q)) (parts p) x

        at_key : (p : Q) (t : Option Q) → goes w p ≡ t →
            if_there t (λ q. if_there (get (with_brought w m carried) q) (λ x. Some (settle q p x))) ≡ if_there t (λ q. if_there (get carried q) (λ x. Some
            (settle q p x)))
        at_key p None there = refl
        at_key p (Some q) there = ap (λ v. if_there v (λ x. Some (settle q p x))) (brings.beside w is m carried p q there)

    -- a map goes back with its lost entries, and with parts that are those of its entries
    pub entries_return : (m : FinMap R F) → ((p q : Q) (x : F) → get m p ≡ Some x → goes w p ≡ Some q → Inside (route_at w p q) x) →
        (parts : Q → Option P) → ((p q : Q) (x : F) → goes w p ≡ Some q → get m p ≡ Some x → parts p ≡ part (route_at w p q) x) →
        overlaid (lost_map (goes w) m) (entries_restored goes route_at carry restore w parts (with_brought w m (entries_carried goes route_at carry w m))) ≡ m
    entries_return m lie parts kept =
        ap (overlaid (lost_map (goes w) m)) (brought_ignored parts m (entries_carried goes route_at carry w m))
        ∙ map_restores R keys.total keys.exact (goes w) (goes (back w)) inverse
        (λ p q. carry (route_at w p q)) (λ p q. carry (back (route_at w p q))) (λ p q. restore (route_at w p q)) parts m
        (λ p q x there held.
        let v : RouteModel = route_at w p q in
        let route_model : IsRoute v = keys.is_route w is p q in
        let lies : Inside v x = lie p q x held there in
        settles (carry (back v)) (restore v) (carry v x) x (part v x) (parts p) (sym (kept p q x there held)) (comes_back v route_model x lies) (restores v route_model x lies))

    -- it is restored from what is kept of it
    pub entries_restore : (m : FinMap R F) → AllInside goes route_at fits Inside w m → (parts : Q → Option P) → ((p : Q) → parts p ≡ get
        (entries_parts goes route_at part w m) p) →
        overlaid (lost_map (goes w) m) (entries_restored goes route_at carry restore w parts (with_brought w m (entries_carried goes route_at carry w m))) ≡ m
    entries_restore m lie parts are = entries_return m lie.items parts (λ p q x there held.
        are p ∙ get-parts_map R keys.total keys.exact (goes w) (λ p q x. part (route_at w p q) x) m p ∙ part_there part m p q x there held)

  module _ {F P : Type 0} (part : RouteModel → F → Option P) (Inside : RouteModel → F → Type 0) (Fits : RouteModel → P → Type 0)
      (part_fits : (v : RouteModel) → IsRoute v → (x : F) → Inside v x → (k : P) → part v x ≡ Some k → Fits v k) where
    there_at : (p q : Q) (v : Option F) → goes w p ≡ Some q →
        if_there v (λ x. if_there (goes w p) (λ q. part (route_at w p q) x)) ≡ if_there v (part (route_at w p q))
    there_at p q None there = refl
    there_at p q (Some x) there = ap (λ t. if_there t (λ q. part (route_at w p q) x)) there

    -- what is kept of a map can be laid over it
    pub kept_map_fits : (m : FinMap R F) → AllInside goes route_at fits Inside w m → {S : Q → Q → Ordering} (lost : FinMap S F) → ((p : Q) → get lost p ≡ get
        (lost_map (goes w) m) p) →
        (parts : Q → Option P) → ((p : Q) → parts p ≡ get (entries_parts goes route_at part w m) p) → KeptFits goes route_at fits Fits w lost parts
    kept_map_fits m lie lost lost_are parts are = record {
      lost_inside = λ p x h. keys_lost R keys.total keys.exact fits (goes w) m lie.places p x (sym (lost_are p) ∙ h);
      parts_fit = λ p q k there h.
          let found = part_from (part (route_at w p q)) (get m p) k (sym (there_at p q (get m p) there)
          ∙ sym (get-parts_map R keys.total keys.exact (goes w) (λ p q x. part (route_at w p q) x) m p) ∙ sym (are p) ∙ h) in
          part_fits (route_at w p q) (keys.is_route w is p q) found.0 (lie.items p q found.0 found.1 there) k found.2;
    }

  -- maps of which contracts see what stands for their entries
  module _ {T F : Type 0} (model : FinMap R F → T) (seen : T → FinMap R F) (model_seen : (map : T) → model (seen map) ≡ map) (with_brought : RouteModel → T → T → T)
      (brings : BringsBeside fits goes (λ w m carried. seen (with_brought w (model m) (model carried)))) (carry : RouteModel → F → F) (Inside : RouteModel → F → Type 0)
      (map : T) (lie : AllInside goes route_at fits Inside w (seen map)) where
    abbrev carried : T
    carried = model (entries_carried goes route_at carry w (seen map))

    pub map_stays : ((v : RouteModel) → IsRoute v → (x : F) → Inside v x → Inside (back v) (carry v x)) → AllInside goes route_at fits Inside (back w) (seen
        (with_brought w map carried))
    map_stays stays = subst (λ before. AllInside goes route_at fits Inside (back w) (seen (with_brought w before carried))) (model_seen map)
        (entries_stay carry Inside stays (seen map) lie brings)

    pub map_goes_back : {P : Type 0} (part : RouteModel → F → Option P) (restore : RouteModel → F → P → F) →
        ((v : RouteModel) → IsRoute v → (x : F) → Inside v x → part v x ≡ None → carry (back v) (carry v x) ≡ x) →
        ((v : RouteModel) → IsRoute v → (x : F) → Inside v x → (k : P) → part v x ≡ Some k → restore v (carry v x) k ≡ x) →
        (lost : FinMap R F) → lost ≡ lost_map (goes w) (seen map) → (parts : Q → Option P) → ((p : Q) → parts p ≡ get (entries_parts goes route_at part w
        (seen map)) p) →
        model (overlaid lost (entries_restored goes route_at carry restore w parts (seen (with_brought w map carried)))) ≡ map
    map_goes_back part restore comes_back restores lost lost_is parts are =
        (λ j. model (overlaid (lost_is j) (entries_restored goes route_at carry restore w parts (seen (with_brought w (sym (model_seen map) j) carried)))))
        ∙ ap model (entries_restore carry part restore Inside comes_back restores brings (seen map) lie parts are) ∙ model_seen map

-- a map by place that is carried along is inside
pub places_stay : (w : RouteModel) → IsRoute w → {F : Type 0} (carry : RouteModel → F → F) (Inside : RouteModel → F → Type 0) →
    ((v : RouteModel) → IsRoute v → (x : F) → Inside v x → Inside (back v) (carry v x)) → (m : FinMap position_cmp F) → AllInside place_goes at IsPlace Inside w m →
    AllInside place_goes at IsPlace Inside (back w) (places_carried carry w m)
places_stay w is carry Inside stays m lie = entries_stay place_keys w is carry Inside stays m lie (brings_nothing IsPlace place_goes)

-- what was given where a test says so, and nothing elsewhere, is what is lost where the test says that keys go
pub lost_given : {Q X : Type 0} (R : Q → Q → Ordering) {fits : Q → Type 0} {goes : RouteModel → Q → Option Q} {route_at : RouteModel → Q → Q → RouteModel} →
    AreKeys R fits goes route_at →
    (to : Q → Option Q) (b : Bool) (given m : FinMap R X) → (b ≡ true → given ≡ lost_map to m) →
    (if b then given else empty) ≡ lost_map (λ p. if b then to p else Some p) m
lost_given R keys to true given m h = h refl
lost_given R keys to false given m h = same_map keys.total keys.exact empty (lost_map Some m) (λ p.
    get-empty R p ∙ sym (get-lost_map R keys.total keys.exact Some m p))
