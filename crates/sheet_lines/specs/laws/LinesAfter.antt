-- What lines have of their own afterwards, line by line.
use Rattle.std.proofs.Common.{◌≡◌, ℤ, Bool, true, false, Option, Some, None, refl, ap, ◌∙◌}
use Rattle.std.specs.Prelude.{◌&&◌, is_some, if◌then◌else◌}
use Rattle.std.specs.Cmp.{int_cmp_total}
use Rattle.std.specs.Ordering.{int_cmp}
use Rattle.std.specs.FinMap.{FinMap, get, int_cmp-IsAntisymmetric}
use Rattle.base_values.specs.Places.{is_line}
use Rattle.base_axis.specs.Along.{Along}
use Rattle.base_maps.specs.Carried.{if_there, moved_map, overlaid}
use Rattle.base_maps.specs.laws.CarriedLaws.{get-moved_map}
use Rattle.base_maps.specs.laws.Inverses.{own_inverse}
use Rattle.line_edits.specs.Moves.{is_brought}
use Rattle.line_map.specs.Attributes.{line_brought, line_goes_along, heirs, lines_carried}
use Rattle.line_map.specs.laws.HeirLaws.{both_of, get-brought}
use Rattle.line_routes.specs.RouteModel.{RouteModel, IsRoute}
use Rattle.sheet_lines.specs.Entries.{line_after}

module _ {X : Type 0} where
  brought_or_moved : (t : Bool) (h v : Option X) → (t ≡ true → v ≡ None) → (if t then (if is_some h then h else v) else v) ≡ (if t then h else v)
  brought_or_moved true None v none = none refl
  brought_or_moved true (Some x) v none = refl
  brought_or_moved false h v none = refl

  -- what a line has afterwards
  pub get-lines_carried : (w : RouteModel) → IsRoute w → (b : Along) (same : X → X → Bool) (m : FinMap int_cmp X) (n : ℤ) →
      get (lines_carried b same w m) n ≡ line_after b same w m n
  get-lines_carried w is b same m n = elim (line_goes_along b w) as (λ along.
      let moved : FinMap int_cmp X = moved_map (λ n. if along then w.moves.to n else Some n) (λ n. if along then w.moves.from n else Some n) m in
      get (if along then overlaid (heirs b same w.moves.inserted m) moved else moved) n ≡
      (if along then (if is_brought w.moves.inserted n && is_line b.last n then if_there w.moves.inserted (line_brought b same m)
      else if_there (w.moves.from n) (get m)) else get m n)) [
        | true ↦
            let taken : Option X = if_there w.moves.inserted (line_brought b same m) in
            get-brought b same w.moves.inserted m (moved_map w.moves.to w.moves.from m) n
            ∙ ap (λ v. if is_brought w.moves.inserted n && is_line b.last n then (if is_some taken then taken else v) else v)
            (get-moved_map int_cmp int_cmp_total int_cmp-IsAntisymmetric w.moves.to w.moves.from is.one_to_one.inverse m n)
            ∙ brought_or_moved (is_brought w.moves.inserted n && is_line b.last n) taken (if_there (w.moves.from n) (get m))
            (λ h. ap (λ s. if_there s (get m)) (is.one_to_one.fresh n (both_of (is_brought w.moves.inserted n) (is_line b.last n) h).0))
        | false ↦ get-moved_map int_cmp int_cmp_total int_cmp-IsAntisymmetric Some Some own_inverse m n
      ]
