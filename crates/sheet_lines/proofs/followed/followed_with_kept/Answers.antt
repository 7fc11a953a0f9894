use Rattle.std.proofs.Common.{rules, ℕ, Bool, true, false, List, [], ◌∷◌, ◌++◌, ◌+◌, ◌<◌, length, map, take, get_or, Option, Some, None, refl}
use Rattle.std.proofs.Common.{ap, sym, subst, ◌∙◌, arith}
use Rattle.std.specs.Prelude.{◌≡◌, ◌==◌, cond, IfSome, IsTrue}
use Rattle.std.specs.Bool.{then_some}
use Rattle.std.specs.List.{find}
use Rattle.std.specs.Option.{option_map, option_or}
use Rattle.std.proofs.lemmas.List.{map_more, take_more}
use Rattle.std.proofs.lemmas.List.Folds.{find-append}
use Rattle.base_maps.specs.SheetPlaces.{sheet_place_cmp}
use Rattle.base_maps.specs.Tagged.{put_under}
use Rattle.base_maps.specs.laws.Each.{no_entry}
use Rattle.base_maps.specs.laws.Tagged.{all_under_none, all_under_more, put_under_are}
use Rattle.formula_tree.specs.Numbers.{has_canonical_numbers}
use Rattle.line_routes.specs.RouteModel.{RouteModel, route_model}
use Rattle.sheet_grid.specs.Sheet.{Sheet}
use Rattle.sheet_lines.specs.Followed.{route_on, sheet_followed}
use Rattle.sheet_lines.specs.Kept.{kept_of, first_kept, trees_kept}
use Rattle.sheet_lines.specs.declared.kept.KeptLines.{KeptLines}
use Rattle.sheet_lines.specs.Workbooks.{LinesFit}
use Rattle.sheet_lines.specs.Back.{AreCanonicalFormulas}
use Rattle.sheet_lines.proofs.followed.followed_with_kept.Goals as goal

-- what is kept of the first edited sheet, with one sheet more
first_more : (w : RouteModel) (sheets : List Sheet) (i : ℕ) (sheet : Sheet) → i < length sheets → sheet ≡ get_or sheets i sheet →
    first_kept w (take (i + 1) sheets) ≡ option_or (first_kept w (take i sheets)) (then_some (sheet.id == w.sheet) (kept_of (route_on w sheet) sheet))
first_more w sheets i sheet within is =
    ap (first_kept w) (take_more sheets i sheet within ∙ ap (λ s. take i sheets ++ s ∷ []) (sym is))
    ∙ ap (option_map kept) (find-append (λ s. s.id == w.sheet) (take i sheets) (sheet ∷ []))
    ∙ by_found (find (λ s. s.id == w.sheet) (take i sheets))
  where
    kept : Sheet → KeptLines
    kept s = kept_of (route_on w s) s

    by_id : (b : Bool) → option_map kept (cond b (Some sheet) None) ≡ then_some b (kept sheet)
    by_id true = refl
    by_id false = refl

    by_found : (o : Option Sheet) → option_map kept (option_or o (cond (sheet.id == w.sheet) (Some sheet) None)) ≡
        option_or (option_map kept o) (then_some (sheet.id == w.sheet) (kept sheet))
    by_found None = by_id (sheet.id == w.sheet)
    by_found (Some first) = refl

either_fits : (w : RouteModel) (o p : Option KeptLines) → IfSome o (LinesFit w) → IfSome p (LinesFit w) → IfSome (option_or o p) (LinesFit w)
either_fits w None p h i = i
either_fits w (Some kept) p h i = h

pub loop-sheet-init : goal.loop-sheet-init
loop-sheet-init g c = (
  search rules,
  (
    refl,
    (
      tt,
      (
        c.new-formulas.ensures ∙ sym (all_under_none (λ (sheet : Sheet). sheet.id) (trees_kept (route_model c.args.route.now))),
        subst AreCanonicalFormulas (sym c.new-formulas.ensures) (no_entry sheet_place_cmp (λ _ tree. IsTrue (has_canonical_numbers tree))),
      ),
    ),
  ),
)

pub loop-sheet-preserved : goal.loop-sheet-preserved
loop-sheet-preserved g c =
    let w : RouteModel = route_model c.args.route.now in
    let sheets = c.args.sheets.now in
    let i = c.loop-sheet.sheet-index in
    let kept = c.in_ok-followed.ensures in
    let follow : Sheet → Sheet = λ sheet. sheet_followed (route_on w sheet) sheet in
    let within : i < length sheets = omega arith in (
      c.in_ok-push.ensures.ok
          ∙ (λ j. c.loop-sheet.invariant.0 j ++ kept.sheet j ∷ [])
          ∙ ap (λ sheet. map follow (take i sheets) ++ follow sheet ∷ []) c.sheet-item.is
          ∙ sym (map_more follow sheets i c.sheet-item.result within),
      (
        c.or-edited.ensures
            ∙ (λ j. option_or (c.loop-sheet.invariant.1.0 j) (kept.edited j))
            ∙ sym (first_more w sheets i c.sheet-item.result within c.sheet-item.is),
        (
          subst (λ o. IfSome o (LinesFit w)) (sym c.or-edited.ensures)
              (either_fits w c.loop-sheet.edited _ c.loop-sheet.invariant.1.1.0 kept.fits),
          (
            c.in_ok-put_under.ensures.ok
                ∙ (λ j. put_under (c.get_sheet_id.ensures j) (kept.trees j) (c.loop-sheet.invariant.1.1.1.0 j))
                ∙ sym (all_under_more (λ (sheet : Sheet). sheet.id) (trees_kept w) sheets i c.sheet-item.result within c.sheet-item.is),
            subst AreCanonicalFormulas (sym c.in_ok-put_under.ensures.ok)
                (put_under_are (λ tree. IsTrue (has_canonical_numbers tree)) c.get_sheet_id.result _ c.loop-sheet.formulas
                kept.numbers c.loop-sheet.invariant.1.1.1.1),
          ),
        ),
      ),
    )
