use Rattle.std.proofs.Common.{◌≡◌, Option, Some, None, refl, ap, subst, sym, ◌∙◌}
use Rattle.std.specs.Prelude.{IsTrue, is_some}
use Rattle.std.specs.Option.{option_map}
use Rattle.line_routes.specs.RouteModel.{RouteModel, route_model}
use Rattle.sheet_grid.specs.Sheet.{Sheet}
use Rattle.sheet_lines.specs.Followed.{route_on}
use Rattle.sheet_lines.specs.Kept.{kept_of, edited_kept, first_kept, formulas_kept}
use Rattle.sheet_ids.specs.Ids.{sheet_of}
use Rattle.sheet_lines.proofs.edit.carried_with_lines.Goals as goal

-- what is kept of a sheet that is there
of_sheet : (w : RouteModel) (o : Option Sheet) → IsTrue (is_some o) → option_map (λ sheet. kept_of (route_on w sheet) sheet) o ≡ Some (edited_kept w o)
of_sheet w None there = absurd (cc)
of_sheet w (Some sheet) there = refl

pub unwrap-edited-requires : goal.unwrap-edited-requires
unwrap-edited-requires g c =
    let w = route_model c.args.route.now in
    subst (λ o. IsTrue (is_some o)) (sym (c.in_ok-sheets.ensures.edited ∙ ap (first_kept w) c.worksheets.ensures ∙ of_sheet w (sheet_of c.args.workbook.now w.sheet) c.requires.there)) refl

pub returns-clause-kept : goal.returns-clause-kept
returns-clause-kept g c =
    let w = route_model c.args.route.now in
    let book = c.args.workbook.now in
    let same : Some c.unwrap-edited.result ≡ Some (edited_kept w (sheet_of book w.sheet)) =
    sym c.unwrap-edited.ensures ∙ c.in_ok-sheets.ensures.edited ∙ ap (first_kept w) c.worksheets.ensures ∙ of_sheet w (sheet_of book w.sheet) c.requires.there in
    let is : c.unwrap-edited.result ≡ edited_kept w (sheet_of book w.sheet) = cc in
    λ i. record (is i) { formulas = (c.in_ok-sheets.ensures.formulas ∙ ap (formulas_kept w) c.worksheets.ensures) i }
