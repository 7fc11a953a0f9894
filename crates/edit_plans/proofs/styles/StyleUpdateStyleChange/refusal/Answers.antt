use Rattle.std.proofs.Common.{◌≡◌, Result, Ok, Err, refl, ap, ◌∙◌, rules}
use Rattle.base_values.specs.declared.EditError.{EditError}
use Rattle.base_values.specs.declared.EditError.TheVariants.{StyleValue}
use Rattle.base_values.specs.Answers.{map_ok}
use Rattle.base_styles.specs.declared.Style.{Style}
use Rattle.base_styles.specs.DefaultStyle.{default_style}
use Rattle.style_edits.specs.Updates.{updated_style}
use Rattle.edit_plans.specs.RangeEdits.{error_or}
use Rattle.edit_plans.proofs.styles.StyleUpdateStyleChange.refusal.Goals as goal

abbrev tested : Result Style EditError → Result (Unit {0}) EditError
tested r = map_ok (λ (style : Style). tt) r

where_taken : (r : Result Style EditError) (done : Unit {0}) → ◌≡◌ {A = Result (Unit {0}) EditError} (Ok done) (tested r) → StyleValue ≡ error_or StyleValue r
where_taken (Ok style) done is = refl
where_taken (Err error) done is = absurd (let never : ◌≡◌ {A = Result (Unit {0}) EditError} (Ok done) (Err error) = is in cc)

where_refused : (r : Result Style EditError) (error : EditError) → ◌≡◌ {A = Result (Unit {0}) EditError} (Err error) (tested r) → error ≡ error_or StyleValue r
where_refused (Ok style) error is = absurd (let never : ◌≡◌ {A = Result (Unit {0}) EditError} (Err error) (Ok tt) = is in cc)
where_refused (Err other) error is = cc

pub returns-in-Ok : goal.returns-in-Ok
returns-in-Ok c =
    let plain : c.get.result.now ≡ default_style = search rules in
    where_taken (updated_style default_style c.args.self.now.path.now c.args.self.now.value.now) c.in-Ok.field-0
    (c.in-Ok.ensures.tested ∙ ap (λ (s : Style). tested (updated_style s c.args.self.now.path.now c.args.self.now.value.now)) plain)

pub returns-in-Err : goal.returns-in-Err
returns-in-Err c =
    let plain : c.get.result.now ≡ default_style = search rules in
    where_refused (updated_style default_style c.args.self.now.path.now c.args.self.now.value.now) c.in-Err.error
    (c.in-Err.ensures.tested ∙ ap (λ (s : Style). tested (updated_style s c.args.self.now.path.now c.args.self.now.value.now)) plain)
