use Rattle.std.proofs.Common.{◌≡◌, Result, Ok, Err, refl, ap, ◌∙◌}
use Rattle.std.specs.Result.{is_ok}
use Rattle.base_values.specs.declared.EditError.{EditError}
use Rattle.base_values.specs.Answers.{map_ok}
use Rattle.style_edits.specs.Updates.{updated_style}
use Rattle.edit_plans.proofs.styles.StyleUpdateStyleChange.accepts.Goals as goal

still_ok : {A B : Type 0} (f : A → B) (r : Result A EditError) → is_ok (map_ok f r) ≡ is_ok r
still_ok f (Ok value) = refl
still_ok f (Err error) = refl

pub returns : goal.returns
returns c =
    c.is_ok.ensures.value ∙ ap is_ok c.test_update.ensures.tested
    ∙ still_ok _ (updated_style c.args.style.now c.args.self.now.path.now c.args.self.now.value.now)
