use Rattle.std.proofs.Common.{◌≡◌, Result, Ok, Err, refl}
use Rattle.std.specs.Prelude.{OnErr}
use Rattle.base_values.specs.declared.EditError.{EditError}
use Rattle.base_values.specs.Answers.{Edits}
use Rattle.script_runs.proofs.Steps.{language_keeps, moves_turn, step_runs}
use Rattle.script_runs.proofs.session.Session.language.Goals as goal

unchanged : {S : Type 0} (result : Result (Unit {0}) EditError) (old new : S) (expected : Result S EditError) → Edits result old new expected → OnErr result (new ≡ old)
unchanged (Ok u) old new expected edits = tt
unchanged (Err error) old new expected edits = edits.refused.0

pub returns : goal.returns
returns c = λ state stands.
    step_runs c.push_outcome.result c.set_language-done.result c.args.self.now _ state _ (language_keeps c.args.name.now state) stands
    (moves_turn _ _ _ (c.set_language-done.ensures.next state stands.model))
    (unchanged c.set_language-done.result _ _ _ c.set_language-done.ensures.spoken) refl c.push_outcome.ensures.text c.push_outcome.ensures.memory
    c.push_outcome.ensures.only
