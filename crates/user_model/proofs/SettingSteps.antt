-- Settings and languages that are looked up by their names.
use Rattle.std.proofs.Common.{◌≡◌, ◌≢◌, Option, Some, None, Result, Ok, Err, refl, ap, sym, subst, ◌∙◌}
use Rattle.base_values.specs.declared.EditError.{EditError}
use Rattle.base_values.specs.declared.EditError.TheVariants.{NoMemory}
use Rattle.base_values.specs.Answers.{and_then, ok_or}
use Rattle.base_tables.specs.declared.Language.{Language}
use Rattle.open_book.specs.Document.{Document}
use Rattle.open_book.specs.Machine.{State, speaking_in}
use Rattle.open_book.specs.Sound.{IsSound}
use Rattle.open_book.specs.Stands.{IsReached, Moves, StandsFor}
use Rattle.open_book.specs.Values.{Session, speaking}

-- ---- look-ups

-- what a table does not have is not missing for lack of memory
module _ {A : Type 0} (missing : EditError) (other : missing ≢ NoMemory) where
  same_error : (error : EditError) → ◌≡◌ {A = Result A EditError} (Err missing) (Err error) → missing ≡ error
  same_error error is = cc

  pub table_sure : (error : EditError) (o : Option A) → ok_or missing o ≡ Err error → error ≢ NoMemory
  table_sure error None is short = other (same_error error is ∙ short)
  table_sure error (Some value) is short = absurd (let never : ◌≡◌ {A = Result A EditError} (Ok value) (Err error) = is in cc)

module _ {A : Type 0} (found : Result A EditError) (step : A → State → Result State EditError) (s : State) where
  -- a step with what was not found is refused
  pub unnamed_moves : (doc : Document) (error : EditError) → found ≡ Err error → error ≢ NoMemory → Moves {T = Unit {0}} (Err error) doc (and_then found (λ value. step value s))
  unnamed_moves doc error is sure = record { done = tt; refused = λ other. ap (λ r. and_then r (λ value. step value s)) is; memory = λ short. absurd (sure short) }

  -- one with what was found is that
  pub named_moves : (result : Result (Unit {0}) EditError) (new : Document) (value : A) → found ≡ Ok value → Moves result new (step value s)
      → Moves result new (and_then found (λ v. step v s))
  named_moves result new value is moves = subst (λ (r : Result A EditError). Moves result new (and_then r (λ v. step v s))) (sym is) moves

-- ---- languages

-- a state in another language is sound too
sound_spoken : (s : State) → IsSound s → (language : Language) → IsSound (record s { language = language })
sound_spoken s sound language = record {
  present = sound.present;
  seen = sound.seen;
  past = sound.past;
  undone = sound.undone;
  carries = sound.carries;
  encodable = sound.encodable;
  stale_undo = sound.stale_undo;
  stale_redo = sound.stale_redo;
}

-- the document in another language stands for the state in it
spoken_stands : (doc : Document) (s : State) (language : Language) → StandsFor doc s → StandsFor (record doc { language = language }) (record s { language = language })
spoken_stands doc s language is = record { document = ap (λ (d : Document). record d { language = language }) is.document; sound = sound_spoken s is.sound language }

pub spoken_reached : (doc : Document) (language : Language) → IsReached doc → IsReached (record doc { language = language })
spoken_reached doc language is = (record is.0 { language = language }, spoken_stands doc is.0 language is.1)

-- a language that was found is the one of the state
pub spoken : (old new : Session) (s : State) (language : Language) → new ≡ speaking old language → StandsFor old.document s
    → Moves {T = Unit {0}} (Ok tt) new.document (speaking_in (Ok language) s)
spoken old new s language is stands =
    record { done = subst (λ (session : Session). StandsFor session.document (record s { language = language })) (sym is) (spoken_stands old.document s language stands); refused = tt; memory = tt }

-- and one that was not is not
pub not_spoken : (old : Session) (s : State) (error : EditError) → error ≢ NoMemory → StandsFor old.document s → Moves {T = Unit {0}} (Err error) old.document (speaking_in (Err error) s)
not_spoken old s error sure stands = record { done = tt; refused = λ other. refl; memory = λ short. absurd (sure short) }
