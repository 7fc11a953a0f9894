use Rattle.std.proofs.Common.{◌≡◌, Bool, true, false, Ok, refl, ap, sym}
use Rattle.std.specs.Str.{is_utf8}
use Rattle.std.proofs.lemmas.Str.{is_utf8-from_IsUtf8, IsUtf8-from_is_utf8}
use Rattle.base_wire.proofs.reading.utf8_of.Goals as goal

fails : (b : Bool) → (b ≡ true → ⊥) → b ≡ false
fails true h = absurd (h refl)
fails false h = refl

pub returns-in-Ok : goal.returns-in-Ok
returns-in-Ok c =
    let valid = is_utf8-from_IsUtf8 c.args.bytes.now c.in-Ok.ensures.cases.1 in
    rw valid (record { done = ap Ok (sym c.in-Ok.ensures.cases.0); refused = tt })

pub returns-in-Err : goal.returns-in-Err
returns-in-Err c =
    let invalid : is_utf8 c.args.bytes.now ≡ false = fails _ (λ h. c.in-Err.ensures.cases.0 (IsUtf8-from_is_utf8 c.args.bytes.now h)) in
    rw invalid (record { done = tt; refused = λ _. refl })
