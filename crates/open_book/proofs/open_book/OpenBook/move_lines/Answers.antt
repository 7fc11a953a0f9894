use Rattle.std.proofs.Common.{◌≡◌, false, true, ap, refl, subst, sym, w32, SFits, ◌∙◌, true≢false}
use Rattle.std.proofs.lemmas.Int.{to_z-of_z}
use Rattle.std.proofs.lemmas.Result.{err_from_is_err_and}
use Rattle.std.specs.Prelude.{OnOk}
use Rattle.base_values.specs.Answers.{Changes}
use Rattle.edit_plans.specs.HiddenLines.{grown}
use Rattle.edit_plans.specs.Edits.{grown_move, is_silent}
use Rattle.edit_plans.specs.Edits.Edit.{Lines, MoveLines}
use Rattle.open_book.specs.Document.{document_edit}
use Rattle.open_book.specs.Far.{is_far}
use Rattle.open_book.specs.Opened.{document_in, session_of}
use Rattle.open_book.specs.Values.{Makes}
use Rattle.open_book.specs.Sound.{IsSoundChange}
use Rattle.open_book.proofs.MoveSteps.{move_sound, silent_document, sheetless_document, never_short, move_document, far_document}
use Rattle.open_book.proofs.Moving.{on_ok_map}
use Rattle.open_book.proofs.open_book.OpenBook.move_lines.Goals as goal

pub returns-then-is_silent-clause-document : goal.returns-then-is_silent-clause-document
returns-then-is_silent-clause-document g c =
    let count_fits : SFits w32 c.args.count = c.ranges.count in
    let delta_fits : SFits w32 c.args.delta = c.ranges.delta in
    let silent : is_silent (MoveLines c.args.sheet c.args.axis c.args.first c.args.count c.args.delta) c.args.self.now.workbook ≡ true = sym (simp to_z-of_z at c.is_silent.ensures) ∙ c.if-is_silent.true in
    record { done = silent_document c.args.sheet c.args.axis c.args.first c.args.count c.args.delta (document_in c.args.self.now) silent; refused = tt; memory = tt }

pub returns-then-is_silent-clause-sound : goal.returns-then-is_silent-clause-sound
returns-then-is_silent-clause-sound g c =
    let count_fits : SFits w32 c.args.count = c.ranges.count in
    let delta_fits : SFits w32 c.args.delta = c.ranges.delta in
    let silent : is_silent (MoveLines c.args.sheet c.args.axis c.args.first c.args.count c.args.delta) c.args.self.now.workbook ≡ true = sym (simp to_z-of_z at c.is_silent.ensures) ∙ c.if-is_silent.true in
    λ loud. absurd (true≢false (sym silent ∙ loud))

pub returns-then-is_silent-clause-output : goal.returns-then-is_silent-clause-output
returns-then-is_silent-clause-output g c =
    let count_fits : SFits w32 c.args.count = c.ranges.count in
    let delta_fits : SFits w32 c.args.delta = c.ranges.delta in
    let silent : is_silent (MoveLines c.args.sheet c.args.axis c.args.first c.args.count c.args.delta) c.args.self.now.workbook ≡ true = sym (simp to_z-of_z at c.is_silent.ensures) ∙ c.if-is_silent.true in
    subst (λ b. Makes b g.R.Recalc.Fits (session_of c.args.self.now c.args.results.now) (session_of c.args.self.now c.args.results.now)) (sym silent) refl

pub returns-in-Some-clause-output : goal.returns-in-Some-clause-output
returns-in-Some-clause-output g c =
    let count_fits : SFits w32 c.args.count = c.ranges.count in
    let delta_fits : SFits w32 c.args.delta = c.ranges.delta in
    let loud : is_silent (MoveLines c.args.sheet c.args.axis c.args.first c.args.count c.args.delta) c.args.self.now.workbook ≡ false = sym (simp to_z-of_z at c.is_silent.ensures) ∙ c.if-is_silent.false in
    subst (λ b. OnOk c.edit_lines.result (Makes b g.R.Recalc.Fits (session_of c.args.self.now c.args.results.now) (session_of c.edit_lines.new.self c.edit_lines.new.results))) (sym loud)
    c.edit_lines.ensures.output

pub returns-in_err-found-clause-document : goal.returns-in_err-found-clause-document
returns-in_err-found-clause-document g c =
    let count_fits : SFits w32 c.args.count = c.ranges.count in
    let delta_fits : SFits w32 c.args.delta = c.ranges.delta in
    let loud : is_silent (MoveLines c.args.sheet c.args.axis c.args.first c.args.count c.args.delta) c.args.self.now.workbook ≡ false = sym (simp to_z-of_z at c.is_silent.ensures) ∙ c.if-is_silent.false in
    let error = c.in_err-found.field-0.0 in
    let p = err_from_is_err_and c.from_residual.result c.from_residual.ensures.1 in
    rw (p.1, p.2) (record {
      done = tt;
      refused = (
        refl,
        λ other. sheetless_document c.args.sheet c.args.axis c.args.first c.args.count c.args.delta (document_in c.args.self.now) loud error (sym c.in_err-found.ensures),
      );
      memory = λ short. absurd (never_short c.args.self.now.workbook c.args.sheet error (sym c.in_err-found.ensures) short);
    })

pub returns-in-Some-clause-document : goal.returns-in-Some-clause-document
returns-in-Some-clause-document g c =
    let first_fits : SFits w32 c.args.first = c.ranges.first in
    let count_fits : SFits w32 c.args.count = c.ranges.count in
    let delta_fits : SFits w32 c.args.delta = c.ranges.delta in
    let loud : is_silent (MoveLines c.args.sheet c.args.axis c.args.first c.args.count c.args.delta) c.args.self.now.workbook ≡ false = sym (simp to_z-of_z at c.is_silent.ensures) ∙ c.if-is_silent.false in
    let doc = document_in c.args.self.now in
    let sheet = c.in_ok-found.found.now in
    let near : c.in-Some.kind ≡ grown_move g.A.Axis.along c.args.first c.args.count c.args.delta sheet = simp to_z-of_z at (c.in-Some.ensures {u = _}).near in
    let same = near ∙ ap (λ a. grown_move a c.args.first c.args.count c.args.delta sheet) c.requires.along in
    subst (Changes c.edit_lines.result doc (document_in c.edit_lines.new.self))
    (ap (λ k. document_edit (Lines c.args.sheet c.args.axis k) doc) same
    ∙ move_document c.args.sheet c.args.axis c.args.first c.args.count c.args.delta doc loud sheet (sym c.in_ok-found.ensures))
    c.edit_lines.ensures.document

pub returns-in-Some-clause-sound : goal.returns-in-Some-clause-sound
returns-in-Some-clause-sound g c =
    let first_fits : SFits w32 c.args.first = c.ranges.first in
    let count_fits : SFits w32 c.args.count = c.ranges.count in
    let delta_fits : SFits w32 c.args.delta = c.ranges.delta in
    let w = c.args.self.now.workbook in
    let sheet = c.in_ok-found.found.now in
    let near : c.in-Some.kind ≡ grown_move g.A.Axis.along c.args.first c.args.count c.args.delta sheet = simp to_z-of_z at (c.in-Some.ensures {u = _}).near in
    let same = near ∙ ap (λ a. grown_move a c.args.first c.args.count c.args.delta sheet) c.requires.along in
    on_ok_map c.edit_lines.result
    (λ change. move_sound c.args.sheet c.args.axis c.args.first c.args.count c.args.delta w sheet (sym c.in_ok-found.ensures) (subst (λ k. IsSoundChange (Lines c.args.sheet c.args.axis k) w) same change))
    c.edit_lines.ensures.sound

pub returns-in-None-clause-document : goal.returns-in-None-clause-document
returns-in-None-clause-document g c =
    let first_fits : SFits w32 c.args.first = c.ranges.first in
    let count_fits : SFits w32 c.args.count = c.ranges.count in
    let delta_fits : SFits w32 c.args.delta = c.ranges.delta in
    let loud : is_silent (MoveLines c.args.sheet c.args.axis c.args.first c.args.count c.args.delta) c.args.self.now.workbook ≡ false = sym (simp to_z-of_z at c.is_silent.ensures) ∙ c.if-is_silent.false in
    let sheet = c.in_ok-found.found.now in
    let far : is_far (grown g.A.Axis.along sheet c.args.first c.args.count c.args.delta) ≡ true = simp to_z-of_z at c.in-None.ensures.far in
    record {
      done = tt;
      refused = (
        refl,
        λ other. far_document c.args.sheet c.args.axis c.args.first c.args.count c.args.delta (document_in c.args.self.now) loud sheet (sym c.in_ok-found.ensures)
            (ap (λ a. is_far (grown a sheet c.args.first c.args.count c.args.delta)) (sym c.requires.along) ∙ far),
      );
      memory = λ short. absurd (cc);
    }
