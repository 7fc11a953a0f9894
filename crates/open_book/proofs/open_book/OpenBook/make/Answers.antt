use Rattle.std.proofs.Common.{Ok, Err, refl, subst}
use Rattle.std.proofs.lemmas.Result.{err_from_is_err_and}
use Rattle.base_values.specs.Answers.{Edits}
use Rattle.open_book.specs.Opened.{document_in}
use Rattle.open_book.specs.Stands.{IsSeenPlan}
use Rattle.open_book.proofs.Planned.{plan_kept, plan_works, plan_document, plan_accepted, plan_sound, plan_refused, plan_asked}
use Rattle.open_book.proofs.Moving.{changes_from, on_ok}
use Rattle.open_book.proofs.open_book.OpenBook.make.Goals as goal

pub returns-in_err-list-clause-document : goal.returns-in_err-list-clause-document
returns-in_err-list-clause-document g c =
    let doc = document_in c.args.self.now in
    let error = c.in_err-list.field-0.0 in
    let p = err_from_is_err_and c.from_residual.result c.from_residual.ensures.1 in
    rw (p.1, p.2) (λ edit is.
    let it : IsSeenPlan edit (Err error) c.args.selected c.args.seen doc = subst (λ plan. IsSeenPlan edit plan c.args.selected c.args.seen doc) c.in_err-list.was is in
    record {
      done = tt;
      refused = (refl, λ other. plan_refused edit doc c.args.selected c.args.seen error it (it.refused other));
      memory = λ short. plan_asked edit doc c.args.selected c.args.seen error it (it.memory short);
    })

pub apply-requires-clause-canonical : goal.apply-requires-clause-canonical
apply-requires-clause-canonical g c =
    let doc = document_in c.args.self.now in
    let any = c.requires.plan in
    plan_kept any.0 doc c.args.selected c.args.seen c.in_ok-list.list (subst (λ plan. IsSeenPlan any.0 plan c.args.selected c.args.seen doc) c.in_ok-list.was any.1)

pub returns-clause-document : goal.returns-clause-document
returns-clause-document g c = λ edit is.
    let doc = document_in c.args.self.now in
    let list = c.in_ok-list.list in
    let it : IsSeenPlan edit (Ok list) c.args.selected c.args.seen doc = subst (λ plan. IsSeenPlan edit plan c.args.selected c.args.seen doc) c.in_ok-list.was is in
    changes_from c.apply.result doc (document_in c.apply.new.self) _ (plan_accepted edit doc c.args.selected c.args.seen list it)
    (subst (Edits c.apply.result doc (document_in c.apply.new.self)) (plan_document edit doc c.args.selected c.args.seen list it) c.apply.ensures.document)

pub returns-clause-sound : goal.returns-clause-sound
returns-clause-sound g c = λ edit is.
    let doc = document_in c.args.self.now in
    on_ok c.apply.result (plan_sound edit doc c.args.selected c.args.seen c.in_ok-list.list (subst (λ plan. IsSeenPlan edit plan c.args.selected c.args.seen doc) c.in_ok-list.was is))

pub apply-requires-clause-works : goal.apply-requires-clause-works
apply-requires-clause-works g c =
    let doc = document_in c.args.self.now in
    let any = c.requires.plan in
    plan_works any.0 doc c.args.selected c.args.seen c.in_ok-list.list (subst (λ plan. IsSeenPlan any.0 plan c.args.selected c.args.seen doc) c.in_ok-list.was any.1)
