use Rattle.std.proofs.Common.{◌≡◌, ◌+◌, ◌<◌, ◌≤◌, Ok, ◌∷◌, ◌++◌, [], length, drop, take, refl, sym, ap, ◌∙◌, rules}
use Rattle.std.proofs.lemmas.Result.{err_from_is_err_and}
use Rattle.std.proofs.lemmas.List.{drop_more, take_more}
use Rattle.sheet_history.specs.declared.QueueDiffs.{QueueDiffs}
use Rattle.sheet_history.specs.Diffs.{follow}
use Rattle.open_book.specs.Machine.{outside}
use Rattle.open_book.specs.Opened.{document_in, session_of}
use Rattle.open_book.proofs.Moving.{received_turns, reached_rules}
use Rattle.open_book.proofs.Received.{drop_all, made_all, made_next, made_refused, reached_start, reached_next, reached_refused, reached_end}
use Rattle.open_book.proofs.open_book.OpenBook.receive_all.Goals as goal

pub loop-index-init : goal.loop-index-init
loop-index-init g c = ((λ s stands. reached_start c.args.queue.now s (document_in c.args.self.now) stands), refl, refl)

pub receive-requires-clause-rules : goal.receive-requires-clause-rules
receive-requires-clause-rules g c =
    let reached = c.loop-index.invariant.0 c.requires.reached.0 c.requires.reached.1 in
    reached_rules (document_in c.loop-index.self) (reached.now, reached.stands)

pub loop-index-preserved : goal.loop-index-preserved
loop-index-preserved g c =
    let q = c.args.queue.now in
    let i = c.loop-index.index in
    let e = c.index-queue-index.result in
    let within : i < length q = search rules in
    let here : drop i q ≡ e ∷ drop (i + 1) q = drop_more q i e within ∙ ap (λ (x : QueueDiffs). x ∷ drop (i + 1) q) (sym c.index-queue-index.is) in
    let front : take (i + 1) q ≡ take i q ++ e ∷ [] = take_more q i e within ∙ ap (λ (x : QueueDiffs). take i q ++ x ∷ []) (sym c.index-queue-index.is) in (
      (λ s stands.
          let reached = c.loop-index.invariant.0 s stands in
          let to = received_turns i e (document_in c.loop-index.self) (document_in c.receive.new.self) (Ok c.in_ok-receive.field-0) (c.in_ok-receive.ensures {u = _}).document reached.now reached.stands in
          reached_next q s i (document_in c.loop-index.self) reached e here (document_in c.receive.new.self) within front to.done),
      made_next g.R.Recalc.Fits (session_of c.args.self.now c.args.results.now) (session_of c.receive.new.self c.receive.new.results) q i e front (c.in_ok-receive.ensures {u = _}).output,
      c.receive.ensures.paused ∙ c.loop-index.invariant.2,
    )

pub returns-in_err-receive-clause-next : goal.returns-in_err-receive-clause-next
returns-in_err-receive-clause-next g c =
    let q = c.args.queue.now in
    let i = c.loop-index.index in
    let e = c.index-queue-index.result in
    let within : i < length q = search rules in
    let here : drop i q ≡ e ∷ drop (i + 1) q = drop_more q i e within ∙ ap (λ (x : QueueDiffs). x ∷ drop (i + 1) q) (sym c.index-queue-index.is) in
    let p = err_from_is_err_and c.from_residual.result c.from_residual.ensures.1 in
    rw (p.1, p.2) (λ s stands.
    let reached = c.loop-index.invariant.0 s stands in
    let to = received_turns i e (document_in c.loop-index.self) _ _ c.in_err-receive.ensures.document reached.now reached.stands in
    reached_refused q s i (document_in c.loop-index.self) reached e here _ c.in_err-receive.field-0.0 c.in_err-receive.ensures.document.refused.0 to.refused)

pub returns-in_err-receive-clause-output : goal.returns-in_err-receive-clause-output
returns-in_err-receive-clause-output g c =
    let i = c.loop-index.index in
    let e = c.index-queue-index.result in
    let reached = c.loop-index.invariant.0 c.requires.reached.0 c.requires.reached.1 in
    let to = received_turns i e (document_in c.loop-index.self) _ _ c.in_err-receive.ensures.document reached.now reached.stands in
    let p = err_from_is_err_and c.from_residual.result c.from_residual.ensures.1 in
    rw (p.1, p.2) (made_refused g.R.Recalc.Fits (session_of c.args.self.now c.args.results.now) (session_of c.loop-index.self c.loop-index.results) _
    (λ j. record { document = c.in_err-receive.ensures.document.refused.0 j; values = (c.in_err-receive.ensures.err j).values; paused = (c.in_err-receive.ensures.err j).paused })
    c.args.queue.now i (follow e.kind reached.now.present e.list) (outside e reached.now) c.loop-index.invariant.1 c.in_err-receive.field-0.0 to.refused)

pub returns-in_err-receive-clause-paused : goal.returns-in_err-receive-clause-paused
returns-in_err-receive-clause-paused g c = c.receive.ensures.paused ∙ c.loop-index.invariant.2

pub returns-clause-next : goal.returns-clause-next
returns-clause-next g c = λ s stands.
    let over : length c.args.queue.now ≤ c.loop-index.index = search rules in
    reached_end c.args.queue.now s c.loop-index.index (document_in c.loop-index.self) (c.loop-index.invariant.0 s stands) (drop_all c.loop-index.index c.args.queue.now over)

pub returns-clause-output : goal.returns-clause-output
returns-clause-output g c =
    let over : length c.args.queue.now ≤ c.loop-index.index = search rules in
    made_all g.R.Recalc.Fits (session_of c.args.self.now c.args.results.now) (session_of c.loop-index.self c.loop-index.results) c.args.queue.now c.loop-index.index over c.loop-index.invariant.1

pub returns-clause-paused : goal.returns-clause-paused
returns-clause-paused g c = c.loop-index.invariant.2
