use Rattle.std.proofs.Common.{◌≡◌}
use Rattle.open_book.specs.Machine.{State}
use Rattle.open_book.specs.Opened.{document_in, session_of}
use Rattle.open_book.specs.Stands.{StandsFor}
use Rattle.open_book.specs.Values.{MakesAfter}
use Rattle.open_book.proofs.Received.{Reached}
use Rattle.open_book.proofs.open_book.OpenBook.receive_all.Given as goal

-- whatever state it stood for at first, it stands for the one after the first entries
abbrev pub invariant-loop-index : goal.invariant-loop-index
invariant-loop-index g l =
    ((first : State) → StandsFor (document_in l.fn.self) first → Reached l.queue first l.index (document_in l.self))
    × MakesAfter l.index l.queue g.R.Recalc.Fits (session_of l.fn.self l.fn.results) (session_of l.self l.results)
    × (l.results.paused ≡ l.fn.results.paused)
