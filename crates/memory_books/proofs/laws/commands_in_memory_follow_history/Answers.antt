use Rattle.std.proofs.Common.{ℕ, List, [], subst}
use Rattle.streams.specs.Failures.{HasFailed}
use Rattle.chargectl.specs.Requests.{DoesOrRefuses}
use Rattle.memory_books.specs.Laws.{waits_in}
use Rattle.memory_books.specs.MemoryShelf.{memory_shelf}
use Rattle.program_output.specs.Messages.{AreSaid}
use Rattle.memory_books.proofs.LawLemmas.{begun}
use Rattle.memory_books.proofs.laws.commands_in_memory_follow_history.Goals as goal

pub returns-clause-begin : goal.returns-clause-begin
returns-clause-begin g c = λ before first later book wait note one asked is none done.
    let shelf = memory_shelf g.L.Ledger.seen g.L.KeptLedger.names in
    let contents = g.O.Write.contents in
    let Failed : Type 0 = ∥ HasFailed g.O.Writer.may_answer first.holds ∥₁ in
    let Says : List (List ℕ) → Type 0 =
    λ lines. AreSaid g.E.Write.contents g.E.Writer.may_answer lines first.quiet first.said in
    c.commands_follow_history.ensures book.now [] first.after later tt
    (begun first.files shelf waits_in before first.after book wait note first.had
    (contents first.held)
    (contents first.holds) Failed Says first.status
    (subst (λ asked. DoesOrRefuses first.files shelf waits_in before first.after asked first.had
    (contents first.held) (contents first.holds) Failed Says first.status) asked one.done) is none)
    done
