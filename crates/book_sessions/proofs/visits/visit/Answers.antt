use Rattle.std.proofs.Common.{◌≡◌, subst, sym, true, true≢false}
use Rattle.book_restarts.proofs.SessionLemmas.{held_leaves}
use Rattle.book_restarts.specs.FileBooks.{LeavesTrees, done_by}
use Rattle.book_sessions.proofs.Words.{∥∥₁_map, view, clean_of, no_doubt, Trees, file_names}
use Rattle.book_sessions.proofs.Words.{HoldsThisForm, HasShapes, HasFaultCause}
use Rattle.book_sessions.specs.Causes.{HaveNoBookRow, WhyNotVisited}
use Rattle.book_sessions.specs.Openings.{IsOpenedFrom, IsOpening}
use Rattle.book_sessions.specs.Sessions.{FilesGoOn}
use Rattle.book_sessions.specs.declared.ended.Ended.TheVariants.{Closed, Refused}
use Rattle.book_sessions.proofs.Causes.{err_so, ok_so, refused_cause, told_by_row, visited_cause}
use Rattle.book_sessions.proofs.Openings.{carried_closed, carried_refused, some_so, the_store}
use Rattle.book_sessions.proofs.SessionParts.{alone_follows, close_leaves, close_rows}
use Rattle.book_sessions.proofs.SessionParts.{done_answered, found_clean, left_of_book}
use Rattle.book_sessions.proofs.SessionParts.{refused_goes_on, rows_as_found, session_goes_on}
use Rattle.book_sessions.proofs.SessionParts.{to_be_moved}
use Rattle.book_sessions.proofs.visits.visit.Goals as goal

pub visit_in-answer-requires : goal.visit_in-answer-requires
visit_in-answer-requires g c = λ clean.
    the_store (λ store. HasShapes (view store)) c.args.opened c.in-Ok.store c.in-Ok.is c.requires

pub returns-in-Ok-clause-visited : goal.returns-in-Ok-clause-visited
returns-in-Ok-clause-visited g c = λ found opening.
    let visited = c.visit_in-answer in
    let closed = c.close_books in
    let store = c.in-Ok.store in
    let opened : IsOpenedFrom found store =
    subst (IsOpening g.D.Disk found) c.in-Ok.is opening in
    let work = g.V.Visit.work file_names c.args.visit.now visited.new.visit in
    let Made = done_by work visited.result.0 in
    let goes_on : FilesGoOn g.D.Disk Made found (Closed closed.result) =
    (λ image may. session_goes_on file_names Made found image store opened.ready opened.shows
    (done_answered work file_names
    (g.met.V.Visit.answered file_names c.args.visit.now visited.new.visit) visited.result.0)
    (λ book stands.
    ∥∥₁_map (close_leaves g.D.Disk visited.result.1 closed.result (LeavesTrees file_names Made book)
    closed.ensures.honest closed.ensures.left (visited.ensures.left book stands) may.0 image may.1)
    λ held. held_leaves file_names Made book image held.0 held.1)) in
    record {
      history = goes_on;
      rows = λ image may book held. left_of_book file_names book found store opened.ready
          opened.shows held (λ stands. close_rows g.D.Disk visited.result.1 closed.result
          (LeavesTrees file_names Made book) closed.ensures.honest closed.ensures.rows
          (visited.ensures.left book stands) image may);
      same = err_so visited.result.0 visited.ensures.same (λ fault same image may held.
          rows_as_found found image store opened.ready opened.shows (clean_of _
          (visited.ensures.clean (no_doubt _ (closed.ensures.honest
          (found_clean g.D.Disk closed.result.files image may))))) held
          (λ rests. close_rows g.D.Disk visited.result.1 closed.result
          (λ (trees : Trees). trees ≡ (view store).trees) closed.ensures.honest
          closed.ensures.rows (same rests) image may));
      alone = λ image alone. goes_on image
          (alone_follows g.D.Disk visited.result.1 closed.result closed.ensures.log image alone);
      unopened = tt;
      in_hand = λ answered. tt;
      there = ok_so visited.result.0 visited.ensures.there (λ answer there honest.
          let after = no_doubt _ (closed.ensures.honest honest) in
          let clean = visited.ensures.clean after in (
            told_by_row found store opened.shows clean true (there after),
            opened.form (clean_of _ clean),
          ));
      refused = err_so visited.result.0 visited.ensures.refused (λ fault cause honest.
          let after = no_doubt _ (closed.ensures.honest honest) in
          visited_cause found store opened.shows (visited.ensures.clean after) fault (cause after));
    }

pub returns-in-Ok-clause-moves : goal.returns-in-Ok-clause-moves
returns-in-Ok-clause-moves g c =
    to_be_moved g.D.Disk c.visit_in-answer.result.1 c.close_books.result c.close_books.ensures.log

pub returns-in-Err-clause-visited : goal.returns-in-Err-clause-visited
returns-in-Err-clause-visited g c = λ found opening.
    let files = c.in-Err.files in
    let refusal = subst (IsOpening g.D.Disk found) c.in-Err.is opening in
    record {
      history = refused_goes_on g.D.Disk file_names found files refusal.1;
      rows = tt;
      same = tt;
      alone = λ image never. absurd never;
      unopened = some_so files refusal.1 (λ files same. same.kept);
      in_hand = λ answered. absurd (true≢false (sym answered));
      there = tt;
      refused = subst (WhyNotVisited g.D.Disk found (Refused files)) (sym c.refused.ensures)
          (refused_cause g.D.Disk (HoldsThisForm found) (HasFaultCause (HaveNoBookRow found) ⊥)
          c.in-Err.fault files refusal.0);
    }

pub returns-in-Ok-clause-carried : goal.returns-in-Ok-clause-carried
returns-in-Ok-clause-carried g c =
    carried_closed c.args.opened c.in-Ok.store c.close_books.result c.in-Ok.is (λ honest.
    c.visit_in-answer.ensures.clean (no_doubt _ (c.close_books.ensures.honest honest)))

pub returns-in-Err-clause-carried : goal.returns-in-Err-clause-carried
returns-in-Err-clause-carried g c =
    carried_refused c.args.opened c.in-Err.fault c.in-Err.files c.in-Err.is
