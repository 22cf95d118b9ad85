use Rattle.std.proofs.Common.{◌≡◌, subst, sym, true, true≢false}
use Rattle.book_model.specs.Words.{book_after, new_book}
use Rattle.table_model.specs.Words.{tables_of}
use Rattle.book_sessions.proofs.Words.{view, clean_of, no_doubt, Trees, AreClean, file_names}
use Rattle.book_sessions.proofs.Words.{HoldsThisForm, HoldsBooks, trees_held, IsStoredIn, HasShapes}
use Rattle.book_sessions.proofs.Words.{has_book, HasFaultCause, are_unused}
use Rattle.book_sessions.specs.Causes.{HaveBookRow, HaveUsedBook, IsResumedBy, WhyNotContinued}
use Rattle.book_sessions.specs.NewBooks.{LeavesNew}
use Rattle.book_sessions.specs.Openings.{IsOpenedFrom, IsOpening}
use Rattle.book_sessions.specs.declared.ended.Ended.TheVariants.{Refused}
use Rattle.book_sessions.proofs.Causes.{cause_so, err_so, told_by_row, unresumed_cause}
use Rattle.book_sessions.proofs.NewParts.{refused_still, resumed_at}
use Rattle.book_sessions.proofs.Openings.{carried_closed, carried_refused, some_so, the_store}
use Rattle.book_sessions.proofs.ResumeParts.{resumed_unused, why_unresumed}
use Rattle.book_sessions.proofs.SessionParts.{close_leaves, close_rows, found_clean, held_goes_on}
use Rattle.book_sessions.proofs.SessionParts.{opened_stands, refused_goes_on, rows_as_found}
use Rattle.book_sessions.proofs.SessionParts.{to_be_moved}
use Rattle.book_sessions.proofs.UnusedBooks.{new_unused, none_resumed}
use Rattle.book_sessions.proofs.new_books.resume.Goals as goal

pub resume_in-made-requires : goal.resume_in-made-requires
resume_in-made-requires g c = λ clean.
    the_store (λ store. HasShapes (view store)) c.args.opened c.in-Ok.store c.in-Ok.is c.requires

pub returns-in-Ok-clause-continued : goal.returns-in-Ok-clause-continued
returns-in-Ok-clause-continued g c = λ found opening.
    let resumed = c.resume_in-made in
    let closed = c.close_books in
    let store = c.in-Ok.store in
    let opened : IsOpenedFrom found store =
    subst (IsOpening g.D.Disk found) c.in-Ok.is opening in
    record {
      history = λ image may. held_goes_on file_names found image store opened.ready opened.shows
          (λ book stands. close_leaves g.D.Disk resumed.result.1 closed.result
          (IsStoredIn file_names book) closed.ensures.honest closed.ensures.left
          (resumed.ensures.held book stands) may.0 image may.1);
      rows = λ row image may held.
          let after = no_doubt _ (closed.ensures.honest
          (found_clean g.D.Disk closed.result.files image may)) in
          let clean = clean_of _ (resumed.ensures.clean after) in
          let there : has_book (view store).trees ≡ true =
          subst (λ (trees : Trees). has_book trees ≡ true) (sym (opened.shows clean held)) (row held) in
          rows_as_found found image store opened.ready opened.shows clean held
          (λ rests. close_rows g.D.Disk resumed.result.1 closed.result
          (λ (trees : Trees). trees ≡ (view store).trees) closed.ensures.honest
          closed.ensures.rows (resumed.ensures.there there rests) image may);
      unopened = tt;
      none = λ image may history held.
          let after = no_doubt _ (closed.ensures.honest
          (found_clean g.D.Disk closed.result.files image may.1)) in
          none_resumed file_names history found resumed.result.0 held (λ kept stored.
          resumed_unused (are_unused (tables_of file_names (book_after history))) resumed.result.0
          (resumed.ensures.told (book_after history)
          (opened_stands file_names (book_after history) found store opened.ready opened.shows kept
          stored) after));
      made = λ begun image may. resumed_at found store opened.ready opened.shows begun file_names
          resumed.result.0 image (λ empty. close_leaves g.D.Disk resumed.result.1 closed.result
          (λ (trees : Trees). LeavesNew file_names (view store) resumed.result.0 trees)
          closed.ensures.honest closed.ensures.left (resumed.ensures.left empty) may.0 image may.1);
      in_hand = λ answered. tt;
      refused = why_unresumed (AreClean g.D.Disk closed.result.files.log closed.result.files.db)
          (HaveBookRow found)
          ((held : HoldsBooks found) × IsStoredIn file_names new_book (trees_held held))
          resumed.result.0
          (err_so resumed.result.0 resumed.ensures.refused (λ fault cause honest.
          let after = no_doubt _ (closed.ensures.honest honest) in
          cause_so ⊥ ⊥ (has_book (view store).trees ≡ true) (HaveBookRow found) (λ never. never)
          (told_by_row found store opened.shows (resumed.ensures.clean after) true) fault
          (cause after)))
          (λ kept honest. subst (λ unused. IsResumedBy unused resumed.result.0)
          (new_unused file_names) (resumed.ensures.told new_book
          (opened_stands file_names new_book found store opened.ready opened.shows kept.0 kept.1)
          (no_doubt _ (closed.ensures.honest honest))));
    }

pub returns-in-Ok-clause-moves : goal.returns-in-Ok-clause-moves
returns-in-Ok-clause-moves g c =
    to_be_moved g.D.Disk c.resume_in-made.result.1 c.close_books.result c.close_books.ensures.log

pub returns-in-Err-clause-continued : goal.returns-in-Err-clause-continued
returns-in-Err-clause-continued g c = λ found opening.
    let files = c.in-Err.files in
    let refusal = subst (IsOpening g.D.Disk found) c.in-Err.is opening in
    record {
      history = refused_goes_on g.D.Disk file_names found files refusal.1;
      rows = λ row. tt;
      unopened = some_so files refusal.1 (λ files same. same.kept);
      none = λ image may history held. tt;
      made = refused_still g.D.Disk file_names found files refusal.1;
      in_hand = λ answered. absurd (true≢false (sym answered));
      refused = subst (WhyNotContinued g.D.Disk found (Refused files)) (sym c.unresumed.ensures)
          (unresumed_cause g.D.Disk (HoldsThisForm found) (HasFaultCause ⊥ (HaveUsedBook found))
          c.in-Err.fault files refusal.0);
    }

pub returns-in-Ok-clause-carried : goal.returns-in-Ok-clause-carried
returns-in-Ok-clause-carried g c =
    carried_closed c.args.opened c.in-Ok.store c.close_books.result c.in-Ok.is (λ honest.
    c.resume_in-made.ensures.clean (no_doubt _ (c.close_books.ensures.honest honest)))

pub returns-in-Err-clause-carried : goal.returns-in-Err-clause-carried
returns-in-Err-clause-carried g c =
    carried_refused c.args.opened c.in-Err.fault c.in-Err.files c.in-Err.is
