use Rattle.std.proofs.Common.{subst, sym, true≢false}
use Rattle.book_trees.specs.LedgerFiles.{HoldsNothing}
use Rattle.book_sessions.proofs.Words.{view, clean_of, no_doubt, Trees, file_names, HasShapes}
use Rattle.book_sessions.proofs.Words.{HasFaultCause}
use Rattle.book_sessions.specs.Causes.{WhyNotMade}
use Rattle.book_sessions.specs.NewBooks.{LeavesNew}
use Rattle.book_sessions.specs.Openings.{IsCreatedFrom, IsCreation}
use Rattle.book_sessions.specs.declared.ended.Ended.TheVariants.{Refused}
use Rattle.book_sessions.proofs.Causes.{err_so, ok_each, refused_cause}
use Rattle.book_sessions.proofs.NewParts.{made_at, refused_begun}
use Rattle.book_sessions.proofs.Openings.{carried_closed, carried_refused, the_store}
use Rattle.book_sessions.proofs.SessionParts.{close_leaves, found_clean, to_be_moved}
use Rattle.book_sessions.proofs.new_books.make.Goals as goal

pub make_in-made-requires : goal.make_in-made-requires
make_in-made-requires g c = λ clean.
    the_store (λ store. HasShapes (view store)) c.args.opened c.in-Ok.store c.in-Ok.is c.requires

pub returns-in-Ok-clause-made : goal.returns-in-Ok-clause-made
returns-in-Ok-clause-made g c = λ found opening.
    let made = c.make_in-made in
    let closed = c.close_books in
    let store = c.in-Ok.store in
    let created : IsCreatedFrom found store =
    subst (IsCreation g.D.Disk found) c.in-Ok.is opening in
    record {
      made = λ nothing image may. made_at file_names store created.ready created.empty
          made.result.0 image (λ empty. close_leaves g.D.Disk made.result.1 closed.result
          (λ (trees : Trees). LeavesNew file_names (view store) made.result.0 trees)
          closed.ensures.honest closed.ensures.left (made.ensures.left empty) may.0 image may.1);
      new = ok_each made.result.0 (λ told image may.
          let after = no_doubt _ (closed.ensures.honest
          (found_clean g.D.Disk closed.result.files image may.1)) in
          created.started (clean_of _ (made.ensures.clean after)));
      unopened = λ something. tt;
      in_hand = λ answered. tt;
      refused = err_so made.result.0 made.ensures.kinds (λ fault kinds honest. kinds);
    }

pub returns-in-Ok-clause-moves : goal.returns-in-Ok-clause-moves
returns-in-Ok-clause-moves g c =
    to_be_moved g.D.Disk c.make_in-made.result.1 c.close_books.result c.close_books.ensures.log

pub returns-in-Err-clause-made : goal.returns-in-Err-clause-made
returns-in-Err-clause-made g c = λ found opening.
    let files = c.in-Err.files in
    let refusal = subst (IsCreation g.D.Disk found) c.in-Err.is opening in
    record {
      made = λ nothing. refused_begun g.D.Disk file_names files (refusal.1 nothing);
      new = tt;
      unopened = refusal.2;
      in_hand = λ answered. absurd (true≢false (sym answered));
      refused = subst (WhyNotMade g.D.Disk found (Refused files)) (sym c.refused.ensures)
          (refused_cause g.D.Disk (HoldsNothing found) (HasFaultCause ⊥ ⊥) c.in-Err.fault files
          refusal.0);
    }

pub returns-in-Ok-clause-carried : goal.returns-in-Ok-clause-carried
returns-in-Ok-clause-carried g c =
    carried_closed c.args.opened c.in-Ok.store c.close_books.result c.in-Ok.is (λ honest.
    c.make_in-made.ensures.clean (no_doubt _ (c.close_books.ensures.honest honest)))

pub returns-in-Err-clause-carried : goal.returns-in-Err-clause-carried
returns-in-Err-clause-carried g c =
    carried_refused c.args.opened c.in-Err.fault c.in-Err.files c.in-Err.is
