use Rattle.std.proofs.Common.{◌≡◌, subst}
use Rattle.book_audit.specs.OfBook.{AreOfBook}
use Rattle.book_trees.proofs.ListingLemmas.{books_listed}
use Rattle.book_sessions.specs.Audits.{HoldSameTrees}
use Rattle.book_sessions.specs.Openings.{IsLookedFrom, IsLooking}
use Rattle.book_sessions.proofs.Words.{∥∥₁_map, view, clean_of, no_doubt, Trees, Image, file_names}
use Rattle.book_sessions.proofs.Words.{HasShapes, MayFollow}
use Rattle.book_sessions.specs.declared.ended.Ended.TheVariants.{Closed}
use Rattle.book_sessions.proofs.AuditParts.{audited_same, same_goes_on, unaudited}
use Rattle.book_sessions.proofs.Causes.{err_each, ok_each, ok_so}
use Rattle.book_sessions.proofs.Openings.{carried_closed, carried_refused, the_store}
use Rattle.book_sessions.proofs.SessionParts.{close_leaves, close_rows, found_clean, rows_as_found}
use Rattle.book_sessions.proofs.audits.audit.Goals as goal

pub audit_in-audited-requires : goal.audit_in-audited-requires
audit_in-audited-requires g c = λ clean.
    the_store (λ store. HasShapes (view store)) c.args.opened c.in-Ok.store c.in-Ok.is c.requires

pub returns-in-Ok-clause-audited : goal.returns-in-Ok-clause-audited
returns-in-Ok-clause-audited g c = λ found opening.
    let audited = c.audit_in-audited in
    let closed = c.close_unchanged in
    let store = c.in-Ok.store in
    let looked : IsLookedFrom found store =
    subst (IsLooking g.D.Disk found) c.in-Ok.is opening in
    let same : (image : Image) → MayFollow g.D.Disk (Closed closed.result) image
    → HoldSameTrees found image =
    (λ image may.
    let after = no_doubt _ (closed.ensures.honest
    (found_clean g.D.Disk closed.result.files image may.1)) in
    audited_same found image store looked.ready looked.shows (clean_of _ (audited.ensures.clean after))
    (λ rests. close_leaves g.D.Disk audited.result.1 closed.result
    (λ (trees : Trees). trees ≡ (view store).trees) closed.ensures.honest closed.ensures.left
    (audited.ensures.same rests) may.0 image may.1)) in
    record {
      history = λ image may. same_goes_on file_names found image (same image may);
      unopened = tt;
      same = same;
      rows = λ image may held.
          let after = no_doubt _ (closed.ensures.honest
          (found_clean g.D.Disk closed.result.files image may)) in
          rows_as_found found image store looked.ready looked.shows
          (clean_of _ (audited.ensures.clean after)) held
          (λ rests. close_rows g.D.Disk audited.result.1 closed.result
          (λ (trees : Trees). trees ≡ (view store).trees) closed.ensures.honest
          closed.ensures.rows (audited.ensures.same rests) image may);
      book = ok_so audited.result.0 audited.ensures.book (λ told book counts is image may.
          let after = no_doubt _ (closed.ensures.honest
          (found_clean g.D.Disk closed.result.files image may.1)) in
          let clean = clean_of _ (audited.ensures.clean after) in
          ∥∥₁_map (looked.held clean) λ held. (
            held,
            subst (λ trees. AreOfBook file_names trees counts) (looked.shows clean held)
                (book counts is after),
          ));
      listed = ok_each audited.result.0 (λ told image may.
          let after = no_doubt _ (closed.ensures.honest
          (found_clean g.D.Disk closed.result.files image may.1)) in
          ∥∥₁_map (looked.held (clean_of _ (audited.ensures.clean after))) λ held. record {
            pages = held.pages;
            found = held.found;
            listed = books_listed held.pages held.file;
          });
      in_hand = λ answered. tt;
      refused = err_each audited.result.0 (λ fault honest. tt);
    }

pub returns-in-Ok-clause-log : goal.returns-in-Ok-clause-log
returns-in-Ok-clause-log g c = c.close_unchanged.ensures.log

pub returns-in-Err-clause-audited : goal.returns-in-Err-clause-audited
returns-in-Err-clause-audited g c = λ found opening.
    let refusal = subst (IsLooking g.D.Disk found) c.in-Err.is opening in
    unaudited g.D.Disk found c.in-Err.fault c.in-Err.files c.not_looked_through.result
    c.not_looked_through.ensures refusal.0 refusal.1 refusal.2

pub returns-in-Ok-clause-carried : goal.returns-in-Ok-clause-carried
returns-in-Ok-clause-carried g c =
    carried_closed c.args.opened c.in-Ok.store c.close_unchanged.result c.in-Ok.is (λ honest.
    c.audit_in-audited.ensures.clean (no_doubt _ (c.close_unchanged.ensures.honest honest)))

pub returns-in-Err-clause-carried : goal.returns-in-Err-clause-carried
returns-in-Err-clause-carried g c =
    carried_refused c.args.opened c.in-Err.fault c.in-Err.files c.in-Err.is
