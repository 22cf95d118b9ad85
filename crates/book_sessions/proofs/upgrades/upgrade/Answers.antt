use Rattle.std.proofs.Common.{◌≡◌, false, subst, sym, IfErr, IfOk, Result}
use Rattle.book_model.specs.Words.{book_after}
use Rattle.book_restarts.proofs.SessionLemmas.{still_held}
use Rattle.book_trees.specs.OldForms.{HasOldTrees}
use Rattle.book_trees.specs.LedgerFiles.{HoldsFile, rows_held}
use Rattle.named_books.specs.declared.repository.Upgraded.{Upgraded}
use Rattle.book_sessions.specs.Causes.{HaveNoOldRow, IsToldOfThis, WhyNotUpgraded}
use Rattle.book_sessions.specs.Openings.{IsOldFrom, IsOldOpening}
use Rattle.book_sessions.proofs.Words.{∥∥₁_elim, ∥∥₁_prop, view, clean_of, IsClean, Image}
use Rattle.book_sessions.proofs.Words.{file_names, RepositoryFault, has_book, MayFollow}
use Rattle.book_sessions.specs.Upgrades.{BringsOver, HoldsWhatIsTold, LeavesUpgraded, TellsThisForm}
use Rattle.book_sessions.specs.declared.ended.Ended.TheVariants.{Closed}
use Rattle.book_sessions.proofs.Causes.{cause_so, err_so, opened_not_this}
use Rattle.book_sessions.proofs.Openings.{carried_closed, carried_refused, the_store}
use Rattle.book_sessions.proofs.SessionParts.{found_clean}
use Rattle.book_sessions.proofs.UpgradeParts.{brings_over, old_tells, opened_tells}
use Rattle.book_sessions.proofs.UpgradeParts.{rows_brought_over, tells_form, told_why, unupgraded}
use Rattle.book_sessions.proofs.upgrades.upgrade.Goals as goal

pub upgrade_and_close-upgraded-requires : goal.upgrade_and_close-upgraded-requires
upgrade_and_close-upgraded-requires g c =
    the_store (λ store. IsClean (view store) → HasOldTrees (view store)) c.args.opened c.in-Ok.store
    c.in-Ok.is c.requires

pub returns-in-Ok-clause-upgraded : goal.returns-in-Ok-clause-upgraded
returns-in-Ok-clause-upgraded g c = λ found opening.
    let upgraded = c.upgrade_and_close-upgraded in
    let ended = Closed upgraded.result.1 in
    let told = sym c.told_upgraded.ensures in
    let store = c.in-Ok.store in
    let opened : IsOldFrom found store =
    subst (IsOldOpening g.D.Disk found) c.in-Ok.is opening in
    record {
      history = λ form image may history held.
          subst (λ result. BringsOver file_names history result image) told
          (brings_over file_names history found image store opened.ready opened.shows held
          upgraded.result.0
          (λ stands. upgraded.ensures.left (book_after history) stands may.0 image may.1));
      rows = λ image may book held.
          subst (λ (result : Result Upgraded RepositoryFault).
          ∥ ((file : HoldsFile image) × LeavesUpgraded file_names book result (rows_held file)) ∥₁) told
          (rows_brought_over file_names book found image store opened.ready opened.shows held
          upgraded.result.0 (λ stands. upgraded.ensures.rows book stands image may));
      unopened = tt;
      kept = λ image may.
          let clean = clean_of _ (upgraded.ensures.clean
          (found_clean g.D.Disk upgraded.result.1.files image may.1)) in
          still_held file_names found image (λ book held.
          ∥∥₁_elim held ∥∥₁_prop λ kept. absurd (opened.older clean kept.0));
      this = λ held. subst (λ result. IsToldOfThis g.D.Disk result ended) told
          (opened_not_this g.D.Disk upgraded.result.1
          (λ honest. opened.older (clean_of _ (upgraded.ensures.clean honest)) held)
          upgraded.result.0);
      listed = subst (λ result. IfOk result (λ answer. (image : Image)
          → MayFollow g.D.Disk ended image → HoldsWhatIsTold found answer)) told
          (opened_tells g.D.Disk found upgraded.result.1 upgraded.result.0 (λ honest.
          let clean = clean_of _ (upgraded.ensures.clean honest) in
          (opened.held clean, opened.form clean)));
      in_hand = λ answered. tt;
      refused = subst (λ result. IfErr result (WhyNotUpgraded g.D.Disk found ended)) told
          (told_why (WhyNotUpgraded g.D.Disk found ended) upgraded.result.0
          (err_so upgraded.result.0 upgraded.ensures.refused (λ fault cause honest.
          cause_so (has_book (view store).trees ≡ false) (HaveNoOldRow found) ⊥ ⊥
          (λ none held. subst (λ trees. has_book trees ≡ false)
          (opened.shows (clean_of _ (upgraded.ensures.clean honest)) held) none)
          (λ never. never) fault (cause honest))));
    }

pub returns-in-Ok-clause-moves : goal.returns-in-Ok-clause-moves
returns-in-Ok-clause-moves g c = c.upgrade_and_close-upgraded.ensures.moves

pub returns-in-Ok-clause-told : goal.returns-in-Ok-clause-told
returns-in-Ok-clause-told g c =
    subst (λ result. IfOk result TellsThisForm) (sym c.told_upgraded.ensures)
    (tells_form c.upgrade_and_close-upgraded.result.0)

pub returns-in-Err-clause-upgraded : goal.returns-in-Err-clause-upgraded
returns-in-Err-clause-upgraded g c = λ found opening.
    let refusal = subst (IsOldOpening g.D.Disk found) c.in-Err.is opening in
    unupgraded g.D.Disk found c.in-Err.fault c.in-Err.files c.not_upgraded.result
    c.not_upgraded.ensures refusal.0 refusal.1 refusal.2 refusal.3

pub returns-in-Err-clause-told : goal.returns-in-Err-clause-told
returns-in-Err-clause-told g c =
    subst (λ result. IfOk result TellsThisForm) (sym c.not_upgraded.ensures)
    (old_tells c.in-Err.fault)

pub returns-in-Ok-clause-carried : goal.returns-in-Ok-clause-carried
returns-in-Ok-clause-carried g c =
    carried_closed c.args.opened c.in-Ok.store c.upgrade_and_close-upgraded.result.1 c.in-Ok.is
    c.upgrade_and_close-upgraded.ensures.clean

pub returns-in-Err-clause-carried : goal.returns-in-Err-clause-carried
returns-in-Err-clause-carried g c =
    carried_refused c.args.opened c.in-Err.fault c.in-Err.files c.in-Err.is
