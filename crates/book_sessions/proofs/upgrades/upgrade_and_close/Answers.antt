use Rattle.book_sessions.specs.Upgrades.{LeavesUpgraded}
use Rattle.book_sessions.proofs.SessionParts.{close_rows, found_clean, to_be_moved}
use Rattle.book_sessions.proofs.Causes.{err_so}
use Rattle.book_sessions.proofs.UpgradeParts.{brought_holds, unbrought_holds}
use Rattle.book_sessions.proofs.Words.{no_doubt, file_names}
use Rattle.book_sessions.proofs.upgrades.upgrade_and_close.Goals as goal

pub returns-in-Ok-clause-left : goal.returns-in-Ok-clause-left
returns-in-Ok-clause-left g c = λ book stands kept image may.
    let closed = c.close_books.result in
    let clean = no_doubt _ (c.close_books.ensures.honest
    (found_clean g.D.Disk closed.files image may)) in
    brought_holds file_names book c.upgrade_in-upgraded.result.0 image c.upgrade_in-upgraded.result.1
    (λ trees left. c.upgrade_in-upgraded.ensures.left book stands clean trees left) tt c.in-Ok.is
    (c.close_books.ensures.left kept image may)

pub returns-in-Ok-clause-rows : goal.returns-in-Ok-clause-rows
returns-in-Ok-clause-rows g c = λ book stands.
    close_rows g.D.Disk c.upgrade_in-upgraded.result.1 c.close_books.result
    (LeavesUpgraded file_names book c.upgrade_in-upgraded.result.0) c.close_books.ensures.honest
    c.close_books.ensures.rows (c.upgrade_in-upgraded.ensures.left book stands)

pub returns-in-Ok-clause-clean : goal.returns-in-Ok-clause-clean
returns-in-Ok-clause-clean g c clean =
    c.upgrade_in-upgraded.ensures.clean (no_doubt _ (c.close_books.ensures.honest clean))

pub returns-in-Err-clause-left : goal.returns-in-Err-clause-left
returns-in-Err-clause-left g c = λ book stands kept image may.
    let closed = c.close_old.result in
    let clean = no_doubt _ (c.close_old.ensures.honest
    (found_clean g.D.Disk closed.files image may)) in
    unbrought_holds file_names book c.upgrade_in-upgraded.result.0 image
    c.upgrade_in-upgraded.result.1
    (λ trees left. c.upgrade_in-upgraded.ensures.left book stands clean trees left) _ c.in-Err.is
    (c.close_old.ensures.left kept image may)

pub returns-in-Err-clause-rows : goal.returns-in-Err-clause-rows
returns-in-Err-clause-rows g c = λ book stands.
    close_rows g.D.Disk c.upgrade_in-upgraded.result.1 c.close_old.result
    (LeavesUpgraded file_names book c.upgrade_in-upgraded.result.0) c.close_old.ensures.honest
    c.close_old.ensures.rows (c.upgrade_in-upgraded.ensures.left book stands)

pub returns-in-Err-clause-clean : goal.returns-in-Err-clause-clean
returns-in-Err-clause-clean g c clean =
    c.upgrade_in-upgraded.ensures.clean (no_doubt _ (c.close_old.ensures.honest clean))

pub returns-in-Err-clause-refused : goal.returns-in-Err-clause-refused
returns-in-Err-clause-refused g c =
    err_so c.upgrade_in-upgraded.result.0 c.upgrade_in-upgraded.ensures.refused
    (λ fault cause clean. cause (no_doubt _ (c.close_old.ensures.honest clean)))

pub returns-in-Ok-clause-moves : goal.returns-in-Ok-clause-moves
returns-in-Ok-clause-moves g c =
    to_be_moved g.D.Disk c.upgrade_in-upgraded.result.1 c.close_books.result c.close_books.ensures.log

pub returns-in-Err-clause-moves : goal.returns-in-Err-clause-moves
returns-in-Err-clause-moves g c =
    to_be_moved g.D.Disk c.upgrade_in-upgraded.result.1 c.close_old.result c.close_old.ensures.log
