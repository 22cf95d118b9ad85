use Rattle.std.proofs.Common.{◌∙◌, inl, inr, subst, sym}
use Rattle.tree_tables.specs.States.{HasCleanDisk, state}
use Rattle.tree_tables.proofs.Looking.{survives, was_clean}
use Rattle.table_ledger.proofs.SurvivalLemmas.{clean_before}
use Rattle.book_sessions.specs.Upgrades.{IsLeftInOld}
use Rattle.book_sessions.proofs.UpgradeParts.{rests_still}
use Rattle.book_sessions.proofs.Words.{file_names}
use Rattle.book_sessions.proofs.upgrades.upgrade_in.Goals as goal

-- where not all was written, a stop leaves the old books, or those that were brought over
pub returns-in-Err-write_tables-clause-left : goal.returns-in-Err-write_tables-clause-left
returns-in-Err-write_tables-clause-left g c = λ book stands clean trees left.
    let mid = c.has_book_row.new.store in
    let written = c.write_tables.ensures.survives in
    let looked : HasCleanDisk (state g.S.Store mid) = clean_before written clean in
    let first = was_clean (survives g.S.Store c.has_book_row.ensures.quiet) looked in
    let at = rests_still (c.in-Ok.ensures.same looked) (stands first) in
    elim (written.crash clean trees left) [
      | inl was ↦ inl (subst (IsLeftInOld file_names book)
          (at.rest.settled ∙ sym (g.met.S.Store.settled mid trees at.rest.is_open was)) at.kept)
      | inr brings ↦ inr (brings book at)
    ]
