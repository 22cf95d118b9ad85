use Rattle.std.proofs.Common.{◌∙◌, ◌≡◌, sym}
use Rattle.book_audit.specs.OfBook.{AreOfBook}
use Rattle.book_audit.specs.declared.audited.Audited.TheVariants.{Sound}
use Rattle.book_audit.specs.declared.audited.Counts.{Counts}
use Rattle.book_restarts.proofs.OpenStores.{clean_before}
use Rattle.named_books.specs.declared.repository.RepositoryFault.TheVariants.{Ledger}
use Rattle.book_sessions.proofs.Causes.{mapped_ok}
use Rattle.book_sessions.proofs.Words.{IsClean, file_names}
use Rattle.book_sessions.proofs.audits.audit_in.Goals as goal

pub returns : goal.returns
returns g c =
    let audited = c.audit_trees-audited in
    let quiet = audited.ensures.quiet in
    let old = c.args.store in
    let new = audited.result.1 in
    record {
      same = λ rests clean trees left.
          let rest = rests (clean_before _ _ quiet.clean clean) in
          g.met.S.Store.settled old trees rest.is_open (quiet.outcomes trees left) ∙ sym rest.settled;
      book = mapped_ok (λ audited. (counts : Counts) → audited ≡ Sound counts
          → IsClean (g.S.Store.view new) → AreOfBook file_names (g.S.Store.view old).trees counts)
          Ledger audited.result.0 c.map_err.result c.map_err.ensures.cases audited.ensures.book;
      clean = λ clean. clean_before _ _ quiet.clean clean;
    }
