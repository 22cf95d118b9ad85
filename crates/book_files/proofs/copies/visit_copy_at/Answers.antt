use Rattle.std.proofs.Common.{Ok, Some, inl, refl, subst, sym}
use Rattle.sqlite_disk.specs.contracts.modelled.ModelledDisk.TheImpl as modelled
use Rattle.sqlite_disk.specs.contracts.modelled.Modelled as file
use Rattle.sqlite_std_file.specs.contracts.host.Host.{the_row}
use Rattle.synced_disk.specs.contracts.synced.SyncedDiskDisk.TheImpl as synced
use Rattle.sqlite_std_file.specs.contracts.host.HostCalls.TheImpl as host
use Rattle.sqlite_wal.specs.Files.{image_at}
use Rattle.sqlite_wal.specs.Recovery.{Image}
use Rattle.book_restarts.specs.FileBooks.{file_names}
use Rattle.book_trees.specs.LedgerFiles.{image_of, HoldsBooks}
use Rattle.book_sessions.proofs.Causes.{err_given, mapped_err, mapped_ok}
use Rattle.book_sessions.proofs.Openings.{open_only}
use Rattle.book_sessions.specs.Causes.{WhyNotVisited}
use Rattle.book_sessions.specs.Openings.{IsOpenedFrom}
use Rattle.book_sessions.specs.Sessions.{AreHonest, OpenOnly}
use Rattle.book_sessions.specs.declared.ended.Ended.TheVariants.{Refused}
use Rattle.book_files.specs.Copies.{IsCopyOf, WhyNotCopied}
use Rattle.book_files.specs.declared.copied.CopyFault.TheVariants as copies
use Rattle.book_files.proofs.CopyParts.{copied_from, copy_of, uncopied_cause, unvisited_cause}
use Rattle.book_files.proofs.CopyParts.{were_only_read}
use Rattle.book_files.proofs.copies.visit_copy_at.Goals as goal

pub visit-answer-requires : goal.visit-answer-requires
visit-answer-requires g c = c.in-Ok-copy_to.ensures.trees

pub returns-in-Ok-copy_to-clause-visited : goal.returns-in-Ok-copy_to-clause-visited
returns-in-Ok-copy_to-clause-visited g c =
    let one = synced.ghosts (file.the_row the_row g.row.S host.ghosts g.S.Start)
    (modelled.ghosts the_row g.row.S host.ghosts host.dict g.S.Start g.S.Start-dict
    g.S.Destruct-dict)
    (modelled.dict the_row g.row.S host.ghosts host.dict g.S.Start g.S.Start-dict
    g.S.Destruct-dict) in
    let two = synced.ghosts (file.the_row the_row g.row.T host.ghosts g.T.Start)
    (modelled.ghosts the_row g.row.T host.ghosts host.dict g.T.Start g.T.Start-dict
    g.T.Destruct-dict)
    (modelled.dict the_row g.row.T host.ghosts host.dict g.T.Start g.T.Start-dict
    g.T.Destruct-dict) in
    let visited = c.visit-answer in
    let work = g.V.Visit.work file_names c.args.visit.now visited.new.visit in
    let original = Some c.copy_to.new.from in
    let copy = visited.result.1 in
    let first = image_at g.S.Start in
    let store = c.in-Ok-copy_to.store in
    let from = c.in-Ok-copy_to.ensures in
    let opened : AreHonest one original → IsOpenedFrom first store =
    (λ honest. copied_from (image_of one c.in-Ok.files) first c.in-Ok.ensures.held store from.ready
    (λ clean. from.found clean honest) (λ clean. from.form clean honest)) in
    let books : AreHonest one original → OpenOnly two (HoldsBooks first) copy =
    (λ honest. open_only (HoldsBooks first) (Ok store) copy
    (λ clean. subst (λ (i : Image). ∥ HoldsBooks i ∥₁) c.in-Ok.ensures.held
    (from.books clean honest)) visited.ensures.carried) in
    mapped_ok (λ answer. AreHonest one original → IsCopyOf two (work answer) first copy)
    copies.Refused visited.result.0 c.map_err.result c.map_err.ensures.cases
    (copy_of two work first visited.result.0 copy
    (λ (honest : AreHonest one original). visited.ensures.visited first (opened honest)) books)

pub returns-in-Ok-copy_to-clause-original : goal.returns-in-Ok-copy_to-clause-original
returns-in-Ok-copy_to-clause-original g c =
    were_only_read (synced.ghosts (file.the_row the_row g.row.S host.ghosts g.S.Start)
    (modelled.ghosts the_row g.row.S host.ghosts host.dict g.S.Start g.S.Start-dict
    g.S.Destruct-dict)
    (modelled.dict the_row g.row.S host.ghosts host.dict g.S.Start g.S.Start-dict
    g.S.Destruct-dict)) (λ file. inl refl) (image_at g.S.Start) c.in-Ok.files c.copy_to.new.from
    c.in-Ok.ensures.kept c.copy_to.ensures.read

pub returns-in-Ok-copy_to-clause-copied : goal.returns-in-Ok-copy_to-clause-copied
returns-in-Ok-copy_to-clause-copied g c = λ answered. c.visit-answer.ensures.carried.back

pub returns-in-Err-copy_to-clause-original : goal.returns-in-Err-copy_to-clause-original
returns-in-Err-copy_to-clause-original g c =
    were_only_read (synced.ghosts (file.the_row the_row g.row.S host.ghosts g.S.Start)
    (modelled.ghosts the_row g.row.S host.ghosts host.dict g.S.Start g.S.Start-dict
    g.S.Destruct-dict)
    (modelled.dict the_row g.row.S host.ghosts host.dict g.S.Start g.S.Start-dict
    g.S.Destruct-dict)) (λ file. inl refl) (image_at g.S.Start) c.in-Ok.files c.copy_to.new.from
    c.in-Ok.ensures.kept c.copy_to.ensures.read

pub returns-in-Err-copy_to-clause-refused : goal.returns-in-Err-copy_to-clause-refused
returns-in-Err-copy_to-clause-refused g c =
    let one = synced.ghosts (file.the_row the_row g.row.S host.ghosts g.S.Start)
    (modelled.ghosts the_row g.row.S host.ghosts host.dict g.S.Start g.S.Start-dict
    g.S.Destruct-dict)
    (modelled.dict the_row g.row.S host.ghosts host.dict g.S.Start g.S.Start-dict
    g.S.Destruct-dict) in
    let two = synced.ghosts (file.the_row the_row g.row.T host.ghosts g.T.Start)
    (modelled.ghosts the_row g.row.T host.ghosts host.dict g.T.Start g.T.Start-dict
    g.T.Destruct-dict)
    (modelled.dict the_row g.row.T host.ghosts host.dict g.T.Start g.T.Start-dict
    g.T.Destruct-dict) in
    let original = c.copy_to.new.from in
    let copy = c.in-Err-copy_to.copies in
    subst (WhyNotCopied one two (image_at g.S.Start) (Some original) (Refused copy))
    (sym c.copy_fault.ensures)
    (uncopied_cause one two (image_at g.S.Start) c.in-Ok.files original c.in-Ok.ensures.held
    c.in-Err-copy_to.fault copy c.in-Err-copy_to.ensures.there)

pub returns-in-Ok-copy_to-clause-refused : goal.returns-in-Ok-copy_to-clause-refused
returns-in-Ok-copy_to-clause-refused g c =
    let one = synced.ghosts (file.the_row the_row g.row.S host.ghosts g.S.Start)
    (modelled.ghosts the_row g.row.S host.ghosts host.dict g.S.Start g.S.Start-dict
    g.S.Destruct-dict)
    (modelled.dict the_row g.row.S host.ghosts host.dict g.S.Start g.S.Start-dict
    g.S.Destruct-dict) in
    let two = synced.ghosts (file.the_row the_row g.row.T host.ghosts g.T.Start)
    (modelled.ghosts the_row g.row.T host.ghosts host.dict g.T.Start g.T.Start-dict
    g.T.Destruct-dict)
    (modelled.dict the_row g.row.T host.ghosts host.dict g.T.Start g.T.Start-dict
    g.T.Destruct-dict) in
    let visited = c.visit-answer in
    let original = c.copy_to.new.from in
    let copy = visited.result.1 in
    let first = image_at g.S.Start in
    let store = c.in-Ok-copy_to.store in
    let from = c.in-Ok-copy_to.ensures in
    let opened : AreHonest one (Some original) → IsOpenedFrom first store =
    (λ honest. copied_from (image_of one c.in-Ok.files) first c.in-Ok.ensures.held store from.ready
    (λ clean. from.found clean honest) (λ clean. from.form clean honest)) in
    mapped_err (WhyNotCopied one two first (Some original) copy) copies.Refused visited.result.0
    c.map_err.result c.map_err.ensures.cases
    (err_given (WhyNotVisited two first copy) visited.result.0
    (λ (honest : AreHonest one (Some original)). (visited.ensures.visited first (opened honest)).refused))
    (λ fault cause. unvisited_cause one two first original copy visited.ensures.carried.back fault cause)
