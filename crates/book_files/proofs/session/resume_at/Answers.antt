use Rattle.std.proofs.Common.{inl, refl}
use Rattle.sqlite_disk.specs.contracts.modelled.ModelledDisk.TheImpl as modelled
use Rattle.sqlite_disk.specs.contracts.modelled.Modelled as file
use Rattle.sqlite_std_file.specs.contracts.host.Host.{the_row}
use Rattle.synced_disk.specs.contracts.synced.SyncedDiskDisk.TheImpl as synced
use Rattle.sqlite_std_file.specs.contracts.host.HostCalls.TheImpl as host
use Rattle.sqlite_wal.specs.Files.{image_at}
use Rattle.book_trees.specs.StoreView.{ListsBooks}
use Rattle.book_sessions.proofs.Causes.{ok_so}
use Rattle.book_sessions.proofs.Openings.{open_only, opening_at}
use Rattle.book_files.proofs.session.resume_at.Goals as goal

pub returns : goal.returns
returns g c =
    let disk = synced.ghosts (file.the_row the_row g.row.S host.ghosts g.S.Start)
    (modelled.ghosts the_row g.row.S host.ghosts host.dict g.S.Start g.S.Start-dict
    g.S.Destruct-dict)
    (modelled.dict the_row g.row.S host.ghosts host.dict g.S.Start g.S.Start-dict
    g.S.Destruct-dict) in
    let first = image_at g.S.Start in
    let opened = c.open_at-opened.result in
    let from = c.open_at-opened.ensures in
    let session = c.resume.ensures in
    let continued = session.continued first (opening_at disk (λ file. inl refl) first opened from.ready
    from.found from.form from.there from.kept) in
    record {
      continued = continued;
      in_hand = continued.in_hand;
      moves = session.moves;
      only = open_only (ListsBooks first) opened c.resume.result.1
          (ok_so opened from.read (λ store read clean. ∣ (read clean).lists ∣₁)) session.carried;
    }
