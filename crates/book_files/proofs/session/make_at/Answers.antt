use Rattle.sqlite_disk.specs.contracts.modelled.ModelledDisk.TheImpl as modelled
use Rattle.sqlite_disk.specs.contracts.modelled.Modelled as file
use Rattle.sqlite_std_file.specs.contracts.host.Host.{the_row}
use Rattle.synced_disk.specs.contracts.synced.SyncedDiskDisk.TheImpl as synced
use Rattle.sqlite_std_file.specs.contracts.host.HostCalls.TheImpl as host
use Rattle.sqlite_wal.specs.Files.{image_at}
use Rattle.book_trees.specs.LedgerFiles.{HoldsNothing}
use Rattle.book_sessions.proofs.Openings.{creation_at, open_only}
use Rattle.book_files.proofs.session.make_at.Goals as goal

pub returns : goal.returns
returns g c =
    let disk = synced.ghosts (file.the_row the_row g.row.S host.ghosts g.S.Start)
    (modelled.ghosts the_row g.row.S host.ghosts host.dict g.S.Start g.S.Start-dict
    g.S.Destruct-dict)
    (modelled.dict the_row g.row.S host.ghosts host.dict g.S.Start g.S.Start-dict
    g.S.Destruct-dict) in
    let first = image_at g.S.Start in
    let opened = c.create_at-opened.result in
    let from = c.create_at-opened.ensures in
    let session = c.make.ensures in
    let made = session.made first (creation_at disk first opened from.ready from.empty from.started
    from.there from.begun_refused from.kept) in
    record {
      made = made;
      in_hand = made.in_hand;
      moves = session.moves;
      only = open_only (HoldsNothing first) opened c.make.result.1 from.started session.carried;
    }
