use Rattle.std.proofs.Common.{inl, refl}
use Rattle.sqlite_disk.specs.contracts.modelled.ModelledDisk.TheImpl as modelled
use Rattle.sqlite_disk.specs.contracts.modelled.Modelled as file
use Rattle.sqlite_std_file.specs.contracts.host.Host.{the_row}
use Rattle.synced_disk.specs.contracts.synced.SyncedDiskDisk.TheImpl as synced
use Rattle.sqlite_std_file.specs.contracts.host.HostCalls.TheImpl as host
use Rattle.sqlite_wal.specs.Files.{image_at}
use Rattle.book_trees.specs.LedgerFiles.{HoldsOldBooks}
use Rattle.book_sessions.proofs.Openings.{old_opening_at, open_only}
use Rattle.book_files.proofs.session.upgrade_at.Goals as goal

pub returns : goal.returns
returns g c =
    let disk = synced.ghosts (file.the_row the_row g.row.S host.ghosts g.S.Start)
    (modelled.ghosts the_row g.row.S host.ghosts host.dict g.S.Start g.S.Start-dict
    g.S.Destruct-dict)
    (modelled.dict the_row g.row.S host.ghosts host.dict g.S.Start g.S.Start-dict
    g.S.Destruct-dict) in
    let first = image_at g.S.Start in
    let opened = c.open_old_at-opened.result in
    let from = c.open_old_at-opened.ensures in
    let session = c.upgrade.ensures in
    record {
      upgraded = session.upgraded first (old_opening_at disk (λ file. inl refl) first opened
          from.ready from.found from.older from.held from.form from.there from.this from.listed
          from.kept);
      moves = session.moves;
      only = open_only (HoldsOldBooks first) opened c.upgrade.result.1 from.held session.carried;
      told = session.told;
    }
