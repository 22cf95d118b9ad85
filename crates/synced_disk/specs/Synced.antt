-- What a disk shows that is not synced twice.
use Rattle.sqlite_disk.specs.declared.Disk.{Ghosts}
use Rattle.synced_disk.specs.declared.synced.SyncedDisk.{SyncedDisk}

-- the disk that it passes calls on to
abbrev pub inner_of : {D : Type 0} {g : Ghosts D} → SyncedDisk D g → D
inner_of disk = disk.inner
