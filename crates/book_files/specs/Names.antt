-- Names that belong to what SQLite lays beside a database.
use Rattle.std.specs.List.{ends_with}
use Rattle.std.specs.Prelude.{◌||◌, Bool, List, codes, eqb, ℕ}

-- the name is that of the log, of the journal or of the shared memory of some file
abbrev pub is_log_name : List ℕ → Bool
is_log_name path =
    ends_with eqb path (codes "-wal") || ends_with eqb path (codes "-journal")
    || ends_with eqb path (codes "-shm")
