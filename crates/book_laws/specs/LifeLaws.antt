-- Laws of the life of a record: charges and reversals take turns, and its net is what the periods
-- charge net.
use Rattle.std.specs.Prelude.{◌≡◌, ℕ, Bool, false, not, List, [], ◌∷◌, ◌++◌, codes, pos, Ok}
use Rattle.std.specs.Prelude.{decimal}
use Rattle.book_model.specs.declared.trail.Turn.{Turn}
use Rattle.book_model.specs.Words.{Book, Event, Naming, TrailSeen, all_periods, book_after}
use Rattle.book_model.specs.Words.{charged_of, has, is_charge, life_of, net_of, trail_outcome}
use Rattle.report_texts.specs.Columns.{newline}
use Rattle.report_texts.specs.LifeLines.{net_line}
use Rattle.table_model.specs.Readable.{IsReadable}
use Rattle.book_laws.specs.NetCounts.{net_count, one_if}

-- Charges and reversals take turns: only a record that is not charged is charged, and only a charge
-- that stands is reversed. They lead from whether it was charged at first to whether it is at last.
abbrev pub TakeTurns : Bool → List Turn → Bool → Type 0
TakeTurns before [] now = before ≡ now
TakeTurns before (turn ∷ later) now =
    (before ≡ not (is_charge turn.deed)) × TakeTurns (is_charge turn.deed) later now

-- So it is in the books of every history: each life begins uncharged, and leads to whether the
-- record is charged now.
abbrev pub LivesTakeTurns : Type 0
LivesTakeTurns =
    (history : List Event) (bytes : List ℕ)
    → TakeTurns false (life_of (book_after history) bytes)
    (has (charged_of (book_after history)) bytes)

-- and in any book that can be read back
abbrev pub BookLivesTakeTurns : Type 0
BookLivesTakeTurns =
    (naming : Naming) (book : Book) (bytes : List ℕ) → IsReadable naming book
    → TakeTurns false (life_of book bytes) (has (charged_of book) bytes)

-- The net of a life is the net count over all periods, and one if the record is charged now, else
-- none.
pub record NetsAsCounted (book : Book) (bytes : List ℕ) : Type 0 where
  pub counted : net_of (life_of book bytes) ≡ net_count (all_periods book) bytes
  pub charged : net_of (life_of book bytes) ≡ pos (one_if (has (charged_of book) bytes))

abbrev pub LivesNet : Type 0
LivesNet = (history : List Event) (bytes : List ℕ) → NetsAsCounted (book_after history) bytes

-- a trail shows the net count of its record over all periods: 1 if it is charged now, else 0
pub record ShowsNet (book : Book) (trail : TrailSeen) : Type 0 where
  pub counted : net_of trail.life ≡ net_count (all_periods book) trail.bytes
  pub shown : net_line trail.life
      ≡ codes "NET " ++ decimal (one_if (has (charged_of book) trail.bytes)) ++ newline

-- So it is where the books of a history are asked for the trail of a record.
abbrev pub TrailsNet : Type 0
TrailsNet =
    (naming : Naming) (history : List Event) (name : List ℕ) (trail : TrailSeen)
    → (trail_outcome naming name (book_after history)).answer ≡ Ok trail
    → ShowsNet (book_after history) trail

-- and where any book is asked for it that can be read back
abbrev pub BookTrailsNet : Type 0
BookTrailsNet =
    (naming : Naming) (book : Book) (name : List ℕ) (trail : TrailSeen) → IsReadable naming book
    → (trail_outcome naming name book).answer ≡ Ok trail → ShowsNet book trail
