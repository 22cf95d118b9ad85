-- A log of which recovery takes nothing: the file alone holds the same tables.
use Rattle.std.proofs.Common.{◌≡◌, ◌∙◌, ◌==◌, ◌<◌, ◌↔◌, [], IsTrue, List, ap, arith, inl, length}
use Rattle.std.proofs.Common.{Err, Ok, Result, refl, subst, sym, ℕ, Bool}
use Rattle.std.specs.Prelude.{IfOk}
use Rattle.sqlite_wal.proofs.FileLemmas.{pages_without_frames}
use Rattle.sqlite_wal.proofs.RecoveryLemmas.{replays_once}
use Rattle.sqlite_pool.specs.Stored.{stored_size, Recovers}
use Rattle.sqlite_store.specs.declared.catalog.Wanted.{Wanted}
use Rattle.sqlite_wal.specs.Recovery as raw
use Rattle.sqlite_wal.specs.Recovery.{Image, Pages, Replays, pages_after}
use Rattle.book_trees.specs.LedgerFiles.{page_size, shortest_log, without_log}
use Rattle.book_trees.specs.LedgerFiles.{HoldsAlone, HoldsFile, HoldsTables, rows_held, trees_held}

-- the file alone stands for the same pages
recovers_alone : (size : ℕ) (image : Image) (pages : Pages) → Replays size image.log 0
    → raw.Recovers size image pages → raw.Recovers size (without_log image) pages
recovers_alone size image pages none found =
    let same = replays_once size image.log found.frames 0 found.replays none in
    record {
      frames = 0;
      replays = inl (inl (omega arith), refl);
      present = found.present;
      gives = pages_without_frames size [] image.log image.db
          ∙ ap (λ k. pages_after size image.log image.db k) (sym same) ∙ found.gives;
    }

-- also as they are used
pages_alone : (size : ℕ) (image : Image) (pages : Pages) → Replays (stored_size size) image.log 0
    → Recovers size image pages → Recovers size (without_log image) pages
pages_alone size image pages none found = record {
  stored = found.stored;
  found = recovers_alone (stored_size size) image found.stored none found.found;
  whole = found.whole;
  sealed = found.sealed;
  shows = found.shows;
  present = found.present;
}

-- and holds the same tables
pub unused_alone : {wanted : List Wanted} (image : Image) → Replays page_size image.log 0
    → (held : HoldsTables wanted image)
    → (alone : HoldsTables wanted (without_log image)) × (trees_held alone ≡ trees_held held)
unused_alone image none held = (
  record {
    pages = held.pages;
    found = pages_alone page_size image held.pages none held.found;
    file = held.file;
  },
  refl,
)

-- so it does where the log is too short for a page
pub short_alone : {wanted : List Wanted} (image : Image) → length image.log < shortest_log
    → (held : HoldsTables wanted image)
    → (alone : HoldsTables wanted (without_log image)) × (trees_held alone ≡ trees_held held)
short_alone image short held = unused_alone image (inl (inl short, refl)) held

-- and the same rows, whatever tables they are of
pub rows_alone : (image : Image) → length image.log < shortest_log → (held : HoldsFile image)
    → (alone : HoldsFile (without_log image)) × (rows_held alone ≡ rows_held held)
rows_alone image short held = (
  record {
    size = held.size;
    schema = held.schema;
    pages = held.pages;
    found = pages_alone held.size image held.pages (inl (inl short, refl)) held.found;
    file = held.file;
  },
  refl,
)

-- so where recovery is said to take nothing of it the file alone holds the same tables
pub passed_alone : {E : Type 0} (Clean : Type 0) (log read : List ℕ) (result : Result Bool E)
    → read ≡ log → IfOk result (λ is. Clean → (IsTrue is ↔ Replays page_size read 0))
    → IfOk result (λ is. Clean → IsTrue is → (image : Image) → image.log ≡ log → HoldsAlone image)
passed_alone Clean log read (Ok is) whole told = λ clean yes image same wanted held.
    unused_alone image
    (subst (λ log. Replays page_size log 0) (whole ∙ sym same) ((told clean).0 yes)) held
passed_alone Clean log read (Err error) whole told = tt

-- recovery takes as many frames as it lists, so it takes none where it lists none
pub lists_none : (size : ℕ) (log numbers : List ℕ) (many : ℕ) (is : Bool) → is ≡ (many == 0)
    → many ≡ length numbers → Replays size log (length numbers) → IsTrue is ↔ Replays size log 0
lists_none size log numbers many is told same replays = (
  λ none. subst (Replays size log) (grind (arith, told, none, same)) replays,
  λ none.
      let once = replays_once size log (length numbers) 0 replays none in
      grind (arith, told, once, same),
)
