-- What may be found of the files of books that were closed.
use Rattle.std.proofs.Common.{◌≡◌, ◌≢◌, ◌≤◌, ◌<◌, Bool, true, false, IsTrue, List, ℕ}
use Rattle.std.proofs.Common.{Result, Ok, Err, length, true≢false}
use Rattle.std.proofs.Common.{refl, sym, ap, subst, ◌∙◌, inl, inr, arith}
use Rattle.std.proofs.Math.Logic.{∥∥₁_map}
use Rattle.std.specs.Prelude.{◌&&◌, IsOk, OnOk}
use Rattle.sqlite_disk.specs.declared.Disk.{Ghosts}
use Rattle.sqlite_disk.specs.declared.files.Files.{Files}
use Rattle.sqlite_store.specs.FileStore.{state, view, files, log_frames, recovers}
use Rattle.sqlite_store.specs.declared.catalog.Wanted.{Wanted}
use Rattle.sqlite_store.specs.declared.store.FileStore.{FileStore}
use Rattle.sqlite_trees.specs.Tree.{Trees}
use Rattle.sqlite_trees.specs.View.{doubt}
use Rattle.sqlite_trees.specs.declared.error.StoreError.{StoreError}
use Rattle.sqlite_trees.proofs.Doubt.{clean_of, no_doubt}
use Rattle.sqlite_wal.specs.Reads.{AreClean, are_clean}
use Rattle.sqlite_wal.specs.Reads.{IsClean as IsCleanFile}
use Rattle.sqlite_wal.specs.Recovery.{Image}
use Rattle.book_trees.proofs.EachLeft.{left_by, rows_by}
use Rattle.book_trees.proofs.FileParts.{clean_is, left_by_files, named}
use Rattle.book_trees.proofs.UnusedLogs.{rows_alone, short_alone}
use Rattle.book_trees.specs.Closing.{HasSchema, IsWithoutLog, LeavesLog, LeavesRows, MayBeFound}
use Rattle.book_trees.specs.declared.closing.LogLeft.{LogLeft}
use Rattle.book_trees.specs.declared.closing.LogLeft.TheVariants.{Short, Emptied, Kept, Unmoved}
use Rattle.book_trees.specs.LedgerFiles.{HoldsFile, HoldsTables, rows_held, shortest_log}
use Rattle.book_trees.specs.LedgerFiles.{trees_held, without_log}
use Rattle.book_trees.specs.Refusals.{MayLeave}

-- both are true
pub both_true : (a b : Bool) → IsTrue a → IsTrue b → IsTrue (a && b)
both_true true true one two = refl
both_true true false one two = two
both_true false b one two = one

-- the first of two is true
pub first_true : (a b : Bool) → IsTrue (a && b) → IsTrue a
first_true true b both = refl
first_true false b both = both

pub second_true : (a b : Bool) → IsTrue (a && b) → IsTrue b
second_true true b both = both
second_true false true both = refl
second_true false false both = both

-- what holds on Ok holds of a result that is one
on_ok : {T E : Type 0} (result : Result T E) (P : Type 0) → OnOk result P → IsOk result → P
on_ok (Ok value) P holds good = holds
on_ok (Err error) P holds good = absurd (true≢false (sym good))

-- A store was closed, and the length of its log was asked.
module _ {D : Type 0} {g : Ghosts D} (store end : FileStore D g) (given : Files D) (log : D)
    (stays : (file : D) → g.may_leave file (g.seen file))
    (outcomes : (trees : Trees) → recovers end trees → recovers store trees)
    (clean : doubt (view store).is_clean ≤ doubt (view end).is_clean)
    (back : (given.log, given.db) ≡ files end)
    (log_clean : IsCleanFile g log → IsCleanFile g given.log)
    (log_crash : (c : List ℕ) → g.may_leave log c → g.may_leave given.log c)
  where
    abbrev last : Files D
    last = record { log = log; db = given.db }

    given_clean : AreClean g log given.db → AreClean g given.log given.db
    given_clean honest =
        both_true _ _ (log_clean (first_true _ _ honest)) (second_true _ _ honest)

    end_clean : AreClean g log given.db → IsTrue (state end).is_clean
    end_clean honest =
        clean_is end.pool ∙ ap (λ (p : D × D). are_clean g p.0 p.1) (sym back) ∙ given_clean honest

    -- it was honest before, if the files are
    pub store_clean : AreClean g log given.db → IsTrue (state store).is_clean
    store_clean honest =
        let sure : doubt (view end).is_clean ≡ 0 = no_doubt _ (end_clean honest) in
        clean_of _ (omega (arith, clean, sure))

    -- what a stop may leave of the files it may leave of the store
    left_by_last : (image : Image) → MayLeave g last image → (state end).may_leave image
    left_by_last image may =
        left_by_files end.pool image (subst (λ (p : D × D). MayLeave g (named p) image) back (
          given_clean may.0,
          (log_crash image.log may.1.0, may.1.1),
        ))

    -- What files hold has trees, which they have without a short log, too; and what a stop may leave
    -- of the store holds such trees as it counts.
    module _ (Held : Image → Type 0) (trees : (image : Image) → Held image → Trees)
        (without : (image : Image) → length image.log < shortest_log → (held : Held image)
        → (alone : Held (without_log image)) × (trees (without_log image) alone ≡ trees image held))
        (each : (image : Image) → (state end).may_leave image
        → ∥ ((held : Held image) × recovers end (trees image held)) ∥₁)
      where
        left_whole : (image : Image) → MayLeave g last image
            → ∥ ((held : Held image) × recovers store (trees image held)) ∥₁
        left_whole image may =
            ∥∥₁_map (each image (left_by_last image may))
            λ found. (found.0, outcomes (trees image found.0) found.1)

        left_alone : (image : Image) → IsWithoutLog g last image
            → ∥ ((held : Held image) × recovers store (trees image held)) ∥₁
        left_alone image alone =
            let whole : Image = record { log = g.seen log; db = image.db } in
            let same : without_log whole ≡ image =
            ap (λ (log : List ℕ). record { log = log; db = image.db }) (sym alone.gone) in
            ∥∥₁_map (left_whole whole (alone.clean, (stays log, alone.file))) λ found.
            subst (λ (image : Image). (held : Held image) × recovers store (trees image held)) same
            (let held = without whole alone.short found.0 in
            (held.0, subst (recovers store) (sym held.1) found.1))

        -- so whatever may be found holds what the store counts
        found_so : (image : Image) → MayBeFound g last image
            → ∥ ((held : Held image) × recovers store (trees image held)) ∥₁
        found_so image (inl may) = left_whole image may
        found_so image (inr alone) = left_alone image alone

    -- the tables of the store, where it is seen which they are
    pub found_whole : {wanted : List Wanted} → HasSchema wanted end → (image : Image)
        → MayBeFound g last image
        → ∥ ((held : HoldsTables wanted image) × recovers store (trees_held held)) ∥₁
    found_whole {wanted} tables =
        found_so (HoldsTables wanted)
        (λ (image : Image) (held : HoldsTables wanted image). trees_held held)
        (λ image short held. short_alone {wanted = wanted} image short held)
        (left_by end tables.schema (λ _. tables.size) tables.unaltered)

    -- and their rows, whether or not it is seen
    pub found_rows : LeavesRows g store last
    found_rows =
        found_so HoldsFile (λ (image : Image) (held : HoldsFile image). rows_held held) rows_alone
        (rows_by end)

    -- what is left of the log, by what became of its pages
    pub log_leaves : (moved : Result (Unit {0}) StoreError)
        → OnOk moved (IsTrue (view store).is_open → log_frames end ≡ 0) → (left : LogLeft)
        → (left ≡ Short → IsCleanFile g log → length (g.seen log) < shortest_log)
        → (left ≡ Emptied → IsOk moved) → left ≢ Unmoved → LeavesLog g store last left
    log_leaves moved emptied Short short was tried =
        λ honest. short refl (first_true _ _ honest)
    log_leaves moved emptied Emptied short was tried =
        λ is_open. ∣ (
          end,
          record { log = given.log; back = back },
          on_ok moved _ emptied (was refl) is_open,
        ) ∣₁
    log_leaves moved emptied (Kept error) short was tried = tt
    log_leaves moved emptied Unmoved short was tried = tried refl
