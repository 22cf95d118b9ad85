-- What a stop within the making of books leaves.
use Rattle.std.proofs.Common.{◌≡◌, ◌∙◌, ℕ, arith, ne_eqb, subst, sym, inl, inr}
use Rattle.std.proofs.Common.{List, ◌⊎◌}
use Rattle.std.proofs.Math.Logic.{∥∥₁_map}
use Rattle.sqlite_disk.specs.declared.Disk.{Ghosts}
use Rattle.sqlite_disk.specs.declared.files.Files.{Files}
use Rattle.sqlite_pages.specs.PageMap.{PageMap}
use Rattle.sqlite_pool.specs.Opening.{IsBlankFile, IsNew}
use Rattle.sqlite_pool.specs.Stored.{Recovers, RecoversAs}
use Rattle.sqlite_pool.specs.StoredLaws.{carried, trimmed_whole}
use Rattle.sqlite_store.proofs.BuildLemmas.{new_is_empty}
use Rattle.sqlite_store.proofs.ListingLemmas.{named_tree}
use Rattle.sqlite_store.specs.Opening.{IsFresh}
use Rattle.sqlite_store.specs.Unopened.{files_of, image, state_of, wanted_by, Creates, IsOnTheWay}
use Rattle.sqlite_store.specs.declared.catalog.Wanted.{Wanted}
use Rattle.sqlite_store.specs.declared.store.open.Unopened.{Unopened}
use Rattle.sqlite_trees.specs.Objects.{version_tree}
use Rattle.sqlite_wal.specs.Recovery.{Image, AreWhole}
use Rattle.sqlite_wal.specs.State.{State}
use Rattle.book_trees.proofs.FileParts.{left_by_files, left_by_state, named}
use Rattle.book_trees.specs.LedgerFiles.{page_size, HoldsEmptyBooks}
use Rattle.book_trees.specs.LedgerFiles.{HoldsNothing}
use Rattle.book_trees.specs.Refusals.{IsBegun, MayLeave}
use Rattle.book_trees.specs.Schema.{books_schema}

-- the pages that files recover to are whole
whole : (size : ℕ) (image : Image) (pages : PageMap) → Recovers size image pages → AreWhole size pages
whole size image pages found =
    subst (AreWhole size) found.shows (trimmed_whole size found.stored found.whole)

-- a database of the tables of books with no row holds empty books
holds_empty : (image : Image) (pages : PageMap) → Recovers page_size image pages
    → IsFresh page_size books_schema pages → HoldsEmptyBooks image
holds_empty image pages found fresh = record {
  held = record { pages = pages; found = found; file = fresh.0.file };
  empty = λ tree low. rw (ne_eqb tree version_tree (omega arith))
      (named_tree tree low _ _ _ ∙ fresh.1 tree);
}

module _ {D : Type 0} {g : Ghosts D} (it : Unopened D g)
    (size : (state_of it).page_size ≡ page_size) (schema : wanted_by it ≡ books_schema) where
  -- what is on the way
  on_the_way : (left : Image) → IsOnTheWay it left → IsBegun left
  on_the_way left (inl blank) = inl (inl (subst (λ s. IsBlankFile s left) size blank))
  on_the_way left (inr (pages, found, inl new)) =
      let here = subst (λ s. Recovers s left pages) size found in
      inl (inr (record {
        pages = pages;
        found = here;
        empty = new_is_empty page_size pages (whole page_size left pages here)
            (subst (λ s. IsNew s pages) size new);
      }))
  on_the_way left (inr (pages, found, inr fresh)) =
      let here = subst (λ s. Recovers s left pages) size found in
      inr (∥∥₁_map fresh λ made. holds_empty left pages here
      (subst (λ (w : List Wanted). IsFresh page_size w pages) schema
      (subst (λ s. IsFresh s (wanted_by it) pages) size made)))

  -- whatever `create` may leave of files that held nothing
  pub begun : (new : State) → Creates it new → HoldsNothing (image it) → (left : Image)
      → new.may_leave left → (state_of it).may_leave left ⊎ IsBegun left
  begun new made (inl blank) left may =
      elim (made.blank (subst (λ s. IsBlankFile s (image it)) (sym size) blank) left may) [
        | inl was ↦ inl was
        | inr way ↦ inr (on_the_way left way)
      ]
  begun new made (inr none) left may =
      elim (made.crash left may) [
        | inl before ↦ elim (before.same) [
          | inl was ↦ inl was
          | inr same ↦ inr (inl (inr (record {
            pages = none.pages;
            found = carried page_size (image it) left
                (subst (λ s. RecoversAs s (image it) left) size same) none.pages none.found;
            empty = none.empty;
          })))
        ]
        | inr way ↦ inr (on_the_way left way)
      ]

-- the same by the files
module _ {D : Type 0} {g : Ghosts D} (old : Unopened D g) (first : Files D)
    (given : files_of old ≡ (first.log, first.db)) where
  pub was_left : (left : Image) → (state_of old).may_leave left → MayLeave g first left
  was_left left was =
      subst (λ (p : D × D). MayLeave g (named p) left) given (left_by_state old.pool left was)

  pub begun_files : (left : Image) → (state_of old).may_leave left ⊎ IsBegun left
      → MayLeave g first left ⊎ IsBegun left
  begun_files left (inl was) = inl (was_left left was)
  begun_files left (inr begun) = inr begun

-- what a stop may leave of the last files it may leave of their state
pub may_leave_last : {D : Type 0} {g : Ghosts D} (end : Unopened D g) (last : Files D)
    → (last.log, last.db) ≡ files_of end → (left : Image) → MayLeave g last left
    → (state_of end).may_leave left
may_leave_last {D} {g} end last back left may =
    left_by_files end.pool left (subst (λ (p : D × D). MayLeave g (named p) left) back may)

-- of files that were found so
pub begun_found : (first left : Image) (Was : Type 0) → HoldsNothing first → (Was → left ≡ first)
    → Was ⊎ IsBegun left → IsBegun left
begun_found first left Was nothing found (inl was) =
    inl (subst HoldsNothing (sym (found was)) nothing)
begun_found first left Was nothing found (inr begun) = begun
