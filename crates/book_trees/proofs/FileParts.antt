-- What the state of a store says about its two files.
use Rattle.std.proofs.Common.{◌≡◌, IsTrue, List, refl, sym, ap, subst, subst₂, ◌∙◌, inl, inr}
use Rattle.sqlite_disk.specs.declared.Disk.{Ghosts}
use Rattle.sqlite_disk.specs.declared.files.Files.{Files}
use Rattle.sqlite_pool.specs.Pool.{state, files}
use Rattle.sqlite_pool.specs.Stored.{IsUnreadable, RecoversAs}
use Rattle.sqlite_pool.specs.declared.pool.Pool.{Pool}
use Rattle.sqlite_store.specs.FileStore.{state as store_state, files as store_files, view}
use Rattle.sqlite_store.specs.Unopened.{files_of, state_of, image, Opens}
use Rattle.sqlite_store.specs.declared.catalog.Wanted.{Wanted}
use Rattle.sqlite_store.specs.declared.store.FileStore.{FileStore}
use Rattle.sqlite_store.specs.declared.store.open.Unopened.{Unopened}
use Rattle.sqlite_wal.specs.Files.{seen_image}
use Rattle.sqlite_wal.specs.Reads.{are_clean, AreClean}
use Rattle.sqlite_wal.specs.Recovery.{Image}
use Rattle.book_trees.specs.LedgerFiles.{image_of, page_size, HoldsTables, trees_held}
use Rattle.book_trees.specs.Refusals.{AreKept, MayLeave}

-- the two by their names
abbrev pub named : {D : Type 0} → D × D → Files D
named pair = record { log = pair.0; db = pair.1 }

module _ {D : Type 0} {g : Ghosts D} where
  -- if a stop may leave something, no lie was taken as true
  pub clean_if_left : (pool : Pool D g) (left : Image) → (state pool).may_leave left
      → IsTrue (state pool).is_clean
  unfolding state
  clean_if_left pool left may = may.0

  -- the files are honest if the state is
  pub clean_is : (pool : Pool D g)
      → (state pool).is_clean ≡ are_clean g (files pool).0 (files pool).1
  unfolding state files
  clean_is pool = refl

  -- what a stop may leave, by the files
  pub left_by_files : (pool : Pool D g) (left : Image) → MayLeave g (named (files pool)) left
      → (state pool).may_leave left
  unfolding state files
  left_by_files pool left may = may

  -- and the converse
  pub left_by_state : (pool : Pool D g) (left : Image) → (state pool).may_leave left
      → MayLeave g (named (files pool)) left
  unfolding state files
  left_by_state pool left may = may

  -- what an open keeps of a state it keeps of the files
  pub opened_files : (old : Unopened D g) (new : Pool D g) → (state_of old).page_size ≡ page_size
      → Opens old (state new) → AreKept g (named (files_of old)) (named (files new))
  opened_files old new size opens = record {
    crash = λ left may. elim ((opens.crash left (left_by_files new left may)).same) [
      | inl was ↦ inl (left_by_state old.pool left was)
      | inr same ↦ inr (subst (λ s. RecoversAs s (image old) left) size same)
    ];
    unread = λ unreadable left may. left_by_state old.pool left
        ((opens.crash left (left_by_files new left may)).unread
        (subst (λ s. IsUnreadable s (image old)) (sym size) unreadable));
  }

  -- files that were kept, of which a stop leaves no more after what was done then
  pub kept_still : (first mid last : Files D)
      → ((left : Image) → MayLeave g last left → MayLeave g mid left) → AreKept g first mid
      → AreKept g first last
  kept_still first mid last crash kept = record {
    crash = λ left may. kept.crash left (crash left may);
    unread = λ unreadable left may. kept.unread unreadable left (crash left may);
  }

-- An open that ends with these files in hand, having been given those.
module _ {D : Type 0} {g : Ghosts D} (old end : Unopened D g) (first last : Files D)
    (given : files_of old ≡ (first.log, first.db)) (back : (last.log, last.db) ≡ files_of end)
  where
    -- what was read from the first
    pub first_image : image old ≡ image_of g first
    first_image = ap (λ (p : D × D). seen_image g p.0 p.1) given

    -- and is read from the last
    pub last_image : image end ≡ image_of g last
    last_image = sym (ap (λ (p : D × D). seen_image g p.0 p.1) back)

    -- the first were honest if the state was
    pub first_honest : IsTrue (state_of old).is_clean → AreClean g first.log first.db
    first_honest clean =
        sym (clean_is old.pool ∙ ap (λ (p : D × D). are_clean g p.0 p.1) given) ∙ clean

    -- the state is honest, if the last are
    pub end_honest : AreClean g last.log last.db → IsTrue (state_of end).is_clean
    end_honest clean =
        clean_is end.pool ∙ ap (λ (p : D × D). are_clean g p.0 p.1) (sym back) ∙ clean

    -- the files are kept
    pub files_kept : (state_of old).page_size ≡ page_size → Opens old (state_of end)
        → AreKept g first last
    files_kept size opens =
        subst₂ (AreKept g) (ap named given) (ap named (sym back))
        (opened_files old end.pool size opens)

-- a store was honest, if the files that it is closed to are
pub store_honest : {D : Type 0} {g : Ghosts D} (store : FileStore D g) (last : Files D)
    → (last.log, last.db) ≡ store_files store → AreClean g last.log last.db
    → IsTrue (store_state store).is_clean
store_honest {D} {g} store last back clean =
    clean_is store.pool ∙ ap (λ (p : D × D). are_clean g p.0 p.1) (sym back) ∙ clean

-- a store that was opened on files is closed at once: they are kept
pub store_kept : {D : Type 0} {g : Ghosts D} (old : Unopened D g) (store : FileStore D g)
    (first last : Files D) → files_of old ≡ (first.log, first.db)
    → (last.log, last.db) ≡ store_files store → (state_of old).page_size ≡ page_size
    → Opens old (store_state store) → AreKept g first last
store_kept {g = g} old store first last given back size opens =
    subst₂ (AreKept g) (ap named given) (ap named (sym back))
    (opened_files old store.pool size opens)

-- A store that was opened on these files,
module _ {D : Type 0} {g : Ghosts D} (old : Unopened D g) (store : FileStore D g) (first : Files D)
    (given : files_of old ≡ (first.log, first.db)) where
  -- shows the tables that they hold,
  pub shows_given : {wanted : List Wanted} → (IsTrue (store_state store).is_clean
      → (held : HoldsTables wanted (image old)) → (view store).trees ≡ trees_held held)
      → IsTrue (store_state store).is_clean
      → (held : HoldsTables wanted (image_of g first)) → (view store).trees ≡ trees_held held
  shows_given {wanted} found clean =
      subst (λ (i : Image). (held : HoldsTables wanted i) → (view store).trees ≡ trees_held held)
      (first_image old old first first given (sym given)) (found clean)

  -- and they were honest where it is
  pub honest_given : (IsTrue (store_state store).is_clean → IsTrue (state_of old).is_clean)
      → IsTrue (store_state store).is_clean → AreClean g first.log first.db
  honest_given honest clean =
      first_honest old old first first given (sym given) (honest clean)
