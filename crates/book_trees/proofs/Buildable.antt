-- Books can be made in files that hold nothing.
use Rattle.std.proofs.Common.{◌≡◌, ◌<◌, ◌+◌, ℕ, true, List, length, refl, sym, subst, inl, inr}
use Rattle.std.proofs.Common.{arith, lit<}
use Rattle.std.proofs.lemmas.List.Elements.{All-from_recursion}
use Rattle.std.specs.Float.{NotNan}
use Rattle.std.specs.Float.Ieee.{is_nan, lt}
use Rattle.sqlite_disk.specs.declared.Disk.{Ghosts}
use Rattle.sqlite_pool.specs.Opening.{IsBlankFile}
use Rattle.sqlite_pool.specs.Stored.{Recovers}
use Rattle.sqlite_store.specs.Build.{are_listable, listing, CanBuild}
use Rattle.sqlite_store.specs.Catalog.{describes, is_about, is_plain}
use Rattle.sqlite_store.specs.Opening.{IsEmptyFile}
use Rattle.sqlite_store.specs.Unopened.{image, state_of, wanted_by, CanCreate, IsUnstarted}
use Rattle.sqlite_store.specs.declared.catalog.Wanted.{Wanted}
use Rattle.sqlite_store.specs.declared.store.open.Unopened.{Unopened}
use Rattle.sqlite_trees.specs.Sound.{begins, fits_kind, is_free_name, may_follow}
use Rattle.sqlite_trees.specs.Sound.{same_name}
use Rattle.sqlite_trees.specs.View.{IsStorable}
use Rattle.sqlite_value.specs.Order.{number, value_cmp}
use Rattle.book_trees.specs.LedgerFiles.{page_size, HoldsNothing}
use Rattle.book_trees.specs.Schema.{books_schema, sorted}

-- the tables and indexes of books can be in one list
listable : are_listable books_schema ≡ true
unfolding books_schema describes is_about fits_kind is_free_name same_name begins may_follow
    value_cmp is_nan lt
listable = refl

-- a tree of short texts can be listed, whatever its root
storable : (kind name table sql : List ℕ) (root : ℕ)
    → length kind + length name + length table + length sql < 1000
    → IsStorable 0 (listing (sorted kind name table sql) root)
unfolding is_nan
storable kind name table sql root short = record {
  typed = λ c one. absurd (grind arith);
  columns = (omega arith, omega arith);
  numbers = All-from_recursion (λ v. NotNan (number v))
      (listing (sorted kind name table sql) root) (tt, (tt, (tt, (tt, (tt, tt)))));
  short = omega arith;
}

-- the tables and indexes of books can be made
can_build : CanBuild books_schema
unfolding books_schema
can_build = record {
  distinct = listable;
  shaped = All-from_recursion (λ wanted. is_plain wanted.shape ≡ true) books_schema (
    refl,
    (
      refl,
      (
        refl,
        (
          refl,
          (
            refl,
            (refl, (refl, (refl, (refl, (refl, (refl, (refl, (refl, (refl, tt))))))))),
          ),
        ),
      ),
    ),
  );
  short = All-from_recursion (λ wanted. (root : ℕ) → IsStorable 0 (listing wanted root))
      books_schema (
        λ root. storable _ _ _ _ root (lit< tt),
        (
          λ root. storable _ _ _ _ root (lit< tt),
          (
            λ root. storable _ _ _ _ root (lit< tt),
            (
              λ root. storable _ _ _ _ root (lit< tt),
              (
                λ root. storable _ _ _ _ root (lit< tt),
                (
                  λ root. storable _ _ _ _ root (lit< tt),
                  (
                    λ root. storable _ _ _ _ root (lit< tt),
                    (
                      λ root. storable _ _ _ _ root (lit< tt),
                      (
                        λ root. storable _ _ _ _ root (lit< tt),
                        (
                          λ root. storable _ _ _ _ root (lit< tt),
                          (
                            λ root. storable _ _ _ _ root (lit< tt),
                            (
                              λ root. storable _ _ _ _ root (lit< tt),
                              (
                                λ root. storable _ _ _ _ root (lit< tt),
                                (λ root. storable _ _ _ _ root (lit< tt), tt),
                              ),
                            ),
                          ),
                        ),
                      ),
                    ),
                  ),
                ),
              ),
            ),
          ),
        ),
      );
}

-- there are few of them
few : length books_schema < 65536
unfolding books_schema
few = lit< tt

module _ {D : Type 0} {g : Ghosts D} (it : Unopened D g)
    (size : (state_of it).page_size ≡ page_size) where
  -- files with nothing in them have not been begun
  pub unstarted : HoldsNothing (image it) → IsUnstarted it
  unstarted (inl blank) = inl (subst (λ s. IsBlankFile s (image it)) (sym size) blank)
  unstarted (inr none) = inr (
    none.pages,
    subst (λ s. Recovers s (image it) none.pages) (sym size) none.found,
    subst (λ s. IsEmptyFile s none.pages) (sym size) none.empty,
  )

  -- and the other way round
  pub holds_nothing : IsUnstarted it → HoldsNothing (image it)
  holds_nothing (inl blank) = inl (subst (λ s. IsBlankFile s (image it)) size blank)
  holds_nothing (inr some) = inr (record {
    pages = some.0;
    found = subst (λ s. Recovers s (image it) some.0) size some.1;
    empty = subst (λ s. IsEmptyFile s some.0) size some.2;
  })

  -- so books can be made in them
  pub can_create : wanted_by it ≡ books_schema → HoldsNothing (image it) → CanCreate it
  can_create schema nothing = record {
    few = subst (λ (s : List Wanted). length s < 65536) (sym schema) few;
    schema = subst CanBuild (sym schema) can_build;
    files = unstarted nothing;
  }
