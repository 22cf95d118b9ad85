-- The trees of books, from the schema of a store, and through what calls do to them.
use Rattle.std.proofs.Common.{◌≡◌, ◌<◌, ◌≤◌, ℕ, zero, suc, IsTrue, List, length, None}
use Rattle.std.proofs.Common.{refl, ap, ◌∙◌, arith, subst}
use Rattle.sqlite_disk.specs.declared.Disk.{Ghosts}
use Rattle.sqlite_store.specs.Catalog.{shape_at}
use Rattle.sqlite_store.specs.FileStore.{view, schema_of}
use Rattle.sqlite_store.specs.Listing.{all_reals, all_shapes, all_trees, listed_from}
use Rattle.sqlite_store.specs.Saved.{kept_schema}
use Rattle.sqlite_store.specs.declared.catalog.Wanted.{Wanted}
use Rattle.sqlite_store.specs.declared.store.FileStore.{FileStore}
use Rattle.sqlite_trees.specs.Objects.{catalog_tree}
use Rattle.sqlite_trees.specs.declared.store.Shape.TheVariants.{Absent, Index}
use Rattle.sqlite_value.specs.Keys.{plain}
use Rattle.book_trees.specs.OldForms.{HasOldTrees}
use Rattle.book_trees.specs.Schema.{books_schema, old_schema, table_count}
use Rattle.book_trees.specs.declared.schema.OlderForm.{OlderForm}
use Rattle.book_trees.specs.declared.schema.OlderForm.TheVariants.{First, Second}
use Rattle.tree_tables.specs.Holds.{HasShapes, tree_count}

-- the shape of a tree of a schema, there and as a store shows it
record IsTreeOf (schema : List Wanted) (tree : ℕ) : Type 0 where
  wanted : shape_at schema tree ≡ Index plain
  shape : all_shapes schema tree ≡ Index plain

-- from these two
is_tree : {schema : List Wanted} {tree : ℕ} → shape_at schema tree ≡ Index plain
    → all_shapes schema tree ≡ Index plain → IsTreeOf schema tree
is_tree wanted shape = record { wanted = wanted; shape = shape }

-- each tree of books is one
book_tree : (tree : ℕ) → tree < tree_count → IsTreeOf books_schema tree
unfolding all_shapes books_schema
book_tree zero small = is_tree refl refl
book_tree (suc zero) small = is_tree refl refl
book_tree (suc (suc zero)) small = is_tree refl refl
book_tree (suc (suc (suc zero))) small = is_tree refl refl
book_tree (suc (suc (suc (suc zero)))) small = is_tree refl refl
book_tree (suc (suc (suc (suc (suc zero))))) small = is_tree refl refl
book_tree (suc (suc (suc (suc (suc (suc zero)))))) small = is_tree refl refl
book_tree (suc (suc (suc (suc (suc (suc (suc zero))))))) small = is_tree refl refl
book_tree (suc (suc (suc (suc (suc (suc (suc (suc zero)))))))) small = is_tree refl refl
book_tree (suc (suc (suc (suc (suc (suc (suc (suc (suc zero))))))))) small = is_tree refl refl
book_tree (suc (suc (suc (suc (suc (suc (suc (suc (suc (suc zero)))))))))) small = is_tree refl refl
book_tree (suc (suc (suc (suc (suc (suc (suc (suc (suc (suc (suc zero))))))))))) small =
    is_tree refl refl
book_tree (suc (suc (suc (suc (suc (suc (suc (suc (suc (suc (suc (suc zero)))))))))))) small =
    is_tree refl refl
book_tree (suc (suc (suc (suc (suc (suc (suc (suc (suc (suc (suc (suc (suc zero))))))))))))) small =
    is_tree refl refl
book_tree (suc (suc (suc (suc (suc (suc (suc (suc (suc (suc (suc (suc (suc (suc tree)))))))))))))) small =
    absurd (omega arith)

-- each tree of the schema of books is an index
pub book_indexes : (tree : ℕ) → tree < length books_schema
    → shape_at books_schema tree ≡ Index plain
unfolding books_schema
book_indexes tree below = (book_tree tree below).wanted

-- each tree of books of the first form
first_tree : (tree : ℕ) → tree < 10 → IsTreeOf (old_schema First) tree
unfolding all_shapes old_schema
first_tree zero small = is_tree refl refl
first_tree (suc zero) small = is_tree refl refl
first_tree (suc (suc zero)) small = is_tree refl refl
first_tree (suc (suc (suc zero))) small = is_tree refl refl
first_tree (suc (suc (suc (suc zero)))) small = is_tree refl refl
first_tree (suc (suc (suc (suc (suc zero))))) small = is_tree refl refl
first_tree (suc (suc (suc (suc (suc (suc zero)))))) small = is_tree refl refl
first_tree (suc (suc (suc (suc (suc (suc (suc zero))))))) small = is_tree refl refl
first_tree (suc (suc (suc (suc (suc (suc (suc (suc zero)))))))) small = is_tree refl refl
first_tree (suc (suc (suc (suc (suc (suc (suc (suc (suc zero))))))))) small = is_tree refl refl
first_tree (suc (suc (suc (suc (suc (suc (suc (suc (suc (suc tree)))))))))) small =
    absurd (omega arith)

-- and of the second
second_tree : (tree : ℕ) → tree < 11 → IsTreeOf (old_schema Second) tree
unfolding all_shapes old_schema
second_tree zero small = is_tree refl refl
second_tree (suc zero) small = is_tree refl refl
second_tree (suc (suc zero)) small = is_tree refl refl
second_tree (suc (suc (suc zero))) small = is_tree refl refl
second_tree (suc (suc (suc (suc zero)))) small = is_tree refl refl
second_tree (suc (suc (suc (suc (suc zero))))) small = is_tree refl refl
second_tree (suc (suc (suc (suc (suc (suc zero)))))) small = is_tree refl refl
second_tree (suc (suc (suc (suc (suc (suc (suc zero))))))) small = is_tree refl refl
second_tree (suc (suc (suc (suc (suc (suc (suc (suc zero)))))))) small = is_tree refl refl
second_tree (suc (suc (suc (suc (suc (suc (suc (suc (suc zero))))))))) small = is_tree refl refl
second_tree (suc (suc (suc (suc (suc (suc (suc (suc (suc (suc zero)))))))))) small =
    is_tree refl refl
second_tree (suc (suc (suc (suc (suc (suc (suc (suc (suc (suc (suc tree))))))))))) small =
    absurd (omega arith)

-- so of any older one
old_tree : (form : OlderForm) (tree : ℕ) → tree < table_count form → IsTreeOf (old_schema form) tree
old_tree First = first_tree
old_tree Second = second_tree

-- they are as many
old_many : (form : OlderForm) → length (old_schema form) ≡ table_count form
unfolding old_schema
old_many First = refl
old_many Second = refl

pub old_indexes : (form : OlderForm) (tree : ℕ) → tree < length (old_schema form)
    → shape_at (old_schema form) tree ≡ Index plain
old_indexes form tree below =
    (old_tree form tree (subst (λ (n : ℕ). tree < n) (old_many form) below)).wanted

-- there are fewer than in books of this form
pub few_tables : (form : OlderForm) → table_count form ≤ 11
few_tables First = omega arith
few_tables Second = omega arith

-- a store of the schema that was not changed in its transaction has them
pub has_trees : {D : Type 0} {g : Ghosts D} (store : FileStore D g)
    → schema_of store ≡ books_schema → store.saved ≡ None → HasShapes (view store)
has_trees store schema unaltered =
    let kept : kept_schema store.saved (schema_of store) ≡ schema_of store =
    ap (λ saved. kept_schema saved (schema_of store)) unaltered in
    let sorted : (tree : ℕ) → tree < tree_count → (view store).shape tree ≡ Index plain =
    λ tree small. ap (λ s. all_shapes s tree) schema ∙ (book_tree tree small).shape in
    record {
      book = sorted 0 (omega arith);
      tariffs = sorted 1 (omega arith);
      closes = sorted 2 (omega arith);
      records = sorted 3 (omega arith);
      days = sorted 4 (omega arith);
      lines = sorted 5 (omega arith);
      identity_index = sorted 6 (omega arith);
      marks = sorted 7 (omega arith);
      choices = sorted 8 (omega arith);
      choice_name_index = sorted 9 (omega arith);
      details = sorted 10 (omega arith);
      credits = sorted 11 (omega arith);
      replaced = sorted 12 (omega arith);
      journal = sorted 13 (omega arith);
      committed = ap all_shapes kept;
    }

-- books of an older form have no more trees
first_only : (tree : ℕ) → 10 ≤ tree → tree < tree_count → all_shapes (old_schema First) tree ≡ Absent
unfolding all_shapes old_schema
first_only zero past small = absurd (omega arith)
first_only (suc zero) past small = absurd (omega arith)
first_only (suc (suc zero)) past small = absurd (omega arith)
first_only (suc (suc (suc zero))) past small = absurd (omega arith)
first_only (suc (suc (suc (suc zero)))) past small = absurd (omega arith)
first_only (suc (suc (suc (suc (suc zero))))) past small = absurd (omega arith)
first_only (suc (suc (suc (suc (suc (suc zero)))))) past small = absurd (omega arith)
first_only (suc (suc (suc (suc (suc (suc (suc zero))))))) past small = absurd (omega arith)
first_only (suc (suc (suc (suc (suc (suc (suc (suc zero)))))))) past small = absurd (omega arith)
first_only (suc (suc (suc (suc (suc (suc (suc (suc (suc zero))))))))) past small = absurd (omega arith)
first_only (suc (suc (suc (suc (suc (suc (suc (suc (suc (suc zero)))))))))) past small = refl
first_only (suc (suc (suc (suc (suc (suc (suc (suc (suc (suc (suc zero))))))))))) past small = refl
first_only (suc (suc (suc (suc (suc (suc (suc (suc (suc (suc (suc (suc zero)))))))))))) past small = refl
first_only (suc (suc (suc (suc (suc (suc (suc (suc (suc (suc (suc (suc (suc zero))))))))))))) past small = refl
first_only (suc (suc (suc (suc (suc (suc (suc (suc (suc (suc (suc (suc (suc (suc tree)))))))))))))) past small =
    absurd (omega arith)

second_only : (tree : ℕ) → 11 ≤ tree → tree < tree_count
    → all_shapes (old_schema Second) tree ≡ Absent
unfolding all_shapes old_schema
second_only zero past small = absurd (omega arith)
second_only (suc zero) past small = absurd (omega arith)
second_only (suc (suc zero)) past small = absurd (omega arith)
second_only (suc (suc (suc zero))) past small = absurd (omega arith)
second_only (suc (suc (suc (suc zero)))) past small = absurd (omega arith)
second_only (suc (suc (suc (suc (suc zero))))) past small = absurd (omega arith)
second_only (suc (suc (suc (suc (suc (suc zero)))))) past small = absurd (omega arith)
second_only (suc (suc (suc (suc (suc (suc (suc zero))))))) past small = absurd (omega arith)
second_only (suc (suc (suc (suc (suc (suc (suc (suc zero)))))))) past small = absurd (omega arith)
second_only (suc (suc (suc (suc (suc (suc (suc (suc (suc zero))))))))) past small = absurd (omega arith)
second_only (suc (suc (suc (suc (suc (suc (suc (suc (suc (suc zero)))))))))) past small = absurd (omega arith)
second_only (suc (suc (suc (suc (suc (suc (suc (suc (suc (suc (suc zero))))))))))) past small = refl
second_only (suc (suc (suc (suc (suc (suc (suc (suc (suc (suc (suc (suc zero)))))))))))) past small = refl
second_only (suc (suc (suc (suc (suc (suc (suc (suc (suc (suc (suc (suc (suc zero))))))))))))) past small = refl
second_only (suc (suc (suc (suc (suc (suc (suc (suc (suc (suc (suc (suc (suc (suc tree)))))))))))))) past small =
    absurd (omega arith)

pub old_only : (form : OlderForm) (tree : ℕ) → table_count form ≤ tree → tree < tree_count
    → all_shapes (old_schema form) tree ≡ Absent
old_only First = first_only
old_only Second = second_only

-- no column of the choices becomes a float
old_plain : (form : OlderForm) → all_reals (old_schema form) 8 ≡ 0
unfolding all_reals old_schema
old_plain First = refl
old_plain Second = refl

-- and none of the records does
old_records : (form : OlderForm) → all_reals (old_schema form) 3 ≡ 0
unfolding all_reals old_schema
old_records First = refl
old_records Second = refl

-- a store of that schema that was not changed in its transaction shows them
pub has_old_trees : {D : Type 0} {g : Ghosts D} (form : OlderForm) (store : FileStore D g)
    → schema_of store ≡ old_schema form → store.saved ≡ None → IsTrue (view store).is_numbered
    → IsTrue (view store).is_clean → HasOldTrees (view store)
unfolding all_trees
has_old_trees form store schema unaltered numbered clean =
    let kept : kept_schema store.saved (schema_of store) ≡ schema_of store =
    ap (λ saved. kept_schema saved (schema_of store)) unaltered in
    let rows : (view store).trees catalog_tree ≡ listed_from 0 (schema_of store) =
    rw clean refl in
    record {
      form = form;
      numbered = numbered;
      listed = rows ∙ ap (listed_from 0) schema;
      shapes = λ tree small. ap (λ s. all_shapes s tree) schema ∙ (old_tree form tree small).shape;
      none = λ tree past small. ap (λ s. all_shapes s tree) schema ∙ old_only form tree past small;
      no_floats = ap (λ s. all_reals s 8) schema ∙ old_plain form;
      plain_records = ap (λ s. all_reals s 3) schema ∙ old_records form;
      settled = ap all_shapes kept;
    }
