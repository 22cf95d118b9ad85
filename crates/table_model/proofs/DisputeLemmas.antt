-- The disputes are answered from the tables.
use Rattle.std.proofs.Common.{◌≡◌, ℕ, List, [], ◌∷◌, map, length, refl, sym, ap, ◌∙◌, true, Ok}
use Rattle.std.proofs.Common.{arith, subst, not, ◌<◌, is_eq, Less}
use Rattle.std.specs.List.Sorted.{IsStrictlySortedBy}
use Rattle.book_model.proofs.Std.{AllByRecursion, nat_tests, filter_map-append, filter_passes}
use Rattle.book_model.proofs.Std.{recursion_from_All}
use Rattle.book_model.specs.Words.{Book, Disputed, dispute_at, disputes_in, identities}
use Rattle.book_model.specs.Words.{is_in_dispute, is_settled, no_event, Naming, by_bytes}
use Rattle.book_model.specs.Words.{identity_by}
use Rattle.book_model.proofs.Lemmas.{first_of}
use Rattle.table_model.specs.Words.{status_of, tables_of, NamedRow, grouped, disputes_read}
use Rattle.table_model.specs.Words.{disputed_among, is_unsettled, IsReadable}
use Rattle.table_model.specs.ListLaws.{DisputesFollow}
use Rattle.table_model.specs.DisputesRead.{uncharged_among}
use Rattle.table_model.proofs.DisputedIdentities.{disputed, disputed_rises, is_shared}
use Rattle.table_model.proofs.DisputedRecords.{block, block_own, flat}
use Rattle.table_model.proofs.DisputedRows.{all_shown, disputed_are, listed_entries}
use Rattle.table_model.proofs.RowsWhere.{AreMembers, first_entry}
use Rattle.table_model.proofs.GroupingLemmas.{grouped-push, grouped-append, join_all, one_group}
use Rattle.table_model.proofs.GroupingLemmas.{of_rows, StartsOther}
use Rattle.table_model.proofs.NextDispute.{next_found, works_held}
use Rattle.table_model.proofs.RecordReading.{each_entry, entry}
use Rattle.table_model.proofs.RowOrder.{rows_in_order, rows_left}
use Rattle.table_model.proofs.Texts.{same_is}

module _ (naming : Naming) (book : Book) (whole : IsReadable naming book) where
  -- the records of an identity
  abbrev works_of : List ℕ → List (List ℕ)
  works_of id = block naming book.rulings book.held id

  -- the dispute of an identity
  abbrev dispute : List ℕ → Disputed
  dispute id = dispute_at naming book.rulings book.held id

  -- the rows of records
  abbrev rows_of_records : List (List ℕ) → List NamedRow
  rows_of_records ks = listed_entries naming book whole.sound ks

  -- where there is a record, there is a row
  some_row : (ks : List (List ℕ)) → AreMembers book.held ks → 0 < length ks
      → 0 < length (rows_of_records ks)
  some_row [] held some = absurd (omega arith)
  some_row (k ∷ ks) held some =
      let first = first_entry naming book whole.sound (status_of book) whole.sound.priced k ks held in
      subst (λ rows. 0 < length rows) (sym first.2) (omega arith)

  -- rows of one identity before other disputes are one dispute
  rows_grouped : (id : List ℕ) (rows : List NamedRow) (others : List Disputed) → 0 < length rows
      → AllByRecursion (λ (row : NamedRow). row.1.identity ≡ id) rows → StartsOther id others
      → join_all rows others ≡ of_rows id rows ∷ others
  rows_grouped id [] others some own other = absurd (omega arith)
  rows_grouped id (row ∷ rows) others some own other = one_group id row rows others own other

  -- an identity that is below others is not the first of them
  starts_other : (id : List ℕ) (ids : List (List ℕ))
      → AllByRecursion (λ other. by_bytes id other ≡ Less) ids → StartsOther id (map dispute ids)
  starts_other id [] less = tt
  starts_other id (next ∷ ids) less = same_is id next ∙ ap is_eq less.0

  -- an identity in dispute is one that two or more have
  pub two_or_more : (id : List ℕ) → is_in_dispute naming book.rulings book.held id ≡ true
      → is_shared naming book.rulings book.held id ≡ true
  two_or_more id in_dispute =
      first_of (is_shared naming book.rulings book.held id) (not (is_settled book.rulings id))
      in_dispute

  -- the rows of an identity before other disputes are its dispute
  block_grouped : (id : List ℕ) (others : List Disputed)
      → is_shared naming book.rulings book.held id ≡ true → StartsOther id others
      → join_all (rows_of_records (works_of id)) others ≡ dispute id ∷ others
  block_grouped id others two other =
      let some : 0 < length (works_of id) = grind (arith, nat_tests) in
      let own = each_entry naming book whole.sound (λ row. row.1.identity ≡ id)
      (λ bytes. identity_by book.rulings bytes ≡ id) (λ bytes priced there price its. its)
      (works_of id)
      (works_held naming book whole id) (block_own naming book.rulings book.held id) in
      let shown = all_shown naming book whole.sound whole.lines.framed (works_of id)
      (works_held naming book whole id) in
      rows_grouped id (rows_of_records (works_of id)) others
      (some_row (works_of id) (works_held naming book whole id) some) own other
      ∙ (λ i. record { identity = id; members = shown i } ∷ others)

  -- so are those of several identities,
  flat_grouped : (ids : List (List ℕ)) → IsStrictlySortedBy by_bytes ids
      → AllByRecursion (λ id. is_in_dispute naming book.rulings book.held id ≡ true) ids
      → grouped (rows_of_records (flat naming book.rulings book.held ids)) ≡ map dispute ids
  unfolding IsStrictlySortedBy
  flat_grouped [] rising open_all = refl
  flat_grouped (id ∷ ids) rising open_all =
      let rest : List (List ℕ) = flat naming book.rulings book.held ids in
      ap grouped (filter_map-append (entry naming book whole.sound) (works_of id) rest)
      ∙ grouped-append (rows_of_records (works_of id)) (rows_of_records rest)
      ∙ ap (join_all (rows_of_records (works_of id))) (flat_grouped ids rising.1 open_all.1)
      ∙ block_grouped id (map dispute ids) (two_or_more id open_all.0)
      (starts_other id ids rising.0)

  -- and the disputes are read from the rows
  pub disputes_are : disputes_read (tables_of naming book)
      ≡ disputes_in naming book.rulings book.held
  disputes_are =
      ap grouped (disputed_are naming book whole.sound)
      ∙ flat_grouped (disputed naming book.rulings book.held)
      (disputed_rises naming book.rulings book.held)
      (recursion_from_All (λ id. is_in_dispute naming book.rulings book.held id ≡ true)
      (disputed naming book.rulings book.held)
      (filter_passes (is_in_dispute naming book.rulings book.held)
      (identities book.rulings book.held)))

-- the law
pub disputes_follow : DisputesFollow
disputes_follow = record {
  disputes = λ naming book whole.
      ap (λ found. no_event (Ok found)) (sym (disputes_are naming book whole));
  in_order = λ naming book rows whole same rising.
      rows_in_order rows (disputed_among (tables_of naming book)) same rising;
  unsettled = λ naming book rows whole same rising.
      rows_left (is_unsettled (tables_of naming book)) rows
      (uncharged_among (tables_of naming book).records) same rising;
  push = grouped-push;
  next = λ naming book from found whole finds. next_found naming book whole from found finds;
}
