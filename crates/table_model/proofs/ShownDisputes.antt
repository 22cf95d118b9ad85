-- The disputes that are answered from the tables can be shown.
use Rattle.std.proofs.Common.{◌≡◌, ℕ, Bool, List, [], ◌∷◌, length, sym, subst, true, arith, ◌<◌}
use Rattle.std.proofs.Common.{◌⊎◌, All}
use Rattle.book_model.proofs.Std.{AllByRecursion, nat_tests, All-from_recursion, All-map}
use Rattle.book_model.proofs.Std.{All-weaker, filter_passes}
use Rattle.book_model.specs.declared.dispute.Variant.{Variant}
use Rattle.book_model.specs.Words.{IsDay, identity_length, identity2_length, Book, IsDispute}
use Rattle.book_model.specs.Words.{AreDisputes, dispute_at, identities, is_in_dispute, Naming}
use Rattle.book_model.specs.Words.{identity_by}
use Rattle.table_model.specs.Words.{tables_of, NamedRow, disputes_read, variant_read, IsReadable}
use Rattle.table_model.specs.ListLaws.{ListsShow}
use Rattle.table_model.proofs.DisputeLemmas.{disputes_are, two_or_more}
use Rattle.table_model.proofs.NextDispute.{works_held}
use Rattle.table_model.proofs.DisputedIdentities.{disputed, is_shared}
use Rattle.table_model.proofs.DisputedRecords.{block, block_own}
use Rattle.table_model.proofs.DisputedRows.{all_shown, listed_entries}
use Rattle.table_model.proofs.RowsWhere.{AreMembers, first_held}
use Rattle.table_model.proofs.IdentityLengths.{identity_by-long}
use Rattle.table_model.proofs.RecordReading.{each_entry}
use Rattle.table_model.proofs.ShownLemmas.{rows_show, lines_show}

module _ (naming : Naming) (book : Book) (whole : IsReadable naming book) where
  -- an identity that records have has the length that its parts need by the rule in force,
  long_identity : (id : List ℕ) (ks : List (List ℕ)) → AreMembers book.held ks
      → AllByRecursion (λ bytes. identity_by book.rulings bytes ≡ id) ks → 0 < length ks
      → (length id ≡ identity_length) ⊎ (length id ≡ identity2_length)
  long_identity id [] held own some = absurd (omega arith)
  long_identity id (k ∷ ks) held own some =
      subst (λ id. (length id ≡ identity_length) ⊎ (length id ≡ identity2_length)) own.0
      (identity_by-long book.rulings k
      (whole.usage k (first_held book.held k ks held)).usage)

  -- so the dispute of one that two or more have can be shown,
  dispute_shows : (id : List ℕ) → is_shared naming book.rulings book.held id ≡ true
      → IsDispute (dispute_at naming book.rulings book.held id)
  dispute_shows id two =
      let ks : List (List ℕ) = block naming book.rulings book.held id in
      let some : 0 < length ks = grind (arith, nat_tests) in
      let held = works_held naming book whole id in
      let rows : List NamedRow = listed_entries naming book whole.sound ks in
      let dated = each_entry naming book whole.sound (λ row. IsDay row.1.priced.day)
      (λ bytes. identity_by book.rulings bytes ≡ id)
      (λ bytes priced there price its. (whole.priced bytes priced there price).day) ks held
      (block_own naming book.rulings book.held id) in
      record {
        identity = long_identity id ks held (block_own naming book.rulings book.held id) some;
        days =
            subst (All (λ (member : Variant). IsDay member.priced.day))
            (all_shown naming book whole.sound whole.lines.framed ks held)
            (All-map (λ (member : Variant). IsDay member.priced.day) variant_read rows
            (All-from_recursion (λ (row : NamedRow). IsDay row.1.priced.day) rows dated));
      }

  -- and so can all of them
  disputes_show : AreDisputes (disputes_read (tables_of naming book))
  disputes_show =
      let ids : List (List ℕ) = disputed naming book.rulings book.held in
      let dispute = dispute_at naming book.rulings book.held in
      let test : List ℕ → Bool = is_in_dispute naming book.rulings book.held in
      subst AreDisputes (sym (disputes_are naming book whole))
      (All-map IsDispute dispute ids
      (All-weaker (λ id. test id ≡ true) (λ id. IsDispute (dispute id))
      (λ id in_dispute. dispute_shows id (two_or_more naming book whole id in_dispute)) ids
      (filter_passes test (identities book.rulings book.held))))

-- the law
pub lists_show : ListsShow
lists_show = record {
  rows = λ naming book number whole is. rows_show naming book whole number is;
  lines = λ naming book number whole is. lines_show naming book whole number is;
  disputes = disputes_show;
}
