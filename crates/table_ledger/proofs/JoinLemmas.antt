-- Rows that join disputes, and that such disputes can be shown.
use Rattle.std.proofs.Common.{◌≡◌, ◌∙◌, Bool, true, false, List, [], ◌∷◌, ◌++◌, refl, sym, ap, map}
use Rattle.std.proofs.Common.{append_assoc, subst, ℕ, ◌+◌, ◌<◌, not, cond, take, length, append-nil}
use Rattle.std.proofs.Common.{slice_index_or, filter, if◌then◌else◌}
use Rattle.book_model.proofs.Std.{map-append, take_more, AllByRecursion, All-push}
use Rattle.book_model.proofs.Std.{All-from_recursion, filter-append, recursion_from_All}
use Rattle.book_model.specs.Words.{IsDay, Disputed, IsDispute, AreDisputes, dispute_shown}
use Rattle.book_model.specs.Words.{same_bytes}
use Rattle.table_model.specs.Words.{NamedRow, grouped, join_last, variant_read}
use Rattle.table_model.specs.DisputesRead.{dispute_of_one}
use Rattle.table_model.proofs.GroupingLemmas.{grouped-push}
use Rattle.table_ledger.proofs.Words.{Dispute, Variant, stored_entry, StoredRecord, IsShownRow}

-- a row after disputes joins the last of them, or comes after it
pub join_after : (front : List Disputed) (last : Disputed) (row : NamedRow)
    → join_last (front ++ last ∷ []) row ≡ front ++ join_last (last ∷ []) row
join_after [] last row = refl
join_after (first ∷ []) last row = refl
join_after (first ∷ next ∷ others) last row =
    ap (λ (rest : List Disputed). first ∷ rest) (join_after (next ∷ others) last row)

-- the last dispute with one more row, if both have one identity
pub join_same : (last : Disputed) (row : NamedRow)
    → same_bytes last.identity row.1.identity ≡ true
    → join_last (last ∷ []) row
    ≡ record last { members = last.members ++ variant_read row ∷ [] } ∷ []
join_same last row same =
    ap (λ (joins : Bool). if joins
    then record last { members = last.members ++ variant_read row ∷ [] } ∷ []
    else last ∷ dispute_of_one row ∷ []) same

-- one more dispute, if they differ
pub join_other : (last : Disputed) (row : NamedRow)
    → same_bytes last.identity row.1.identity ≡ false
    → join_last (last ∷ []) row ≡ last ∷ dispute_of_one row ∷ []
join_other last row differ =
    ap (λ (joins : Bool). if joins
    then record last { members = last.members ++ variant_read row ∷ [] } ∷ []
    else last ∷ dispute_of_one row ∷ []) differ

-- the last of some disputes gets one more row
pub joined_same : (olds news : List Dispute) (last joined : Dispute) (row : NamedRow)
    → olds ≡ news ++ last ∷ []
    → same_bytes last.identity.items row.1.identity ≡ true
    → dispute_shown joined
    ≡ record { identity = last.identity.items; members = last.members.items ++ variant_read row ∷ [] }
    → map dispute_shown (news ++ joined ∷ []) ≡ join_last (map dispute_shown olds) row
joined_same olds news last joined row is same made =
    let front = map dispute_shown news in
    map-append dispute_shown news (joined ∷ [])
    ∙ ap (λ (one : Disputed). front ++ one ∷ []) made
    ∙ ap (λ (rest : List Disputed). front ++ rest) (sym (join_same (dispute_shown last) row same))
    ∙ sym (join_after front (dispute_shown last) row)
    ∙ ap (λ (all : List Disputed). join_last all row)
    (sym (map-append dispute_shown news (last ∷ [])))
    ∙ ap (λ (all : List Dispute). join_last (map dispute_shown all) row) (sym is)

-- a dispute of one row comes after some disputes, if the last of these has another identity
pub joined_other : (olds news : List Dispute) (last one : Dispute) (row : NamedRow)
    → olds ≡ news ++ last ∷ []
    → same_bytes last.identity.items row.1.identity ≡ false
    → dispute_shown one ≡ dispute_of_one row
    → map dispute_shown ((news ++ last ∷ []) ++ one ∷ []) ≡ join_last (map dispute_shown olds) row
joined_other olds news last one row is differ made =
    let front = map dispute_shown news in
    ap (λ (all : List Dispute). map dispute_shown all) (append_assoc news (last ∷ []) (one ∷ []))
    ∙ map-append dispute_shown news (last ∷ one ∷ [])
    ∙ ap (λ (behind : Disputed). front ++ dispute_shown last ∷ behind ∷ []) made
    ∙ ap (λ (rest : List Disputed). front ++ rest) (sym (join_other (dispute_shown last) row differ))
    ∙ sym (join_after front (dispute_shown last) row)
    ∙ ap (λ (all : List Disputed). join_last all row)
    (sym (map-append dispute_shown news (last ∷ [])))
    ∙ ap (λ (all : List Dispute). join_last (map dispute_shown all) row) (sym is)

-- a dispute of one row that can be shown
one_shows : (row : NamedRow) → IsShownRow row → IsDispute (dispute_of_one row)
one_shows row shown = record {
  identity = shown.identity;
  days = All-from_recursion (λ (member : Variant). IsDay member.priced.day) (variant_read row ∷ [])
      (shown.day, tt);
}

-- a row that can be shown, after disputes that can be
last_shows : (disputes : List Disputed) (row : NamedRow) → IsShownRow row
    → AllByRecursion IsDispute disputes → AllByRecursion IsDispute (join_last disputes row)
last_shows [] row shown all = (one_shows row shown, tt)
last_shows (last ∷ []) row shown all = by_test (same_bytes last.identity row.1.identity)
  where
    by_test : (joins : Bool) → AllByRecursion IsDispute (if joins
        then record last { members = last.members ++ variant_read row ∷ [] } ∷ []
        else last ∷ dispute_of_one row ∷ [])
    by_test true = (
      record {
        identity = all.0.identity;
        days = All-push (λ (member : Variant). IsDay member.priced.day) last.members
            (variant_read row) all.0.days shown.day;
      },
      tt,
    )
    by_test false = (all.0, (one_shows row shown, tt))
last_shows (first ∷ next ∷ others) row shown all =
    (all.0, last_shows (next ∷ others) row shown all.1)

-- Disputes that can be shown still can with one more row that can.
pub joined_show : (before behind : List Disputed) (row : NamedRow)
    → behind ≡ join_last before row → IsShownRow row → AreDisputes before → AreDisputes behind
joined_show before behind row is shown all =
    subst AreDisputes (sym is)
    (All-from_recursion IsDispute (join_last before row)
    (last_shows before row shown (recursion_from_All IsDispute before all)))

-- ---- groups of the rows that pass a test, one row after the other

module _ (keeps : NamedRow → Bool) (rows : List StoredRecord) (at : ℕ) (one : StoredRecord) where
  -- the rows so far
  abbrev done : List NamedRow
  done = map stored_entry (take at rows)

  -- those of them that are kept
  abbrev kept : List NamedRow
  kept = filter keeps done

  -- the row after them joins their groups if it is kept,
  joined : (olds : List Disputed) (settled : Bool) → not settled ≡ keeps (stored_entry one)
      → olds ≡ grouped kept
      → (if settled then olds else join_last olds (stored_entry one))
      ≡ grouped (kept ++ filter keeps (stored_entry one ∷ []))
  joined olds true told before =
      before ∙ ap grouped (sym (append-nil kept))
      ∙ ap (λ (is : Bool). grouped (kept ++ cond is (stored_entry one ∷ []) [])) told
  joined olds false told before =
      ap (λ (all : List Disputed). join_last all (stored_entry one)) before
      ∙ sym (grouped-push kept (stored_entry one))
      ∙ ap (λ (is : Bool). grouped (kept ++ cond is (stored_entry one ∷ []) [])) told

  -- so these are the groups with one more row
  pub grouped_more : (olds news : List Disputed) (settled : Bool) → at < length rows
      → one ≡ slice_index_or rows at one → not settled ≡ keeps (stored_entry one)
      → news ≡ (if settled then olds else join_last olds (stored_entry one))
      → olds ≡ grouped kept
      → news ≡ grouped (filter keeps (map stored_entry (take (at + 1) rows)))
  grouped_more olds news settled within is told more before =
      more ∙ joined olds settled told before
      ∙ ap grouped (sym (filter-append keeps done (stored_entry one ∷ []))
      ∙ ap (filter keeps) (sym (map-append stored_entry (take at rows) (one ∷ []))
      ∙ ap (λ (last : StoredRecord). map stored_entry (take at rows ++ last ∷ [])) is
      ∙ ap (map stored_entry) (sym (take_more rows at one within))))
