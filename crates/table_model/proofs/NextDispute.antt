-- The first dispute from some bytes on is that of the least identity from there on that a row in
-- dispute has.
use Rattle.std.proofs.Common.{◌≡◌, ◌∙◌, ℕ, List, [], ◌∷◌, map, Bool, true, false, true≢false, cond}
use Rattle.std.proofs.Common.{not, ◌&&◌, ◌||◌, Option, None, Some, Ok, refl, sym, ap, subst, T}
use Rattle.std.proofs.Common.{filter, find, filter_map, IsPermutation, option_map, Less}
use Rattle.std.specs.FinMap.Entries.{below_all}
use Rattle.std.specs.List.Sorted.{IsStrictlySortedBy}
use Rattle.std.proofs.Math.Bool.{or-true}
use Rattle.book_model.proofs.Std.{tied_itself, entries, entries_sorted, get, is_sorted}
use Rattle.book_model.proofs.Std.{AllByRecursion, list_any, eq_by_cmp, ordering_then}
use Rattle.book_model.proofs.Std.{nat_list_cmp_total, nat_list_eq_equiv, IsPermutation-refl}
use Rattle.book_model.proofs.Std.{IsPermutation-sym, IsPermutation-trans}
use Rattle.book_model.specs.Words.{Book, Disputed, Naming, by_bytes, by_name, dispute_at}
use Rattle.book_model.specs.Words.{dispute_outcome, has, identity_by, is_from, is_in_dispute}
use Rattle.book_model.specs.Words.{members, no_event, same_bytes, set_of}
use Rattle.book_model.proofs.DisputeLemmas.{disputed_is_uncharged}
use Rattle.book_model.proofs.FromLemmas.{find-map, not_from}
use Rattle.book_model.proofs.Lemmas.{list_any-map, apart_from_distinct, given_permuted, first_of}
use Rattle.book_model.proofs.Lemmas.{not_true, second_of, members_rise}
use Rattle.book_core.proofs.NamedLemmas.{by_name_total, same_texts}
use Rattle.table_model.specs.Words.{RecordTable, status_of, tables_of, rows_with, FindsDisputed}
use Rattle.table_model.specs.Words.{NamedRow, by_identity, is_unsettled, variant_read}
use Rattle.table_model.specs.Words.{IsReadable}
use Rattle.table_model.proofs.LineReading.{held_row}
use Rattle.table_model.specs.DisputesRead.{IsDisputedFrom, dispute_with}
use Rattle.table_model.proofs.DisputedIdentities.{AreUncharged, disputed, disputed_rises}
use Rattle.table_model.proofs.DisputedIdentities.{disputed_where, in_disputed, named_distinct}
use Rattle.table_model.proofs.DisputedIdentities.{unsettled}
use Rattle.table_model.proofs.DisputedRecords.{block, block_own, in_block, one_identity}
use Rattle.table_model.proofs.DisputedRows.{all_shown, disputed_row, listed_entries, rows_rise}
use Rattle.table_model.proofs.RecordReading.{entry, entry_at, every_row}
use Rattle.table_model.proofs.Rivals.{having}
use Rattle.table_model.proofs.RowsWhere.{AreMembers, rows_where}
use Rattle.table_model.proofs.RowOrder.{rows_in_order}
use Rattle.table_model.proofs.SetReading.{one_passes}
use Rattle.table_model.proofs.UnderNumbers.{is_less, one_holds, other_holds}

-- ---- what is found first of texts in order

-- what holds of all texts of a list holds of one among them
at_text : (P : List ℕ → Type 0) (ks : List (List ℕ)) (k : List ℕ) → AllByRecursion P ks
    → list_any (same_bytes k) ks ≡ true → P k
at_text P [] k all among = absurd (true≢false (sym among))
at_text P (first ∷ ks) k all among =
    elim (same_bytes k first) as (λ b. same_bytes k first ≡ b
    → (b || list_any (same_bytes k) ks) ≡ true → P k) [
      | true ↦ λ same there. subst P (sym (same_texts k first same)) all.0
      | false ↦ λ differ there. at_text P ks k all.1 there
    ] refl among

-- the first text of a list is among its texts, and so are the others
first_among : (k : List ℕ) (ks : List (List ℕ)) → list_any (same_bytes k) (k ∷ ks) ≡ true
first_among k ks = ap (λ b. b || list_any (same_bytes k) ks) (nat_list_eq_equiv.refl k)

later_among : (k first : List ℕ) (ks : List (List ℕ)) → list_any (same_bytes k) ks ≡ true
    → list_any (same_bytes k) (first ∷ ks) ≡ true
later_among k first ks among =
    ap (λ b. same_bytes k first || b) among ∙ or-true (same_bytes k first)

-- of texts in order the first that passes a test is the least that does,
find_least : (p : List ℕ → Bool) (ks : List (List ℕ)) (k : List ℕ)
    → IsStrictlySortedBy by_bytes ks → list_any (same_bytes k) ks ≡ true → p k ≡ true
    → ((other : List ℕ) → list_any (same_bytes other) ks ≡ true → p other ≡ true
    → is_from k other ≡ true)
    → find p ks ≡ Some k
unfolding IsStrictlySortedBy
find_least p [] k rises among passes least = absurd (true≢false (sym among))
find_least p (first ∷ ks) k rises among passes least =
    elim (p first) as (λ b. p first ≡ b → cond b (Some first) (find p ks) ≡ Some k) [
      | true ↦ λ own. ap Some (is_first rises.0 own)
      | false ↦ λ fails. find_least p ks k rises.1 (is_later fails) passes
          (λ other there its. least other (later_among other first ks there) its)
    ] refl
  where
    is_first : AllByRecursion (λ other. by_bytes first other ≡ Less) ks → p first ≡ true
        → first ≡ k
    is_first below own =
        elim (same_bytes k first) as (λ b. same_bytes k first ≡ b
        → (b || list_any (same_bytes k) ks) ≡ true → first ≡ k) [
          | true ↦ λ same there. sym (same_texts k first same)
          | false ↦ λ differ there. absurd (not_from k first
              (at_text (λ other. by_bytes first other ≡ Less) ks k below there)
              (least first (first_among first ks) own))
        ] refl among

    is_later : p first ≡ false → list_any (same_bytes k) ks ≡ true
    is_later fails =
        elim (same_bytes k first) as (λ b. same_bytes k first ≡ b
        → (b || list_any (same_bytes k) ks) ≡ true → list_any (same_bytes k) ks ≡ true) [
          | true ↦ λ same there.
              absurd (true≢false (sym passes ∙ ap p (same_texts k first same) ∙ fails))
          | false ↦ λ differ there. there
        ] refl among

-- and none is found where none does
find_none : (p : List ℕ → Bool) (ks : List (List ℕ))
    → ((k : List ℕ) → list_any (same_bytes k) ks ≡ true → p k ≡ true → ⊥) → find p ks ≡ None
find_none p [] never = refl
find_none p (k ∷ ks) never =
    elim (p k) as (λ b. p k ≡ b → cond b (Some k) (find p ks) ≡ None) [
      | true ↦ λ is. absurd (never k (first_among k ks) is)
      | false ↦ λ is. find_none p ks
          (λ other among passes. never other (later_among other k ks among) passes)
    ] refl

-- ---- the rows of one identity

module _ (id : List ℕ) where
  -- a row has the identity
  abbrev has_id : NamedRow → Bool
  has_id row = same_bytes row.1.identity id

  -- a row of it is below the later rows of it,
  below_with : (row : NamedRow) (rows : List NamedRow) → T (below_all by_bytes row.0 rows)
      → row.1.identity ≡ id
      → AllByRecursion (λ other. by_identity row other ≡ Less) (filter has_id rows)
  below_with row [] below own = tt
  below_with row (other ∷ rows) below own =
      let rest = below_with row rows (other_holds _ _ below) own in
      elim (has_id other) as (λ b. has_id other ≡ b
      → AllByRecursion (λ other. by_identity row other ≡ Less)
      (cond b (other ∷ filter has_id rows) (filter has_id rows))) [
        | true ↦ λ same. (
          (λ i. ordering_then (by_bytes (own i) (same_texts other.1.identity id same i))
              (by_bytes row.0 other.0))
              ∙ ap (λ o. ordering_then o (by_bytes row.0 other.0))
              (tied_itself nat_list_cmp_total id)
              ∙ is_less (by_bytes row.0 other.0) (one_holds _ _ below),
          rest,
        )
        | false ↦ λ differ. rest
      ] refl

  -- so those of a table are in order by identity and name
  with_rise : (rows : List NamedRow) → T (is_sorted by_bytes rows)
      → IsStrictlySortedBy by_identity (filter has_id rows)
  unfolding IsStrictlySortedBy
  with_rise [] sorted = tt
  with_rise (row ∷ rows) sorted =
      let rest = with_rise rows (other_holds _ _ sorted) in
      elim (has_id row) as (λ b. has_id row ≡ b → IsStrictlySortedBy by_identity
      (cond b (row ∷ filter has_id rows) (filter has_id rows))) [
        | true ↦ λ same.
            (below_with row rows (one_holds _ _ sorted) (same_texts row.1.identity id same), rest)
        | false ↦ λ differ. rest
      ] refl

module _ (naming : Naming) (book : Book) (whole : IsReadable naming book) where
  -- the rows of the records
  abbrev records : RecordTable
  records = (tables_of naming book).records

  -- the records of an identity
  abbrev works_of : List ℕ → List (List ℕ)
  works_of id = block naming book.rulings book.held id

  -- are held
  pub works_held : (id : List ℕ) → AreMembers book.held (works_of id)
  works_held id bytes among =
      second_of (same_bytes (identity_by book.rulings bytes) id) (has book.held bytes)
      (sym (in_block naming book.rulings book.held id bytes) ∙ among)

  -- the identities in dispute
  abbrev ids : List (List ℕ)
  ids = disputed naming book.rulings book.held

  uncharged : AreUncharged naming book.rulings book.held
  uncharged q there = disputed_is_uncharged naming book q whole.sound there

  -- a row in dispute has one of them,
  abbrev InDispute : NamedRow → Type 0
  InDispute row =
      row.1.charged ≡ false → is_unsettled (tables_of naming book) row ≡ true
      → list_any (same_bytes row.1.identity) ids ≡ true

  row_in : (row : NamedRow) → get records row.0 ≡ Some row.1 → InDispute row
  row_in row =
      every_row naming book whole.sound InDispute (λ bytes priced there price not_charged none.
      disputed_where naming book.rulings book.held uncharged bytes there
      ∙ sym (disputed_row naming book whole.sound bytes priced)
      ∙ (λ i. none i && not (not_charged i))) row.0 row.1

  -- and each of them is that of a row in dispute
  record IsRowOf (id : List ℕ) (row : NamedRow) : Type 0 where
    there : get records row.0 ≡ Some row.1
    own : row.1.identity ≡ id
    not_charged : row.1.charged ≡ false
    none : is_unsettled (tables_of naming book) row ≡ true

  row_of : (id : List ℕ) → list_any (same_bytes id) ids ≡ true
      → (row : NamedRow) × IsRowOf id row
  row_of id among =
      let its : List ℕ → List ℕ = λ q. identity_by book.rulings q in
      let parts = sym (in_disputed naming book.rulings book.held id) ∙ among in
      let any = second_of (is_in_dispute naming book.rulings book.held id)
      (list_any (same_bytes id) (map its (members book.held))) parts in
      let one = one_passes (λ q. same_bytes id (its q)) book.held
      (sym (list_any-map (same_bytes id) its (members book.held)) ∙ any) in
      let same : id ≡ its one.0 = same_texts id (its one.0) one.2 in
      let held = held_row naming book whole.sound one.0 one.1 in
      let row : NamedRow = entry_at naming book whole.sound one.0 held.0 in
      let still : unsettled naming book.rulings book.held one.0 ≡ true =
      sym (disputed_where naming book.rulings book.held uncharged one.0 one.1)
      ∙ ap (λ k. list_any (same_bytes k) ids) (sym same) ∙ among in
      let both = disputed_row naming book whole.sound one.0 held.0 ∙ still in (
        row,
        record {
          there = held.2;
          own = sym same;
          not_charged = not_true row.1.charged
              (second_of (is_unsettled (tables_of naming book) row) (not row.1.charged) both);
          none = first_of (is_unsettled (tables_of naming book) row) (not row.1.charged) both;
        },
      )

  -- the rows of an identity are those of its records, by name
  rows_are : (id : List ℕ)
      → rows_with id records ≡ listed_entries naming book whole.sound (works_of id)
  rows_are id =
      let own : List (List ℕ) = filter (having book.rulings book.held id) (members book.held) in
      let of_own : List NamedRow = filter_map (entry naming book whole.sound) own in
      let its : List NamedRow = rows_with id records in
      let listed : List NamedRow = listed_entries naming book whole.sound (works_of id) in
      let given : IsPermutation listed of_own =
      given_permuted (by_name naming) (entry naming book whole.sound) (by_name_total naming) own
      (apart_from_distinct (eq_by_cmp (by_name naming)) own
      (named_distinct naming book.rulings book.held (having book.rulings book.held id))) in
      let same : IsPermutation listed its =
      IsPermutation-trans listed of_own its given
      (IsPermutation-sym its of_own
      (rows_where naming book whole.sound (status_of book) whole.sound.priced
      (λ row. same_bytes row.1.identity id) (having book.rulings book.held id)
      (λ bytes cost costs. refl))) in
      let rise = members_rise (by_name_total naming) (set_of (by_name naming) own) in
      rows_in_order its its (IsPermutation-refl its)
      (with_rise id (entries records) (entries_sorted records))
      ∙ sym (rows_in_order listed its same
      (rows_rise naming book whole.sound (works_of id) (works_held id)
      (one_identity naming book.rulings book.held id (works_of id) rise
      (block_own naming book.rulings book.held id))))

  -- so its dispute is read from them
  pub dispute_is : (id : List ℕ)
      → dispute_at naming book.rulings book.held id ≡ dispute_with records id
  dispute_is id =
      let members_are = ap (map variant_read) (rows_are id)
      ∙ all_shown naming book whole.sound whole.lines.framed (works_of id) (works_held id) in
      λ i. record { identity = id; members = sym members_are i }

  disputes_are : (found : Option (List ℕ))
      → option_map (dispute_at naming book.rulings book.held) found
      ≡ option_map (dispute_with records) found
  disputes_are None = refl
  disputes_are (Some id) = ap Some (dispute_is id)

  module _ (from : List ℕ) where
    -- a row of an identity in dispute from there on
    from_there : (id : List ℕ) (row : NamedRow) → IsRowOf id row → is_from from id ≡ true
        → IsDisputedFrom from (tables_of naming book) row
    from_there id row is passes = record {
      there = is.there;
      uncharged = is.not_charged;
      unsettled = is.none;
      reached = ap (is_from from) is.own ∙ passes;
    }

    -- what is found of the rows is the first of the identities
    first_is : (found : Option (List ℕ)) → FindsDisputed from (tables_of naming book) found
        → find (is_from from) ids ≡ found
    first_is None none =
        find_none (is_from from) ids (λ id among passes.
        let it = row_of id among in
        none it.0 (from_there id it.0 it.1 passes))
    first_is (Some id) next =
        find_least (is_from from) ids id (disputed_rises naming book.rulings book.held)
        (ap (λ k. list_any (same_bytes k) ids) (sym next.own)
        ∙ row_in next.row next.disputed.there next.disputed.uncharged next.disputed.unsettled)
        (ap (is_from from) (sym next.own) ∙ next.disputed.reached)
        (λ other among passes.
        let it = row_of other among in
        ap (is_from id) (sym it.1.own) ∙ next.least it.0 (from_there other it.0 it.1 passes))

    -- and its dispute is the first
    pub next_found : (found : Option (List ℕ)) → FindsDisputed from (tables_of naming book) found
        → dispute_outcome naming from book ≡ no_event (Ok (option_map (dispute_with records) found))
    next_found found finds =
        ap (λ (one : Option Disputed). no_event (Ok one))
        (find-map (dispute_at naming book.rulings book.held)
        (λ (one : Disputed). is_from from one.identity) ids
        ∙ ap (option_map (dispute_at naming book.rulings book.held)) (first_is found finds)
        ∙ disputes_are found)
