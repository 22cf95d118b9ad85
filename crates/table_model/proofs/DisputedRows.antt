-- The rows of the records in dispute, and what they show.
use Rattle.std.proofs.Common.{◌≡◌, ℕ, List, [], ◌∷◌, map, refl, sym, ap, ◌∙◌, subst, true, false}
use Rattle.std.proofs.Common.{true≢false, Bool, not, ◌&&◌, filter, filter_map, IsPermutation}
use Rattle.std.proofs.Common.{option_map, Less, Equal}
use Rattle.std.specs.List.Sorted.{IsStrictlySortedBy}
use Rattle.book_model.proofs.Std.{tied_itself, entries, list_any, cons_option, eq_by_cmp}
use Rattle.book_model.proofs.Std.{nat_list_cmp_total, nat_list_eq_equiv, IsPermutation-sym}
use Rattle.book_model.proofs.Std.{IsPermutation-trans, exact_bytes}
use Rattle.book_model.specs.declared.dispute.Variant.{Variant}
use Rattle.book_model.specs.Words.{variant_with, Book, charged_of, variant_of, Naming, name_of}
use Rattle.book_model.specs.Words.{by_bytes, identity_by, set_of, members, has, IsSound, Records}
use Rattle.book_model.specs.Words.{is_undisputed, is_withheld, same_bytes, share_identity, Priced}
use Rattle.book_model.proofs.DisputeLemmas.{disputed_is_uncharged}
use Rattle.book_model.proofs.Lemmas.{filter-filter, apart_from_distinct, given_permuted, second_of}
use Rattle.book_model.proofs.Lemmas.{in_those, members-those}
use Rattle.book_model.proofs.RecordSets.{tests_swap}
use Rattle.table_model.specs.Words.{AreFramed, RecordTable, status_of, tables_of, rows_with}
use Rattle.table_model.specs.Words.{NamedRow, by_identity, variant_read, disputed_among}
use Rattle.table_model.specs.Words.{is_unsettled}
use Rattle.table_model.specs.DisputesRead.{disputed_rows}
use Rattle.table_model.proofs.DisputedIdentities.{disputed, disputed_rises, flat_is, unsettled}
use Rattle.table_model.proofs.DisputedIdentities.{works, works_distinct}
use Rattle.table_model.proofs.DisputedRecords.{by_work, by_work_total, flat, in_flat, flat_rises}
use Rattle.table_model.proofs.DueLemmas.{withheld_by}
use Rattle.table_model.proofs.ListOrder.{first_two}
use Rattle.table_model.proofs.RowsWhere.{AreMembers, any_row, first_entry, first_held, others_held}
use Rattle.table_model.proofs.RowsWhere.{rows_where, those_among}
use Rattle.table_model.proofs.RecordReading.{each_entry, entry, entry_at}
use Rattle.table_model.proofs.RowOrder.{list_any-filter, rows_in_order}
use Rattle.table_model.proofs.SetReading.{some_passes}

module _ (naming : Naming) (book : Book) (sound : IsSound naming book) where
  -- the entries of records that are listed: one for each
  abbrev pub listed_entries : List (List ℕ) → List NamedRow
  listed_entries ks = filter_map (entry naming book sound) ks

  -- the order of two records is that of their rows
  row_less : (one other : List ℕ) (cost its : Priced) → has book.held one ≡ true
      → has book.held other ≡ true
      → by_work naming book.rulings book.held one other ≡ Less
      → by_identity (entry_at naming book sound one cost) (entry_at naming book sound other its)
      ≡ Less
  row_less one other cost its there too less =
      first_two (by_bytes (identity_by book.rulings one) (identity_by book.rulings other))
      (by_bytes (name_of naming one) (name_of naming other)) (by_bytes one other) less
      (λ tied below.
      let same = sound.named one other there too
      (exact_bytes (name_of naming one) (name_of naming other) tied) in
      equal_less (sym (ap (by_bytes one) (sym same) ∙ tied_itself nat_list_cmp_total one) ∙ below))
    where
      equal_less : Equal ≡ Less → ⊥
      equal_less same = cc

  -- so rows of records in order are in order
  pub rows_rise : (ks : List (List ℕ)) → AreMembers book.held ks
      → IsStrictlySortedBy (by_work naming book.rulings book.held) ks
      → IsStrictlySortedBy by_identity (listed_entries ks)
  unfolding IsStrictlySortedBy
  rows_rise [] held rising = tt
  rows_rise (k ∷ ks) held rising =
      let first = first_entry naming book sound (status_of book) sound.priced k ks held in
      let there = first_held book.held k ks held in
      let others = others_held book.held k ks held in
      subst (IsStrictlySortedBy by_identity) (sym first.2) (
        each_entry naming book sound
            (λ row. by_identity (entry_at naming book sound k first.0) row ≡ Less)
            (λ bytes. by_work naming book.rulings book.held k bytes ≡ Less)
            (λ bytes priced too price less.
            row_less k bytes first.0 priced there too less) ks others
            rising.0,
        rows_rise ks others rising.1,
      )

  -- the records in dispute are held
  pub flat_listed : (ids : List (List ℕ)) → AreMembers book.held (flat naming book.rulings book.held ids)
  flat_listed ids bytes among =
      second_of _ (has book.held bytes)
      (sym (in_flat naming book.rulings book.held ids bytes) ∙ among)

  -- what is charged
  abbrev charged : Records
  charged = charged_of book

  -- the records that are charged
  charged_among : filter (has charged) (members book.held) ≡ members charged
  charged_among =
      sym (members-those nat_list_cmp_total exact_bytes (has charged) book.held)
      ∙ ap members (those_among charged book.held
      (λ q on. in_those (is_undisputed book.rulings book.held) book.held q on))

  -- a row of a record's identity is charged if a charged record shares it
  settled_rows : (bytes : List ℕ)
      → list_any (λ row. row.1.charged)
      (rows_with (identity_by book.rulings bytes) (tables_of naming book).records)
      ≡ list_any (share_identity book.rulings bytes) (members charged)
  settled_rows bytes =
      let id : List ℕ = identity_by book.rulings bytes in
      let mark : NamedRow → Bool = λ row. row.1.charged in
      let own : NamedRow → Bool = λ row. same_bytes row.1.identity id in
      let share : List ℕ → Bool = share_identity book.rulings bytes in
      list_any-filter mark own (entries (tables_of naming book).records)
      ∙ any_row naming book sound (status_of book) sound.priced (λ row. own row && mark row)
      (λ x. same_bytes (identity_by book.rulings x) id && has charged x)
      (λ x priced price. refl)
      ∙ (λ i. list_any (λ x.
      tests_swap (nat_list_eq_equiv.symm (identity_by book.rulings x) id i) (has charged x) i)
      (members book.held))
      ∙ sym (list_any-filter share (has charged) (members book.held))
      ∙ ap (list_any share) charged_among

  -- so a row is in dispute if nothing of its record's identity is charged, and it is not withheld
  pub disputed_row : (bytes : List ℕ) (priced : Priced)
      → (is_unsettled (tables_of naming book) (entry_at naming book sound bytes priced)
      && not (has charged bytes))
      ≡ unsettled naming book.rulings book.held bytes
  disputed_row bytes priced =
      (λ i. (not (settled_rows bytes i)
      && not (withheld_by naming book sound (charged_of book) bytes i))
      && not (has charged bytes))
      ∙ narrower (list_any (share_identity book.rulings bytes) (members charged))
      (not (is_withheld book.rulings bytes)) (has charged bytes)
      (λ was. some_passes (share_identity book.rulings bytes) charged bytes was
      (nat_list_eq_equiv.refl (identity_by book.rulings bytes)))
    where
      narrower : (some counts own : Bool) → (own ≡ true → some ≡ true)
          → ((not some && counts) && not own) ≡ (not some && counts)
      narrower true counts own within = refl
      narrower false counts true within = absurd (true≢false (sym (within refl)))
      narrower false true false within = refl
      narrower false false false within = refl

  -- the rows in dispute are those of these records
  disputed_permuted : IsPermutation (disputed_among (tables_of naming book))
      (listed_entries (works naming book.rulings book.held))
  disputed_permuted =
      let records : RecordTable = (tables_of naming book).records in
      let uncharged : NamedRow → Bool = λ row. not row.1.charged in
      let unsettled_row : NamedRow → Bool = is_unsettled (tables_of naming book) in
      let each : NamedRow → Bool = λ row. unsettled_row row && uncharged row in
      subst (λ xs. IsPermutation xs (listed_entries (works naming book.rulings book.held)))
      (sym (filter-filter unsettled_row uncharged (entries records)))
      (rows_where naming book sound (status_of book) sound.priced each
      (unsettled naming book.rulings book.held)
      (λ bytes priced price. disputed_row bytes priced))

  -- the rows in dispute, in order, are theirs
  pub disputed_are : disputed_rows (tables_of naming book)
      ≡ listed_entries (flat naming book.rulings book.held
      (disputed naming book.rulings book.held))
  disputed_are =
      let ids : List (List ℕ) = disputed naming book.rulings book.held in
      let order = by_work naming book.rulings book.held in
      let those_works : List (List ℕ) = works naming book.rulings book.held in
      let all : List NamedRow = disputed_among (tables_of naming book) in
      let in_order : List (List ℕ) = members (set_of order those_works) in
      let own : listed_entries (flat naming book.rulings book.held ids)
      ≡ listed_entries in_order =
      ap listed_entries (flat_is naming book.rulings book.held (λ q there.
      disputed_is_uncharged naming book q sound there)) in
      let given = given_permuted order (entry naming book sound)
      (by_work_total naming book.rulings book.held) those_works
      (apart_from_distinct (eq_by_cmp order) those_works
      (works_distinct naming book.rulings book.held)) in
      let back = IsPermutation-sym all (listed_entries those_works) disputed_permuted in
      let same =
      IsPermutation-trans (listed_entries in_order) (listed_entries those_works) all given back in
      sym (rows_in_order (listed_entries (flat naming book.rulings book.held ids)) all
      (subst (λ xs. IsPermutation xs all) (sym own) same)
      (rows_rise (flat naming book.rulings book.held ids) (flat_listed ids)
      (flat_rises naming book.rulings book.held ids
      (disputed_rises naming book.rulings book.held))))

  -- the rows of records show them as the list of disputes does
  pub all_shown : AreFramed book.held → (ks : List (List ℕ)) → AreMembers book.held ks
      → map variant_read (listed_entries ks) ≡ filter_map (variant_of naming book.rulings) ks
  all_shown framed [] held = refl
  all_shown framed (k ∷ ks) held =
      let first = first_entry naming book sound (status_of book) sound.priced k ks held in
      let same = sym (framed k (first_held book.held k ks held)).is in
      let rest = all_shown framed ks (others_held book.held k ks held) in
      let variant : List ℕ → Priced → Variant = variant_with (name_of naming k) in
      ap (map variant_read) first.2
      ∙ (λ i. variant (same i) first.0 ∷ rest i)
      ∙ ap (λ price. cons_option (option_map (variant k) price)
      (filter_map (variant_of naming book.rulings) ks)) (sym first.1)
