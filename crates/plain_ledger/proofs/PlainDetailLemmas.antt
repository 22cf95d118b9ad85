-- The details of the entries of a plain ledger.
use Rattle.std.proofs.Common.{◌≡◌, ◌∙◌, ℕ, List, [], ◌∷◌, map, sym, ap, subst, Bool, true, false}
use Rattle.std.proofs.Common.{cond, Option, Some, get_or, All, filter, find, filter_map}
use Rattle.std.proofs.Common.{IsPermutation, option_map}
use Rattle.std.specs.Map.{keys_of}
use Rattle.std.proofs.lemmas.List.Sorted.{All-permutation}
use Rattle.book_model.proofs.Std.{IsDistinct, IsStrictlySortedBy, eq_by_cmp, nat_list_cmp_total}
use Rattle.book_model.proofs.Std.{All-filter, All-head, All-map, All-tail, IsPermutation-sym}
use Rattle.book_model.proofs.Std.{IsDistinct-from_sorted, map-map}
use Rattle.book_model.specs.declared.detail.Detail.{Detail}
use Rattle.book_model.specs.Words.{IsDay, Naming, Rulings, ShowsDetail, by_bytes, by_detail}
use Rattle.book_model.specs.Words.{detail_by, detail_of, details_for, members, same_bytes, set_of}
use Rattle.book_model.proofs.DetailLemmas.{distinct_details}
use Rattle.book_model.proofs.Lemmas.{by_detail_total, filter_map-map, filter_map-defined}
use Rattle.book_model.proofs.Lemmas.{apart_from_distinct, given_permuted, members_reordered}
use Rattle.book_model.proofs.Lemmas.{same_bytes-by_cmp}
use Rattle.book_model.proofs.PermutedSets.{IsDistinct-map_filter, members_of_distinct}
use Rattle.plain_ledger.specs.Plain.{AreBooked, Entry, entry_records}
use Rattle.plain_ledger.specs.PlainDetails.{detail_at}
use Rattle.plain_ledger.specs.Treatments.{records_where}
use Rattle.plain_ledger.proofs.HeldLemmas.{bytes_of, each_named, each_priced, records_differ}

-- of details that are dated on days one that is found is
pub found_dated : (p : Detail → Bool) (details : List Detail)
    → All (λ detail. IsDay detail.priced.day) details → ShowsDetail (find p details)
found_dated p [] dated = tt
found_dated p (detail ∷ details) dated =
    elim (p detail) as (λ b. ShowsDetail (cond b (Some detail) (find p details))) [
      | true ↦ All-head (λ detail. IsDay detail.priced.day) detail details dated
      | false ↦ found_dated p details
          (All-tail (λ detail. IsDay detail.priced.day) detail details dated)
    ]

module _ {naming : Naming} {rulings : Rulings} {entries : List Entry} {total : ℕ}
    (kept : AreBooked naming rulings entries total)
    (rising : IsStrictlySortedBy by_bytes (keys_of entries)) where
  -- the detail of an entry's record is that of the entry
  each_detail :
      All (λ (entry : Entry). detail_of naming rulings (bytes_of entry) ≡ Some (detail_at entry))
      entries
  each_detail k d within =
      let entry = get_or entries k d in
      ap (option_map (detail_by naming (bytes_of entry))) (each_priced kept k d within)
      ∙ ap (λ (name : List ℕ). Some (record (detail_at entry) { name = name }))
      (sym (each_named kept k d within))

  module _ (p : Entry → Bool) where
    -- the details of the entries that pass a test
    abbrev pub own_details : List Detail
    own_details = map detail_at (filter p entries)

    -- have different names,
    pub names_apart : IsDistinct same_bytes (map (λ (detail : Detail). detail.name) own_details)
    names_apart =
        subst (IsDistinct same_bytes)
        (sym (map-map (λ (detail : Detail). detail.name) detail_at (filter p entries)))
        (IsDistinct-map_filter (λ (entry : Entry). entry.0) p same_bytes entries
        (subst (λ same. IsDistinct same (keys_of entries)) (sym same_bytes-by_cmp)
        (IsDistinct-from_sorted by_bytes (keys_of entries) rising)))

    -- are those of their set of records, in another order,
    given : IsPermutation
        (filter_map (detail_of naming rulings) (members (records_where p entries))) own_details
    given =
        let chosen : List Entry = filter p entries in
        let give : List ℕ → Option Detail = detail_of naming rulings in
        let own : Entry → Option Detail = λ entry. give (bytes_of entry) in
        let IsDetail : Entry → Type 0 = λ entry. own entry ≡ Some (detail_at entry) in
        let apart =
        IsDistinct-map_filter bytes_of p (eq_by_cmp by_bytes) entries (records_differ kept rising) in
        subst (IsPermutation (filter_map give (members (records_where p entries))))
        (filter_map-map give bytes_of chosen
        ∙ filter_map-defined own detail_at chosen (All-filter p IsDetail entries each_detail))
        (given_permuted by_bytes give nat_list_cmp_total (entry_records chosen)
        (apart_from_distinct (eq_by_cmp by_bytes) (entry_records chosen) apart))

    -- and in order they are its details
    pub details_for-where : details_for naming rulings (records_where p entries)
        ≡ members (set_of by_detail own_details)
    details_for-where =
        members_reordered by_detail_total
        (filter_map (detail_of naming rulings) (members (records_where p entries))) own_details given
        (distinct_details own_details names_apart)

    -- which are dated on days
    pub all_dated : All (λ detail. IsDay detail.priced.day) (members (set_of by_detail own_details))
    all_dated =
        let sorted : List Detail = members (set_of by_detail own_details) in
        All-permutation (λ detail. IsDay detail.priced.day) own_details sorted
        (IsPermutation-sym sorted own_details
        (members_of_distinct by_detail_total own_details (distinct_details own_details names_apart)))
        (All-map (λ (detail : Detail). IsDay detail.priced.day) detail_at (filter p entries)
        (λ k d within. (get_or (filter p entries) k d).1.priced_is.day))
