-- The names of the records that are held are those of the entries, in their order.
use Rattle.std.proofs.Common.{◌≡◌, ◌∙◌, ℕ, All, Bool, List, [], ◌∷◌, Option, Some, ap, cond, false}
use Rattle.std.proofs.Common.{find, get_or, map, option_map, refl, sym, true}
use Rattle.std.specs.List.Sorted.{IsStrictlySortedBy}
use Rattle.std.specs.Map.{keys_of}
use Rattle.book_model.proofs.Std.{All-head, All-tail, exact_bytes, map-map}
use Rattle.book_model.proofs.Std.{nat_list_cmp_total, option_map_or}
use Rattle.book_model.specs.declared.entry.Arrival.{Arrival}
use Rattle.book_model.specs.Journal.{came_by}
use Rattle.book_model.specs.Words.{Book, Naming, Rulings, arrival_at, arrival_from, arrivals, by_bytes}
use Rattle.book_model.specs.Words.{is_from, members, name_of, names_of, record_named, set_of}
use Rattle.book_model.proofs.FromLemmas.{find-map}
use Rattle.book_model.proofs.Lemmas.{map-alike, set_of-alike}
use Rattle.book_model.proofs.SetLemmas.{members-set_of}
use Rattle.plain_ledger.specs.declared.made_entries.MadeEntry.{MadeEntry}
use Rattle.plain_ledger.specs.LedgerBook.{with_entries}
use Rattle.plain_ledger.specs.MadeEntries.{arrival_made, entries_made}
use Rattle.plain_ledger.specs.Plain.{AreBooked, Entry, held_in}
use Rattle.plain_ledger.proofs.ChosenLemmas.{named-found}
use Rattle.plain_ledger.proofs.HeldLemmas.{held-alike}
use Rattle.plain_ledger.proofs.NameLemmas.{own_name}

-- what is said of all of a list is said of what is found in it
found_is : {X : Type 0} (f g : Entry → X) (keep : Entry → Bool) (list : List Entry)
    → All (λ (entry : Entry). f entry ≡ g entry) list
    → option_map f (find keep list) ≡ option_map g (find keep list)
found_is f g keep [] same = refl
found_is f g keep (first ∷ list) same =
    elim (keep first) as (λ b. option_map f (cond b (Some first) (find keep list))
    ≡ option_map g (cond b (Some first) (find keep list))) [
      | true ↦ ap Some (All-head (λ (entry : Entry). f entry ≡ g entry) first list same)
      | false ↦ found_is f g keep list (All-tail (λ (entry : Entry). f entry ≡ g entry) first list same)
    ]

module _ {naming : Naming} {rulings : Rulings} {entries : List Entry} {total : ℕ}
    (kept : AreBooked naming rulings entries total)
    (rising : IsStrictlySortedBy by_bytes (keys_of entries)) where
  -- the names
  names_are : names_of naming (held_in entries) ≡ keys_of entries
  names_are =
      ap members (set_of-alike nat_list_cmp_total exact_bytes
      (map-alike (name_of naming) (held-alike kept rising)))
      ∙ ap (λ names. members (set_of by_bytes names)) (sym kept.named)
      ∙ members-set_of nat_list_cmp_total (keys_of entries) rising

  module _ (book : Book) (holds : book.held ≡ held_in entries) (made : List MadeEntry) where
    abbrev noted : Book
    noted = with_entries book (entries_made made)

    -- each entry with its number
    each_came : All (λ (entry : Entry).
        arrival_at naming noted entry.0 ≡ arrival_made made entry) entries
    each_came k d within =
        let entry : Entry = get_or entries k d in
        let named = named-found kept rising entry.0 entry.1
        (own_name entries rising k d within) in
        ap {B = Arrival} (λ (found : Option (List ℕ)). record {
          name = entry.0;
          entry = option_map_or (came_by (entries_made made)) found 0;
        })
        (ap (λ held. record_named naming held entry.0) holds ∙ named)

    -- what is found among the entries
    pub arrival_is : (from : List ℕ)
        → option_map (arrival_made made) (find (λ (entry : Entry). is_from from entry.0) entries)
        ≡ arrival_from from (arrivals naming noted)
    arrival_is from =
        sym (found_is (λ (entry : Entry). arrival_at naming noted entry.0) (arrival_made made)
        (λ (entry : Entry). is_from from entry.0) entries each_came)
        ∙ sym (find-map (λ (entry : Entry). arrival_at naming noted entry.0)
        (λ (arrival : Arrival). is_from from arrival.name) entries)
        ∙ ap (find (λ (arrival : Arrival). is_from from arrival.name))
        (sym (map-map (arrival_at naming noted) (λ (entry : Entry). entry.0) entries)
        ∙ ap (map (arrival_at naming noted)) (sym (ap (names_of naming) holds ∙ names_are)))
