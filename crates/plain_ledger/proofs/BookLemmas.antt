-- The book of a plain ledger: a period of it by its number, and what a close and a record change.
use Rattle.std.proofs.Common.{◌≡◌, ◌∙◌, ℕ, ◌+◌, ◌-◌, ◌≤◌, List, [], ◌∷◌, ◌++◌, length, map, refl}
use Rattle.std.proofs.Common.{sym, ap, Bool, true, false, Option, Some, None, slice_get, arith, inl}
use Rattle.std.proofs.Common.{inr, Result, Ok, Err, ◌==◌, ℤ, if◌then◌else◌, ok_or, option_map}
use Rattle.std.specs.BTreeMap.{insert_entry}
use Rattle.std.specs.Map.{keys_of}
use Rattle.std.proofs.lemmas.Option.{slice_get-map, slice_get_cases}
use Rattle.book_model.proofs.Std.{IsStrictlySortedBy, nat_tests, map-append, slice_get_past}
use Rattle.book_model.specs.declared.fault.LedgerFault.{LedgerFault}
use Rattle.book_model.specs.declared.fault.LedgerFault.TheVariants.{NoSuchPeriod}
use Rattle.book_model.specs.Words.{Book, open_number, open_period, period_of, keep, close, Period}
use Rattle.book_model.specs.Words.{Naming, by_bytes, Rulings, are_rising, price_under, with_close}
use Rattle.plain_ledger.specs.declared.treatment.ClosedPeriod.{ClosedPeriod}
use Rattle.plain_ledger.specs.declared.period_end.PeriodEnd.{PeriodEnd}
use Rattle.plain_ledger.specs.declared.held.HeldRecord.{HeldRecord}
use Rattle.plain_ledger.specs.declared.treatment.Treatment.{Treatment}
use Rattle.plain_ledger.specs.Plain.{Entry, entry_records, held_in, record_of, AreBooked}
use Rattle.plain_ledger.specs.PlainBook.{book_with}
use Rattle.plain_ledger.specs.Treatments.{Names, NamesOf, TreatmentsOf, AreNamed, IsPeriodEnd}
use Rattle.plain_ledger.specs.Treatments.{under_name, charges, has_name_in, period_with}
use Rattle.plain_ledger.specs.Treatments.{treatment_at, treatment_closed}
use Rattle.plain_ledger.proofs.HeldLemmas.{held_in-more}
use Rattle.plain_ledger.proofs.NameLemmas.{each_named_by, each_shared_by, posted-kept, past-kept}
use Rattle.plain_ledger.proofs.TreatmentLemmas.{where-agree, with-agree, charged-ends, period-ends}

-- what is read of a period, where there is one
pub read_of : {P A : Type 0} (read : P → A) (found : Option P) (period : P)
    → ok_or found NoSuchPeriod ≡ Ok period
    → ok_or (option_map read found) NoSuchPeriod ≡ Ok (read period)
read_of read None period is = cc
read_of read (Some one) period is =
    ap (λ (got : Result _ LedgerFault). Ok (read (unwrap_ok got one))) is
  where
    unwrap_ok : {P : Type 0} → Result P LedgerFault → P → P
    unwrap_ok (Ok one) other = one
    unwrap_ok (Err fault) other = other

-- by the tests of its number, a period is the open one, or is among those that are closed
period_by_tests : (book : Book) (number : ℕ) (none next : Bool)
    → (number == 0) ≡ none → (number == open_number book) ≡ next
    → period_of book number
    ≡ (if none then None else if next then Some (open_period book)
    else slice_get book.past (number - 1))
period_by_tests book number none next is_none is_next =
    λ i. if is_none i then None else if is_next i then Some (open_period book)
    else slice_get book.past (number - 1)

-- a period's number
not_none : (number : ℕ) → 1 ≤ number → (number == 0) ≡ false
not_none number some = grind (arith, nat_tests)

-- a number is not the next one where something is there
not_next : {X : Type 0} (xs : List X) (number : ℕ) (x : X) → slice_get xs (number - 1) ≡ Some x
    → (number == length xs + 1) ≡ false
not_next xs number x found =
    elim (number == length xs + 1) as (λ b. (number == length xs + 1) ≡ b → b ≡ false) [
      | true ↦ λ same.
          let next : length xs ≤ number - 1 = grind (arith, nat_tests) in
          cc_none (slice_get xs (number - 1)) x (slice_get_past xs (number - 1) next) found
      | false ↦ λ other. refl
    ] refl
  where
    cc_none : {X : Type 0} {P : Type 0} (got : Option X) (x : X) → got ≡ None → got ≡ Some x → P
    cc_none None x none some = cc
    cc_none (Some y) x none some = cc

-- it is where nothing does
is_next : {X : Type 0} (xs : List X) (number : ℕ) → 1 ≤ number
    → number ≤ length xs + 1 → slice_get xs (number - 1) ≡ None → (number == length xs + 1) ≡ true
is_next {X} xs number some most none =
    elim (slice_get_cases xs (number - 1)).1 [
      | inl found ↦ never (slice_get xs (number - 1)) found.0 none found.2
      | inr past ↦
          let behind = past.0 in
          grind (arith, nat_tests)
    ]
  where
    never : {P : Type 0} (got : Option X) (x : X) → got ≡ None → got ≡ Some x → P
    never None x none some = cc
    never (Some y) x none some = cc

-- a period that is closed, by its number
pub period_of-closed : (rulings : Rulings) (entries : List Entry) (posted : Names)
    (closed : List ClosedPeriod) (number : ℕ) (one : ClosedPeriod)
    → length closed ≡ length rulings.closes
    → 1 ≤ number → slice_get closed (number - 1) ≡ Some one
    → period_of (book_with rulings entries posted closed) number
    ≡ Some (period_with (treatment_closed one) entries)
period_of-closed rulings entries posted closed number one counted some found =
    let read : ClosedPeriod → Period = λ period. period_with (treatment_closed period) entries in
    period_by_tests (book_with rulings entries posted closed) number false false
    (not_none number some)
    (ap (λ n. number == n + 1) (sym counted) ∙ not_next closed number one found)
    ∙ slice_get-map read closed (number - 1)
    ∙ ap (option_map read) found

module _ {naming : Naming} {rulings : Rulings} {entries : List Entry} {total : ℕ}
    (kept : AreBooked naming rulings entries total)
    (rising : IsStrictlySortedBy by_bytes (keys_of entries)) (posted : Names)
    (closed : List ClosedPeriod) (period_end : PeriodEnd) where
  -- the open period, by its number
  pub period_of-open : (number : ℕ) → IsPeriodEnd entries rulings None period_end
      → length closed ≡ length rulings.closes
      → 1 ≤ number → number ≤ length closed + 1 → slice_get closed (number - 1) ≡ None
      → period_of (book_with rulings entries posted closed) number
      ≡ Some (period_with (λ entry. treatment_at period_end (has_name_in posted entry) entry.1) entries)
  period_of-open number ends counted some most none =
      period_by_tests (book_with rulings entries posted closed) number false true
      (not_none number some)
      (ap (λ n. number == n + 1) (sym counted) ∙ is_next closed number some most none)
      ∙ ap Some (sym (period-ends kept rising (has_name_in posted) None period_end ends))

  -- the book after a close, by the names of the records that it charges and the shares that the
  -- period has
  pub book-closed : (ruled : Rulings) (after : Names) (one : ClosedPeriod) (all : List ClosedPeriod)
      (day : ℤ) → ruled ≡ with_close day rulings → all ≡ closed ++ one ∷ []
      → IsPeriodEnd entries rulings (Some day) period_end
      → NamesOf (λ entry. charges period_end entry.1) entries after
      → TreatmentsOf (λ entry. treatment_at period_end (has_name_in posted entry) entry.1) entries one.treatments
      → book_with ruled entries after all ≡ close day (book_with rulings entries posted closed)
  book-closed ruled after one all day is_ruled is_all ends names treatments =
      let charges_it : Entry → Bool = λ entry. charges period_end entry.1 in
      let treatment : Entry → Option Treatment =
      λ entry. treatment_at period_end (has_name_in posted entry) entry.1 in
      let read : ClosedPeriod → Period = λ period. period_with (treatment_closed period) entries in
      let now = where-agree (has_name_in after) charges_it entries
      (each_named_by entries rising charges_it after names)
      ∙ charged-ends kept rising (Some day) period_end ends in
      let ended = with-agree (treatment_closed one) treatment entries
      (each_shared_by entries rising treatment one.treatments treatments)
      ∙ period-ends kept rising (has_name_in posted) (Some day) period_end ends in
      let past = map-append read closed (one ∷ [])
      ∙ ap (λ period. map read closed ++ period ∷ []) ended in
      (λ i. book_with (is_ruled i) entries after (is_all i))
      ∙ (λ i. record {
        rulings = with_close day rulings;
        held = held_in entries;
        posted = now i;
        past = past i;
        journal = [];
      })

-- no close changes how the entries are kept, no choice does, and no adoption
pub kept_ruled : {naming : Naming} {rulings : Rulings} {entries : List Entry} {total : ℕ}
    (after : Rulings) → after.tariffs ≡ rulings.tariffs → AreBooked naming rulings entries total
    → AreBooked naming after entries total
kept_ruled {rulings = rulings} {entries = entries} after same kept = record {
  named = kept.named;
  priced = kept.priced
      ∙ ap (λ tariffs. map (price_under tariffs) (entry_records entries)) (sym same);
  summed = kept.summed;
  small = kept.small;
  few = kept.few;
  in_order = ap are_rising same ∙ kept.in_order;
}

-- the book with one entry more, under a name that none has
pub book-kept : (rulings : Rulings) (entries : List Entry) (posted : Names)
    (closed : List ClosedPeriod) (name : List ℕ) (h : HeldRecord)
    → under_name name entries ≡ None → AreNamed entries posted closed
    → book_with rulings (insert_entry by_bytes entries name h) posted closed
    ≡ keep (record_of h) (book_with rulings entries posted closed)
book-kept rulings entries posted closed name h missing named =
    let held = held_in-more entries name h missing in
    let stays = posted-kept entries name h missing posted closed named in
    let past = past-kept entries name h missing posted closed named in
    λ i. record {
      rulings = rulings;
      held = held i;
      posted = stays i;
      past = past i;
      journal = [];
    }
