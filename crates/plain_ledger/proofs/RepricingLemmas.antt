-- The records that are held, each at a new price: nothing else of them changes.
use Rattle.std.proofs.Common.{◌≡◌, ◌∙◌, ℕ, List, [], ◌∷◌, refl, sym, ap, subst, map, Bool, true}
use Rattle.std.proofs.Common.{false, cond, Option, Some, None, is_some, true≢false, filter, nat_lt}
use Rattle.std.specs.BTreeMap.{get, is_at}
use Rattle.std.specs.BTreeSet.{contains}
use Rattle.std.specs.Map.Calls.{RetainsPairs}
use Rattle.std.proofs.lemmas.Map.Made.{is_some-lookup}
use Rattle.book_model.proofs.Std.{list_any, map-map}
use Rattle.book_model.specs.Words.{Priced, Rulings, most_cost, by_bytes, set_of}
use Rattle.book_model.proofs.Lemmas.{filter-map}
use Rattle.plain_ledger.specs.declared.treatment.ClosedPeriod.{ClosedPeriod}
use Rattle.plain_ledger.specs.declared.held.HeldRecord.{HeldRecord}
use Rattle.plain_ledger.specs.Plain.{Entry, entry_records, held_in, record_of}
use Rattle.plain_ledger.specs.PlainBook.{book_with}
use Rattle.plain_ledger.specs.Repricing.{AreRepriced, unpriced}
use Rattle.book_core.specs.Words.{if_room}
use Rattle.plain_ledger.specs.Treatments.{Names, AreNamed, is_counted, is_added, is_taken}
use Rattle.plain_ledger.specs.Treatments.{has_name_in, period_with, records_where, treatment_closed}
use Rattle.plain_ledger.specs.Treatments.{under_name}

-- a call on a record that answers `true`, and leaves the record at its new price
pub record Reprices (price : HeldRecord → Priced) (old new : HeldRecord) (answer : Bool)
    : Type 0 where
  pub answers : answer ≡ true
  pub bytes : record_of new ≡ record_of old
  pub priced : new.priced ≡ price old

-- such calls on each entry, one after the other
pub retain-reprices : {F : Type 0} (T : F → List ℕ → HeldRecord → Bool → HeldRecord → F → Type 0)
    (price : HeldRecord → Priced) (f : F)
    → ((name : List ℕ) (old : HeldRecord) (answer : Bool) (new : HeldRecord) (next : F)
    → T f name old answer new next → Reprices price old new answer × (next ≡ f))
    → (entries anew : List Entry) → RetainsPairs T f entries anew
    → AreRepriced price entries anew
retain-reprices T price f each [] anew is = record {
  same = ap (map unpriced) is;
  priced = ap (map (λ (entry : Entry). entry.1.priced)) is;
}
retain-reprices {F} T price f each (entry ∷ entries) anew is =
    let one = each entry.0 entry.1 is.0 is.1 is.2 is.4 in
    let call : Reprices price entry.1 is.1 is.0 = one.0 in
    let rest = retain-reprices T price f each entries is.3
    (subst (λ (next : F). RetainsPairs T next entries is.3) one.1 is.5) in
    let all : anew ≡ (entry.0, is.1) ∷ is.3 =
    is.6 ∙ ap (λ b. cond b ((entry.0, is.1) ∷ is.3) is.3) call.answers in
    record {
      same = ap (map unpriced) all ∙ (λ i. (entry.0, call.bytes i) ∷ rest.same i);
      priced = ap (map (λ (entry : Entry). entry.1.priced)) all
          ∙ (λ i. call.priced i ∷ rest.priced i);
    }

-- what is found nowhere is none
none_found : {X : Type 0} (found other : Option X) → is_some found ≡ is_some other
    → other ≡ None → found ≡ None
none_found None other same none = refl
none_found (Some x) other same none = absurd (true≢false (same ∙ ap is_some none))

module _ {price : HeldRecord → Priced} {entries anew : List Entry}
    (is : AreRepriced price entries anew) where
  -- the names stay
  pub names_stay : map (λ (entry : Entry). entry.0) anew ≡ map (λ (entry : Entry). entry.0) entries
  names_stay =
      let name : List ℕ × List ℕ → List ℕ = λ pair. pair.0 in
      sym (map-map name unpriced anew) ∙ ap (map name) is.same ∙ map-map name unpriced entries

  -- and so do the records
  pub records_stay : entry_records anew ≡ entry_records entries
  records_stay =
      let own : List ℕ × List ℕ → List ℕ = λ pair. pair.1 in
      sym (map-map own unpriced anew) ∙ ap (map own) is.same ∙ map-map own unpriced entries

  pub held_stay : held_in anew ≡ held_in entries
  held_stay = ap (set_of by_bytes) records_stay

  -- the same of those that a test of the name chooses
  pub where_stay : (test : List ℕ → Bool)
      → records_where (λ entry. test entry.0) anew ≡ records_where (λ entry. test entry.0) entries
  where_stay test =
      let own : List ℕ × List ℕ → List ℕ = λ pair. pair.1 in
      let passes : List ℕ × List ℕ → Bool = λ pair. test pair.0 in
      let chosen : (all : List Entry) → entry_records (filter (λ entry. test entry.0) all)
      ≡ map own (filter passes (map unpriced all)) =
      λ all. sym (map-map own unpriced (filter (λ (entry : Entry). test entry.0) all))
      ∙ ap (map own) (sym (filter-map passes unpriced all)) in
      ap (set_of by_bytes)
      (chosen anew ∙ ap (λ pairs. map own (filter passes pairs)) is.same ∙ sym (chosen entries))

  -- what was charged at the last close stays
  pub posted_stay : (posted : Names) → records_where (has_name_in posted) anew
      ≡ records_where (has_name_in posted) entries
  posted_stay posted = where_stay (contains by_bytes posted)

  -- and so do closed periods
  pub past_stay : (closed : List ClosedPeriod)
      → map (λ period. period_with (treatment_closed period) anew) closed
      ≡ map (λ period. period_with (treatment_closed period) entries) closed
  past_stay closed =
      let each : (period : ClosedPeriod) → period_with (treatment_closed period) anew
      ≡ period_with (treatment_closed period) entries =
      λ period i. record {
        counted = where_stay (λ name. is_counted (get by_bytes period.treatments name)) i;
        added = where_stay (λ name. is_added (get by_bytes period.treatments name)) i;
        taken = where_stay (λ name. is_taken (get by_bytes period.treatments name)) i;
      } in
      λ i. map (λ period. each period i) closed

  -- so the book changes only in what its records cost
  pub book_stays : (rulings : Rulings) (posted : Names) (closed : List ClosedPeriod)
      → book_with rulings anew posted closed ≡ book_with rulings entries posted closed
  book_stays rulings posted closed = λ i. record {
    rulings = rulings;
    held = held_stay i;
    posted = posted_stay posted i;
    past = past_stay closed i;
    journal = [];
  }

  -- nobody has a share who is not held
  pub still_named-anew : (posted : Names) (closed : List ClosedPeriod)
      → AreNamed entries posted closed → AreNamed anew posted closed
  still_named-anew posted closed named =
      let was_missing : (name : List ℕ) → under_name name anew ≡ None
      → under_name name entries ≡ None =
      λ name none. none_found (under_name name entries) (under_name name anew)
      (is_some-lookup (is_at (by_bytes name)) entries
      ∙ ap (list_any (is_at (by_bytes name))) (sym names_stay)
      ∙ sym (is_some-lookup (is_at (by_bytes name)) anew)) none in
      record {
        posted = λ name none. named.posted name (was_missing name none);
        past = λ k d within name none. named.past k d within name (was_missing name none);
      }

-- there is no room for a cost that passes the limit
pub no_room : (cost : ℕ) → if_room cost ≡ None → nat_lt most_cost cost ≡ true
no_room cost none =
    elim (nat_lt most_cost cost) as (λ b. cond b None (Some cost) ≡ None → b ≡ true) [
      | true ↦ λ none. refl
      | false ↦ λ none. cc
    ] none

-- where there is, it is that cost
pub has_room : (cost found : ℕ) → if_room cost ≡ Some found
    → (found ≡ cost) × (nat_lt most_cost cost ≡ false)
has_room cost found is =
    elim (nat_lt most_cost cost) as (λ b. cond b None (Some cost) ≡ Some found
    → (found ≡ cost) × (b ≡ false)) [
      | true ↦ λ is. cc
      | false ↦ λ is. (cc, refl)
    ] is
