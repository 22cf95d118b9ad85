-- Periods by the shares that they have in entries: which sets of records these are.
use Rattle.std.proofs.Common.{◌≡◌, ◌∙◌, ℕ, List, [], map, refl, sym, ap, subst, Bool, true, false}
use Rattle.std.proofs.Common.{not, ◌&&◌, ◌||◌, Option, Some, None, get_or, All, filter, sum_by, ℤ}
use Rattle.std.proofs.Common.{int_lt, filter_map, option_map}
use Rattle.std.specs.BTreeSet.{contains}
use Rattle.std.specs.Map.{keys_of}
use Rattle.std.proofs.Math.Bool.{and-true, not-not}
use Rattle.book_model.proofs.Std.{IsDistinct, IsStrictlySortedBy, option_map_or, nat_list_cmp_total}
use Rattle.book_model.proofs.Std.{nat_list_eq_equiv, All-filter, exact_bytes}
use Rattle.book_model.specs.Words.{Choice, Priced, is_chosen, is_undisputed, is_dated_through}
use Rattle.book_model.specs.Words.{is_withheld}
use Rattle.book_model.specs.Words.{is_dated_after, charged_by, identity_by, last_close, period_by}
use Rattle.book_model.specs.Words.{Records, Naming, by_bytes, same_bytes, rows_for, rows_of}
use Rattle.book_model.specs.Words.{Rulings, price_in, set_of, members, has, those, without}
use Rattle.book_model.proofs.Lemmas.{filter-agree, filter-map, filter-filter, list_any-map}
use Rattle.book_model.proofs.Lemmas.{filter_map-map, filter_map-defined, rows_of-alike, SumsAlike}
use Rattle.book_model.proofs.Lemmas.{filter_map-alike, same_bytes-by_cmp}
use Rattle.book_model.proofs.SetLemmas.{those-set_of, those-alike, has-texts}
use Rattle.plain_ledger.specs.declared.period_end.PeriodEnd.{PeriodEnd}
use Rattle.plain_ledger.specs.declared.treatment.Treatment.{Treatment}
use Rattle.plain_ledger.specs.Plain.{Entry, entry_identity, entry_records, held_in, AreBooked}
use Rattle.plain_ledger.specs.Plain.{is_alone, rulings_of}
use Rattle.plain_ledger.specs.Treatments.{treatment_of, is_counted, is_added, is_taken, charges}
use Rattle.plain_ledger.specs.Treatments.{treatment_at, records_where, period_with, IsPeriodEnd}
use Rattle.plain_ledger.specs.Treatments.{identity_at, is_choice, is_none}
use Rattle.plain_ledger.specs.Choices.{last_at, last_of}
use Rattle.plain_ledger.proofs.HeldLemmas.{bytes_of, records_differ, held-alike, each_priced}
use Rattle.plain_ledger.proofs.ChargedLemmas.{each_unrivalled}
use Rattle.plain_ledger.proofs.TariffLemmas.{each_dated}
use Rattle.plain_ledger.proofs.EntryLemmas.{any-filter, any_at_itself}
use Rattle.plain_ledger.proofs.DisputeLemmas.{shared-not_alone}

-- tests that agree on the entries choose the same records
pub where-agree : (p q : Entry → Bool) (entries : List Entry) → All (λ e. p e ≡ q e) entries
    → records_where p entries ≡ records_where q entries
where-agree p q entries agree =
    ap (λ chosen. set_of by_bytes (entry_records chosen)) (filter-agree p q entries agree)

-- those of all records that pass a test are the records of the entries with records that pass it
pub those-held : (p : List ℕ → Bool) (entries : List Entry)
    → those p (held_in entries) ≡ records_where (λ e. p (bytes_of e)) entries
those-held p entries =
    those-set_of nat_list_cmp_total exact_bytes p (entry_records entries)
    ∙ ap (set_of by_bytes) (filter-map p bytes_of entries)

-- the same of some of the records
pub those-where : (p : List ℕ → Bool) (q : Entry → Bool) (entries : List Entry)
    → those p (records_where q entries) ≡ records_where (λ e. p (bytes_of e) && q e) entries
those-where p q entries =
    those-set_of nat_list_cmp_total exact_bytes p (entry_records (filter q entries))
    ∙ ap (set_of by_bytes) (filter-map p bytes_of (filter q entries)
    ∙ ap (map bytes_of) (filter-filter (λ e. p (bytes_of e)) q entries))

-- shares that agree on the entries make one period
pub with-agree : (treatment other : Entry → Option Treatment) (entries : List Entry)
    → All (λ e. treatment e ≡ other e) entries → period_with treatment entries ≡ period_with other entries
with-agree treatment other entries agree =
    let each : (is : Option Treatment → Bool) → records_where (λ e. is (treatment e)) entries
    ≡ records_where (λ e. is (other e)) entries =
    λ is. where-agree (λ e. is (treatment e)) (λ e. is (other e)) entries
    (λ k d within. ap is (agree k d within)) in
    λ i. record { counted = each is_counted i; added = each is_added i; taken = each is_taken i }

-- what the shares are, by the tests
shares_are : (charged posted new : Bool)
    → (is_counted (treatment_of charged posted new) ≡ (new && charged))
    × (is_added (treatment_of charged posted new) ≡ (not new && (not posted && charged)))
    × (is_taken (treatment_of charged posted new) ≡ (not charged && posted))
shares_are true true true = (refl, refl, refl)
shares_are true true false = (refl, refl, refl)
shares_are true false true = (refl, refl, refl)
shares_are true false false = (refl, refl, refl)
shares_are false true true = (refl, refl, refl)
shares_are false true false = (refl, refl, refl)
shares_are false false true = (refl, refl, refl)
shares_are false false false = (refl, refl, refl)

module _ {naming : Naming} {rulings : Rulings} {entries : List Entry} {total : ℕ}
    (kept : AreBooked naming rulings entries total)
    (rising : IsStrictlySortedBy by_bytes (keys_of entries)) where
  -- an entry's record is among those that a test chooses where the entry passes it
  pub has-where : (p : Entry → Bool)
      → All (λ (entry : Entry). has (records_where p entries) (bytes_of entry) ≡ p entry) entries
  has-where p k d within =
      let entry = get_or entries k d in
      let same : List ℕ → List ℕ → Bool = same_bytes in
      let apart = subst (λ same. IsDistinct same (entry_records entries)) (sym same_bytes-by_cmp)
      (records_differ kept rising) in
      has-texts (entry_records (filter p entries)) (bytes_of entry)
      ∙ list_any-map (same (bytes_of entry)) bytes_of (filter p entries)
      ∙ any-filter p (λ (other : Entry). same (bytes_of entry) (bytes_of other)) entries
      ∙ any_at_itself nat_list_eq_equiv bytes_of p entries apart k d within

  -- at a period's end the rule of identity is the one in force
  identity-held : (through : Option ℤ) (period_end : PeriodEnd) → IsPeriodEnd entries rulings through period_end
      → (entry : Entry) → identity_at period_end entry.1 ≡ entry_identity rulings entry
  identity-held through period_end ends entry =
      ap (λ (adopted : Option ℕ). identity_by (rulings_of [] adopted) (bytes_of entry))
      ends.adopted

  -- an entry's record is the choice of its identity where it is chosen
  choice-held : (through : Option ℤ) (period_end : PeriodEnd) → IsPeriodEnd entries rulings through period_end
      → (entry : Entry) → is_choice period_end entry.1 ≡ is_chosen rulings (bytes_of entry)
  choice-held through period_end ends entry =
      let own = bytes_of entry in
      ap (λ chosen. option_map_or (same_bytes own) chosen false)
      (ends.chosen (identity_at period_end entry.1)
      ∙ ap (last_of rulings) (identity-held through period_end ends entry))

  -- its work counts for nothing where it is withheld
  none-held : (through : Option ℤ) (period_end : PeriodEnd) → IsPeriodEnd entries rulings through period_end
      → (entry : Entry) → is_none period_end entry.1 ≡ is_withheld rulings (bytes_of entry)
  none-held through period_end ends entry =
      ap (λ found. option_map_or not found false)
      (ends.counts (identity_at period_end entry.1)
      ∙ ap (λ identity. option_map (λ (choice : Choice). choice.counts) (last_at rulings identity))
      (identity-held through period_end ends entry))
      ∙ by_last (last_at rulings (entry_identity rulings entry))
    where
      by_last : (last : Option Choice)
          → option_map_or not (option_map (λ (choice : Choice). choice.counts) last) false
          ≡ option_map_or (λ (choice : Choice). not choice.counts) last false
      by_last None = refl
      by_last (Some choice) = refl

  -- its work is not withheld, and its identity is shared by no other, or it is the choice, where it
  -- is undisputed
  undisputed-held : (through : Option ℤ) (period_end : PeriodEnd) → IsPeriodEnd entries rulings through period_end
      → All (λ (entry : Entry).
      (not (is_none period_end entry.1)
      && (not (contains by_bytes period_end.shared (identity_at period_end entry.1))
      || is_choice period_end entry.1))
      ≡ is_undisputed rulings (held_in entries) (bytes_of entry)) entries
  undisputed-held through period_end ends k d within =
      let entry = get_or entries k d in
      let alone = ap (λ own. not (contains by_bytes period_end.shared own))
      (identity-held through period_end ends entry)
      ∙ ap not (ends.shared (entry_identity rulings entry)
      ∙ shared-not_alone rulings entries k d within)
      ∙ not-not (is_alone rulings entries entry)
      ∙ sym (each_unrivalled kept rising k d within) in
      λ i. not (none-held through period_end ends entry i)
      && (alone i || choice-held through period_end ends entry i)

  -- the entries that are charged at the end of a period are the records that the definitions charge
  pub charged-ends : (through : Option ℤ) (period_end : PeriodEnd)
      → IsPeriodEnd entries rulings through period_end
      → records_where (λ e. charges period_end e.1) entries
      ≡ charged_by rulings through (held_in entries)
  charged-ends None period_end ends =
      where-agree _ _ entries (λ k d within.
      let entry = get_or entries k d in
      (λ i. undisputed-held None period_end ends k d within i
      && option_map_or (λ day. not (int_lt day entry.1.priced.day)) (ends.through i) true)
      ∙ and-true (is_undisputed rulings (held_in entries) (bytes_of entry)))
      ∙ sym (those-held (is_undisputed rulings (held_in entries)) entries)
  charged-ends (Some day) period_end ends =
      where-agree _ _ entries (λ k d within.
      let entry = get_or entries k d in
      (λ i. undisputed-held (Some day) period_end ends k d within i
      && option_map_or (λ day. not (int_lt day entry.1.priced.day)) (ends.through i) true)
      ∙ (λ i. is_undisputed rulings (held_in entries) (bytes_of entry)
      && not (int_lt day (each_dated kept k d within i))))
      ∙ sym (those-held (λ bytes. is_undisputed rulings (held_in entries) bytes
      && is_dated_through day bytes) entries)

  -- a period that ends has the records so that the definition says, where the entries that were
  -- charged at the close before are those that pass a test
  module _ (posted : Entry → Bool) (through : Option ℤ) (period_end : PeriodEnd)
      (ends : IsPeriodEnd entries rulings through period_end) where
    abbrev last : Option ℤ
    last = last_close rulings

    abbrev charged : Entry → Bool
    charged e = charges period_end e.1

    abbrev new_entry : Entry → Bool
    new_entry e = option_map_or (λ day. int_lt day e.1.priced.day) period_end.last true

    abbrev treatment : Entry → Option Treatment
    treatment e = treatment_at period_end (posted e) e.1

    -- an entry is dated after the close before where its record is
    new-held : All (λ (entry : Entry). new_entry entry ≡ is_dated_after last (bytes_of entry))
        entries
    new-held k d within =
        let entry = get_or entries k d in
        ap (λ (close : Option ℤ). option_map_or (λ day. int_lt day entry.1.priced.day) close true)
        ends.last
        ∙ dated last k d within
      where
        dated : (close : Option ℤ)
            → All (λ (entry : Entry).
            option_map_or (λ day. int_lt day entry.1.priced.day) close true
            ≡ is_dated_after close (bytes_of entry)) entries
        dated None k d within = refl
        dated (Some day) k d within = ap (int_lt day) (each_dated kept k d within)

    counted-ends : records_where (λ e. is_counted (treatment e)) entries
        ≡ those (is_dated_after last) (records_where charged entries)
    counted-ends =
        where-agree _ (λ e. is_dated_after last (bytes_of e) && charged e) entries
        (λ k d within.
        let entry = get_or entries k d in
        (shares_are (charged entry) (posted entry) (new_entry entry)).0
        ∙ ap (λ b. b && charged entry) (new-held k d within))
        ∙ sym (those-where (is_dated_after last) charged entries)

    abbrev before : Records
    before = records_where posted entries

    added-ends : records_where (λ e. is_added (treatment e)) entries
        ≡ those (λ bytes. not (is_dated_after last bytes))
        (without (records_where charged entries) before)
    added-ends =
        where-agree _ (λ e. not (is_dated_after last (bytes_of e))
        && (not (has before (bytes_of e)) && charged e)) entries
        (λ k d within.
        let entry = get_or entries k d in
        (shares_are (charged entry) (posted entry) (new_entry entry)).1
        ∙ (λ i. not (new-held k d within i)
        && (not (sym (has-where posted k d within) i) && charged entry)))
        ∙ sym (those-where (λ bytes. not (is_dated_after last bytes))
        (λ e. not (has before (bytes_of e)) && charged e) entries)
        ∙ ap (those (λ bytes. not (is_dated_after last bytes)))
        (sym (those-where (λ bytes. not (has before bytes)) charged entries))

    taken-ends : records_where (λ e. is_taken (treatment e)) entries
        ≡ without before (records_where charged entries)
    taken-ends =
        let now : Records = records_where charged entries in
        where-agree _ (λ e. not (has now (bytes_of e)) && posted e) entries
        (λ k d within.
        let entry = get_or entries k d in
        (shares_are (charged entry) (posted entry) (new_entry entry)).2
        ∙ ap (λ b. not b && posted entry) (sym (has-where charged k d within)))
        ∙ sym (those-where (λ bytes. not (has now bytes)) posted entries)

    pub period-ends : period_with treatment entries
        ≡ period_by last before (charged_by rulings through (held_in entries))
    period-ends =
        (λ i. record {
          counted = counted-ends i;
          added = added-ends i;
          taken = taken-ends i;
        })
        ∙ ap (period_by last before) (charged-ends through period_end ends)

  -- what the records of some entries cost is what the entries say
  prices-listed : (p : Entry → Bool)
      → filter_map (price_in rulings) (map bytes_of (filter p entries))
      ≡ map (λ entry. entry.1.priced) (filter p entries)
  prices-listed p =
      let price : List ℕ → Option Priced = price_in rulings in
      let priced : Entry → Priced = λ entry. entry.1.priced in
      let own : Entry → Option Priced = λ entry. price (bytes_of entry) in
      let IsPriced : Entry → Type 0 = λ entry. own entry ≡ Some (priced entry) in
      let each = All-filter p IsPriced entries (each_priced kept) in
      filter_map-map price bytes_of (filter p entries)
      ∙ filter_map-defined own priced (filter p entries) each

  -- the records that a test chooses are the chosen ones in some order
  pub where-alike : (p : Entry → Bool)
      → SumsAlike (members (records_where p entries)) (map bytes_of (filter p entries))
  where-alike p =
      let chosen : List ℕ → Bool = has (records_where p entries) in
      let agree = has-where p in
      let set : those chosen (held_in entries) ≡ records_where p entries =
      those-held chosen entries ∙ where-agree (λ e. chosen (bytes_of e)) p entries agree in
      let listed : filter chosen (entry_records entries) ≡ map bytes_of (filter p entries) =
      filter-map chosen bytes_of entries
      ∙ ap (map bytes_of) (filter-agree (λ e. chosen (bytes_of e)) p entries agree) in
      let alike = those-alike nat_list_cmp_total exact_bytes chosen (held_in entries)
      (held-alike kept rising) in
      record {
        sums = λ f.
            ap (λ records. sum_by f (members records)) (sym set)
            ∙ alike.sums f ∙ ap (sum_by f) listed;
      }

  -- so their rows are those of what the entries cost
  pub rows_for-where : (p : Entry → Bool)
      → rows_for rulings (records_where p entries)
      ≡ rows_of (map (λ entry. entry.1.priced) (filter p entries))
  rows_for-where p =
      rows_of-alike (filter_map-alike (price_in rulings) (where-alike p))
      ∙ ap rows_of (prices-listed p)
