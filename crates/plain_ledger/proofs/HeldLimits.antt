-- What a plain ledger returns can be shown: its days are days, and its sums fit 64 bits.
use Rattle.std.proofs.Common.{◌≡◌, ◌∙◌, ℕ, ◌+◌, ◌≤◌, List, length, refl, sym, ap, Bool, not, map}
use Rattle.std.proofs.Common.{arith, get_or, inl, inr, ◌⊎◌, Option, Some, None, filter, sum_by, All}
use Rattle.book_model.proofs.Std.{nat_list_cmp_total, length-map, All-map, sum_by-filter_both}
use Rattle.book_model.proofs.Std.{length-filter_both, fold-map, exact_bytes}
use Rattle.book_model.specs.Words.{IsDay, IsPriced, most_held, IsDispute, AreDisputes, Naming}
use Rattle.book_model.specs.Words.{by_bytes, Rulings, identity_by, identity_length}
use Rattle.book_model.specs.Words.{identity2_length, rows_of, FitSums, AreRows, set_of, members}
use Rattle.book_model.specs.Words.{most_cost, Priced}
use Rattle.smf_type30.proofs.IdentityLength.{identity-long}
use Rattle.plain_ledger.specs.declared.held.HeldRecord.{HeldRecord}
use Rattle.plain_ledger.specs.Plain.{Entry, AreBooked, is_disputed, variant_at, dispute_among}
use Rattle.plain_ledger.specs.Plain.{disputes_among, entry_identity, entry_has_identity, record_of}
use Rattle.book_core.proofs.ListLimits.{All-members, priced_fit, priced_shown}

-- by each rule an identity has its length
length_in_force : (rulings : Rulings) (held : HeldRecord)
    → (length (identity_by rulings (record_of held)) ≡ identity_length)
    ⊎ (length (identity_by rulings (record_of held)) ≡ identity2_length)
length_in_force rulings held = by rulings.adopted
  where
    by : (adopted : Option ℕ)
        → (length (identity_by (record rulings { adopted = adopted }) (record_of held))
        ≡ identity_length)
        ⊎ (length (identity_by (record rulings { adopted = adopted }) (record_of held))
        ≡ identity2_length)
    by None = inl (identity-long (record_of held) held.is_usage.usage)
    by (Some period) = inr (ap length (sym held.second) ∙ held.identity_len)

-- the dispute of an entry's identity can be shown
is_dispute : (rulings : Rulings) (entries : List Entry) (entry : Entry)
    → IsDispute (dispute_among rulings entries (entry_identity rulings entry))
is_dispute rulings entries entry =
    let held = entry.1 in
    let theirs = filter (entry_has_identity rulings (entry_identity rulings entry)) entries in
    record {
      identity = length_in_force rulings held;
      days = All-map (λ member. IsDay member.priced.day) variant_at theirs
          (λ k d within. (get_or theirs k d).1.priced_is.day);
    }

-- what the entries cost that pass a test
abbrev pub prices_where : (Entry → Bool) → List Entry → List Priced
prices_where test entries = map (λ entry. entry.1.priced) (filter test entries)

-- what entries cost keeps the bounds of a price
all_priced : (entries : List Entry) → All IsPriced (map (λ entry. entry.1.priced) entries)
all_priced entries =
    let price : Entry → Priced = λ entry. entry.1.priced in
    All-map IsPriced price entries (λ k d within. (get_or entries k d).1.priced_is)

module _ {naming : Naming} {rulings : Rulings} {entries : List Entry} {total : ℕ}
    (kept : AreBooked naming rulings entries total) where
  -- there are no more such prices than a ledger may hold records
  few_chosen : (test : Entry → Bool) → length (prices_where test entries) ≤ most_held
  few_chosen test =
      let others : Entry → Bool = λ entry. not (test entry) in
      let both = length-filter_both test others (λ entry. refl) entries in
      let priced = length-map (filter test entries) (λ entry. entry.1.priced) in
      let few = kept.few in
      omega arith

  -- nor do they cost more than a ledger may hold
  small_chosen : (test : Entry → Bool)
      → sum_by (λ one. one.amount) (prices_where test entries) ≤ most_cost
  small_chosen test =
      let others : Entry → Bool = λ entry. not (test entry) in
      let price : Entry → Priced = λ entry. entry.1.priced in
      let own : Entry → ℕ = λ entry. entry.1.priced.amount in
      let amount = fold-map (λ n one. n + one.amount) price 0 (filter test entries) in
      let both = sum_by-filter_both test others (λ entry. refl) own entries in
      let summed = kept.summed in
      let small = kept.small in
      omega arith

  -- so the sums of what the entries cost that pass a test fit 64 bits
  pub fit_sums : (test : Entry → Bool) → FitSums (prices_where test entries)
  fit_sums test =
      priced_fit (prices_where test entries) (all_priced (filter test entries)) (few_chosen test)
      (small_chosen test)

  -- their rows can be shown
  pub are_rows : (test : Entry → Bool) → AreRows (rows_of (prices_where test entries))
  are_rows test =
      priced_shown (prices_where test entries) (all_priced (filter test entries)) (few_chosen test)
      (small_chosen test)

  -- and so can the disputes among the entries
  pub are_disputes : AreDisputes (disputes_among rulings entries)
  are_disputes =
      let disputed = filter (is_disputed rulings entries) entries in
      let known : Entry → List ℕ = entry_identity rulings in
      let IsShown : List ℕ → Type 0 =
      λ identity. IsDispute (dispute_among rulings entries identity) in
      let identities = map known disputed in
      let own : All (λ entry. IsShown (known entry)) disputed =
      λ k d within. is_dispute rulings entries (get_or disputed k d) in
      let all = All-map IsShown known disputed own in
      let each = All-members nat_list_cmp_total exact_bytes IsShown identities all in
      All-map IsDispute (dispute_among rulings entries) (members (set_of by_bytes identities)) each
