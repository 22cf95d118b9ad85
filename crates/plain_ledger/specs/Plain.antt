-- What a plain ledger holds, as a book.
use Rattle.std.specs.Prelude.{Bool, true, not, ◌&&◌, nat_eq, nat_le, filter, count_by, ◌≡◌, ◌≤◌, ℕ}
use Rattle.std.specs.Prelude.{List, map, length, sum_by, Some, Option, Vec, All, ℤ}
use Rattle.std.specs.BTreeSet.{BTreeSet, contains}
use Rattle.std.specs.Global.{Global}
use Rattle.std.specs.Rc.{rc_slice_items}
use Rattle.book_model.specs.Words.{most_held, most_cost, Disputed, set_of, members, has, Records}
use Rattle.book_model.specs.Words.{Naming, name_of, by_bytes, same_bytes, Rulings, are_rising}
use Rattle.book_model.specs.Words.{no_rulings, price_in, identity_by, is_settled, variant_with}
use Rattle.book_model.specs.Words.{Replaced, credit_shown}
use Rattle.book_model.specs.Rulings as ruling
use Rattle.book_model.specs.declared.bill.Credit.{Credit}
use Rattle.plain_ledger.specs.declared.replaced.ReplacedTariff.{ReplacedTariff}
use Rattle.plain_ledger.specs.declared.chosen.ChosenRecord.{ChosenRecord}
use Rattle.plain_ledger.specs.declared.held.HeldRecord.{HeldRecord}
use Rattle.plain_ledger.specs.declared.record_cache.RecordCache.{RecordCache}
use Rattle.book_core.specs.declared.rulings.Rulings.{Rulings as OfficeRulings}
use Rattle.plain_ledger.specs.Choices.{choice_of}
use Rattle.book_core.specs.OfficeRulings.{ruled_in}
use Rattle.book_model.specs.declared.dispute.Variant.{Variant}
use Rattle.std.specs.HashMap.{values}

-- a record under its name
abbrev pub Entry : Type 0
Entry = List ℕ × HeldRecord

-- the bytes of a record that is held
abbrev pub record_of : HeldRecord → List ℕ
record_of held = rc_slice_items held.bytes

-- the records of entries
abbrev pub entry_records : List Entry → List (List ℕ)
entry_records entries = map (λ entry. record_of entry.1) entries

-- the set that entries hold
abbrev pub held_in : List Entry → Records
held_in entries = set_of by_bytes (entry_records entries)

-- each record that is recalled by its identity passes a test
abbrev pub AllPass : (List ℕ → Bool) → RecordCache → Type 0
AllPass test cache =
    All (λ bytes. test (rc_slice_items bytes) ≡ true) (values cache.by_identity)

-- each record that is recalled by its identity is one that the entries hold
abbrev pub CacheIsHeld : List Entry → RecordCache → Type 0
CacheIsHeld entries cache = AllPass (has (held_in entries)) cache

-- rulings with these choices
abbrev pub with_choices : List ChosenRecord → Rulings → Rulings
with_choices choices rulings = record rulings { choices = map choice_of choices }

-- a tariff that was replaced, as a ruling
abbrev pub replaced_of : ReplacedTariff → Replaced
replaced_of replaced = record { tariff = replaced.tariff; period = replaced.period }

-- a credit of a period, as a ruling
abbrev pub credit_with : ℕ → List ℕ → ℤ → List ℕ → ruling.Credit
credit_with period centre amount reason =
    record { centre = centre; amount = amount; reason = reason; period = period }

-- the rulings of a ledger that keeps these, but for its choices
abbrev pub ruled_beside : OfficeRulings → List ReplacedTariff → List Credit → Rulings
ruled_beside rulings replaced credits = record (ruled_in rulings) {
  replaced = map replaced_of replaced;
  credits = map credit_shown credits;
}

-- with the choices that it made
abbrev pub ruled_by : OfficeRulings → List ChosenRecord → List ReplacedTariff → List Credit → Rulings
ruled_by rulings choices replaced credits =
    with_choices choices (ruled_beside rulings replaced credits)

-- the rulings that say which records are chosen: these choices, and the second rule of identity
-- where it was adopted
abbrev pub rulings_of : List ChosenRecord → Option ℕ → Rulings
rulings_of choices adopted = record no_rulings {
  choices = map choice_of choices;
  adopted = adopted;
}

-- each entry is under its record's name, with its record's price; there is room for them; and
-- the tariffs are in the order of their first days
pub record AreBooked (naming : Naming) (rulings : Rulings) (entries : List Entry)
    (total : ℕ) : Type 0 where
  pub named : map (λ entry. entry.0) entries ≡ map (name_of naming) (entry_records entries)
  pub priced : map (λ entry. Some entry.1.priced) entries
      ≡ map (price_in rulings) (entry_records entries)
  pub summed : total ≡ sum_by (λ entry. entry.1.priced.amount) entries
  pub small : total ≤ most_cost
  pub few : length entries ≤ most_held
  pub in_order : are_rising rulings.tariffs ≡ true

-- which work the record of an entry measures, by the rule in force
abbrev pub entry_identity : Rulings → Entry → List ℕ
entry_identity rulings entry = identity_by rulings (record_of entry.1)

-- the entry has the identity
abbrev pub entry_has_identity : Rulings → List ℕ → Entry → Bool
entry_has_identity rulings identity entry = same_bytes (entry_identity rulings entry) identity

-- two entries or more have the identity
abbrev pub is_shared : Rulings → List Entry → List ℕ → Bool
is_shared rulings entries identity =
    nat_le 2 (count_by (entry_has_identity rulings identity) entries)

-- the set has the identities that entries share
abbrev pub HasShared : Rulings → List Entry → BTreeSet (List ℕ) → Type 0
HasShared rulings entries found = (identity : List ℕ)
    → contains by_bytes found identity ≡ is_shared rulings entries identity

-- the set has those of which no record was chosen: they are in dispute
abbrev pub HasDisputed : Rulings → List Entry → BTreeSet (List ℕ) → Type 0
HasDisputed rulings entries found = (identity : List ℕ)
    → contains by_bytes found identity
    ≡ (is_shared rulings entries identity && not (is_settled rulings identity))

-- one entry alone has the identity
abbrev pub is_lone : Rulings → List Entry → List ℕ → Bool
is_lone rulings entries identity = nat_eq (count_by (entry_has_identity rulings identity) entries) 1

-- no other entry has the identity of this one
abbrev pub is_alone : Rulings → List Entry → Entry → Bool
is_alone rulings entries entry = is_lone rulings entries (entry_identity rulings entry)

-- other entries have the identity of this one, and none of that identity was chosen
abbrev pub is_disputed : Rulings → List Entry → Entry → Bool
is_disputed rulings entries entry =
    not (is_alone rulings entries entry)
    && not (is_settled rulings (entry_identity rulings entry))

-- a record as a list of disputes shows it
abbrev pub variant_at : Entry → Variant
variant_at entry = variant_with entry.0 (record_of entry.1) entry.1.priced

-- the dispute of an identity among entries in order by name, under some rulings
abbrev pub dispute_among : Rulings → List Entry → List ℕ → Disputed
dispute_among rulings entries identity = record {
  identity = identity;
  members = map variant_at (filter (entry_has_identity rulings identity) entries);
}

-- all of them, by identity
abbrev pub disputes_among : Rulings → List Entry → List Disputed
disputes_among rulings entries =
    map (dispute_among rulings entries)
    (members (set_of by_bytes (map (entry_identity rulings)
    (filter (is_disputed rulings entries) entries))))

-- a group of a map: an identity, and the vector of its records
abbrev pub group_shown : List ℕ × Vec Variant Global → Disputed
group_shown group = record { identity = group.0; members = group.1.items }
