-- The choices of a plain ledger, which keeps the record that was chosen: which record was chosen
-- last of an identity.
use Rattle.std.specs.Prelude.{◌≡◌, ℕ, Bool, not, ◌&&◌, List, filter, map, Option, None, option_map}
use Rattle.std.specs.BTreeMap.{BTreeMap, get}
use Rattle.std.specs.Global.{Global}
use Rattle.std.specs.List.{last_or}
use Rattle.std.specs.Rc.{rc_slice_items}
use Rattle.std.specs.declared.rc.RcSlice.{RcSlice}
use Rattle.book_model.specs.Words.{by_bytes, same_bytes, Choice, Rulings, identity_by}
use Rattle.plain_ledger.specs.declared.chosen.ChosenRecord.{ChosenRecord}

-- a choice as a ruling: the record that was named, whether it counts, and the period that was open
-- then
abbrev pub choice_of : ChosenRecord → Choice
choice_of choice = record {
  chosen = rc_slice_items choice.bytes;
  counts = choice.counts;
  period = choice.period;
}

-- it is of the identity, by the rule in force
abbrev pub is_of : Rulings → List ℕ → ChosenRecord → Bool
is_of rulings identity choice =
    same_bytes identity (identity_by rulings (choice_of choice).chosen)

-- it is one of none of the identity
abbrev pub withholds : Rulings → List ℕ → ChosenRecord → Bool
withholds rulings identity choice = not choice.counts && is_of rulings identity choice

-- the record that was chosen last of an identity, if one was chosen
abbrev pub last_of : Rulings → List ℕ → Option (List ℕ)
last_of rulings identity =
    last_or None (filter (λ bytes. same_bytes identity (identity_by rulings bytes))
    (map (λ choice. choice.chosen) rulings.choices))

-- records by their identities
abbrev pub ByIdentity : Type 0
ByIdentity = BTreeMap (List ℕ) (RcSlice ℕ Global)

-- the one of an identity
abbrev pub record_at : ByIdentity → List ℕ → Option (List ℕ)
record_at records identity =
    option_map (λ bytes. rc_slice_items bytes) (get by_bytes records identity)

-- the last choice of an identity, if there is one
abbrev pub last_at : Rulings → List ℕ → Option Choice
last_at rulings identity =
    last_or None (filter (λ choice. same_bytes identity (identity_by rulings choice.chosen))
    rulings.choices)

-- by identity, whether the last choice of it says that its record counts
abbrev pub Counts : Type 0
Counts = BTreeMap (List ℕ) Bool

abbrev pub DoCount : Rulings → Counts → Type 0
DoCount rulings counts =
    (identity : List ℕ) → get by_bytes counts identity
    ≡ option_map (λ (choice : Choice). choice.counts) (last_at rulings identity)

-- they are the records that were chosen last of each identity
abbrev pub AreLast : Rulings → ByIdentity → Type 0
AreLast rulings records =
    (identity : List ℕ) → record_at records identity ≡ last_of rulings identity
