-- How a plain ledger keeps closed periods, and reads the open one: what a period does with each
-- record that is held.
use Rattle.std.specs.Prelude.{◌≡◌, Bool, true, false, not, ◌&&◌, ◌||◌, List, [], ℕ, ℤ, filter, All}
use Rattle.std.specs.Prelude.{Option, Some, None, option_and_then}
use Rattle.std.specs.Map.{lookup}
use Rattle.std.specs.Option.{option_map_or}
use Rattle.book_model.specs.declared.line.Line.{Line}
use Rattle.book_model.specs.Words.{set_of, Records, by_bytes, same_bytes, Period, Rulings}
use Rattle.book_model.specs.Words.{identity_by, is_after, is_through, last_close, line_with}
use Rattle.plain_ledger.specs.declared.treatment.ClosedPeriod.{ClosedPeriod}
use Rattle.plain_ledger.specs.declared.period_end.PeriodEnd.{PeriodEnd}
use Rattle.plain_ledger.specs.declared.held.HeldRecord.{HeldRecord}
use Rattle.plain_ledger.specs.declared.period.Period.{Period as ReadPeriod}
use Rattle.plain_ledger.specs.declared.period.Period.TheVariants.{Closed, Open}
use Rattle.plain_ledger.specs.declared.treatment.Treatment.{Treatment}
use Rattle.plain_ledger.specs.declared.treatment.Treatment.TheVariants.{Counted, Added, Taken}
use Rattle.plain_ledger.specs.Choices.{AreLast, DoCount, record_at}
use Rattle.plain_ledger.specs.Plain.{Entry, HasShared, entry_records, record_of, rulings_of}
use Rattle.std.specs.BTreeMap as map
use Rattle.std.specs.BTreeSet as set

-- the names of some records
abbrev pub Names : Type 0
Names = set.BTreeSet (List ℕ)

-- the share of a record that is charged at the period's end or not, was charged at the close before
-- or not, and is dated after that close or not
abbrev pub treatment_of : Bool → Bool → Bool → Option Treatment
treatment_of true posted true = Some Counted
treatment_of true false false = Some Added
treatment_of true true false = None
treatment_of false true new = Some Taken
treatment_of false false new = None

-- each way to have a record, kept apart from the others
abbrev pub is_counted : Option Treatment → Bool
is_counted (Some Counted) = true
is_counted treatment = false

abbrev pub is_added : Option Treatment → Bool
is_added (Some Added) = true
is_added treatment = false

abbrev pub is_taken : Option Treatment → Bool
is_taken (Some Taken) = true
is_taken treatment = false

-- the line of a record that is held under a name
abbrev pub line_of : Bool → Entry → Line
line_of plus entry = line_with plus entry.0 (record_of entry.1) entry.1.priced

-- the adjustment line that a period has for it, if it adds the record or takes it back
abbrev pub line_at : Option Treatment → Entry → Option Line
line_at (Some Added) entry = Some (line_of true entry)
line_at (Some Taken) entry = Some (line_of false entry)
line_at treatment entry = None

-- which work the record measures, by the rule that is in force at the period's end
abbrev pub identity_at : PeriodEnd → HeldRecord → List ℕ
identity_at period_end held = identity_by (rulings_of [] period_end.adopted) (record_of held)

-- the record is the one that was chosen last of its identity
abbrev pub is_choice : PeriodEnd → HeldRecord → Bool
is_choice period_end held =
    option_map_or (same_bytes (record_of held))
    (record_at period_end.chosen (identity_at period_end held)) false

-- the last choice of its identity says that none of its work counts
abbrev pub is_none : PeriodEnd → HeldRecord → Bool
is_none period_end held =
    option_map_or not (map.get by_bytes period_end.counts (identity_at period_end held)) false

-- the record is charged at the end of a period: its work is not withheld; its identity is shared by
-- none, or it was chosen last of that identity; and it is dated no later than the day through which
-- the period ends, if it ends through one
abbrev pub charges : PeriodEnd → HeldRecord → Bool
charges period_end held =
    (not (is_none period_end held)
    && (not (set.contains by_bytes period_end.shared (identity_at period_end held))
    || is_choice period_end held))
    && is_through period_end.through held.priced.day

-- the share of a record at the end of a period
abbrev pub treatment_at : PeriodEnd → Bool → HeldRecord → Option Treatment
treatment_at period_end posted held =
    treatment_of (charges period_end held) posted
    (is_after period_end.last held.priced.day)

-- an entry's name is among these
abbrev pub has_name_in : Names → Entry → Bool
has_name_in names entry = set.contains by_bytes names entry.0

-- how a closed period has an entry
abbrev pub treatment_closed : ClosedPeriod → Entry → Option Treatment
treatment_closed closed entry = map.get by_bytes closed.treatments entry.0

-- how a period that is read has an entry
abbrev pub treatment_in : ReadPeriod → Names → Entry → Option Treatment
treatment_in (Closed closed) posted entry = treatment_closed closed.now entry
treatment_in (Open period_end) posted entry = treatment_at period_end (has_name_in posted entry) entry.1

-- the records of the entries that pass a test
abbrev pub records_where : (Entry → Bool) → List Entry → Records
records_where test entries = set_of by_bytes (entry_records (filter test entries))

-- the period that has the entries so
abbrev pub period_with : (Entry → Option Treatment) → List Entry → Period
period_with treatment entries = record {
  counted = records_where (λ entry. is_counted (treatment entry)) entries;
  added = records_where (λ entry. is_added (treatment entry)) entries;
  taken = records_where (λ entry. is_taken (treatment entry)) entries;
}

-- what is under a name
abbrev pub under_name : List ℕ → List Entry → Option HeldRecord
under_name name entries = lookup (map.is_at (by_bytes name)) entries

-- these are the names of the entries that pass a test
abbrev pub NamesOf : (Entry → Bool) → List Entry → Names → Type 0
NamesOf test entries names =
    (name : List ℕ) → set.contains by_bytes names name
    ≡ option_map_or (λ held. test (name, held)) (under_name name entries) false

-- these are the shares of the entries, by name
abbrev pub TreatmentsOf : (Entry → Option Treatment) → List Entry
    → map.BTreeMap (List ℕ) Treatment → Type 0
TreatmentsOf treatment entries treatments =
    (name : List ℕ) → map.get by_bytes treatments name
    ≡ option_and_then (λ held. treatment (name, held)) (under_name name entries)

-- whoever was charged at the last close, or has a share in a closed period, is held
pub record AreNamed (entries : List Entry) (names : Names) (closed : List ClosedPeriod)
    : Type 0 where
  pub posted : (name : List ℕ) → under_name name entries ≡ None
      → set.contains by_bytes names name ≡ false
  pub past : All (λ period. (name : List ℕ) → under_name name entries ≡ None
      → map.get by_bytes period.treatments name ≡ None) closed

-- what decides how the open period ends over these entries by these rulings: the rule of identity
-- in force, the identities that two or more of them have, the record that was chosen last of each
-- identity, and whether it counts, the day of the close before, and the day through which it ends
pub record IsPeriodEnd (entries : List Entry) (rulings : Rulings) (day : Option ℤ) (period_end : PeriodEnd)
    : Type 0 where
  pub adopted : period_end.adopted ≡ rulings.adopted
  pub shared : HasShared rulings entries period_end.shared
  pub chosen : AreLast rulings period_end.chosen
  pub counts : DoCount rulings period_end.counts
  pub last : period_end.last ≡ last_close rulings
  pub through : period_end.through ≡ day
