-- The journal: who gave a ruling or imported a dump, when, with which note, and from which file.
-- Time and person are what the machine said. The list of its entries has the newest first.
use Rattle.std.specs.Prelude.{ℕ, ◌+◌, List, [], ◌∷◌, length, Option, Some, None, ℤ, sum_by}
use Rattle.std.specs.Prelude.{count_by}
use Rattle.std.specs.Prelude.{Bool, true, false, if◌then◌else◌}
use Rattle.std.specs.FinMap as map
use Rattle.book_model.specs.Sets.{has, members, with}
use Rattle.book_model.specs.Records.{Records}
use Rattle.book_model.specs.Rulings.{Ruling, Rulings, TariffAccepted, TariffReplaced}
use Rattle.book_model.specs.Rulings.{RecordChosen, WorkWithheld, SecondRuleAdopted, CreditGiven}

-- What the program was told where it was called: the time in seconds since the beginning of 1970,
-- UTC; the person; a remark; and the name of the file that was read, or nothing.
pub record Note : Type 0 where
  pub time : ℕ
  pub person : List ℕ
  pub remark : List ℕ
  pub file : List ℕ

-- Where a ruling stands among those of the office: a tariff by its first day, a close by its
-- period, a choice, a tariff that took another's place and a credit each by its number; and the
-- adoption.
pub data Place : Type 0 where
  TariffOf : ℤ → Place
  CloseOf : ℕ → Place
  ChoiceOf : ℕ → Place
  AdoptionOf : Place
  ReplacementOf : ℕ → Place
  CreditOf : ℕ → Place

-- What an import has read: the SHA-256 and the number of the bytes, and how many records of each
-- kind, but for those that were kept.
pub record Reading : Type 0 where
  pub digest : List ℕ
  pub length : ℕ
  pub known : ℕ
  pub unpriced : ℕ
  pub other : ℕ
  pub headers : ℕ
  pub trailers : ℕ
  pub lost : ℕ
  pub continued : ℕ
  pub damaged : ℕ

-- Why an import ended, as receipts say it.
pub data Ending : Type 0 where
  AtEnd : Ending
  AtFrame : ℕ → Ending
  AtRead : Ending
  AtReadLimit : Ending
  AtLedger : ℕ → Ending

-- What an entry is about: a ruling that was done; an import that goes on, or was cut off, by what
-- it had read and the records that it kept; or an import that ended.
pub data Act : Type 0 where
  Ruled : Place → Act
  Importing : Reading → Records → Act
  Imported : Reading → Ending → Records → Act

pub record Entry : Type 0 where
  pub note : Note
  pub act : Act

-- nothing was read
abbrev pub nothing_read : Reading
nothing_read = record {
  digest = [];
  length = 0;
  known = 0;
  unpriced = 0;
  other = 0;
  headers = 0;
  trailers = 0;
  lost = 0;
  continued = 0;
  damaged = 0;
}

-- where a ruling that closes no period will stand, by the rulings before it
abbrev pub place_of : Ruling → Rulings → Place
place_of (TariffAccepted text terms) rulings = TariffOf terms.effective
place_of (TariffReplaced text terms) rulings = ReplacementOf (length rulings.replaced + 1)
place_of (RecordChosen bytes) rulings = ChoiceOf (length rulings.choices + 1)
place_of (WorkWithheld bytes) rulings = ChoiceOf (length rulings.choices + 1)
place_of SecondRuleAdopted rulings = AdoptionOf
place_of (CreditGiven centre amount reason) rulings = CreditOf (length rulings.credits + 1)

-- an entry more, where there is a note
abbrev pub with_entry : Option Note → Act → List Entry → List Entry
with_entry None act journal = journal
with_entry (Some note) act journal = record { note = note; act = act } ∷ journal

-- the newest entry is about something else; its note stays
abbrev pub change_newest : (Act → Act) → List Entry → List Entry
change_newest change [] = []
change_newest change (entry ∷ older) = record entry { act = change entry.act } ∷ older

-- an import that goes on keeps one more record,
abbrev pub keep_in : List ℕ → Act → Act
keep_in bytes (Importing reading kept) = Importing reading (with kept bytes)
keep_in bytes act = act

-- has read more,
abbrev pub read_on : Reading → Act → Act
read_on reading (Importing before kept) = Importing reading kept
read_on reading act = act

-- or ends
abbrev pub end_with : Ending → Act → Act
end_with ending (Importing reading kept) = Imported reading ending kept
end_with ending act = act

-- the records that it kept
abbrev pub kept_by : Act → Records
kept_by (Ruled place) = map.empty
kept_by (Importing reading kept) = kept
kept_by (Imported reading ending kept) = kept

-- how many they are: the number that its receipt calls KEPT
abbrev pub kept_count : Entry → ℕ
kept_count entry = length (members (kept_by entry.act))

-- how many records all imports of the journal kept
abbrev pub kept_in_all : List Entry → ℕ
kept_in_all journal = sum_by kept_count journal

-- how many of the entries kept the record
abbrev pub times_kept : List Entry → List ℕ → ℕ
times_kept journal bytes = count_by (λ entry. has (kept_by entry.act) bytes) journal

-- The number of the entry of the import that kept the record; 0 where none did.
abbrev pub came_by : List Entry → List ℕ → ℕ
came_by [] bytes = 0
came_by (entry ∷ older) bytes =
    if has (kept_by entry.act) bytes then length older + 1 else came_by older bytes

-- an import goes on, by what its entry is about
abbrev pub goes_on : Act → Bool
goes_on (Importing reading kept) = true
goes_on act = false
