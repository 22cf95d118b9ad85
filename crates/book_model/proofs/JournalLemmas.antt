-- Laws of the journal: nothing else depends on it; each record came by one import; no entry changes
-- or goes; and it has the rulings in their order.
use Rattle.std.proofs.Common.{◌≡◌, ℕ, suc, ◌+◌, ◌==◌, ◌≤◌, Bool, true, false, ◌||◌, cond}
use Rattle.std.proofs.Common.{List, [], ◌∷◌, ◌++◌, length, Option, Some, None, refl}
use Rattle.std.proofs.Common.{sym, ap, ◌∙◌, subst, arith, true≢false, length-append, ne_eqb}
use Rattle.std.proofs.lemmas.List.Sums.{sum_by-cons}
use Rattle.book_model.specs.Words.{Act, Book, Ending, Entry, Event, ImportBegun, ImportEnded, Place}
use Rattle.book_model.specs.Words.{ImportRead, Imported, Importing, IsMadeByCalls, Naming, Note}
use Rattle.book_model.specs.Words.{PeriodClosed, Reading, RecordKept, Records, Ruled, RulingGiven}
use Rattle.book_model.specs.Words.{after, after_all, book_after, by_bytes, came_by}
use Rattle.book_model.specs.Words.{change_newest, end_with, entries_after, goes_on, has, journal}
use Rattle.book_model.specs.Words.{keep_in, kept_by, kept_count, kept_in_all, members, new_book}
use Rattle.book_model.specs.Words.{nothing_read, read_on, times_kept, with, Rulings}
use Rattle.book_model.specs.Words.{CloseOf, open_by, rulings, with_entry, place_of}
use Rattle.book_model.specs.Words.{RecordChosen, WorkWithheld, SecondRuleAdopted, CreditGiven}
use Rattle.book_model.specs.Words.{TariffAccepted, TariffReplaced}
use Rattle.book_model.specs.JournalLaws.{EachCameOnce, EntriesStay, ImportsAreFree, AreNoted}
use Rattle.book_model.specs.JournalLaws.{JournalStandsApart, NoneReadsTheJournal, down_from}
use Rattle.book_model.specs.JournalLaws.{NotesChangeNoReport, RulingsAreEntered, choice_in}
use Rattle.book_model.specs.JournalLaws.{close_in}
use Rattle.book_model.specs.JournalLaws.{credit_in, entered, goes_on_in, kept_outside, Stays}
use Rattle.book_model.specs.JournalLaws.{unjournaled, without_notes}
use Rattle.book_model.specs.JournalLaws.{ReadsNoJournal, TellsTheSame}
use Rattle.book_model.specs.JournalLaws.{adoption_in, adoption_once, days_back, newest_first}
use Rattle.book_model.specs.JournalLaws.{tariff_in}
use Rattle.book_model.specs.Words.{AcceptedTerms, AdoptionAsked, ChoiceAsked, CloseAsked}
use Rattle.book_model.specs.Words.{CreditAsked, ReplacementAsked, RulingAsked, TariffAsked}
use Rattle.book_model.specs.Words.{WithholdingAsked, or_new, rule_outcome}
use Rattle.book_model.proofs.AdoptedLemmas.{first_adopted}
use Rattle.book_model.proofs.ReplacedLemmas.{same_day}
use Rattle.book_model.proofs.Std.{map-append}
use Rattle.std.proofs.Common.{map, ℤ}
use Rattle.book_model.specs.Outcomes.{Outcome, adjustments_outcome, charges_outcome}
use Rattle.book_model.specs.Outcomes.{dispute_outcome, disputes_outcome, periods_outcome}
use Rattle.book_model.specs.Outcomes.{ruling_outcome, what_if_outcome}
use Rattle.book_model.specs.Bills.{bill_outcome}
use Rattle.book_model.specs.Details.{details_outcome}
use Rattle.book_model.specs.Trails.{trail_outcome}
use Rattle.book_model.proofs.Std.{cons_option, exact_bytes, tells_apart}
use Rattle.book_model.proofs.MadeByCallsLemmas.{rulings_are}
use Rattle.book_model.proofs.OrderLemmas.{order_is_free}
use Rattle.book_model.proofs.RecordSets.{is, is_itself, has_with, one_or}
use Rattle.book_model.proofs.SetChanges.{members_with}
use Rattle.book_model.proofs.SetLemmas.{members-empty}
use Rattle.book_model.proofs.SoundLemmas.{none_in}
use Rattle.book_model.proofs.SumsAlike.{length-alike}
use Rattle.book_model.proofs.TestLemmas.{kept_passes}
use Rattle.std.specs.FinMap as fin

-- ---- nothing else depends on the journal

-- an event without its note
apart_after : (event : Event) (older : List Event) (before : Book) (plain : Book)
    → unjournaled before ≡ plain
    → after_all (without_notes (event ∷ [])) plain ≡ unjournaled (after event before)
apart_after (RecordKept bytes) older before plain same =
    ap (after (RecordKept bytes)) (sym same)
apart_after (PeriodClosed said day) older before plain same =
    ap (after (PeriodClosed None day)) (sym same)
apart_after (RulingGiven said ruling) older before plain same =
    ap (after (RulingGiven None ruling)) (sym same)
apart_after (ImportBegun note) older before plain same = sym same
apart_after (ImportRead reading) older before plain same = sym same
apart_after (ImportEnded ending) older before plain same = sym same

-- the events of one event come after those before it
one_by_one : (event : Event) (older : List Event) (plain : Book)
    → after_all (without_notes (event ∷ older)) plain
    ≡ after_all (without_notes (event ∷ [])) (after_all (without_notes older) plain)
one_by_one (RecordKept bytes) older plain = refl
one_by_one (PeriodClosed said day) older plain = refl
one_by_one (RulingGiven said ruling) older plain = refl
one_by_one (ImportBegun note) older plain = refl
one_by_one (ImportRead reading) older plain = refl
one_by_one (ImportEnded ending) older plain = refl

pub journal_stands_apart : JournalStandsApart
journal_stands_apart before [] = refl
journal_stands_apart before (event ∷ older) =
    sym (apart_after event older (after_all older before)
    (after_all (without_notes older) (unjournaled before)) (journal_stands_apart before older))
    ∙ sym (one_by_one event older (unjournaled before))

-- no ruling that is asked for reads the journal
rule_reads_none : (naming : Naming) (said : Option Note) (asked : RulingAsked)
    → ReadsNoJournal (rule_outcome naming said asked)
rule_reads_none naming said (TariffAsked text) book = refl
rule_reads_none naming said (CloseAsked period through) book = refl
rule_reads_none naming said (ChoiceAsked name) book = refl
rule_reads_none naming said (AdoptionAsked rule) book = refl
rule_reads_none naming said (ReplacementAsked text) book = refl
rule_reads_none naming said (WithholdingAsked name) book = refl
rule_reads_none naming said (CreditAsked period centre amount reason) book = refl

pub none_reads_the_journal : NoneReadsTheJournal
none_reads_the_journal = record {
  accept = λ naming bytes book. refl;
  tariff = λ said text book. refl;
  replace = λ said text book. refl;
  close = λ said number day book. refl;
  choose = λ naming said name book. refl;
  withhold = λ naming said name book. refl;
  adopt = λ said rule book. refl;
  credit = λ said number centre amount reason book. refl;
  rule = rule_reads_none;
  charges = λ number book. refl;
  what_if = λ number terms book. refl;
  adjustments = λ naming number book. refl;
  disputes = λ naming book. refl;
  dispute = λ naming from book. refl;
  periods = λ book. refl;
  ruling = λ naming number book. refl;
  details = λ naming number centre book. refl;
  trail = λ naming name book. refl;
  bill = λ naming number centre book. refl;
}

tells_the_same : {A : Type 0} (outcome : Book → Outcome A) → ReadsNoJournal outcome
    → TellsTheSame outcome
tells_the_same outcome reads one other same =
    sym (reads (book_after one))
    ∙ ap outcome (journal_stands_apart new_book one
    ∙ ap (λ events. after_all events new_book) same
    ∙ sym (journal_stands_apart new_book other))
    ∙ reads (book_after other)

pub notes_change_no_report : NotesChangeNoReport
notes_change_no_report = record {
  charges = λ number. tells_the_same (charges_outcome number) (none_reads_the_journal.charges number);
  what_if = λ number terms.
      tells_the_same (what_if_outcome number terms) (none_reads_the_journal.what_if number terms);
  adjustments = λ naming number.
      tells_the_same (adjustments_outcome naming number)
      (none_reads_the_journal.adjustments naming number);
  disputes = λ naming.
      tells_the_same (disputes_outcome naming) (none_reads_the_journal.disputes naming);
  dispute = λ naming from.
      tells_the_same (dispute_outcome naming from) (none_reads_the_journal.dispute naming from);
  periods = tells_the_same periods_outcome none_reads_the_journal.periods;
  ruling = λ naming number.
      tells_the_same (ruling_outcome naming number) (none_reads_the_journal.ruling naming number);
  details = λ naming number centre.
      tells_the_same (details_outcome naming number centre)
      (none_reads_the_journal.details naming number centre);
  trail = λ naming name.
      tells_the_same (trail_outcome naming name) (none_reads_the_journal.trail naming name);
  bill = λ naming number centre.
      tells_the_same (bill_outcome naming number centre)
      (none_reads_the_journal.bill naming number centre);
}

pub imports_are_free : ImportsAreFree
imports_are_free before one other ruled between =
    journal_stands_apart before one
    ∙ order_is_free (unjournaled before) (without_notes one) (without_notes other) ruled between
    ∙ sym (journal_stands_apart before other)

-- ---- each record came by one import

-- of two tests neither holds
pub neither : (a b : Bool) → (a || b) ≡ false → (a ≡ false) × (b ≡ false)
neither true b none = absurd (true≢false none)
neither false b none = (refl, none)

-- how often a record was kept, by the newest entry and the others
pub times-cons : (entry : Entry) (older : List Entry) (bytes : List ℕ)
    → times_kept (entry ∷ older) bytes
    ≡ cond (has (kept_by entry.act) bytes) 1 0 + times_kept older bytes
times-cons entry older bytes =
    sum_by-cons (λ (entry : Entry). cond (has (kept_by entry.act) bytes) 1 0) entry older

-- journals by which each record came alike
pub record Alike (one other : List Entry) : Type 0 where
  pub times : (bytes : List ℕ) → times_kept one bytes ≡ times_kept other bytes
  pub sum : kept_in_all one ≡ kept_in_all other
  pub came : (bytes : List ℕ) → came_by one bytes ≡ came_by other bytes

-- an entry that is about something else, with the same records
alike-changed : (change : Act → Act) → ((act : Act) → kept_by (change act) ≡ kept_by act)
    → (entries : List Entry) → Alike (change_newest change entries) entries
alike-changed change same [] = record {
  times = λ bytes. refl;
  sum = refl;
  came = λ bytes. refl;
}
alike-changed change same (entry ∷ older) =
    let now : Entry = record entry { act = change entry.act } in
    record {
      times = λ bytes.
          times-cons now older bytes
          ∙ ap (λ kept. cond (has kept bytes) 1 0 + times_kept older bytes) (same entry.act)
          ∙ sym (times-cons entry older bytes);
      sum =
          sum_by-cons kept_count now older
          ∙ ap (λ kept. length (members kept) + kept_in_all older) (same entry.act)
          ∙ sym (sum_by-cons kept_count entry older);
      came = λ bytes.
          ap (λ kept. cond (has kept bytes) (length older + 1) (came_by older bytes))
          (same entry.act);
    }

-- an entry more that has no records
alike-more : (entry : Entry) (older : List Entry) → kept_by entry.act ≡ fin.empty
    → Alike (entry ∷ older) older
alike-more entry older none = record {
  times = λ bytes.
      times-cons entry older bytes
      ∙ ap (λ kept. cond (has kept bytes) 1 0 + times_kept older bytes) none
      ∙ ap (λ b. cond b 1 0 + times_kept older bytes) (none_in bytes)
      ∙ omega arith;
  sum =
      sum_by-cons kept_count entry older
      ∙ ap (λ kept. length (members kept) + kept_in_all older) none
      ∙ ap (λ list. length list + kept_in_all older) (members-empty by_bytes)
      ∙ omega arith;
  came = λ bytes.
      ap (λ kept. cond (has kept bytes) (length older + 1) (came_by older bytes)) none
      ∙ ap (λ b. cond b (length older + 1) (came_by older bytes)) (none_in bytes);
}

alike-itself : (entries : List Entry) → Alike entries entries
alike-itself entries = record { times = λ bytes. refl; sum = refl; came = λ bytes. refl }

alike-entry : (said : Option Note) (place : Place) (entries : List Entry)
    → Alike (with_entry said (Ruled place) entries) entries
alike-entry None place entries = alike-itself entries
alike-entry (Some note) place entries =
    alike-more (record { note = note; act = Ruled place }) entries refl

-- reading on and ending keep no record
pub read-kept : (reading : Reading) (act : Act) → kept_by (read_on reading act) ≡ kept_by act
read-kept reading (Ruled place) = refl
read-kept reading (Importing before kept) = refl
read-kept reading (Imported before ending kept) = refl

pub end-kept : (ending : Ending) (act : Act) → kept_by (end_with ending act) ≡ kept_by act
end-kept ending (Ruled place) = refl
end-kept ending (Importing reading kept) = refl
end-kept ending (Imported reading before kept) = refl

-- an event that keeps no record
abbrev pub KeepsNone : Event → Type 0
KeepsNone (RecordKept bytes) = ⊥
KeepsNone event = Unit {0}

pub alike_after : (event : Event) (ruled : Rulings) (entries : List Entry) → KeepsNone event
    → Alike (entries_after event ruled entries) entries
alike_after (RecordKept bytes) ruled entries none = absurd none
alike_after (PeriodClosed said day) ruled entries none = alike-entry said _ entries
alike_after (RulingGiven said ruling) ruled entries none = alike-entry said _ entries
alike_after (ImportBegun note) ruled entries none =
    alike-more (record { note = note; act = Importing nothing_read fin.empty }) entries refl
alike_after (ImportRead reading) ruled entries none =
    alike-changed (read_on reading) (read-kept reading) entries
alike_after (ImportEnded ending) ruled entries none =
    alike-changed (end_with ending) (end-kept ending) entries

-- a record more: another one is in it as before
keep-other : (new other : List ℕ) (act : Act) → is other new ≡ false
    → has (kept_by (keep_in new act)) other ≡ has (kept_by act) other
keep-other new other (Ruled place) apart = refl
keep-other new other (Importing reading kept) apart =
    has_with kept new other ∙ ap (λ b. b || has kept other) apart
keep-other new other (Imported reading ending kept) apart = refl

-- the new one is in it, where it goes on
keep-new : (new : List ℕ) (act : Act) → goes_on act ≡ true
    → has (kept_by (keep_in new act)) new ≡ true
keep-new new (Ruled place) on = absurd (true≢false (sym on))
keep-new new (Importing reading kept) on =
    has_with kept new new ∙ ap (λ b. b || has kept new) (is_itself new)
keep-new new (Imported reading ending kept) on = absurd (true≢false (sym on))

-- so it has one more
keep-count : (new : List ℕ) (act : Act) → goes_on act ≡ true → has (kept_by act) new ≡ false
    → length (members (kept_by (keep_in new act))) ≡ suc (length (members (kept_by act)))
keep-count new (Ruled place) on none = absurd (true≢false (sym on))
keep-count new (Importing reading kept) on none = length-alike (members_with kept new none)
keep-count new (Imported reading ending kept) on none = absurd (true≢false (sym on))

-- where none goes on, nothing changes
pub keep-still : (new : List ℕ) (act : Act) → goes_on act ≡ false → keep_in new act ≡ act
keep-still new (Ruled place) off = refl
keep-still new (Importing reading kept) off = absurd (true≢false off)
keep-still new (Imported reading ending kept) off = refl

pub still-all : (new : List ℕ) (entries : List Entry) → goes_on_in entries ≡ false
    → change_newest (keep_in new) entries ≡ entries
still-all new [] off = refl
still-all new (entry ∷ older) off =
    ap (λ act. record entry { act = act } ∷ older) (keep-still new entry.act off)

pub other-times : (new other : List ℕ) (entries : List Entry) → is other new ≡ false
    → times_kept (change_newest (keep_in new) entries) other ≡ times_kept entries other
other-times new other [] apart = refl
other-times new other (entry ∷ older) apart =
    times-cons (record entry { act = keep_in new entry.act }) older other
    ∙ ap (λ b. cond b 1 0 + times_kept older other) (keep-other new other entry.act apart)
    ∙ sym (times-cons entry older other)

other-came : (new other : List ℕ) (entries : List Entry) → is other new ≡ false
    → came_by (change_newest (keep_in new) entries) other ≡ came_by entries other
other-came new other [] apart = refl
other-came new other (entry ∷ older) apart =
    ap (λ b. cond b (length older + 1) (came_by older other))
    (keep-other new other entry.act apart)

-- a record that no entry kept
pub cond_none : (b : Bool) (rest : ℕ) → cond b 1 0 + rest ≡ 0 → (b ≡ false) × (rest ≡ 0)
cond_none true rest none = absurd (omega arith)
cond_none false rest none = (refl, omega arith)

pub new-times : (new : List ℕ) (entries : List Entry) → goes_on_in entries ≡ true
    → times_kept entries new ≡ 0 → times_kept (change_newest (keep_in new) entries) new ≡ 1
new-times new [] on none = absurd (true≢false (sym on))
new-times new (entry ∷ older) on none =
    let rest = (cond_none (has (kept_by entry.act) new) (times_kept older new)
    (sym (times-cons entry older new) ∙ none)).1 in
    times-cons (record entry { act = keep_in new entry.act }) older new
    ∙ ap (λ b. cond b 1 0 + times_kept older new) (keep-new new entry.act on)
    ∙ omega arith

new-sum : (new : List ℕ) (entries : List Entry) → goes_on_in entries ≡ true
    → times_kept entries new ≡ 0
    → kept_in_all (change_newest (keep_in new) entries) ≡ suc (kept_in_all entries)
new-sum new [] on none = absurd (true≢false (sym on))
new-sum new (entry ∷ older) on none =
    let first = (cond_none (has (kept_by entry.act) new) (times_kept older new)
    (sym (times-cons entry older new) ∙ none)).0 in
    let now : Entry = record entry { act = keep_in new entry.act } in
    let one = sum_by-cons kept_count now older in
    let more = keep-count new entry.act on first in
    let was = sum_by-cons kept_count entry older in
    omega arith

module _ (naming : Naming) where
  -- the record that a call kept is new
  kept_new : (history : List Event) (new : List ℕ) → IsMadeByCalls naming (RecordKept new ∷ history)
      → has (book_after history).held new ≡ false
  kept_new history new made = (kept_passes naming (book_after history) new made.0).is_new

  -- one that is held already is another
  held_other : (history : List Event) (new bytes : List ℕ)
      → has (book_after history).held new ≡ false → has (book_after history).held bytes ≡ true
      → is bytes new ≡ false
  held_other history new bytes out there =
      elim (is bytes new) as (λ t. is bytes new ≡ t → t ≡ false) [
        | true ↦ λ same.
            absurd (true≢false (sym there
            ∙ ap (has (book_after history).held) (tells_apart exact_bytes bytes new same) ∙ out))
        | false ↦ λ apart. refl
      ] refl

  none : (history : List Event) (bytes : List ℕ) → IsMadeByCalls naming history
      → has (book_after history).held bytes ≡ false → times_kept (journal history) bytes ≡ 0
  none [] bytes made out = refl
  none (RecordKept new ∷ older) bytes made out =
      let both = neither (is bytes new) (has (book_after older).held bytes)
      (sym (has_with (book_after older).held new bytes) ∙ out) in
      other-times new bytes (journal older) both.0 ∙ none older bytes made.1 both.1
  none (event ∷ older) bytes made out =
      (alike_after event (rulings older) (journal older) tt).times bytes
      ∙ none older bytes made.1 out

  -- so the new one is in one entry then, or in none
  fresh : (history : List Event) (new : List ℕ) → IsMadeByCalls naming (RecordKept new ∷ history)
      → times_kept (journal (RecordKept new ∷ history)) new ≡ cond (goes_on_in (journal history)) 1 0
  fresh history new made =
      let out = none history new made.1 (kept_new history new made) in
      elim (goes_on_in (journal history)) as (λ b. goes_on_in (journal history) ≡ b
      → times_kept (journal (RecordKept new ∷ history)) new ≡ cond b 1 0) [
        | true ↦ λ on. new-times new (journal history) on out
        | false ↦ λ off.
            ap (λ entries. times_kept entries new) (still-all new (journal history) off) ∙ out
      ] refl

  cond_few : (b : Bool) → cond b 1 0 ≤ 1
  cond_few true = omega arith
  cond_few false = omega arith

  once : (history : List Event) (bytes : List ℕ) → IsMadeByCalls naming history
      → times_kept (journal history) bytes ≤ 1
  once [] bytes made = omega arith
  once (RecordKept new ∷ older) bytes made =
      elim (is bytes new) as (λ t. is bytes new ≡ t
      → times_kept (journal (RecordKept new ∷ older)) bytes ≤ 1) [
        | true ↦ λ same.
            subst (λ bytes. times_kept (journal (RecordKept new ∷ older)) bytes ≤ 1)
            (sym (tells_apart exact_bytes bytes new same))
            (subst (λ n. n ≤ 1) (sym (fresh older new made))
            (cond_few (goes_on_in (journal older))))
        | false ↦ λ apart.
            subst (λ n. n ≤ 1) (sym (other-times new bytes (journal older) apart))
            (once older bytes made.1)
      ] refl
  once (event ∷ older) bytes made =
      subst (λ n. n ≤ 1)
      (sym ((alike_after event (rulings older) (journal older) tt).times bytes))
      (once older bytes made.1)

  -- an import went on, where none was kept outside
  went_on : (on : Bool) (outside : ℕ) → cond on outside (suc outside) ≡ 0
      → (on ≡ true) × (outside ≡ 0)
  went_on true outside is = (refl, is)
  went_on false outside is = absurd (omega arith)

  all : (history : List Event) (bytes : List ℕ) → IsMadeByCalls naming history
      → kept_outside history ≡ 0 → has (book_after history).held bytes ≡ true
      → times_kept (journal history) bytes ≡ 1
  all [] bytes made outside there = absurd (true≢false (sym there ∙ none_in bytes))
  all (RecordKept new ∷ older) bytes made outside there =
      let on = went_on (goes_on_in (journal older)) (kept_outside older) outside in
      one_or (book_after older).held new bytes there
      (λ same.
      ap (times_kept (journal (RecordKept new ∷ older))) same
      ∙ fresh older new made
      ∙ ap (λ b. cond b 1 0) on.0)
      (λ held.
      other-times new bytes (journal older)
      (held_other older new bytes (kept_new older new made) held)
      ∙ all older bytes made.1 on.1 held)
  all (event ∷ older) bytes made outside there =
      (alike_after event (rulings older) (journal older) tt).times bytes
      ∙ all older bytes made.1 outside there

  sum : (history : List Event) → IsMadeByCalls naming history
      → kept_in_all (journal history) + kept_outside history
      ≡ length (members (book_after history).held)
  sum [] made = sym (ap length (members-empty by_bytes))
  sum (RecordKept new ∷ older) made =
      let before = sum older made.1 in
      let is_new = kept_new older new made in
      let more = length-alike (members_with (book_after older).held new is_new) in
      elim (goes_on_in (journal older)) as (λ b. goes_on_in (journal older) ≡ b
      → kept_in_all (journal (RecordKept new ∷ older))
      + cond b (kept_outside older) (suc (kept_outside older))
      ≡ length (members (with (book_after older).held new))) [
        | true ↦ λ on.
            let one = new-sum new (journal older) on (none older new made.1 is_new) in
            omega arith
        | false ↦ λ off.
            let same = ap kept_in_all (still-all new (journal older) off) in
            omega arith
      ] refl
  sum (event ∷ older) made =
      ap (λ n. n + kept_outside (event ∷ older))
      (alike_after event (rulings older) (journal older) tt).sum
      ∙ sum older made.1

  stays : (history : List Event) (event : Event) (bytes : List ℕ)
      → IsMadeByCalls naming (event ∷ history)
      → has (book_after history).held bytes ≡ true
      → came_by (journal (event ∷ history)) bytes ≡ came_by (journal history) bytes
  stays history (RecordKept new) bytes made there =
      other-came new bytes (journal history)
      (held_other history new bytes (kept_new history new made) there)
  stays history event bytes made there =
      (alike_after event (rulings history) (journal history) tt).came bytes

-- an entry has a number above 0
told : (entries : List Entry) (bytes : List ℕ)
    → (came_by entries bytes == 0) ≡ (times_kept entries bytes == 0)
told [] bytes = refl
told (entry ∷ older) bytes =
    elim (has (kept_by entry.act) bytes) as (λ b.
    (cond b (length older + 1) (came_by older bytes) == 0)
    ≡ (cond b 1 0 + times_kept older bytes == 0)) [
      | true ↦ both_some (length older) (times_kept older bytes)
      | false ↦ told older bytes ∙ ap (λ n. n == 0) (none_more (times_kept older bytes))
    ]
    ∙ sym (ap (λ n. n == 0) (times-cons entry older bytes))
  where
    none_more : (n : ℕ) → n ≡ 0 + n
    none_more n = omega arith

    both_some : (n m : ℕ) → (n + 1 == 0) ≡ (1 + m == 0)
    both_some n m =
        ne_eqb (n + 1) 0 (λ same. omega arith) ∙ sym (ne_eqb (1 + m) 0 (λ same. omega arith))

pub each_came_once : EachCameOnce
each_came_once = record {
  none = λ naming history bytes made out. none naming history bytes made out;
  once = λ naming history bytes made. once naming history bytes made;
  all = λ naming history bytes made outside there. all naming history bytes made outside there;
  sum = λ naming history made. sum naming history made;
  stays = λ naming history event bytes made there. stays naming history event bytes made there;
  told = told;
}

-- ---- no entry changes or goes

-- a change of what an entry is about, which leaves what is settled
record Careful (change : Act → Act) : Type 0 where
  still : (act : Act) → goes_on act ≡ false → change act ≡ act
  kept : (act : Act) (bytes : List ℕ) → has (kept_by act) bytes ≡ true
      → has (kept_by (change act)) bytes ≡ true

keep-careful : (new : List ℕ) → Careful (keep_in new)
keep-careful new = record {
  still = keep-still new;
  kept = λ act bytes there.
      elim (is bytes new) as (λ t. is bytes new ≡ t
      → has (kept_by (keep_in new act)) bytes ≡ true) [
        | true ↦ λ same. same_kept act bytes same there
        | false ↦ λ apart. keep-other new bytes act apart ∙ there
      ] refl;
}
  where
    same_kept : (act : Act) (bytes : List ℕ) → is bytes new ≡ true
        → has (kept_by act) bytes ≡ true → has (kept_by (keep_in new act)) bytes ≡ true
    same_kept (Ruled place) bytes same there = there
    same_kept (Importing reading kept) bytes same there =
        has_with kept new bytes ∙ ap (λ b. b || has kept bytes) same
    same_kept (Imported reading ending kept) bytes same there = there

read-careful : (reading : Reading) → Careful (read_on reading)
read-careful reading = record {
  still = still;
  kept = λ act bytes there. ap (λ kept. has kept bytes) (read-kept reading act) ∙ there;
}
  where
    still : (act : Act) → goes_on act ≡ false → read_on reading act ≡ act
    still (Ruled place) off = refl
    still (Importing before kept) off = absurd (true≢false off)
    still (Imported before ending kept) off = refl

end-careful : (ending : Ending) → Careful (end_with ending)
end-careful ending = record {
  still = still;
  kept = λ act bytes there. ap (λ kept. has kept bytes) (end-kept ending act) ∙ there;
}
  where
    still : (act : Act) → goes_on act ≡ false → end_with ending act ≡ act
    still (Ruled place) off = refl
    still (Importing reading kept) off = absurd (true≢false off)
    still (Imported reading before kept) off = refl

module _ (entry : Entry) (older : List Entry) where
  -- an entry more
  stays-more : (now : List Entry) (new : Entry) → Stays entry older now → Stays entry older (new ∷ now)
  stays-more now new was = record {
    newer = new ∷ was.newer;
    own = was.own;
    place = ap (λ rest. new ∷ rest) was.place;
    note = was.note;
    settled = was.settled;
    kept = was.kept;
  }

  -- the newest changed
  stays-changed : (change : Act → Act) → Careful change → (newer : List Entry) (own : Entry)
      → own.note ≡ entry.note
      → (goes_on entry.act ≡ false → own ≡ entry)
      → ((bytes : List ℕ) → has (kept_by entry.act) bytes ≡ true
      → has (kept_by own.act) bytes ≡ true)
      → Stays entry older (change_newest change (newer ++ own ∷ older))
  stays-changed change careful [] own note settled kept = record {
    newer = [];
    own = record own { act = change own.act };
    place = refl;
    note = note;
    settled = λ off.
        let same = settled off in
        ap (λ (own : Entry). record own { act = change own.act }) same
        ∙ ap (λ act. record entry { act = act }) (careful.still entry.act off);
    kept = λ bytes there. careful.kept own.act bytes (kept bytes there);
  }
  stays-changed change careful (new ∷ newer) own note settled kept = record {
    newer = record new { act = change new.act } ∷ newer;
    own = own;
    place = refl;
    note = note;
    settled = settled;
    kept = kept;
  }

  stays-change : (change : Act → Act) → Careful change → (now : List Entry)
      → Stays entry older now → Stays entry older (change_newest change now)
  stays-change change careful now was =
      subst (λ now. Stays entry older (change_newest change now)) (sym was.place)
      (stays-changed change careful was.newer was.own was.note was.settled was.kept)

  stays-entry : (said : Option Note) (act : Act) (now : List Entry)
      → Stays entry older now → Stays entry older (with_entry said act now)
  stays-entry None act now was = was
  stays-entry (Some note) act now was = stays-more now (record { note = note; act = act }) was

  stays_after : (event : Event) (ruled : Rulings) (now : List Entry)
      → Stays entry older now → Stays entry older (entries_after event ruled now)
  stays_after (RecordKept bytes) ruled now was =
      stays-change (keep_in bytes) (keep-careful bytes) now was
  stays_after (PeriodClosed said day) ruled now was =
      stays-entry said (Ruled (CloseOf (open_by ruled))) now was
  stays_after (RulingGiven said ruling) ruled now was =
      stays-entry said (Ruled (place_of ruling ruled)) now was
  stays_after (ImportBegun note) ruled now was =
      stays-more now (record { note = note; act = Importing nothing_read fin.empty }) was
  stays_after (ImportRead reading) ruled now was =
      stays-change (read_on reading) (read-careful reading) now was
  stays_after (ImportEnded ending) ruled now was =
      stays-change (end_with ending) (end-careful ending) now was

pub entries_stay : EntriesStay
entries_stay before entry older [] is = record {
  newer = [];
  own = entry;
  place = is;
  note = refl;
  settled = λ off. refl;
  kept = λ bytes there. there;
}
entries_stay before entry older (event ∷ earlier) is =
    stays_after entry older event (after_all earlier before).rulings
    (after_all earlier before).journal (entries_stay before entry older earlier is)

-- ---- the journal has the rulings, in their order

-- what is named of a kind that imports have not
abbrev IsOfRulings : {X : Type 0} → (Act → Option X) → Type 0
IsOfRulings kind =
    ((reading : Reading) (kept : Records) → kind (Importing reading kept) ≡ None)
    × ((reading : Reading) (ending : Ending) (kept : Records)
    → kind (Imported reading ending kept) ≡ None)

module _ {X : Type 0} (kind : Act → Option X) (ruled : IsOfRulings kind) where
  named-kept : (bytes : List ℕ) (act : Act) → kind (keep_in bytes act) ≡ kind act
  named-kept bytes (Ruled place) = refl
  named-kept bytes (Importing reading kept) =
      ruled.0 reading (with kept bytes) ∙ sym (ruled.0 reading kept)
  named-kept bytes (Imported reading ending kept) = refl

  named-read : (reading : Reading) (act : Act) → kind (read_on reading act) ≡ kind act
  named-read reading (Ruled place) = refl
  named-read reading (Importing before kept) =
      ruled.0 reading kept ∙ sym (ruled.0 before kept)
  named-read reading (Imported before ending kept) = refl

  named-ended : (ending : Ending) (act : Act) → kind (end_with ending act) ≡ kind act
  named-ended ending (Ruled place) = refl
  named-ended ending (Importing reading kept) =
      ruled.1 reading ending kept ∙ sym (ruled.0 reading kept)
  named-ended ending (Imported reading before kept) = refl

  named-changed : (change : Act → Act) → ((act : Act) → kind (change act) ≡ kind act)
      → (entries : List Entry)
      → entered kind (change_newest change entries) ≡ entered kind entries
  named-changed change same [] = refl
  named-changed change same (entry ∷ older) =
      ap (λ found. cons_option found (entered kind older)) (same entry.act)

  named-begun : (note : Note) (entries : List Entry)
      → entered kind (record { note = note; act = Importing nothing_read fin.empty } ∷ entries)
      ≡ entered kind entries
  named-begun note entries =
      ap (λ found. cons_option found (entered kind entries)) (ruled.0 nothing_read fin.empty)

-- one number more
one_more : {X : Type 0} (list : List X) (x : X)
    → (length list + 1) ∷ down_from (length list) ≡ down_from (length (list ++ x ∷ []))
one_more list x =
    let more : length (list ++ x ∷ []) ≡ suc (length list) =
    length-append list (x ∷ []) ∙ omega arith in
    let one : length list + 1 ≡ suc (length list) = omega arith in
    ap (λ n. n ∷ down_from (length list)) one ∙ ap down_from (sym more)

closes_entered : (history : List Event) → AreNoted history
    → entered close_in (journal history) ≡ down_from (length (rulings history).closes)
closes_entered [] noted = refl
closes_entered (RecordKept bytes ∷ older) noted =
    named-changed close_in ((λ r k. refl), (λ r e k. refl)) (keep_in bytes)
    (named-kept close_in ((λ r k. refl), (λ r e k. refl)) bytes) (journal older)
    ∙ closes_entered older noted
closes_entered (PeriodClosed None day ∷ older) noted = absurd noted
closes_entered (PeriodClosed (Some note) day ∷ older) noted =
    ap (λ rest. open_by (rulings older) ∷ rest) (closes_entered older noted)
    ∙ one_more (rulings older).closes day
closes_entered (RulingGiven None ruling ∷ older) noted = absurd noted
closes_entered (RulingGiven (Some note) (TariffAccepted text terms) ∷ older) noted =
    closes_entered older noted
closes_entered (RulingGiven (Some note) (TariffReplaced text terms) ∷ older) noted =
    closes_entered older noted
closes_entered (RulingGiven (Some note) (RecordChosen bytes) ∷ older) noted =
    closes_entered older noted
closes_entered (RulingGiven (Some note) (WorkWithheld bytes) ∷ older) noted =
    closes_entered older noted
closes_entered (RulingGiven (Some note) SecondRuleAdopted ∷ older) noted =
    closes_entered older noted
closes_entered (RulingGiven (Some note) (CreditGiven centre amount reason) ∷ older) noted =
    closes_entered older noted
closes_entered (ImportBegun note ∷ older) noted = closes_entered older noted
closes_entered (ImportRead reading ∷ older) noted =
    named-changed close_in ((λ r k. refl), (λ r e k. refl)) (read_on reading)
    (named-read close_in ((λ r k. refl), (λ r e k. refl)) reading) (journal older)
    ∙ closes_entered older noted
closes_entered (ImportEnded ending ∷ older) noted =
    named-changed close_in ((λ r k. refl), (λ r e k. refl)) (end_with ending)
    (named-ended close_in ((λ r k. refl), (λ r e k. refl)) ending) (journal older)
    ∙ closes_entered older noted

choices_entered : (history : List Event) → AreNoted history
    → entered choice_in (journal history) ≡ down_from (length (rulings history).choices)
choices_entered [] noted = refl
choices_entered (RecordKept bytes ∷ older) noted =
    named-changed choice_in ((λ r k. refl), (λ r e k. refl)) (keep_in bytes)
    (named-kept choice_in ((λ r k. refl), (λ r e k. refl)) bytes) (journal older)
    ∙ choices_entered older noted
choices_entered (PeriodClosed None day ∷ older) noted = absurd noted
choices_entered (PeriodClosed (Some note) day ∷ older) noted = choices_entered older noted
choices_entered (RulingGiven None ruling ∷ older) noted = absurd noted
choices_entered (RulingGiven (Some note) (TariffAccepted text terms) ∷ older) noted =
    choices_entered older noted
choices_entered (RulingGiven (Some note) (TariffReplaced text terms) ∷ older) noted =
    choices_entered older noted
choices_entered (RulingGiven (Some note) (RecordChosen bytes) ∷ older) noted =
    ap (λ rest. (length (rulings older).choices + 1) ∷ rest) (choices_entered older noted)
    ∙ one_more (rulings older).choices _
choices_entered (RulingGiven (Some note) (WorkWithheld bytes) ∷ older) noted =
    ap (λ rest. (length (rulings older).choices + 1) ∷ rest) (choices_entered older noted)
    ∙ one_more (rulings older).choices _
choices_entered (RulingGiven (Some note) SecondRuleAdopted ∷ older) noted =
    choices_entered older noted
choices_entered (RulingGiven (Some note) (CreditGiven centre amount reason) ∷ older) noted =
    choices_entered older noted
choices_entered (ImportBegun note ∷ older) noted = choices_entered older noted
choices_entered (ImportRead reading ∷ older) noted =
    named-changed choice_in ((λ r k. refl), (λ r e k. refl)) (read_on reading)
    (named-read choice_in ((λ r k. refl), (λ r e k. refl)) reading) (journal older)
    ∙ choices_entered older noted
choices_entered (ImportEnded ending ∷ older) noted =
    named-changed choice_in ((λ r k. refl), (λ r e k. refl)) (end_with ending)
    (named-ended choice_in ((λ r k. refl), (λ r e k. refl)) ending) (journal older)
    ∙ choices_entered older noted

credits_entered : (history : List Event) → AreNoted history
    → entered credit_in (journal history) ≡ down_from (length (rulings history).credits)
credits_entered [] noted = refl
credits_entered (RecordKept bytes ∷ older) noted =
    named-changed credit_in ((λ r k. refl), (λ r e k. refl)) (keep_in bytes)
    (named-kept credit_in ((λ r k. refl), (λ r e k. refl)) bytes) (journal older)
    ∙ credits_entered older noted
credits_entered (PeriodClosed None day ∷ older) noted = absurd noted
credits_entered (PeriodClosed (Some note) day ∷ older) noted = credits_entered older noted
credits_entered (RulingGiven None ruling ∷ older) noted = absurd noted
credits_entered (RulingGiven (Some note) (TariffAccepted text terms) ∷ older) noted =
    credits_entered older noted
credits_entered (RulingGiven (Some note) (TariffReplaced text terms) ∷ older) noted =
    credits_entered older noted
credits_entered (RulingGiven (Some note) (RecordChosen bytes) ∷ older) noted =
    credits_entered older noted
credits_entered (RulingGiven (Some note) (WorkWithheld bytes) ∷ older) noted =
    credits_entered older noted
credits_entered (RulingGiven (Some note) SecondRuleAdopted ∷ older) noted =
    credits_entered older noted
credits_entered (RulingGiven (Some note) (CreditGiven centre amount reason) ∷ older) noted =
    ap (λ rest. (length (rulings older).credits + 1) ∷ rest) (credits_entered older noted)
    ∙ one_more (rulings older).credits _
credits_entered (ImportBegun note ∷ older) noted = credits_entered older noted
credits_entered (ImportRead reading ∷ older) noted =
    named-changed credit_in ((λ r k. refl), (λ r e k. refl)) (read_on reading)
    (named-read credit_in ((λ r k. refl), (λ r e k. refl)) reading) (journal older)
    ∙ credits_entered older noted
credits_entered (ImportEnded ending ∷ older) noted =
    named-changed credit_in ((λ r k. refl), (λ r e k. refl)) (end_with ending)
    (named-ended credit_in ((λ r k. refl), (λ r e k. refl)) ending) (journal older)
    ∙ credits_entered older noted

-- the last of a list is the first of it turned round
turned_last : {X : Type 0} (list : List X) (last : X)
    → newest_first (list ++ last ∷ []) ≡ last ∷ newest_first list
turned_last [] last = refl
turned_last (first ∷ later) last = ap (λ rest. rest ++ first ∷ []) (turned_last later last)

-- a tariff in the place of another leaves the days
days_stay : (new : AcceptedTerms) (tariffs : List AcceptedTerms)
    → map (λ (tariff : AcceptedTerms). tariff.terms.effective) (map (or_new new) tariffs)
    ≡ map (λ (tariff : AcceptedTerms). tariff.terms.effective) tariffs
days_stay new [] = refl
days_stay new (tariff ∷ tariffs) =
    let day = same_day new tariff in
    let rest = days_stay new tariffs in
    λ i. day i ∷ rest i

one_day_more : (tariffs : List AcceptedTerms) (tariff : AcceptedTerms)
    → days_back (tariffs ++ tariff ∷ []) ≡ tariff.terms.effective ∷ days_back tariffs
one_day_more tariffs tariff =
    let day : AcceptedTerms → ℤ = λ tariff. tariff.terms.effective in
    ap newest_first (map-append day tariffs (tariff ∷ []))
    ∙ turned_last (map day tariffs) tariff.terms.effective

tariffs_entered : (history : List Event) → AreNoted history
    → entered tariff_in (journal history) ≡ days_back (rulings history).tariffs
tariffs_entered [] noted = refl
tariffs_entered (RecordKept bytes ∷ older) noted =
    named-changed tariff_in ((λ r k. refl), (λ r e k. refl)) (keep_in bytes)
    (named-kept tariff_in ((λ r k. refl), (λ r e k. refl)) bytes) (journal older)
    ∙ tariffs_entered older noted
tariffs_entered (PeriodClosed None day ∷ older) noted = absurd noted
tariffs_entered (PeriodClosed (Some note) day ∷ older) noted = tariffs_entered older noted
tariffs_entered (RulingGiven None ruling ∷ older) noted = absurd noted
tariffs_entered (RulingGiven (Some note) (TariffAccepted text terms) ∷ older) noted =
    ap (λ rest. terms.effective ∷ rest) (tariffs_entered older noted)
    ∙ sym (one_day_more (rulings older).tariffs (record { text = text; terms = terms }))
tariffs_entered (RulingGiven (Some note) (TariffReplaced text terms) ∷ older) noted =
    tariffs_entered older noted
    ∙ sym (ap newest_first
    (days_stay (record { text = Some text; terms = terms }) (rulings older).tariffs))
tariffs_entered (RulingGiven (Some note) (RecordChosen bytes) ∷ older) noted =
    tariffs_entered older noted
tariffs_entered (RulingGiven (Some note) (WorkWithheld bytes) ∷ older) noted =
    tariffs_entered older noted
tariffs_entered (RulingGiven (Some note) SecondRuleAdopted ∷ older) noted =
    tariffs_entered older noted
tariffs_entered (RulingGiven (Some note) (CreditGiven centre amount reason) ∷ older) noted =
    tariffs_entered older noted
tariffs_entered (ImportBegun note ∷ older) noted = tariffs_entered older noted
tariffs_entered (ImportRead reading ∷ older) noted =
    named-changed tariff_in ((λ r k. refl), (λ r e k. refl)) (read_on reading)
    (named-read tariff_in ((λ r k. refl), (λ r e k. refl)) reading) (journal older)
    ∙ tariffs_entered older noted
tariffs_entered (ImportEnded ending ∷ older) noted =
    named-changed tariff_in ((λ r k. refl), (λ r e k. refl)) (end_with ending)
    (named-ended tariff_in ((λ r k. refl), (λ r e k. refl)) ending) (journal older)
    ∙ tariffs_entered older noted

adoption_entered : (naming : Naming) (history : List Event) → IsMadeByCalls naming history
    → AreNoted history
    → entered adoption_in (journal history) ≡ adoption_once (rulings history).adopted
adoption_entered naming [] made noted = refl
adoption_entered naming (RecordKept bytes ∷ older) made noted =
    named-changed adoption_in ((λ r k. refl), (λ r e k. refl)) (keep_in bytes)
    (named-kept adoption_in ((λ r k. refl), (λ r e k. refl)) bytes) (journal older)
    ∙ adoption_entered naming older made.1 noted
adoption_entered naming (PeriodClosed None day ∷ older) made noted = absurd noted
adoption_entered naming (PeriodClosed (Some note) day ∷ older) made noted =
    adoption_entered naming older made.1 noted
adoption_entered naming (RulingGiven None ruling ∷ older) made noted = absurd noted
adoption_entered naming (RulingGiven (Some note) (TariffAccepted text terms) ∷ older) made noted =
    adoption_entered naming older made.1 noted
adoption_entered naming (RulingGiven (Some note) (TariffReplaced text terms) ∷ older) made noted =
    adoption_entered naming older made.1 noted
adoption_entered naming (RulingGiven (Some note) (RecordChosen bytes) ∷ older) made noted =
    adoption_entered naming older made.1 noted
adoption_entered naming (RulingGiven (Some note) (WorkWithheld bytes) ∷ older) made noted =
    adoption_entered naming older made.1 noted
adoption_entered naming (RulingGiven (Some note) SecondRuleAdopted ∷ older) made noted =
    let never : (rulings older).adopted ≡ None =
    sym (ap (λ (ruled : Rulings). ruled.adopted) (rulings_are older))
    ∙ first_adopted (book_after older) made.0 in
    ap (λ rest. tt ∷ rest)
    (adoption_entered naming older made.1 noted ∙ ap adoption_once never)
adoption_entered naming (RulingGiven (Some note) (CreditGiven centre amount reason) ∷ older) made
    noted =
    adoption_entered naming older made.1 noted
adoption_entered naming (ImportBegun note ∷ older) made noted =
    adoption_entered naming older made.1 noted
adoption_entered naming (ImportRead reading ∷ older) made noted =
    named-changed adoption_in ((λ r k. refl), (λ r e k. refl)) (read_on reading)
    (named-read adoption_in ((λ r k. refl), (λ r e k. refl)) reading) (journal older)
    ∙ adoption_entered naming older made.1 noted
adoption_entered naming (ImportEnded ending ∷ older) made noted =
    named-changed adoption_in ((λ r k. refl), (λ r e k. refl)) (end_with ending)
    (named-ended adoption_in ((λ r k. refl), (λ r e k. refl)) ending) (journal older)
    ∙ adoption_entered naming older made.1 noted

pub rulings_are_entered : RulingsAreEntered
rulings_are_entered = record {
  adoption = adoption_entered;
  tariffs = tariffs_entered;
  closes = closes_entered;
  choices = choices_entered;
  credits = credits_entered;
}

-- the journal of the book is that of the history
pub journal_is : (history : List Event) → (book_after history).journal ≡ journal history
journal_is [] = refl
journal_is (event ∷ older) =
    let ruled = rulings_are older in
    let before = journal_is older in
    λ i. entries_after event (ruled i) (before i)
