-- The entries of the journal, as they are made of what calls said.
use Rattle.std.proofs.Common.{◌≡◌, ◌∙◌, ◌+◌, ◌++◌, ◌||◌, ◌<◌, ◌≤◌, ℕ, zero, suc, Bool, true, false, List}
use Rattle.std.proofs.Common.{[], ◌∷◌, None, Option, Some, Vec, Global, append-nil, append_assoc, ap}
use Rattle.std.proofs.Common.{length-take-le}
use Rattle.std.proofs.Common.{arith, cond, get_or, length, option_map, refl, slice_get, sym, take}
use Rattle.std.proofs.lemmas.List.{take_more}
use Rattle.std.proofs.Math.Bool.{or-true}
use Rattle.book_model.proofs.Std.{list_any}
use Rattle.book_model.specs.declared.note.Stop.{Stop}
use Rattle.book_model.specs.Journal.{Entry, Importing, Note, Reading, change_newest, came_by}
use Rattle.book_model.specs.Journal.{keep_in, kept_by, read_on}
use Rattle.book_model.specs.Words.{EntrySeen, Naming, RecordKept, Records, Rulings, entries_listed}
use Rattle.book_model.specs.Words.{entry_seen, has, members, note_shown, reading_shown, same_bytes}
use Rattle.book_model.specs.Words.{told, told_end, with}
use Rattle.book_model.proofs.Lemmas.{length-alike, none_in, same_records}
use Rattle.book_model.proofs.RecordSets.{has_with}
use Rattle.book_model.proofs.SetChanges.{by_record, members_with}
use Rattle.book_core.specs.Submissions.{records_in}
use Rattle.book_core.proofs.ArrivalLemmas.{swapped}
use Rattle.plain_ledger.specs.declared.journal.Said.{Said}
use Rattle.plain_ledger.specs.declared.journal.Said.TheVariants as what
use Rattle.plain_ledger.specs.declared.made_entries.MadeEntry.{MadeEntry}
use Rattle.plain_ledger.specs.Journals.{entries_by, said_after}
use Rattle.plain_ledger.specs.MadeEntries.{act_of, begun_by, change_by, end_where, entries_made}
use Rattle.plain_ledger.specs.MadeEntries.{entry_of, joined_by, kept_from, kept_of, made_from}
use Rattle.std.specs.FinMap as fin

-- ---- records that were kept

-- one more comes last
pub kept_more : (records : Records) (before : List (List ℕ)) (bytes : List ℕ)
    → kept_from records (before ++ bytes ∷ []) ≡ with (kept_from records before) bytes
kept_more records [] bytes = refl
kept_more records (first ∷ before) bytes = kept_more (with records first) before bytes

pub with_one : (before : List (Vec ℕ Global)) (own : Vec ℕ Global)
    → kept_of (before ++ own ∷ []) ≡ with (kept_of before) own.items
with_one before own =
    ap (kept_from fin.empty) (one_more before) ∙ kept_more fin.empty (records_in before) own.items
  where
    one_more : (before : List (Vec ℕ Global))
        → records_in (before ++ own ∷ []) ≡ records_in before ++ own.items ∷ []
    one_more [] = refl
    one_more (first ∷ before) = ap (λ list. first.items ∷ list) (one_more before)

-- which are among them
among_shuffled : (a b c : Bool) → (b || (a || c)) ≡ ((a || b) || c)
among_shuffled true b c = or-true b
among_shuffled false b c = refl

has_kept : (records : Records) (list : List (List ℕ)) (bytes : List ℕ)
    → has (kept_from records list) bytes
    ≡ (list_any (λ one. same_bytes one bytes) list || has records bytes)
has_kept records [] bytes = refl
has_kept records (first ∷ list) bytes =
    let rest : Bool = list_any (λ one. same_bytes one bytes) list in
    has_kept (with records first) list bytes
    ∙ ap (λ b. rest || b) (has_with records first bytes)
    ∙ ap (λ b. rest || (b || has records bytes)) (swapped bytes first)
    ∙ among_shuffled (same_bytes first bytes) rest (has records bytes)

-- what a look through them finds
pub kept_among : (kept : List (Vec ℕ Global)) (bytes : List ℕ)
    → list_any (λ (one : Vec ℕ Global). same_bytes one.items bytes) kept ≡ has (kept_of kept) bytes
kept_among kept bytes =
    each kept
    ∙ sym (has_kept fin.empty (records_in kept) bytes
    ∙ ap (λ b. list_any (λ one. same_bytes one bytes) (records_in kept) || b) (none_in bytes)
    ∙ or_none (list_any (λ one. same_bytes one bytes) (records_in kept)))
  where
    or_none : (b : Bool) → (b || false) ≡ b
    or_none true = refl
    or_none false = refl

    each : (kept : List (Vec ℕ Global))
        → list_any (λ (one : Vec ℕ Global). same_bytes one.items bytes) kept
        ≡ list_any (λ one. same_bytes one bytes) (records_in kept)
    each [] = refl
    each (first ∷ kept) = ap (λ b. same_bytes first.items bytes || b) (each kept)

-- one that is there leaves the set as it is, and else it has one more
with_again : (records : Records) (bytes : List ℕ) → has records bytes ≡ true
    → with records bytes ≡ records
with_again records bytes there =
    same_records (with records bytes) records (λ other.
    has_with records bytes other
    ∙ by_record other bytes (λ b. b || has records other) (λ b. has records other)
    (λ same. sym (ap (has records) same ∙ there))
    (λ apart. refl))

pub one_counted : (records : Records) (bytes : List ℕ) (there : Bool) → has records bytes ≡ there
    → length (members (with records bytes))
    ≡ cond there (length (members records)) (length (members records) + 1)
one_counted records bytes true is =
    ap (λ all. length (members all)) (with_again records bytes is)
one_counted records bytes false new =
    let more = length-alike (members_with records bytes new) in
    omega arith

-- so one more is counted where it is new
pub next_counted : (kept : List (Vec ℕ Global)) (at : ℕ) (one : Vec ℕ Global) → at < length kept
    → one ≡ get_or kept at one → (there : Bool)
    → has (kept_of (take at kept)) one.items ≡ there → (count : ℕ)
    → count ≡ length (members (kept_of (take at kept)))
    → cond there count (count + 1) ≡ length (members (kept_of (take (at + 1) kept)))
next_counted kept at one within is there has_it count counted =
    ap (λ n. cond there n (n + 1)) counted
    ∙ sym (one_counted (kept_of (take at kept)) one.items there has_it)
    ∙ ap (λ records. length (members records)) (sym (with_one (take at kept) one))
    ∙ ap (λ some. length (members (kept_of some)))
    (sym (take_more kept at one within ∙ ap (λ own. take at kept ++ own ∷ []) (sym is)))

pub few_more : (there : Bool) (count at now : ℕ) → now ≡ cond there count (count + 1) → count ≤ at
    → now ≤ at + 1
few_more true count at now is few = omega (arith, is, few)
few_more false count at now is few = omega (arith, is, few)

-- ---- entries

-- one more is the newest
pub made_more : (entries : List Entry) (before : List MadeEntry) (made : MadeEntry)
    → made_from entries (before ++ made ∷ []) ≡ entry_of made ∷ made_from entries before
made_more entries [] made = refl
made_more entries (first ∷ before) made = made_more (entry_of first ∷ entries) before made

-- as many as were made
pub made_count : (entries : List Entry) (made : List MadeEntry)
    → length (made_from entries made) ≡ length entries + length made
made_count entries [] = omega arith
made_count entries (first ∷ made) =
    let rest = made_count (entry_of first ∷ entries) made in
    omega (arith, rest)

-- what an import says with a record
told_is : (note : Note) (begun : Bool) (reading : Reading) (ending : Option Stop) (whole : Bool)
    (bytes : List ℕ) (entries : List Entry)
    → entries_by (told_end ending whole (told note begun reading (RecordKept bytes ∷ []))) entries
    ≡ joined_by (cond begun None (Some (record {
      note = note;
      act = end_where ending whole (Importing reading (with fin.empty bytes));
    }))) (λ act. end_where ending whole (read_on reading (keep_in bytes act))) entries
told_is note true reading None whole bytes [] = refl
told_is note true reading None whole bytes (entry ∷ older) = refl
told_is note true reading (Some stop) true bytes [] = refl
told_is note true reading (Some stop) true bytes (entry ∷ older) = refl
told_is note true reading (Some stop) false bytes [] = refl
told_is note true reading (Some stop) false bytes (entry ∷ older) = refl
told_is note false reading None whole bytes entries = refl
told_is note false reading (Some stop) true bytes entries = refl
told_is note false reading (Some stop) false bytes entries = refl

-- what one more call says begins an entry, or changes the newest
pub said_joins : (said : Said) (entries : List Entry)
    → said_after said entries ≡ joined_by (begun_by said) (change_by said) entries
said_joins (what.Ruling note standing) entries = refl
said_joins (what.Record bytes) entries = refl
said_joins (what.Import share whole bytes) entries =
    told_is (note_shown share.note) share.begun (reading_shown share.reading) share.ending whole
    bytes.items entries
said_joins (what.End stop) entries = refl

-- so it is with the entries that were made
pub begins : (said : Said) (before after : List MadeEntry) (made : MadeEntry)
    → after ≡ before ++ made ∷ [] → Some (entry_of made) ≡ begun_by said
    → entries_made after ≡ said_after said (entries_made before)
begins said before after made is begun =
    ap entries_made is ∙ made_more [] before made
    ∙ ap (λ found. joined_by found (change_by said) (entries_made before)) begun
    ∙ sym (said_joins said (entries_made before))

pub changes : (said : Said) (before rest after : List MadeEntry) (last made : MadeEntry)
    → None ≡ begun_by said → before ≡ rest ++ last ∷ [] → after ≡ rest ++ made ∷ []
    → entry_of made
    ≡ record { note = note_shown last.note; act = change_by said (act_of last.act) }
    → entries_made after ≡ said_after said (entries_made before)
changes said before rest after last made none was is changed =
    ap entries_made is ∙ made_more [] rest made
    ∙ ap (λ entry. entry ∷ entries_made rest) changed
    ∙ ap (change_newest (change_by said)) (sym (ap entries_made was ∙ made_more [] rest last))
    ∙ ap (λ found. joined_by found (change_by said) (entries_made before)) none
    ∙ sym (said_joins said (entries_made before))

pub stays : (said : Said) (before after : List MadeEntry) → None ≡ begun_by said → before ≡ []
    → after ≡ [] → entries_made after ≡ said_after said (entries_made before)
stays said before after none empty still =
    ap entries_made still
    ∙ ap (λ made. change_newest (change_by said) (entries_made made)) (sym empty)
    ∙ ap (λ found. joined_by found (change_by said) (entries_made before)) none
    ∙ sym (said_joins said (entries_made before))

-- nothing is as long as nothing
pub none_of : {X : Type 0} (list : List X) (n : ℕ) → n ≡ length list → n ≡ 0 → list ≡ []
none_of [] n long is = refl
none_of (first ∷ list) n long is = absurd (omega (arith, long, is))

-- ---- entries in order

module _ (naming : Naming) (rulings : Rulings) where
  -- those that were made, from a number on
  abbrev seen_from : ℕ → List MadeEntry → List EntrySeen
  seen_from number [] = []
  seen_from number (made ∷ later) =
      entry_seen naming rulings number (entry_of made) ∷ seen_from (suc number) later

  all_seen : (entries : List Entry) (made : List MadeEntry) (number : ℕ)
      → number ≡ length entries + 1
      → entries_listed naming rulings (made_from entries made)
      ≡ entries_listed naming rulings entries ++ seen_from number made
  all_seen entries [] number is = sym (append-nil (entries_listed naming rulings entries))
  all_seen entries (first ∷ made) number is =
      let own : EntrySeen = entry_seen naming rulings number (entry_of first) in
      all_seen (entry_of first ∷ entries) made (suc number) (omega (arith, is))
      ∙ ap (λ n. (entries_listed naming rulings entries
      ++ entry_seen naming rulings n (entry_of first) ∷ []) ++ seen_from (suc number) made) (sym is)
      ∙ append_assoc (entries_listed naming rulings entries) (own ∷ [])
      (seen_from (suc number) made)

  seen_at : (number place : ℕ) (made : List MadeEntry) → slice_get (seen_from number made) place
      ≡ option_map (λ (one : MadeEntry). entry_seen naming rulings (number + place) (entry_of one))
      (slice_get made place)
  seen_at number place [] = refl
  seen_at number zero (first ∷ made) =
      let same : number ≡ number + 0 = omega arith in
      ap (λ n. Some (entry_seen naming rulings n (entry_of first))) same
  seen_at number (suc place) (first ∷ made) =
      let same : suc number + place ≡ number + suc place = omega arith in
      seen_at (suc number) place made
      ∙ ap (λ n. option_map (λ (one : MadeEntry). entry_seen naming rulings n (entry_of one))
      (slice_get made place)) same

  -- the entry of a place
  pub made_at : (journal : List Entry) (made : List MadeEntry) (place : ℕ)
      → entries_made made ≡ journal
      → slice_get (entries_listed naming rulings journal) place
      ≡ option_map (λ (one : MadeEntry). entry_seen naming rulings (place + 1) (entry_of one))
      (slice_get made place)
  made_at journal made place is =
      let same : 1 + place ≡ place + 1 = omega arith in
      ap (λ entries. slice_get (entries_listed naming rulings entries) place) (sym is)
      ∙ ap (λ list. slice_get list place) (all_seen [] made 1 (omega arith))
      ∙ seen_at 1 place made
      ∙ ap (λ n. option_map (λ (one : MadeEntry). entry_seen naming rulings n (entry_of one))
      (slice_get made place)) same

-- ---- by which of them a record came

pub came_more : (made : List MadeEntry) (i : ℕ) (one : MadeEntry) (bytes : List ℕ)
    → i < length made → one ≡ get_or made i one
    → came_by (entries_made (take (i + 1) made)) bytes
    ≡ cond (has (kept_by (act_of one.act)) bytes) (i + 1)
    (came_by (entries_made (take i made)) bytes)
came_more made i one bytes within is =
    let count = made_count [] (take i made) in
    let long = length-take-le i made (omega (arith, within)) in
    let same : length (entries_made (take i made)) + 1 ≡ i + 1 = omega (arith, count, long) in
    ap (λ some. came_by (entries_made some) bytes)
    (take_more made i one within ∙ ap (λ own. take i made ++ own ∷ []) (sym is))
    ∙ ap (λ entries. came_by entries bytes) (made_more [] (take i made) one)
    ∙ ap (λ n. cond (has (kept_by (act_of one.act)) bytes) n
    (came_by (entries_made (take i made)) bytes)) same
