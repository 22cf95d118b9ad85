-- Records that are kept in one commit are staged one after another, and then the sums and the entry
-- that they joined.
use Rattle.std.proofs.Common.{◌≡◌, ◌∙◌, ◌+◌, ◌-◌, ◌<◌, ◌==◌, ℕ, Bool, List, [], ◌∷◌, None, Ok, Err, Option}
use Rattle.std.proofs.Common.{Result, Some, Vec, Global, IsErr, ap, arith, false, length, option_map}
use Rattle.std.proofs.Common.{refl, subst, sym, true}
use Rattle.book_model.specs.declared.note.Share.{Share}
use Rattle.book_model.specs.declared.note.Stop.{Stop}
use Rattle.book_model.specs.Words.{Book, Entry, Event, ImportBegun, ImportEnded, ImportRead, Importing}
use Rattle.book_model.specs.Words.{Naming, Note, Reading, after, after_all, change_newest, end_with}
use Rattle.book_model.specs.Words.{members, note_shown, nothing_read, read_on, read_with, reading_shown}
use Rattle.book_model.specs.Words.{stop_shown, told_by}
use Rattle.book_model.proofs.JournalLemmas.{end-kept, read-kept}
use Rattle.book_core.specs.Words.{Accepts, NoEvent, Takes}
use Rattle.book_core.proofs.SubmissionLemmas.{none_told, refused_one}
use Rattle.table_model.specs.Journaled.{AreEntries, IsJournaled}
use Rattle.table_model.specs.Tables.{JournalTable}
use Rattle.table_model.specs.Words.{Tables, set_sums, tables_of}
use Rattle.table_model.proofs.JournalChanges.{came-changed, came-none, came_table, rows_table}
use Rattle.table_model.proofs.JournalStays.{journaled_stays}
use Rattle.table_model.proofs.ReadableStays.{readable_still}
use Rattle.tree_rows.proofs.Calls.{only_looks}
use Rattle.tree_tables.specs.JournalColumns.{entry_stored}
use Rattle.table_ledger.specs.Groups.{FindsNewest, Joins, before_entry, begun_entries, begun_entry}
use Rattle.table_ledger.specs.Groups.{joined_by, joined_entry, joining, renewed}
use Rattle.table_ledger.specs.Premises.{HaveSums}
use Rattle.table_ledger.specs.Stages.{AnswersFirst, IsStaged, LeavesFirst, RefusesNext, StagesFirst}
use Rattle.table_ledger.specs.Stages.{StagesJoined}
use Rattle.table_ledger.specs.declared.groups.Joined.{Joined}
use Rattle.table_ledger.specs.declared.newest.Newest.{Newest}
use Rattle.table_ledger.specs.declared.summary.Summary.{Summary}
use Rattle.table_ledger.proofs.Words.{Accepted, Always, Does, HasCleanDisk, Holds, IsAt, IsAtAs}
use Rattle.table_ledger.proofs.Words.{IsStoredIn, LedgerFault, Saw, StagesMany, State, StoreError}
use Rattle.table_ledger.proofs.Words.{View, kept_last, only_both}
use Rattle.table_ledger.proofs.GroupEntries.{begun_book, group_renewed, joined_number, joins_found}
use Rattle.table_ledger.proofs.GroupEntries.{with_rows}
use Rattle.table_ledger.proofs.KeptGroups.{AreNew, accepted_new, accepts_beside, begun_with, ended}
use Rattle.table_ledger.proofs.KeptGroups.{held_more, told_left}
use Rattle.table_ledger.proofs.ManyLemmas.{open_as}
use Rattle.table_ledger.proofs.Remembered.{remembers_as}
use Rattle.table_ledger.proofs.StageLemmas.{unstaged, unstaged_where}
use Rattle.table_ledger.proofs.StepLemmas.{stands_only}
use Rattle.table_ledger.proofs.SumLemmas.{sums_there}
use Rattle.table_ledger.proofs.SurvivalLemmas.{clean_before, survives_then}
use Rattle.table_ledger.proofs.UnchangedStores.{stands_then, trees_same}
use Rattle.std.specs.FinMap as fin

-- ---- the entry that an import begins

-- no record came by it yet
begun_came : (naming : Naming) (note : Note) (begun : Bool) (book : Book)
    → came_table naming (begun_entry note begun book.journal) ≡ came_table naming book.journal
begun_came naming note true book = refl
begun_came naming note false book =
    came-none naming (record { note = note; act = Importing nothing_read fin.empty }) book.journal refl

begun_table : (naming : Naming) (import : Option Share) (book : Book)
    → came_table naming (begun_entries import book.journal) ≡ came_table naming book.journal
begun_table naming None book = refl
begun_table naming (Some share) book = begun_came naming (note_shown share.note) share.begun book

-- and calls can make the journal with it
begun_are : (naming : Naming) (note : Note) (begun : Bool) (book : Book) → IsJournaled book
    → AreEntries book.held (begun_entry note begun book.journal)
begun_are naming note true book are = are
begun_are naming note false book are = journaled_stays naming book (ImportBegun note) are tt

begun_all : (naming : Naming) (import : Option Share) (book : Book) → IsJournaled book
    → IsJournaled (begun_book import book)
begun_all naming None book are = are
begun_all naming (Some share) book are = begun_are naming (note_shown share.note) share.begun book are

-- ---- books that differ in their journals

-- What is written but for the sums and the entries is the same, where records came by the same
-- entries.
module _ (held amount : ℕ) (rows : JournalTable) (naming : Naming) (is : Summary) (view : View) where
  abbrev Written : Book → Type 0
  Written book = IsAtAs (before_entry held amount rows) naming is view book

  still_at : (book : Book) → Written book → (entries : List Entry)
      → came_table naming entries ≡ came_table naming book.journal
      → AreEntries book.held entries → Written (record book { journal = entries })
  still_at book at entries came are =
      let tables = before_entry held amount rows (tables_of naming book) in
      record {
        kept = record {
          readable = readable_still naming book entries at.kept.readable;
          journaled = are;
          holds = subst (Holds view.trees) (λ i. record tables { came = sym came i }) at.kept.holds;
        };
        remembers = record {
          rulings = at.remembers.rulings;
          choices = at.remembers.choices;
          replaced = at.remembers.replaced;
          credits = at.remembers.credits;
          held = at.remembers.held;
          total = at.remembers.total;
        };
      }

  -- so it is where an import has read on, and ends
  read_at : (reading : Reading) (book : Book) → Written book → Written (after (ImportRead reading) book)
  read_at reading book at =
      still_at book at (change_newest (read_on reading) book.journal)
      (came-changed naming (read_on reading) (read-kept reading) book.journal)
      (journaled_stays naming book (ImportRead reading) at.kept.journaled tt)

  ended_at : (ending : Option Stop) (whole : Bool) (book : Book) → Written book
      → Written (ended ending whole book)
  ended_at None true book at = at
  ended_at None false book at = at
  ended_at (Some stop) false book at = at
  ended_at (Some stop) true book at =
      let ending = stop_shown stop in
      still_at book at (change_newest (end_with ending) book.journal)
      (came-changed naming (end_with ending) (end-kept ending) book.journal)
      (journaled_stays naming book (ImportEnded ending) at.kept.journaled tt)

  -- What an import says with the records that were kept is written with them.
  told_at : (import : Option Share) (whole : Bool) (answers : List Accepted) (events : List Event)
      (book : Book) → IsJournaled book → Written (after_all events (begun_book import book))
      → Written (after_all (told_by import whole answers events) book)
  told_at None whole answers events book are at = at
  told_at (Some share) whole answers [] book are at =
      let begun : Book = begun_with (note_shown share.note) share.begun book in
      subst (λ events. Written (after_all events book)) (sym (none_told (Some share) whole answers))
      (still_at begun at book.journal (sym (begun_came naming (note_shown share.note) share.begun book))
      are)
  told_at (Some share) whole answers (newest ∷ earlier) book are at =
      let note : Note = note_shown share.note in
      let reading : Reading = read_with answers (reading_shown share.reading) in
      let left : Book = after_all (newest ∷ earlier) (begun_with note share.begun book) in
      subst Written
      (sym (told_left note share.begun book reading share.ending whole newest earlier))
      (ended_at share.ending whole (after (ImportRead reading) left) (read_at reading left at))

-- before the first record a book with that entry is written but for the entry and the sums, which
-- are remembered
begun_at : {naming : Naming} {was : Summary} {view : View} {book : Book} (import : Option Share)
    → IsAt naming was view book
    → IsAtAs (before_entry was.held was.total (rows_table book.journal)) naming was view
    (begun_book import book)
begun_at {naming} {was} {view} {book} import at =
    still_at was.held was.total (rows_table book.journal) naming was view book (record {
      kept = record {
        readable = at.kept.readable;
        journaled = at.kept.journaled;
        holds = subst (Holds view.trees) (sums_there naming at.remembers) at.kept.holds;
      };
      remembers = at.remembers;
    }) (begun_entries import book.journal) (begun_table naming import book)
    (begun_all naming import book at.kept.journaled)

-- the first of them was refused so, whatever the journal
refuses_beside : (naming : Naming) (records : List (List ℕ)) (book : Book) (entries : List Entry)
    (told : Result (Unit {0}) LedgerFault)
    → RefusesNext naming records (record book { journal = entries }) told
    → RefusesNext naming records book told
refuses_beside naming records book entries (Ok done) refuses = tt
refuses_beside naming records book entries (Err fault) refuses =
    record { makes = refuses.makes; reopens = refuses.reopens }

-- ---- the sums and the entry

module _ (naming : Naming) (joined : Option Joined) (import : Option Share) (count : ℕ)
    (records : List (List ℕ)) (was is : Summary) (first second : State) (came : Option ℕ)
    (joins_is : came ≡ option_map {U = ℕ} (λ (one : Joined). one.number) joined) where
  -- they are staged one after another
  abbrev Each : List Accepted → Result (Result (Unit {0}) LedgerFault) StoreError → Type 0
  Each answers staged =
      (rows : JournalTable)
      → StagesMany came (before_entry was.held was.total rows) naming records was is first second answers
      staged

  -- what is known of a book then
  abbrev EachOf : Book → List Accepted → Result (Unit {0}) LedgerFault → Type 0
  EachOf book answers told =
      IsStaged (before_entry was.held was.total (rows_table book.journal))
      (AnswersFirst naming records answers told) (LeavesFirst naming records) naming
      (λ summary. summary ≡ is) first.view second.view (begun_book import book)

  each_of : {answers : List Accepted} {told : Result (Unit {0}) LedgerFault}
      → Each answers (Ok told) → HasCleanDisk second → (book : Book)
      → Joins joined import (begun_entries import book.journal) → IsAt naming was first.view book
      → EachOf book answers told
  each_of each clean book joins at =
      (each (rows_table book.journal)).found clean (begun_book import book)
      (joins_is ∙ joined_number joined import (begun_entries import book.journal) joins)
      (begun_at import at)

  -- The sums and the entry are written, and that is all of it.
  pub group_staged : {third last : State} {summed renewal : Unit {0}} {answers : List Accepted}
      {told : Result (Unit {0}) LedgerFault} {more : ℕ} → Each answers (Ok told)
      → Does (Ok summed) second third (HaveSums was.held was.total) (set_sums is.held is.total)
      → more ≡ is.held - was.held
      → Does (Ok renewal) third last Always
      (renewed joined import (length answers == count) answers more)
      → StagesJoined joined naming import count records was is first last answers (Ok told)
  group_staged {third = third} {last = last} {answers = answers} {told = told} {more = more} each sums
      many renews = record {
        plain = (each fin.empty).plain;
        survives = survives_then (survives_then (each fin.empty).survives sums.survives) renews.survives;
        found = λ clean book joins at.
            let clean_third : HasCleanDisk third = clean_before renews.survives clean in
            let clean_second : HasCleanDisk second = clean_before sums.survives clean_third in
            let staged = each_of each clean_second book joins at in
            let events = staged.events in
            let whole = length answers == count in
            let begun : Book = begun_book import book in
            let accepts = staged.made.accepts in
            let new : AreNew naming begun events =
            accepted_new naming records answers false begun events false accepts in
            let left : Book = after_all (told_by import whole answers events) book in
            let tables : Tables = tables_of naming left in
            let all = told_at was.held was.total (rows_table book.journal) naming is second.view import
            whole answers events book at.kept.journaled
            (record { kept = staged.kept; remembers = staged.remembers is refl }) in
            let now = (staged.remembers is refl).held in
            let before = at.remembers.held in
            let held : length (members (after_all events begun).held)
            ≡ length (members book.held) + length events = held_more naming begun events new in
            let kept : more ≡ length events = omega (arith, many, now, before, held) in
            let summed = sums.done clean_third in
            let renewal = renews.done clean in
            let after_sums : Holds third.view.trees (with_rows tables book.journal) =
            subst (Holds third.view.trees)
            (λ i. record (sym (sums_there naming all.remembers) i) {
              journal = rows_table book.journal;
            })
            (summed.made (before_entry was.held was.total (rows_table book.journal) tables) all.kept.holds
            (record { held_is = refl; amount_is = refl })) in
            record {
              events = told_by import whole answers events;
              made = record {
                group = record {
                  kept = events;
                  accepts = accepts_beside naming records answers false book
                      (begun_entries import book.journal) events false accepts;
                  told = refl;
                };
                none = λ none. refuses_beside naming records book (begun_entries import book.journal) told
                    (staged.made.none none);
              };
              leaves = record {
                answers = answers;
                group = record {
                  kept = events;
                  accepts = accepts_beside naming records answers false book
                      (begun_entries import book.journal) events false accepts;
                  told = refl;
                };
              };
              only = only_both first.view (only_both first.view staged.only summed.only) renewal.only;
              kept = record {
                readable = all.kept.readable;
                journaled = all.kept.journaled;
                holds = subst (Holds last.view.trees)
                    (group_renewed naming joined import whole answers more tables book events new
                    (begun_all naming import book at.kept.journaled) joins kept)
                    (renewal.made (with_rows tables book.journal) after_sums tt);
              };
              remembers = λ summary same. remembers_as all.remembers same;
            };
      }

  -- or the store refused a record,
  pub group_unkept : {late answers : List Accepted} {error : StoreError}
      (staged : Result (Result (Unit {0}) LedgerFault) StoreError) → IsErr staged
      → Each late (Err error)
      → StagesJoined joined naming import count records was is first second answers staged
  group_unkept staged failed each =
      unstaged_where staged failed (each fin.empty).survives (λ clean book joins at.
      (each (rows_table book.journal)).found clean (begun_book import book)
      (joins_is ∙ joined_number joined import (begun_entries import book.journal) joins)
      (begun_at import at))

  -- the sums,
  pub group_unsummed : {late answers : List Accepted} {told : Result (Unit {0}) LedgerFault}
      {third : State} {error : StoreError} {T : Type 0} {When : Tables → Type 0}
      {change : Tables → Tables} (staged : Result (Result (Unit {0}) LedgerFault) StoreError)
      → IsErr staged → Each late (Ok told) → Does {T = T} (Err error) second third When change
      → StagesJoined joined naming import count records was is first third answers staged
  group_unsummed {third = third} staged failed each sums =
      unstaged_where staged failed (survives_then (each fin.empty).survives sums.survives)
      (λ clean book joins at.
      stands_then
      (stands_only first.view second.view
      (each_of each (clean_before sums.survives clean) book joins at).only)
      (kept_last (sums.refused clean)))

  -- or the entry
  pub group_unentered : {late answers : List Accepted} {told : Result (Unit {0}) LedgerFault}
      {third last : State} {error : StoreError} {T U : Type 0} {summed : U}
      {When Other : Tables → Type 0} {change other : Tables → Tables}
      (staged : Result (Result (Unit {0}) LedgerFault) StoreError) → IsErr staged
      → Each late (Ok told) → Does (Ok summed) second third When change
      → Does {T = T} (Err error) third last Other other
      → StagesJoined joined naming import count records was is first last answers staged
  group_unentered {third = third} staged failed each sums renews =
      unstaged_where staged failed
      (survives_then (survives_then (each fin.empty).survives sums.survives) renews.survives)
      (λ clean book joins at.
      let clean_third : HasCleanDisk third = clean_before renews.survives clean in
      stands_then
      (stands_only first.view third.view (only_both first.view
      (each_of each (clean_before sums.survives clean_third) book joins at).only
      (sums.done clean_third).only))
      (kept_last (renews.refused clean)))

-- ---- the entry that was found before them

module _ (naming : Naming) (import : Option Share) (count : ℕ) (records : List (List ℕ))
    (was is : Summary) (first middle last : State) (newest : Newest) (joined : Option Joined)
    (saw : Saw first middle (λ tables. FindsNewest tables newest))
    (is_joined : option_map joined_entry joined
    ≡ joining import newest.number (option_map entry_stored newest.entry)) where
  -- it is joined in each book at which the ledger was
  joins_in : HasCleanDisk middle → (book : Book) → IsAt naming was first.view book
      → Joins joined import (begun_entries import book.journal)
  joins_in clean book at =
      joins_found naming book newest joined import
      ((saw.seen clean).known (tables_of naming book) at.kept.holds) is_joined

  at_middle : HasCleanDisk middle → (book : Book) → IsAt naming was first.view book
      → IsAt naming was middle.view book
  at_middle clean book at = record {
    kept = subst (IsStoredIn naming book)
        (sym (trees_same first.view middle.view (saw.seen clean).same)) at.kept;
    remembers = at.remembers;
  }

  -- Records that were staged with it are staged as one: those that were taken,
  pub group_as_one : {told : Result (Unit {0}) LedgerFault} (answers : Vec Accepted Global)
      → StagesJoined joined naming import count records was is middle last answers.items (Ok told)
      → StagesFirst naming import count records was is first last (Ok (Ok answers))
  group_as_one answers stages = record {
    plain = record { stored = refl; served = refl };
    survives = survives_then saw.survives stages.survives;
    found = λ clean book at.
        let before = clean_before stages.survives clean in
        let staged = stages.found clean book (joins_in before book at) (at_middle before book at) in
        record {
          events = staged.events;
          made = staged.made.group;
          leaves = staged.leaves;
          only = only_both first.view (only_looks first.view (saw.seen before).same) staged.only;
          kept = staged.kept;
          remembers = staged.remembers;
        };
  }

  -- or none, where the first was refused,
  pub none_as_one : (fault : LedgerFault) {answers : List Accepted} → answers ≡ []
      → 0 < length records
      → StagesJoined joined naming import count records was is middle last answers (Ok (Err fault))
      → StagesFirst naming import count records was is first last (Ok (Err fault))
  none_as_one fault {answers} empty some stages = record {
    plain = open_as {V = Unit {0}} {W = Vec Accepted Global} fault stages.plain;
    survives = survives_then saw.survives stages.survives;
    found = λ clean book at.
        let before = clean_before stages.survives clean in
        let staged = stages.found clean book (joins_in before book at) (at_middle before book at) in
        let group = staged.made.group in
        let nothing : NoEvent false book group.kept false =
        subst (λ answers. Accepts naming records answers false book group.kept false) empty
        group.accepts in
        let none : staged.events ≡ [] =
        group.told ∙ ap (told_by import (length answers == count) answers) nothing.none
        ∙ none_told import (length answers == count) answers in
        record {
          events = staged.events;
          made = subst (λ events. Takes naming records (Err fault) false book events false) (sym none)
              (refused_one naming records fault some false book [] false (staged.made.none empty));
          leaves = staged.leaves;
          only = only_both first.view (only_looks first.view (saw.seen before).same) staged.only;
          kept = staged.kept;
          remembers = staged.remembers;
        };
  }

  -- or because the store refused
  pub group_failed : {error : StoreError} {answers : List Accepted}
      (tried : Result (Result (Vec Accepted Global) LedgerFault) StoreError) → IsErr tried
      → StagesJoined joined naming import count records was is middle last answers (Err error)
      → StagesFirst naming import count records was is first last tried
  group_failed tried failed stages =
      unstaged tried failed (survives_then saw.survives stages.survives) (λ clean book at.
      let before = clean_before stages.survives clean in
      stands_then (stands_only first.view middle.view (only_looks first.view (saw.seen before).same))
      (stages.found clean book (joins_in before book at) (at_middle before book at)))
