-- The end of an import that is tried: what it writes.
use Rattle.std.proofs.Common.{◌≡◌, ◌∙◌, [], ◌∷◌, None, Ok, Option, Some, ap, length, option_map, refl}
use Rattle.std.proofs.Common.{subst, sym}
use Rattle.book_model.specs.declared.note.Stop.{Stop}
use Rattle.book_model.specs.Words.{Book, Entry, ImportEnded, Imported, Importing, Naming, after}
use Rattle.book_model.specs.Words.{change_newest, end_with, ended_outcome, members, note_shown}
use Rattle.book_model.specs.Words.{reading_shown}
use Rattle.book_model.specs.Words.{stop_shown}
use Rattle.book_model.proofs.JournalLemmas.{end-kept}
use Rattle.table_model.specs.Tables.{ImportRow, RowAct}
use Rattle.table_model.specs.Words.{Tables, tables_of}
use Rattle.table_model.proofs.EventLemmas.{event_follows}
use Rattle.table_model.proofs.JournalChanges.{came-changed, rows_table}
use Rattle.std.specs.FinMap.{insert}
use Rattle.tree_tables.specs.JournalColumns.{entry_stored}
use Rattle.table_ledger.specs.Groups.{FindsNewest, Joins, end_step, going_on, joined_entry}
use Rattle.table_ledger.specs.declared.groups.Joined.{Joined}
use Rattle.table_ledger.specs.declared.newest.Newest.{Newest}
use Rattle.table_ledger.specs.declared.summary.Summary.{Summary}
use Rattle.table_ledger.proofs.GroupEntries.{joins_found}
use Rattle.table_ledger.proofs.KeptGroups.{put_joined, unended}
use Rattle.table_ledger.proofs.Remembered.{Says}
use Rattle.table_ledger.proofs.StageLemmas.{IsEvent}
use Rattle.table_ledger.proofs.SurvivalLemmas.{survives_so}
use Rattle.table_ledger.proofs.TryLemmas.{ready_same}
use Rattle.table_ledger.proofs.Words.{Always, AttemptsOne, IsAt, IsReadyAt, Saw, State, View, opens}
use Rattle.book_core.specs.Words.{ruled_in}

-- what an end answers is nothing
abbrev pub answered : Unit {0} → Unit {0}
answered done = done

-- The newest entry was found, which is joined or is not.
module _ (naming : Naming) (was : Summary) (stop : Stop) (newest : Newest) (found : Option Joined)
    (is_found : option_map joined_entry found
    ≡ going_on newest.number (option_map entry_stored newest.entry)) where
  -- so it is in each book at which the ledger was
  joins_in : (shape : Option Joined) → found ≡ shape → (book : Book) {view : View}
      → IsAt naming was view book → FindsNewest (tables_of naming book) newest
      → Joins shape None book.journal
  joins_in shape is book at finds =
      joins_found naming book newest shape None finds
      (ap (option_map joined_entry) (sym is) ∙ is_found)

  -- Where no import goes on, its end changes nothing.
  pub end_nothing : {old new : State} → found ≡ None
      → Saw old new (λ tables. FindsNewest tables newest)
      → AttemptsOne answered naming was was old new (ended_outcome stop) (Ok (Ok tt))
  end_nothing {old} {new} none saw = record {
    plain = opens refl refl;
    survives = survives_so saw.survives (λ clean trees none. absurd none);
    found = λ clean book ready.
        let seen = saw.seen clean in
        let ending = stop_shown stop in
        let at : IsAt naming was old.view book =
        record { kept = ready.kept; remembers = ready.remembers } in
        let joins = joins_in None none book at (seen.known (tables_of naming book) ready.kept.holds) in
        let same : after (ImportEnded ending) book ≡ book =
        ap (λ entries. record book { journal = entries }) (unended ending book.journal joins) in
        record {
          events = ImportEnded ending ∷ [];
          made = (refl, refl);
          ready = subst (IsReadyAt naming was new.view) (sym same)
              (ready_same old.view new.view seen.same ready);
        };
  }

  -- Else it is an event.
  pub end_is_event : (joined : Joined) → found ≡ Some joined → (book : Book) {view : View}
      → IsAt naming was view book → FindsNewest (tables_of naming book) newest
      → IsEvent answered naming (ended_outcome stop) tt
      (Says (ruled_in was.rulings) was.choices was.replaced was.credits was.held was.total) Always
      (end_step joined (stop_shown stop)) book
  end_is_event joined is book at finds =
      let ending = stop_shown stop in
      let event = ImportEnded ending in
      let tables = tables_of naming book in
      let joins = joins_in (Some joined) is book at finds in
      let note = note_shown joined.note.now in
      let goes : Entry = record { note = note; act = Importing joins.reading joins.kept } in
      let ended : Entry = record { note = note; act = Imported joins.reading ending joins.kept } in
      let put : RowAct → Tables = λ act. record tables {
        journal = insert tables.journal joined.number (record { note = note; act = act });
      } in
      let row : ImportRow (reading_shown joined.reading) (Some ending) joined.kept
      ≡ ImportRow joins.reading (Some ending) (length (members joins.kept)) =
      λ i. ImportRow (joins.read refl i) (Some ending) (joins.count i) in
      let rows = put_joined None goes ended joins.older joined.number joins.number book.journal joins.is
      ∙ ap (λ entries. rows_table (change_newest (end_with ending) entries)) (sym joins.is) in
      let came = sym (came-changed naming (end_with ending) (end-kept ending) book.journal) in
      let whole = at.kept.readable in
      record {
        event = event;
        is = refl;
        answer = refl;
        submitted = tt;
        answered = tt;
        when = tt;
        changes = ap put row ∙ (λ i. record tables { journal = rows i; came = came i })
            ∙ event_follows naming book event whole.sound whole.usage at.kept.journaled tt whole.rising;
        remembers = λ follows summary says. record {
          rulings = says.rulings ∙ at.remembers.rulings;
          choices = says.choices ∙ at.remembers.choices;
          replaced = says.replaced ∙ at.remembers.replaced;
          credits = says.credits ∙ at.remembers.credits;
          held = says.held ∙ at.remembers.held;
          total = says.total ∙ at.remembers.total;
        };
      }
