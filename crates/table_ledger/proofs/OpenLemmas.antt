-- A store that keeps the tables of a book, with its summary, is an open ledger.
use Rattle.std.proofs.Common.{◌≡◌, ◌∙◌, ap, false, refl, subst, sym}
use Rattle.book_model.specs.Words.{Book, new_book, Naming, no_rulings}
use Rattle.book_core.specs.Words.{IsOpenAt, ruled_in}
use Rattle.table_model.specs.Words.{new_tables, Tables, tables_of, IsReadable}
use Rattle.table_model.proofs.EventLemmas.{new_follow}
use Rattle.table_model.specs.Journaled.{IsJournaled}
use Rattle.table_model.proofs.CallsLemmas.{calls_stay}
use Rattle.table_model.proofs.ReadableLemmas.{calls_read}
use Rattle.table_ledger.proofs.Words.{State, HasCleanDisk, Stores, IsStoredIn, IsReadyAt, Remembers}
use Rattle.table_ledger.proofs.Words.{seen_on, book_of_ready, LeavesTheLast}
use Rattle.table_ledger.specs.declared.summary.Summary.{Summary}

-- the ledger is open at the book
pub opened : (naming : Naming) (state : State) (summary : Summary) (book : Book)
    → LeavesTheLast state.view state.may_leave → HasCleanDisk state → IsReadable naming book
    → IsJournaled book
    → Stores state.view (tables_of naming book) → Remembers summary book
    → IsOpenAt naming book (seen_on (record {
      naming = naming;
      state = state;
      must_reopen = false;
      summary = summary;
    }))
opened naming state summary book last clean readable journaled keeping remembers =
    let rest = keeping.rest in
    let kept : IsStoredIn naming book state.view.trees =
    record { readable = readable; journaled = journaled; holds = keeping.holds } in
    let ready : IsReadyAt naming summary state.view book = record {
      rest = rest;
      kept = kept;
      remembers = remembers;
    } in
    record {
      book = book_of_ready ready;
      naming = refl;
      is_open = refl;
      honest = clean;
      books = record {
        left = λ clean_now trees left. record {
          book = book;
          kept = subst (IsStoredIn naming book)
              (rest.settled ∙ sym (last trees rest.is_open left)) kept;
        };
        ready = λ open_now clean_now. record { book = book; ready = ready };
      };
    }

-- new books are open, when nothing is remembered
pub created : (naming : Naming) (state : State) (summary : Summary)
    → LeavesTheLast state.view state.may_leave → HasCleanDisk state → Stores state.view new_tables
    → ruled_in summary.rulings ≡ no_rulings → summary.choices ≡ 0 → summary.replaced ≡ 0
    → summary.credits ≡ 0 → summary.held ≡ 0 → summary.total ≡ 0
    → IsOpenAt naming new_book (seen_on (record {
      naming = naming;
      state = state;
      must_reopen = false;
      summary = summary;
    }))
created naming state summary last clean keeping none choices replaced credits held total =
    opened naming state summary new_book last clean
    (calls_read.books naming new_book (calls_stay.start naming))
    (calls_read.journals naming new_book (calls_stay.start naming))
    (subst (Stores state.view) (new_follow naming) keeping)
    (record {
      rulings = none;
      choices = choices;
      replaced = replaced;
      credits = credits;
      held = held ∙ ap (λ (tables : Tables). tables.book.held) (new_follow naming);
      total = total ∙ ap (λ (tables : Tables). tables.book.amount) (new_follow naming);
    })
