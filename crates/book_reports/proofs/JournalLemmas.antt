-- The text of the journal, whose entries are counted and then written as they are read.
use Rattle.std.proofs.Common.{◌≡◌, ◌∙◌, ◌<◌, ℕ, List, [], ◌++◌, append-nil, flat_map, length, map}
use Rattle.std.proofs.Common.{refl, sym, ap, subst, Option, Result, Ok, Err, inl}
use Rattle.book_model.specs.declared.entry.ListedEntry.{ListedEntry}
use Rattle.book_model.specs.Words.{EntrySeen, entry_shown}
use Rattle.book_core.specs.Words.{Seen, IsCall, IsTransition}
use Rattle.book_lists.proofs.AnsweringLemmas.{only_hinders}
use Rattle.book_lists.proofs.StreamedLemmas.{some_before}
use Rattle.book_reports.specs.declared.what_if.StatementForm.{StatementForm}
use Rattle.book_reports.proofs.Words.{LedgerFault, ReportFault, WritesAnswerUntil, answer_unread}
use Rattle.book_reports.proofs.Words.{answered_by, list_answer, list_text, parts_as, parts_each}
use Rattle.book_reports.proofs.Words.{parts_from, report_fault_of, same_value, shown, then_written}
use Rattle.book_reports.specs.StreamedJournal.{WritesJournal, entries_of, entry_count_outcome}
use Rattle.book_reports.specs.StreamedJournal.{entry_part, journal_above, journal_report}
use Rattle.book_reports.specs.StreamedJournal.{journal_text, some_above_entries}

-- ---- the text

-- entries are written by their parts
journal_written : (form : StatementForm) (count : ℕ) (entries : List EntrySeen)
    → list_text (journal_above form count) (λ number. entry_part form) (λ entries. []) entries
    ≡ journal_text form count entries
journal_written form count entries =
    append-nil (journal_above form count ++ parts_from (λ number. entry_part form) 0 entries)
    ∙ ap (λ lines. journal_above form count ++ lines) (parts_each (entry_part form) 0 entries)

pub entries_written : (form : StatementForm) (count : ℕ) (entries : List ListedEntry)
    → list_text (journal_above form count) (λ number entry. entry_part form (entry_shown entry))
    (λ entries. []) entries
    ≡ journal_text form count (map entry_shown entries)
entries_written form count entries =
    ap (λ lines. (journal_above form count ++ lines) ++ [])
    (parts_as entry_shown (λ number entry. entry_part form (entry_shown entry))
    (λ number. entry_part form) (λ number entry. refl) 0 entries)
    ∙ journal_written form count (map entry_shown entries)

-- ---- what the calls did

-- they were not counted
pub journal_uncounted : (form : StatementForm) (old new : Seen) (fault : LedgerFault)
    (held : Option (List ℕ))
    → IsCall (λ (count : ℕ). count) old new (Err fault) (entry_count_outcome old.naming)
    → IsTransition old new (WritesJournal form old.naming held held (Err (report_fault_of fault)))
journal_uncounted form old new fault held call =
    answer_unread (λ book. refl) fault call (answered_by (journal_report form)) held
    (λ book text is.
    let entries = entries_of old.naming book in
    subst (λ text. 0 < length text) (same_value is)
    (some_before (journal_above form (length entries)) (flat_map (entry_part form) entries)
    (some_above_entries form (length entries))))
    (λ book said. inl (only_hinders (length (entries_of old.naming book)) fault said))

-- they were, and those that are written then are the book's
pub journal_counted : (form : StatementForm) (old mid new : Seen) (count : ℕ)
    (held holds : Option (List ℕ)) (result : Result (Unit {0}) ReportFault)
    → IsCall (λ (count : ℕ). count) old mid (Ok count) (entry_count_outcome old.naming)
    → IsTransition mid new
    (WritesAnswerUntil (list_answer (journal_above form count) (λ number. entry_part form)
    (λ entries. []) (λ naming book. Ok (entries_of naming book)))
    mid.naming held holds result)
    → IsTransition old new (WritesJournal form old.naming held holds result)
journal_counted form old mid new count held holds result counted work =
    then_written (shown (λ book. refl) counted) (answered_by (journal_report form))
    (λ book known.
    let entries = entries_of old.naming book in
    ap Ok (journal_written form count entries
    ∙ ap (λ n. journal_text form n entries) (sym (same_value known))))
    work
