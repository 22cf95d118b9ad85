-- The text of a record: its arrival, the entry of that and its trail are read from one book.
use Rattle.std.proofs.Common.{◌≡◌, ◌∙◌, ℕ, List, Option, Some, None, Result, Ok, Err, Vec, Global}
use Rattle.std.proofs.Common.{refl, sym, ap, subst, IsErrAnd, ok_or, option_map}
use Rattle.std.specs.Option.{option_and_then}
use Rattle.book_model.specs.declared.entry.Arrival.{Arrival}
use Rattle.book_model.specs.declared.entry.ListedEntry.{ListedEntry}
use Rattle.book_model.specs.Words.{Book, EntrySeen, Naming, TrailSeen, arrival_from}
use Rattle.book_model.specs.Words.{arrival_outcome, arrivals, entry_outcome, entry_shown}
use Rattle.book_model.specs.Words.{record_named, trail_of, trail_outcome, trail_shown, no_event}
use Rattle.book_core.specs.Words.{Seen, IsCall}
use Rattle.book_core.proofs.ArrivalLemmas.{arrival_named}
use Rattle.report_texts.specs.RecordTexts.{record_text}
use Rattle.book_reports.specs.RecordReports.{before_found, came_entry, entry_after}
use Rattle.book_reports.specs.RecordReports.{found_entry_outcome, record_answer}
use Rattle.book_model.specs.declared.trail.Trail.{Trail}
use Rattle.book_reports.proofs.Words.{LedgerFault, Memory, NoSuchRecord, Tells, answers}
use Rattle.book_reports.proofs.Words.{answers_none, both_shown, by_names, read_as, read_then}
use Rattle.book_reports.proofs.Words.{refused_next, same_value, shown, shown_by}

-- ---- the entry

module _ {old mid : Seen} (name : List ℕ) {found : Option Arrival}
    (call : IsCall (λ (found : Option Arrival). found) old mid (Ok found)
    (arrival_outcome old.naming name))
  where
    -- the entry is that of the record that was found
    entry_known : (before : Option ℕ) (book : Book) → before ≡ before_found found
        → (arrival_outcome old.naming name book).answer ≡ Ok found
        → option_and_then (entry_after old.naming book)
        (before_found (arrival_from name (arrivals old.naming book)))
        ≡ option_and_then (entry_after old.naming book) before
    entry_known before book is said =
        ap (λ found. option_and_then (entry_after old.naming book) (before_found found))
        (same_value said)
        ∙ ap (option_and_then (entry_after old.naming book)) (sym is)

    -- there is none,
    pub no_entry : (before : Option ℕ) → before ≡ before_found found → before ≡ None
        → IsCall (option_map entry_shown) old mid (Ok None) (found_entry_outcome old.naming name)
    no_entry before is none =
        read_as (λ book. refl) (λ book. refl) (record { reopen = refl; store = refl })
        (λ book said. ap Ok (entry_known before book is said
        ∙ ap (option_and_then (entry_after old.naming book)) none))
        call

    -- or it is asked for
    pub entry_asked : {new : Seen} {result : Result (Option ListedEntry) LedgerFault}
        (before : Option ℕ) (number : ℕ) → before ≡ before_found found → before ≡ Some number
        → IsCall (option_map entry_shown) mid new result (entry_outcome mid.naming number)
        → IsCall (option_map entry_shown) old new result (found_entry_outcome old.naming name)
    entry_asked {result = result} before number is some next =
        read_then (λ book. refl) (λ book. refl) (λ book. refl)
        (record { reopen = refl; store = refl })
        (λ book early late. subst (Tells (option_map entry_shown) result)
        (ap Ok (sym (entry_known before book is early
        ∙ ap (option_and_then (entry_after old.naming book)) some)))
        late)
        call (by_names (λ naming. entry_outcome naming number) call.work.naming next)

-- ---- the text

-- a trail is that of a record that is held
trail_held : (of : List ℕ → Option TrailSeen) (found : Option (List ℕ)) {trail : TrailSeen}
    → ok_or (option_and_then of found) NoSuchRecord ≡ Ok trail
    → (bytes : List ℕ) × (found ≡ Some bytes)
trail_held of None is = cc
trail_held of (Some bytes) is = (bytes, refl)

-- so the entry that was found is that by which it came
came_known : (naming : Naming) (name : List ℕ) (book : Book) {entry : Option EntrySeen}
    {trail : TrailSeen} → (found_entry_outcome naming name book).answer ≡ Ok entry
    → (trail_outcome naming name book).answer ≡ Ok trail → came_entry naming book name ≡ entry
came_known naming name book first next =
    let held = trail_held (trail_of naming book) (record_named naming book.held name) next in
    sym (ap (λ found. option_and_then (entry_after naming book) (before_found found))
    (arrival_named naming book name held.0 held.1))
    ∙ same_value first

module _ {old mid : Seen} (name : List ℕ) {entry : Option ListedEntry}
    (call : IsCall (option_map entry_shown) old mid (Ok entry)
    (found_entry_outcome old.naming name))
  where
    -- no record has the name
    pub trail_refused : {new : Seen} {fault : LedgerFault}
        (result : Result (Vec ℕ Global) LedgerFault) → IsErrAnd result (λ given. given ≡ fault)
        → IsCall trail_shown mid new (Err fault) (trail_outcome mid.naming name)
        → IsCall (λ (text : Vec ℕ Global). text.items) old new result
        (λ book. no_event (record_answer old.naming name book))
    trail_refused result passed next =
        refused_next result passed (λ book. refl) (λ book. refl)
        (λ book known said. ap (shown_by (record_text name (came_entry old.naming book name))) said)
        (shown (λ book. refl) call)
        (by_names (λ naming. trail_outcome naming name) call.work.naming next)

    module _ {new : Seen} {trail : Trail}
        (next : IsCall trail_shown mid new (Ok trail) (trail_outcome mid.naming name))
      where
        -- there is no memory for the text
        pub text_lost : IsCall (λ (text : Vec ℕ Global). text.items) old new (Err Memory)
            (λ book. no_event (record_answer old.naming name book))
        text_lost =
            answers_none (λ book. refl)
            (both_shown (λ book. refl) (shown (λ book. refl) call)
            (by_names (λ naming. trail_outcome naming name) call.work.naming next))

        -- or it is made
        pub text_made : (text : Vec ℕ Global)
            → text.items ≡ record_text name (option_map entry_shown entry) (trail_shown trail)
            → IsCall (λ (text : Vec ℕ Global). text.items) old new (Ok text)
            (λ book. no_event (record_answer old.naming name book))
        text_made text is =
            answers text (λ book. refl)
            (λ book both.
            ap (shown_by (record_text name (came_entry old.naming book name))) both.next
            ∙ ap (λ entry. Ok (record_text name entry (trail_shown trail)))
            (came_known old.naming name book both.first both.next)
            ∙ ap Ok (sym is))
            (both_shown (λ book. refl) (shown (λ book. refl) call)
            (by_names (λ naming. trail_outcome naming name) call.work.naming next))
