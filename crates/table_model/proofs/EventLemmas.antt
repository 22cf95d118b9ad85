-- The tables after an event, and so those that are updated over a history, are those of the book.
use Rattle.std.proofs.Common.{refl, ◌≡◌, ℕ, ◌+◌, List, [], ◌∷◌, ◌++◌, map, length, sym, ap, ◌∙◌}
use Rattle.std.proofs.Common.{true}
use Rattle.std.proofs.Common.{false, Bool, not, ◌||◌, Option, Some, None, subst, sum_by, filter_map}
use Rattle.std.proofs.Common.{arith, option_map}
use Rattle.std.proofs.Math.Bool.{or-true}
use Rattle.book_model.proofs.Std.{from_entries, option_map_or}
use Rattle.book_model.specs.declared.row.ChargeRow.{ChargeRow}
use Rattle.book_model.specs.declared.row.RowKey.{RowKey}
use Rattle.book_model.specs.Words.{Priced, Book, open_number, new_book, is_undisputed}
use Rattle.book_model.specs.Words.{is_counted_in, is_dated_after, Event, TariffAccepted}
use Rattle.book_model.specs.Words.{PeriodClosed, RecordKept, RulingGiven, RecordChosen}
use Rattle.book_model.specs.Words.{SecondRuleAdopted, after, give, Terms, charged_of, chosen_answer}
use Rattle.book_model.specs.Words.{book_after, Records, Naming, name_of, by_bytes, by_key, row_at}
use Rattle.book_model.specs.Words.{no_rulings, Rulings, price_in, AcceptedTerms, identity_by}
use Rattle.book_model.specs.Words.{last_close, members, has, those, CreditGiven, TariffReplaced}
use Rattle.book_model.specs.Words.{Credit, WorkWithheld, are_rising, open_by}
use Rattle.book_model.proofs.MadeByCallsLemmas.{latest_is_last, rulings_are}
use Rattle.book_model.proofs.Lemmas.{sound_after, no_length, members-empty, is, has_with, none_in}
use Rattle.book_model.proofs.Lemmas.{named_held, tariff_passes}
use Rattle.book_model.proofs.SetChanges.{not_those}
use Rattle.book_core.specs.Words.{choice_effects, effects_of, withdraw}
use Rattle.table_model.specs.Words.{changed, kept_at, tariff_at, put_tariff_row, set_sums}
use Rattle.table_model.specs.Words.{new_tables, under, amount_under, put_choice, put_new, walk}
use Rattle.table_model.specs.Words.{reprice_step, RecordRow, Tables, member_at, member_by}
use Rattle.table_model.specs.Words.{counted_by, periods_by, record_entry, record_row, row_key}
use Rattle.table_model.specs.Words.{tables_of, tariff_entries}
use Rattle.table_model.specs.Changed.{chosen_at, withheld_at}
use Rattle.table_model.specs.TableChanges.{put_withheld}
use Rattle.book_model.specs.Words.{ImportBegun, ImportEnded, ImportRead, IsAnswered, IsSound}
use Rattle.book_model.specs.Words.{changed_by}
use Rattle.table_model.specs.Changed.{rows_changed}
use Rattle.table_model.specs.PeriodLists.{AreUsage}
use Rattle.table_model.specs.Laws.{EventFollows, TablesFollow}
use Rattle.table_model.proofs.JournalChanges.{came_follows, journal_follows, journaled_after}
use Rattle.table_model.proofs.AdoptChanges.{adoption_follows}
use Rattle.table_model.proofs.ChoiceChanges.{choice_follows, withhold_follows}
use Rattle.table_model.proofs.CloseLemmas.{close_follows}
use Rattle.table_model.proofs.CurrentLemmas.{choice_reads}
use Rattle.table_model.proofs.ClosedLines.{no_members}
use Rattle.table_model.proofs.DayChanges.{days_at}
use Rattle.table_model.proofs.KeptLemmas.{kept_follows}
use Rattle.table_model.proofs.KeptPrice.{kept_cost}
use Rattle.table_model.proofs.LineChanges.{added, taken}
use Rattle.table_model.proofs.Restated.{row-found}
use Rattle.table_model.proofs.ReplacedChanges.{replace_follows}
use Rattle.table_model.proofs.SumRead.{sum_is_read}
use Rattle.table_model.proofs.TableParts.{what_is}
use Rattle.table_model.proofs.TariffChanges.{tariff_follows}
use Rattle.table_model.proofs.UnderNumbers.{next_number}
use Rattle.table_model.proofs.ViewLemmas.{view_follows}
use Rattle.std.specs.FinMap as fin

-- new books under some tariffs have those tariffs alone in their tables
new_under : (naming : Naming) (tariffs : List AcceptedTerms)
    → tables_of naming (record new_book { rulings = record no_rulings { tariffs = tariffs } })
    ≡ record new_tables { tariffs = from_entries (tariff_entries tariffs) }
new_under naming tariffs =
    let ruled : Rulings = record no_rulings { tariffs = tariffs } in
    let held : Records = fin.empty in
    let current : List ℕ → Bool = is_dated_after None in
    let charged : Records = those (is_undisputed ruled held) held in
    let price : List ℕ → Option Priced = price_in ruled in
    let members_held : members held ≡ [] = members-empty by_bytes in
    let none = λ (p : List ℕ → Bool) (s : Records) (out : (q : List ℕ) → has s q ≡ false)
    (q : List ℕ). not_those p s q (out q) in
    let no_charged = none (is_undisputed ruled held) held none_in in
    let counted = no_members (those current charged) (none current charged no_charged) in
    let plus = no_members (added None held charged) (none (λ b. not (current b))
    (those (λ k. not (has held k)) charged) (none (λ k. not (has held k)) charged no_charged)) in
    let minus =
    no_members (taken held charged) (none (λ k. not (has charged k)) held none_in) in
    let named = no_members (counted_by new_book charged)
    (none (is_counted_in (periods_by new_book charged)) held none_in) in
    let line : Bool → List (List ℕ) → List (List ℕ × Bool) =
    λ sign. map (λ bytes. (name_of naming bytes, sign)) in
    let name : List (List ℕ) → List (List ℕ × Unit {0}) = map (λ bytes. (name_of naming bytes, tt)) in
    let days = ap (λ ks. from_entries (under 1 (days_at (filter_map price ks)) ++ [])) counted
    ∙ ap (λ keys. from_entries (under 1 (map {B = RowKey × ChargeRow} (λ row. (row_key row, row))
    (map (row_at []) keys)) ++ [])) (members-empty by_key) in
    λ i. record new_tables {
      book = record new_tables.book {
        held = length (members_held i);
        amount = sum_by (λ one. one.amount) (filter_map price (members_held i));
      };
      tariffs = from_entries (tariff_entries tariffs);
      records = from_entries (filter_map (record_entry naming ruled charged held) (members_held i));
      days = days i;
      lines = from_entries (under 1 (line true (plus i) ++ line false (minus i)) ++ []);
      counted = from_entries (name (named i));
    }

-- a table of no records has no entries
no_entries : fin.entries (fin.empty {X = RecordRow} {R = by_bytes}) ≡ []
no_entries =
    no_length (fin.entries (fin.empty {X = RecordRow} {R = by_bytes}))
    (sym (fin.len-entries (fin.empty {X = RecordRow} {R = by_bytes})) ∙ fin.len-empty by_bytes
    RecordRow)

-- the tariff that new books begin with
begun : (naming : Naming) (terms : Terms)
    → tables_of naming (give (TariffAccepted None terms) new_book)
    ≡ rows_changed naming no_rulings (RulingGiven None (TariffAccepted None terms))
    (tables_of naming new_book)
begun naming terms =
    new_under naming (record { text = None; terms = terms } ∷ []) ∙ sym no_walk
    ∙ ap (rows_changed naming no_rulings (RulingGiven None (TariffAccepted None terms)))
    (sym (new_under naming []))
  where
    made : List (List ℕ × RecordRow) → Tables
    made es =
        set_sums 0 (sum_by (amount_under terms) (map (λ (e : List ℕ × RecordRow). e.1) es))
        (put_tariff_row terms.effective None
        (walk (reprice_step 1 terms) (map (λ (e : List ℕ × RecordRow). e.0) es) new_tables))

    no_walk : rows_changed naming no_rulings (RulingGiven None (TariffAccepted None terms)) new_tables
        ≡ record new_tables {
          tariffs = from_entries
              (tariff_entries (record { text = None; terms = terms } ∷ []));
        }
    no_walk = ap made no_entries

-- the tables after an event, but for the journal
pub rows_follow : (naming : Naming) (book : Book) (event : Event)
    → IsSound naming book → AreUsage book.held
    → IsAnswered naming event book → are_rising book.rulings.tariffs ≡ true
    → tables_of naming (changed_by event book)
    ≡ rows_changed naming book.rulings event (tables_of naming book)
rows_follow naming book (RecordKept bytes) sound usage answered rise =
    let cost = kept_cost naming book bytes answered in
    let name : List ℕ = name_of naming bytes in
    let tables : Tables = tables_of naming book in
    kept_follows naming book bytes cost.0 sound answered cost.1
    ∙ ap (λ view. put_new book.rulings name bytes cost.0 (effects_of view name cost.0) tables)
    (sym (view_follows naming book bytes sound))
    ∙ ap (λ price. option_map_or (λ priced. kept_at book.rulings name bytes priced tables) price
    tables) (sym cost.1)
rows_follow naming book (PeriodClosed said day) sound usage answered rise =
    close_follows naming book (open_number book) day sound answered
rows_follow naming book (RulingGiven said (TariffAccepted (Some text) terms)) sound usage answered rise =
    let framed = λ (q : List ℕ) (held : has book.held q ≡ true). (usage q held).framed in
    let later = (tariff_passes book text terms answered).later in
    tariff_follows naming book text terms sound framed answered
    ∙ ap (λ amount. tariff_at (open_number book) (Some text) terms amount (tables_of naming book))
    (sym (sum_is_read naming book text terms sound framed later))
rows_follow naming book (RulingGiven said (TariffAccepted None terms)) sound usage answered rise =
    subst (λ (book : Book). tables_of naming (give (TariffAccepted None terms) book)
    ≡ rows_changed naming book.rulings (RulingGiven None (TariffAccepted None terms)) (tables_of naming book))
    (sym answered) (begun naming terms)
rows_follow naming book (RulingGiven said (RecordChosen bytes)) sound usage answered rise =
    let name : List ℕ = name_of naming bytes in
    let tables : Tables = tables_of naming book in
    let found = answered.1 in
    let there = named_held naming book.held name bytes found in
    let cost = what_is (price_in book.rulings bytes) (sound.priced bytes there) in
    let row : RecordRow = record_row book.rulings (charged_of book) book.posted bytes cost.0 in
    choice_follows naming book name bytes (member_at (name, row)) sound found
    (sym (ap (chosen_answer book) found) ∙ answered.0) (ap (member_by naming book bytes) cost.1)
    ∙ ap (λ current. put_choice (length book.rulings.choices + 1) (open_number book) name
    (choice_effects (last_close book.rulings) current (member_at (name, row))) tables)
    (sym (choice_reads naming book bytes sound there).current)
    ∙ ap (λ found. option_map_or (λ row. chosen_at book.rulings name row tables) found tables)
    (sym (row-found naming book sound (price_in book.rulings) (identity_by book.rulings)
    (charged_of book) bytes there cost.0 cost.1))
rows_follow naming book (RulingGiven said (WorkWithheld bytes)) sound usage answered rise =
    let name : List ℕ = name_of naming bytes in
    let tables : Tables = tables_of naming book in
    let found = answered.1 in
    let there = named_held naming book.held name bytes found in
    let cost = what_is (price_in book.rulings bytes) (sound.priced bytes there) in
    withhold_follows naming book name bytes sound found
    ∙ ap (λ current. put_withheld (length book.rulings.choices + 1) (open_number book) name
    (option_map (withdraw (last_close book.rulings)) current) tables)
    (sym (choice_reads naming book bytes sound there).current)
    ∙ ap (λ found. option_map_or (λ row. withheld_at book.rulings name row tables) found tables)
    (sym (row-found naming book sound (price_in book.rulings) (identity_by book.rulings)
    (charged_of book) bytes there cost.0 cost.1))
rows_follow naming book (RulingGiven said (TariffReplaced text terms)) sound usage answered rise =
    replace_follows naming book text terms sound (λ q held. (usage q held).framed) rise answered
rows_follow naming book (RulingGiven said (CreditGiven centre amount reason)) sound usage answered
    rise =
    let earlier : List Credit = book.rulings.credits in
    let credit : Credit = record {
      centre = centre;
      amount = amount;
      reason = reason;
      period = open_by book.rulings;
    } in
    let rows = next_number earlier credit (length earlier + 1) (omega arith) in
    λ i. record (tables_of naming book) { credits = rows i }
rows_follow naming book (RulingGiven said SecondRuleAdopted) sound usage answered rise =
    adoption_follows naming book sound usage answered
rows_follow naming book (ImportBegun note) sound usage answered rise = refl
rows_follow naming book (ImportRead reading) sound usage answered rise = refl
rows_follow naming book (ImportEnded ending) sound usage answered rise = refl

-- the law of events
pub event_follows : EventFollows
event_follows naming book event sound usage journaled answered rise =
    let rows = rows_follow naming book event sound usage answered rise in
    let noted = journal_follows naming book event journaled answered in
    let came = came_follows naming book event journaled answered in
    λ i. record (rows i) { journal = noted i; came = came i }

-- what was held before an event is held
held_before : (event : Event) (book : Book) (q : List ℕ) → has book.held q ≡ true
    → has (after event book).held q ≡ true
held_before (RecordKept bytes) book q held = has_with book.held bytes q
    ∙ ap (λ b. is q bytes || b) held ∙ or-true (is q bytes)
held_before (PeriodClosed said day) book q held = held
held_before (RulingGiven said ruling) book q held = held
held_before (ImportBegun note) book q held = held
held_before (ImportRead reading) book q held = held
held_before (ImportEnded ending) book q held = held

-- the tables of new books are those of the new book
pub new_follow : (naming : Naming) → new_tables ≡ tables_of naming new_book
new_follow naming = sym (new_under naming [])

-- so the tables follow a history
pub tables_follow : TablesFollow
tables_follow naming [] made usage = new_follow naming
tables_follow naming (event ∷ older) made usage =
    let before = λ (q : List ℕ) (held : has (book_after older).held q ≡ true).
    usage q (held_before event (book_after older) q held) in
    (λ i. changed naming (sym (rulings_are older) i) event
    (tables_follow naming older made.1 before i))
    ∙ sym (event_follows naming (book_after older) event (sound_after naming older made.1) before
    (journaled_after naming older made.1) made.0
    (ap (λ (ruled : Rulings). are_rising ruled.tariffs) (rulings_are older)
    ∙ latest_is_last.rising naming older made.1))
