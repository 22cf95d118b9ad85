-- A close that is tried: what it answers, and what it writes.
use Rattle.std.proofs.Common.{◌≡◌, ◌∙◌, ℕ, suc, ◌+◌, ◌≤◌, List, [], ◌∷◌, length, refl, sym, ap}
use Rattle.std.proofs.Common.{false, Ok, Option, None, Some, arith, cond, is_some, map, subst, ℤ}
use Rattle.std.proofs.Common.{Ordering, length-append}
use Rattle.book_model.specs.Journal.{CloseOf}
use Rattle.book_model.specs.Words.{IsDay, Book, Note, all_periods, open_number, open_period}
use Rattle.book_model.specs.Words.{PeriodClosed, close_outcome, if_done, Naming, by_key, close_answer, IsSound}
use Rattle.book_model.specs.Words.{last_close, with_close}
use Rattle.book_model.proofs.Lemmas.{else_find, find-both, by_key_total, closed_open}
use Rattle.book_core.specs.Words.{ruled_in}
use Rattle.table_model.specs.Words.{closed_at, by_period, under, numbered, PostsTouched, tables_of}
use Rattle.table_model.specs.Words.{Tables, day_entries}
use Rattle.table_model.proofs.MoveLemmas.{not_number}
use Rattle.table_model.proofs.NumberedLemmas.{by_period_total, find-under, is_number}
use Rattle.table_model.proofs.TouchedRecords.{posts_few}
use Rattle.book_model.proofs.Std.{get-from_entries, length-map}
use Rattle.tree_tables.specs.Days.{NoneNext}
use Rattle.table_ledger.specs.Entries.{NumbersEntries, enter_row}
use Rattle.table_ledger.specs.Posting.{CanClose}
use Rattle.table_ledger.proofs.Words.{find, Ruled, Done, View, IsAt}
use Rattle.table_ledger.specs.declared.summary.Summary.{Summary}
use Rattle.table_ledger.proofs.LastNumbers.{numbers_entries}
use Rattle.table_ledger.proofs.Remembered.{Says}
use Rattle.table_ledger.proofs.StageLemmas.{IsEvent}

-- ---- what is written

-- there is no row beyond the last period
find_beyond : {K V : Type 0} (R : K → K → Ordering) (q : ℕ × K) (n : ℕ)
    (periods : List (List (K × V))) → n + length periods ≤ q.0
    → find (by_period R) q (numbered n periods) ≡ None
find_beyond R q n [] beyond = refl
find_beyond {K} {V} R q n (rows ∷ periods) beyond =
    let other : is_number q.0 n ≡ false =
    not_number q.0 n (λ same. absurd (omega (arith, same, beyond))) in
    let later : suc n + length periods ≤ q.0 = omega (arith, beyond) in
    find-both (by_period R) q (under n rows) (numbered (suc n) periods)
    ∙ (λ i. else_find (find-under R q n rows i) (find_beyond R q (suc n) periods later i))
    ∙ ap (λ b. else_find (cond b (find R q.1 rows) None) None) other

-- so the next period has none
none_next : (naming : Naming) (book : Book) (number : ℕ) → IsSound naming book
    → number ≡ open_number book → NoneNext number (tables_of naming book)
none_next naming book number sound is place =
    let lists = map (day_entries book.rulings) (all_periods book) in
    let counted : length lists ≡ length book.past + 1 =
    length-map (all_periods book) (day_entries book.rulings)
    ∙ length-append book.past (open_period book ∷ []) in
    let closed = sound.closed in
    ap (λ found. is_some found)
    (get-from_entries (by_period_total by_key by_key_total) (numbered 1 lists) (suc number, place)
    ∙ find_beyond by_key (suc number, place) 1 lists (omega (arith, counted, closed, is)))

-- A close that is answered Done is an event.
pub close_is_event : {naming : Naming} (noted : Option Note) (was : Summary) {view : View}
    (number : ℕ) (day : ℤ) (last : Option ℤ) → IsDay day
    → close_answer (ruled_in was.rulings) number day ≡ Ok Done
    → last ≡ last_close (ruled_in was.rulings) → (book : Book) → IsAt naming was view book
    → IsEvent (λ (ruled : Ruled). ruled) naming (close_outcome noted number day) Done
    (Says (with_close day (ruled_in was.rulings)) was.choices was.replaced was.credits was.held
    was.total)
    (λ (tables : Tables). CanClose number last tables
    × NumbersEntries (closed_at number day tables))
    (λ tables. enter_row noted (CloseOf number) (closed_at number day tables)) book
close_is_event {naming = naming} noted was number day last is_day answer last_is book at =
    let done : close_answer book.rulings number day ≡ Ok Done =
    ap (λ rulings. close_answer rulings number day) (sym at.remembers.rulings) ∙ answer in
    let own = closed_open book number day done in
    let sound = at.kept.readable.sound in
    let late = last_is ∙ ap last_close at.remembers.rulings in
    record {
      event = PeriodClosed noted day;
      is = ap (if_done (Some (PeriodClosed noted day))) done;
      answer = done;
      answered = subst (λ n. close_answer book.rulings n day ≡ Ok Done) own done;
      when = (
        record {
          none_next = none_next naming book number sound own;
          touched = subst (λ n. PostsTouched n last (tables_of naming book)) (sym own)
              (subst (λ close. PostsTouched (open_number book) close (tables_of naming book))
              (sym late) (posts_few naming book sound));
        },
        numbers_entries naming book,
      );
      submitted = is_day;
      changes = ap (λ n. enter_row noted (CloseOf n) (closed_at n day (tables_of naming book))) own;
      remembers = λ follows summary says. record {
        rulings = says.rulings ∙ ap (with_close day) at.remembers.rulings;
        choices = says.choices ∙ at.remembers.choices;
        replaced = says.replaced ∙ at.remembers.replaced;
        credits = says.credits ∙ at.remembers.credits;
        held = says.held ∙ at.remembers.held;
        total = says.total ∙ at.remembers.total;
      };
    }
