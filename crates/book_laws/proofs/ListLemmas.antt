-- All periods of books, as they are read.
use Rattle.std.proofs.Common.{◌≡◌, ◌∙◌, ℕ, suc, ◌+◌, ◌-◌, ◌<◌, Bool, true, false, List, [], ◌∷◌}
use Rattle.std.proofs.Common.{◌++◌, length, Option, None, Some, Result, Ok, refl, sym, ap, subst}
use Rattle.std.proofs.Common.{append_assoc, arith, eqb-true, eq-eqb, length-append, ok_or}
use Rattle.std.proofs.Common.{option_map, ◌==◌, if◌then◌else◌, pos, ◌-ℤ◌, slice_get, sum_by}
use Rattle.book_model.proofs.Std.{length-map, sum_by-cons}
use Rattle.book_model.specs.Words.{total_of, Book, open_number, open_period, all_periods, period_of}
use Rattle.book_model.specs.Words.{charged_of, Event, after_all, book_after, book_of, lines_of}
use Rattle.book_model.specs.Words.{Outcome, no_event, charges_outcome, adjustments_outcome, Period}
use Rattle.book_model.specs.Words.{Naming, rows_for}
use Rattle.book_model.proofs.Lemmas.{sound_after, slice_get-front, slice_get-behind}
use Rattle.book_model.proofs.Lemmas.{books_follow_history}
use Rattle.book_core.specs.Words.{IsOpenAt, Seen}
use Rattle.office.specs.Laws.{IsStillOpen}
use Rattle.book_laws.proofs.Words.{LedgerFault, NoSuchPeriod, Line, ChargeRow, plus_of, minus_of}
use Rattle.book_laws.specs.HistoryLaws.{IsBalanced}
use Rattle.book_laws.proofs.ReadLemmas.{books_conserve, conserved}
use Rattle.book_laws.specs.ListLaws.{PeriodLists, list_calls, rows_in, lines_in, rows_cost}
use Rattle.book_laws.specs.ListLaws.{BookListsConserve, ListsConserve}
use Rattle.book_laws.specs.Calls.{AreDone, Step, calls_of, ledger_after_calls, works_of}
use Rattle.book_laws.proofs.CallLemmas.{calls_leave}

-- what comes after a prefix is found at its length
found_behind : {X : Type 0} (front later : List X) (x : X)
    → slice_get (front ++ x ∷ later) (length front) ≡ Some x
found_behind [] later x = refl
found_behind (first ∷ front) later x = found_behind front later x

-- the period of a number is the one at its place, counted from 1
found_by : (book : Book) → length book.past ≡ length book.rulings.closes → (k : ℕ)
    → k < open_number book → (is_zero is_open : Bool) → (suc k == 0) ≡ is_zero
    → (suc k == open_number book) ≡ is_open
    → (if is_zero then None
    else if is_open then Some (open_period book)
    else slice_get book.past (suc k - 1)) ≡ slice_get (all_periods book) k
found_by book closed k within true is_open zeroth last =
    let none = eqb-true (suc k) 0 zeroth in
    absurd (omega arith)
found_by book closed k within false true zeroth last =
    let own = eqb-true (suc k) (open_number book) last in
    let place : length book.past ≡ k = omega arith in
    sym (slice_get-behind book.past (open_period book))
    ∙ ap (slice_get (all_periods book)) place
found_by book closed k within false false zeroth last =
    let other : suc k ≡ open_number book → ⊥ = λ same.
    cc (eq-eqb (suc k) (open_number book) same, last) in
    let past : k < length book.past = differ_less other in
    let place : suc k - 1 ≡ k = omega arith in
    ap (slice_get book.past) place ∙ sym (slice_get-front book.past (open_period book) k past)
  where
    differ_less : (suc k ≡ open_number book → ⊥) → k < length book.past
    differ_less other = omega arith

-- a list that is answered is that of its period
answered_by : {A : Type 0} (f : Period → A) (period : Period) (found : Option Period) (list : A)
    → found ≡ Some period
    → ok_or (option_map f found) NoSuchPeriod ≡ Ok list → list ≡ f period
answered_by f period found list is answered =
    let same : ◌≡◌ {A = Result _ LedgerFault} (Ok (f period)) (Ok list) =
    subst (λ found. ok_or (option_map f found) NoSuchPeriod ≡ Ok list) is answered in
    cc

-- the lists that are answered for a number, and for each number after it
abbrev AreAnswered : {A : Type 0} → (ℕ → Outcome A) → ℕ → List A → Type 0
AreAnswered outcome number [] = Unit {0}
AreAnswered outcome number (list ∷ later) =
    ((outcome number).answer ≡ Ok list) × AreAnswered outcome (suc number) later

-- Lists that a sound book answers for its periods, one after the other, amount to what the lists of
-- the periods do.
module _ {A : Type 0} (f : Period → A) (amount : A → ℕ) (book : Book)
    (closed : length book.past ≡ length book.rulings.closes) where
  amounts_from : (front rest : List Period) (lists : List A) → all_periods book ≡ front ++ rest
      → length lists ≡ length rest
      → AreAnswered (λ number. no_event (ok_or (option_map f (period_of book number)) NoSuchPeriod))
      (suc (length front)) lists
      → sum_by amount lists ≡ sum_by (λ period. amount (f period)) rest
  amounts_from front [] [] all as_many answered = refl
  amounts_from front [] (list ∷ lists) all as_many answered = absurd (omega arith)
  amounts_from front (period ∷ rest) [] all as_many answered = absurd (omega arith)
  amounts_from front (period ∷ rest) (list ∷ lists) all as_many answered =
      let number : ℕ = suc (length front) in
      let long : length (all_periods book) ≡ length front + suc (length rest) =
      ap length all ∙ length-append front (period ∷ rest) in
      let own = length-append book.past (open_period book ∷ []) in
      let within : length front < open_number book = omega arith in
      let found : period_of book number ≡ Some period =
      found_by book closed (length front) within (number == 0) (number == open_number book) refl refl
      ∙ ap (λ periods. slice_get periods (length front)) all ∙ found_behind front rest period in
      let first : list ≡ f period =
      answered_by f period (period_of book number) list found answered.0 in
      let next : length (front ++ period ∷ []) ≡ number =
      length-append front (period ∷ []) ∙ omega arith in
      let later = amounts_from (front ++ period ∷ []) rest lists
      (all ∙ sym (append_assoc front (period ∷ []) rest)) (omega arith)
      (subst (λ place. AreAnswered
      (λ number. no_event (ok_or (option_map f (period_of book number)) NoSuchPeriod)) (suc place)
      lists) (sym next) answered.1) in
      sum_by-cons amount list lists ∙ ap (λ list. amount list + sum_by amount lists) first
      ∙ ap (λ sum. amount (f period) + sum) later
      ∙ sym (sum_by-cons (λ period. amount (f period)) period rest)

  -- all of them
  all_amounts : (lists : List A) → length lists ≡ open_number book
      → AreAnswered (λ number. no_event (ok_or (option_map f (period_of book number)) NoSuchPeriod)) 1
      lists
      → sum_by amount lists ≡ sum_by (λ period. amount (f period)) (all_periods book)
  all_amounts lists as_many answered =
      let own = length-append book.past (open_period book ∷ []) in
      let long : length lists ≡ length (all_periods book) = omega arith in
      amounts_from [] (all_periods book) lists refl long answered

-- what all rows and lines that a book answers amount to, if its amounts are balanced
module _ (naming : Naming) (book : Book) (closed : length book.past ≡ length book.rulings.closes)
    (rows : List (List ChargeRow)) (lines : List (List Line)) where
  lists_balance : IsBalanced naming book
      → AreAnswered (λ number. charges_outcome number book) 1 rows
      → AreAnswered (λ number. adjustments_outcome naming number book) 1 lines
      → length rows ≡ open_number book → length lines ≡ open_number book
      → pos (rows_cost rows + sum_by plus_of lines) -ℤ pos (sum_by minus_of lines)
      ≡ pos (total_of book.rulings (charged_of book))
  lists_balance balanced charges adjustments all_rows all_lines =
      let cost = all_amounts (λ period. rows_for book.rulings period.counted)
      (λ some. sum_by (λ row. row.amount) some) book closed rows all_rows charges in
      let plus = all_amounts (lines_of naming book.rulings) plus_of book closed lines all_lines
      adjustments in
      let minus = all_amounts (lines_of naming book.rulings) minus_of book closed lines all_lines
      adjustments in
      (λ i. pos (cost i + plus i) -ℤ pos (minus i)) ∙ balanced

-- calls that read the lists of periods give those that the book answers
lists_answered : (naming : Naming) (number : ℕ) (periods : List PeriodLists) (was : Bool)
    (book : Book) (events : List Event) (is : Bool)
    → works_of naming (list_calls number periods) was book events is
    → AreAnswered (λ number. charges_outcome number book) number (rows_in periods)
    × AreAnswered (λ number. adjustments_outcome naming number book) number (lines_in periods)
lists_answered naming number [] was book events is made = (tt, tt)
lists_answered naming number (period ∷ later) was book events is made =
    let Rest : Bool → Book → Type 0 = λ between book.
    works_of naming (list_calls (suc number) later) between book made.next.late is in
    let first : after_all made.early book ≡ book =
    ap (λ events. after_all events book) made.first.makes.1 in
    let second : after_all made.next.early (after_all made.early book) ≡ book =
    ap (λ events. after_all events (after_all made.early book)) made.next.first.makes.1 ∙ first in
    let rest = lists_answered naming (suc number) later made.next.between book made.next.late is
    (subst (Rest made.next.between) second made.next.next) in (
      (made.first.makes.0, rest.0),
      (
        subst (λ book. (adjustments_outcome naming number book).answer ≡ Ok period.lines.items)
            first made.next.first.makes.0,
        rest.1,
      ),
    )

-- what a ledger answers for all periods of a book is balanced, where the book is
lists_of_book : {L : Type 0} (seen : L → Seen) (naming : Naming) (book : Book) (before : L)
    (steps : List (Step L)) (periods : List PeriodLists)
    → length book.past ≡ length book.rulings.closes → IsBalanced naming book
    → IsOpenAt naming book (seen before) → AreDone seen before steps
    → IsStillOpen (seen (ledger_after_calls before steps))
    → calls_of steps ≡ list_calls 1 periods → length periods ≡ open_number book
    → pos (rows_cost (rows_in periods) + sum_by plus_of (lines_in periods))
    -ℤ pos (sum_by minus_of (lines_in periods))
    ≡ pos (total_of book.rulings (charged_of book))
lists_of_book seen naming book before steps periods closed balanced opened done still asked all =
    let left = calls_leave seen naming book before steps opened done still in
    let lists = lists_answered naming 1 periods false book left.events false
    (subst (λ calls. works_of naming calls false book left.events false) asked left.made) in
    let all_rows : length (rows_in periods) ≡ open_number book =
    length-map periods (λ period. period.rows.items) ∙ all in
    let all_lines : length (lines_in periods) ≡ open_number book =
    length-map periods (λ period. period.lines.items) ∙ all in
    lists_balance naming book closed (rows_in periods) (lines_in periods) balanced lists.0 lists.1
    all_rows all_lines

-- the law of the lists, of books that can be read back
pub book_lists_conserve : {L : Type 0} (seen : L → Seen) → BookListsConserve seen
book_lists_conserve seen naming book before steps periods whole opened done still asked all =
    lists_of_book seen naming book before steps periods whole.sound.closed
    (books_conserve naming book whole) opened done still asked all

-- and of histories
pub lists_conserve : {L : Type 0} (seen : L → Seen) → ListsConserve seen
lists_conserve seen naming history before steps periods answered opened done still asked all =
    let book : Book = book_after history in
    let same : book ≡ book_of history = books_follow_history history in
    lists_of_book seen naming book before steps periods (sound_after naming history answered).closed
    (conserved naming history answered) opened done still asked (all ∙ ap open_number (sym same))
    ∙ ap (λ book. pos (total_of book.rulings (charged_of book))) same
