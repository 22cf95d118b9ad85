-- A text of two lists, which are read from one book; and what a period would have cost by another
-- tariff.
use Rattle.std.proofs.Common.{◌≡◌, ◌≢◌, refl, sym, ap, subst, Option, List, ℕ, ℤ, Result, Ok, Err}
use Rattle.std.proofs.Common.{IsErrAnd}
use Rattle.book_model.specs.Faults.{refusal_of}
use Rattle.book_model.specs.Words.{TariffFault, Book, Outcome, Terms, no_event, terms_in}
use Rattle.book_core.specs.Words.{Seen, IsCall}
use Rattle.book_reports.specs.declared.what_if.WhatIf.{WhatIf}
use Rattle.book_reports.proofs.Words.{AllocError, sha256, LedgerFault, IsAlike, IsReading, Tells}
use Rattle.book_reports.proofs.Words.{call_failed, passed_on, read_as, read_then, same_value}
use Rattle.book_reports.proofs.Words.{IsMadeOf, closed_through, closed_through_outcome}
use Rattle.book_reports.specs.WhatIfTexts.{form_under, shown_by_both, table_under, text_under}
use Rattle.book_reports.specs.WhatIfTexts.{what_if_by, what_if_report}
use Rattle.book_reports.proofs.MadeLemmas.{call_made}
use Rattle.tariff_rules.specs.declared.fault.TariffFault.TheVariants as tariff
use Rattle.book_reports.specs.declared.what_if.StatementForm.TheVariants as shown_as

-- what two answers of a book are shown as
abbrev pub both : {A B C : Type 0} → (Book → Outcome A) → (Book → Outcome B) → (A → B → C) → Book
    → Outcome C
both first second text book =
    no_event (shown_by_both text (first book).answer (second book).answer)

-- the first list was refused
pub first_failed : {V A B U C : Type 0} {view : V → A} {show : U → C} {first : Book → Outcome A}
    (second : Book → Outcome B) (text : A → B → C) {old new : Seen} {fault : LedgerFault}
    (result : Result U LedgerFault) → IsErrAnd result (λ given. given ≡ fault) → IsReading first
    → IsCall view old new (Err fault) first → IsCall show old new result (both first second text)
first_failed second text result is none call =
    call_failed result is none (λ book. refl)
    (λ book is. ap (λ answer. shown_by_both text answer (second book).answer) is) call

module _ {V A W B U C : Type 0} {view : V → A} {see : W → B} {show : U → C}
    {first : Book → Outcome A} (second : Book → Outcome B) (text : A → B → C)
  where
    -- the first list was read, and this was made of the second one too
    pub both_made : {old mid new : Seen} {makes : W → Result U AllocError → Type 0} {value : V}
        {answer : Result W LedgerFault} {result : Result U LedgerFault}
        → IsReading first → IsReading second → IsCall view old mid (Ok value) first
        → IsCall see mid new answer second → IsMadeOf makes answer result
        → ((other : W) (given : U) → makes other (Ok given)
        → show given ≡ text (view value) (see other))
        → IsCall show old new result (both first second text)
    both_made {value = value} {result = result} none_first none one next is tells =
        read_then none_first (λ book. refl) (λ book. refl) (record { reopen = refl; store = refl })
        (λ book early. subst (Tells show result)
        (ap (λ answer. shown_by_both text answer (second book).answer) (sym early)))
        one (call_made (text (view value)) none next is tells)

-- the text was read: it is a tariff
pub terms_read : {U : Type 0} {show : U → List ℕ} {old new : Seen} {result : Result U LedgerFault}
    (asked : WhatIf) (text : List ℕ) (terms : Terms) → terms_in text ≡ Ok terms
    → IsCall show old new result (λ book. no_event
    (form_under asked.form asked.centre asked.period (sha256 text) terms book))
    → IsCall show old new result (what_if_report asked text)
terms_read {show = show} {old = old} {new = new} {result = result} asked text terms is =
    subst (λ said. IsCall show old new result
    (λ book. no_event (what_if_by asked text said book))) (sym is)

module _ {U : Type 0} {show : U → List ℕ} {old mid new : Seen} {result : Result U LedgerFault}
  where
    -- what was asked after the day that a period was closed through is read from the same book
    pub day_then : (period : ℕ) {through : Option ℤ}
        (asked : Option ℤ → Book → Result (List ℕ) LedgerFault)
        → IsCall (λ day. day) old mid (Ok through) (closed_through_outcome period)
        → IsCall show mid new result (λ book. no_event (asked through book))
        → IsCall show old new result (λ book. no_event (asked (closed_through book period) book))
    day_then period asked day call =
        read_then (λ book. refl) (λ book. refl) (λ book. refl)
        (record { reopen = refl; store = refl })
        (λ book early. subst (λ day. Tells show result (asked day book)) (sym (same_value early)))
        day call

    -- what was asked for is the text,
    pub text_read : (asked : WhatIf) (text digest : List ℕ) (terms : Terms) {through : Option ℤ}
        → asked.form ≡ shown_as.Text → terms_in text ≡ Ok terms → digest ≡ sha256 text
        → IsCall (λ day. day) old mid (Ok through) (closed_through_outcome asked.period)
        → IsCall show mid new result
        (λ book. no_event (text_under asked.centre asked.period digest terms through book))
        → IsCall show old new result (what_if_report asked text)
    text_read asked text digest terms {through = through} is read same day call =
        terms_read asked text terms read
        (subst (λ shown. IsCall show old new result (λ book. no_event
        (form_under shown asked.centre asked.period (sha256 text) terms book)))
        (sym is)
        (day_then asked.period (text_under asked.centre asked.period (sha256 text) terms) day
        (subst (λ digest. IsCall show mid new result
        (λ book. no_event (text_under asked.centre asked.period digest terms through book)))
        same call)))

    -- or the table
    pub table_read : (asked : WhatIf) (text : List ℕ) (terms : Terms) {through : Option ℤ}
        → asked.form ≡ shown_as.Table → terms_in text ≡ Ok terms
        → IsCall (λ day. day) old mid (Ok through) (closed_through_outcome asked.period)
        → IsCall show mid new result
        (λ book. no_event (table_under asked.centre asked.period terms book))
        → IsCall show old new result (what_if_report asked text)
    table_read asked text terms is read day call =
        terms_read asked text terms read
        (subst (λ shown. IsCall show old new result (λ book. no_event
        (form_under shown asked.centre asked.period (sha256 text) terms book)))
        (sym is)
        (day_then asked.period (λ day. table_under asked.centre asked.period terms) day call))

-- a refusal of a text reopens no ledger
refusal_alike : {V U : Type 0} (value : V) (why : TariffFault)
    → IsAlike {V = V} {U = U} (Ok value) (Err (refusal_of why))
refusal_alike value tariff.Memory = record { reopen = refl; store = refl }
refusal_alike value why = record { reopen = refl; store = refl }

-- and it is what the definitions say, but for a lack of memory
refusal_tells : {U : Type 0} (show : U → List ℕ) (asked : WhatIf) (text : List ℕ) (book : Book)
    (why : TariffFault) → (why ≢ tariff.Memory → terms_in text ≡ Err why)
    → Tells show (Err (refusal_of why)) (what_if_by asked text (terms_in text) book)
refusal_tells show asked text book tariff.Memory refused = tt
refusal_tells show asked text book why refused =
    ap (λ said. what_if_by asked text said book) (refused (λ same. cc same))

-- a text that is no tariff, after a call that was answered
pub text_refused : {V A U : Type 0} {view : V → A} {show : U → List ℕ} {old new : Seen} {value : V}
    {outcome : Book → Outcome A} (asked : WhatIf) (text : List ℕ) (why : TariffFault)
    (result : Result U LedgerFault) → IsErrAnd result (λ given. given ≡ refusal_of why)
    → (why ≢ tariff.Memory → terms_in text ≡ Err why) → IsReading outcome
    → IsCall view old new (Ok value) outcome
    → IsCall show old new result (what_if_report asked text)
text_refused {show = show} {value = value} asked text why result is refused none call =
    rw (passed_on result is)
    (read_as none (λ book. refl) (refusal_alike value why)
    (λ book said. refusal_tells show asked text book why refused) call)
