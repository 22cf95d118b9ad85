-- A centre that is named is there, or what is asked of it is refused.
use Rattle.std.proofs.Common.{◌≡◌, ◌∙◌, ◌||◌, ℕ, ℤ, Bool, true, false, List, [], ◌∷◌, ◌++◌, refl}
use Rattle.std.proofs.Common.{sym, ap, subst, Option, Some, None, Result, Ok, Err, if◌then◌else◌}
use Rattle.book_model.proofs.Std.{list_any, list_any-append}
use Rattle.book_model.specs.declared.fault.LedgerFault.TheVariants.{NoSuchCentre}
use Rattle.tariff_rules.specs.Price.{unassigned}
use Rattle.book_model.specs.Words.{Book, RulingSeen, TariffSeen, begun_in, is_centre}
use Rattle.book_model.specs.Words.{names_centre, no_event, of_centre, same_bytes, tariffs_seen}
use Rattle.book_model.specs.Words.{tariffs_through}
use Rattle.book_core.specs.Words.{Seen, IsCall}
use Rattle.book_reports.specs.declared.period_days.PeriodDays.{PeriodDays}
use Rattle.book_reports.proofs.Words.{LedgerFault, Tells, closed_through, read_then, same_value}
use Rattle.book_reports.proofs.KeptTariffLemmas.{through_append}
use Rattle.book_reports.specs.KnownCentres.{is_named, is_named_by, known_outcome}
use Rattle.book_reports.specs.KnownCentres.{known_through_outcome, named_outcome}
use Rattle.book_reports.specs.PeriodDays.{days_outcome}

-- ---- one more tariff

-- none is named before one is read
pub named_none : (centre : List ℕ) (through : Option ℤ) → false ≡ is_named centre through []
named_none centre None = refl
named_none centre (Some last) = refl

pub named_more : (centre : List ℕ) (through : Option ℤ) (read : List RulingSeen) (day : ℤ)
    (text : List ℕ) (named more : Bool)
    → named ≡ is_named centre through read → more ≡ is_named_by centre through day text
    → (named || more) ≡ is_named centre through (read ++ TariffSeen day text ∷ [])
named_more centre through read day text named more are is =
    (λ i. are i || is i)
    ∙ sym (list_any-append (names_centre centre) (tariffs_through through read)
    (tariffs_through through (TariffSeen day text ∷ [])))
    ∙ ap (list_any (names_centre centre)) (sym (through_append through read (TariffSeen day text ∷ [])))

-- a tariff that has begun has a rule for the centre, or it has none
pub or_none : (named : Bool) → (named || false) ≡ named
or_none true = refl
or_none false = refl

-- ---- what is answered of a centre

-- where something else was answered of it, it is there
pub is_open : {A B : Type 0} (tariffs : List RulingSeen) (centre : Option (List ℕ)) (value given : B)
    (answer : Result A LedgerFault) → of_centre tariffs centre (Ok value) ≡ Ok given
    → of_centre tariffs centre answer ≡ answer
is_open tariffs None value given answer is = refl
is_open tariffs (Some centre) value given answer is = by (is_centre tariffs centre) is
  where
    by : (there : Bool) → (if there then Ok value else Err NoSuchCentre) ≡ Ok given
        → (if there then answer else Err NoSuchCentre) ≡ answer
    by true is = refl
    by false is = cc is

-- where it is refused, whatever is asked of it is refused
pub is_shut : {A B : Type 0} (tariffs : List RulingSeen) (centre : Option (List ℕ)) (value : B)
    (answer : Result A LedgerFault) {fault : LedgerFault}
    → of_centre tariffs centre (Ok value) ≡ Err fault
    → of_centre tariffs centre answer ≡ Err fault
is_shut tariffs None value answer is = cc is
is_shut tariffs (Some centre) value answer {fault} is = by (is_centre tariffs centre) is
  where
    by : (there : Bool) → (if there then Ok value else Err NoSuchCentre) ≡ Err fault
        → (if there then answer else Err NoSuchCentre) ≡ Err fault
    by true is = cc is
    by false is = let same : NoSuchCentre ≡ fault = cc is in ap Err same

-- what is answered of it is answered
pub is_passed : {A : Type 0} (tariffs : List RulingSeen) (centre : Option (List ℕ))
    (answer : Result A LedgerFault) (value : A) → of_centre tariffs centre answer ≡ Ok value
    → answer ≡ Ok value
is_passed tariffs None answer value is = is
is_passed tariffs (Some centre) answer value is = by (is_centre tariffs centre) is
  where
    by : (there : Bool) → (if there then answer else Err NoSuchCentre) ≡ Ok value
        → answer ≡ Ok value
    by true is = is
    by false is = cc is

-- by what was read the centre is there, or not
pub there_told : (number : ℕ) (centre : List ℕ) (days : PeriodDays) (named there : Bool)
    (book : Book) → (days_outcome number book).answer ≡ Ok days
    → (named_outcome centre days.through book).answer ≡ Ok named
    → there ≡ (same_bytes unassigned centre || named)
    → is_centre (begun_in number book.rulings) centre ≡ there
there_told number centre days named there book early late is =
    let tariffs = tariffs_seen book.rulings.tariffs in
    ap (λ (days : PeriodDays). same_bytes unassigned centre || is_named centre days.through tariffs)
    (same_value early)
    ∙ ap (λ named. same_bytes unassigned centre || named) (same_value late)
    ∙ sym is

-- a call that follows where the centre is there is one that asks for it first
pub known_then : {U B : Type 0} {show : U → B} {old mid new : Seen} {result : Result U LedgerFault}
    (number : ℕ) (centre : List ℕ) (answer : Book → Result B LedgerFault)
    → IsCall (λ done. done) old mid (Ok tt) (known_outcome number centre)
    → IsCall show mid new result (λ book. no_event (answer book))
    → IsCall show old new result
    (λ book. no_event (of_centre (begun_in number book.rulings) (Some centre) (answer book)))
known_then {show = show} {result = result} number centre answer known call =
    read_then (λ book. refl) (λ book. refl) (λ book. refl) (record { reopen = refl; store = refl })
    (λ book early. subst (Tells show result)
    (sym (is_open (begun_in number book.rulings) (Some centre) tt tt (answer book) early)))
    known call

-- the day that was answered of a centre is that of its period
pub its_day : (number : ℕ) (centre : Option (List ℕ)) (book : Book) (through : Option ℤ)
    → (known_through_outcome number centre book).answer ≡ Ok through
    → closed_through book number ≡ through
its_day number centre book through known =
    same_value (is_passed (begun_in number book.rulings) centre (Ok (closed_through book number))
    through known)
