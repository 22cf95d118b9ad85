-- The figures of a period: lists and counts that are read from one book.
use Rattle.std.proofs.Common.{◌≡◌, ◌∙◌, ℕ, Bool, true, false, true≢false, List, [], refl, sym, ap}
use Rattle.std.proofs.Common.{subst, Option, Some, None, Result, Ok, Err, Vec, Global, ok_or}
use Rattle.std.proofs.Common.{option_map}
use Rattle.book_model.proofs.Std.{option_map_or}
use Rattle.book_model.specs.Words.{Book, Naming, Outcome, no_event}
use Rattle.book_core.specs.Words.{Seen, IsCall}
use Rattle.report_texts.specs.Figures.{lines_in}
use Rattle.book_reports.proofs.Words.{LedgerFault, NoSuchPeriod, Line, ChargeRow, figures_by}
use Rattle.book_reports.proofs.Words.{Figures, IsReading, fault_alike, fault_tells, read_as}
use Rattle.book_reports.proofs.Words.{read_then, same_value, shown_by, lines_outcome}
use Rattle.book_reports.specs.Figures.{is_missing}

-- what is answered of a period, if there is one, and what is taken of it, if there is one
abbrev pub answered : {X Y : Type 0} → (Book → X → List Y) → (Book → Option X) → Book
    → Outcome (List Y)
answered list found book = no_event (ok_or (option_map (list book) (found book)) NoSuchPeriod)

abbrev pub taken : {X Y : Type 0} → (Book → X → List Y) → (Book → Option X) → Book → Outcome (List Y)
taken list found book = no_event (Ok (option_map_or (list book) (found book) []))

-- a period that is there was answered
there : {X Y : Type 0} (list : X → List Y) (found : Option X) (given : List Y)
    → ok_or (option_map list found) NoSuchPeriod ≡ Ok given → option_map_or list found [] ≡ given
there list None given is = cc is
there list (Some period) given is = same_value is

-- and one that is not is taken as empty
gone : {X Y : Type 0} (list : X → List Y) (found : Option X) (given : List Y)
    → ok_or (option_map list found) NoSuchPeriod ≡ Err NoSuchPeriod → given ≡ []
    → option_map_or list found [] ≡ given
gone list None given is none = sym none
gone list (Some period) given is none = cc is

-- nothing else is refused
only_gone : {X Y : Type 0} (list : X → List Y) (found : Option X) (fault : LedgerFault)
    → ok_or (option_map list found) NoSuchPeriod ≡ Err fault → fault ≡ NoSuchPeriod
only_gone list None fault is = cc is
only_gone list (Some period) fault is = cc is

-- that it is so of a fault
abbrev is_gone : (V : Type 0) → LedgerFault → Bool
is_gone V fault = is_missing {V = V} (Err fault)

missing_is : {V : Type 0} (answer : Result V LedgerFault) → is_missing answer ≡ true
    → answer ≡ Err NoSuchPeriod
missing_is (Ok given) missing = cc missing
missing_is (Err NoSuchPeriod) missing = refl
missing_is (Err fault) missing = cc missing

module _ {V X Y : Type 0} {view : V → List Y} {old new : Seen} (list : Book → X → List Y)
    (found : Book → Option X)
  where
    taken_there : (given : V) → IsCall view old new (Ok given) (answered list found)
        → IsCall view old new (Ok given) (taken list found)
    taken_there given call =
        read_as (λ book. refl) (λ book. refl) (record { reopen = refl; store = refl })
        (λ book said. ap Ok (there (list book) (found book) (view given) said)) call

    pub taken_gone : (answer : Result V LedgerFault) (given : V) → is_missing answer ≡ true
        → view given ≡ [] → IsCall view old new answer (answered list found)
        → IsCall view old new (Ok given) (taken list found)
    taken_gone answer given missing none call =
        read_as (λ book. refl) (λ book. refl) (record { reopen = refl; store = refl })
        (λ book said. ap Ok (gone (list book) (found book) (view given) said none))
        (subst (λ answer. IsCall view old new answer (answered list found)) (missing_is answer missing) call)

    pub taken_else : (answer : Result V LedgerFault) → is_missing answer ≡ false
        → IsCall view old new answer (answered list found)
        → IsCall view old new answer (taken list found)
    taken_else (Ok given) other call = taken_there given call
    taken_else (Err fault) other call =
        read_as (λ book. refl) (λ book. refl) (fault_alike fault)
        (λ book. fault_tells view view fault
        (λ said.
        let is : fault ≡ NoSuchPeriod = only_gone (list book) (found book) fault said in
        absurd (true≢false (sym (ap (is_gone V) is) ∙ other)))) call

-- the lines of a period were read, and then a count
pub own_read : {old mid new : Seen} (naming : Naming) (period : ℕ) (rows : List ChargeRow)
    {lines : Vec Line Global} (count : Book → Outcome ℕ) (own : Result ℕ LedgerFault)
    (result : Result Figures LedgerFault) → IsReading count
    → IsCall (λ (lines : Vec Line Global). lines.items) old mid (Ok lines) (lines_outcome naming period)
    → IsCall (λ (count : ℕ). count) mid new own count
    → result ≡ shown_by (figures_by rows lines.items) own
    → IsCall (λ (figures : Figures). figures) old new result
    (λ book. no_event (shown_by (figures_by rows (lines_in naming period book)) (count book).answer))
own_read naming period rows {lines = lines} count (Ok own) result none one next is =
    rw is
    (read_then (λ book. refl) none (λ book. refl) (record { reopen = refl; store = refl })
    (λ book early said. ap (shown_by (figures_by rows (lines_in naming period book))) said
    ∙ ap (λ (lines : List Line). Ok (figures_by rows lines own)) (same_value early)) one next)
own_read naming period rows {lines = lines} count (Err fault) result none one next is =
    rw is
    (read_then (λ book. refl) none (λ book. refl) (fault_alike fault)
    (λ book early. fault_tells (λ (count : ℕ). count) (λ (figures : Figures). figures) fault
    (ap (shown_by (figures_by rows (lines_in naming period book))))) one next)
