-- The records of a period with their systems: two calls of a ledger for each, which show one book.
use Rattle.std.proofs.Common.{◌≡◌, ◌∙◌, ℕ, List, refl, sym, ap, Option, Some, None, Result, Ok, Err}
use Rattle.std.proofs.Common.{Global, IsErrAnd, Vec, ok_or, option_map}
use Rattle.smf_frames.specs.Header.{header_of}
use Rattle.book_model.specs.declared.fault.LedgerFault.TheVariants.{Reopen, Store}
use Rattle.book_model.specs.Words.{Book, Naming, next_detail_outcome, no_event, record_named}
use Rattle.book_model.specs.Words.{record_outcome}
use Rattle.book_core.specs.Words.{IsCall, Seen}
use Rattle.book_reports.proofs.Words.{Detail, LedgerFault, Memory, NoSuchRecord, SystemDetail}
use Rattle.book_reports.proofs.Words.{shown_by, IsAlike, Tells, by_names, call_failed}
use Rattle.book_reports.proofs.Words.{read_as, answers, both_shown, refused_next, shown, same_value}
use Rattle.book_reports.proofs.Words.{next_on_system}
use Rattle.book_reports.specs.SystemDetails.{IsSystemBy, detail_in, hindrance, on_system}
use Rattle.book_reports.specs.SystemDetails.{system_found, system_named, system_outcome}

-- ---- the system of a record

-- the record that was answered is the one that is held
system_told : (held : Option (List ℕ)) (bytes : List ℕ) → ok_or held NoSuchRecord ≡ Ok bytes
    → system_found held ≡ (header_of bytes).system
system_told None bytes told = cc
system_told (Some one) bytes told = ap (λ bytes. (header_of bytes).system) (same_value told)

-- a hindrance reopens a ledger where the fault does
hindrance_alike : {V U : Type 0} (fault : LedgerFault)
    → IsAlike {V = V} {U = U} (Err fault) (Err (hindrance fault))
hindrance_alike Memory = record { reopen = refl; store = refl }
hindrance_alike Store = record { reopen = refl; store = refl }
hindrance_alike Reopen = record { reopen = refl; store = refl }
hindrance_alike fault = record { reopen = refl; store = refl }

-- and shows nothing
hindrance_tells : (fault : LedgerFault) (answer : Result (List ℕ) LedgerFault)
    → Tells (λ (system : List ℕ). system) (Err (hindrance fault)) answer
hindrance_tells Memory answer = tt
hindrance_tells Store answer = tt
hindrance_tells Reopen answer = tt
hindrance_tells fault answer = tt

-- so its system is that of the record of the name
pub system_read : {old new : Seen} (name : List ℕ) (answer : Result (Vec ℕ Global) LedgerFault)
    (result : Result (List ℕ) LedgerFault)
    → IsCall (λ (bytes : Vec ℕ Global). bytes.items) old new answer
    (record_outcome old.naming name)
    → IsSystemBy answer result
    → IsCall (λ system. system) old new result (system_outcome old.naming name)
system_read {old} {new} name (Ok bytes) result call is =
    rw is
    (read_as (λ book. refl) (λ book. refl) (record { reopen = refl; store = refl })
    (λ book told. ap Ok (system_told (record_named old.naming book.held name) bytes.items told))
    call)
system_read {old} {new} name (Err fault) result call is =
    rw is
    (read_as (λ book. refl) (λ book. refl) (hindrance_alike fault)
    (λ book told. hindrance_tells fault (Ok (system_named old.naming book name))) call)

-- ---- the next record

-- the answer to the next detail is that to the one after the last
asked_same : (naming : Naming) (period : ℕ) (last : Option SystemDetail) {asked : Option Detail}
    → asked ≡ detail_in last → (book : Book)
    → (next_detail_outcome naming period None (detail_in last) book).answer
    ≡ (next_detail_outcome naming period None asked book).answer
asked_same naming period last is book =
    ap (λ asked. (next_detail_outcome naming period None asked book).answer) (sym is)

module _ {old mid : Seen} (period : ℕ) (last : Option SystemDetail) {asked : Option Detail}
    (is : asked ≡ detail_in last)
  where
    -- the next record is refused as the next detail is
    pub next_refused : {fault : LedgerFault} (result : Result (Option SystemDetail) LedgerFault)
        → IsErrAnd result (λ given. given ≡ fault)
        → IsCall (λ found. found) old mid (Err fault)
        (next_detail_outcome old.naming period None asked)
        → IsCall (λ found. found) old mid result
        (λ book. no_event (next_on_system old.naming period last book))
    next_refused result passed call =
        call_failed result passed (λ book. refl) (λ book. refl)
        (λ book said. ap (shown_by (option_map (on_system old.naming book)))
        (asked_same old.naming period last is book ∙ said))
        call

    module _ {found : Option Detail}
        (call : IsCall (λ found. found) old mid (Ok found)
        (next_detail_outcome old.naming period None asked))
      where
        -- there is none
        pub none_left : found ≡ None → IsCall (λ found. found) old mid (Ok None)
            (λ book. no_event (next_on_system old.naming period last book))
        none_left none =
            read_as (λ book. refl) (λ book. refl) (record { reopen = refl; store = refl })
            (λ book said. ap (shown_by (option_map (on_system old.naming book)))
            (asked_same old.naming period last is book ∙ said ∙ ap Ok none))
            call

        module _ {new : Seen} (detail : Detail) (some : found ≡ Some detail) where
          -- something hindered the look at its record
          pub system_hindered : {fault : LedgerFault}
              (result : Result (Option SystemDetail) LedgerFault)
              → IsErrAnd result (λ given. given ≡ fault)
              → IsCall (λ system. system) mid new (Err fault)
              (system_outcome mid.naming detail.name)
              → IsCall (λ found. found) old new result
              (λ book. no_event (next_on_system old.naming period last book))
          system_hindered result passed next =
              refused_next result passed (λ book. refl) (λ book. refl) (λ book known told. cc)
              (shown (λ book. refl) call) next

          -- or this is it
          pub system_met : (system : List ℕ)
              → IsCall (λ system. system) mid new (Ok system)
              (system_outcome mid.naming detail.name)
              → IsCall (λ found. found) old new
              (Ok (Some (record { detail = detail; system = system })))
              (λ book. no_event (next_on_system old.naming period last book))
          system_met system next =
              let made : List ℕ → SystemDetail =
              λ system. record { detail = detail; system = system } in
              answers _ (λ book. refl)
              (λ book both.
              ap (shown_by (option_map (on_system old.naming book)))
              (asked_same old.naming period last is book ∙ both.first ∙ ap Ok some)
              ∙ ap (λ system. Ok (Some (made system))) (same_value both.next))
              (both_shown (λ book. refl) (shown (λ book. refl) call)
              (by_names (λ naming. system_outcome naming detail.name) call.work.naming next))
