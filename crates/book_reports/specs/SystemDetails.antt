-- The records that a period counts, each with the system that wrote it: a detail, and then the
-- record that is held under its name.
use Rattle.std.specs.Prelude.{◌≡◌, ℕ, List, [], map, Option, None, Some, Result, Ok, Err}
use Rattle.std.specs.Prelude.{option_map, MatchResult, Vec}
use Rattle.std.specs.Global.{Global}
use Rattle.smf_frames.specs.Header.{header_of}
use Rattle.book_model.specs.declared.detail.Detail.{Detail}
use Rattle.book_model.specs.declared.fault.LedgerFault.{LedgerFault}
use Rattle.book_model.specs.declared.fault.LedgerFault.TheVariants.{Memory, Reopen, Store}
use Rattle.book_model.specs.Words.{record_named, Book, Naming, Outcome, details_outcome}
use Rattle.book_model.specs.Words.{next_detail_outcome, no_event}
use Rattle.coverage_texts.specs.declared.coverage_rows.SystemDetail.{SystemDetail}
use Rattle.book_lists.specs.Shown.{shown_by}

-- the system of a record that was found
abbrev pub system_found : Option (List ℕ) → List ℕ
system_found None = []
system_found (Some bytes) = (header_of bytes).system

-- the system of the record that is held under a name
abbrev pub system_named : Naming → Book → List ℕ → List ℕ
system_named naming book name = system_found (record_named naming book.held name)

-- the same, as a ledger is asked for it
abbrev pub system_outcome : Naming → List ℕ → Book → Outcome (List ℕ)
system_outcome naming name book = no_event (Ok (system_named naming book name))

-- a detail with the system of its record
abbrev pub on_system : Naming → Book → Detail → SystemDetail
on_system naming book detail =
    record { detail = detail; system = system_named naming book detail.name }

-- the details of a period with their systems
abbrev pub system_details : Naming → ℕ → Book → Result (List SystemDetail) LedgerFault
system_details naming period book =
    shown_by (map (on_system naming book)) (details_outcome naming period None book).answer

-- the detail of the last one that was read
abbrev pub detail_in : Option SystemDetail → Option Detail
detail_in last = option_map (λ one. one.detail) last

-- the one that comes after it
abbrev pub next_on_system : Naming → ℕ → Option SystemDetail → Book
    → Result (Option SystemDetail) LedgerFault
next_on_system naming period last book =
    shown_by (option_map (on_system naming book))
    (next_detail_outcome naming period None (detail_in last) book).answer

-- what hinders a ledger that knows the record: a record that it counts is held under its name
abbrev pub hindrance : LedgerFault → LedgerFault
hindrance Store = Store
hindrance Reopen = Reopen
hindrance fault = Memory

-- the system of a record that was asked for, or what hindered it
abbrev pub IsSystemBy : Result (Vec ℕ Global) LedgerFault → Result (List ℕ) LedgerFault → Type 0
IsSystemBy answer result =
    MatchResult answer (λ bytes. result ≡ Ok (header_of bytes.items).system)
    (λ fault. result ≡ Err (hindrance fault))
