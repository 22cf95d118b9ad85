-- The journal of a plain ledger, which keeps what each call said, and makes the entries of it.
use Rattle.std.specs.Prelude.{◌≡◌, ℕ, ◌+◌, ◌<◌, Bool, true, false, List, [], ◌∷◌, length, Option, None}
use Rattle.std.specs.Prelude.{Some, Result, Ok, Err, ℤ, pos, string_bytes, vec_capacity, vec_len}
use Rattle.tariff_rules.specs.Terms.{Terms}
use Rattle.tariff_rules.specs.TariffFile.{terms_in}
use Rattle.tariff_rules.specs.declared.fault.TariffFault.{TariffFault}
use Rattle.book_model.specs.declared.answer.Accepted.{Accepted}
use Rattle.book_model.specs.declared.answer.Accepted.TheVariants.{Kept}
use Rattle.book_model.specs.declared.answer.Ruled.{Ruled}
use Rattle.book_model.specs.declared.answer.Ruled.TheVariants.{Done}
use Rattle.book_model.specs.declared.fault.LedgerFault.{LedgerFault}
use Rattle.book_model.specs.declared.note.Share.{Share}
use Rattle.book_model.specs.Journal.{AdoptionOf, ChoiceOf, CloseOf, CreditOf, Entry, Place}
use Rattle.book_model.specs.Journal.{ReplacementOf, Ruled as RuledAt, TariffOf, change_newest}
use Rattle.book_model.specs.Journal.{end_with, keep_in, with_entry}
use Rattle.book_model.specs.Words.{AdoptionAsked, ChoiceAsked, CloseAsked, CreditAsked, Event}
use Rattle.book_model.specs.Words.{RecordKept, ReplacementAsked, RulingAsked, Rulings, TariffAsked}
use Rattle.book_model.specs.Words.{WithholdingAsked, entries_after, no_rulings, note_shown, open_by}
use Rattle.book_model.specs.Words.{stop_shown, told_by}
use Rattle.plain_ledger.specs.declared.journal.Journal.{Journal}
use Rattle.plain_ledger.specs.declared.journal.Said.{Said}
use Rattle.plain_ledger.specs.declared.journal.Said.TheVariants as what
use Rattle.plain_ledger.specs.declared.journal.Standing.{Standing}
use Rattle.plain_ledger.specs.declared.journal.Standing.TheVariants as stands

-- the first day of a tariff, by what was read of its text
abbrev pub first_day : Result Terms TariffFault → ℤ
first_day (Ok terms) = terms.effective
first_day (Err fault) = pos 0

-- where a ruling stands
abbrev pub place_by : Standing → Place
place_by (stands.Tariff text) = TariffOf (first_day (terms_in (string_bytes text)))
place_by (stands.Close period) = CloseOf period
place_by (stands.Choice before) = ChoiceOf (before + 1)
place_by stands.Adoption = AdoptionOf
place_by (stands.Replacement before) = ReplacementOf (before + 1)
place_by (stands.Credit before) = CreditOf (before + 1)

-- where a ruling that is asked for will stand, by the rulings before it, if it is done
abbrev pub place_asked : RulingAsked → Rulings → Place
place_asked (TariffAsked text) rulings = TariffOf (first_day (terms_in text))
place_asked (CloseAsked period through) rulings = CloseOf (open_by rulings)
place_asked (ChoiceAsked name) rulings = ChoiceOf (length rulings.choices + 1)
place_asked (AdoptionAsked rule) rulings = AdoptionOf
place_asked (ReplacementAsked text) rulings = ReplacementOf (length rulings.replaced + 1)
place_asked (WithholdingAsked name) rulings = ChoiceOf (length rulings.choices + 1)
place_asked (CreditAsked period centre amount reason) rulings =
    CreditOf (length rulings.credits + 1)

-- a copy of what an import says tells the same
abbrev pub TellsAlike : Share → Share → Type 0
TellsAlike copy share =
    (whole : Bool) (answers : List Accepted) (kept : List Event)
    → told_by (Some copy) whole answers kept ≡ told_by (Some share) whole answers kept

-- a journal after events of records and imports
abbrev pub entries_by : List Event → List Entry → List Entry
entries_by [] entries = entries
entries_by (event ∷ older) entries = entries_after event no_rulings (entries_by older entries)

-- the events of a record that is kept, with what its import says, if it says something
abbrev pub events_told : Option Share → Bool → List ℕ → List Event
events_told import whole bytes = told_by import whole (Kept ∷ []) (RecordKept bytes ∷ [])

-- the journal after what one call said,
abbrev pub said_after : Said → List Entry → List Entry
said_after (what.Ruling note standing) entries =
    with_entry (Some (note_shown note)) (RuledAt (place_by standing)) entries
said_after (what.Record bytes) entries = change_newest (keep_in bytes.items) entries
said_after (what.Import share whole bytes) entries =
    entries_by (events_told (Some share) whole bytes.items) entries
said_after (what.End stop) entries = change_newest (end_with (stop_shown stop)) entries

-- if it said something,
abbrev pub said_all : Option Said → List Entry → List Entry
said_all None entries = entries
said_all (Some said) entries = said_after said entries

-- and after what some said, one after another
abbrev pub said_from : List Entry → List Said → List Entry
said_from entries [] = entries
said_from entries (said ∷ later) = said_from (said_after said entries) later

-- the entries
abbrev pub entries_in : Journal → List Entry
entries_in journal = said_from [] journal.said.items

-- there is room for what one more call says
abbrev pub HasRoom : Journal → Type 0
HasRoom journal = vec_len journal.said < vec_capacity journal.said

-- a ruling is done, and a record is kept, by the answer
abbrev pub is_done : Result Ruled LedgerFault → Bool
is_done (Ok Done) = true
is_done answer = false

abbrev pub is_kept : Result Accepted LedgerFault → Bool
is_kept (Ok Kept) = true
is_kept answer = false
