-- The list of rulings.
use Rattle.std.proofs.Common.{◌≡◌, ◌∙◌, ℕ, Bool, true, List, [], ◌++◌, map, refl, sym, ap}
use Rattle.std.proofs.Common.{append-nil, Some, Result, Ok, Err, Vec, Global, inl}
use Rattle.book_model.specs.declared.listed_ruling.ListedRuling.{ListedRuling}
use Rattle.book_model.specs.Words.{Book, Event, Naming, Outcome, RulingSeen, ruling_shown}
use Rattle.book_core.specs.Words.{Seen, Calls, IsCall, Makes, Reopens, IsTransition}
use Rattle.book_core.proofs.TransitionLemmas.{work_as}
use Rattle.report_texts.specs.RulingLists.{ruling_list_head}
use Rattle.book_lists.specs.Streamed.{is_hindrance, refusal_in}
use Rattle.book_lists.proofs.ReadingLemmas.{reopens_alike}
use Rattle.book_reports.specs.declared.report.Report.TheVariants.{RulingList}
use Rattle.book_reports.proofs.Words.{LedgerFault, ruling_line, ruling_list_text, ReportFault}
use Rattle.book_reports.proofs.Words.{list_text, parts_from, IsAlike, parts_as, parts_each}
use Rattle.book_reports.proofs.Words.{report_outcome, WritesRulings}
use Rattle.book_reports.specs.StreamedRulings.{text_by}
use Rattle.book_model.specs.declared.fault.LedgerFault.TheVariants as ledger
use Rattle.book_lists.specs.declared.fault.ReportFault.TheVariants as report

-- ---- texts

-- a list of rulings is written by its parts
pub rulings_written : (rulings : List RulingSeen)
    → list_text ruling_list_head (λ number. ruling_line) (λ rulings. []) rulings
    ≡ ruling_list_text rulings
rulings_written rulings =
    append-nil (ruling_list_head ++ parts_from (λ number. ruling_line) 0 rulings)
    ∙ ap (λ lines. ruling_list_head ++ lines) (parts_each ruling_line 0 rulings)

pub listed_written : (rulings : List ListedRuling)
    → list_text ruling_list_head (λ number ruling. ruling_line (ruling_shown ruling)) (λ rulings. [])
    rulings
    ≡ ruling_list_text (map ruling_shown rulings)
listed_written rulings =
    ap (λ lines. (ruling_list_head ++ lines) ++ [])
    (parts_as ruling_shown (λ number ruling. ruling_line (ruling_shown ruling)) (λ number. ruling_line)
    (λ number ruling. refl) 0 rulings)
    ∙ rulings_written (map ruling_shown rulings)

-- ---- the list as one text

text_alike : {T : Type 0} (text : T) (written : Result (Unit {0}) ReportFault)
    → IsAlike (refusal_in written) (text_by text written)
text_alike text (Ok done) = record { reopen = refl; store = refl }
text_alike text (Err report.Write) = record { reopen = refl; store = refl }
text_alike text (Err report.Memory) = record { reopen = refl; store = refl }
text_alike text (Err (report.Ledger fault)) = record { reopen = refl; store = refl }

text_refused : (outcome : Outcome (List ℕ)) (fault : LedgerFault) (events : List Event) → events ≡ []
    → is_hindrance (report.Ledger fault) ≡ true
    → Makes (λ (text : Vec ℕ Global). text.items) outcome (Err fault) events
text_refused outcome ledger.Memory events none hindered = none
text_refused outcome ledger.Store events none hindered = inl none
text_refused outcome ledger.Reopen events none hindered = none
text_refused outcome fault events none hindered = absurd (cc hindered)

text_makes : (naming : Naming) (text : Vec ℕ Global) (written : Result (Unit {0}) ReportFault)
    (was : Bool) (before : Book) (events : List Event) (is : Bool)
    → WritesRulings naming (Some []) (Some text.items) written was before events is
    → Makes (λ (text : Vec ℕ Global). text.items) (report_outcome naming RulingList before)
    (text_by text written) events
text_makes naming text (Ok done) was before events is it = (ap Ok (sym it.written.0), it.none)
text_makes naming text (Err report.Write) was before events is it = it.none
text_makes naming text (Err report.Memory) was before events is it = it.none
text_makes naming text (Err (report.Ledger fault)) was before events is it =
    text_refused (report_outcome naming RulingList before) fault events it.none it.written.1

-- a list that was written into memory is the report
pub list_in_memory : {old new : Seen} (text : Vec ℕ Global) (written : Result (Unit {0}) ReportFault)
    → IsTransition old new (WritesRulings old.naming (Some []) (Some text.items) written)
    → Reopens (refusal_in written) old.must_reopen new.must_reopen
    → IsCall (λ (text : Vec ℕ Global). text.items) old new (text_by text written)
    (report_outcome old.naming RulingList)
list_in_memory {old} {new} text written work reopens = record {
  work = work_as old new (WritesRulings old.naming (Some []) (Some text.items) written)
      (Calls (λ (text : Vec ℕ Global). text.items) (report_outcome old.naming RulingList)
      (text_by text written))
      (λ was before events is it. record {
        makes = text_makes old.naming text written was before events is it;
        reopens = reopens_alike (refusal_in written) (text_by text written) was is
            (text_alike text written) it.reopens;
      })
      work;
  reopens = reopens_alike (refusal_in written) (text_by text written) old.must_reopen new.must_reopen
      (text_alike text written) reopens;
}
