-- A credit that is tried: what it answers, and what it writes.
use Rattle.std.proofs.Common.{◌≡◌, ◌∙◌, ◌+◌, ℕ, List, Bool, Ok, Some, ap, length-append, map, nat_le}
use Rattle.std.proofs.Common.{Option, subst, sym}
use Rattle.book_model.proofs.Std.{entries, list_any, map-map, values}
use Rattle.book_model.specs.Journal.{CreditOf}
use Rattle.book_model.specs.Words.{Book, Credit, CreditGiven, IsCreditOf, Naming, Note, RulingGiven}
use Rattle.book_model.specs.Words.{credit_answer, credit_outcome, credit_ruled, if_done}
use Rattle.book_model.specs.Words.{most_credits}
use Rattle.book_model.proofs.Lemmas.{credited_open, list_any-map}
use Rattle.book_core.specs.Words.{ruled_in}
use Rattle.table_model.specs.Changed.{rows_changed}
use Rattle.table_model.specs.Steps.{put_credit_row}
use Rattle.table_model.specs.Words.{Tables, tables_of}
use Rattle.table_model.proofs.UnderNumbers.{values-numbers}
use Rattle.tree_tables.specs.Stored.{credit_entry, credit_given}
use Rattle.tree_tables.specs.declared.credit_rows.CreditText.{CreditText}
use Rattle.tree_tables.specs.declared.credit_rows.StoredCredit.{StoredCredit}
use Rattle.table_ledger.specs.CreditReads.{is_given_as}
use Rattle.table_ledger.specs.Entries.{NumbersEntries, enter_row}
use Rattle.table_ledger.proofs.Words.{Always, Done, IsAt, Ruled, View}
use Rattle.table_ledger.specs.declared.summary.Summary.{Summary}
use Rattle.table_ledger.proofs.EnteredRulings.{entries_numbered, ruling_entered}
use Rattle.table_ledger.proofs.Remembered.{Says}
use Rattle.table_ledger.proofs.StageLemmas.{IsEvent}

-- it is one of those that were listed if it is one of those that are kept
pub among_kept : (credit : CreditText) (all : List StoredCredit) (tables : Tables)
    → map credit_entry all ≡ entries tables.credits
    → list_any (λ (stored : StoredCredit). is_given_as credit (credit_entry stored).1) all
    ≡ list_any (is_given_as credit) (values tables.credits)
among_kept credit all tables lists =
    sym (list_any-map (is_given_as credit) (λ (stored : StoredCredit). (credit_entry stored).1) all)
    ∙ ap (list_any (is_given_as credit))
    (sym (map-map (λ (entry : ℕ × Credit). entry.1) credit_entry all)
    ∙ ap (map (λ (entry : ℕ × Credit). entry.1)) lists)

module _ {naming : Naming} {view : View} (was : Summary) (credit : CreditText) (book : Book)
    (at : IsAt naming was view book) {given : Bool}
    (known : given ≡ list_any (is_given_as credit) (values (tables_of naming book).credits)) where
  -- the answer by what is remembered
  pub credit_told :
      credit_answer book.rulings credit.period credit.centre credit.amount credit.reason.now
      ≡ credit_ruled (ruled_in was.rulings) given (nat_le most_credits was.credits) credit.period
      credit.centre
  credit_told =
      let its : list_any (is_given_as credit) book.rulings.credits ≡ given =
      ap (list_any (is_given_as credit)) (sym (values-numbers book.rulings.credits)) ∙ sym known in
      λ i. credit_ruled (sym at.remembers.rulings i) (its i)
      (nat_le most_credits (sym at.remembers.credits i)) credit.period credit.centre

  -- A credit that is answered Done is an event.
  pub credit_is_event : (noted : Option Note)
      → IsCreditOf credit.centre credit.amount credit.reason.now
      → credit_ruled (ruled_in was.rulings) given (nat_le most_credits was.credits) credit.period
      credit.centre ≡ Ok Done
      → IsEvent (λ (ruled : Ruled). ruled) naming
      (credit_outcome noted credit.period credit.centre credit.amount credit.reason.now) Done
      (Says (ruled_in was.rulings) was.choices was.replaced (was.credits + 1) was.held was.total)
      (λ (tables : Tables). Always tables
      × NumbersEntries (put_credit_row (was.credits + 1) (credit_given credit) tables))
      (λ tables. enter_row noted (CreditOf (was.credits + 1))
      (put_credit_row (was.credits + 1) (credit_given credit) tables)) book
  credit_is_event noted said tests =
      let centre = credit.centre in
      let amount = credit.amount in
      let reason = credit.reason.now in
      let done = credit_told ∙ tests in
      let own = credited_open book credit.period centre amount reason done in
      let count = ap (λ n. n + 1) at.remembers.credits in
      let ruling = CreditGiven centre amount reason in
      let answered =
      subst (λ number. credit_answer book.rulings number centre amount reason ≡ Ok Done) own done in
      let tables = tables_of naming book in
      let made : put_credit_row (was.credits + 1) (credit_given credit) tables
      ≡ rows_changed naming book.rulings (RulingGiven noted ruling) tables =
      λ i. put_credit_row (count i) (record (credit_given credit) { period = own i }) tables in
      record {
        event = RulingGiven noted ruling;
        is = ap (if_done (Some (RulingGiven noted ruling))) done;
        answer = done;
        answered = answered;
        when = (tt, entries_numbered naming book noted ruling at.kept.readable answered made);
        submitted = said;
        changes = ruling_entered naming book noted ruling at.kept.readable answered made
            (ap CreditOf count);
        remembers = λ follows summary says. record {
          rulings = says.rulings ∙ at.remembers.rulings;
          choices = says.choices ∙ at.remembers.choices;
          replaced = says.replaced ∙ at.remembers.replaced;
          credits = says.credits ∙ count ∙ sym (length-append book.rulings.credits _);
          held = says.held ∙ at.remembers.held;
          total = says.total ∙ at.remembers.total;
        };
      }
