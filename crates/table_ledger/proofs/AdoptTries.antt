-- A rule of identity that is tried: what it answers, and what it writes.
use Rattle.std.proofs.Common.{◌≡◌, ◌∙◌, ℕ, refl, sym, ap, Bool, true, false, Option, Some, Ok, Err}
use Rattle.std.proofs.Common.{ℤ, if◌then◌else◌, ◌==◌, eqb-true}
use Rattle.book_model.specs.Journal.{AdoptionOf}
use Rattle.book_model.specs.Words.{Book, Naming, Note, RulingGiven, Rulings, SecondRuleAdopted}
use Rattle.book_model.specs.Words.{adopt_answer, adopt_outcome, if_done, last_close, open_by}
use Rattle.book_model.specs.Words.{rule_by, second_rule, with_second_rule}
use Rattle.book_model.specs.declared.answer.Ruled.TheVariants.{Already}
use Rattle.book_model.specs.declared.fault.LedgerFault.TheVariants.{OldRule}
use Rattle.book_core.specs.Words.{ruled_in}
use Rattle.table_model.specs.Changed.{adopted_at}
use Rattle.table_model.specs.Words.{Tables, tables_of}
use Rattle.table_ledger.specs.Entries.{NumbersEntries, enter_row}
use Rattle.table_ledger.proofs.Words.{View, Ruled, Done, Always, IsAt}
use Rattle.table_ledger.specs.declared.summary.Summary.{Summary}
use Rattle.table_ledger.proofs.EnteredRulings.{entries_numbered, ruling_entered}
use Rattle.table_ledger.proofs.Remembered.{Says}
use Rattle.table_ledger.proofs.StageLemmas.{IsEvent}

-- if it is Done, it is the second rule
is_second : (same second : Bool)
    → (if same then Ok Already else if second then Ok Done else Err OldRule) ≡ Ok Done
    → second ≡ true
is_second true second done = cc
is_second false true done = refl
is_second false false done = cc

done_by : (rulings : Rulings) (rule : ℕ) → adopt_answer rulings rule ≡ Ok Done → rule ≡ second_rule
done_by rulings rule done =
    eqb-true rule second_rule (is_second (rule == rule_by rulings) (rule == second_rule) done)

-- An adoption that is answered Done is an event.
pub adopt_is_event : {naming : Naming} {view : View} (noted : Option Note) (was : Summary)
    (rule : ℕ)
    → adopt_answer (ruled_in was.rulings) rule ≡ Ok Done → (period : ℕ) (through : Option ℤ)
    → period ≡ open_by (ruled_in was.rulings) → through ≡ last_close (ruled_in was.rulings)
    → (book : Book) → IsAt naming was view book
    → IsEvent (λ (ruled : Ruled). ruled) naming (adopt_outcome noted rule) Done
    (Says (with_second_rule (ruled_in was.rulings)) was.choices was.replaced was.credits was.held
    was.total)
    (λ (tables : Tables). Always tables × NumbersEntries (adopted_at period through tables))
    (λ tables. enter_row noted AdoptionOf (adopted_at period through tables)) book
adopt_is_event {naming = naming} noted was rule done period through period_is through_is book at =
    let adopts : adopt_answer book.rulings rule ≡ Ok Done =
    ap (λ rulings. adopt_answer rulings rule) (sym at.remembers.rulings) ∙ done in
    let second = ap (adopt_answer book.rulings) (sym (done_by book.rulings rule adopts)) ∙ adopts in
    let made : adopted_at period through (tables_of naming book)
    ≡ adopted_at (open_by book.rulings) (last_close book.rulings) (tables_of naming book) =
    λ i. adopted_at ((period_is ∙ ap open_by at.remembers.rulings) i)
    ((through_is ∙ ap last_close at.remembers.rulings) i) (tables_of naming book) in
    let whole = at.kept.readable in
    record {
      event = RulingGiven noted SecondRuleAdopted;
      is = ap (if_done (Some (RulingGiven noted SecondRuleAdopted))) adopts;
      answer = adopts;
      answered = second;
      when = (tt, entries_numbered naming book noted SecondRuleAdopted whole second made);
      submitted = tt;
      changes = ruling_entered naming book noted SecondRuleAdopted whole second made refl;
      remembers = λ follows summary says. record {
        rulings = says.rulings ∙ ap with_second_rule at.remembers.rulings;
        choices = says.choices ∙ at.remembers.choices;
        replaced = says.replaced ∙ at.remembers.replaced;
        credits = says.credits ∙ at.remembers.credits;
        held = says.held ∙ at.remembers.held;
        total = says.total ∙ at.remembers.total;
      };
    }
