-- A tariff that is tried: what it answers, and what it writes.
use Rattle.std.proofs.Common.{◌≡◌, ◌≢◌, ◌∙◌, ℕ, List, refl, sym, ap, Bool, true, false, Ok, Err}
use Rattle.std.proofs.Common.{Option, Some, None, if◌then◌else◌, nat_lt, sum_by, IsUtf8}
use Rattle.book_model.proofs.Std.{values, list_any}
use Rattle.book_model.specs.Journal.{TariffOf}
use Rattle.book_model.specs.Words.{terms_ruled, IsDay, Note, Terms, terms_in, Book, TariffAccepted}
use Rattle.book_model.specs.Words.{most_cost, open_by, open_number, tariff_outcome, if_done, Naming}
use Rattle.book_model.specs.Words.{has_text, RulingGiven, is_effective, is_later, tariff_answer}
use Rattle.book_model.specs.Words.{with_tariff, Rulings}
use Rattle.book_core.specs.Words.{ruled_in}
use Rattle.book_model.proofs.TestLemmas.{tariff_tests}
use Rattle.book_core.proofs.RulingLemmas.{done_by, other_by, said_by}
use Rattle.table_model.specs.Words.{tariff_at, amount_under, Tables, tables_of, IsReadable}
use Rattle.table_model.proofs.LateRows.{amount_is_read, late_counted}
use Rattle.table_model.proofs.RulingLemmas.{terms_follow}
use Rattle.table_ledger.proofs.Words.{View, Ruled, Done, Full, CanBeSummed, CostUnder, TakesTariff}
use Rattle.table_ledger.proofs.Words.{IsAt}
use Rattle.table_ledger.specs.Entries.{NumbersEntries, enter_row}
use Rattle.table_ledger.specs.Repricing.{CountsRecords}
use Rattle.table_ledger.specs.declared.summary.Summary.{Summary}
use Rattle.table_ledger.proofs.EnteredRulings.{entries_numbered, ruling_entered}
use Rattle.table_ledger.proofs.Remembered.{Says}
use Rattle.table_ledger.proofs.Repriced.{no_room, room}
use Rattle.table_ledger.proofs.StageLemmas.{IsEvent}

-- ---- the tests

module _ (noted : Option Note) (summary : Summary) (text : List ℕ) (terms : Terms) where
  -- the rulings that are remembered, and the three tests by them
  abbrev ruled : Rulings
  ruled = ruled_in summary.rulings

  abbrev told : Bool
  told = list_any (has_text text) ruled.tariffs

  abbrev there : Bool
  there = list_any (is_effective terms.effective) ruled.tariffs

  abbrev later : Bool
  later = is_later terms.effective ruled

  module _ (said : terms_in text ≡ Ok terms) (naming : Naming) (view : View) (book : Book)
      (ready : IsAt naming summary view book) where
    -- what the records cost under it
    abbrev cost : ℕ
    cost = sum_by (amount_under terms) (values (tables_of naming book).records)

    -- that is too much
    abbrev much : Bool
    much = nat_lt most_cost cost

    -- the book as it is read back
    readable : IsReadable naming book
    readable = ready.kept.readable

    -- the answer to the text
    answered : (tariff_outcome noted text book).answer ≡ terms_ruled ruled much text terms
    answered =
        ap (tariff_answer book text) said
        ∙ terms_follow.answer naming book text terms readable
        ∙ ap (λ rulings. terms_ruled rulings much text terms) (sym ready.remembers.rulings)

    -- an answer that is not Done is given without a look at the records
    pub tariff_other : terms_ruled ruled false text terms ≢ Ok Done
        → (tariff_outcome noted text book).answer ≡ terms_ruled ruled false text terms
    tariff_other other = answered ∙ other_by told there later much other

    module _ (done : terms_ruled ruled false text terms ≡ Ok Done) where
      -- else the cost decides
      decided : (found : Bool) → much ≡ found
          → (tariff_outcome noted text book).answer ≡ (if found then Err Full else Ok Done)
      decided found is =
          answered ∙ done_by told there later much done
          ∙ ap (λ (found : Bool). if found then Err Full else Ok Done) is

      -- which is summed from the total on
      can_be : CanBeSummed terms summary.total (tables_of naming book)
      can_be = record {
        sum = ready.remembers.total ∙ sym (amount_is_read naming book readable.sound);
        counted = late_counted naming book terms readable.sound
            (ap (is_later terms.effective) (sym ready.remembers.rulings)
            ∙ (tariff_tests told there later false done).later);
      }

      -- what looks have found of it
      abbrev Found : Option ℕ → Type 0
      Found found = CanBeSummed terms summary.total (tables_of naming book)
          → CostUnder terms (tables_of naming book) found

      -- so it is Full if there is no room
      pub tariff_full : Found None → (tariff_outcome noted text book).answer ≡ Err Full
      tariff_full known = decided true (no_room cost (known can_be).cost)

      -- A tariff that is answered Done is an event.
      pub tariff_is_event : (amount : ℕ) → Found (Some amount) → IsUtf8 text
          → IsDay terms.effective → (period : ℕ) → period ≡ open_by ruled
          → IsEvent (λ (ruled : Ruled). ruled) naming (tariff_outcome noted text) Done
          (Says (with_tariff (Some text) terms ruled) summary.choices summary.replaced
          summary.credits summary.held amount)
          (λ tables. (TakesTariff period terms tables × CountsRecords summary.held tables)
          × NumbersEntries (tariff_at period (Some text) terms amount tables))
          (λ tables. enter_row noted (TariffOf terms.effective)
          (tariff_at period (Some text) terms amount tables)) book
      tariff_is_event amount known utf8 day period number_is =
          let ruling = TariffAccepted (Some text) terms in
          let under = known can_be in
          let cost_is = room cost amount under.cost in
          let number : period ≡ open_number book =
          number_is ∙ ap open_by ready.remembers.rulings in
          let is_done = decided false cost_is.0 in
          let answer = sym (ap (tariff_answer book text) said) ∙ is_done in
          let tables = tables_of naming book in
          let made : tariff_at period (Some text) terms amount tables
          ≡ tariff_at (open_number book) (Some text) terms cost tables =
          λ i. tariff_at (number i) (Some text) terms (cost_is.1 i) tables in
          record {
            event = RulingGiven noted ruling;
            is = ap (if_done (said_by noted text (terms_in text))) is_done
                ∙ ap (said_by noted text) said;
            answer = is_done;
            answered = answer;
            when = (
              (
                record {
                  naming = naming;
                  book = book;
                  text = text;
                  readable = readable;
                  done = answer;
                  number = number;
                  are = refl;
                },
                sym ready.remembers.held,
              ),
              entries_numbered naming book noted ruling readable answer made,
            );
            submitted = (
              record { characters = utf8; said = said; day = day },
              terms_follow.priced naming book text terms readable answer (under.can refl),
            );
            changes = ruling_entered naming book noted ruling readable answer made refl;
            remembers = λ follows other says. record {
              rulings = says.rulings ∙ ap (with_tariff (Some text) terms) ready.remembers.rulings;
              choices = says.choices ∙ ready.remembers.choices;
              replaced = says.replaced ∙ ready.remembers.replaced;
              credits = says.credits ∙ ready.remembers.credits;
              held = says.held ∙ ready.remembers.held;
              total = says.total ∙ cost_is.1
                  ∙ ap (λ (tables : Tables). tables.book.amount) (sym follows);
            };
          }
