-- A tariff in the place of another that is tried: what it answers, and what it writes.
use Rattle.std.proofs.Common.{◌≡◌, ◌≢◌, ◌∙◌, ◌+◌, ◌∷◌, [], ℕ, ℤ, List, Bool, true, false, not, ◌||◌, cond}
use Rattle.std.proofs.Common.{Option, Some, None, Ok, Err, Result, ap, filter, find, refl, sym, subst}
use Rattle.std.proofs.Common.{if◌then◌else◌, inl, inr, int_cmp, length, length-append, map, nat_le}
use Rattle.std.proofs.Common.{nat_lt, option_and_then, slice_get, sum_by, IsUtf8}
use Rattle.std.proofs.Math.Bool.{or-true}
use Rattle.book_model.proofs.Std.{get, get-from_entries, int_cmp_total, list_any, values}
use Rattle.book_model.specs.declared.answer.Ruled.TheVariants.{Already}
use Rattle.book_model.specs.declared.fault.LedgerFault.TheVariants.{NoSuchTariff, TariffDate}
use Rattle.book_model.specs.declared.fault.LedgerFault.TheVariants.{TariffRefused}
use Rattle.book_model.specs.Journal.{ReplacementOf}
use Rattle.book_model.specs.Words.{AcceptedTerms, Book, IsDay, Naming, Note, RulingGiven}
use Rattle.book_model.specs.Words.{TariffReplaced, Terms, has_text, if_done, is_after, is_effective, is_too_dear}
use Rattle.book_model.specs.Words.{is_under, last_close, most_cost, most_replaced, open_by}
use Rattle.book_model.specs.Words.{replace_outcome, replace_ruled, replaced_in, replacing_answer}
use Rattle.book_model.specs.Words.{terms_in, Rulings, with_replaced}
use Rattle.book_model.proofs.TestLemmas.{replace_tests}
use Rattle.book_core.specs.Words.{in_its_place, ruled_in, LeavesOpen}
use Rattle.book_core.proofs.RulingLemmas.{replaced_by as said_so}
use Rattle.table_model.specs.Changed.{replaced_at}
use Rattle.table_model.specs.TableChanges.{amount_replaced}
use Rattle.table_model.specs.Words.{IsReadable, RecordRow, Tables, tables_of, tariff_entries}
use Rattle.table_model.proofs.ReplacedChanges.{replaced_alone, replaced_priced, sum_replaced}
use Rattle.table_ledger.proofs.Words.{AttemptsOne, Done, Full, IsAt, LedgerFault, Memory, Ruled, State}
use Rattle.table_ledger.proofs.Words.{View, opens}
use Rattle.table_ledger.specs.Entries.{NumbersEntries, enter_row}
use Rattle.table_ledger.specs.Replacing.{CostInPlace, HasTextAndCounts, text_begun}
use Rattle.table_ledger.specs.TariffRefusals.{IsNoTariff}
use Rattle.table_ledger.specs.declared.summary.Summary.{Summary}
use Rattle.table_ledger.proofs.Answering.{makes_refused}
use Rattle.table_ledger.proofs.EnteredRulings.{entries_numbered, ruling_entered}
use Rattle.table_ledger.proofs.Remembered.{Says, tariffs_are}
use Rattle.table_ledger.proofs.Repriced.{no_room, room}
use Rattle.table_ledger.proofs.StageLemmas.{IsEvent}
use Rattle.table_ledger.proofs.TryLemmas.{saw_none, try_answered}

-- ---- the tests

-- the answer by the tests in their order
abbrev by_tests : Bool → Bool → Bool → Bool → Result Ruled LedgerFault
by_tests told there late full =
    if told then Ok Already
    else if not there then Err NoSuchTariff
    else if not late then Err TariffDate
    else if full then Err Full
    else Ok Done

-- an answer that is not Done depends on no room
full_other : (told there late full : Bool) → by_tests told there late false ≢ Ok Done
    → by_tests told there late full ≡ by_tests told there late false
full_other true there late full other = refl
full_other false false late full other = refl
full_other false true false full other = refl
full_other false true true full other = absurd (other refl)

-- if all is Done but for the room, the room decides
full_decides : (told there late full : Bool) → by_tests told there late false ≡ Ok Done
    → by_tests told there late full ≡ (if full then Err Full else Ok Done)
full_decides true there late full done = cc
full_decides false false late full done = cc
full_decides false true false full done = cc
full_decides false true true full done = refl

-- the first of those that pass a test is found
first_passing : {X : Type 0} (p : X → Bool) (xs : List X) (one : X) (more : List X)
    → filter p xs ≡ one ∷ more → find p xs ≡ Some one
first_passing p [] one more is = cc
first_passing p (x ∷ xs) one more is =
    elim (p x) as (λ b. cond b (x ∷ filter p xs) (filter p xs) ≡ one ∷ more
    → cond b (Some x) (find p xs) ≡ Some one) [
      | true ↦ λ is. ap (λ list. slice_get list 0) is
      | false ↦ λ is. first_passing p xs one more is
    ] is

-- a text that is no tariff is refused
pub no_replacement : {naming : Naming} {was : Summary} {state : State} (noted : Option Note)
    (text : List ℕ) (fault : LedgerFault) → IsNoTariff text fault
    → AttemptsOne (λ (ruled : Ruled). ruled) naming was was state state (replace_outcome noted text)
    (Ok (Err fault))
no_replacement {naming} {was} {state} noted text fault (inl memory) =
    subst (λ (fault : LedgerFault). AttemptsOne (λ (ruled : Ruled). ruled) naming was was state state
    (replace_outcome noted text) (Ok (Err fault))) (sym memory)
    (try_answered (replace_outcome noted text) saw_none (opens refl refl) (λ book at known. refl))
no_replacement {naming} {was} {state} noted text fault (inr refused) =
    subst (λ (fault : LedgerFault). AttemptsOne (λ (ruled : Ruled). ruled) naming was was state state
    (replace_outcome noted text) (Ok (Err fault))) (sym refused.1)
    (try_answered (replace_outcome noted text) saw_none (opens refl refl)
    (λ book at known. makes_refused (λ (ruled : Ruled). ruled) (replace_outcome noted text book)
    (TariffRefused refused.0) (ap (replacing_answer book text) refused.2)))

module _ (noted : Option Note) (summary : Summary) (text : List ℕ) (terms : Terms) where
  -- the rulings that are remembered, and the three tests by them
  abbrev ruled : Rulings
  ruled = ruled_in summary.rulings

  abbrev told : Bool
  told = list_any (has_text text) ruled.tariffs

  abbrev there : Bool
  there = list_any (is_effective terms.effective) ruled.tariffs

  abbrev late : Bool
  late = is_after (last_close ruled) terms.effective

  -- no more can be replaced
  abbrev many : Bool
  many = nat_le most_replaced summary.replaced

  module _ (said : terms_in text ≡ Ok terms) (naming : Naming) (view : View) (book : Book)
      (ready : IsAt naming summary view book) where
    abbrev tables : Tables
    tables = tables_of naming book

    -- what the records cost then
    abbrev cost : ℕ
    cost = sum_by (amount_replaced book.rulings.tariffs terms) (values tables.records)

    -- that is too much
    abbrev much : Bool
    much = nat_lt most_cost cost

    -- the book as it is read back
    readable : IsReadable naming book
    readable = ready.kept.readable

    -- the answer to the text
    answered : (replace_outcome noted text book).answer
        ≡ replace_ruled ruled (much || many) text terms
    answered =
        let dear : is_too_dear (with_replaced text terms book.rulings) book.held ≡ much =
        ap (nat_lt most_cost)
        (sym (sum_replaced naming book readable.sound readable.lines.framed text terms)) in
        ap (replacing_answer book text) said
        ∙ (λ i. replace_ruled (sym ready.remembers.rulings i)
        (dear i || nat_le most_replaced (sym ready.remembers.replaced i)) text terms)

    -- an answer that is not Done is given without a look at the records
    pub replace_other : replace_ruled ruled false text terms ≢ Ok Done
        → (replace_outcome noted text book).answer ≡ replace_ruled ruled false text terms
    replace_other other = answered ∙ full_other told there late (much || many) other

    module _ (done : replace_ruled ruled false text terms ≡ Ok Done) where
      -- else the room decides
      decided : (full : Bool) → (much || many) ≡ full
          → (replace_outcome noted text book).answer ≡ (if full then Err Full else Ok Done)
      decided full is =
          answered ∙ full_decides told there late (much || many) done
          ∙ ap (λ (full : Bool). if full then Err Full else Ok Done) is

      -- it is Full where no more can be replaced,
      pub replace_most : many ≡ true → (replace_outcome noted text book).answer ≡ Err Full
      replace_most most = decided true (ap (λ b. much || b) most ∙ or-true much)

      module _ (tariffs : List AcceptedTerms) (are : tariffs ≡ ruled.tariffs) where
        -- what is remembered of the tariffs is what the book has
        its : tariffs ≡ book.rulings.tariffs
        its = are ∙ tariffs_are ready.remembers

        -- or where there is no room for what the records cost
        pub replace_full : CostInPlace tariffs terms tables None
            → (replace_outcome noted text book).answer ≡ Err Full
        replace_full known =
            let under = subst (λ tariffs. CostInPlace tariffs terms tables None) its known in
            decided true (ap (λ b. b || many) (no_room cost under.cost))

        -- A tariff that takes the place of another is an event.
        pub replace_is_event : many ≡ false → (amount : ℕ)
            → CostInPlace tariffs terms tables (Some amount) → IsUtf8 text
            → IsDay terms.effective → (period : ℕ) → period ≡ open_by ruled → (was : List ℕ)
            → text_begun terms.effective tariffs ≡ Some was
            → IsEvent (λ (ruled : Ruled). ruled) naming (replace_outcome noted text) Done
            (Says (in_its_place (record { text = Some text; terms = terms }) ruled) summary.choices
            (summary.replaced + 1) summary.credits summary.held amount)
            (λ tables. HasTextAndCounts terms was summary.held tables
            × NumbersEntries
            (replaced_at (summary.replaced + 1) period tariffs text terms amount tables))
            (λ tables. enter_row noted (ReplacementOf (summary.replaced + 1))
            (replaced_at (summary.replaced + 1) period tariffs text terms amount tables)) book
        replace_is_event few amount known utf8 day period number_is was begun =
            let own : AcceptedTerms = record { text = Some text; terms = terms } in
            let under = subst (λ tariffs. CostInPlace tariffs terms tables (Some amount)) its known in
            let cost_is = room cost amount under.cost in
            let number : period ≡ open_by book.rulings =
            number_is ∙ ap open_by ready.remembers.rulings in
            let count = ap (λ n. n + 1) ready.remembers.replaced in
            let is_done = decided false ((λ i. cost_is.0 i || few i)) in
            let passes = replace_tests told there late false done in
            let found = ap (list_any (is_effective terms.effective))
            (sym (tariffs_are ready.remembers)) ∙ passes.found in
            let alone = replaced_alone own book.rulings.tariffs readable.rising found in
            let text_of : Option AcceptedTerms → Option (List ℕ) =
            option_and_then (λ (tariff : AcceptedTerms). tariff.text) in
            let was_is : alone.0.text ≡ Some was =
            sym (ap text_of (first_passing (is_effective terms.effective) book.rulings.tariffs
            alone.0 [] alone.1))
            ∙ ap (text_begun terms.effective) (sym its) ∙ begun in
            let kept = λ (some : List AcceptedTerms).
            length book.rulings.replaced + length (map (replaced_in (open_by book.rulings)) some) in
            let ruling = TariffReplaced text terms in
            let answer = sym (ap (replacing_answer book text) said) ∙ is_done in
            let made : replaced_at (summary.replaced + 1) period tariffs text terms amount tables
            ≡ replaced_at (length book.rulings.replaced + 1) (open_by book.rulings)
            book.rulings.tariffs text terms cost tables =
            λ i. replaced_at (count i) (number i) (its i) text terms (cost_is.1 i) tables in
            record {
              event = RulingGiven noted ruling;
              is = ap (if_done (said_so noted text (terms_in text))) is_done
                  ∙ ap (said_so noted text) said;
              answer = is_done;
              answered = answer;
              when = (
                record {
                  text =
                      get-from_entries int_cmp_total (tariff_entries book.rulings.tariffs)
                      terms.effective
                      ∙ alone.2 ∙ ap Some was_is;
                  counted = sym ready.remembers.held;
                },
                entries_numbered naming book noted ruling readable answer made,
              );
              submitted = (
                record { characters = utf8; said = said; day = day },
                replaced_priced naming book text terms readable (under.can refl),
              );
              changes = ruling_entered naming book noted ruling readable answer made
                  (ap ReplacementOf count);
              remembers = λ follows other says. record {
                rulings = says.rulings ∙ ap (in_its_place own) ready.remembers.rulings;
                choices = says.choices ∙ ready.remembers.choices;
                replaced = says.replaced ∙ count
                    ∙ sym (length-append book.rulings.replaced _ ∙ ap kept alone.1);
                credits = says.credits ∙ ready.remembers.credits;
                held = says.held ∙ ready.remembers.held;
                total = says.total ∙ cost_is.1
                    ∙ ap (λ (tables : Tables). tables.book.amount) (sym follows);
              };
            }
