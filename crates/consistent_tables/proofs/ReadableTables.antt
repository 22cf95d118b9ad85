-- The tables of a book that can be read back are consistent.
use Rattle.std.proofs.Common.{◌≡◌, ◌∙◌, ◌⊎◌, ℕ, ◌<◌, ◌≤◌, List, map, length, refl, sym, ap, subst}
use Rattle.std.proofs.Common.{inl, inr, Option, Some, None, All, ℤ, if◌then◌else◌, is_some}
use Rattle.std.proofs.Common.{unwrap_or, int_cmp}
use Rattle.std.specs.FinMap.{from_entries}
use Rattle.std.specs.List.Sorted.{IsStrictlySortedBy}
use Rattle.std.proofs.lemmas.List.Elements.{All-weaker}
use Rattle.book_model.specs.Words.{Book, Credit, IsDay, Naming, Replaced, Rulings, first_rule}
use Rattle.book_model.specs.Words.{last_period, most_choices, most_credits, most_replaced, open_by}
use Rattle.book_model.specs.Words.{rows_of, second_rule}
use Rattle.table_model.specs.DisputesRead.{NamedRow}
use Rattle.table_model.specs.JournalRows.{journal_rows}
use Rattle.table_model.specs.Journaled.{IsJournaled}
use Rattle.table_model.specs.Readable.{IsBegun, IsCredited, IsReadable, IsReplaced, IsTexted}
use Rattle.table_model.specs.Readable.{IsTimely}
use Rattle.table_model.specs.Tables.{ChoiceRow, Tables, never_adopted}
use Rattle.table_model.specs.TablesOf.{choice_row, close_entries, tables_of, tariff_entries}
use Rattle.table_model.specs.TablesOf.{replaced_row, under_numbers}
use Rattle.table_model.proofs.ChoiceReading.{choices_count}
use Rattle.table_model.proofs.LateRows.{amount_is_read}
use Rattle.table_model.proofs.RulingsReading.{tariffs_kept}
use Rattle.table_model.proofs.UnderNumbers.{entries-numbers, values-numbers}
use Rattle.consistent_tables.specs.Consistent.{AreConsistent, IsOwnCredit, IsOwnReplaced}
use Rattle.consistent_tables.specs.Consistent.{counted_entries}
use Rattle.consistent_tables.specs.DueRows.{due_entry}
use Rattle.consistent_tables.specs.Laws.{ReadableAreConsistent}
use Rattle.consistent_tables.proofs.ChainTold.{ruled_back}
use Rattle.consistent_tables.proofs.CountedRows.{counted_due}
use Rattle.consistent_tables.proofs.DayTable.{days_due}
use Rattle.consistent_tables.proofs.JournalOwn.{own_came, own_entries}
use Rattle.consistent_tables.proofs.ReadableBook.{rows_many}
use Rattle.consistent_tables.proofs.ReadableRows.{own_lines, own_rows}

-- the rule of identity and the period of its adoption
abbrev IsRuled : ℕ → ℕ → ℕ → Type 0
IsRuled rule adopted last =
    ((rule ≡ first_rule) × (adopted ≡ never_adopted))
    ⊎ ((rule ≡ second_rule) × (0 < adopted) × (adopted ≤ last))

rule_own : (book : Book) (adopted : Option ℕ)
    → ((period : ℕ) → adopted ≡ Some period → IsBegun book period)
    → IsRuled (if is_some adopted then second_rule else first_rule)
    (unwrap_or adopted never_adopted) (open_by book.rulings)
rule_own book None begun = inl (refl, refl)
rule_own book (Some period) begun =
    let was = begun period refl in
    inr (refl, was.numbered, was.begun)

module _ (naming : Naming) (book : Book) (whole : IsReadable naming book)
    (journaled : IsJournaled book) where
  abbrev tables : Tables
  tables = tables_of naming book

  abbrev closes : List ℤ
  closes = book.rulings.closes

  -- all of it
  consistent : AreConsistent naming tables
  consistent =
      let same = ruled_back naming book whole in
      let back = sym same in
      let choices : List ChoiceRow = map (choice_row naming) book.rulings.choices in
      record {
        texts = subst (λ (rulings : Rulings). All IsTexted rulings.tariffs) back whole.texts;
        tariffs = ap (λ (rulings : Rulings). tariff_entries rulings.tariffs) same
            ∙ sym (tariffs_kept book.rulings.tariffs whole.rising);
        closes = entries-numbers closes
            ∙ ap (λ (rulings : Rulings). close_entries 1 rulings.closes) back;
        days_of = subst (λ (rulings : Rulings). All IsDay rulings.closes) back whole.days;
        in_order = subst (λ (rulings : Rulings). IsStrictlySortedBy int_cmp rulings.closes) back
            whole.in_order;
        rule = subst (λ (rulings : Rulings).
            IsRuled tables.book.rule tables.book.adopted (open_by rulings)) back
            (rule_own book book.rulings.adopted whole.adopted);
        numbers = entries-numbers choices ∙ ap (under_numbers 1) (sym (values-numbers choices));
        choices = ap (λ (rulings : Rulings). length rulings.choices) same
            ∙ sym (choices_count naming book);
        timely = subst (λ (rulings : Rulings).
            All (λ choice. (0 < choice.period) × (choice.period ≤ open_by rulings))
            rulings.choices) back
            (All-weaker (IsTimely book)
            (λ choice. (0 < choice.period) × (choice.period ≤ open_by book.rulings))
            (λ choice timely. (timely.numbered, timely.begun)) book.rulings.choices whole.timely);
        replaced = entries-numbers (map replaced_row book.rulings.replaced)
            ∙ ap (λ (rulings : Rulings). under_numbers 1 (map replaced_row rulings.replaced)) back;
        replaced_own = subst (λ (rulings : Rulings).
            All (IsOwnReplaced (open_by rulings)) rulings.replaced) back
            (All-weaker (IsReplaced book) (IsOwnReplaced (open_by book.rulings))
            (λ (replaced : Replaced) own. record {
              begun = (own.begun.numbered, own.begun.begun);
              texted = own.texted;
            })
            book.rulings.replaced whole.replaced);
        credits = entries-numbers book.rulings.credits
            ∙ ap (λ (rulings : Rulings). under_numbers 1 rulings.credits) back;
        credits_own = subst (λ (rulings : Rulings).
            All (IsOwnCredit (open_by rulings)) rulings.credits) back
            (All-weaker (IsCredited book) (IsOwnCredit (open_by book.rulings))
            (λ (credit : Credit) own. record {
              begun = (own.begun.numbered, own.begun.begun);
              said = own.said;
            })
            book.rulings.credits whole.credited);
        entered = entries-numbers (journal_rows book.journal)
            ∙ ap (under_numbers 1) (sym (values-numbers (journal_rows book.journal)));
        kept = own_entries naming book whole.sound whole.lines journaled;
        came = own_came naming book whole.sound whole.lines journaled;
        records = own_rows naming book whole;
        lines = own_lines naming book whole;
        days = days_due naming book whole
            ∙ ap (λ (rulings : Rulings). from_entries (map (due_entry rulings.closes)
            (rows_of (map (λ (row : NamedRow). row.1.priced) (counted_entries tables))))) back;
        counted = counted_due naming book whole;
        held = sym (rows_many naming book whole.sound whole.lines.framed);
        amount = sym (amount_is_read naming book whole.sound);
        few = whole.limits.held;
        within = whole.limits.cost;
        few_closes = subst (λ (rulings : Rulings). length rulings.closes < last_period) back
            whole.limits.closes;
        few_choices = subst (λ (rulings : Rulings). length rulings.choices ≤ most_choices) back
            whole.limits.choices;
        few_replaced = subst (λ (rulings : Rulings). length rulings.replaced ≤ most_replaced) back
            whole.limits.replaced;
        few_credits = subst (λ (rulings : Rulings). length rulings.credits ≤ most_credits) back
            whole.limits.credits;
      }

-- the law
pub readable_are_consistent : ReadableAreConsistent
readable_are_consistent naming book whole journaled = consistent naming book whole journaled
