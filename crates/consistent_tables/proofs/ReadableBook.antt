-- The book that consistent tables determine can be read back.
use Rattle.std.proofs.Common.{◌≡◌, ◌∙◌, ◌<◌, ◌≤◌, List, Some, ap, length, subst, suc, sym, true, ℕ}
use Rattle.std.specs.Prelude.{All, sum_by}
use Rattle.std.specs.FinMap.{entries, values}
use Rattle.std.proofs.lemmas.List.{length-map}
use Rattle.std.proofs.lemmas.List.Elements.{All-weaker}
use Rattle.std.proofs.lemmas.List.Sorted.{length_permutation}
use Rattle.std.proofs.lemmas.Option.{same_Some}
use Rattle.tariff_rules.specs.declared.priced.Priced.{Priced}
use Rattle.book_model.specs.Words.{Book, Choice, Credit, IsPriced, IsSound, IsUsageRecord, Naming}
use Rattle.book_model.specs.Words.{Replaced, has}
use Rattle.book_model.specs.Words.{members, most_cost, most_held, open_by, price_in, total_of}
use Rattle.table_model.specs.BookIn.{book_in, close_after, row_record}
use Rattle.table_model.specs.DisputesRead.{NamedRow}
use Rattle.table_model.specs.PeriodLists.{AreFramed, HasLines, IsApart}
use Rattle.table_model.specs.Readable.{IsCredited, IsReadable, IsReplaced, IsTimely}
use Rattle.table_model.specs.Readable.{IsWithinLimits}
use Rattle.table_model.specs.Tables.{RecordRow, Tables}
use Rattle.table_model.specs.TablesOf.{tables_of}
use Rattle.table_model.proofs.HeldPeriods.{period_apart}
use Rattle.table_model.proofs.LateRows.{amount_is_read}
use Rattle.table_model.proofs.RecordReading.{all_entries, all_permuted, records_of}
use Rattle.table_model.proofs.RowsWhere.{members_held}
use Rattle.consistent_tables.specs.Consistent.{AreConsistent, IsOwnCredit, IsOwnReplaced, ruled}
use Rattle.consistent_tables.specs.Laws.{ConsistentAreReadable}
use Rattle.consistent_tables.proofs.ChargedSets.{days}
use Rattle.consistent_tables.proofs.JournalTable.{journaled}
use Rattle.consistent_tables.proofs.HeldRows.{held, row_of}
use Rattle.consistent_tables.proofs.PeriodLinks.{chain, ends}
use Rattle.consistent_tables.proofs.RecordTable.{records_are}
use Rattle.consistent_tables.proofs.RuledTables.{adopted, rising}
use Rattle.consistent_tables.proofs.SoundTables.{all_past, sound}

-- the tables of a sound book have as many rows as it has records
pub rows_many : (naming : Naming) (book : Book) → IsSound naming book → AreFramed book.held
    → length (entries (tables_of naming book).records) ≡ length (members book.held)
rows_many naming book sound_book have_lengths =
    let made : List NamedRow = all_entries naming book sound_book in
    sym (length_permutation (entries (tables_of naming book).records) made
    (all_permuted naming book sound_book))
    ∙ sym (length-map made (λ e. row_record e.1))
    ∙ ap length (records_of naming book sound_book have_lengths (members book.held)
    (members_held book.held))

module _ (naming : Naming) (tables : Tables) (whole : AreConsistent naming tables) where
  -- the records measure work,
  are_usage : (bytes : List ℕ) → has (held naming tables whole) bytes ≡ true → IsUsageRecord bytes
  are_usage bytes there =
      let its = row_of naming tables whole bytes there in
      subst IsUsageRecord its.is its.own.usage

  framed : AreFramed (held naming tables whole)
  framed bytes there = (are_usage bytes there).framed

  -- their prices are what prices can be,
  are_priced : (bytes : List ℕ) (priced : Priced) → has (held naming tables whole) bytes ≡ true
      → price_in (ruled tables) bytes ≡ Some priced → IsPriced priced
  are_priced bytes priced there price =
      let its = row_of naming tables whole bytes there in
      subst IsPriced (same_Some its.row.priced priced (sym its.price ∙ price)) its.own.priced

  -- and no closed period reverses what it adds
  has_lines : HasLines (book_in tables)
  has_lines = record {
    framed = framed;
    apart = all_past naming tables whole IsApart (λ k less.
        period_apart (close_after k (days tables)) (ends naming tables whole k)
        (ends naming tables whole (suc k)));
  }

  -- there are as many rows as records
  pub as_many : length (entries tables.records) ≡ length (members (held naming tables whole))
  as_many =
      ap (λ records. length (entries records)) (records_are naming tables whole)
      ∙ rows_many naming (book_in tables) (sound naming tables whole) framed

  -- and what they cost together is what the records cost
  pub cost_is : sum_by (λ row. row.priced.amount) (values tables.records)
      ≡ total_of (ruled tables) (held naming tables whole)
  cost_is =
      ap (λ records. sum_by (λ (row : RecordRow). row.priced.amount) (values records))
      (records_are naming tables whole)
      ∙ amount_is_read naming (book_in tables) (sound naming tables whole)

  within_limits : IsWithinLimits (book_in tables)
  within_limits = record {
    held = subst (λ n. n ≤ most_held) (whole.held ∙ as_many) whole.few;
    cost = subst (λ n. n ≤ most_cost) (whole.amount ∙ cost_is) whole.within;
    closes = whole.few_closes;
    choices = whole.few_choices;
    credits = whole.few_credits;
    replaced = whole.few_replaced;
  }

  -- the choices were made in periods that have begun
  are_timely : All (IsTimely (book_in tables)) (ruled tables).choices
  are_timely =
      All-weaker
      (λ (choice : Choice). (0 < choice.period) × (choice.period ≤ open_by (ruled tables)))
      (IsTimely (book_in tables))
      (λ choice begun. record { numbered = begun.0; begun = begun.1 })
      (ruled tables).choices whole.timely

  -- tariffs were replaced in periods that have begun, and credits were given in such ones
  are_replaced : All (IsReplaced (book_in tables)) (ruled tables).replaced
  are_replaced =
      All-weaker (IsOwnReplaced (open_by (ruled tables))) (IsReplaced (book_in tables))
      (λ (replaced : Replaced) own. record {
        begun = record { numbered = own.begun.0; begun = own.begun.1 };
        texted = own.texted;
      })
      (ruled tables).replaced whole.replaced_own

  are_credited : All (IsCredited (book_in tables)) (ruled tables).credits
  are_credited =
      All-weaker (IsOwnCredit (open_by (ruled tables))) (IsCredited (book_in tables))
      (λ (credit : Credit) own. record {
        begun = record { numbered = own.begun.0; begun = own.begun.1 };
        said = own.said;
      })
      (ruled tables).credits whole.credits_own

-- all of it
can_be_read : (naming : Naming) (tables : Tables) → AreConsistent naming tables
    → IsReadable naming (book_in tables)
can_be_read naming tables whole = record {
  sound = sound naming tables whole;
  lines = has_lines naming tables whole;
  usage = are_usage naming tables whole;
  priced = are_priced naming tables whole;
  texts = whole.texts;
  rising = rising naming tables whole;
  days = whole.days_of;
  in_order = whole.in_order;
  timely = are_timely naming tables whole;
  adopted = adopted naming tables whole;
  past = chain naming tables whole;
  replaced = are_replaced naming tables whole;
  credited = are_credited naming tables whole;
  limits = within_limits naming tables whole;
}

-- the law
pub consistent_are_readable : ConsistentAreReadable
consistent_are_readable = record { books = can_be_read; journals = journaled }
