-- What stands in the list of rulings, by what is remembered and by the tables of choices, of
-- replaced tariffs and of credits.
use Rattle.std.proofs.Common.{◌≡◌, ◌∙◌, ◌+◌, ◌∷◌, [], ℕ, List, None, Option, Some, ap, arith, length}
use Rattle.std.proofs.Common.{map, option_map, refl, slice_get, sym, unwrap_or, All, ◌≤◌}
use Rattle.std.proofs.lemmas.Option.{slice_get-map, slice_get_past}
use Rattle.book_model.proofs.Std.{All-head, All-tail, cons_option, get, get-from_entries, length-map}
use Rattle.book_model.proofs.Std.{nat_cmp_total}
use Rattle.book_model.specs.declared.listed_ruling.ListedRuling.{ListedRuling}
use Rattle.book_model.specs.Words.{Book, Credit, Naming, Replaced, ReplacedSeen, RulingSeen}
use Rattle.book_model.specs.declared.bill.Credit as billed
use Rattle.book_model.specs.Words.{all_replaced_seen, credit_seen, credit_shown, replaced_seen}
use Rattle.book_model.specs.Words.{ruling_shown}
use Rattle.book_model.specs.Words.{rulings_listed}
use Rattle.book_core.specs.ListedRulings.{StandsAt, listed_with}
use Rattle.book_core.specs.Words.{ruled_in}
use Rattle.book_core.specs.declared.listed_rulings.RulingCounts.{RulingCounts}
use Rattle.table_model.specs.ListsRead.{choice_shown}
use Rattle.table_model.specs.Readable.{IsReplaced, IsTexted}
use Rattle.table_model.specs.Tables.{ReplacedRow}
use Rattle.table_model.specs.TablesOf.{replaced_row}
use Rattle.table_model.specs.Words.{IsReadable, Tables, tables_of, choice_read_at, under_numbers}
use Rattle.table_model.proofs.ListedChoices.{choice_listed}
use Rattle.table_model.proofs.UnderNumbers.{find-numbers}
use Rattle.tree_tables.specs.Answers.{FindsChoice, FindsCredit, FindsReplaced}
use Rattle.tree_tables.specs.Stored.{credit_entry, replaced_entry}
use Rattle.tree_tables.specs.declared.credit_rows.StoredCredit.{StoredCredit}
use Rattle.tree_tables.specs.declared.replaced_rows.StoredReplaced.{StoredReplaced}
use Rattle.table_ledger.specs.RulingLooks.{credit_read_at, replaced_read_at, replaced_shown}
use Rattle.table_ledger.proofs.Words.{Remembers, StoredChoice, choice_entry}
use Rattle.table_ledger.specs.declared.summary.Summary.{Summary}
use Rattle.table_ledger.proofs.Remembered.{rulings_are}
use Rattle.book_core.specs.declared.listed_rulings.ListedAt.TheVariants as listed

-- ---- rows that were found

-- what is said of the row of a number is said of the row with its number
of_row : {V A : Type 0} (say : ℕ × V → A) (number : ℕ) (found : Option V)
    → option_map (λ (row : V). say (number, row)) found
    ≡ option_map say (option_map (λ (row : V). (number, row)) found)
of_row say number None = refl
of_row say number (Some row) = refl

pub choice_found : (number : ℕ) (choice : StoredChoice) (tables : Tables)
    → FindsChoice number tables (Some choice)
    → choice_read_at number tables.choices ≡ Some (choice_shown (choice_entry choice))
choice_found number choice tables found =
    of_row choice_shown number (get tables.choices number) ∙ sym (ap (option_map choice_shown) found)

pub replaced_found : (number : ℕ) (tariff : StoredReplaced) (tables : Tables)
    → FindsReplaced number tables (Some tariff)
    → replaced_read_at number tables.replaced ≡ Some (replaced_shown (replaced_entry tariff).1)
replaced_found number tariff tables found =
    let say : ℕ × ReplacedRow → RulingSeen = λ entry. replaced_shown entry.1 in
    of_row say number (get tables.replaced number) ∙ sym (ap (option_map say) found)

pub credit_found : (number : ℕ) (credit : StoredCredit) (tables : Tables)
    → FindsCredit number tables (Some credit)
    → get tables.credits number ≡ Some (credit_entry credit).1
credit_found number credit tables found =
    by (get tables.credits number)
    ∙ sym (ap (option_map (λ (entry : ℕ × Credit). entry.1)) found)
  where
    by : (kept : Option Credit) → kept
        ≡ option_map (λ (entry : ℕ × Credit). entry.1)
        (option_map (λ (credit : Credit). (number, credit)) kept)
    by None = refl
    by (Some credit) = refl

-- ---- replaced tariffs, which came as texts

-- one is seen by its row,
abbrev seen_of : Replaced → RulingSeen
seen_of replaced = replaced_shown (replaced_row replaced)

one_seen : (replaced : Replaced) → IsTexted replaced.tariff
    → replaced_seen replaced ≡ Some (seen_of replaced)
one_seen replaced texted =
    let see : List ℕ → RulingSeen =
    ReplacedSeen replaced.tariff.terms.effective replaced.period in
    ap (option_map see) texted.is
    ∙ ap (λ (text : Option (List ℕ)). Some (see (unwrap_or text []))) (sym texted.is)

-- and so are all of them
all_seen : {book : Book} (replaced : List Replaced) → All (IsReplaced book) replaced
    → all_replaced_seen replaced ≡ map seen_of replaced
all_seen [] all = refl
all_seen {book} (one ∷ rest) all =
    let first = one_seen one (All-head (IsReplaced book) one rest all).texted in
    let later = all_seen rest (All-tail (IsReplaced book) one rest all) in
    λ i. cons_option (first i) (later i)

-- ---- credits by their numbers

-- the row of a credit is under its number, from 1
pub credit_at : (naming : Naming) (book : Book) (place : ℕ)
    → get (tables_of naming book).credits (place + 1) ≡ slice_get book.rulings.credits place
credit_at naming book place =
    get-from_entries nat_cmp_total (under_numbers 1 book.rulings.credits) (place + 1)
    ∙ find-numbers 1 (place + 1) place book.rulings.credits (omega arith)

-- a credit that was looked up
pub given_read : (naming : Naming) (book : Book) (place : ℕ) (credit : billed.Credit)
    → get (tables_of naming book).credits (place + 1) ≡ Some (credit_shown credit)
    → slice_get book.rulings.credits place ≡ Some (credit_shown credit)
given_read naming book place credit read = sym (credit_at naming book place) ∙ read

-- past those that are remembered there is none
pub none_given : {summary : Summary} {book : Book} → Remembers summary book → (place : ℕ)
    → summary.credits ≤ place → slice_get book.rulings.credits place ≡ None
none_given {book = book} remembers place past =
    slice_get_past book.rulings.credits place (omega (arith, remembers.credits, past))

-- ---- what stands in the list

module _ {summary : Summary} {book : Book} (remembers : Remembers summary book) (naming : Naming)
    (whole : IsReadable naming book) (number : ℕ) where
  abbrev kept : Tables
  kept = tables_of naming book

  -- how many rulings are counted
  abbrev counts : RulingCounts
  counts = record {
    choices = summary.choices;
    replaced = summary.replaced;
    credits = summary.credits;
  }

  -- all replaced tariffs are seen
  replaced_are : all_replaced_seen book.rulings.replaced ≡ map seen_of book.rulings.replaced
  replaced_are = all_seen book.rulings.replaced whole.replaced

  many_seen : length (all_replaced_seen book.rulings.replaced) ≡ summary.replaced
  many_seen =
      ap length replaced_are ∙ length-map book.rulings.replaced seen_of ∙ sym remembers.replaced

  -- what stands there by what is remembered stands there by the book
  by_book : slice_get (rulings_listed naming book.rulings) number
      ≡ slice_get (listed_with (ruled_in summary.rulings) naming book.rulings.choices
      book.rulings.replaced book.rulings.credits) number
  by_book = ap (λ rulings. slice_get (rulings_listed naming rulings) number) (rulings_are remembers)

  -- another ruling than one that is looked up, or none
  pub other_read : (found : Option ListedRuling)
      → StandsAt (ruled_in summary.rulings) counts number (listed.Other found)
      → slice_get (rulings_listed naming book.rulings) number ≡ option_map ruling_shown found
  other_read found stands =
      by_book ∙ stands naming book.rulings.choices book.rulings.replaced book.rulings.credits
      (sym remembers.choices) many_seen (sym remembers.credits)

  module _ (place : ℕ) (ruling : ListedRuling) where
    -- a choice that was looked up
    pub choice_read : StandsAt (ruled_in summary.rulings) counts number (listed.Choice place)
        → choice_read_at (place + 1) kept.choices ≡ Some (ruling_shown ruling)
        → slice_get (rulings_listed naming book.rulings) number ≡ Some (ruling_shown ruling)
    choice_read stands read =
        by_book ∙ stands.1 naming book.rulings.choices book.rulings.replaced book.rulings.credits
        (sym remembers.choices) many_seen (sym remembers.credits)
        ∙ choice_listed naming book place ∙ read

    -- a tariff that was replaced
    pub replaced_read : StandsAt (ruled_in summary.rulings) counts number (listed.Replaced place)
        → replaced_read_at (place + 1) kept.replaced ≡ Some (ruling_shown ruling)
        → slice_get (rulings_listed naming book.rulings) number ≡ Some (ruling_shown ruling)
    replaced_read stands read =
        let rows : List ReplacedRow = map replaced_row book.rulings.replaced in
        let at : get kept.replaced (place + 1)
        ≡ option_map replaced_row (slice_get book.rulings.replaced place) =
        get-from_entries nat_cmp_total (under_numbers 1 rows) (place + 1)
        ∙ find-numbers 1 (place + 1) place rows (omega arith)
        ∙ slice_get-map replaced_row book.rulings.replaced place in
        by_book ∙ stands.1 naming book.rulings.choices book.rulings.replaced book.rulings.credits
        (sym remembers.choices) many_seen (sym remembers.credits)
        ∙ ap (λ seen. slice_get seen place) replaced_are
        ∙ slice_get-map seen_of book.rulings.replaced place
        ∙ by_row (slice_get book.rulings.replaced place)
        ∙ ap (option_map replaced_shown) (sym at) ∙ read
      where
        by_row : (found : Option Replaced)
            → option_map seen_of found ≡ option_map replaced_shown (option_map replaced_row found)
        by_row None = refl
        by_row (Some replaced) = refl

    -- a credit
    pub credit_read : StandsAt (ruled_in summary.rulings) counts number (listed.Credit place)
        → credit_read_at (place + 1) kept.credits ≡ Some (ruling_shown ruling)
        → slice_get (rulings_listed naming book.rulings) number ≡ Some (ruling_shown ruling)
    credit_read stands read =
        let at = credit_at naming book place in
        by_book ∙ stands.1 naming book.rulings.choices book.rulings.replaced book.rulings.credits
        (sym remembers.choices) many_seen (sym remembers.credits)
        ∙ ap (option_map (credit_seen (place + 1))) (sym at) ∙ read
