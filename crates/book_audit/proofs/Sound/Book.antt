-- Sound trees hold the tables of a book.
use Rattle.std.proofs.Common.{◌≡◌, ◌∙◌, List, ap, length, refl, subst, sym}
use Rattle.sqlite_trees.specs.Tree.{Trees}
use Rattle.book_model.proofs.Std.{entries, length-map}
use Rattle.book_model.specs.Words.{AcceptedTerms, rows_of as charge_rows}
use Rattle.table_model.specs.Words.{book_in, IsReadable, Tables, tables_of}
use Rattle.consistent_tables.specs.Consistent.{AreConsistent, ruled}
use Rattle.consistent_tables.specs.DueRows.{due_entry}
use Rattle.consistent_tables.proofs.ReadableBook.{consistent_are_readable}
use Rattle.consistent_tables.proofs.Tables.{consistent_are_tables}
use Rattle.tree_tables.specs.Holds.{Holds}
use Rattle.tree_tables.proofs.Layouts.{day_layout, line_layout}
use Rattle.book_audit.specs.Counts.{AreCountsOf}
use Rattle.book_audit.specs.OfBook.{AreOfBook, sha_names}
use Rattle.book_audit.specs.Records.{counted_prices}
use Rattle.book_audit.specs.SoundTrees.{AreSound}
use Rattle.book_audit.specs.Walks.{AreRising}
use Rattle.book_audit.specs.declared.audited.Counts.{Counts as Numbers}
use Rattle.book_audit.specs.declared.finding.Tree.TheVariants.{Days, Lines}
use Rattle.book_audit.proofs.Held.Maps.{entries_kept}
use Rattle.book_audit.proofs.Sound.Counts.{lines_many, rows_many}
use Rattle.book_audit.proofs.Sound.Journal.{journal_entered, own_came, own_kept}
use Rattle.book_audit.proofs.Sound.Records.{own_row}
use Rattle.book_audit.proofs.Sound.Rows.{amount_is, days_are, held_are, held_few, names_are}
use Rattle.book_audit.proofs.Sound.Rows.{own_line}
use Rattle.book_audit.proofs.Sound.Rulings.{choices_counted, choices_few, choices_numbered}
use Rattle.book_audit.proofs.Sound.Rulings.{choices_read, choices_timely, closes_days}
use Rattle.book_audit.proofs.Sound.Rulings.{credits_entered, credits_few, credits_own}
use Rattle.book_audit.proofs.Sound.Rulings.{replaced_entered, replaced_few, replaced_own}
use Rattle.book_audit.proofs.Sound.Rulings.{closes_entered, closes_few, closes_rise, closes_said}
use Rattle.book_audit.proofs.Sound.Rulings.{days, rule_is, tariffs_entered, tariffs_said}
use Rattle.book_audit.proofs.Sound.Rulings.{tariffs_texted}
use Rattle.book_audit.proofs.Sound.Tables.{due, tables_held, told_all, trees_hold}

module _ (trees : Trees) (numbers : Numbers) (sound : AreSound trees numbers) where
  abbrev tables : Tables
  tables = tables_held trees numbers sound

  -- their tables are consistent,
  are_consistent : AreConsistent sha_names tables
  are_consistent = record {
    texts = tariffs_texted trees numbers sound;
    tariffs = tariffs_entered trees numbers sound;
    closes = closes_entered trees numbers sound;
    days_of = closes_days trees numbers sound;
    in_order = closes_rise trees numbers sound;
    rule = rule_is trees numbers sound;
    numbers = choices_numbered trees numbers sound;
    choices = choices_read trees numbers sound;
    timely = choices_timely trees numbers sound;
    replaced = replaced_entered trees numbers sound;
    replaced_own = replaced_own trees numbers sound;
    credits = credits_entered trees numbers sound;
    credits_own = credits_own trees numbers sound;
    entered = journal_entered trees numbers sound;
    kept = own_kept trees numbers sound;
    came = own_came trees numbers sound;
    records = own_row trees numbers sound;
    lines = own_line trees numbers sound;
    days = days_are trees numbers sound;
    counted = names_are trees numbers sound;
    held = held_are trees numbers sound;
    amount = amount_is trees numbers sound;
    few = held_few trees numbers sound;
    within = sound.records.are.within;
    few_closes = closes_few trees numbers sound;
    few_choices = choices_few trees numbers sound;
    few_replaced = replaced_few trees numbers sound;
    few_credits = credits_few trees numbers sound;
  }

  abbrev accepted : List AcceptedTerms
  accepted = sound.ruled.tariffs.accepted

  -- with as many rows as were met
  tariffs_met : numbers.tariffs ≡ length (ruled tables).tariffs
  tariffs_met =
      sound.tariffs ∙ ap length (sym sound.ruled.tariffs.terms)
      ∙ length-map accepted (λ (tariff : AcceptedTerms). tariff.terms)
      ∙ ap length (sym (tariffs_said trees numbers sound))

  rows_met : numbers.rows ≡ length (entries tables.days)
  rows_met =
      sound.charged
      ∙ sym (length-map (charge_rows (counted_prices (told_all trees numbers sound)))
      (due_entry (days trees numbers sound)))
      ∙ ap length (sym (entries_kept day_layout Days (λ k. refl) (due trees numbers sound)
      (subst (AreRising Days) sound.days sound.rising)))

  lines_met : numbers.lines ≡ length (entries tables.lines)
  lines_met =
      sound.lines.counted
      ∙ ap length (sym (entries_kept line_layout Lines (λ k. refl) sound.lines.lines
      (subst (AreRising Lines) sound.lines.are sound.lines.rising)))

  -- so they are those of the book that they determine
  its : tables ≡ tables_of sha_names (book_in tables)
  its = consistent_are_tables sha_names tables are_consistent

  can_be_read : IsReadable sha_names (book_in tables)
  can_be_read = consistent_are_readable.books sha_names tables are_consistent

  are_counts : AreCountsOf (book_in tables) numbers
  are_counts = record {
    records = sound.held ∙ ap (λ (all : Tables). all.book.held) its;
    tariffs = tariffs_met;
    closes = sound.closes ∙ ap length (sym (closes_said trees numbers sound));
    choices = sound.choices ∙ choices_counted trees numbers sound;
    rows = rows_met ∙ ap (λ (all : Tables). length (entries all.days)) its
        ∙ rows_many sha_names (book_in tables) can_be_read;
    lines = lines_met ∙ ap (λ (all : Tables). length (entries all.lines)) its
        ∙ lines_many sha_names (book_in tables) can_be_read;
  }

  pub of_book : AreOfBook sha_names trees numbers
  of_book = record {
    book = book_in tables;
    readable = can_be_read;
    journaled = consistent_are_readable.journals sha_names tables are_consistent;
    holds = subst (Holds trees) its (trees_hold trees numbers sound);
    counted = are_counts;
  }
