-- The rulings of sound trees are those that their tables say.
use Rattle.std.proofs.Common.{◌≡◌, ◌∙◌, ◌<◌, ◌≤◌, ◌+◌, ◌∷◌, [], inl, inr, ℕ, suc, ℤ, List, true}
use Rattle.std.proofs.Common.{All, Option, Some, None, ap, length, refl, subst, sym, T, int_cmp}
use Rattle.std.proofs.Common.{option_map, filter_map, leb-true, map}
use Rattle.sqlite_trees.specs.Tree.{Trees}
use Rattle.book_model.proofs.Std.{entries, entries_sorted, get, values, is_sorted, AllByRecursion}
use Rattle.book_model.proofs.Std.{cons_option, IsStrictlySortedBy, length-map, All-cons}
use Rattle.book_model.proofs.Std.{All-from_recursion, All-nil}
use Rattle.book_model.specs.Words.{Terms, AcceptedTerms, Choice, IsDay, are_rising, identity_by}
use Rattle.book_model.specs.Words.{Credit, Replaced, last_period, most_choices, most_credits}
use Rattle.book_model.specs.Words.{most_replaced, open_by, price_in}
use Rattle.table_model.specs.Words.{choice_read, IsTexted, BookRow, ChoiceRow, RecordRow}
use Rattle.table_model.specs.Words.{RecordTable, Tables, close_entries, tariff_entries}
use Rattle.table_model.specs.Words.{under_numbers}
use Rattle.table_model.specs.BookIn.{replaced_read}
use Rattle.table_model.specs.TablesOf.{replaced_row}
use Rattle.table_model.proofs.RulingsReading.{one_read, tariffs_back}
use Rattle.table_model.proofs.UnderNumbers.{entries-numbers, values-numbers}
use Rattle.consistent_tables.specs.Consistent.{IsOwnCredit, IsOwnReplaced, IsOwnRule}
use Rattle.consistent_tables.specs.Consistent.{choice_numbers, ruled}
use Rattle.consistent_tables.proofs.RuledTables.{tariffs_rise}
use Rattle.consistent_tables.proofs.SoundTables.{choice_of}
use Rattle.tree_tables.proofs.Layouts.{tariff_layout}
use Rattle.book_audit.specs.ChoiceRows.{IsMade, Made, said}
use Rattle.book_audit.specs.Data.{price_of}
use Rattle.book_audit.specs.Rules.{identity_under, is_by, rule_of}
use Rattle.book_audit.specs.SoundTrees.{AreSound}
use Rattle.book_audit.specs.Walks.{AreRising}
use Rattle.book_audit.specs.declared.audited.Counts.{Counts as Numbers}
use Rattle.book_audit.specs.declared.finding.Tree.TheVariants.{Tariffs}
use Rattle.book_audit.specs.declared.identity_rule.IdentityRule.{IdentityRule}
use Rattle.book_audit.proofs.Held.Rulings.{IsHeldChoice, held_choice, identity_said, price_said}
use Rattle.book_audit.proofs.Held.Rulings.{which_rule}
use Rattle.book_audit.proofs.Held.Maps.{entries_kept}
use Rattle.book_audit.proofs.Sound.Tables.{made, tables_held, trees_hold}

-- ---- the rule of identity

-- the row of the book says the rule
own_rule : (tables : Tables) (row : BookRow) (found : IdentityRule)
    → rule_of row.rule row.adopted ≡ Some found → is_by (open_by (ruled tables)) found ≡ true
    → IsOwnRule tables row
own_rule tables row found is begun = elim (which_rule row.rule row.adopted found is) [
  | inl it ↦ inl (it.1, it.2)
  | inr it ↦ inr (
    it.1,
    it.2,
    leb-true row.adopted (open_by (ruled tables))
        (subst (λ (one : IdentityRule). is_by (open_by (ruled tables)) one ≡ true) it.0 begun),
  )
]

-- ---- choices

-- where the records of choices are held, each choice is read,
all_found : (records : RecordTable) (made : List Made) → AllByRecursion (IsHeldChoice records) made
    → length (filter_map (choice_read records) (said made)) ≡ length (said made)
all_found records [] held = refl
all_found records (one ∷ made) held =
    ap (λ (found : Option RecordRow). length (cons_option (option_map (choice_of one.1) found)
    (filter_map (choice_read records) (said made)))) held.0.1
    ∙ ap suc (all_found records made held.1)

-- and was made in a period that has begun
abbrev IsTimelyBy : ℕ → Choice → Type 0
IsTimelyBy last choice = (0 < choice.period) × (choice.period ≤ last)

all_timely : (records : RecordTable) (last : ℕ) (made : List Made)
    → AllByRecursion (λ (one : Made). 0 < one.1.period) made
    → AllByRecursion (λ (one : Made). one.1.period ≤ last) made
    → All (IsTimelyBy last) (filter_map (choice_read records) (said made))
all_timely records last [] numbered begun = All-nil (IsTimelyBy last)
all_timely records last (one ∷ made) numbered begun =
    let rest = all_timely records last made numbered.1 begun.1 in
    let more : List Choice = filter_map (choice_read records) (said made) in
    elim (get records one.1.name) as (λ (found : Option RecordRow).
    All (IsTimelyBy last) (cons_option (option_map (choice_of one.1) found) more)) [
      | None ↦ rest
      | Some row ↦ All-cons (IsTimelyBy last) (choice_of one.1 row) more (numbered.0, begun.0) rest
    ]

-- ---- replaced tariffs

-- those whose texts say their terms are read from their rows
all_replaced : (last : ℕ) (all : List Replaced) → AllByRecursion (IsOwnReplaced last) all
    → filter_map replaced_read (map replaced_row all) ≡ all
all_replaced last [] own = refl
all_replaced last (one ∷ all) own =
    let its = one_read one.tariff own.0.texted in
    let rest = all_replaced last all own.1 in
    λ i. cons_option (option_map
    (λ (tariff : AcceptedTerms). record { tariff = tariff; period = one.period }) (its i)) (rest i)

module _ (trees : Trees) (numbers : Numbers) (sound : AreSound trees numbers) where
  abbrev tables : Tables
  tables = tables_held trees numbers sound

  abbrev accepted : List AcceptedTerms
  accepted = sound.ruled.tariffs.accepted

  abbrev pub days : List ℤ
  days = sound.rulings.closes.items

  -- ---- tariffs

  tariffs_in_order : entries tables.tariffs ≡ tariff_entries accepted
  tariffs_in_order =
      entries_kept tariff_layout Tariffs (λ k. refl) (tariff_entries accepted)
      (subst (AreRising Tariffs) sound.ruled.tariffs.are sound.ruled.tariffs.rising)

  rising : are_rising accepted ≡ true
  rising =
      tariffs_rise accepted
      (subst (λ es. T (is_sorted int_cmp es)) tariffs_in_order (entries_sorted tables.tariffs))

  texted : All IsTexted accepted
  texted = All-from_recursion IsTexted accepted sound.ruled.tariffs.texts

  pub tariffs_said : (ruled tables).tariffs ≡ accepted
  tariffs_said = tariffs_back accepted rising texted

  pub tariffs_texted : All IsTexted (ruled tables).tariffs
  tariffs_texted = subst (All IsTexted) (sym tariffs_said) texted

  pub tariffs_entered : tariff_entries (ruled tables).tariffs ≡ entries tables.tariffs
  tariffs_entered = ap tariff_entries tariffs_said ∙ sym tariffs_in_order

  pub price_is : (bytes : List ℕ)
      → price_in (ruled tables) bytes ≡ price_of sound.rulings.tariffs.items bytes
  price_is bytes =
      price_said (ruled tables) accepted bytes tariffs_said rising
      ∙ ap (λ (all : List Terms). price_of all bytes) sound.ruled.tariffs.terms

  -- ---- closes

  pub closes_said : (ruled tables).closes ≡ days
  closes_said = values-numbers days

  pub open_is : open_by (ruled tables) ≡ length days + 1
  open_is = ap (λ (all : List ℤ). length all + 1) closes_said

  pub closes_entered : entries tables.closes ≡ close_entries 1 (ruled tables).closes
  closes_entered = entries-numbers days ∙ ap (close_entries 1) (sym closes_said)

  pub closes_days : All IsDay (ruled tables).closes
  closes_days = subst (All IsDay) (sym closes_said) sound.ruled.closes.valid

  pub closes_rise : IsStrictlySortedBy int_cmp (ruled tables).closes
  closes_rise = subst (IsStrictlySortedBy int_cmp) (sym closes_said) sound.ruled.closes.in_order

  pub closes_few : length (ruled tables).closes < last_period
  closes_few = subst (λ (all : List ℤ). length all < last_period) (sym closes_said) sound.rulings.few

  -- ---- the rule of identity

  pub rule_is : IsOwnRule tables tables.book
  rule_is =
      own_rule tables tables.book sound.rulings.rule sound.ruled.book.is.known
      (subst (λ n. is_by n sound.rulings.rule ≡ true) (sym open_is) sound.ruled.begun)

  pub identity_is : (bytes : List ℕ)
      → identity_under sound.rulings.rule bytes ≡ identity_by (ruled tables) bytes
  identity_is bytes = identity_said tables.book sound.rulings.rule bytes sound.ruled.book.is.known

  -- ---- choices

  abbrev its_choices : List Made
  its_choices = made trees numbers sound

  held_choices : (n : ℕ) (some : List Made)
      → AllByRecursion (IsMade trees sound.rulings.rule) (under_numbers n some)
      → AllByRecursion (IsHeldChoice tables.records) some
  held_choices n [] each = tt
  held_choices n (one ∷ some) each = (
    held_choice trees tables (trees_hold trees numbers sound) sound.rulings.rule n one each.0,
    held_choices (suc n) some each.1,
  )

  pub choices_held : AllByRecursion (IsHeldChoice tables.records) its_choices
  choices_held = held_choices 1 its_choices sound.ruled.choices.are.each

  pub choices_said : values tables.choices ≡ said its_choices
  choices_said = values-numbers (said its_choices)

  pub choices_numbered : entries tables.choices ≡ choice_numbers tables
  choices_numbered = entries-numbers (said its_choices) ∙ ap (under_numbers 1) (sym choices_said)

  pub choices_read : length (ruled tables).choices ≡ length (values tables.choices)
  choices_read =
      ap (λ (rows : List ChoiceRow). length (filter_map (choice_read tables.records) rows)) choices_said
      ∙ all_found tables.records its_choices choices_held ∙ ap length (sym choices_said)

  pub choices_timely : All (IsTimelyBy (open_by (ruled tables))) (ruled tables).choices
  choices_timely =
      subst (λ n. All (IsTimelyBy n) (ruled tables).choices) (sym open_is)
      (subst (λ (rows : List ChoiceRow). All (IsTimelyBy (length days + 1))
      (filter_map (choice_read tables.records) rows)) (sym choices_said)
      (all_timely tables.records (length days + 1) its_choices sound.ruled.choices.are.numbered
      sound.ruled.choices.are.begun))

  pub choices_counted : sound.rulings.chosen.count ≡ length (ruled tables).choices
  choices_counted =
      sound.ruled.choices.are.counted ∙ sym (length-map its_choices (λ (one : Made). one.1))
      ∙ sym (choices_read ∙ ap length choices_said)

  pub choices_few : length (ruled tables).choices ≤ most_choices
  choices_few = subst (λ n. n ≤ most_choices) choices_counted sound.ruled.choices.few

  -- ---- replaced tariffs and credits

  abbrev its_replaced : List Replaced
  its_replaced = sound.ruled.kept.replaced.replaced

  replaced_said : (ruled tables).replaced ≡ its_replaced
  replaced_said =
      ap (filter_map replaced_read) (values-numbers (map replaced_row its_replaced))
      ∙ all_replaced (length days + 1) its_replaced sound.ruled.kept.replaced.own

  pub replaced_entered : entries tables.replaced
      ≡ under_numbers 1 (map replaced_row (ruled tables).replaced)
  replaced_entered =
      entries-numbers (map replaced_row its_replaced)
      ∙ ap (λ (all : List Replaced). under_numbers 1 (map replaced_row all)) (sym replaced_said)

  pub replaced_own : All (IsOwnReplaced (open_by (ruled tables))) (ruled tables).replaced
  replaced_own =
      subst (λ n. All (IsOwnReplaced n) (ruled tables).replaced) (sym open_is)
      (subst (All (IsOwnReplaced (length days + 1))) (sym replaced_said)
      (All-from_recursion (IsOwnReplaced (length days + 1)) its_replaced
      sound.ruled.kept.replaced.own))

  pub replaced_few : length (ruled tables).replaced ≤ most_replaced
  replaced_few =
      subst (λ (all : List Replaced). length all ≤ most_replaced) (sym replaced_said)
      sound.ruled.kept.replaced.few

  abbrev its_credits : List Credit
  its_credits = sound.ruled.kept.credits.credits

  credits_said : (ruled tables).credits ≡ its_credits
  credits_said = values-numbers its_credits

  pub credits_entered : entries tables.credits ≡ under_numbers 1 (ruled tables).credits
  credits_entered = entries-numbers its_credits ∙ ap (under_numbers 1) (sym credits_said)

  pub credits_own : All (IsOwnCredit (open_by (ruled tables))) (ruled tables).credits
  credits_own =
      subst (λ n. All (IsOwnCredit n) (ruled tables).credits) (sym open_is)
      (subst (All (IsOwnCredit (length days + 1))) (sym credits_said)
      (All-from_recursion (IsOwnCredit (length days + 1)) its_credits
      sound.ruled.kept.credits.own))

  pub credits_few : length (ruled tables).credits ≤ most_credits
  credits_few =
      subst (λ (all : List Credit). length all ≤ most_credits) (sym credits_said)
      sound.ruled.kept.credits.few
