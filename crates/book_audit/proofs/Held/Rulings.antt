-- What the rulings that were read of trees are in the tables that the trees hold.
use Rattle.std.proofs.Common.{◌≡◌, ◌∙◌, ◌<◌, ◌∷◌, [], ◌⊎◌, inl, inr, ℕ, suc, List, Bool, true}
use Rattle.std.proofs.Common.{false, ◌&&◌, ◌==◌, Option, Some, None, ap, map, refl, sym, eqb-true}
use Rattle.std.proofs.Common.{ltb-true, option_map, if◌then◌else◌, filter, find, nat_le, nat_lt}
use Rattle.std.proofs.Common.{not, reverse}
use Rattle.sqlite_trees.specs.Tree.{Trees}
use Rattle.sqlite_value.specs.Order.{Row, column}
use Rattle.book_model.proofs.Std.{entries, values, get, AllByRecursion, last_or, option_map_or}
use Rattle.book_model.proofs.Std.{option_or, nat_list_eq_equiv, same_Some}
use Rattle.book_model.specs.Words.{day_of, identity2_of, identity_of, price_by, Terms, Priced}
use Rattle.book_model.specs.Words.{AcceptedTerms, Rulings as Ruled, are_rising, first_rule}
use Rattle.book_model.specs.Words.{last_period, price_in, price_under, same_bytes, second_rule}
use Rattle.book_model.proofs.Lemmas.{begun-last, filter-map, first_of, second_of}
use Rattle.table_model.specs.Words.{adopted_read, BookRow, ChoiceRow, RecordRow, RecordTable}
use Rattle.table_model.specs.Words.{Tables, never_adopted, under_numbers, last_named, last_row}
use Rattle.table_model.specs.Words.{is_withheld_in, name_has_identity}
use Rattle.table_model.proofs.DueLemmas.{last_map}
use Rattle.consistent_tables.specs.Consistent.{choice_numbers}
use Rattle.tree_tables.specs.Columns.{choice_columns}
use Rattle.tree_tables.specs.Holds.{Holds}
use Rattle.tree_tables.proofs.RowsRead.{same_blob}
use Rattle.book_audit.specs.ChoiceRows.{AreChoices, IsMade, Made, named_in, said}
use Rattle.book_audit.specs.Choices.{is_last, last_chosen, withholds}
use Rattle.book_audit.specs.declared.choices.Named.{Named}
use Rattle.book_audit.specs.Data.{has_begun, price_of}
use Rattle.book_audit.specs.Rules.{identity_under, may_be_open, rule_of}
use Rattle.book_audit.specs.declared.choices.Chosen.{Chosen}
use Rattle.book_audit.specs.declared.identity_rule.IdentityRule.{IdentityRule}
use Rattle.book_audit.specs.declared.identity_rule.IdentityRule.TheVariants.{First, SecondSince}
use Rattle.book_audit.proofs.Held.Looks.{record_looked}
use Rattle.book_audit.proofs.Held.LastPassing.{found_made, last_passing}
use Rattle.book_audit.proofs.Rows.Columns.{same_choice, same_values}

-- ---- tariffs

-- what usage costs by rising tariffs is what it costs by their terms
pub price_said : (rulings : Ruled) (accepted : List AcceptedTerms) (bytes : List ℕ)
    → rulings.tariffs ≡ accepted → are_rising accepted ≡ true
    → price_in rulings bytes ≡ price_of (map (λ (tariff : AcceptedTerms). tariff.terms) accepted) bytes
price_said rulings accepted bytes is rising =
    let terms : AcceptedTerms → Terms = λ (tariff : AcceptedTerms). tariff.terms in
    let price : Terms → Priced = λ (one : Terms). price_by one bytes in
    ap (λ (all : List AcceptedTerms). price_under all bytes) is
    ∙ ap (λ (found : Option AcceptedTerms). option_map price (option_map terms found))
    (begun-last accepted (day_of bytes) rising)
    ∙ sym (ap (option_map price) (found_made terms (has_begun (day_of bytes)) accepted))

-- ---- the rule of identity

-- the rule that two numbers say
pub which_rule : (rule adopted : ℕ) (found : IdentityRule) → rule_of rule adopted ≡ Some found
    → ((found ≡ First) × (rule ≡ first_rule) × (adopted ≡ never_adopted))
    ⊎ ((found ≡ SecondSince adopted) × (rule ≡ second_rule) × (0 < adopted))
which_rule rule adopted found is =
    let second : Option IdentityRule =
    if (rule == second_rule) && may_be_open adopted then Some (SecondSince adopted) else None in
    elim ((rule == first_rule) && (adopted == never_adopted)) as (λ b.
    ((rule == first_rule) && (adopted == never_adopted)) ≡ b
    → (if b then Some First else second) ≡ Some found
    → ((found ≡ First) × (rule ≡ first_rule) × (adopted ≡ never_adopted))
    ⊎ ((found ≡ SecondSince adopted) × (rule ≡ second_rule) × (0 < adopted))) [
      | true ↦ λ both at. inl (
        sym (same_Some First found at),
        eqb-true rule first_rule
            (first_of (rule == first_rule) (adopted == never_adopted) both),
        eqb-true adopted never_adopted
            (second_of (rule == first_rule) (adopted == never_adopted) both),
      )
      | false ↦ λ neither at. inr (by_second ((rule == second_rule) && may_be_open adopted) refl at)
    ] refl is
  where
    by_second : (b : Bool) → ((rule == second_rule) && may_be_open adopted) ≡ b
        → (if b then Some (SecondSince adopted) else None) ≡ Some found
        → (found ≡ SecondSince adopted) × (rule ≡ second_rule) × (0 < adopted)
    by_second true both at = (
      sym (same_Some (SecondSince adopted) found at),
      eqb-true rule second_rule (first_of (rule == second_rule) (may_be_open adopted) both),
      ltb-true 0 adopted (first_of (nat_lt 0 adopted) (nat_le adopted last_period)
          (second_of (rule == second_rule) (may_be_open adopted) both)),
    )
    by_second false neither at = absurd (let e = at in cc)

-- and which work a record measures
pub identity_said : (row : BookRow) (found : IdentityRule) (bytes : List ℕ)
    → rule_of row.rule row.adopted ≡ Some found
    → identity_under found bytes
    ≡ option_map_or (λ (period : ℕ). identity2_of bytes) (adopted_read row) (identity_of bytes)
identity_said row found bytes is =
    let by_number : ℕ → List ℕ = λ (rule : ℕ).
    option_map_or (λ (period : ℕ). identity2_of bytes)
    (if rule == second_rule then Some row.adopted else None) (identity_of bytes) in
    elim (which_rule row.rule row.adopted found is) [
      | inl it ↦ ap (λ (one : IdentityRule). identity_under one bytes) it.0
          ∙ sym (ap by_number it.1)
      | inr it ↦ ap (λ (one : IdentityRule). identity_under one bytes) it.0
          ∙ sym (ap by_number it.1)
    ]

-- ---- choices

-- the record of a choice is held, and has its identity
abbrev pub IsHeldChoice : RecordTable → Made → Type 0
IsHeldChoice records one =
    (row : RecordRow) × (get records one.1.name ≡ Some row) × (row.identity ≡ one.0)

pub held_choice : (trees : Trees) (tables : Tables) → Holds trees tables → (rule : IdentityRule)
    (n : ℕ) (one : Made) → IsMade trees rule (n, one) → IsHeldChoice tables.records one
held_choice trees tables holds rule n one is =
    let among = is.among in
    let found = record_looked trees tables holds one.1.name among.found true among.held in (
      found.0,
      found.1,
      same_blob found.0.identity one.0 (sym (ap (λ (r : Row). column r 1) found.2) ∙ among.identity_of),
    )

module _ (trees : Trees) (tables : Tables) (holds : Holds trees tables)
    (numbers : entries tables.choices ≡ choice_numbers tables) (rule : IdentityRule) where
  -- so it has an identity if that is its own
  of_identity : (identity : List ℕ) (n : ℕ) (made : List Made)
      → AllByRecursion (IsMade trees rule) (under_numbers n made)
      → AllByRecursion (λ (one : Made). name_has_identity tables.records identity one.1.name
      ≡ same_bytes identity one.0) made
  of_identity identity n [] each = tt
  of_identity identity n (one ∷ made) each =
      let its = held_choice trees tables holds rule n one each.0 in (
        ap (λ (row : Option RecordRow). option_map_or (λ (row : RecordRow).
            same_bytes row.identity identity) row false) its.1
            ∙ ap (λ (own : List ℕ). same_bytes own identity) its.2
            ∙ nat_list_eq_equiv.symm one.0 identity,
        of_identity identity (suc n) made each.1,
      )

  module _ (open_period : ℕ) (chosen : Chosen) (choices : AreChoices trees rule open_period chosen)
      (identity : List ℕ) where
    -- the rows of the choices that name a record of the identity
    abbrev own : ChoiceRow → Bool
    own row = name_has_identity tables.records identity row.name

    -- the last of them
    last_said : last_chosen chosen identity ≡ option_map named_in (last_row tables identity)
    last_said =
        let made : List Made = choices.made in
        let same : said made ≡ values tables.choices =
        same_values choice_columns (λ n a b row. (same_choice n n a b row).1) 1 (said made)
        (values tables.choices) (sym choices.rows ∙ holds.choices ∙ ap (map choice_columns) numbers)
        in
        let row : Made → ChoiceRow = λ (one : Made). one.1 in
        let found : Option Made = find (λ (one : Made). same_bytes identity one.0) (reverse made) in
        choices.are.last identity ∙ by_row found
        ∙ ap (option_map named_in)
        (either (option_map row found)
        ∙ sym (last_passing row own (λ (one : Made). same_bytes identity one.0) made
        (of_identity identity 1 made choices.are.each) None)
        ∙ ap (λ (rows : List ChoiceRow). last_or None (filter own rows)) same)
      where
        either : (found : Option ChoiceRow) → found ≡ option_or found None
        either None = refl
        either (Some one) = refl

        by_row : (found : Option Made) → option_map (λ (one : Made). named_in one.1) found
            ≡ option_map named_in (option_map (λ (one : Made). one.1) found)
        by_row None = refl
        by_row (Some one) = refl

    -- so what was withheld is what the tables say
    pub withheld_said : withholds chosen identity ≡ is_withheld_in tables identity
    withheld_said =
        ap (λ (last : Option Named). option_map_or (λ (named : Named). not named.counts) last false)
        last_said
        ∙ by_last (last_row tables identity)
      where
        by_last : (last : Option ChoiceRow)
            → option_map_or (λ (named : Named). not named.counts) (option_map named_in last) false
            ≡ option_map_or (λ (row : ChoiceRow). not row.counts) last false
        by_last None = refl
        by_last (Some row) = refl

    -- and the record that was named last is the one that the tables name
    pub named_said : (name : List ℕ) → is_last chosen identity name
        ≡ option_map_or (same_bytes name) (last_named tables identity) false
    named_said name =
        let rows : List ChoiceRow = values tables.choices in
        ap (λ (last : Option Named).
        option_map_or (λ (named : Named). same_bytes name named.name) last false) last_said
        ∙ by_last (last_row tables identity)
        ∙ ap (λ (last : Option (List ℕ)). option_map_or (same_bytes name) last false)
        (sym (ap (last_or None)
        (filter-map (name_has_identity tables.records identity) (λ (row : ChoiceRow). row.name) rows)
        ∙ last_map (λ (row : ChoiceRow). row.name) (filter own rows) None))
      where
        by_last : (last : Option ChoiceRow)
            → option_map_or (λ (named : Named). same_bytes name named.name)
            (option_map named_in last) false
            ≡ option_map_or (same_bytes name) (option_map (λ (row : ChoiceRow). row.name) last) false
        by_last None = refl
        by_last (Some row) = refl
