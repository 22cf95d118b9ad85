-- The tables of a book with one more choice are those without it, with its row and its
-- effects.
use Rattle.std.proofs.Common.{◌≡◌, ℕ, ◌+◌, ◌≤◌, List, [], ◌∷◌, map, length, refl, sym, ap, ◌∙◌}
use Rattle.std.proofs.Common.{subst, true, false, true≢false, not, ◌&&◌, arith, Option, None, Some}
use Rattle.std.proofs.Common.{ℤ, filter, option_map, option_and_then, nat_cmp, is_eq}
use Rattle.std.specs.FinMap.{find}
use Rattle.book_model.proofs.Std.{from_entries, list_any, IsStrictlySortedBy, option_map_or}
use Rattle.book_model.proofs.Std.{nat_list_cmp_total, nat_list_eq_equiv, length-map, map-append}
use Rattle.book_model.proofs.Std.{IsStrictlySortedBy-filter, sorted_head, same_Some}
use Rattle.book_model.specs.Words.{Priced, Book, open_number, charged_of, share_identity}
use Rattle.book_model.specs.Words.{RecordChosen, is_undisputed, charged_now, give}
use Rattle.book_model.specs.Words.{Records, Naming, name_of, by_bytes, record_named, Choice}
use Rattle.book_model.specs.Words.{price_in, identity_by, last_close, with_choice, open_by, has}
use Rattle.book_model.specs.Words.{those, IsSound, AreAmong, WorkWithheld, with_withheld}
use Rattle.book_model.proofs.Lemmas.{share_back, is, has_those, in_those, first_of, second_of}
use Rattle.book_model.proofs.Lemmas.{is_first, is_back, members_rise, named_held}
use Rattle.book_model.proofs.ChosenLemmas.{charged-choice, charged-withheld, others-all, others-except}
use Rattle.book_model.proofs.RecordSets.{is_second}
use Rattle.book_core.specs.declared.effects.Member.{Member}
use Rattle.book_core.specs.Words.{withdraw, charge_held, choice_effects}
use Rattle.table_model.specs.Laws.{ChoiceFollows, WithholdFollows}
use Rattle.table_model.specs.Words.{put_choice_row, apply, charge_in, put_choice, ChoiceRow, Tables}
use Rattle.table_model.specs.Words.{choice_entries, choice_row, status_by, tables_of, tables_at}
use Rattle.table_model.specs.Words.{under_numbers, only_of, member_by, member_of, sharing}
use Rattle.table_model.specs.Words.{current_of, put_none_row, put_withheld}
use Rattle.table_model.proofs.RowsWhere.{among-filter}
use Rattle.table_model.proofs.StatusSteps.{charge-step, withdraw-step}
use Rattle.table_model.proofs.TableParts.{what_is}
use Rattle.table_model.proofs.UnderNumbers.{next_number, number_free}
use Rattle.book_core.proofs.NamedLemmas.{its_name}

-- a record that is held as a member, at a price
abbrev member_at_price : Naming → Book → List ℕ → Priced → Member
member_at_price naming book bytes cost = record {
  name = name_of naming bytes;
  priced = cost;
  charged = has (charged_of book) bytes;
  posted = has book.posted bytes;
}

-- no choice has a number after all of them
pub choice_free : (naming : Naming) (n number : ℕ) (choices : List Choice)
    → n + length choices ≤ number → find nat_cmp number (choice_entries naming n choices) ≡ None
choice_free naming n number choices behind =
    let many : length (map (choice_row naming) choices) ≡ length choices =
    length-map choices (choice_row naming) in
    number_free n number (map (choice_row naming) choices) (omega arith)

module _ (naming : Naming) (book : Book) (sound : IsSound naming book) (bytes : List ℕ)
    (there : has book.held bytes ≡ true) where
  -- the last close's day
  abbrev last : Option ℤ
  last = last_close book.rulings

  -- what was charged, and which of that does not share the identity
  abbrev before : Records
  before = charged_of book

  abbrev others : Records
  others = those (λ q. not (share_identity book.rulings q bytes)) before

  -- the tables, by what is charged
  abbrev tables : Records → Tables
  tables charged = tables_at naming book (status_by book.rulings charged)

  -- what was charged is held
  before_held : AreAmong before book.held
  before_held q in_it = in_those (is_undisputed book.rulings book.held) book.held q in_it

  others_held : AreAmong others book.held
  others_held q in_it =
      before_held q (in_those (λ q. not (share_identity book.rulings q bytes)) before q in_it)

  -- the record is not among the others
  out : has others bytes ≡ false
  out =
      has_those (λ q. not (share_identity book.rulings q bytes)) before bytes
      ∙ ap (λ s. not s && has before bytes)
      (nat_list_eq_equiv.refl (identity_by book.rulings bytes))

  -- the charged records that share the identity
  abbrev charged_list : List (List ℕ)
  charged_list = filter (has before) (sharing book bytes)

  -- which records are on that list
  on_list : (current : List (List ℕ)) → charged_list ≡ current → (q : List ℕ)
      → list_any (is q) current
      ≡ (has before q && (share_identity book.rulings bytes q && has book.held q))
  on_list current listed q =
      ap (list_any (is q)) (sym listed)
      ∙ among-filter (has before) (those (share_identity book.rulings bytes) book.held) q
      ∙ ap (λ b. has before q && b) (has_those (share_identity book.rulings bytes) book.held q)

  -- one that is on it was charged, and shares the identity
  listed_charged : (current : List (List ℕ)) → charged_list ≡ current → (q : List ℕ)
      → list_any (is q) current ≡ true
      → (has before q ≡ true) × (share_identity book.rulings q bytes ≡ true)
  listed_charged current listed q on =
      let all = sym (on_list current listed q) ∙ on in
      let rest = second_of (has before q) (share_identity book.rulings bytes q && has book.held q)
      all in (
        first_of (has before q) (share_identity book.rulings bytes q && has book.held q) all,
        share_back book.rulings q bytes
            ∙ first_of (share_identity book.rulings bytes q) (has book.held q) rest,
      )

  -- the tables without what was charged of the identity: by that list
  withdrawn-as : (current : List (List ℕ)) → charged_list ≡ current
      → tables others
      ≡ option_map_or (λ gone. apply (open_number book) gone (tables before))
      (option_map (withdraw last) (option_and_then (member_of naming book) (only_of current)))
      (tables before)
  withdrawn-as [] listed =
      ap tables (others-all book.rulings book.held bytes (λ q in_it.
      elim (share_identity book.rulings q bytes)
      as (λ s. share_identity book.rulings q bytes ≡ s → s ≡ false) [
        | true ↦ λ shares. absurd (true≢false
            (sym (λ i. in_it i
            && ((share_back book.rulings bytes q ∙ shares) i && before_held q in_it i))
            ∙ sym (on_list [] listed q)))
        | false ↦ λ apart. refl
      ] refl))
  withdrawn-as (one ∷ []) listed =
      let its = listed_charged (one ∷ []) listed one (is_first one []) in
      let held_too = before_held one its.0 in
      let cost = what_is (price_in book.rulings one) (sound.priced one held_too) in
      ap tables (others-except book.rulings book.held bytes one its.0 its.1)
      ∙ withdraw-step naming book sound before before_held one held_too cost.0 cost.1 its.0
      (has before one)
      ∙ ap (λ member. option_map_or (λ gone. apply (open_number book) gone (tables before))
      (option_map (withdraw last) member) (tables before))
      (ap (member_by naming book one) (sym cost.1))
  withdrawn-as (a ∷ b ∷ rest) listed =
      let its_a = listed_charged (a ∷ b ∷ rest) listed a (is_first a (b ∷ rest)) in
      let its_b = listed_charged (a ∷ b ∷ rest) listed b (is_second a b rest) in
      let rising =
      subst (IsStrictlySortedBy by_bytes) listed
      (IsStrictlySortedBy-filter by_bytes (has before) (sharing book bytes)
      (members_rise nat_list_cmp_total (those (share_identity book.rulings bytes) book.held))) in
      let less = sorted_head by_bytes a (b ∷ rest) rising in
      let differ : is b a ≡ false = is_back b a ∙ ap is_eq less.0 in
      let same = others-except book.rulings book.held bytes a its_a.0 its_a.1 in
      absurd (true≢false (sym (has_those (λ q. not (is q a)) before b
      ∙ (λ i. not (differ i) && its_b.0 i))
      ∙ ap (λ records. has records b) (sym same)
      ∙ has_those (λ q. not (share_identity book.rulings q bytes)) before b
      ∙ ap (λ s. not s && has before b) its_b.1))

  -- the tables with the choice
  pub choice-tables : (cost : Priced) → price_in book.rulings bytes ≡ Some cost
      → tables_of naming (give (RecordChosen bytes) book)
      ≡ put_choice (length book.rulings.choices + 1) (open_number book) (name_of naming bytes)
      (choice_effects last (current_of naming book bytes) (member_at_price naming book bytes cost))
      (tables before)
  choice-tables cost costs =
      let choices : List Choice = book.rulings.choices in
      let number : ℕ = length choices + 1 in
      let choice : Choice =
      record { chosen = bytes; counts = true; period = open_by book.rulings } in
      let row : ChoiceRow = choice_row naming choice in
      let earlier : List ChoiceRow = map (choice_row naming) choices in
      let many : length earlier ≡ length choices = length-map choices (choice_row naming) in
      let now : Records = charged_now (with_choice bytes book.rulings) book.held in
      let with_row : Tables → Tables =
      put_choice_row number (name_of naming bytes) (open_number book) in
      let rows = ap (λ rows. from_entries {R = nat_cmp} (under_numbers 1 rows))
      (map-append (choice_row naming) choices (choice ∷ []))
      ∙ next_number earlier row number (omega arith) in
      let made : tables_of naming (give (RecordChosen bytes) book) ≡ with_row (tables now) =
      λ i. record (with_row (tables now)) { choices = rows i } in
      made
      ∙ ap (λ charged. with_row (tables charged))
      (charged-choice book.rulings book.held bytes there)
      ∙ ap with_row (charge-step naming book sound others others_held bytes there cost costs out
      (has before bytes)
      ∙ ap (charge_in (open_number book) (name_of naming bytes)
      (charge_held last (member_at_price naming book bytes cost)))
      (withdrawn-as charged_list refl))

  -- the tables with the choice of none
  pub withheld-tables : tables_of naming (give (WorkWithheld bytes) book)
      ≡ put_withheld (length book.rulings.choices + 1) (open_number book) (name_of naming bytes)
      (option_map (withdraw last) (current_of naming book bytes)) (tables before)
  withheld-tables =
      let choices : List Choice = book.rulings.choices in
      let number : ℕ = length choices + 1 in
      let choice : Choice =
      record { chosen = bytes; counts = false; period = open_by book.rulings } in
      let row : ChoiceRow = choice_row naming choice in
      let earlier : List ChoiceRow = map (choice_row naming) choices in
      let many : length earlier ≡ length choices = length-map choices (choice_row naming) in
      let now : Records = charged_now (with_withheld bytes book.rulings) book.held in
      let with_row : Tables → Tables =
      put_none_row number (name_of naming bytes) (open_number book) in
      let rows = ap (λ rows. from_entries {R = nat_cmp} (under_numbers 1 rows))
      (map-append (choice_row naming) choices (choice ∷ []))
      ∙ next_number earlier row number (omega arith) in
      let made : tables_of naming (give (WorkWithheld bytes) book) ≡ with_row (tables now) =
      λ i. record (with_row (tables now)) { choices = rows i } in
      made
      ∙ ap (λ charged. with_row (tables charged))
      (charged-withheld book.rulings book.held bytes)
      ∙ ap with_row (withdrawn-as charged_list refl)

-- the law
pub choice_follows : ChoiceFollows
choice_follows naming book name bytes chosen sound found done is_member =
    let there = named_held naming book.held name bytes found in
    let cost = what_is (price_in book.rulings bytes) (sound.priced bytes there) in
    let same = same_Some (member_at_price naming book bytes cost.0) chosen
    (sym (ap (member_by naming book bytes) cost.1) ∙ is_member) in
    let named = its_name naming book.held name bytes found in
    choice-tables naming book sound bytes there cost.0 cost.1
    ∙ (λ i. put_choice (length book.rulings.choices + 1) (open_number book) (named i)
    (choice_effects (last_close book.rulings) (current_of naming book bytes) (same i))
    (tables_of naming book))

-- the law of choices of none
pub withhold_follows : WithholdFollows
withhold_follows naming book name bytes sound found =
    let there = named_held naming book.held name bytes found in
    let named = its_name naming book.held name bytes found in
    withheld-tables naming book sound bytes there
    ∙ ap (λ name. put_withheld (length book.rulings.choices + 1) (open_number book) name
    (option_map (withdraw (last_close book.rulings)) (current_of naming book bytes))
    (tables_of naming book)) named

-- the record of a name that is held is a member
pub chosen_member : (naming : Naming) (book : Book) (name bytes : List ℕ) → IsSound naming book
    → record_named naming book.held name ≡ Some bytes
    → (member : Member) × (member_of naming book bytes ≡ Some member)
chosen_member naming book name bytes sound found =
    let there = named_held naming book.held name bytes found in
    let cost = what_is (price_in book.rulings bytes) (sound.priced bytes there) in
    (member_at_price naming book bytes cost.0, ap (member_by naming book bytes) cost.1)
