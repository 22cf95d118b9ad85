-- The tables of a book under the second rule of identity are those under the first after a walk.
use Rattle.std.proofs.Common.{◌≡◌, inl, inr, ℕ, List, refl, sym, ap, ◌∙◌, true, false, true≢false}
use Rattle.std.proofs.Common.{Bool, not, ◌&&◌, Option, Some, None, Ok, if◌then◌else◌, unwrap_or}
use Rattle.std.proofs.Common.{filter_map, option_map}
use Rattle.std.proofs.Math.Bool.{and-true}
use Rattle.book_model.proofs.Std.{keys, from_entries, nat_list_cmp_total, exact_bytes, same_Some}
use Rattle.book_model.specs.declared.answer.Ruled.TheVariants.{Done}
use Rattle.book_model.specs.Words.{identity2_of, Book, open_number, charged_of, is_undisputed, give}
use Rattle.book_model.specs.Words.{SecondRuleAdopted, Records, Naming, name_of, adopt_answer}
use Rattle.book_model.specs.Words.{second_rule, Rulings, price_in, identity_by, with_second_rule}
use Rattle.book_model.specs.Words.{last_close, open_by, members, has, IsSound, AreAmong, Priced}
use Rattle.book_model.proofs.AdoptedLemmas.{adoption_takes_nothing, first_adopted}
use Rattle.book_model.proofs.Lemmas.{map-filter_map, first_of, has_those, in_those, pick-agree}
use Rattle.book_model.proofs.Lemmas.{steps_stay_sound}
use Rattle.table_model.specs.Laws.{AdoptionFollows}
use Rattle.table_model.specs.PeriodLists.{AreUsage}
use Rattle.table_model.proofs.RestatedRows.{restate}
use Rattle.table_model.specs.Words.{rename_rows, by_second_rule, walk, charge_due_step, RecordRow}
use Rattle.table_model.specs.Words.{BookRow, Tables, tables_of, tables_at, row_by, entry_by}
use Rattle.table_model.specs.Words.{book_row, status_by, is_due_in}
use Rattle.table_model.specs.Steps.{set_rule}
use Rattle.table_model.proofs.DueLemmas.{due-follows}
use Rattle.table_model.proofs.MovedLemmas.{updated-from_entries}
use Rattle.table_model.proofs.Restated.{IsStatus, row_for, status_at}
use Rattle.table_model.proofs.StatusSteps.{due-is, is_status}
use Rattle.table_model.proofs.WalkLemmas.{Restates, StepsOne, restated_all}

-- what was charged still is, so what is not newly charged is as it was
same_mark : (was now : Bool) → (was ≡ true → now ≡ true) → (now && not was) ≡ false → was ≡ now
same_mark true now still fails = sym (still refl)
same_mark false true still fails = absurd (true≢false fails)
same_mark false false still fails = refl

module _ (naming : Naming) (book : Book) (sound : IsSound naming book) (usage : AreUsage book.held)
    (done : adopt_answer book.rulings second_rule ≡ Ok Done) where
  -- the rulings with the rule, and the book under it
  abbrev ruled : Rulings
  ruled = with_second_rule book.rulings

  abbrev after : Book
  after = give SecondRuleAdopted book

  still : IsSound naming after
  still = steps_stay_sound.adopt naming book sound

  -- what was charged, and what is
  abbrev before : Records
  before = charged_of book

  abbrev now : Records
  now = charged_of after

  -- so what was charged is charged
  charged_too : AreAmong before now
  charged_too = adoption_takes_nothing naming book sound usage done

  -- a record is undisputed under the rule
  abbrev settled : List ℕ → Bool
  settled = is_undisputed ruled book.held

  -- the tables under the rule, by what is charged
  abbrev tables : Records → Tables
  tables charged = tables_at naming book (status_by ruled charged)

  -- the rows with their new identities
  renamed : rename_rows (tables_of naming book) ≡ tables before
  renamed =
      let change : List ℕ × RecordRow → List ℕ × RecordRow =
      λ row. (row.0, by_second_rule row.1) in
      let old : List ℕ → Option (List ℕ × RecordRow) =
      entry_by naming (status_by book.rulings before) book.posted in
      let own : List ℕ → Priced → List ℕ × RecordRow = λ q cost.
      (name_of naming q, row_by (identity_by book.rulings) before book.posted q cost) in
      let new : List ℕ → Priced → List ℕ × RecordRow = λ q cost.
      (name_of naming q, row_by (identity_by ruled) before book.posted q cost) in
      let rows = updated-from_entries nat_list_cmp_total exact_bytes by_second_rule
      (filter_map old (members book.held))
      ∙ ap from_entries (map-filter_map change old (members book.held)
      ∙ pick-agree (λ q. option_map change (old q))
      (entry_by naming (status_by ruled before) book.posted) book.held
      (λ q there. elim (price_in book.rulings q) as (λ price.
      option_map {T = List ℕ × RecordRow} {U = List ℕ × RecordRow} change
      (option_map {T = Priced} {U = List ℕ × RecordRow} (own q) price)
      ≡ option_map {T = Priced} {U = List ℕ × RecordRow} (new q) price) [
        | None ↦ refl
        | Some cost ↦ λ i. Some (
          name_of naming q,
          record (row_by (identity_by ruled) before
              book.posted q cost) { identity = identity2_of (sym ((usage q there).framed.is) i) },
        )
      ])) in
      λ i. record (tables before) { records = rows i }

  -- the step of the walk
  abbrev step : List ℕ → Tables → Tables
  step = charge_due_step (open_number book) (last_close book.rulings) (is_due_in (tables before))

  -- what was charged makes a status, and so does what is
  was : IsStatus book (status_by ruled before)
  was = is_status book ruled before
      (λ q on. in_those (is_undisputed book.rulings book.held) book.held q on) sound.priced

  becomes : IsStatus book (status_by ruled now)
  becomes = is_status book ruled now (λ q on. in_those settled book.held q on) sound.priced

  -- each record that is due is charged, and the others are as they were
  step_is : Restates naming book sound (status_by ruled before) (status_by ruled now) was becomes
      (λ q held late. refl) step
  step_is one there cost costs its its_now made found =
      let row : RecordRow = row_for book one (status_at (status_by ruled before) one) cost in
      let due : Bool = settled one in
      let was_on : Bool = has before one in
      let charged : Bool → Tables = λ test. if test then restate (open_number book)
      (last_close book.rulings) (name_of naming one) row (record row { charged = true }) made
      else made in
      let now_is : has now one ≡ due =
      has_those settled book.held one ∙ ap (λ h. due && h) there ∙ and-true due in
      elim (due && not was_on) as (λ b. (due && not was_on) ≡ b
      → step (name_of naming one) made ≡ charged b
      → StepsOne naming book sound (status_by ruled before) (status_by ruled now) was becomes
      (λ q held late. refl) step made one cost costs) [
        | true ↦ λ passes stepped. inl (stepped ∙ (λ i. restate (open_number book)
            (last_close book.rulings) (name_of naming one) row (record row {
              priced = same_Some cost costs (sym its ∙ its_now) i;
              charged = sym (now_is ∙ first_of due (not was_on) passes) i;
            }) made))
        | false ↦ λ fails stepped. inr (
          (λ i. record (status_at (status_by ruled now) one) {
            charged = (same_mark was_on due (λ on. sym now_is ∙ charged_too one on) fails
                ∙ sym now_is) i;
          }),
          stepped,
        )
      ] refl
      (due-is (open_number book) (last_close book.rulings) (name_of naming one) row made found
      (is_due_in (tables before))
      ∙ (λ i. charged (due-follows naming after still before one there i && not was_on)))

  -- so after the walk what is undisputed is charged
  walked : walk step (keys (tables before).records) (tables before) ≡ tables now
  walked = restated_all naming book sound (status_by ruled before) (status_by ruled now) was becomes
      (λ q held late. refl) step step_is

-- the law
pub adoption_follows : AdoptionFollows
adoption_follows naming book sound usage done =
    let old : BookRow = book_row book.rulings book.held in
    let period : ℕ = open_number book in
    let last : Tables =
    tables naming book sound usage done (charged_of (give SecondRuleAdopted book)) in
    let due : Tables → List ℕ → Bool = is_due_in in
    let over : Tables → Tables = λ named.
    set_rule second_rule period (walk (charge_due_step period (last_close book.rulings) (due named))
    (keys named.records) named) in
    ap (λ was. record last {
      book = record old { rule = second_rule; adopted = unwrap_or was (open_by book.rulings) };
    }) (first_adopted book done)
    ∙ ap (set_rule second_rule period) (sym (walked naming book sound usage done))
    ∙ ap over (sym (renamed naming book sound usage done))
