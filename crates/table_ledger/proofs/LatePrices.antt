-- The prices of a book's records under a later tariff, in a walk over those that it may be for: the
-- tables that such a walk has come to.
use Rattle.std.proofs.Common.{◌≡◌, ◌∙◌, ◌⊎◌, inl, inr, ℕ, List, true, false, cond, Option, Some}
use Rattle.std.proofs.Common.{None, refl, sym, ap, subst, true≢false, int_lt, is_eq}
use Rattle.book_model.proofs.Std.{tied_itself, get, get-insert, keys, eq_by_cmp, nat_list_cmp_total}
use Rattle.book_model.specs.Words.{Priced, Terms, by_bytes, price_by, record_with, same_bytes}
use Rattle.book_model.proofs.Lemmas.{same_bytes-by_cmp}
use Rattle.table_model.specs.Words.{reprice, reprice_step, walk, RecordRow, Tables}
use Rattle.table_model.proofs.PartlyPriced.{HasPrice, IsPartlyPriced, first_counted, partly_all}
use Rattle.table_model.proofs.PartlyPriced.{partly_none, step_partly, step_stands}
use Rattle.book_core.proofs.NamedLemmas.{same_texts}
use Rattle.tree_tables.specs.LateRecords.{FindsLate}
use Rattle.tree_tables.specs.declared.late_records.LateRecord.{LateRecord}
use Rattle.table_ledger.proofs.Words.{Trees, some_is, Holds, is_left, stored_entry, TakesTariff}
use Rattle.table_ledger.specs.Repricing.{CountsLate, StandsPriced}
use Rattle.table_ledger.proofs.LateLeft.{late_left}
use Rattle.table_ledger.proofs.Repriced.{step_by}

-- each record that is dated on the first day or later has its price, or is still to come
abbrev pub ArePricedTo : Terms → Option LateRecord → Tables → Type 0
ArePricedTo terms last now =
    (name : List ℕ) (row : RecordRow) → get now.records name ≡ Some row
    → int_lt row.priced.day terms.effective ≡ false
    → HasPrice terms row ⊎ (is_left terms.effective last now (name, row) ≡ true)

-- ---- a step

module _ (terms : Terms) (last : Option LateRecord) (late : LateRecord) (now : Tables)
    (finds : FindsLate terms.effective last now (Some late)) (so : ArePricedTo terms last now)
  where
    -- the record that was met has its price, and the others are as they were
    after_it : (made : Tables) → made.counted ≡ now.counted
        → ((other : List ℕ) → same_bytes other late.stored.name ≡ false
        → get made.records other ≡ get now.records other)
        → ((row : RecordRow) → get made.records late.stored.name ≡ Some row
        → int_lt row.priced.day terms.effective ≡ false → HasPrice terms row)
        → ArePricedTo terms (Some late) made
    after_it made counted others own name row found from =
        elim (same_bytes name late.stored.name) as (λ b. same_bytes name late.stored.name ≡ b
        → HasPrice terms row ⊎ (is_left terms.effective (Some late) made (name, row) ≡ true)) [
          | true ↦ λ same. inl (own row
              (ap (get made.records) (sym (same_texts name late.stored.name same)) ∙ found) from)
          | false ↦ λ apart.
              let before = sym (others name apart) ∙ found in
              elim (so name row before from) [
                | inl has ↦ inl has
                | inr left ↦ inr ((λ i. is_left terms.effective (Some late)
                    (record now { counted = counted i }) (name, row))
                    ∙ sym (finds.others (name, row) before apart) ∙ left)
              ]
        ] refl

    -- the step of a tariff does that
    pub step_on : (period : ℕ)
        → ArePricedTo terms (Some late) (reprice_step period terms late.stored.name now)
    step_on period =
        let name : List ℕ = late.stored.name in
        let row : RecordRow = (stored_entry late.stored).1 in
        let priced : Priced = price_by terms (record_with row.data_bytes) in
        let made : Tables = reprice period name row priced now in
        let put : (other : List ℕ) → get made.records other
        ≡ cond (eq_by_cmp by_bytes other name) (Some (record row { priced = priced }))
        (get now.records other) =
        get-insert nat_list_cmp_total now.records name (record row { priced = priced }) in
        elim (int_lt row.priced.day terms.effective) as (λ early.
        int_lt row.priced.day terms.effective ≡ early
        → ArePricedTo terms (Some late) (reprice_step period terms name now)) [
          | true ↦ λ early.
              subst (ArePricedTo terms (Some late))
              (step_by period name row now finds.there terms None
              (ap (λ b. cond b None (Some priced)) (sym early)))
              (after_it now refl (λ other apart. refl) (λ its there from. absurd (true≢false
              (sym early ∙ ap (λ (one : RecordRow). int_lt one.priced.day terms.effective)
              (some_is row its (sym finds.there ∙ there)) ∙ from))))
          | false ↦ λ from.
              subst (ArePricedTo terms (Some late))
              (step_by period name row now finds.there terms (Some priced)
              (ap (λ b. cond b None (Some priced)) (sym from)))
              (after_it made refl
              (λ other apart. put other
              ∙ ap (λ b. cond b (Some (record row { priced = priced })) (get now.records other))
              (sym (ap (λ test. test other name) same_bytes-by_cmp) ∙ apart))
              (λ its there dated. subst (HasPrice terms)
              (some_is (record row { priced = priced }) its
              (ap (λ o. cond (is_eq o) (Some (record row { priced = priced })) (get now.records name))
              (sym (tied_itself nat_list_cmp_total name)) ∙ sym (put name) ∙ there)) refl))
        ] refl

-- ---- the walk

module _ {period : ℕ} {terms : Terms} {tables : Tables} (takes : TakesTariff period terms tables)
  where
    -- some records of the book have their prices
    abbrev pub IsPartly : Tables → Type 0
    IsPartly now =
        IsPartlyPriced takes.naming takes.book takes.readable.sound takes.readable.lines.framed
        takes.text terms takes.done now

-- A walk over the records of a book that takes the tariff has come so far.
pub record IsPricedTo (period : ℕ) (terms : Terms) (last : Option LateRecord) (tables : Tables)
    (trees : Trees) : Type 0 where
  pub takes : TakesTariff period terms tables
  pub now : Tables
  pub holds : Holds trees now
  pub partly : IsPartly takes now
  pub priced : ArePricedTo terms last now

-- at first none is done
pub priced_first : {period : ℕ} {terms : Terms} {tables : Tables} {trees : Trees}
    → Holds trees tables → TakesTariff period terms tables
    → IsPricedTo period terms None tables trees
priced_first {terms = terms} {tables = tables} holds takes =
    record {
      takes = takes;
      now = tables;
      holds = holds;
      partly = subst (IsPartly takes) (sym takes.are)
          (partly_none takes.naming takes.book takes.readable.sound takes.readable.lines.framed
          takes.text terms takes.done);
      priced = λ name row found from. inr (late_left terms tables
          (subst (CountsLate terms) (sym takes.are)
          (first_counted takes.naming takes.book takes.readable.sound takes.readable.lines.framed
          takes.text terms takes.done)) name row found from);
    }

module _ {period : ℕ} {terms : Terms} {last : Option LateRecord} {tables : Tables} {trees : Trees}
    (so : IsPricedTo period terms last tables trees) where
  -- what has its price already is left as it is by its step
  pub priced_stays : (name : List ℕ) → StandsPriced period terms name so.now
  priced_stays name row there has =
      let takes = so.takes in
      (λ i. reprice_step (takes.number i) terms name so.now)
      ∙ step_stands takes.naming takes.book takes.readable.sound takes.readable.lines.framed
      takes.text terms takes.done so.now so.partly name row there has

  -- the next one is met, and its step taken
  pub priced_next : {after : Trees} (late : LateRecord)
      → FindsLate terms.effective last so.now (Some late)
      → Holds after (reprice_step period terms late.stored.name so.now)
      → IsPricedTo period terms (Some late) tables after
  priced_next late finds holds =
      let takes = so.takes in
      record {
        takes = takes;
        now = reprice_step period terms late.stored.name so.now;
        holds = holds;
        partly = subst (λ (n : ℕ). IsPartly takes (reprice_step n terms late.stored.name so.now))
            (sym takes.number)
            (step_partly takes.naming takes.book takes.readable.sound takes.readable.lines.framed
            takes.text terms takes.done so.now so.partly late.stored.name
            (stored_entry late.stored).1 finds.there);
        priced = step_on terms last late so.now finds so.priced period;
      }

  -- none is left: all that the tariff is for have their prices
  pub priced_all : FindsLate terms.effective last so.now None
      → Holds trees (walk (reprice_step period terms) (keys tables.records) tables)
  priced_all none =
      let takes = so.takes in
      subst (Holds trees)
      (partly_all takes.naming takes.book takes.readable.sound takes.readable.lines.framed takes.text
      terms takes.done so.now so.partly (λ name row there from.
      elim (so.priced name row there from) [
        | inl has ↦ has
        | inr left ↦ absurd (true≢false (sym left ∙ none (name, row) there))
      ])
      ∙ (λ i. walk (reprice_step (sym takes.number i) terms) (keys (sym takes.are i).records)
      (sym takes.are i)))
      so.holds
