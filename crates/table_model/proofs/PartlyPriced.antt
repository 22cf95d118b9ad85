-- The tables while a tariff is put in force: some of the records have their prices by it, and the
-- others those that they had.
use Rattle.std.proofs.Common.{◌≡◌, ◌∙◌, ℕ, List, Bool, true, false, true≢false, cond, ◌||◌, Some}
use Rattle.std.proofs.Common.{Ok, Option, refl, sym, ap, subst, ℤ, if◌then◌else◌, int_lt, is_some}
use Rattle.book_model.proofs.Std.{contains_key, get, keys, list_any, false_from_ne_true, same_Some}
use Rattle.book_model.specs.declared.answer.Ruled.TheVariants.{Done}
use Rattle.book_model.specs.Words.{Priced, Book, IsSound, Naming, Rulings, Terms, day_of, has}
use Rattle.book_model.specs.Words.{is_dated_after, last_close, name_of, open_number, price_by}
use Rattle.book_model.specs.Words.{price_in, record_with, terms_answer, with_tariff, is_after}
use Rattle.book_model.proofs.Lemmas.{tariff_passes, price_in-behind, is}
use Rattle.table_model.specs.Words.{AreFramed, reprice, reprice_step, walk, RecordRow, RecordTable}
use Rattle.table_model.specs.Words.{Tables, RecordStatus, status_of, tables_at, tables_of}
use Rattle.table_model.proofs.LateRows.{late_counted}
use Rattle.table_model.proofs.Restated.{IsStatus, StatusAt, restated, row-found, row_for, status_at}
use Rattle.table_model.proofs.Restated.{tables-alike}
use Rattle.table_model.proofs.StatusSteps.{reprice-is}
use Rattle.table_model.proofs.TableParts.{what_is}
use Rattle.table_model.proofs.TariffChanges.{becomes, late_is_after, settled, step_is, walked, was}
use Rattle.table_model.proofs.TariffPrices.{new_price}
use Rattle.table_model.proofs.WalkLemmas.{among, between, is_between, key_named, one_step, status}
use Rattle.std.specs.FinMap as fin

-- its price is that of a tariff
abbrev pub HasPrice : Terms → RecordRow → Type 0
HasPrice terms row = row.priced ≡ price_by terms (record_with row.data_bytes)

-- a name that has a row is a key
is_key : (records : RecordTable) (name : List ℕ) (row : RecordRow) → get records name ≡ Some row
    → list_any (is name) (keys records) ≡ true
is_key records name row there = sym (fin.contains_key-keys records name) ∙ ap is_some there

-- a step at a record, by its day
step_by_row : (period : ℕ) (terms : Terms) (tables : Tables) (name : List ℕ) (row : RecordRow)
    (bytes : List ℕ) → get tables.records name ≡ Some row → row.priced.day ≡ day_of bytes
    → record_with row.data_bytes ≡ bytes
    → reprice_step period terms name tables
    ≡ (if int_lt (day_of bytes) terms.effective then tables
    else reprice period name row (price_by terms bytes) tables)
step_by_row period terms tables name row bytes there day own =
    rw there (λ i. if int_lt (day i) terms.effective then tables
    else reprice period name row (price_by terms (own i)) tables)

module _ (naming : Naming) (book : Book) (sound : IsSound naming book)
    (framed : AreFramed book.held) (text : List ℕ) (terms : Terms)
    (done : terms_answer book text terms ≡ Ok Done) where
  abbrev period : ℕ
  period = open_number book

  abbrev last : Option ℤ
  last = last_close book.rulings

  abbrev ruled : Rulings
  ruled = with_tariff (Some text) terms book.rulings

  -- the status of the records before the tariff, and by it
  abbrev from : RecordStatus
  from = status_of book

  abbrev to : RecordStatus
  to = record (status_of book) { price = price_in ruled }

  abbrev begins : IsStatus book from
  begins = was naming book sound framed text terms done

  abbrev ends : IsStatus book to
  ends = becomes naming book sound framed text terms done

  abbrev closed : (q : List ℕ) → has book.held q ≡ true → is_dated_after last q ≡ false
      → from.price q ≡ to.price q
  closed = settled naming book sound framed text terms done

  -- where the records of some names have their prices by it
  abbrev partly : (List ℕ → Bool) → RecordStatus
  partly names = between naming book sound from to begins ends closed names

  abbrev made : (List ℕ → Bool) → Tables
  made names = tables_at naming book (partly names)

  -- some of the records have their prices by the tariff, and the others those that they had
  abbrev pub IsPartlyPriced : Tables → Type 0
  IsPartlyPriced now = (names : List ℕ → Bool) × (now ≡ made names)

  -- of those that are dated from its first day on those are counted that are charged
  pub first_counted : (name : List ℕ) (row : RecordRow)
      → get (tables_of naming book).records name ≡ Some row
      → int_lt row.priced.day terms.effective ≡ false
      → contains_key (tables_of naming book).counted name ≡ row.charged
  first_counted =
      late_counted naming book terms sound (tariff_passes book text terms done).later

  -- at first none has its price by the tariff
  pub partly_none : IsPartlyPriced (tables_of naming book)
  partly_none =
      let none : List ℕ → Bool = λ name. false in (
        none,
        tables-alike naming book sound from (partly none) begins.charged
            (among naming book sound from to begins ends closed none)
            (λ q held. sym (is_between naming book sound from to begins ends closed none q held)),
      )

  module _ (names : List ℕ → Bool) where
    abbrev now : Tables
    now = made names

    abbrev is_status : IsStatus book (partly names)
    is_status = status naming book sound from to begins ends closed names

    -- what is said of a record
    said : (q : List ℕ) → has book.held q ≡ true
        → status_at (partly names) q
        ≡ cond (names (name_of naming q)) (status_at to q) (status_at from q)
    said = is_between naming book sound from to begins ends closed names

    module _ (one : List ℕ) (held : has book.held one ≡ true) (cost : Priced)
        (costs : (partly names).price one ≡ Some cost) where
      -- its row
      abbrev row : RecordRow
      row = row_for book one (status_at (partly names) one) cost

      abbrev name : List ℕ
      name = name_of naming one

      found : get now.records name ≡ Some row
      found =
          row-found naming book sound (partly names).price (partly names).identity
          (partly names).charged one held cost costs

      day : cost.day ≡ day_of one
      day = is_status.dated one cost costs

      -- A step leaves it as it is where its price stands.
      stays : (int_lt (day_of one) terms.effective ≡ false → cost ≡ price_by terms one)
          → reprice_step period terms name now ≡ now
      stays stands =
          elim (int_lt (day_of one) terms.effective) as (λ b. int_lt (day_of one) terms.effective ≡ b
          → reprice_step period terms name now
          ≡ (if b then now else reprice period name row (price_by terms one) now)
          → reprice_step period terms name now ≡ now) [
            | true ↦ λ early stepped. stepped
            | false ↦ λ late stepped.
                let late_after : is_dated_after last one ≡ true =
                late_is_after naming book sound framed text terms done one late in
                let after : is_after last cost.day ≡ true =
                ap (is_after last) day ∙ late_after in
                let unposted : has book.posted one ≡ false =
                false_from_ne_true (has book.posted one)
                (λ on. true≢false (sym late_after ∙ sound.dated one on)) in
                stepped ∙ ap (λ c. reprice period name row c now) (sym (stands late))
                ∙ reprice-is period last name row now found cost unposted after after
                ∙ sym (restated naming book sound (partly names) (partly names) is_status is_status
                one held (λ q there apart. refl) (λ late. refl) cost cost costs costs)
          ] refl
          (step_by_row period terms now name row one found day (sym (framed one held).is))

    -- what a record that is held costs, and that each row is that of such a record
    cost_of : (q : List ℕ) → has book.held q ≡ true
        → (cost : Priced) × ((partly names).price q ≡ Some cost)
    cost_of q held = what_is ((partly names).price q) (is_status.priced q held)

    its_record : (name : List ℕ) (found_row : RecordRow) → get now.records name ≡ Some found_row
        → (one : List ℕ) × (held : has book.held one ≡ true) × (name_of naming one ≡ name)
        × (found_row ≡ row_for book one (status_at (partly names) one) (cost_of one held).0)
    its_record name found_row there =
        let own = key_named naming book sound (partly names) is_status name
        (is_key now.records name found_row there) in
        let cost = cost_of own.0 own.1 in (
          own.0,
          own.1,
          own.2,
          same_Some found_row (row_for book own.0 (status_at (partly names) own.0) cost.0)
              (sym there ∙ ap (get now.records) (sym own.2) ∙ found own.0 own.1 cost.0 cost.1),
        )

    -- a row whose price stands is that of a record whose price does
    price_stands : (one : List ℕ) → has book.held one ≡ true → (cost : Priced)
        → (found_row : RecordRow)
        → found_row ≡ row_for book one (status_at (partly names) one) cost
        → HasPrice terms found_row → cost ≡ price_by terms one
    price_stands one held cost found_row own stands =
        sym (ap (λ (r : RecordRow). r.priced) own) ∙ stands
        ∙ ap (λ (r : RecordRow). price_by terms (record_with r.data_bytes)) own
        ∙ ap (price_by terms) (sym (framed one held).is)

    -- so a step at it changes nothing
    nothing_new : (name : List ℕ) (found_row : RecordRow) → get now.records name ≡ Some found_row
        → HasPrice terms found_row → reprice_step period terms name now ≡ now
    nothing_new name found_row there stands =
        let it = its_record name found_row there in
        let cost = cost_of it.0 it.1 in
        ap (λ n. reprice_step period terms n now) (sym it.2)
        ∙ stays it.0 it.1 cost.0 cost.1
        (λ late. price_stands it.0 it.1 cost.0 found_row it.3 stands)

    -- Any step makes such tables.
    one_more : (name : List ℕ) (found_row : RecordRow) → get now.records name ≡ Some found_row
        → IsPartlyPriced (reprice_step period terms name now)
    one_more name found_row there =
        let it = its_record name found_row there in
        let one : List ℕ = it.0 in
        let held = it.1 in
        let cost = cost_of one held in
        subst (λ n. IsPartlyPriced (reprice_step period terms n now)) it.2
        (elim (names (name_of naming one)) as (λ b. names (name_of naming one) ≡ b
        → IsPartlyPriced (reprice_step period terms (name_of naming one) now)) [
          | true ↦ λ priced.
              let costs : to.price one ≡ Some cost.0 =
              sym (ap (λ (its : StatusAt). its.price) (said one held
              ∙ ap (λ b. cond b (status_at to one) (status_at from one)) priced))
              ∙ cost.1 in (
                names,
                stays one held cost.0 cost.1 (λ late.
                    same_Some cost.0 (price_by terms one)
                    (sym costs ∙ new_price book text terms done one late)),
              )
          | false ↦ λ fresh. (
            (λ n. is n (name_of naming one) || names n),
            one_step naming book sound from to begins ends closed (reprice_step period terms)
                (step_is naming book sound framed text terms done) names one held fresh,
          )
        ] refl)

    -- Where all that are dated from its first day on have their prices by it, all is done.
    all_priced : ((name : List ℕ) (found_row : RecordRow) → get now.records name ≡ Some found_row
        → int_lt found_row.priced.day terms.effective ≡ false → HasPrice terms found_row)
        → now ≡ walk (reprice_step period terms) (keys (tables_of naming book).records)
        (tables_of naming book)
    all_priced priced =
        tables-alike naming book sound (partly names) to
        (among naming book sound from to begins ends closed names) ends.charged
        (λ q held. said q held
        ∙ elim (names (name_of naming q)) as (λ b. names (name_of naming q) ≡ b
        → cond b (status_at to q) (status_at from q) ≡ status_at to q) [
          | true ↦ λ its_own. refl
          | false ↦ λ fresh. λ i. record (status_at from q) { price = same q held fresh i }
        ] refl)
        ∙ sym (walked naming book sound framed text terms done)
      where
        same : (q : List ℕ) → has book.held q ≡ true → names (name_of naming q) ≡ false
            → from.price q ≡ to.price q
        same q held fresh =
            let cost = cost_of q held in
            let was_cost : from.price q ≡ Some cost.0 =
            sym (ap (λ (its : StatusAt). its.price) (said q held
            ∙ ap (λ b. cond b (status_at to q) (status_at from q)) fresh))
            ∙ cost.1 in
            elim (int_lt (day_of q) terms.effective) as (λ b. int_lt (day_of q) terms.effective ≡ b
            → from.price q ≡ to.price q) [
              | true ↦ λ early. sym (price_in-behind book.rulings (Some text) terms q early)
              | false ↦ λ late.
                  let own = row_for book q (status_at (partly names) q) cost.0 in
                  let stands = priced (name_of naming q) own (found q held cost.0 cost.1)
                  (ap (λ d. int_lt d terms.effective) (day q held cost.0 cost.1) ∙ late) in
                  was_cost
                  ∙ ap (λ c. Some c) (price_stands q held cost.0 own refl stands)
                  ∙ sym (new_price book text terms done q late)
            ] refl

  -- a step where the price stands changes nothing
  pub step_stands : (now : Tables) → IsPartlyPriced now → (name : List ℕ) (row : RecordRow)
      → get now.records name ≡ Some row → HasPrice terms row
      → reprice_step (open_number book) terms name now ≡ now
  step_stands _ so name row =
      subst (λ (tables : Tables). get tables.records name ≡ Some row → HasPrice terms row
      → reprice_step (open_number book) terms name tables ≡ tables) (sym so.1)
      (nothing_new so.0 name row)

  -- any step leads to such tables
  pub step_partly : (now : Tables) → IsPartlyPriced now → (name : List ℕ) (row : RecordRow)
      → get now.records name ≡ Some row
      → IsPartlyPriced (reprice_step (open_number book) terms name now)
  step_partly _ so name row =
      subst (λ (tables : Tables). get tables.records name ≡ Some row
      → IsPartlyPriced (reprice_step (open_number book) terms name tables)) (sym so.1)
      (one_more so.0 name row)

  -- where all that are dated from the first day on have their prices, the walk is done
  pub partly_all : (now : Tables) → IsPartlyPriced now
      → ((name : List ℕ) (row : RecordRow) → get now.records name ≡ Some row
      → int_lt row.priced.day terms.effective ≡ false → HasPrice terms row)
      → now ≡ walk (reprice_step (open_number book) terms) (keys (tables_of naming book).records)
      (tables_of naming book)
  partly_all _ so =
      subst (λ (tables : Tables). ((name : List ℕ) (row : RecordRow)
      → get tables.records name ≡ Some row → int_lt row.priced.day terms.effective ≡ false
      → HasPrice terms row)
      → tables ≡ walk (reprice_step (open_number book) terms)
      (keys (tables_of naming book).records) (tables_of naming book)) (sym so.1)
      (all_priced so.0)
