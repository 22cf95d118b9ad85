-- One record that is held becomes charged, or is no longer charged: as the table of effects says.
use Rattle.std.proofs.Common.{◌≡◌, ℕ, List, refl, sym, ap, ◌∙◌, true, false, Bool, cond, not, ◌&&◌}
use Rattle.std.proofs.Common.{◌||◌, Option, Some, None, ℤ, IsSome, if◌then◌else◌}
use Rattle.book_model.proofs.Std.{get, insert}
use Rattle.book_model.specs.Words.{Book, open_number, Records, Naming, name_of, last_close}
use Rattle.book_model.specs.Words.{price_in, identity_by, has, with, IsSound, AreAmong, Rulings}
use Rattle.book_model.specs.Words.{Priced, is_after}
use Rattle.book_model.proofs.Lemmas.{is, has_with, has_those, in_those, is_itself, not_true, one_or}
use Rattle.book_model.proofs.Lemmas.{second_of, except}
use Rattle.book_model.proofs.SetChanges.{has-except}
use Rattle.book_core.specs.declared.effects.DayChange.TheVariants.{Add, Take}
use Rattle.book_core.specs.declared.effects.LineChange.TheVariants.{AddPlus, DropPlus, AddMinus}
use Rattle.book_core.specs.declared.effects.LineChange.TheVariants.{DropMinus}
use Rattle.book_core.specs.declared.effects.Member.{Member}
use Rattle.book_core.specs.Words.{charge_held, withdraw, charges, unmarks}
use Rattle.table_model.proofs.RestatedRows.{line_by, restate, set_counted, set_line}
use Rattle.table_model.specs.Words.{add_price, take_price, apply, charge_due_step, charge_in}
use Rattle.table_model.specs.Words.{reprice, DayTable, RecordRow, Tables, RecordStatus, tables_at}
use Rattle.table_model.specs.Words.{status_by, member_at}
use Rattle.table_model.proofs.CostLemmas.{day-price}
use Rattle.table_model.proofs.Restated.{IsStatus, restated, row_for, row-found, status_at}

module _ (period : ℕ) (last : Option ℤ) (name : List ℕ) (row : RecordRow) (tables : Tables)
    (there : get tables.records name ≡ Some row) where
  -- the row, by whether the record is charged
  abbrev marked : Bool → RecordRow
  marked mark = record row { charged = mark }

  -- what restates it, by tests: whether it is posted; whether it was dated after the last close and
  -- charged, and whether it is
  abbrev made : RecordRow → Bool → Bool → Bool → Bool → Bool → Tables
  made now posted first was after mark =
      let left : DayTable =
      cond (not posted && (first && was)) (take_price period row.priced tables.days) tables.days in
      record tables {
        records = insert tables.records name now;
        days = cond (not posted && (after && mark)) (add_price period now.priced left) left;
        lines = set_line (period, name) (line_by posted after mark) (line_by posted first was)
            tables.lines;
        counted = set_counted name (not posted && (after && mark)) (not posted && (first && was))
            tables.counted;
      }

  -- a record that was not charged is charged so
  pub charge-is : row.charged ≡ false
      → charge_in period name (charge_held last (member_at (name, row))) tables
      ≡ restate period last name row (marked true) tables
  charge-is was = by_tests row.posted (is_after last row.priced.day)
    where
      by_tests : (posted after : Bool)
          → charge_in period name (if posted then charges None (Some (DropMinus name))
          else if after then charges (Some (Add row.priced)) None
          else charges None (Some (AddPlus name))) tables
          ≡ made (marked true) posted after row.charged after true
      by_tests true after = rw (there, was)
      by_tests false true = rw (there, was)
      by_tests false false = rw there

  -- so the walk that charges records restates one that is due, if it was not charged
  pub due-is : (is_due : List ℕ → Bool)
      → charge_due_step period last is_due name tables
      ≡ (if is_due name && not row.charged then restate period last name row (marked true) tables
      else tables)
  due-is is_due =
      rw there (elim (is_due name && not row.charged) as (λ b. (is_due name && not row.charged) ≡ b
      → (if b then charge_in period name (charge_held last (member_at (name, row))) tables
      else tables)
      ≡ (if b then restate period last name row (marked true) tables else tables)) [
        | true ↦ λ due. charge-is (not_true row.charged
            (second_of (is_due name) (not row.charged) due))
        | false ↦ λ rest. refl
      ] refl)

  -- one that was charged is withdrawn so
  pub withdraw-is : row.charged ≡ true
      → apply period (withdraw last (member_at (name, row))) tables
      ≡ restate period last name row (marked false) tables
  withdraw-is was = by_tests row.posted (is_after last row.priced.day)
    where
      by_tests : (posted after : Bool)
          → apply period (if posted then unmarks name None (Some (AddMinus name))
          else if after then unmarks name (Some (Take row.priced)) None
          else unmarks name None (Some (DropPlus name))) tables
          ≡ made (marked false) posted after row.charged after false
      by_tests true after = rw there
      by_tests false true = rw (there, was)
      by_tests false false = rw (there, was)

  -- one that is dated after the last close gets another price so
  pub reprice-is : (now : Priced) → row.posted ≡ false
      → is_after last row.priced.day ≡ true → is_after last now.day ≡ true
      → reprice period name row now tables
      ≡ restate period last name row (record row { priced = now }) tables
  reprice-is now fresh first after =
      by_mark row.charged
      ∙ (λ i. made (record row { priced = now }) (sym fresh i) (sym first i) row.charged
      (sym after i) row.charged)
    where
      by_mark : (charged : Bool) → ◌≡◌ {A = Tables} (record tables {
        records = insert tables.records name (record row { priced = now });
        days = if charged then add_price period now (take_price period row.priced tables.days)
            else tables.days;
      }) (made (record row { priced = now }) false true charged true charged)
      by_mark true = refl
      by_mark false = refl

-- records that have prices by some rulings have a status, by what is charged
pub is_status : (book : Book) (ruled : Rulings) (charged : Records) → AreAmong charged book.held
    → ((q : List ℕ) → has book.held q ≡ true → IsSome (price_in ruled q))
    → IsStatus book (status_by ruled charged)
is_status book ruled charged within priced = record {
  charged = within;
  priced = priced;
  dated = λ q cost costs. day-price ruled q cost costs;
}

module _ (naming : Naming) (book : Book) (sound : IsSound naming book) where
  -- the last close's day
  abbrev last : Option ℤ
  last = last_close book.rulings

  -- the status of the records by the rulings, and the tables
  abbrev stand : Records → RecordStatus
  stand = status_by book.rulings

  abbrev tables : Records → Tables
  tables charged = tables_at naming book (stand charged)

  pub status-is : (charged : Records) → AreAmong charged book.held → IsStatus book (stand charged)
  status-is charged within = is_status book book.rulings charged within sound.priced

  module _ (charged : Records) (within : AreAmong charged book.held) (one : List ℕ)
      (there : has book.held one ≡ true) (cost : Priced)
      (costs : price_in book.rulings one ≡ Some cost) where
    -- its name, its row, and it as a member
    abbrev name : List ℕ
    name = name_of naming one

    abbrev row : RecordRow
    row = row_for book one (status_at (stand charged) one) cost

    abbrev member : Bool → Member
    member mark =
        record { name = name; priced = cost; charged = mark; posted = has book.posted one }

    found : get (tables charged).records name ≡ Some row
    found = row-found naming book sound (price_in book.rulings) (identity_by book.rulings) charged one
        there cost costs

    -- where it alone has another mark
    marked-as : (now : Records) → AreAmong now book.held → (mark : Bool) → has now one ≡ mark
        → ((q : List ℕ) → is q one ≡ false → has now q ≡ has charged q)
        → tables now
        ≡ restate (open_number book) last name row (record row { charged = mark }) (tables charged)
    marked-as now held mark is others =
        restated naming book sound (stand charged) (stand now) (status-is charged within)
        (status-is now held) one there
        (λ q in_it apart i. record (status_at (stand charged) q) { charged = sym (others q apart) i })
        (λ late. refl) cost cost costs costs
        ∙ (λ i. restate (open_number book) last name row (record row { charged = is i })
        (tables charged))

    -- a record that was not charged becomes charged
    pub charge-step : has charged one ≡ false → (mark : Bool)
        → tables (with charged one)
        ≡ charge_in (open_number book) name (charge_held last (member mark)) (tables charged)
    charge-step new mark =
        marked-as (with charged one)
        (λ q on. one_or charged one q on (λ same. ap (has book.held) same ∙ there) (within q))
        true (has_with charged one one ∙ ap (λ t. t || has charged one) (is_itself one))
        (λ q apart. has_with charged one q ∙ ap (λ t. t || has charged q) apart)
        ∙ sym (charge-is (open_number book) last name row (tables charged) found new)

    -- one that was charged is no longer charged
    pub withdraw-step : has charged one ≡ true → (mark : Bool)
        → tables (except one charged)
        ≡ apply (open_number book) (withdraw last (member mark)) (tables charged)
    withdraw-step was mark =
        marked-as (except one charged)
        (λ q on. within q (in_those (λ b. not (is b one)) charged q on))
        false (has-except charged one)
        (λ q apart. has_those (λ b. not (is b one)) charged q
        ∙ ap (λ t. not t && has charged q) apart)
        ∙ sym (withdraw-is (open_number book) last name row (tables charged) found was)
