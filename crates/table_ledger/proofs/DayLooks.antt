-- Charge rows that are looked for and then written; and a price in the place of another in one row.
use Rattle.std.proofs.Common.{◌≡◌, ◌∙◌, ℕ, Bool, true, false, Option, Some, None, refl, sym, ap}
use Rattle.std.proofs.Common.{cond, Result, Ok, if◌then◌else◌, ◌==◌, unwrap_or, [], Ordering}
use Rattle.book_model.proofs.Std.{option_map_or, IsTotalOrder, FinMap, IsAntisymmetric, get}
use Rattle.book_model.proofs.Std.{get-insert, get-remove, insert, remove, same_map, eq_by_cmp}
use Rattle.book_model.proofs.Std.{eq_by_cmp_equiv}
use Rattle.book_model.specs.Words.{Priced, by_key, key_of, row_at}
use Rattle.book_model.proofs.Lemmas.{by_tie, get-inserted, insert-insert, by_key_total}
use Rattle.book_model.proofs.Lemmas.{by_key_exact}
use Rattle.book_core.specs.declared.effects.DayChange.TheVariants.{Add, Take}
use Rattle.book_core.specs.Words.{with_price}
use Rattle.table_model.specs.Words.{less_price, take_at, add_price, put_day_row, DayTable, Tables}
use Rattle.table_model.specs.Words.{row_key}
use Rattle.table_model.specs.Steps.{change_day_row}
use Rattle.table_model.proofs.NumberedLemmas.{by_period_total, by_period_exact}
use Rattle.tree_tables.specs.Answers.{FindsDay}
use Rattle.tree_tables.specs.Holds.{AreUnderOwnKeys}
use Rattle.table_ledger.proofs.Words.{StoreError, ChargeRow, RowKey, State, Always, Does, Looks}
use Rattle.table_ledger.proofs.Words.{Saw}
use Rattle.table_ledger.proofs.StageLemmas.{does_seen}
use Rattle.table_ledger.proofs.StepLemmas.{does_so}

-- A look at the place of a price, and then a step that is the change where this was found. Each
-- charge row is under its own place.
pub day_stepped : {T : Type 0} {old middle new : State} {place : RowKey} {found : Option ChargeRow}
    {When : Tables → Type 0} {step change : Tables → Tables} (period : ℕ) (priced : Priced)
    (result : Result T StoreError) → place ≡ key_of priced
    → Looks (Ok found) old middle (FindsDay period place) → Does result middle new When step
    → ((tables : Tables) → AreUnderOwnKeys tables.days
    → get tables.days (period, key_of priced) ≡ found
    → When tables × (change tables ≡ step tables))
    → Does result old new Always change
day_stepped {old = old} {middle = middle} {found = found} period priced result at looks does so =
    let saw : Saw old middle (λ tables. AreUnderOwnKeys tables.days
    × (get tables.days (period, key_of priced) ≡ found)) = record {
      survives = looks.survives;
      seen = λ clean.
          let seen = looks.found clean in
          record {
            same = seen.same;
            known = λ tables holds. (
              holds.placed,
              sym (seen.known tables holds ∙ ap (λ place. get tables.days (period, place)) at),
            );
          };
    } in
    does_seen result saw
    (does_so result does (λ tables known.
    let steps = so tables known.1.0 known.1.1 in
    (steps.0, sym steps.1)))

module _ {K V : Type 0} {R : K → K → Ordering} (o : IsTotalOrder R) (exact : IsAntisymmetric R) where
  -- what was removed is gone
  get-removed : (m : FinMap R V) (k : K) → get (remove m k) k ≡ None
  get-removed m k =
      get-remove o m k k ∙ ap (λ b. cond b None (get m k)) ((eq_by_cmp_equiv o).refl k)

  -- what is put in its place might as well have been put over it
  insert-remove : (m : FinMap R V) (k : K) (v : V) → insert (remove m k) k v ≡ insert m k v
  insert-remove m k v =
      same_map o exact (insert (remove m k) k v) (insert m k v) (λ q.
      get-insert o (remove m k) k v q
      ∙ ap (cond (eq_by_cmp R q k) (Some v)) (get-remove o m k q)
      ∙ by_tie o exact q k (λ b. cond b (Some v) (cond b None (get m q)))
      (λ b. cond b (Some v) (get m q))
      (λ same. refl) (λ apart. refl)
      ∙ sym (get-insert o m k v q))

-- One price leaves the row of its place, and another one joins it.
module _ (period : ℕ) (old new : Priced) (one_place : key_of old ≡ key_of new) (tables : Tables)
    (placed : AreUnderOwnKeys tables.days) where
  abbrev spot : ℕ × RowKey
  spot = (period, key_of old)

  -- what the old price leaves, by whether it is the last
  abbrev left : Bool → ChargeRow → ChargeRow
  left last row = if last then row_at [] (key_of old) else less_price row old

  -- and by the row that was found
  abbrev rest : Option ChargeRow → ChargeRow
  rest found = option_map_or (λ row. left (row.count == 1) row) found (row_at [] (key_of old))

  -- the new one joins what is there then, and is put over what was there before
  joined : (days : DayTable) (there : Option ChargeRow) → get days spot ≡ there
      → ((row : ChargeRow) → insert days spot row ≡ insert tables.days spot row)
      → add_price period new days
      ≡ insert tables.days spot (with_price (unwrap_or there (row_at [] (key_of old))) new)
  joined days there is over =
      (λ i. insert days (period, sym one_place i) (with_price (unwrap_or
      (get days (period, sym one_place i)) (row_at [] (sym one_place i))) new))
      ∙ ap (λ found. insert days spot (with_price (unwrap_or found (row_at [] (key_of old))) new)) is
      ∙ over (with_price (unwrap_or there (row_at [] (key_of old))) new)

  joined_left : (row : ChargeRow) (last : Bool)
      → add_price period new (if last then remove tables.days spot
      else insert tables.days spot (less_price row old))
      ≡ insert tables.days spot (with_price (left last row) new)
  joined_left row true =
      let total = by_period_total by_key by_key_total in
      let exact = by_period_exact by_key by_key_exact in
      joined (remove tables.days spot) None (get-removed total exact tables.days spot)
      (insert-remove total exact tables.days spot)
  joined_left row false =
      let total = by_period_total by_key by_key_total in
      let exact = by_period_exact by_key by_key_exact in
      let less = less_price row old in
      joined (insert tables.days spot less) (Some less) (get-inserted total exact tables.days spot less)
      (insert-insert total exact tables.days spot less)

  -- that row is under its own place
  left_placed : (row : ChargeRow) (last : Bool) → row_key row ≡ key_of old
      → row_key (left last row) ≡ key_of old
  left_placed row true at = refl
  left_placed row false at = at

  pub rest_placed : (found : Option ChargeRow) → get tables.days spot ≡ found
      → row_key (rest found) ≡ key_of old
  rest_placed None is = refl
  rest_placed (Some row) is = left_placed row (row.count == 1) (placed spot row is)

  pub replaced : (found : Option ChargeRow) → get tables.days spot ≡ found
      → change_day_row period (Some (Add new)) (change_day_row period (Some (Take old)) tables)
      ≡ put_day_row period (with_price (rest found) new) tables
  replaced None is =
      ap (λ (days : DayTable). record tables { days = days })
      (ap (λ found. add_price period new (take_at spot found old tables.days)) is
      ∙ joined tables.days None is (λ row. refl))
  replaced (Some row) is =
      ap (λ (days : DayTable). record tables { days = days })
      (ap (λ found. add_price period new (take_at spot found old tables.days)) is
      ∙ joined_left row (row.count == 1)
      ∙ ap (λ place. insert tables.days (period, place) (with_price (rest (Some row)) new))
      (sym (left_placed row (row.count == 1) (placed spot row is))))
