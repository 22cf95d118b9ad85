-- The rows of the records that are counted, and the details of them: where a name joins those that
-- are counted or leaves them, and where a record's row is new or changed.
use Rattle.std.proofs.Common.{◌≡◌, ◌∙◌, ℕ, List, Bool, true, false, cond, Option, Some, None}
use Rattle.std.proofs.Common.{is_some, refl, sym, ap}
use Rattle.std.specs.Cmp.Lexicographic.{nat_list_cmp_total}
use Rattle.std.specs.FinMap.{contains_key, get, insert, remove, same_map}
use Rattle.std.specs.FinMap.{get-insert, get-remove, get-retain_keys}
use Rattle.std.specs.Option.{option_map}
use Rattle.std.specs.Ordering.{eq_by_cmp}
use Rattle.book_model.proofs.MapLemmas.{by_tie}
use Rattle.book_model.specs.declared.detail.Detail.{Detail}
use Rattle.table_model.specs.Tables.{CountedTable, RecordRow, RecordTable}
use Rattle.tree_rows.specs.Changes.{updated}
use Rattle.tree_rows.specs.Indexes.{IsIndexKey, by_bytes, index_of}
use Rattle.tree_rows.proofs.IndexOrders.{by_bytes_exact}
use Rattle.tree_rows.proofs.Indexes.{index_alike, index_has, index_new, index_put, index_taken}
use Rattle.tree_rows.proofs.Maps.{not_none}
use Rattle.tree_rows.proofs.Updating.{get_updated}
use Rattle.table_model.specs.DetailsRead.{detail_shown}
use Rattle.tree_tables.specs.Holds.{by_shown, counted_among, detail_index}
use Rattle.tree_tables.proofs.DetailOrders.{by_shown_exact, by_shown_total}

-- a detail is an index key of a record
pub detail_named : IsIndexKey {V = RecordRow} by_bytes by_shown detail_shown (λ (q : Detail). q.name)
detail_named = record {
  named = λ e. refl;
  total = nat_list_cmp_total;
  exact = by_bytes_exact;
  index_total = by_shown_total;
  index_exact = by_shown_exact;
}

-- what details show of a record
abbrev shown : List ℕ → RecordRow → Detail
shown name row = detail_shown (name, row)

-- where nothing is there, nothing is there by any test
none_either : {A : Type 0} (b c : Bool) (found : Option A) → found ≡ None
    → cond b found None ≡ cond c found None
none_either true true found none = refl
none_either true false found none = none
none_either false true found none = sym none
none_either false false found none = refl

-- what is made of what is there by a test
made_of : {A B : Type 0} (f : A → B) (b : Bool) (one other : Option A)
    → option_map f one ≡ option_map f other
    → option_map f (cond b one None) ≡ option_map f (cond b other None)
made_of f true one other same = same
made_of f false one other same = refl

-- the row of a record is there if it is counted
pub get_counted : (counted : CountedTable) (records : RecordTable) (name : List ℕ)
    → get (counted_among counted records) name
    ≡ cond (contains_key counted name) (get records name) None
get_counted counted records name =
    get-retain_keys records (contains_key counted) name
    (λ other tie. ap (contains_key counted) (sym (by_bytes_exact name other tie)))

-- ---- the records change

-- records that details show alike have the same details
pub details_alike : (counted : CountedTable) (records others : RecordTable)
    → ((name : List ℕ) → option_map (shown name) (get records name)
    ≡ option_map (shown name) (get others name))
    → detail_index counted records ≡ detail_index counted others
details_alike counted records others same =
    index_alike detail_named (counted_among counted records) (counted_among counted others)
    (λ name. ap (option_map (shown name)) (get_counted counted records name)
    ∙ made_of (shown name) (contains_key counted name) (get records name) (get others name)
    (same name)
    ∙ sym (ap (option_map (shown name)) (get_counted counted others name)))

-- so where the row of a record shows what it showed before, the details stay
pub details_same : (counted : CountedTable) (records : RecordTable) (name : List ℕ)
    (row now : RecordRow) → get records name ≡ Some row
    → detail_shown (name, now) ≡ detail_shown (name, row)
    → detail_index counted (insert records name now) ≡ detail_index counted records
details_same counted records name row now some same =
    details_alike counted (insert records name now) records (λ other.
    ap (option_map (shown other)) (get-insert nat_list_cmp_total records name now other)
    ∙ by_tie nat_list_cmp_total by_bytes_exact other name
    (λ b. option_map (shown other) (cond b (Some now) (get records other)))
    (λ b. option_map (shown other) (get records other))
    (λ is. ap (λ one. Some (shown one now)) is ∙ ap (λ one. Some one) same
    ∙ ap (option_map (shown name)) (sym some)
    ∙ ap (λ one. option_map (shown one) (get records one)) (sym is))
    (λ apart. refl))

-- and where all rows do
pub details_stay : (counted : CountedTable) (records : RecordTable) (change : RecordRow → RecordRow)
    → ((name : List ℕ) (row : RecordRow) → detail_shown (name, change row) ≡ detail_shown (name, row))
    → detail_index counted records ≡ detail_index counted (updated change records)
details_stay counted records change stays =
    details_alike counted records (updated change records) (λ name.
    sym (ap (option_map (shown name))
    (get_updated nat_list_cmp_total by_bytes_exact change records name)
    ∙ by name (get records name)))
  where
    by : (name : List ℕ) (found : Option RecordRow)
        → option_map (shown name) (option_map change found) ≡ option_map (shown name) found
    by name None = refl
    by name (Some row) = ap (λ one. Some one) (stays name row)

-- the rows that are counted, where a record has another row: that of one that is counted is changed
pub counted_changed : (counted : CountedTable) (records : RecordTable) (name : List ℕ)
    (now : RecordRow) → contains_key counted name ≡ true
    → counted_among counted (insert records name now)
    ≡ insert (counted_among counted records) name now
counted_changed counted records name now is =
    same_map nat_list_cmp_total by_bytes_exact (counted_among counted (insert records name now))
    (insert (counted_among counted records) name now) (λ other.
    get_counted counted (insert records name now) other
    ∙ ap (λ found. cond (contains_key counted other) found None)
    (get-insert nat_list_cmp_total records name now other)
    ∙ by_tie nat_list_cmp_total by_bytes_exact other name
    (λ b. cond (contains_key counted other) (cond b (Some now) (get records other)) None)
    (λ b. cond b (Some now) (cond (contains_key counted other) (get records other) None))
    (λ same. ap (λ b. cond b (Some now) None) (ap (contains_key counted) same ∙ is))
    (λ apart. refl)
    ∙ sym (get-insert nat_list_cmp_total (counted_among counted records) name now other
    ∙ ap (cond (eq_by_cmp by_bytes other name) (Some now)) (get_counted counted records other)))

-- and where that of one that is not counted is new or changed, they stay
pub counted_stays : (counted : CountedTable) (records : RecordTable) (name : List ℕ)
    (now : RecordRow) → contains_key counted name ≡ false
    → counted_among counted (insert records name now) ≡ counted_among counted records
counted_stays counted records name now isnt =
    same_map nat_list_cmp_total by_bytes_exact (counted_among counted (insert records name now))
    (counted_among counted records) (λ other.
    get_counted counted (insert records name now) other
    ∙ ap (λ found. cond (contains_key counted other) found None)
    (get-insert nat_list_cmp_total records name now other)
    ∙ by_tie nat_list_cmp_total by_bytes_exact other name
    (λ b. cond (contains_key counted other) (cond b (Some now) (get records other)) None)
    (λ b. cond (contains_key counted other) (get records other) None)
    (λ same.
    let none : contains_key counted other ≡ false = ap (contains_key counted) same ∙ isnt in
    ap (λ b. cond b (Some now) None) none ∙ sym (ap (λ b. cond b (get records other) None) none))
    (λ apart. refl)
    ∙ sym (get_counted counted records other))

-- ---- the names change

-- a name that no record has makes no difference
pub counted_missing : (counted now : CountedTable) (records : RecordTable) (name : List ℕ)
    → get records name ≡ None
    → ((other : List ℕ) → eq_by_cmp by_bytes other name ≡ false → get now other ≡ get counted other)
    → counted_among now records ≡ counted_among counted records
counted_missing counted now records name none same =
    same_map nat_list_cmp_total by_bytes_exact (counted_among now records)
    (counted_among counted records) (λ other.
    get_counted now records other
    ∙ by_tie nat_list_cmp_total by_bytes_exact other name
    (λ b. cond (contains_key now other) (get records other) None)
    (λ b. cond (contains_key counted other) (get records other) None)
    (λ one. none_either (contains_key now other) (contains_key counted other) (get records other)
    (ap (get records) one ∙ none))
    (λ apart. ap (λ found. cond (is_some found) (get records other) None) (same other apart))
    ∙ sym (get_counted counted records other))

-- the name of a record joins, and its row with it
pub counted_joined : (counted : CountedTable) (records : RecordTable) (name : List ℕ)
    (row : RecordRow) → get records name ≡ Some row
    → counted_among (insert counted name tt) records
    ≡ insert (counted_among counted records) name row
counted_joined counted records name row some =
    same_map nat_list_cmp_total by_bytes_exact (counted_among (insert counted name tt) records)
    (insert (counted_among counted records) name row) (λ other.
    get_counted (insert counted name tt) records other
    ∙ ap (λ found. cond (is_some found) (get records other) None)
    (get-insert nat_list_cmp_total counted name tt other)
    ∙ by_tie nat_list_cmp_total by_bytes_exact other name
    (λ b. cond (is_some (cond b (Some (tt {0})) (get counted other))) (get records other) None)
    (λ b. cond b (Some row) (cond (contains_key counted other) (get records other) None))
    (λ same. ap (get records) same ∙ some)
    (λ apart. refl)
    ∙ sym (get-insert nat_list_cmp_total (counted_among counted records) name row other
    ∙ ap (cond (eq_by_cmp by_bytes other name) (Some row)) (get_counted counted records other)))

-- a name leaves, and the row with it
pub counted_left : (counted : CountedTable) (records : RecordTable) (name : List ℕ)
    → counted_among (remove counted name) records ≡ remove (counted_among counted records) name
counted_left counted records name =
    same_map nat_list_cmp_total by_bytes_exact (counted_among (remove counted name) records)
    (remove (counted_among counted records) name) (λ other.
    get_counted (remove counted name) records other
    ∙ ap (λ found. cond (is_some found) (get records other) None)
    (get-remove nat_list_cmp_total counted name other)
    ∙ by (eq_by_cmp by_bytes other name) (get counted other) (get records other)
    ∙ sym (get-remove nat_list_cmp_total (counted_among counted records) name other
    ∙ ap (cond (eq_by_cmp by_bytes other name) None) (get_counted counted records other)))
  where
    by : (b : Bool) (had : Option (Unit {0})) (found : Option RecordRow)
        → cond (is_some (cond b None had)) found None
        ≡ cond b None (cond (is_some had) found None)
    by true had found = refl
    by false had found = refl

-- The record of a name has a row, and may be counted.
module _ (counted : CountedTable) (records : RecordTable) (name : List ℕ) (row : RecordRow)
    (some : get records name ≡ Some row)
  where
    -- the row is there if it is counted
    pub row_counted : get (counted_among counted records) name
        ≡ cond (contains_key counted name) (Some row) None
    row_counted =
        get_counted counted records name
        ∙ ap (λ found. cond (contains_key counted name) found None) some

    -- where it is counted from now on, its detail is there,
    pub detail_joined : detail_index (insert counted name tt) records
        ≡ insert (detail_index counted records) (detail_shown (name, row)) tt
    detail_joined =
        ap (index_of {P = by_shown} detail_shown) (counted_joined counted records name row some)
        ∙ index_put detail_named (counted_among counted records) name row (contains_key counted name)
        row_counted

    -- and where it is counted no more, the detail is gone
    pub detail_left : detail_index (remove counted name) records
        ≡ remove (detail_index counted records) (detail_shown (name, row))
    detail_left =
        ap (index_of {P = by_shown} detail_shown) (counted_left counted records name)
        ∙ index_taken detail_named (counted_among counted records) name row
        (contains_key counted name) row_counted

    -- its detail is there where it is counted
    pub detail_there : contains_key counted name ≡ true
        → get (detail_index counted records) (detail_shown (name, row)) ≡ Some tt
    detail_there is =
        index_has detail_named (counted_among counted records) name row
        (row_counted ∙ ap (λ b. cond b (Some row) None) is)

    -- and not where it is not
    pub detail_missing : contains_key counted name ≡ false
        → get (detail_index counted records) (detail_shown (name, row)) ≡ None
    detail_missing isnt =
        (index_new detail_named (counted_among counted records) name row
        (row_counted ∙ ap (λ b. cond b (Some row) None) isnt)).0

    -- so the index tells whether it is counted
    pub counted_by_there : get (detail_index counted records) (detail_shown (name, row)) ≡ Some tt
        → contains_key counted name ≡ true
    counted_by_there there =
        elim (contains_key counted name) as (λ b. contains_key counted name ≡ b → b ≡ true) [
          | true ↦ λ is. refl
          | false ↦ λ isnt. absurd (not_none tt (sym there ∙ detail_missing isnt))
        ] refl

    pub uncounted_by_missing : get (detail_index counted records) (detail_shown (name, row)) ≡ None
        → contains_key counted name ≡ false
    uncounted_by_missing none =
        elim (contains_key counted name) as (λ b. contains_key counted name ≡ b → b ≡ false) [
          | true ↦ λ is. absurd (not_none tt (sym (detail_there is) ∙ none))
          | false ↦ λ isnt. refl
        ] refl
