-- A walk over the records that a later tariff may be for: the next one, and those that are still to
-- come after it.
use Rattle.std.proofs.Common.{◌≡◌, ◌∙◌, ◌&&◌, ◌||◌, ℕ, Bool, true, false, true≢false, not}
use Rattle.std.proofs.Common.{List, Option, Some, None, refl, sym, ap, subst}
use Rattle.std.specs.Prelude.{ℤ}
use Rattle.std.specs.FinMap.{contains_key, get}
use Rattle.std.specs.Cmp.{IsTotalOrder, on_total, then_total}
use Rattle.std.specs.Option.{option_map, option_map_or}
use Rattle.std.specs.Ordering.{int_cmp, is_eq, is_gt, is_lt, nat_cmp, ordering_reverse, ordering_then}
use Rattle.std.specs.declared.cmp.Ordering.{Ordering}
use Rattle.std.specs.declared.cmp.Ordering.TheVariants.{Less, Equal, Greater}
use Rattle.std.proofs.lemmas.Cmp.{int_cmp_total, nat_list_cmp_total, tied_back, tied_itself, upto}
use Rattle.book_model.specs.Words.{by_bytes, by_detail, by_key, key_of, same_bytes}
use Rattle.book_model.specs.declared.detail.Detail.{Detail}
use Rattle.book_model.proofs.DetailOrder.{by_detail_total}
use Rattle.book_model.proofs.RecordSets.{first_of, not_true, second_of}
use Rattle.book_model.proofs.SetLemmas.{same_bytes-by_cmp}
use Rattle.table_model.specs.DetailsRead.{detail_shown}
use Rattle.table_model.specs.Tables.{RecordRow, Tables}
use Rattle.tree_rows.proofs.IndexOrders.{second_equal}
use Rattle.tree_rows.proofs.Maps.{not_none}
use Rattle.tree_rows.proofs.Remaining.{is_less}
use Rattle.tree_rows.proofs.Taking.{some_is}
use Rattle.table_model.specs.DisputesRead.{by_identity}
use Rattle.tree_tables.specs.Answers.{FindsRecord, is_uncharged}
use Rattle.tree_tables.specs.Details.{FindsDetail, is_reached}
use Rattle.tree_tables.specs.LateRecords.{FindsCounted, FindsLate, FindsUnchargedLeft}
use Rattle.tree_tables.specs.LateRecords.{IsNextCounted, IsNextUncharged, comes_next}
use Rattle.tree_tables.specs.LateRecords.{is_counted_from, is_left, is_uncharged_left, start_after}
use Rattle.tree_tables.specs.Stored.{stored_entry}
use Rattle.tree_tables.specs.declared.detail_rows.DetailStart.{DetailStart}
use Rattle.tree_tables.specs.declared.detail_rows.DetailStart.TheVariants.{After, Day}
use Rattle.tree_tables.specs.declared.late_records.LateRecord.{LateRecord}
use Rattle.tree_tables.specs.declared.stored_record.StoredRecord.{StoredRecord}
use Rattle.tree_tables.proofs.FoundNames.{Entry}

-- ---- orders

-- what passes no second test passes no two
none_of : (b c : Bool) → c ≡ false → (b && c) ≡ false
none_of true c none = none
none_of false c none = refl

-- Where this is the least of those that pass, and what is above it passes, another passes where it is
-- above.
passes_above : {X : Type 0} (R : X → X → Ordering) → IsTotalOrder R → (passes : Bool)
    (found other : X) → (passes ≡ true → is_lt (R other found) ≡ false)
    → (R found other ≡ Less → passes ≡ true) → (R found other ≡ Equal → ⊥)
    → passes ≡ is_lt (R found other)
passes_above R total passes found other least above apart =
    elim (R found other) as (λ o. R found other ≡ o → passes ≡ is_lt o) [
      | Less ↦ λ o. above o
      | Equal ↦ λ o. absurd (apart o)
      | Greater ↦ λ o.
          let below : is_lt (R other found) ≡ true =
          ap is_lt (total.antisymm other found ∙ ap ordering_reverse o) in
          elim passes as (λ b. passes ≡ b → b ≡ false) [
            | true ↦ λ is. sym below ∙ least is
            | false ↦ λ is. refl
          ] refl
    ] refl

-- different names have different places
names_apart : (name other : List ℕ) → same_bytes other name ≡ false
    → by_bytes name other ≡ Equal → ⊥
names_apart name other apart tie =
    let same : same_bytes other name ≡ true =
    ap (λ (same : List ℕ → List ℕ → Bool). same other name) same_bytes-by_cmp
    ∙ ap is_eq (tied_back nat_list_cmp_total name other tie) in
    true≢false (sym same ∙ apart)

-- ---- the records that are not charged

-- the order by identity and name is total
identity_total : IsTotalOrder by_identity
identity_total =
    then_total (on_total (λ (e : Entry). e.1.identity) nat_list_cmp_total)
    (on_total (λ (e : Entry). e.0) nat_list_cmp_total)

-- what comes after one that comes next comes next
comes_later : (last : Option LateRecord) (found other : Entry) → by_identity found other ≡ Less
    → comes_next last found ≡ true → comes_next last other ≡ true
comes_later None found other below comes = refl
comes_later (Some late) found other below comes =
    ap is_lt (identity_total.trans (stored_entry late.stored) found other
    (is_less (by_identity (stored_entry late.stored) found) comes) below)

-- the others that are still to come are after the next one
uncharged_above : (last : Option LateRecord) (tables : Tables) (late : LateRecord)
    → IsNextUncharged last tables (stored_entry late.stored) → (other : Entry)
    → get tables.records other.0 ≡ Some other.1 → same_bytes other.0 late.stored.name ≡ false
    → is_uncharged_left last other ≡ is_uncharged_left (Some late) other
uncharged_above last tables late next other there apart =
    let found : Entry = stored_entry late.stored in
    elim other.1.charged as (λ b. other.1.charged ≡ b
    → (not b && comes_next last other) ≡ (not b && is_lt (by_identity found other))) [
      | true ↦ λ charged. refl
      | false ↦ λ uncharged.
          passes_above by_identity identity_total (comes_next last other) found other
          (λ comes. next.least other there
          (ap (λ b. not b && comes_next last other) uncharged ∙ comes))
          (λ below. comes_later last found other below
          (second_of (is_uncharged found) (comes_next last found) next.comes))
          (λ tie. names_apart found.0 other.0 apart
          (second_equal (by_bytes found.1.identity other.1.identity) (by_bytes found.0 other.0) tie))
    ] refl

-- ---- the records that are counted

module _ (tables : Tables) (start : DetailStart) where
  module _ (detail : Detail) (next : FindsDetail start tables (Some detail)) where
    -- the record of the next detail is the next one
    pub counted_some : (stored : StoredRecord) → FindsRecord detail.name tables (Some stored)
        → FindsCounted start tables (Some (record { stored = stored; detail = Some detail }))
    counted_some stored found =
        let own : stored_entry stored ≡ (detail.name, next.there.row) =
        some_is (stored_entry stored) (detail.name, next.there.row)
        (found ∙ ap (option_map (λ (row : RecordRow). (detail.name, row))) next.there.held) in
        let shown : detail_shown (stored_entry stored) ≡ detail =
        ap detail_shown own ∙ next.there.shown in
        record {
          there = subst (λ (e : Entry). get tables.records e.0 ≡ Some e.1) (sym own)
              next.there.held;
          detail = ap (λ d. Some d) (sym shown);
          comes = λ i. (ap (λ (e : Entry). contains_key tables.counted e.0) own
              ∙ next.there.counted) i && (ap (is_reached start) shown ∙ next.passes) i;
          least = λ other there left.
              ap (λ d. is_lt (by_detail (detail_shown other) d)) shown
              ∙ next.least (detail_shown other)
              (record {
                row = other.1;
                held = there;
                counted = first_of (contains_key tables.counted other.0)
                    (is_reached start (detail_shown other)) left;
                shown = refl;
              })
              (second_of (contains_key tables.counted other.0)
              (is_reached start (detail_shown other)) left);
        }

-- after a detail from the start on come such details
abbrev Rises : DetailStart → Type 0
Rises start =
    (one other : Detail) → by_detail one other ≡ Less → is_reached start one ≡ true
    → is_reached start other ≡ true

after_rises : (last : Detail) → Rises (After last)
after_rises last one other below reached =
    ap is_lt (by_detail_total.trans last one other (is_less (by_detail last one) reached) below)

-- one of two comparisons says Less where the other says Greater
turned : (order : Ordering) → is_lt (ordering_reverse order) ≡ is_gt order
turned Less = refl
turned Equal = refl
turned Greater = refl

less_is : (a b : ℤ) → is_lt (int_cmp a b) ≡ is_gt (int_cmp b a)
less_is a b = ap is_lt (int_cmp_total.antisymm a b) ∙ turned (int_cmp b a)

-- where two comparisons together do not say Greater, the first does not
first_upto : (a b : Ordering) → is_gt (ordering_then a b) ≡ false → is_gt a ≡ false
first_upto Less b most = refl
first_upto Equal b most = refl
first_upto Greater b most = most

day_rises : (day : ℤ) → Rises (Day day)
day_rises day one other below reached =
    let place = by_key (key_of one.priced) (key_of other.priced) in
    let rest = ordering_then (nat_cmp one.time other.time) (by_bytes one.name other.name) in
    let within = ordering_then (by_bytes one.priced.centre other.priced.centre)
    (by_bytes one.priced.shift other.priced.shift) in
    let later : is_gt (int_cmp one.priced.day other.priced.day) ≡ false =
    first_upto (int_cmp one.priced.day other.priced.day) within
    (first_upto place rest (ap is_gt below)) in
    let from : is_gt (int_cmp day one.priced.day) ≡ false =
    sym (less_is one.priced.day day) ∙ not_true (is_lt (int_cmp one.priced.day day)) reached in
    ap not (less_is other.priced.day day
    ∙ upto int_cmp_total day one.priced.day other.priced.day from later)

-- the others that are still to come are after the next one
counted_above : (start : DetailStart) → Rises start → (tables : Tables) (late : LateRecord)
    → IsNextCounted start tables late → (other : Entry)
    → get tables.records other.0 ≡ Some other.1 → same_bytes other.0 late.stored.name ≡ false
    → is_counted_from start tables other
    ≡ is_counted_from (After (detail_shown (stored_entry late.stored))) tables other
counted_above start rises tables late next other there apart =
    let found : Detail = detail_shown (stored_entry late.stored) in
    let shown : Detail = detail_shown other in
    let rest = ordering_then (nat_cmp found.time shown.time) (by_bytes found.name shown.name) in
    elim (contains_key tables.counted other.0) as (λ b. contains_key tables.counted other.0 ≡ b
    → (b && is_reached start shown) ≡ (b && is_lt (by_detail found shown))) [
      | true ↦ λ counted.
          passes_above by_detail by_detail_total (is_reached start shown) found shown
          (λ reached. next.least other there (λ i. counted i && reached i))
          (λ below. rises found shown below
          (second_of (contains_key tables.counted late.stored.name) (is_reached start found)
          next.comes))
          (λ tie. names_apart late.stored.name other.0 apart
          (second_equal (nat_cmp found.time shown.time) (by_bytes found.name shown.name)
          (second_equal (by_key (key_of found.priced) (key_of shown.priced)) rest tie)))
      | false ↦ λ counted. refl
    ] refl

-- ---- the walk

module _ (first : ℤ) (last : Option LateRecord) (tables : Tables) where
  -- what is still to come, where the walk goes on at a start of details, or at a mark
  abbrev left_by : Option DetailStart → Entry → Bool
  left_by start e =
      option_map_or (λ start. is_counted_from start tables e) start
      (is_uncharged_left last e || is_counted_from (Day first) tables e)

  -- the next record of the walk is that of the next detail, where only details are left
  by_detail_found : (start : DetailStart) → Rises start
      → ((e : Entry) → get tables.records e.0 ≡ Some e.1
      → is_left first last tables e ≡ is_counted_from start tables e)
      → (found : Option LateRecord) → FindsCounted start tables found
      → FindsLate first last tables found
  by_detail_found start rises left None none = λ e there. left e there ∙ none e there
  by_detail_found start rises left (Some late) next =
      let own : Entry = stored_entry late.stored in
      let shown : Detail = detail_shown own in
      let after = λ (e : Entry).
      ap (λ place. option_map_or (λ start. is_counted_from start tables e) place
      (is_uncharged_left (Some late) e || is_counted_from (Day first) tables e))
      (ap (option_map (λ (detail : Detail). After detail)) next.detail) in
      record {
        there = next.there;
        comes = left own next.there ∙ next.comes;
        passed = λ once.
            after own ∙ none_of (contains_key tables.counted own.0) (is_lt (by_detail shown shown))
            (ap is_lt (tied_itself by_detail_total shown));
        others = λ other there apart.
            left other there ∙ counted_above start rises tables late next other there apart
            ∙ sym (after other);
      }

  -- so it is where the walk has come to a detail
  pub among_details : (start : DetailStart) → start_after last ≡ Some start
      → (found : Option LateRecord) → FindsCounted start tables found
      → FindsLate first last tables found
  among_details start is =
      by_detail_found start (rises last is) (λ e there. ap (λ place. left_by place e) is)
    where
      by_place : (place : Option Detail)
          → option_map (λ (detail : Detail). After detail) place ≡ Some start → Rises start
      by_place None none = absurd (not_none start (sym none))
      by_place (Some detail) some =
          subst Rises (some_is (After detail) start some) (after_rises detail)

      rises : (last : Option LateRecord) → start_after last ≡ Some start → Rises start
      rises None none = absurd (not_none start (sym none))
      rises (Some late) some = by_place late.detail some

  module _ (marks : start_after last ≡ None) where
    -- else it is the next one that is not charged
    pub next_by_mark : (stored : StoredRecord) → FindsUnchargedLeft last tables (Some stored)
        → FindsLate first last tables (Some (record { stored = stored; detail = None }))
    next_by_mark stored next =
        let late : LateRecord = record { stored = stored; detail = None } in
        let own : Entry = stored_entry stored in
        let counted = λ (e : Entry). is_counted_from (Day first) tables e in
        let left = λ (e : Entry). ap (λ place. left_by place e) marks in
        record {
          there = next.there;
          comes = left own ∙ ap (λ b. b || counted own) next.comes;
          passed = λ once. λ i.
              none_of (is_uncharged own) (is_lt (by_identity own own))
              (ap is_lt (tied_itself identity_total own)) i
              || (sym (ap (λ b. b && counted own)
              (first_of (is_uncharged own) (comes_next last own) next.comes)) ∙ once) i;
          others = λ other there apart.
              left other
              ∙ ap (λ b. b || counted other)
              (uncharged_above last tables late next other there apart);
        }

    -- or where none is left, that of the first detail
    pub past_marks : FindsUnchargedLeft last tables None → (found : Option LateRecord)
        → FindsCounted (Day first) tables found → FindsLate first last tables found
    past_marks none =
        by_detail_found (Day first) (day_rises first) (λ e there.
        ap (λ place. left_by place e) marks
        ∙ ap (λ b. b || is_counted_from (Day first) tables e) (none e there))
