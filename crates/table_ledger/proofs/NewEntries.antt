-- Writing a new record makes the tables that it is to make.
use Rattle.std.proofs.Common.{◌≡◌, ◌∙◌, ℕ, List, refl, sym, ap, false, Option, Some, None, cond, ℤ}
use Rattle.book_model.proofs.Std.{last_or, get, get-insert, insert, values, eq_by_cmp_equiv}
use Rattle.book_model.proofs.Std.{nat_list_cmp_total, exact_bytes}
use Rattle.book_model.specs.Words.{Rulings, data_of, identity_by, last_close, open_by, Priced}
use Rattle.book_model.proofs.Lemmas.{by_tie}
use Rattle.book_core.specs.Words.{effects_of}
use Rattle.book_core.specs.declared.effects.DayChange.{DayChange}
use Rattle.book_core.specs.declared.effects.Effects.{Effects}
use Rattle.table_model.specs.RowChanges.{change_mark}
use Rattle.table_model.specs.Words.{mark_at, put_record_row, apply, RecordRow, RecordTable, Tables}
use Rattle.table_model.specs.Words.{rows_with}
use Rattle.table_model.specs.Steps.{count_where_row, put_came}
use Rattle.table_model.specs.AcceptRead.{view_with}
use Rattle.table_model.proofs.CountedHeld.{still_uncounted}
use Rattle.tree_rows.proofs.Maps.{not_none}
use Rattle.tree_tables.specs.Stored.{IsFree, IsUncounted, inserted}
use Rattle.table_ledger.specs.Stages.{staged_at}

-- it makes no difference when it is written by which entry the record came
came_alone : (day : Option DayChange) (name : List ℕ) (came : Option ℕ) (some : Tables)
    → count_where_row day name (put_came name came some)
    ≡ record (count_where_row day name some) { came = (put_came name came some).came }
came_alone day name None some = refl
came_alone day name (Some number) some = refl

same_came : (name : List ℕ) (came : Option ℕ) (one other : Tables) → one.came ≡ other.came
    → (put_came name came one).came ≡ (put_came name came other).came
same_came name None one other same = same
same_came name (Some number) one other same = λ i. insert (same i) name number

-- the effects and the row are those of the record, but for the sums and the entry
pub entry_staged : (ruled : Rulings) (name bytes identity behind : List ℕ) (came : Option ℕ)
    (priced : Priced) (period : ℕ) (last : Option ℤ) (effects : Effects) (tables : Tables)
    → identity ≡ identity_by ruled bytes → behind ≡ data_of bytes → period ≡ open_by ruled
    → last ≡ last_close ruled → values tables.closes ≡ ruled.closes
    → effects ≡ effects_of (view_with last tables.choices (rows_with identity tables.records)) name
    priced
    → count_where_row effects.day name (put_came name came (put_record_row name (record {
      identity = identity;
      data_bytes = behind;
      priced = priced;
      charged = effects.charged;
      posted = false;
    }) (apply period effects tables)))
    ≡ staged_at ruled name bytes came priced tables
entry_staged ruled name bytes identity behind came priced period last effects tables owner rest number
    latest remembered planned =
    let closed = latest ∙ ap (last_or None) (sym remembered) in
    let planned_by = planned
    ∙ (λ i. effects_of (view_with (closed i) tables.choices (rows_with (owner i) tables.records)) name
    priced) in
    let own : Effects = effects_of (view_with (last_or None (values tables.closes)) tables.choices
    (rows_with (identity_by ruled bytes) tables.records)) name priced in
    let made : Tables = put_record_row name (record {
      identity = identity_by ruled bytes;
      data_bytes = data_of bytes;
      priced = priced;
      charged = own.charged;
      posted = false;
    }) (apply (open_by ruled) own tables) in
    (λ i. count_where_row (planned_by i).day name (put_came name came (put_record_row name (record {
      identity = owner i;
      data_bytes = rest i;
      priced = priced;
      charged = (planned_by i).charged;
      posted = false;
    }) (apply (number i) (planned_by i) tables))))
    ∙ came_alone own.day name came made
    ∙ ap (λ came. record (count_where_row own.day name made) { came = came })
    (same_came name came made tables refl)

-- a name that no record has is still that of none after a mark was taken
pub new_still : (unmark : Option (List ℕ)) (records : RecordTable) (name : List ℕ)
    → get records name ≡ None → get (change_mark unmark records) name ≡ None
new_still None records name new = new
new_still (Some other) records name new = by_row (get records other) refl
  where
    by_row : (found : Option RecordRow) → get records other ≡ found
        → get (mark_at false other found records) name ≡ None
    by_row None is = new
    by_row (Some row) is =
        let now : RecordRow = record row { charged = false } in
        get-insert nat_list_cmp_total records other now name
        ∙ by_tie nat_list_cmp_total exact_bytes name other
        (λ b. cond b (Some now) (get records name)) (λ b. None)
        (λ same. absurd (not_none row (sym is ∙ ap (get records) (sym same) ∙ new)))
        (λ apart. new)

-- so it stays free with the effects of another record
pub still_free : (period : ℕ) (effects : Effects) (tables : Tables) (name : List ℕ)
    → IsFree name tables → IsFree name (apply period effects tables)
still_free period effects tables name free = record {
  none = new_still effects.unmark tables.records name free.none;
  uncounted = still_uncounted effects tables.counted name free.uncounted;
  came = free.came;
}

-- a record that was written under a free name is not counted yet
uncounted_yet : (entry : List ℕ × RecordRow) (tables : Tables) → IsFree entry.0 tables
    → IsUncounted entry (put_record_row entry.0 entry.1 tables)
uncounted_yet entry tables free = record {
  there = get-insert nat_list_cmp_total tables.records entry.0 entry.1 entry.0
      ∙ ap (λ b. cond b (Some entry.1) (get tables.records entry.0))
      ((eq_by_cmp_equiv nat_list_cmp_total).refl entry.0);
  uncounted = free.uncounted;
}

-- by whichever entry it came
pub just_written : (entry : List ℕ × RecordRow) (came : Option ℕ) (tables : Tables)
    → IsFree entry.0 tables → IsUncounted entry (inserted entry came tables)
just_written entry None tables free = uncounted_yet entry tables free
just_written entry (Some number) tables free =
    let yet = uncounted_yet entry tables free in
    record { there = yet.there; uncounted = yet.uncounted }
