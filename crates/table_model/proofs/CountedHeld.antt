-- Which names are counted: those of records that are held, and of those that are dated after the last
-- close those of the charged ones.
use Rattle.std.proofs.Common.{◌≡◌, ℕ, List, refl, sym, ap, ◌∙◌, true, false, true≢false, Bool, cond}
use Rattle.std.proofs.Common.{Option, Some, None, is_some}
use Rattle.std.specs.FinMap.{find}
use Rattle.book_model.proofs.Std.{get, get-from_entries, get-remove, false_from_ne_true}
use Rattle.book_model.proofs.Std.{nat_list_cmp_total, exact_bytes, tells_apart}
use Rattle.book_model.specs.Words.{AreAmong, Book, IsSound, Naming, Records, by_bytes, charged_of}
use Rattle.book_model.specs.Words.{has, is_dated_after, is_undisputed, last_close, members, name_of}
use Rattle.book_model.specs.Words.{is_after}
use Rattle.book_model.proofs.Lemmas.{current_is, find-none, in_those, is}
use Rattle.book_model.proofs.CountedLemmas.{has_counted}
use Rattle.book_core.specs.declared.effects.DayChange.{DayChange}
use Rattle.book_core.specs.declared.effects.DayChange.TheVariants.{Add, Take}
use Rattle.book_core.specs.declared.effects.Effects.{Effects}
use Rattle.table_model.specs.CountedLaws.{NamesFollow}
use Rattle.table_model.specs.RowChanges.{uncount_where}
use Rattle.table_model.specs.Words.{uncounted_by, CountedTable, RecordTable, counted_by, tables_of}
use Rattle.table_model.specs.TablesOf.{counted_names}
use Rattle.table_model.proofs.CostLemmas.{day-price}
use Rattle.table_model.proofs.CountedNames.{counted_among, names}
use Rattle.table_model.proofs.HeldNames.{own_value}
use Rattle.table_model.proofs.LineChanges.{given}
use Rattle.table_model.proofs.LineReading.{held_row}
use Rattle.table_model.proofs.RecordReading.{every_row}
use Rattle.std.specs.FinMap as fin

-- what is there under a test
some_where : {V : Type 0} (v : V) (b : Bool) → is_some (cond b (Some v) None) ≡ b
some_where v true = refl
some_where v false = refl

module _ (naming : Naming) (book : Book) (charged : Records) where
  abbrev counted : Records
  counted = counted_by book charged

  -- a name that no record has that is held is not counted
  pub unheld_uncounted : (name : List ℕ)
      → ((bytes : List ℕ) → has book.held bytes ≡ true → is name (name_of naming bytes) ≡ false)
      → get (names naming counted) name ≡ None
  unheld_uncounted name unnamed =
      get-from_entries nat_list_cmp_total (counted_names naming counted) name
      ∙ ap (find by_bytes name) (given naming tt (members counted))
      ∙ find-none nat_list_cmp_total exact_bytes (λ bytes. Some (name_of naming bytes, tt))
      nat_list_cmp_total name (members counted)
      (λ other among. unnamed other
      (counted_among book charged other (fin.contains_key-keys counted other ∙ among)))

  -- the name of one that is held is counted where the record is
  pub name_counted : IsSound naming book → (bytes : List ℕ) → has book.held bytes ≡ true
      → is_some (get (names naming counted) (name_of naming bytes)) ≡ has counted bytes
  name_counted sound bytes there =
      ap is_some (get-from_entries nat_list_cmp_total (counted_names naming counted)
      (name_of naming bytes)
      ∙ own_value naming book sound bytes there tt counted (counted_among book charged))
      ∙ some_where tt (has counted bytes)

  -- so of those that are dated after the last close the names of the charged ones are counted
  pub current_counted : IsSound naming book → AreAmong charged book.held → (bytes : List ℕ)
      → has book.held bytes ≡ true → is_dated_after (last_close book.rulings) bytes ≡ true
      → is_some (get (names naming counted) (name_of naming bytes)) ≡ has charged bytes
  current_counted sound within bytes there late =
      name_counted sound bytes there
      ∙ has_counted naming book sound bytes charged within
      ∙ current_is naming book sound bytes charged late

-- a name that has no row is not counted
pub no_row_uncounted : (naming : Naming) (book : Book) (name : List ℕ) → IsSound naming book
    → get (tables_of naming book).records name ≡ None
    → get (tables_of naming book).counted name ≡ None
no_row_uncounted naming book name sound none =
    unheld_uncounted naming book (charged_of book) name (λ bytes there.
    false_from_ne_true (is name (name_of naming bytes)) (λ tied.
    let records : RecordTable = (tables_of naming book).records in
    let row = held_row naming book sound bytes there in
    let same = tells_apart exact_bytes name (name_of naming bytes) tied in
    true≢false (sym (ap is_some (sym none ∙ ap (get records) same ∙ row.2)))))

-- nor is it with the effects of another record
pub still_uncounted : (effects : Effects) (counted : CountedTable) (name : List ℕ)
    → get counted name ≡ None → get (uncounted_by effects counted) name ≡ None
still_uncounted effects counted name none = by_mark effects.unmark
  where
    removed : (gone : List ℕ) (tied : Bool) → cond tied None (get counted name) ≡ None
    removed gone true = refl
    removed gone false = none

    by_change : (change : Option DayChange) (gone : List ℕ)
        → get (uncount_where change gone counted) name ≡ None
    by_change None gone = none
    by_change (Some (Add priced)) gone = none
    by_change (Some (Take priced)) gone =
        get-remove nat_list_cmp_total counted gone name ∙ removed gone (is name gone)

    by_mark : (unmark : Option (List ℕ))
        → get (uncounted_by (record effects { unmark = unmark }) counted) name ≡ None
    by_mark None = none
    by_mark (Some gone) = by_change effects.day gone

-- the law
pub names_follow : NamesFollow
names_follow = record {
  counted = λ naming book bytes sound there.
      name_counted naming book (charged_of book) sound bytes there;
  held = λ naming book name sound none. no_row_uncounted naming book name sound none;
  current = λ naming book name row sound is_there late.
      every_row naming book sound
      (λ entry. is_after (last_close book.rulings) entry.1.priced.day ≡ true
      → is_some (get (tables_of naming book).counted entry.0) ≡ entry.1.charged)
      (λ bytes priced there price late.
      current_counted naming book (charged_of book) sound
      (λ q on. in_those (is_undisputed book.rulings book.held) book.held q on) bytes there
      (ap (is_after (last_close book.rulings)) (sym (day-price book.rulings bytes priced price))
      ∙ late))
      name row is_there late;
}
