-- The names of the records that charge rows count follow the book. Where one record is charged, or is
-- so no more, its own name joins or leaves them, or none does; a record that is kept and not charged
-- leaves them as they are, and so does a close. No price is looked at.
use Rattle.std.proofs.Common.{◌≡◌, ℕ, List, refl, sym, ap, ◌∙◌, true, false, Bool, cond, ◌&&◌, ◌||◌}
use Rattle.std.proofs.Common.{Option, Some, None, ℤ}
use Rattle.std.specs.FinMap.{find}
use Rattle.book_model.proofs.Std.{from_entries, nat_list_cmp_total, exact_bytes}
use Rattle.book_model.specs.Words.{AreAmong, Book, IsAfterLastClose, IsSound, Naming, Records}
use Rattle.book_model.specs.Words.{by_bytes, charged_of, close, has, is_counted_in, is_dated_after}
use Rattle.book_model.specs.Words.{keep, last_close, name_of, with}
use Rattle.book_model.proofs.CountedLemmas.{close_leaves, counted_somewhere, has_counted}
use Rattle.book_model.proofs.CountedLemmas.{new_uncounted, settled_is}
use Rattle.book_model.proofs.Lemmas.{current_is, has_those, in_those, is, except, with-except}
use Rattle.book_model.proofs.MapLemmas.{from_entries-insert, from_entries-remove}
use Rattle.book_model.proofs.SetChanges.{those-with_out}
use Rattle.table_model.specs.Words.{CountedTable, counted_by, periods_by}
use Rattle.table_model.specs.TablesOf.{counted_names}
use Rattle.table_model.proofs.HeldNames.{except-alike, twice_found, value-with}
use Rattle.table_model.proofs.OpenChanges.{except-absent}
use Rattle.table_model.proofs.RestatedRows.{set_counted}

-- the table of the names of some records
abbrev pub names : Naming → Records → CountedTable
names naming records = from_entries (counted_names naming records)

-- sets that agree on one record and on the others are one
same_at : (one : List ℕ) (a b : Records) → except one a ≡ except one b → (on : Bool)
    → has a one ≡ on → has b one ≡ on → a ≡ b
same_at one a b others true of_a of_b =
    sym (with-except a one of_a) ∙ ap (λ rest. with rest one) others ∙ with-except b one of_b
same_at one a b others false of_a of_b =
    sym (except-absent a one of_a) ∙ others ∙ except-absent b one of_b

-- a record's charge changes what is counted nowhere else
counted_beside : (book : Book) (from to : Records) (q : List ℕ) → has from q ≡ has to q
    → has (counted_by book from) q ≡ has (counted_by book to) q
counted_beside book from to q same =
    has_those (is_counted_in (periods_by book from)) book.held q
    ∙ ap (λ b. b && has book.held q)
    (counted_somewhere book from q
    ∙ ap (λ c. is_counted_in book.past q || (is_dated_after (last_close book.rulings) q && c)) same
    ∙ sym (counted_somewhere book to q))
    ∙ sym (has_those (is_counted_in (periods_by book to)) book.held q)

-- nor, if it is dated no later than the last close, at its own
counted_early : (book : Book) (from to : Records) (one : List ℕ)
    → is_dated_after (last_close book.rulings) one ≡ false
    → has (counted_by book from) one ≡ has (counted_by book to) one
counted_early book from to one early =
    has_those (is_counted_in (periods_by book from)) book.held one
    ∙ ap (λ b. b && has book.held one)
    (settled_is book from one early ∙ sym (settled_is book to one early))
    ∙ sym (has_those (is_counted_in (periods_by book to)) book.held one)

-- what is counted is held
pub counted_among : (book : Book) (charged : Records) → AreAmong (counted_by book charged) book.held
counted_among book charged q on = in_those (is_counted_in (periods_by book charged)) book.held q on

module _ (naming : Naming) (book : Book) (sound : IsSound naming book) (one : List ℕ)
    (there : has book.held one ≡ true) where
  -- where sets differ at one record alone, its name joins or leaves theirs
  names-set : (now was : Bool) (before after : Records) → AreAmong before book.held
      → AreAmong after book.held → except one before ≡ except one after → has before one ≡ was
      → has after one ≡ now
      → names naming after ≡ set_counted (name_of naming one) now was (names naming before)
  names-set true true before after of_before of_after others was now =
      ap (names naming) (same_at one after before (sym others) true now was)
  names-set false false before after of_before of_after others was now =
      ap (names naming) (same_at one after before (sym others) false now was)
  names-set true false before after of_before of_after others was now =
      let name : List ℕ = name_of naming one in
      from_entries-insert nat_list_cmp_total exact_bytes (counted_names naming before)
      (counted_names naming after) name tt (λ q.
      value-with naming book sound one there tt after of_after q true now
      ∙ ap (λ rest. cond (is q name) (Some tt) (find by_bytes q (counted_names naming rest)))
      (sym others ∙ except-absent before one was))
  names-set false true before after of_before of_after others was now =
      let name : List ℕ = name_of naming one in
      let rest : List ℕ → Option (Unit {0}) =
      λ q. find by_bytes q (counted_names naming (except one before)) in
      from_entries-remove nat_list_cmp_total exact_bytes (counted_names naming before)
      (counted_names naming after) name (λ q.
      value-with naming book sound one there tt after of_after q false now
      ∙ ap (λ others. cond (is q name) None (find by_bytes q (counted_names naming others)))
      (sym others)
      ∙ twice_found (is q name) None (Some tt) (rest q)
      ∙ ap (cond (is q name) None)
      (sym (value-with naming book sound one there tt before of_before q true was)))

  -- So the names follow the charge of one record: by whether it is dated after the last close.
  pub names_restated : (from to : Records) → AreAmong from book.held → AreAmong to book.held
      → ((q : List ℕ) → is q one ≡ false → has from q ≡ has to q)
      → names naming (counted_by book to)
      ≡ set_counted (name_of naming one)
      (is_dated_after (last_close book.rulings) one && has to one)
      (is_dated_after (last_close book.rulings) one && has from one)
      (names naming (counted_by book from))
  names_restated from to of_from of_to alike =
      let before : Records = counted_by book from in
      let after : Records = counted_by book to in
      let others = except-alike one before after (λ q apart.
      counted_beside book from to q (alike q apart)) in
      elim (is_dated_after (last_close book.rulings) one)
      as (λ b. is_dated_after (last_close book.rulings) one ≡ b
      → names naming after
      ≡ set_counted (name_of naming one) (b && has to one) (b && has from one)
      (names naming before)) [
        | true ↦ λ late. names-set (has to one) (has from one) before after
            (counted_among book from) (counted_among book to) others
            (has_counted naming book sound one from of_from ∙ current_is naming book sound one from late)
            (has_counted naming book sound one to of_to ∙ current_is naming book sound one to late)
        | false ↦ λ early. ap (names naming) (same_at one after before (sym others)
            (has before one) (sym (counted_early book from to one early)) refl)
      ] refl

-- a record that is kept and not yet charged leaves what is counted
pub counted_kept : (naming : Naming) (book : Book) → IsSound naming book → (bytes : List ℕ)
    (charged : Records) → has book.held bytes ≡ false → has charged bytes ≡ false
    → counted_by (keep bytes book) charged ≡ counted_by book charged
counted_kept naming book sound bytes charged new out =
    those-with_out (is_counted_in (periods_by book charged)) book.held bytes
    (new_uncounted naming book sound bytes charged new out)

-- and so does a close
pub counted_closed : (book : Book) (day : ℤ) → IsAfterLastClose book.rulings day
    → counted_by (close day book) (charged_of (close day book)) ≡ counted_by book (charged_of book)
counted_closed book day later = close_leaves book day later
