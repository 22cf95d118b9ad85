-- The tables with one more record: it joins uncharged, and then becomes charged, or another record
-- of its identity is no longer charged.
use Rattle.std.proofs.Common.{◌≡◌, ℕ, List, refl, sym, ap, ◌∙◌, true, false, Bool, not, ◌||◌}
use Rattle.std.proofs.Common.{Option, Some, None, ℤ, if◌then◌else◌}
use Rattle.std.proofs.Math.Bool.{or-true}
use Rattle.book_model.proofs.Std.{get, insert, nat_list_cmp_total, exact_bytes}
use Rattle.book_model.specs.Words.{Book, open_number, charged_of, charged_now, keep, Records}
use Rattle.book_model.specs.Words.{Naming, name_of, price_in, identity_by, last_close, has, with}
use Rattle.book_model.specs.Words.{IsSound, AreAmong, Priced, is_after}
use Rattle.book_model.proofs.Lemmas.{get-inserted, insert-insert, is, has_with, is_itself, in_those}
use Rattle.book_model.proofs.Lemmas.{except, IsUnnamed}
use Rattle.book_model.proofs.SetChanges.{not_those}
use Rattle.book_core.specs.declared.effects.DayChange.TheVariants.{Add, Take}
use Rattle.book_core.specs.declared.effects.Effects.{Effects}
use Rattle.book_core.specs.declared.effects.LineChange.TheVariants.{AddMinus, AddPlus, DropPlus}
use Rattle.book_core.specs.declared.effects.Member.{Member}
use Rattle.book_core.specs.Words.{charge_held, charges, unmarks, withdraw}
use Rattle.book_core.specs.Effects.{charge, no_effects}
use Rattle.table_model.specs.Words.{count_where, mark_at, apply, charge_in, put_new, CountedTable}
use Rattle.table_model.specs.Words.{RecordRow, Tables, status_by, tables_at}
use Rattle.table_model.specs.TableChanges.{new_row}
use Rattle.table_model.proofs.CountedNames.{counted_kept, names}
use Rattle.table_model.proofs.RecordChanges.{records-with, book_row-with}
use Rattle.table_model.proofs.Restated.{not_among}
use Rattle.table_model.proofs.StatusSteps.{charge-step, withdraw-step}

-- a record that is withdrawn leaves the new one uncharged
uncharged : (last : Option ℤ) (member : Member) → (withdraw last member).charged ≡ false
uncharged last member = by_tests member.posted (is_after last member.priced.day)
  where
    by_tests : (posted after : Bool)
        → (if posted then unmarks member.name None (Some (AddMinus member.name))
        else if after then unmarks member.name (Some (Take member.priced)) None
        else unmarks member.name None (Some (DropPlus member.name))).charged ≡ false
    by_tests true after = refl
    by_tests false true = refl
    by_tests false false = refl

-- and uncounted
uncounted : (last : Option ℤ) (member : Member) (name : List ℕ) (counted : CountedTable)
    → count_where (withdraw last member).day name counted ≡ counted
uncounted last member name counted = by_tests member.posted (is_after last member.priced.day)
  where
    by_tests : (posted after : Bool)
        → count_where (if posted then unmarks member.name None (Some (AddMinus member.name))
        else if after then unmarks member.name (Some (Take member.priced)) None
        else unmarks member.name None (Some (DropPlus member.name))).day name counted ≡ counted
    by_tests true after = refl
    by_tests false true = refl
    by_tests false false = refl

module _ (naming : Naming) (book : Book) (sound : IsSound naming book) (bytes : List ℕ)
    (priced : Priced) (still : IsSound naming (keep bytes book))
    (new : has book.held bytes ≡ false) (unnamed : IsUnnamed naming bytes book.held)
    (price : price_in book.rulings bytes ≡ Some priced) where
  -- the last close's day
  abbrev last : Option ℤ
  last = last_close book.rulings

  -- what was charged, and what is
  abbrev before : Records
  before = charged_of book

  abbrev now : Records
  now = charged_now book.rulings (with book.held bytes)

  before_held : AreAmong before book.held
  before_held q on = in_those _ book.held q on

  new_before : has before bytes ≡ false
  new_before = not_among before book.held before_held bytes new

  -- the tables without the record and with it, by what is charged
  abbrev tables : Records → Tables
  tables charged = tables_at naming book (status_by book.rulings charged)

  abbrev tables_with : Records → Tables
  tables_with charged = tables_at naming (keep bytes book) (status_by book.rulings charged)

  -- the tables with a new record and its effects
  abbrev put_with : Effects → Tables
  put_with effects =
      put_new book.rulings (name_of naming bytes) bytes priced effects (tables before)

  -- its name, its row, and tables with the row alone
  abbrev name : List ℕ
  name = name_of naming bytes

  abbrev row : Bool → RecordRow
  row mark = new_row book.rulings bytes priced (record no_effects { charged = mark })

  abbrev put_row : Bool → Tables → Tables
  put_row mark = put_new book.rulings name bytes priced (record no_effects { charged = mark })

  -- it was not posted
  unposted : has book.posted bytes ≡ false
  unposted = not_among book.posted book.held sound.posted bytes new

  -- it joins uncharged
  joins : (charged : Records) → has charged bytes ≡ false
      → tables_with charged ≡ put_row false (tables charged)
  joins charged out =
      let rows = records-with naming (price_in book.rulings) (identity_by book.rulings) book.posted
      book.held charged bytes priced unnamed price
      ∙ (λ i. insert (tables charged).records name
      (record (row false) { charged = out i; posted = unposted i })) in
      λ i. record (tables charged) {
        book = book_row-with book.rulings book.held bytes priced new price i;
        records = rows i;
        counted = names naming (counted_kept naming book sound bytes charged new out i);
      }

  -- its identity was in dispute
  pub kept-disputed : now ≡ before → tables_with now ≡ put_with no_effects
  kept-disputed charged = ap tables_with charged ∙ joins before new_before

  -- its identity was new
  pub kept-charged : now ≡ with before bytes → tables_with now ≡ put_with (charge last name priced)
  kept-charged charged =
      let period : ℕ = open_number book in
      let member : Bool → Member =
      λ posted. record { name = name; priced = priced; charged = false; posted = posted } in
      ap tables_with charged
      ∙ charge-step naming (keep bytes book) still before
      (λ q on. has_with book.held bytes q
      ∙ ap (λ t. is q bytes || t) (before_held q on) ∙ or-true (is q bytes))
      bytes (has_with book.held bytes bytes ∙ ap (λ t. t || has book.held bytes) (is_itself bytes))
      priced price new_before false
      ∙ (λ i. charge_in period name (charge_held last (member (unposted i)))
      (joins before new_before i))
      ∙ elim (is_after last priced.day) as (λ a.
      charge_in period name (if a then charges (Some (Add priced)) None
      else charges None (Some (AddPlus name))) (put_row false (tables before))
      ≡ put_with (if a then charges (Some (Add priced)) None
      else charges None (Some (AddPlus name)))) [
        | true ↦ λ i. record (put_with (charges (Some (Add priced)) None)) { records = marked i }
        | false ↦ λ i. record (put_with (charges None (Some (AddPlus name)))) { records = marked i }
      ]
    where
      marked : mark_at true name (get (insert (tables before).records name (row false)) name)
          (insert (tables before).records name (row false))
          ≡ insert (tables before).records name (row true)
      marked =
          ap (λ found. mark_at true name found (insert (tables before).records name (row false)))
          (get-inserted nat_list_cmp_total exact_bytes (tables before).records name (row false))
          ∙ insert-insert nat_list_cmp_total exact_bytes (tables before).records name (row false)
          (row true)

  -- one record had its identity, and was charged
  abbrev rival : List ℕ → Priced → Member
  rival one cost = record {
    name = name_of naming one;
    priced = cost;
    charged = has before one;
    posted = has book.posted one;
  }

  pub kept-withdrawn : (one : List ℕ) → has book.held one ≡ true → (cost : Priced)
      → price_in book.rulings one ≡ Some cost → has before one ≡ true → now ≡ except one before
      → tables_with now ≡ put_with (withdraw last (rival one cost))
  kept-withdrawn one there cost costs was charged =
      let member : Member = rival one cost in
      let gone : Tables = apply (open_number book) (withdraw last member) (tables before) in
      ap tables_with charged
      ∙ joins (except one before) (not_those (λ b. not (is b one)) before bytes new_before)
      ∙ ap (put_row false) (withdraw-step naming book sound before before_held one
      there cost costs was (has before one))
      ∙ (λ i. record (put_row (sym (uncharged last member) i) gone) {
        counted = sym (uncounted last member name gone.counted) i;
      })
