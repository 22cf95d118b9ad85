-- Names of records that are held, and which of them the open period adds and reverses.
use Rattle.std.proofs.Common.{◌≡◌, ℕ, List, sym, ap, ◌∙◌, true, false, true≢false, not}
use Rattle.book_model.proofs.Std.{false_from_ne_true, exact_bytes, tells_apart}
use Rattle.book_model.specs.Words.{Book, Records, Naming, name_of, last_close, has, those, IsSound}
use Rattle.book_model.proofs.Lemmas.{is, is_itself, in_those, IsUnnamed}
use Rattle.table_model.proofs.LineChanges.{added, taken}

module _ (naming : Naming) (book : Book) (sound : IsSound naming book) where
  -- two records that are held and differ have two names
  pub names_differ : (one other : List ℕ) → has book.held one ≡ true → has book.held other ≡ true
      → is other one ≡ false
      → is (name_of naming one) (name_of naming other) ≡ false
  names_differ one other there too differ =
      false_from_ne_true (is (name_of naming one) (name_of naming other)) (λ e.
      let same = sound.named one other there too
      (tells_apart exact_bytes (name_of naming one) (name_of naming other) e) in
      true≢false (sym (is_itself other) ∙ ap (λ b. is other b) (sym same) ∙ differ))

  -- so one of them has no name of a set of others
  pub unnamed_in : (one : List ℕ) (records : Records) → has book.held one ≡ true
      → ((other : List ℕ) → has records other ≡ true → has book.held other ≡ true)
      → ((other : List ℕ) → has records other ≡ true → is other one ≡ false)
      → IsUnnamed naming one records
  unnamed_in one records there within differ other in_it =
      names_differ one other there (within other in_it) (differ other in_it)

  module _ (charged : Records) where
    -- what is added, and what is reversed, by what is charged
    abbrev plus : Records
    plus = added (last_close book.rulings) book.posted charged

    abbrev minus : Records
    minus = taken book.posted charged

    -- what is added is charged
    pub added_before : (other : List ℕ) → has plus other ≡ true → has charged other ≡ true
    added_before other in_it =
        in_those _ charged other
        (in_those _ (those (λ b. not (has book.posted b)) charged) other in_it)

    -- what is reversed was posted,
    pub taken_posted : (other : List ℕ) → has minus other ≡ true → has book.posted other ≡ true
    taken_posted other in_it = in_those _ book.posted other in_it
