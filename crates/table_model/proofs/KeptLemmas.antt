-- The tables of a book with one more record are those without it, changed by its effects.
use Rattle.std.proofs.Common.{Ok, ◌≡◌, ℕ, List, [], ◌∷◌, refl, sym, ap, ◌∙◌, true, false, Bool}
use Rattle.std.proofs.Common.{◌&&◌}
use Rattle.std.proofs.Common.{Option, Some, None, subst, ℤ, if◌then◌else◌, is_eq}
use Rattle.std.proofs.Math.Bool.{or-false}
use Rattle.book_model.proofs.Std.{list_any, IsStrictlySortedBy, nat_list_cmp_total, sorted_head}
use Rattle.book_model.proofs.Std.{exact_bytes}
use Rattle.book_model.specs.declared.answer.Accepted.TheVariants.{Kept}
use Rattle.book_model.specs.Words.{accept_answer}
use Rattle.book_model.specs.Words.{Priced, Book, share_identity, is_chosen, keep, Naming, name_of}
use Rattle.book_model.specs.Words.{by_bytes, same_bytes, price_in, last_close, has, those, IsSound}
use Rattle.book_model.proofs.ChargedChanges.{charged-new, charged-alone, charged-only}
use Rattle.book_model.proofs.ChargedChanges.{charged-stays, charged-chosen, share_on}
use Rattle.book_model.proofs.ChosenLemmas.{lone_unwithheld, new_unchosen, new_unwithheld}
use Rattle.book_model.proofs.Lemmas.{is, has_those, first_of, second_of, is_first, IsUnnamed}
use Rattle.book_model.proofs.Lemmas.{is_back, fails_too, members_rise, same_bytes-by_cmp}
use Rattle.book_model.proofs.Lemmas.{steps_stay_sound, kept_passes}
use Rattle.book_model.proofs.RecordSets.{is_second}
use Rattle.book_core.specs.Effects.{effects_by}
use Rattle.table_model.specs.Laws.{KeptFollows}
use Rattle.table_model.specs.Words.{put_new, Tables, tables_of, member_by, member_of, sharing}
use Rattle.table_model.specs.Words.{lone_members}
use Rattle.table_model.specs.Views.{members_of, only_by}
use Rattle.table_model.proofs.KeptCases.{kept-charged, kept-disputed, kept-withdrawn}
use Rattle.table_model.proofs.TableParts.{what_is}
use Rattle.table_model.proofs.ViewLemmas.{held_too}
use Rattle.std.specs.FinMap as fin

module _ (naming : Naming) (book : Book) (sound : IsSound naming book) (bytes : List ℕ)
    (priced : Priced) (still : IsSound naming (keep bytes book))
    (new : has book.held bytes ≡ false) (unnamed : IsUnnamed naming bytes book.held)
    (price : price_in book.rulings bytes ≡ Some priced) where
  -- the last close's day
  abbrev last : Option ℤ
  last = last_close book.rulings

  -- the tables with the record
  abbrev tables_now : Tables
  tables_now = tables_of naming (keep bytes book)

  -- the tables without it
  abbrev tables_before : Tables
  tables_before = tables_of naming book

  -- the records that share the identity are those of the list
  among : (shared : List (List ℕ)) → sharing book bytes ≡ shared → (q : List ℕ)
      → (share_identity book.rulings bytes q && has book.held q) ≡ list_any (is q) shared
  among shared listed q =
      sym (has_those (share_identity book.rulings bytes) book.held q)
      ∙ fin.contains_key-keys (those (share_identity book.rulings bytes) book.held) q
      ∙ ap (list_any (is q)) listed

  -- one that is on the list is held, and has the identity
  listed_held : (shared : List (List ℕ)) → sharing book bytes ≡ shared → (q : List ℕ)
      → list_any (is q) shared ≡ true
      → (share_identity book.rulings bytes q ≡ true) × (has book.held q ≡ true)
  listed_held shared listed q on =
      let both = among shared listed q ∙ on in (
        first_of (share_identity book.rulings bytes q) (has book.held q) both,
        second_of
            (share_identity book.rulings bytes q) (has book.held q) both,
      )

  -- no choice names the new record
  plain : is_chosen book.rulings bytes ≡ false
  plain = new_unchosen book.rulings book.held bytes sound.chosen new

  -- where the list has none, no record that is held has the identity
  none_shares : sharing book bytes ≡ [] → (q : List ℕ) → has book.held q ≡ true
      → share_identity book.rulings bytes q ≡ false
  none_shares listed q there =
      held_too (share_identity book.rulings bytes q) (has book.held q) false there
      (among [] listed q)

  -- by how many records have the identity
  pub kept-as : (shared : List (List ℕ)) → sharing book bytes ≡ shared
      → tables_now
      ≡ put_new book.rulings (name_of naming bytes) bytes priced
      (effects_by last (members_of book.rulings shared) (only_by naming book shared)
      (name_of naming bytes) priced)
      tables_before
  kept-as [] listed =
      kept-charged naming book sound bytes priced still new unnamed price
      (charged-new book.rulings book.held bytes new (none_shares listed)
      (new_unwithheld book.rulings book.held bytes sound.chosen (none_shares listed)))
  kept-as (one ∷ []) listed =
      let its = listed_held (one ∷ []) listed one (is_first one []) in
      let only = λ (q : List ℕ) (there : has book.held q ≡ true).
      held_too (share_identity book.rulings bytes q) (has book.held q) (is q one) there
      (among (one ∷ []) listed q ∙ or-false (is q one)) in
      let cost = what_is (price_in book.rulings one) (sound.priced one its.1) in
      elim (is_chosen book.rulings one) as (λ c. is_chosen book.rulings one ≡ c → tables_now
      ≡ put_new book.rulings (name_of naming bytes) bytes priced
      (effects_by last (lone_members c) (if c then None else member_of naming book one)
      (name_of naming bytes) priced) tables_before) [
        | true ↦ λ it. kept-disputed naming book sound bytes priced still new unnamed price
            (charged-chosen book.rulings book.held bytes new one its.1 its.0 only plain it)
        | false ↦ λ not_it. kept-withdrawn naming book sound bytes priced still new unnamed
            price one its.1 cost.0 cost.1
            (charged-alone book.rulings book.held bytes new one its.1 its.0 only
            (lone_unwithheld book.rulings book.held one sound.chosen (λ q in_it.
            sym (share_on book.rulings bytes one q its.0) ∙ only q in_it ∙ is_back q one) not_it))
            (charged-only book.rulings book.held bytes new one its.1 its.0 only plain not_it)
            ∙ ap (λ member. put_new book.rulings (name_of naming bytes) bytes priced
            (effects_by last 1 member (name_of naming bytes) priced) tables_before)
            (ap (member_by naming book one) (sym cost.1))
      ] refl
  kept-as (a ∷ b ∷ rest) listed =
      let its_a = listed_held (a ∷ b ∷ rest) listed a (is_first a (b ∷ rest)) in
      let its_b = listed_held (a ∷ b ∷ rest) listed b (is_second a b rest) in
      let rising =
      subst (IsStrictlySortedBy by_bytes) listed
      (members_rise nat_list_cmp_total (those (share_identity book.rulings bytes) book.held)) in
      let less = sorted_head by_bytes a (b ∷ rest) rising in
      kept-disputed naming book sound bytes priced still new unnamed price
      (charged-stays book.rulings book.held bytes new a b its_a.1 its_b.1 its_a.0 its_b.0
      (ap is_eq less.0) plain)

-- no record that is held has the name of one that is kept
pub unnamed_kept : (naming : Naming) (book : Book) (bytes : List ℕ)
    → accept_answer naming book bytes ≡ Ok Kept → IsUnnamed naming bytes book.held
unnamed_kept naming book bytes kept other there =
    let same_name : List ℕ → Bool =
    λ other. same_bytes (name_of naming other) (name_of naming bytes) in
    is_back (name_of naming bytes) (name_of naming other)
    ∙ (λ i. sym same_bytes-by_cmp i (name_of naming other) (name_of naming bytes))
    ∙ fails_too nat_list_cmp_total exact_bytes same_name book.held other
    (kept_passes naming book bytes kept).alone there

-- the law
pub kept_follows : KeptFollows
kept_follows naming book bytes priced sound kept price =
    let tests = kept_passes naming book bytes kept in
    kept-as naming book sound bytes priced (steps_stay_sound.keep naming book bytes sound kept)
    tests.is_new (unnamed_kept naming book bytes kept) price (sharing book bytes) refl
