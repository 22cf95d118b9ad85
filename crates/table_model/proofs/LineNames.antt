-- The lines of a period are stored under different names.
use Rattle.std.proofs.Common.{◌≡◌, ℕ, List, [], ◌∷◌, ◌++◌, map, refl, ap, ◌∙◌, true, false, Bool}
use Rattle.std.proofs.Common.{◌||◌, Some, None, append-nil, subst}
use Rattle.std.specs.FinMap.{find}
use Rattle.std.proofs.Math.Bool.{or-true}
use Rattle.book_model.proofs.Std.{list_any, IsStrictlySortedBy, nat_list_cmp_total, sorted_tail}
use Rattle.book_model.proofs.Std.{exact_bytes}
use Rattle.book_model.specs.Words.{Book, Period, Naming, name_of, by_bytes, members, has, IsSound}
use Rattle.book_model.specs.Words.{AreHeld}
use Rattle.book_model.proofs.Lemmas.{Apart, find-none, else_find, find-both, is, is_first}
use Rattle.book_model.proofs.Lemmas.{members_rise}
use Rattle.book_model.proofs.SetChanges.{not_first, not_new}
use Rattle.table_model.specs.Words.{IsApart, signed_names, line_entries}
use Rattle.table_model.proofs.LineChanges.{given, no_line}
use Rattle.table_model.proofs.OpenNames.{names_differ}
use Rattle.std.specs.FinMap as fin

module _ {V : Type 0} (naming : Naming) (book : Book) (sound : IsSound naming book) (plus : V)
    (others : List (List ℕ × V)) where
  -- values of records that are held, before others that have none of their names
  pub names_apart : (ks : List (List ℕ)) → IsStrictlySortedBy by_bytes ks
      → ((bytes : List ℕ) → list_any (is bytes) ks ≡ true → has book.held bytes ≡ true)
      → ((bytes : List ℕ) → list_any (is bytes) ks ≡ true
      → find by_bytes (name_of naming bytes) others ≡ None)
      → Apart by_bytes others
      → Apart by_bytes (map {B = List ℕ × V} (λ bytes. (name_of naming bytes, plus)) ks
      ++ others)
  names_apart [] rising held free apart = apart
  names_apart (k ∷ ks) rising held free apart =
      let own : list_any (is k) (k ∷ ks) ≡ true =
      is_first k ks in
      let behind = λ (bytes : List ℕ) (among : list_any (is bytes) ks ≡ true).
      ap (λ b. is bytes k || b) among ∙ or-true (is bytes k) in
      let none = ap (find by_bytes (name_of naming k)) (given naming plus ks)
      ∙ find-none nat_list_cmp_total exact_bytes (λ bytes. Some (name_of naming bytes, plus))
      nat_list_cmp_total (name_of naming k) ks (λ bytes among.
      names_differ naming book sound k bytes (held k own) (held bytes (behind bytes among))
      (not_first k ks rising bytes among)) in (
        find-both by_bytes (name_of naming k)
            (map {B = List ℕ × V} (λ bytes. (name_of naming bytes, plus)) ks) others
            ∙ (λ i. else_find (none i) (free k own i)),
        names_apart ks (sorted_tail by_bytes k ks rising)
            (λ bytes among. held bytes (behind bytes among))
            (λ bytes among. free bytes (behind bytes among)) apart,
      )

-- this holds for the lines of a period whose records are held, and that reverses nothing it adds
pub lines_apart : (naming : Naming) (book : Book) → IsSound naming book → (period : Period)
    → AreHeld book.held period → IsApart period → Apart by_bytes (line_entries naming period)
lines_apart naming book sound period held apart =
    let minus : List (List ℕ × Bool) = signed_names naming false period.taken in
    let added = λ (bytes : List ℕ) (among : list_any (is bytes) (members period.added) ≡ true).
    fin.contains_key-keys period.added bytes ∙ among in
    let taken = λ (bytes : List ℕ) (among : list_any (is bytes) (members period.taken) ≡ true).
    held.taken bytes (fin.contains_key-keys period.taken bytes ∙ among) in
    names_apart naming book sound true minus (members period.added)
    (members_rise nat_list_cmp_total period.added)
    (λ bytes among. held.added bytes (added bytes among))
    (λ bytes among. no_line naming false bytes period.taken (λ other in_it.
    names_differ naming book sound bytes other (held.added bytes (added bytes among))
    (held.taken other in_it)
    (not_new period.taken other bytes in_it (apart bytes (added bytes among)))))
    (subst (Apart by_bytes) (append-nil minus)
    (names_apart naming book sound false [] (members period.taken)
    (members_rise nat_list_cmp_total period.taken) taken (λ bytes among. refl) tt))
