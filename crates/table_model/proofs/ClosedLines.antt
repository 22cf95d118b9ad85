-- The lines after a close: those of the open period stay with it, and the next has none.
use Rattle.std.proofs.Common.{◌≡◌, ℕ, List, [], ◌∷◌, ◌++◌, map, refl, sym, ap, ◌∙◌, true, false}
use Rattle.std.proofs.Common.{Bool, not, ◌&&◌, Some, is_some, ℤ, int_lt}
use Rattle.book_model.proofs.Std.{from_entries, map-append}
use Rattle.book_model.specs.Words.{day_of, Book, open_period, all_periods, charged_of}
use Rattle.book_model.specs.Words.{is_dated_through, close, IsAfterLastClose, Period, Records}
use Rattle.book_model.specs.Words.{Naming, name_of, by_bytes, last_close, set_of, members, has}
use Rattle.book_model.specs.Words.{IsSound}
use Rattle.book_model.proofs.Lemmas.{same_records, has_those, those-agree, members-empty}
use Rattle.table_model.specs.Words.{by_period, numbered, line_entries, signed_names}
use Rattle.table_model.proofs.CloseDays.{is_current, posted_by, ended_by, opened_by, periods_closed}
use Rattle.table_model.proofs.CloseDays.{not_after_both}
use Rattle.table_model.proofs.LineChanges.{has_added}
use Rattle.table_model.proofs.NumberedLemmas.{numbered-nothing}
use Rattle.table_model.proofs.PostedSets.{posted_is}
use Rattle.std.specs.FinMap as fin

-- a set that has no record has no members
pub no_members : (records : Records) → ((bytes : List ℕ) → has records bytes ≡ false)
    → members records ≡ []
no_members records none =
    ap members
    (same_records records (set_of by_bytes [])
    (λ bytes. none bytes ∙ sym (ap is_some (fin.get-empty by_bytes bytes))))
    ∙ members-empty by_bytes

module _ (naming : Naming) (book : Book) (sound : IsSound naming book) (day : ℤ)
    (forward : IsAfterLastClose book.rulings day) where
  -- a record that is not after the last close is dated on or before the day
  pub is_late : (q : List ℕ) → is_current book q ≡ false → int_lt day (day_of q) ≡ false
  is_late q late =
      let last = last_close book.rulings in
      not_after_both last day (day_of q) forward late

  -- which records are posted
  now_posted : (q : List ℕ) → has (posted_by day book) q
      ≡ (is_dated_through day q && has (charged_of book) q)
  now_posted = posted_is book.rulings book.held day

  -- the lines of the closed period are those of the open one
  added_stay : (ended_by day book).added ≡ (open_period book).added
  added_stay =
      let last = last_close book.rulings in
      let charged : Records = charged_of book in
      same_records (ended_by day book).added (open_period book).added (λ q.
      has_added last book.posted (posted_by day book) q
      ∙ ap (λ b. not (is_current book q) && (not (has book.posted q) && b)) (now_posted q)
      ∙ elim (is_current book q) as (λ l. is_current book q ≡ l
      → (not l && (not (has book.posted q) && (is_dated_through day q && has charged q)))
      ≡ (not l && (not (has book.posted q) && has charged q))) [
        | true ↦ λ e. refl
        | false ↦ λ e. ap (λ t. not (has book.posted q) && (not t && has charged q)) (is_late q e)
      ] refl
      ∙ sym (has_added last book.posted charged q))

  -- and so are the records that it reverses
  taken_stay : (ended_by day book).taken ≡ (open_period book).taken
  taken_stay =
      those-agree (λ b. not (has (posted_by day book) b)) (λ b. not (has (charged_of book) b))
      book.posted (λ b there.
      ap not (now_posted b
      ∙ ap (λ t. not t && has (charged_of book) b) (is_late b (sound.dated b there))))

  -- and the next period has none
  lines_none : line_entries naming (opened_by day book) ≡ []
  lines_none =
      let list_of : Bool → List (List ℕ) → List (List ℕ × Bool) =
      λ plus. map (λ bytes. (name_of naming bytes, plus)) in
      let posted : Records = posted_by day book in
      let charged : Records = charged_of book in
      let plus =
      no_members (opened_by day book).added (λ q.
      has_added (Some day) posted charged q
      ∙ ap (λ p. not (int_lt day (day_of q)) && (not p && has charged q)) (now_posted q)
      ∙ none_added (int_lt day (day_of q)) (has charged q)) in
      let minus =
      no_members (opened_by day book).taken (λ q.
      has_those (λ b. not (has charged b)) posted q
      ∙ ap (λ p. not (has charged q) && p) (now_posted q)
      ∙ none_taken (int_lt day (day_of q)) (has charged q)) in
      λ i. list_of true (plus i) ++ list_of false (minus i)
    where
      none_added : (t c : Bool) → (not t && (not (not t && c) && c)) ≡ false
      none_added true c = refl
      none_added false true = refl
      none_added false false = refl

      none_taken : (t c : Bool) → (not c && (not t && c)) ≡ false
      none_taken t true = refl
      none_taken true false = refl
      none_taken false false = refl

  -- the lines of all periods after the close
  pub lines_closed : from_entries {R = by_period by_bytes}
      (numbered 1 (map (line_entries naming) (all_periods (close day book))))
      ≡ from_entries (numbered 1 (map (line_entries naming) (all_periods book)))
  lines_closed =
      let lines : Period → List (List ℕ × Bool) = line_entries naming in
      let ended : Period = ended_by day book in
      let next : Period = opened_by day book in
      let before : Period = open_period book in
      ap (λ periods. from_entries (numbered 1 (map lines periods))) (periods_closed book day)
      ∙ ap (λ es. from_entries (numbered 1 es))
      (map-append lines (book.past ++ ended ∷ []) (next ∷ [])
      ∙ ap (λ none. map lines (book.past ++ ended ∷ []) ++ none ∷ []) lines_none)
      ∙ ap from_entries (numbered-nothing 1 (map lines (book.past ++ ended ∷ [])))
      ∙ ap (λ es. from_entries (numbered 1 es))
      (map-append lines book.past (ended ∷ [])
      ∙ (λ i. map lines book.past
      ++ (signed_names naming true (added_stay i) ++ signed_names naming false (taken_stay i)) ∷ [])
      ∙ sym (map-append lines book.past (before ∷ [])))
