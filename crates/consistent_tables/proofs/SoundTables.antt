-- The book that consistent tables determine is sound.
use Rattle.std.proofs.Common.{◌≡◌, ◌∙◌, ◌<◌, ◌≤◌, ◌∷◌, [], List, ℕ, zero, suc, None, Some, ap}
use Rattle.std.proofs.Common.{arith, is_some, length, not, refl, subst, sym, true, All, option_map}
use Rattle.std.proofs.Common.{filter_map}
use Rattle.std.specs.FinMap.{get, values}
use Rattle.std.specs.List.{cons_option}
use Rattle.std.proofs.lemmas.List.{length-append}
use Rattle.std.proofs.lemmas.List.Elements.{All-cons, All-nil, All-push}
use Rattle.book_model.specs.Words.{AreAllDatedThrough, AreHeld, Choice, IsChoiceOf, IsSound, Naming}
use Rattle.book_model.specs.Words.{Period, has, is_dated_after, last_close, without}
use Rattle.book_model.proofs.RecordSets.{in_those}
use Rattle.table_model.specs.BookIn.{book_in, choice_read, close_after, row_record}
use Rattle.table_model.specs.Readable.{chained}
use Rattle.table_model.specs.Tables.{ChoiceRow, RecordRow, Tables}
use Rattle.table_model.proofs.CountedReading.{last_after}
use Rattle.consistent_tables.specs.Consistent.{AreConsistent, ruled}
use Rattle.consistent_tables.proofs.ChargedSets.{charged_dated, days, posted_is, where_held}
use Rattle.consistent_tables.proofs.HeldRows.{held, is_held, names_apart, row_of}
use Rattle.consistent_tables.proofs.PeriodLinks.{book_past, ends, its_held, period_after}

-- a choice, by its row and the row of its record
abbrev pub choice_of : ChoiceRow → RecordRow → Choice
choice_of row found =
    record { chosen = row_record found; counts = row.counts; period = row.period }

module _ (naming : Naming) (tables : Tables) (whole : AreConsistent naming tables) where
  -- how many closes there are
  abbrev last : ℕ
  last = length (days tables)

  -- there are as many periods as closes
  links_count : (n : ℕ) → length (chained n (days tables) (ends naming tables whole)) ≡ n
  links_count zero = refl
  links_count (suc n) =
      let rest = links_count n in
      let all = length-append (chained n (days tables) (ends naming tables whole))
      (period_after naming tables whole n ∷ []) in
      omega (arith, rest, all)

  -- what holds of the periods after the closes holds of the first of them,
  first_links : (P : Period → Type 0)
      → ((k : ℕ) → k < last → P (period_after naming tables whole k))
      → (n : ℕ) → n ≤ last → All P (chained n (days tables) (ends naming tables whole))
  first_links P each zero within = All-nil P
  first_links P each (suc n) within =
      let less : n < length (days tables) = omega (arith, within) in
      let before : n ≤ length (days tables) = omega (arith, within) in
      All-push P (chained n (days tables) (ends naming tables whole))
      (period_after naming tables whole n) (first_links P each n before) (each n less)

  -- and of all that are closed
  pub all_past : (P : Period → Type 0)
      → ((k : ℕ) → k < length (days tables) → P (period_after naming tables whole k))
      → All P (book_in tables).past
  all_past P each =
      subst (All P) (sym (book_past naming tables whole))
      (first_links P each (length (days tables)) (omega arith))

  -- none of their records is dated after the last close
  dated_through : (k : ℕ) → k < last
      → AreAllDatedThrough (last_close (ruled tables)) (period_after naming tables whole k)
  dated_through k less =
      let early = λ (number : ℕ) (came : number ≤ last) (bytes : List ℕ)
      (there : has (ends naming tables whole number) bytes ≡ true).
      ap (λ close. is_dated_after close bytes) (last_after (days tables))
      ∙ charged_dated naming tables whole number last came (omega arith) bytes there in
      let before : k ≤ length (days tables) = omega (arith, less) in
      let next : suc k ≤ length (days tables) = omega (arith, less) in
      record {
        counted = λ bytes there.
            early (suc k) next bytes (in_those (is_dated_after (close_after k (days tables)))
            (ends naming tables whole (suc k)) bytes there);
        added = λ bytes there.
            early (suc k) next bytes (in_those (λ b. not (has (ends naming tables whole k) b))
            (ends naming tables whole (suc k)) bytes
            (in_those (λ b. not (is_dated_after (close_after k (days tables)) b))
            (without (ends naming tables whole (suc k)) (ends naming tables whole k)) bytes there));
        taken = λ bytes there.
            early k before bytes
            (in_those (λ b. not (has (ends naming tables whole (suc k)) b))
            (ends naming tables whole k) bytes there);
      }

  -- what was chosen is held
  chosen_held : (rows : List ChoiceRow)
      → All (IsChoiceOf (held naming tables whole)) (filter_map (choice_read tables.records) rows)
  chosen_held [] = All-nil (IsChoiceOf (held naming tables whole))
  chosen_held (row ∷ rows) =
      let Held : Choice → Type 0 = IsChoiceOf (held naming tables whole) in
      let others : List Choice = filter_map (choice_read tables.records) rows in
      elim (get tables.records row.name) as (λ found. get tables.records row.name ≡ found
      → All Held (cons_option (option_map {T = RecordRow} {U = Choice} (choice_of row) found)
      others)) [
        | None ↦ λ none. chosen_held rows
        | Some found ↦ λ there.
            All-cons Held (choice_of row found) others
            (is_held naming tables whole row.name found there) (chosen_held rows)
      ] refl

  -- the book is sound
  pub sound : IsSound naming (book_in tables)
  sound = record {
    named = names_apart naming tables whole;
    priced = λ bytes there. ap is_some (row_of naming tables whole bytes there).price;
    posted = where_held naming tables whole (λ row. row.posted);
    dated = λ bytes there.
        ap (λ close. is_dated_after close bytes) (last_after (days tables))
        ∙ charged_dated naming tables whole last last (omega arith) (omega arith) bytes
        (ap (λ records. has records bytes) (sym (posted_is naming tables whole)) ∙ there);
    closed =
        ap length (book_past naming tables whole) ∙ links_count last;
    past = all_past (AreHeld (held naming tables whole)) (λ k less. its_held naming tables whole k);
    settled = all_past (AreAllDatedThrough (last_close (ruled tables))) dated_through;
    chosen = chosen_held (values tables.choices);
  }
