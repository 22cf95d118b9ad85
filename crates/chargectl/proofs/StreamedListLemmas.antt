-- A list that was written, and the output after it was flushed.
use Rattle.std.proofs.Common.{◌≡◌, ◌∙◌, true≢false, ℕ, List, Option, Result, Ok, Err, inl, inr}
use Rattle.std.proofs.Common.{refl, sym, take, IsErr}
use Rattle.std.proofs.KnownBytes.{Appends-kept}
use Rattle.book_lists.specs.Streamed.{WritesAnswerUntil, WritesUntilOrRefuses}
use Rattle.book_lists.specs.Writing.{WritesPrefix, WritesUntil}
use Rattle.chargectl.specs.declared.streamed_lists.StreamedList.{StreamedList}
use Rattle.chargectl.specs.StreamedLists.{WritesSomeOf, list_answer, list_end}
use Rattle.chargectl.proofs.Words.{Keeps, LedgerFault, ReportFault, RepositoryFault, Unseen}
use Rattle.chargectl.proofs.Words.{ComesBy, IsDoneTo, IsOpened, Shelf, done_as}
use Rattle.chargectl.specs.declared.streamed_lists.StreamedList.TheVariants as list

-- a prefix stays written
prefix_kept : (text : List ℕ) (held has holds : Option (List ℕ))
    (told : Result (Unit {0}) ReportFault)
    → Keeps has holds → WritesPrefix text held has told → WritesPrefix text held holds told
prefix_kept text held has holds (Ok done) kept grown = Appends-kept held has holds text grown kept
prefix_kept text held has holds (Err fault) kept cut =
    (cut.0, Appends-kept held has holds (take cut.0 text) cut.1 kept)

-- also one that is not the whole
until_kept : (text : List ℕ) (held has holds : Option (List ℕ))
    (told : Result (Unit {0}) ReportFault)
    → Keeps has holds → WritesUntil text held has told → WritesUntil text held holds told
until_kept text held has holds (Ok done) kept grown = Appends-kept held has holds text grown kept
until_kept text held has holds (Err fault) kept cut =
    (cut.0, cut.1, Appends-kept held has holds (take cut.0 text) cut.2 kept)

-- so does what was refused, where nothing was written since
told_kept : (answer : Result (List ℕ) LedgerFault) (held has holds : Option (List ℕ))
    (told : Result (Unit {0}) ReportFault)
    → Keeps has holds → (IsErr told → holds ≡ has) → WritesUntilOrRefuses answer held has told
    → WritesUntilOrRefuses answer held holds told
told_kept (Ok text) held has holds told kept still it =
    (until_kept text held has holds told kept it.0, it.1)
told_kept (Err refused) held has holds (Ok done) kept still it = absurd it.1
told_kept (Err refused) held has holds (Err fault) kept still it = (still refl ∙ it.0, it.1)

some_kept : (list : StreamedList) (held has holds : Option (List ℕ))
    (told : Result (Unit {0}) ReportFault)
    → Keeps has holds → WritesSomeOf list held has told → WritesSomeOf list held holds told
some_kept (list.Details report) held has holds told kept some =
    (some.0, prefix_kept _ held has holds told kept some.1)
some_kept list.Rulings held has holds told kept some =
    (some.0, prefix_kept _ held has holds told kept some.1)
some_kept (list.Disputes form) held has holds told kept some =
    (some.0, prefix_kept _ held has holds told kept some.1)
some_kept (list.Journal form) held has holds told kept some =
    (some.0, prefix_kept _ held has holds told kept some.1)

module _ (list : StreamedList) (book : List ℕ) (old new : Shelf) (held has holds : Option (List ℕ))
    (kept : Keeps has holds)
  where
    done_kept : (told : Result (Unit {0}) ReportFault) → (IsErr told → holds ≡ has)
        → IsDoneTo book (WritesAnswerUntil (list_answer list) old.naming held has told) old new
        → IsDoneTo book (WritesAnswerUntil (list_answer list) old.naming held holds told) old new
    done_kept told still done =
        done_as book (WritesAnswerUntil (list_answer list) old.naming held has told)
        (WritesAnswerUntil (list_answer list) old.naming held holds told) old new
        (λ before events is it. record {
          none = it.none;
          written = told_kept _ held has holds told kept still it.written;
          unread = λ never. absurd (true≢false (sym never));
          reopens = it.reopens;
        })
        done

    -- a list that failed is not flushed
    still_of : (written : Result (Unit {0}) ReportFault) → (IsErr (list_end (Ok written))
        → holds ≡ has)
        → IsErr written → holds ≡ has
    still_of (Ok done) still bad = absurd (true≢false (sym bad))
    still_of (Err fault) still bad = still refl

    pub opened_kept : (told : Result (Result (Unit {0}) ReportFault) RepositoryFault)
        → (IsErr (list_end told) → holds ≡ has)
        → IsOpened (WritesAnswerUntil (list_answer list) old.naming held has) book old new told
        → IsOpened (WritesAnswerUntil (list_answer list) old.naming held holds) book old new told
    opened_kept (Ok written) still done = done_kept written (still_of written still) done
    opened_kept (Err Unseen) still (refused, inl seen) =
        (refused, inl (seen.0, done_kept seen.0 (λ _. still refl) seen.1))
    opened_kept (Err Unseen) still (refused, inr none) = (refused, inr none)
    opened_kept (Err fault) still none = none

    -- of a list that was not begun nothing is flushed
    pub came_kept : (Same : Type 0) (told : Result (Result (Unit {0}) ReportFault) RepositoryFault)
        → (Same → has ≡ held) → (IsErr (list_end told) → holds ≡ has)
        → ComesBy (WritesSomeOf list held has) Same told
        → ComesBy (WritesSomeOf list held holds) (holds ≡ held) told
    came_kept Same (Ok written) still same some = some_kept list held has holds written kept some
    came_kept Same (Err Unseen) still same (inl seen) =
        inl (seen.0, some_kept list held has holds seen.0 kept seen.1)
    came_kept Same (Err Unseen) still same (inr none) = inr (same refl ∙ still none)
    came_kept Same (Err fault) still same none = same refl ∙ still none
