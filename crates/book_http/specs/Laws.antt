-- Laws of requests, over the definition of their answers alone.
use Rattle.std.specs.Prelude.{◌≡◌, ◌≢◌, ℕ, Bool, false, List, ◌++◌}
use Rattle.book_model.specs.Words.{Naming, Book, Event, after_all, book_after, book_of, IsMadeByCalls}
use Rattle.book_model.specs.JournalLaws.{unjournaled, without_notes}
use Rattle.book_model.specs.declared.fault.LedgerFault.TheVariants.{DigestClash}
use Rattle.book_import.specs.declared.receipt.Receipt.{Receipt}
use Rattle.book_model.specs.declared.note.Stop.TheVariants.{Ledger}
use Rattle.book_import.specs.Repeats as imports
use Rattle.book_http.specs.declared.status.Status.TheVariants.{Unavailable}
use Rattle.book_http.specs.Answer.{Answers}
use Rattle.book_http.specs.Replies.{Reply, refusal, receipt_reply}

-- one reply, and one change of the books, but for what imports say of themselves
pub record IsSame (one other : Reply) (first second : List Event) : Type 0 where
  pub reply : one ≡ other
  pub events : without_notes first ≡ without_notes second

-- A request has one answer, by its bytes and the book before it, and so it does one thing to the
-- books: where two answers to it differ, one of them is Unavailable. When it came, and who sent it,
-- stands in the journal alone.
abbrev pub AnswersAreOne : Type 0
AnswersAreOne =
    (naming : Naming) (before : Book) (bytes : List ℕ) (one other : Reply) (was : Bool)
    (first second : List Event) (is_one is_other : Bool)
    → Answers naming bytes one was before first is_one → one.status ≢ Unavailable
    → Answers naming bytes other was before second is_other → other.status ≢ Unavailable
    → IsSame one other first second

-- The reply reports neither a lack of memory nor a store that failed: it is not the bare refusal,
-- and not the receipt line of an import that one of them stopped.
pub record IsUnhindered (reply : Reply) : Type 0 where
  pub done : reply ≢ refusal Unavailable
  pub whole : (told : Receipt) → reply ≡ receipt_reply told → imports.IsUnhindered told

-- Twice is once: where neither a lack of memory nor the store hindered the first, the same request
-- to open books twice in a row leaves the book that one leaves, whatever hinders the second, but
-- for the journal. So it is safe to repeat a request whose answer was lost.
abbrev pub RequestTwiceIsOnce : Type 0
RequestTwiceIsOnce =
    (naming : Naming) (before : Book) (bytes : List ℕ) (once twice : Reply)
    (first second : List Event) (between is : Bool)
    → Answers naming bytes once false before first between → IsUnhindered once
    → Answers naming bytes twice between (after_all first before) second is
    → unjournaled (after_all (second ++ first) before) ≡ unjournaled (after_all first before)

-- Nor does it report that two records have one name.
pub record IsWhole (reply : Reply) : Type 0 where
  pub unhindered : IsUnhindered reply
  pub apart : (told : Receipt) → reply ≡ receipt_reply told → told.stop ≢ Ledger DigestClash

-- Stops are mended: from each of the books that a request may have left, whatever hindered it, the
-- same request leaves the books of one that nothing hindered, but for the journal. So it is safe to
-- repeat a request after a stop, too.
abbrev pub RequestsAreMended : Type 0
RequestsAreMended =
    (naming : Naming) (before : Book) (bytes : List ℕ) (once twice alone : Reply)
    (first second all : List Event) (between is end : Bool)
    → Answers naming bytes once false before first between
    → Answers naming bytes twice false (after_all first before) second is → IsWhole twice
    → Answers naming bytes alone false before all end → IsUnhindered alone
    → unjournaled (after_all (second ++ first) before) ≡ unjournaled (after_all all before)

-- a history that continues with events, and defines the book that they leave
pub record ContinuesHistory (naming : Naming) (history events : List Event) : Type 0 where
  pub answered : IsMadeByCalls naming (events ++ history)
  pub is : after_all events (book_after history) ≡ book_of (events ++ history)

-- What a request does to the books of a history that calls made is such a history again. So the
-- laws of all histories hold of them, as that nothing is lost or made.
abbrev pub RequestsMakeHistory : Type 0
RequestsMakeHistory =
    (naming : Naming) (history : List Event) (bytes : List ℕ) (reply : Reply) (was : Bool)
    (events : List Event) (is : Bool) → IsMadeByCalls naming history
    → Answers naming bytes reply was (book_after history) events is
    → ContinuesHistory naming history events
