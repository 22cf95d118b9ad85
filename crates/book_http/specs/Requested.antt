-- What is asked by a request that was read whole: by what its head asks, and the bytes after that.
use Rattle.std.specs.Prelude.{◌≡◌, ◌⊎◌, ◌<◌, ℕ, Bool, true, List, [], ◌++◌, length}
use Rattle.std.specs.Prelude.{IfOk, Option, Result, Ok, Err, Vec}
use Rattle.std.specs.Global.{Global}
use Rattle.httparse.specs.Grammar.{RequestHead}
use Rattle.streams.specs.declared.source.Source.{Source}
use Rattle.streams.specs.Sources.{has_ended}
use Rattle.book_http.specs.declared.asked.Asked.{Asked}
use Rattle.book_http.specs.declared.asked.Asked.TheVariants as asks
use Rattle.book_http.specs.declared.requested.ReadFailed.{ReadFailed}
use Rattle.book_http.specs.declared.served.Unanswered.{Unanswered}
use Rattle.book_http.specs.declared.served.Unanswered.TheVariants.{Closed, Failed}
use Rattle.book_http.specs.declared.status.Status.TheVariants.{BadRequest, Unavailable}
pub use Rattle.book_http.specs.Answer.{AnswersRequest, RequestSeen, Settles, WantsDetails}
pub use Rattle.book_http.specs.Answer.{WantsImport, WantsReport, WantsWhatIf, wanted_by, wanted_with}
use Rattle.book_http.specs.Asked.{asked}
use Rattle.book_http.specs.Head.{HasHead, HasNoHead}
use Rattle.book_http.specs.Reads.{IsDueOn, ReadOutcome, ReadsOn}
use Rattle.book_http.specs.Replies.{refusal, reply_of}

-- a request that was read whole, with its body
abbrev pub WholeRequest : Type 0
WholeRequest = Asked (Vec ℕ Global)

abbrev pub request_seen : WholeRequest → RequestSeen
request_seen (asks.Settled due) = Settles (reply_of due)
request_seen (asks.Report report kind) = WantsReport report kind
request_seen (asks.Details details) = WantsDetails details
request_seen (asks.WhatIf what_if body) = WantsWhatIf what_if body.items
request_seen (asks.Import layout body) = WantsImport layout body.items

-- the request is that; or memory ran out, and the reply says so
abbrev pub IsUnlessMemory : RequestSeen → RequestSeen → Type 0
IsUnlessMemory due request = (request ≡ due) ⊎ (request ≡ Settles (refusal Unavailable))

-- The bytes of a request ask this: they begin with no head, and are refused; or they begin with one,
-- and this is what it asks, by the bytes after it.
pub data AreAsking (bytes : List ℕ) (request : RequestSeen) : Type 0 where
  headless : 0 < length bytes → HasNoHead bytes → request ≡ Settles (refusal BadRequest)
      → AreAsking bytes request
  headed : (head : RequestHead) (behind : List ℕ) → HasHead bytes head behind
      → IsUnlessMemory (wanted_by (asked head) behind) request → AreAsking bytes request

-- This is what is asked by the bytes that were taken, whatever follows them; where the input ended,
-- nothing does.
abbrev pub IsAsking : Bool → List ℕ → WholeRequest → Type 0
IsAsking ended taken request =
    (more : List ℕ) → (ended ≡ true → more ≡ []) → AreAsking (taken ++ more) (request_seen request)

-- so is what is asked after a head that asks this, by the bytes that were taken after it
abbrev pub IsAskingAfter : Bool → Asked ℕ → List ℕ → WholeRequest → Type 0
IsAskingAfter ended wanted behind request =
    (more : List ℕ) → (ended ≡ true → more ≡ [])
    → IsUnlessMemory (wanted_by wanted (behind ++ more)) (request_seen request)

-- After a head that asks this, with these bytes behind it, a source was read on for its body alone; and
-- this is what is asked.
abbrev pub AsksAfter : {R : Type 0} {answers : _} {bytes : _} → (R → Option (List ℕ)) → ReadOutcome R
    → Asked ℕ → List ℕ → Source R answers bytes → Source R answers bytes
    → Result WholeRequest ReadFailed → Type 0
AsksAfter remaining MayAnswer wanted behind old new result =
    ReadsOn remaining MayAnswer (IsDueOn wanted behind) old new
    (λ came. IfOk result (IsAskingAfter (has_ended new) wanted (behind ++ came)))

-- What is asked by the bytes that were taken for a request; or nothing, where the input ended before
-- the first of them, or a read failed.
abbrev pub IsReadAs : Bool → Result WholeRequest Unanswered → List ℕ → Type 0
IsReadAs ended (Ok request) taken = IsAsking ended taken request
IsReadAs ended (Err Closed) taken = taken ≡ []
IsReadAs ended (Err Failed) taken = Unit {0}
