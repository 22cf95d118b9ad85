-- What a client does to the books of a name, by what it sends, where that is known, and by what is told
-- of it.
use Rattle.std.specs.Prelude.{◌≡◌, Bool, ℕ, List, [], ◌∷◌, ◌++◌, IfSome, None, Option, Result, Ok}
use Rattle.std.specs.Prelude.{Err}
use Rattle.book_model.specs.Words.{Book, Event, Naming}
use Rattle.book_http.specs.declared.served.Served.{Served}
use Rattle.book_http.specs.declared.status.Status.TheVariants.{Unavailable}
use Rattle.book_http.specs.Answer.{Answers}
use Rattle.book_http.specs.Replies.{Reply, busy, refusal}
use Rattle.named_books.specs.declared.repository.RepositoryFault.{RepositoryFault}
use Rattle.named_books.specs.Shelves.{Shelf, IsOpened, IsUntouched}
pub use Rattle.request_bursts.specs.Bursts.{Fits}
use Rattle.book_http.specs.declared.served.Served.TheVariants as served
use Rattle.named_books.specs.declared.repository.RepositoryFault.TheVariants as shelf

-- what is answered where the books were in the way: others had them, or they could not be opened; or it
-- was not seen that the closed files hold what was done, which may be all of it or nothing
abbrev pub away_reply : RepositoryFault → Reply
away_reply shelf.Busy = busy
away_reply why = refusal Unavailable

-- These bytes are the first of what a client sends, where that is known.
abbrev pub IsFrontOf : Option (List ℕ) → List ℕ → Type 0
IsFrontOf sent bytes = IfSome sent (λ all. (rest : List ℕ) × (all ≡ bytes ++ rest))

-- Some bytes came of what a client sends, the books did what they ask, and what is due to that fits what
-- is told.
pub record AnswersSome (naming : Naming) (sent : Option (List ℕ)) (what : Served) (was : Bool)
    (before : Book) (events : List Event) (is : Bool) : Type 0 where
  pub bytes : List ℕ
  pub front : IsFrontOf sent bytes
  pub due : Reply
  pub left : Bool
  pub made : Answers naming bytes due was before events left
  pub fits : Fits what due

-- what is told of a client that was answered so, or where the place refused the books, as the reply says
abbrev pub IsToldOf : Result Served RepositoryFault → Served → Type 0
IsToldOf (Ok so) what = what ≡ so
IsToldOf (Err why) what = Fits what (away_reply why)

-- One client was replied to: what its bytes ask was done to the books of a name; or their place, as it
-- was before, refused them.
pub record Replies (book : List ℕ) (sent : Option (List ℕ)) (what : Served) (old new : Shelf)
    : Type 0 where
  pub came : Result Served RepositoryFault
  pub done : IsOpened (AnswersSome old.naming sent) book old new came
  pub told : IsToldOf came what

-- What one connection does to the books of a name, by what it sends, where that is known, and by what
-- became of it.
abbrev pub ServesOne : List ℕ → Option (List ℕ) → Served → Shelf → Shelf → Type 0
ServesOne book sent served.Closed old new = IsUntouched book old new
ServesOne book sent served.ReadFault old new = IsUntouched book old new
ServesOne book sent what old new = Replies book sent what old new

-- Connections in turn, the newest first: each found the books where the one before it left them. Of the
-- sockets of a machine it is not known what they send.
abbrev pub ServesInTurn : {S : Type 0} → (S → Shelf) → List ℕ → S → S → List Served → Type 0
ServesInTurn shelf book old new [] = IsUntouched book (shelf old) (shelf new)
ServesInTurn {S} shelf book old new (what ∷ before) =
    (between : S) × ServesInTurn shelf book old between before
    × ServesOne book None what (shelf between) (shelf new)

-- So it is with those that were answered behind a client, while the books were open for it: reports make
-- no event, so each of them found the books as one for which they are opened alone.
abbrev pub ServesBehind : {S : Type 0} → (S → Shelf) → List ℕ → S → S → List Served → Type 0
ServesBehind shelf book old new [] = new ≡ old
ServesBehind {S} shelf book old new (what ∷ before) =
    (between : S) × ServesBehind shelf book old between before
    × ServesOne book None what (shelf between) (shelf new)
