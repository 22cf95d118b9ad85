-- What is told of a session, once its files are dropped.
use Rattle.std.proofs.Common.{◌≡◌, Bool, true, false, Result, Ok, Err, inl, inr, subst, sym}
use Rattle.std.specs.Prelude.{if◌then◌else◌, MatchResult}
use Rattle.named_books.specs.declared.repository.RepositoryFault.{RepositoryFault}
use Rattle.named_books.specs.declared.repository.RepositoryFault.TheVariants.{Unseen}
use Rattle.named_books.specs.Shelves.{ComesBy}
use Rattle.named_books.proofs.ShelfLemmas.{same_where}
use Rattle.book_files.specs.Releases.{seen_answer}
use Rattle.book_sessions.specs.declared.ended.Ended.{Ended}
use Rattle.book_sessions.specs.declared.ended.Ended.TheVariants.{Refused}
use Rattle.book_sessions.specs.declared.ended.Ended.TheVariants as ended

-- what came of a visit, by what was seen of its closed files
seen_comes : {A : Type 0} (Came : A → Type 0) (Same : Type 0) (answer : Result A RepositoryFault)
    (kept : Bool) → MatchResult answer Came (λ fault. Same)
    → ComesBy Came Same (if kept then answer else Err Unseen)
seen_comes Came Same (Ok answer) true came = came
seen_comes {A} Came Same (Err fault) true same =
    same_where ((answer : A) × Came answer) Same fault same
seen_comes Came Same (Ok answer) false came = inl (answer, came)
seen_comes Came Same (Err fault) false same = inr same

-- and by what is told of it
pub comes_on : {A D : Type 0} (Came : A → Type 0) (Same : Type 0) (answer : Result A RepositoryFault)
    (ended : Ended D) (told : Result A RepositoryFault) → told ≡ seen_answer Unseen answer ended
    → MatchResult answer Came (λ fault. Same) → ComesBy Came Same told
comes_on Came Same answer (ended.Closed closed) told is came =
    subst (ComesBy Came Same) (sym is) (seen_comes Came Same answer closed.is_kept came)
comes_on Came Same answer (Refused files) told is came =
    subst (ComesBy Came Same) (sym is) (seen_comes Came Same answer true came)
