-- The law of the commands, at a place in memory.
use Rattle.std.specs.Prelude.{◌≡◌, ℕ, List, [], Option, None, Ok}
use Rattle.std.specs.Borrow.{Bor}
use Rattle.book_model.specs.Words.{Naming}
use Rattle.book_core.specs.Ledgers.{Seen}
use Rattle.command_line.specs.declared.request.BookRequest.TheVariants.{Init}
use Rattle.command_line.specs.declared.request.NoteWords.{NoteWords}
use Rattle.command_line.specs.declared.request.Request.TheVariants.{OfBooks}
use Rattle.program_output.specs.declared.status.Status.TheVariants.{Done}
use Rattle.chargectl.specs.CommandLaws.{AreCommanded, Commanded, LeaveHistory, place_after}
use Rattle.chargectl.specs.Requests.{Answering, CommandsBy}
use Rattle.memory_books.specs.declared.shelf.MemoryBooks.{MemoryBooks}
use Rattle.memory_books.specs.Kept.{books_at}
use Rattle.memory_books.specs.MemoryShelf.{memory_shelf}

-- an opening would wait for so many seconds
abbrev pub waits_in : {L : Type 0} → MemoryBooks L → ℕ → Type 0
waits_in place seconds = place.wait ≡ seconds

-- No books had a name. A command was told to make some under it, and ended well; and then any commands
-- were done. The books of the name are those of the history that these made, and each of them told what
-- the definitions give for the whole history before it.
abbrev pub CommandsFromNothing : {L O E : Type 0} → (L → Seen) → Naming → (O → Option (List ℕ))
    → Answering O → (List (List ℕ) → E → E → Type 0) → Type 0
CommandsFromNothing {L} {O} {E} seen names contents may_answer Says =
    (before : MemoryBooks L) (first : Commanded (MemoryBooks L) O E)
    (later : List (Commanded (MemoryBooks L) O E)) (book : Bor (List ℕ)) (wait : ℕ)
    (note : NoteWords)
    (one : CommandsBy first.files (memory_shelf seen names) waits_in before first.after first.words
    first.had contents may_answer first.held first.holds Says first.quiet first.said first.status)
    → one.asked ≡ Ok (OfBooks book wait note Init) → first.status ≡ Done
    → books_at before.kept.items book.now ≡ None
    → AreCommanded (memory_shelf seen names) waits_in contents may_answer Says first.after later
    → LeaveHistory (memory_shelf seen names) contents may_answer first.after names book.now [] later
    (place_after first.after later)
