-- The same import twice in a row, among requests that bring their dumps.
use Rattle.std.specs.Prelude.{◌≡◌, ℕ, Bool, false, List, [], ◌∷◌, None, Ok, Option, Some, Vec}
use Rattle.std.specs.Global.{Global}
use Rattle.smf_frames.specs.declared.dump.Layout.{Layout}
use Rattle.book_model.specs.declared.note.Note.{Note}
use Rattle.book_model.specs.JournalLaws.{unjournaled}
use Rattle.book_model.specs.Words.{Naming, Book, Event, after_all}
use Rattle.book_core.specs.Transition.{Transition}
use Rattle.book_import.specs.declared.receipt.Receipt as receipt
use Rattle.book_import.specs.Repeats.{IsUnhindered}
use Rattle.office.specs.declared.request.Asked.TheVariants.{ImportBytes}
use Rattle.office.specs.declared.request.Answer.TheVariants.{Receipt}
use Rattle.office.specs.Runs.{Runs}

-- the book, but for the journal if an import says of itself what it does
abbrev pub but_for_said : Option Note → Book → Book
but_for_said None book = book
but_for_said (Some note) book = unjournaled book

-- such work leaves open books open, with this book, but for what imports say of themselves
pub record LeavesBook (said : Option Note) (Made : Transition) (before book : Book) : Type 0 where
  pub events : List Event
  pub made : Made false before events false
  pub leads : but_for_said said book ≡ but_for_said said (after_all events before)

-- The same dump twice in a row leaves the book that one leaves, if neither a lack of memory nor the
-- store stopped the first import. With a note that is said of all but the journal.
abbrev pub RunTwiceIsOnce : Type 0
RunTwiceIsOnce =
    (naming : Naming) (before : Book) (layout : Layout) (bytes : Vec ℕ Global) (said : Option Note)
    (once twice : receipt.Receipt) (events : List Event) (is : Bool)
    → Runs naming (ImportBytes layout bytes said ∷ ImportBytes layout bytes said ∷ [])
    (Ok (Receipt once) ∷ Ok (Receipt twice) ∷ []) false before events is
    → IsUnhindered once
    → LeavesBook said
    (Runs naming (ImportBytes layout bytes said ∷ []) (Ok (Receipt once) ∷ [])) before
    (after_all events before)
