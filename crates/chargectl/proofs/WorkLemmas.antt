-- Works withheld by the records of a dump.
use Rattle.std.proofs.Common.{◌≡◌, List, ℕ, Option, Result, Ok, Err, IfOk, IsErr, IsErrAnd, subst}
use Rattle.std.proofs.Common.{sym, true≢false}
use Rattle.std.specs.declared.alloc.AllocError.{AllocError}
use Rattle.sha2.specs.Sha256.{sha256}
use Rattle.smf_frames.specs.declared.dump.Layout.{Layout}
use Rattle.streams.specs.InputOutput.{Input}
use Rattle.book_import.specs.DumpNames.{AreNamed}
use Rattle.book_import.specs.ReadLimits.{most_reads}
use Rattle.book_import.specs.declared.names_in_dumps.DumpNames.{DumpNames}
use Rattle.book_model.specs.declared.note.Stop.{Stop}
use Rattle.named_books.proofs.ShelfLemmas.{untouched}
use Rattle.chargectl.specs.WithheldWorks.{ComesOfDump, IsNamedOf, WithholdsNothing}
use Rattle.chargectl.specs.declared.withheld_works.WorksAnswered.{WorksAnswered}
use Rattle.chargectl.proofs.Words.{CommandFault, Shelf}

-- the names of what a reader gave
pub named_of : (layout : Layout) (had : Option (List ℕ)) (cut : Option Stop) (input : Input)
    (told : Result DumpNames AllocError) → input.old.left ≡ had
    → IfOk told (AreNamed sha256 layout cut most_reads input) → IfOk told (IsNamedOf layout had)
named_of layout had cut input (Ok named) begun names =
    record { cut = cut; input = input; begun = begun; names = names }
named_of layout had cut input (Err none) begun names = tt

-- nothing was withheld, and this is why
pub not_withheld : (layout : Layout) (had : Option (List ℕ)) (book : List ℕ) (shelf : Shelf)
    (result : Result WorksAnswered CommandFault) (found : CommandFault) → IsErr result
    → IsErrAnd result (λ why. why ≡ found) → WithholdsNothing (shelf.refuses book) found
    → ComesOfDump layout had book shelf shelf result
not_withheld layout had book shelf (Ok answered) found bad is why =
    absurd (true≢false (sym bad))
not_withheld layout had book shelf (Err fault) found bad is why =
    (subst (WithholdsNothing (shelf.refuses book)) (sym is) why, untouched book shelf)
