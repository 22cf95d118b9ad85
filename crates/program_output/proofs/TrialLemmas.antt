-- What makes a trial: new books, the import, and what was written.
use Rattle.std.proofs.Common.{◌≡◌, ◌≢◌, ◌∙◌, ℕ, false, List, [], ◌∷◌, ◌++◌, Option, Result, Err}
use Rattle.std.proofs.Common.{refl, ap, subst, IfOk}
use Rattle.std.specs.Io.KnownBytes.{Appends}
use Rattle.sha2.specs.Sha256.{sha256}
use Rattle.streams.specs.InputOutput.{Input, ReaderSeen}
use Rattle.book_model.specs.Words.{Layout, Terms, front, Book, flat_book, Event, after_all, Naming}
use Rattle.book_model.specs.Words.{Rulings}
use Rattle.book_core.specs.Words.{in_memory, IsTransition}
use Rattle.book_model.specs.declared.fault.LedgerFault.TheVariants.{Memory}
use Rattle.book_import.specs.declared.receipt.Receipt.{Receipt}
use Rattle.book_model.specs.declared.note.Stop.{Stop}
use Rattle.book_model.specs.declared.note.Stop.TheVariants.{Ledger}
use Rattle.book_import.specs.Dumps.{stop_after}
use Rattle.book_import.specs.Reach.{IsReadFor}
use Rattle.book_import.specs.ReadLimits.{piece_length}
use Rattle.book_import.specs.Imports.{Imports}
use Rattle.book_import.specs.Imports.Handles.{out_of_memory}
use Rattle.book_import.proofs.ReachLemmas.{read_nothing}
use Rattle.book_import.proofs.NoRulingLemmas.{handles_kept, rulings_stay}
use Rattle.book_import.specs.Receipts.{receipt_stopped}
use Rattle.book_lists.specs.declared.fault.ReportFault.{ReportFault}
use Rattle.book_lists.specs.declared.fault.ReportFault.TheVariants.{Write}
use Rattle.book_lists.specs.Writing.{WritesTexts}
use Rattle.book_lists.proofs.WritingLemmas.{nothing_written, others_written}
use Rattle.book_reports.specs.ReceiptLines.{receipt_line_text}
use Rattle.book_reports.specs.BookTexts.{dispute_text, open_statement}
use Rattle.program_output.specs.Readings.{reading}
use Rattle.program_output.specs.Trials.{IsTrial, trial_texts}

-- what the import made of new books under a tariff
pub record IsBooked (terms : Terms) (layout : Layout) (cut : Option Stop) (bytes : List ℕ)
    (told : Receipt) (left : Book) : Type 0 where
  pub events : List Event
  pub booked : Imports sha256 layout cut bytes told false (flat_book terms) events false
  pub leads : left ≡ after_all events (flat_book terms)

-- it is what the work of the import on a ledger in memory made
pub is_booked : (terms : Terms) (layout : Layout) (cut : Option Stop) (bytes : List ℕ)
    (told : Receipt) (naming : Naming) (old new : Book) → old ≡ flat_book terms
    → IsTransition (in_memory sha256 old) (in_memory naming new) (Imports sha256 layout cut bytes told)
    → IsBooked terms layout cut bytes told new
is_booked terms layout cut bytes told naming old new start work =
    let came = work.moves tt tt new refl in
    let stood = came.stood ∙ start in
    record {
      events = came.events;
      booked = subst (λ before. Imports sha256 layout cut bytes told false before came.events false)
          stood came.made;
      leads = came.leads ∙ ap (after_all came.events) stood;
    }

-- no period was closed of such books
pub never_closed : (terms : Terms) (layout : Layout) (cut : Option Stop) (bytes : List ℕ)
    (told : Receipt) (left : Book) → IsBooked terms layout cut bytes told left
    → left.rulings.closes ≡ []
never_closed terms layout cut bytes told left is =
    let dump = front layout bytes in
    let kept = handles_kept sha256 (stop_after cut dump) dump.records told false (flat_book terms)
    is.events false is.booked in
    ap (λ (book : Book). book.rulings.closes) is.leads
    ∙ ap (λ (rulings : Rulings). rulings.closes) (rulings_stay is.events kept (flat_book terms))

-- the receipt line and the statement were written, and then the disputes, up to a fault
pub texts_written : (told : Receipt) (book after : Book) (held one two holds : Option (List ℕ))
    (answer : Result Receipt ReportFault) → after ≡ book
    → Appends held one (receipt_line_text told ++ []) → Appends one two (open_statement book ++ [])
    → WritesTexts (dispute_text after ∷ []) two holds answer
    → WritesTexts (trial_texts told book) held holds answer
texts_written told book after held one two holds answer stays line statement disputes =
    others_written (receipt_line_text told) (open_statement book ∷ dispute_text book ∷ []) held one
    holds answer line
    (others_written (open_statement book) (dispute_text book ∷ []) one two holds answer statement
    (subst (λ book. WritesTexts (dispute_text book ∷ []) two holds answer) stays disputes))

module _ {terms : Terms} {layout : Layout} {cut : Option Stop} {allowed : ℕ} {input : Input} where
  -- new books, the import, and what was written
  pub is_trial : {held holds : Option (List ℕ)} {answer : Result Receipt ReportFault}
      {book : Book} (told : Receipt) (bytes : List ℕ)
      → IsReadFor piece_length layout allowed bytes told input
      → IsBooked terms layout cut bytes told book
      → WritesTexts (trial_texts told book) held holds answer
      → IfOk answer (λ receipt. receipt ≡ told)
      → IsTrial terms (reading layout cut allowed input) held holds answer
  is_trial {held = held} {holds = holds} {answer = answer} told bytes read is written receipt =
      record {
        bytes = bytes;
        told = told;
        events = is.events;
        read = read;
        booked = is.booked;
        written = subst (λ book. WritesTexts (trial_texts told book) held holds answer) is.leads written;
        receipt = receipt;
      }

  -- without memory for new books nothing is read or written
  pub no_trial : (held : Option (List ℕ)) (fault : ReportFault) → fault ≢ Write
      → input.new ≡ input.old → input.new.has_failed ≡ false → input.new.has_ended ≡ false
      → IsTrial terms (reading layout cut allowed input) held held (Err fault)
  no_trial held fault other same failed ended =
      let told : Receipt = receipt_stopped (Ledger Memory) in
      let others = open_statement (flat_book terms) ∷ dispute_text (flat_book terms) ∷ [] in
      record {
        bytes = [];
        told = told;
        events = [];
        read = read_nothing piece_length layout allowed told input refl
            (ap (λ (one : ReaderSeen). one.left) same) (ap (λ (one : ReaderSeen). one.reads) same)
            failed ended;
        booked = out_of_memory 0 refl (record { receipt = refl; events = refl });
        written = nothing_written fault held (receipt_line_text told) others other;
        receipt = tt;
      }
