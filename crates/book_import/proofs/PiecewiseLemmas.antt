-- What an import has done with the records of a dump that it reads in pieces.
use Rattle.std.proofs.Common.{◌≡◌, ◌∙◌, ℕ, List, [], ◌++◌, refl, sym, ap, subst, Option, Some, None}
use Rattle.std.proofs.Common.{append-nil, append_assoc, take, drop, arith, length, ◌≤◌, true, false}
use Rattle.std.proofs.Common.{true≢false}
use Rattle.std.proofs.lemmas.List.{take-append-drop}
use Rattle.std.specs.Prelude.{unwrap_or}
use Rattle.smf_frames.specs.declared.dump.Layout.{Layout}
use Rattle.streams.specs.InputOutput.{Input}
use Rattle.book_model.specs.JournalLaws.{unjournaled, without_notes}
use Rattle.book_model.specs.Words.{Front, front, Joining, HasTaken, nothing_joined}
use Rattle.book_model.specs.Words.{nothing_found, Naming, Note}
use Rattle.book_model.specs.declared.fault.LedgerFault.TheVariants.{Memory}
use Rattle.book_model.specs.declared.note.Stop.{Stop}
use Rattle.book_model.specs.declared.note.Stop.TheVariants.{End, Ledger}
use Rattle.book_core.specs.Ledgers.{Seen}
use Rattle.book_core.specs.Transition.{NoEvent, Then, Transition, IsTransition}
use Rattle.book_core.proofs.ThenLemmas.{first_as}
use Rattle.book_core.proofs.TransitionLemmas.{Implies, no_work, work_then, work_as}
use Rattle.book_import.specs.declared.import_entry.ImportEntry.{ImportEntry}
use Rattle.book_import.specs.declared.receipt.Receipt.{Receipt}
use Rattle.book_import.specs.Dumps.{stop_after, frame_stop}
use Rattle.book_import.specs.ReadLimits.{read_length}
use Rattle.book_import.specs.Reach.{EndsAs, IsReadFor}
use Rattle.book_import.specs.Receipts.{counted, receipt_stopped, is_stop_of_books}
use Rattle.book_import.specs.Imports.{BooksInput, Imports}
use Rattle.book_import.specs.ImportEntries.{BooksInPieces, BooksInputOf, ImportsOf, Says}
use Rattle.book_import.specs.EntryWork.{Ends, HasRead, note_of}
use Rattle.book_import.specs.Pieces.{BooksPiece, Follows, LeadsSaying, LeadsTo, Saying, SaysAt, SaysSo}
use Rattle.book_import.specs.Pieces.{StopsAt, TakesAll}
use Rattle.book_import.proofs.EndLemmas as endings
use Rattle.book_import.proofs.EndLemmas.{SaidStop, at_longer, ends_counted, ends_plain, says_at}
use Rattle.book_import.proofs.EntryLemmas.{says_nothing}
use Rattle.book_import.proofs.ImportLemmas.{all_handled, none_handled, none_yet}
use Rattle.book_import.proofs.FeedLemmas.{HasPassed, holds_here, passed_more, stop_is}
use Rattle.book_import.proofs.PieceLemmas.{behind_done}
use Rattle.book_import.proofs.ReachLemmas.{read_nothing}

-- the records of these bytes were handled, leading to this receipt, and the import has said so much
abbrev pub LeadsFrom : Seen → Seen → ImportEntry → Layout → List ℕ → Receipt → List (List ℕ) → Type 0
LeadsFrom begins now entry layout bytes receipt records =
    IsTransition begins now
    (Saying (SaysSo entry begins.naming layout bytes) (LeadsTo begins.naming records receipt))

-- a dump, seen up to the end of the next piece
pub pieces_go_on : (passed rest piece later bytes : List ℕ) (count : ℕ)
    → passed ++ rest ≡ bytes → piece ≡ take count rest → later ≡ drop count rest
    → (passed ++ piece) ++ later ≡ bytes
pieces_go_on passed rest piece later bytes count parts piece_is later_is =
    append_assoc passed piece later ∙ (λ i. passed ++ (piece_is i ++ later_is i))
    ∙ ap (λ those. passed ++ those) (take-append-drop count rest) ∙ parts

-- these bytes were imported, whatever follows them, and each of their records was counted
pub all_in_pieces : (import : Option Note) (layout : Layout) (old new : Seen)
    (bytes later all : List ℕ) (told : Receipt) → bytes ++ later ≡ all
    → length (front layout bytes).records ≤ counted told
    → IsTransition old new (ImportsOf import old.naming layout None bytes told)
    → BooksInPieces import layout all old new told
all_in_pieces import layout old new bytes later all told parts counts booked = record {
  before = bytes;
  last = [];
  later = later;
  parts = sym (ap (λ b. b ++ later) (append-nil bytes) ∙ parts);
  piece = omega arith;
  counts = counts;
  booked = subst (λ b. IsTransition old new (ImportsOf import old.naming layout None b told))
      (sym (append-nil bytes)) booked;
}

-- what was counted before is counted in the end
pub still_counted : (import : Option Note) (found : ℕ) (receipt read told : Receipt)
    → found ≤ counted receipt → counted receipt ≤ counted read → EndsAs import read told
    → found ≤ counted told
still_counted import found receipt read told all here ends =
    omega (arith, all, here, ends_counted import read told ends)

-- none yet
pub joins_nothing : (begins : Seen) (layout : Layout) (joiner : Joining) (entry : ImportEntry)
    (receipt : Receipt) → entry.begun ≡ false → entry.ended ≡ None → joiner ≡ nothing_joined layout
    → HasTaken [] joiner → front layout [] ≡ nothing_found → receipt ≡ receipt_stopped End
    → HasPassed layout [] joiner (LeadsFrom begins begins entry layout [] receipt)
joins_nothing begins layout joiner entry receipt begun ended is stands found so = record {
  layout_is = ap (λ (j : Joining). j.layout) is;
  none = ap (λ (j : Joining). j.ready) is;
  stands = stands;
  whole = ap (λ (f : Front). f.is_broken) found;
  done = subst (λ (f : Front). LeadsFrom begins begins entry layout [] receipt f.records) (sym found)
      (work_as begins begins NoEvent
      (Saying (SaysSo entry begins.naming layout []) (LeadsTo begins.naming [] receipt))
      (λ was before events is none. record {
        records = none_yet begins.naming receipt so was (unjournaled before) (without_notes events) is
            (record { none = ap without_notes none.none; same = none.same });
        said = subst (λ made. SaysSo entry begins.naming layout [] before made) (sym none.none)
            (subst (λ begun. Says (note_of entry) begun entry.ended begins.naming layout [] before [])
            (sym begun)
            (subst (λ ended. Says (note_of entry) false ended begins.naming layout [] before [])
            (sym ended) (says_nothing (note_of entry) begins.naming layout [] before)));
      })
      (no_work begins));
}

module _ (begins now : Seen) (entry : ImportEntry) (receipt : Receipt) {layout : Layout}
    {bytes : List ℕ} {joiner : Joining}
    (joins : HasPassed layout bytes joiner (LeadsFrom begins now entry layout bytes receipt))
    (has : HasRead bytes entry) where
  -- what becomes of everything with a piece, under the naming and the layout of the beginning
  with_piece : (next : Seen) (Made : Naming → Layout → List ℕ → Transition)
      → ((text : List ℕ) → HasTaken text joiner → HasRead text entry
      → IsTransition now next (Follows (LeadsSaying entry now.naming joiner.layout text receipt)
      (Made now.naming joiner.layout text)))
      → IsTransition begins next (Made begins.naming layout bytes)
  with_piece next Made handled =
      let First : Transition = LeadsSaying entry begins.naming layout bytes receipt in
      work_as begins next _ (Made begins.naming layout bytes)
      (behind_done First (Made begins.naming layout bytes)
      (λ was before events is led. led.records.same))
      (work_then begins now next First (Follows First (Made begins.naming layout bytes)) joins.done
      (holds_here joins (λ l text. HasRead text entry → IsTransition now next
      (Follows (LeadsSaying entry begins.naming l text receipt) (Made begins.naming l text)))
      (λ text stood read. subst (λ naming. IsTransition now next
      (Follows (LeadsSaying entry naming joiner.layout text receipt)
      (Made naming joiner.layout text))) joins.done.naming (handled text stood read)) has))

  -- one more piece
  pub joins_more : {new : Joining} {piece : List ℕ} (next : Seen) (after : ImportEntry)
      (later : Receipt) → TakesAll joiner piece new
      → BooksPiece now next joiner piece entry after receipt later None
      → HasPassed layout (bytes ++ piece) new
      (LeadsFrom begins next after layout (bytes ++ piece) later)
  joins_more {piece = piece} next after later taken handled =
      passed_more joins taken
      (with_piece next (λ naming l text. LeadsSaying after naming l (text ++ piece) later) handled)

  -- the import was stopped in a piece, whatever bytes follow it, and is over
  pub joins_stopped_before : (next last : Seen) (piece : List ℕ) (after : ImportEntry)
      (later told : Receipt) (stop : Stop)
      → BooksPiece now next joiner piece entry after receipt later (Some stop)
      → SaidStop after stop → IsTransition next last (Ends after later stop told)
      → (more : List ℕ) (cut : Option Stop)
      → IsTransition begins last
      (ImportsOf (note_of after) begins.naming layout cut ((bytes ++ piece) ++ more) told)
  joins_stopped_before next last piece after later told stop handled said ends more cut =
      let naming = begins.naming in
      let upto = bytes ++ piece in
      let text = upto ++ more in
      let here = record later { stop = stop } in
      let Stopped = Saying (SaysAt stop after naming layout upto) (StopsAt naming layout upto here) in
      let Over = Saying (SaysAt stop after naming layout text) (Imports naming layout cut text here) in
      work_as begins last (Then Stopped (Ends after later stop told))
      (ImportsOf (note_of after) naming layout cut text told)
      (λ was before events is both.
      endings.over naming layout cut text after later stop told said was before events is
      (first_as {First = Stopped} {Other = Over} (λ was before events is so. record {
        records = so.records more cut;
        said = at_longer stop after naming layout upto more before events so.said;
      }) was before events is both))
      (work_then begins next last Stopped (Ends after later stop told)
      (with_piece next (λ naming l text. Saying (SaysAt stop after naming l (text ++ piece))
      (StopsAt naming l (text ++ piece) here)) handled) ends)

  -- the import was stopped in the last piece
  pub joins_stopped : (next last : Seen) (piece : List ℕ) (after : ImportEntry)
      (later told : Receipt) (stop : Stop)
      → BooksPiece now next joiner piece entry after receipt later (Some stop)
      → SaidStop after stop → IsTransition next last (Ends after later stop told)
      → (cut : Option Stop)
      → IsTransition begins last
      (ImportsOf (note_of after) begins.naming layout cut (bytes ++ piece) told)
  joins_stopped next last piece after later told stop handled said ends cut =
      subst (λ all. IsTransition begins last
      (ImportsOf (note_of after) begins.naming layout cut all told)) (append-nil (bytes ++ piece))
      (joins_stopped_before next last piece after later told stop handled said ends [] cut)

  -- no more pieces come
  pub joins_ended : (last : Seen) (told : Receipt) (stop : Stop) (cut : Option Stop)
      → ((text : List ℕ) → HasTaken text joiner
      → stop ≡ unwrap_or cut (frame_stop (front joiner.layout text).fault))
      → is_stop_of_books stop ≡ false → SaidStop entry stop
      → IsTransition now last (Ends entry receipt stop told)
      → IsTransition begins last (ImportsOf (note_of entry) begins.naming layout cut bytes told)
  joins_ended last told stop cut stopped other said ends =
      let naming = begins.naming in
      let found = front layout bytes in
      let read = record receipt { stop = stop } in
      let Led = LeadsSaying entry naming layout bytes receipt in
      let Over = Saying (SaysAt stop entry naming layout bytes) (Imports naming layout cut bytes read) in
      work_as begins last (Then Led (Ends entry receipt stop told))
      (ImportsOf (note_of entry) naming layout cut bytes told)
      (λ was before events is both.
      endings.over naming layout cut bytes entry receipt stop told said was before events is
      (first_as {First = Led} {Other = Over} (λ was before events is so. record {
        records = all_handled naming found.records receipt read (stop_after cut found)
            (ap (λ stop. record receipt { stop = stop }) (stop_is joins cut stopped)) was
            (unjournaled before) (without_notes events) is so.records;
        said = says_at stop entry naming layout bytes before events other so.said;
      }) was before events is both))
      (work_then begins now last Led (Ends entry receipt stop told) joins.done ends)

  -- the import was stopped in a piece, and each record before it was counted
  pub stopped_in_pieces : (next last : Seen) (piece more all : List ℕ) (after : ImportEntry)
      (further told : Receipt) (stop : Stop)
      → BooksPiece now next joiner piece entry after receipt further (Some stop)
      → SaidStop after stop → IsTransition next last (Ends after further stop told)
      → EndsAs (note_of after) (record further { stop = stop }) told
      → (bytes ++ piece) ++ more ≡ all → length piece ≤ read_length
      → length (front layout bytes).records ≤ counted receipt
      → counted receipt ≤ counted further → BooksInPieces (note_of after) layout all begins last told
  stopped_in_pieces next last piece more all after further told stop handled said ends told_as parts few
      counts here =
      record {
        before = bytes;
        last = piece;
        later = more;
        parts = sym parts;
        piece = few;
        counts = still_counted (note_of after) (length (front layout bytes).records) receipt
            (record further { stop = stop }) told counts here told_as;
        booked = joins_stopped next last piece after further told stop handled said ends None;
      }

-- nothing was handled, because memory had run out
pub none_imported : (seen : Seen) (import : Option Note) (layout : Layout) (cut : Option Stop)
    (bytes : List ℕ) (told : Receipt) → told ≡ receipt_stopped (Ledger Memory)
    → IsTransition seen seen (ImportsOf import seen.naming layout cut bytes told)
none_imported seen import layout cut bytes told so =
    let found = front layout bytes in
    work_as seen seen NoEvent (ImportsOf import seen.naming layout cut bytes told)
    (λ was before events is none. record {
      booked = none_handled seen.naming (stop_after cut found) found.records told so was before
          (without_notes events) is
          (record { none = ap without_notes none.none; same = none.same });
      says = record {
        begun = false;
        ended = None;
        says = subst (λ made. Says import false None seen.naming layout bytes before made)
            (sym none.none) (says_nothing import seen.naming layout bytes before);
        over = λ some begun free. absurd (true≢false (sym begun));
      };
    })
    (no_work seen)

-- memory ran out before anything was read
pub no_room : (seen : Seen) (import : Option Note) (most : ℕ) (layout : Layout) (allowed : ℕ)
    (cut : Option Stop) (input : Input) (told : Receipt) → told ≡ receipt_stopped (Ledger Memory)
    → input.new.left ≡ input.old.left → input.new.reads ≡ input.old.reads
    → input.new.has_failed ≡ false → input.new.has_ended ≡ false
    → BooksInputOf import most layout allowed seen seen cut input told
no_room seen import most layout allowed cut input told so same asked failed ended = (
  [],
  (
    told,
    ends_plain import told told refl,
    read_nothing most layout allowed told input
        (ap (λ (one : Receipt). is_stop_of_books one.stop) so) same asked failed ended,
  ),
  none_imported seen import layout cut [] told so,
)

-- bytes were read, and imported with the note of this entry
pub imported_of : (old last : Seen) (import : Option Note) (entry : ImportEntry) (most : ℕ)
    (layout : Layout) (allowed : ℕ) (cut : Option Stop) (input : Input) (bytes : List ℕ)
    (read told : Receipt) → note_of entry ≡ import → EndsAs (note_of entry) read told
    → IsReadFor most layout allowed bytes read input
    → IsTransition old last (ImportsOf (note_of entry) old.naming layout cut bytes told)
    → BooksInputOf import most layout allowed old last cut input told
imported_of old last import entry most layout allowed cut input bytes read told is ends taken booked =
    subst (λ import. BooksInputOf import most layout allowed old last cut input told) is
    (bytes, (read, ends, taken), booked)

-- with no note, records alone are imported
pub without_note : (naming : Naming) (layout : Layout) (cut : Option Stop) (bytes : List ℕ)
    (told : Receipt)
    → Implies (ImportsOf None naming layout cut bytes told) (Imports naming layout cut bytes told)
without_note naming layout cut bytes told was before events is of =
    subst (λ made. Imports naming layout cut bytes told was before made is) of.says.says of.booked

pub input_without_note : (most : ℕ) (layout : Layout) (allowed : ℕ) (old new : Seen)
    (cut : Option Stop) (input : Input) (told : Receipt)
    → BooksInputOf None most layout allowed old new cut input told
    → BooksInput most layout allowed old new cut input told
input_without_note most layout allowed old new cut input told booked = (
  booked.0,
  subst (λ told. IsReadFor most layout allowed booked.0 told input) (sym booked.1.1) booked.1.2,
  work_as old new (ImportsOf None old.naming layout cut booked.0 told)
      (Imports old.naming layout cut booked.0 told)
      (without_note old.naming layout cut booked.0 told) booked.2,
)
