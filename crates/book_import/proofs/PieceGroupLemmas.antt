-- What an import has done with the records that a piece of a dump completes.
use Rattle.std.proofs.Common.{◌≡◌, ◌∙◌, List, [], ◌++◌, ℕ, length, refl, sym, ap, subst}
use Rattle.std.proofs.Common.{Ok, Err, Option, Some, None, Result, append_assoc, append-nil}
use Rattle.std.proofs.Common.{is_some, true≢false}
use Rattle.std.specs.Prelude.{IfSome, option_map, unwrap_or}
use Rattle.smf_frames.specs.declared.dump.Layout.{Layout}
use Rattle.smf_frames.specs.declared.fault.FrameFault.{FrameFault}
use Rattle.book_model.specs.JournalLaws.{unjournaled, without_notes}
use Rattle.book_model.specs.Words.{Book, Event, Front, front, Joining, HasTaken, Naming}
use Rattle.book_model.specs.declared.fault.LedgerFault.{LedgerFault}
use Rattle.book_model.specs.declared.fault.LedgerFault.TheVariants.{Memory}
use Rattle.book_core.specs.Ledgers.{Seen}
use Rattle.book_core.specs.Transition.{NoEvent, IsTransition, Transition}
use Rattle.book_core.proofs.TransitionLemmas.{no_work, work_as}
use Rattle.book_import.specs.declared.group.Group.{Group}
use Rattle.book_import.specs.declared.import_entry.ImportEntry.{ImportEntry}
use Rattle.book_import.specs.declared.receipt.Receipt.{Receipt}
use Rattle.book_model.specs.declared.note.Stop.{Stop}
use Rattle.book_model.specs.declared.note.Stop.TheVariants.{Frame, Ledger}
use Rattle.book_import.specs.Dumps.{frame_stop, stop_after}
use Rattle.book_import.specs.EntryWork.{note_of}
use Rattle.book_import.specs.Handled.{Imported}
use Rattle.book_import.specs.Imports.{Handles, out_of_memory}
use Rattle.book_import.specs.Pieces.{Follows, HandlesPiece, LeadsSaying, LeadsTo, Saying, SaysAt}
use Rattle.book_import.specs.Pieces.{SaidEnd, SaysSo, StopsAt, TakesAll}
use Rattle.book_import.specs.Groups.{Breaks, Gathers, HandlesGroup}
use Rattle.book_import.proofs.EntryLemmas.{says_longer}
use Rattle.book_import.proofs.FeedLemmas.{records_after}
use Rattle.book_import.proofs.ImportLemmas.{all_handled, first_told}
use Rattle.book_import.proofs.PieceLemmas.{behind_nothing}

-- after the records that a piece completes come those of what follows
pub records_follow : {old new : Joining} {piece : List ℕ} (broken : Option FrameFault)
    → (broken ≡ None → TakesAll old piece new)
    → IfSome broken (λ fault. (text more : List ℕ) → HasTaken text old
    → Breaks old.layout (text ++ piece) more fault)
    → (text : List ℕ) → HasTaken text old → (more : List ℕ)
    → (later : List (List ℕ)) × ((front old.layout ((text ++ piece) ++ more)).records
    ≡ (front old.layout (text ++ piece)).records ++ later)
records_follow None taken broken text stood more =
    let all = taken refl in records_after all.layout_is (all.stands text stood) more
records_follow {old = old} {piece = piece} (Some fault) taken broken text stood more = (
  [],
  ap (λ (f : Front). f.records) (broken text more stood)
      ∙ sym (append-nil (front old.layout (text ++ piece)).records),
)

-- an import that has read more has said what it had said
pub read_says : (entry after : ImportEntry) (naming : Naming) (layout : Layout)
    (text piece : List ℕ) (before : Book) (made : List Event)
    → after ≡ record entry { bytes = after.bytes }
    → SaysSo entry naming layout text before made
    → SaysSo after naming layout (text ++ piece) before made
read_says entry after naming layout text piece before made same says =
    subst (λ after. SaysSo after naming layout (text ++ piece) before made) (sym same)
    (says_longer (note_of entry) entry.begun entry.ended naming layout text piece before made says)

module _ (begins now : Seen) (layout : Layout) (text piece : List ℕ) (entry after : ImportEntry)
    (before told : Receipt) {group : Group} (gathered : Gathers layout text piece group) where
  abbrev Begun : Transition
  Begun = LeadsSaying entry begins.naming layout text before

  -- a group of an import that has read it
  pub group_of : (read : ImportEntry) (result : Result (Unit {0}) LedgerFault)
      → read ≡ record entry { bytes = read.bytes }
      → IsTransition begins now
      (HandlesGroup begins.naming layout text piece gathered.records read after before told result)
      → IsTransition begins now
      (HandlesGroup begins.naming layout text piece gathered.records entry after before told result)
  group_of read (Ok done) same work =
      subst (λ (read : ImportEntry). IsTransition begins now
      (HandlesGroup begins.naming layout text piece gathered.records read after before told (Ok done)))
      same work
  group_of read (Err fault) same work =
      subst (λ (read : ImportEntry). IsTransition begins now
      (HandlesGroup begins.naming layout text piece gathered.records read after before told
      (Err fault))) same work

  -- all of them were handled
  pub piece_led :
      IsTransition begins now
      (HandlesGroup begins.naming layout text piece gathered.records entry after before told (Ok tt))
      → IsTransition begins now
      (HandlesPiece begins.naming layout text piece entry after before told None)
  piece_led work =
      subst (λ all. IsTransition begins now (Follows Begun
      (Saying (SaysSo after begins.naming layout (text ++ piece)) (LeadsTo begins.naming all told))))
      (sym gathered.found) work

  -- they were, and a fault of a descriptor comes after them
  pub piece_broken : (fault : FrameFault)
      → ((more : List ℕ) → Breaks layout (text ++ piece) more fault)
      → IsTransition begins now
      (HandlesGroup begins.naming layout text piece gathered.records entry after before told (Ok tt))
      → IsTransition begins now
      (HandlesPiece begins.naming layout text piece entry after before told (Some (Frame fault)))
  piece_broken fault breaks work =
      let naming = begins.naming in
      let found = (front layout (text ++ piece)).records in
      let stopped = record told { stop = Frame fault } in
      work_as begins now (Follows Begun (LeadsSaying after naming layout (text ++ piece) told))
      (Follows Begun (Saying (SaysAt (Frame fault) after naming layout (text ++ piece))
      (StopsAt naming layout (text ++ piece) stopped)))
      (λ was book events is behind begun early book_is leads.
      let so = behind begun early book_is leads in
      let all = without_notes (events ++ early) in
      record {
        records = λ more cut.
            subst (λ (f : Front). Handles naming (stop_after cut f) f.records stopped was
            (unjournaled begun) all is) (sym (breaks more))
            (all_handled naming found told stopped (Frame fault) refl was (unjournaled begun) all is
            so.records);
        said = so.said;
      })
      (piece_led work)

  -- the books refused one of them
  pub piece_refused : (fault : LedgerFault)
      → ((more : List ℕ) → (later : List (List ℕ)) × ((front layout ((text ++ piece) ++ more)).records
      ≡ (front layout (text ++ piece)).records ++ later))
      → IsTransition begins now
      (HandlesGroup begins.naming layout text piece gathered.records entry after before told (Err fault))
      → IsTransition begins now
      (HandlesPiece begins.naming layout text piece entry after before told (Some (Ledger fault)))
  piece_refused fault follow work =
      let naming = begins.naming in
      let first = (front layout text).records in
      let stopped = record told { stop = Ledger fault } in
      work_as begins now _
      (Follows Begun (Saying (SaysAt (Ledger fault) after naming layout (text ++ piece))
      (StopsAt naming layout (text ++ piece) stopped)))
      (λ was book events is behind begun early book_is leads.
      let so = behind begun early book_is leads in
      record {
        records = λ more cut.
            let later = follow more in
            let all = front layout ((text ++ piece) ++ more) in
            subst (λ records. Handles naming (stop_after cut all) records stopped was
            (unjournaled begun) (without_notes (events ++ early)) is)
            (sym (later.1 ∙ ap (λ records. records ++ later.0) gathered.found
            ∙ append_assoc first gathered.records later.0))
            (so.records (stop_after cut all) later.0);
        said = so.said;
      })
      work

-- memory ran out before any of them was handled
pub piece_unhandled : (begins : Seen) (old : Joining) (text piece : List ℕ)
    (entry after : ImportEntry) (receipt : Receipt) → after ≡ record entry { bytes = after.bytes }
    → HasTaken text old
    → IsTransition begins begins
    (HandlesPiece begins.naming old.layout text piece entry after receipt receipt
    (Some (Ledger Memory)))
piece_unhandled begins old text piece entry after receipt same stood =
    let layout = old.layout in
    let first = (front layout text).records in
    let naming = begins.naming in
    let told = record receipt { stop = Ledger Memory } in
    let Begun : Transition = LeadsSaying entry naming layout text receipt in
    work_as begins begins NoEvent
    (Follows Begun (Saying (SaysAt (Ledger Memory) after naming layout (text ++ piece))
    (StopsAt naming layout (text ++ piece) told)))
    (λ was book events is none begun early book_is leads.
    let so = behind_nothing Begun was book events is none begun early book_is leads in
    let made = without_notes (events ++ early) in
    record {
      records = λ more cut.
          let later = records_after {layout = layout} refl stood (piece ++ more) in
          let all = front layout ((text ++ piece) ++ more) in
          let parts : first ++ later.0 ≡ all.records =
          sym later.1
          ∙ ap (λ bytes. (front layout bytes).records) (sym (append_assoc text piece more)) in
          let handled = first_told naming first later.0 receipt (Ledger Memory) was
          (unjournaled begun) made is so.records in
          subst (λ records. Handles naming (stop_after cut all) records told was (unjournaled begun)
          made is) parts
          (out_of_memory (length first) none.same (record {
            receipt = ap (λ (one : Imported). one.receipt) handled;
            events = ap (λ (one : Imported). one.events) handled;
          }));
      said = read_says entry after naming layout text piece begun (events ++ early) same so.said;
    })
    (no_work begins)

-- the end of a group that is said is the stop, or that of the text that ends with its piece
pub group_said : (layout : Layout) (text piece : List ℕ) (broken : Option FrameFault)
    (ending ended : Option Stop)
    → IfSome broken (λ fault. ending ≡ Some (Frame fault))
    → (broken ≡ None → IfSome ending (λ stop. stop ≡ frame_stop (front layout (text ++ piece)).fault))
    → IfSome ended (λ said. ending ≡ Some said)
    → IfSome ended (λ said. said
    ≡ unwrap_or (option_map (λ fault. Frame fault) broken)
    (frame_stop (front layout (text ++ piece)).fault))
group_said layout text piece broken ending None faulty last said = tt
group_said layout text piece None ending (Some stop) faulty last said =
    subst (λ (ending : Option Stop). IfSome ending (λ stop.
    stop ≡ frame_stop (front layout (text ++ piece)).fault)) said (last refl)
group_said layout text piece (Some fault) ending (Some stop) faulty last said =
    ap (λ (one : Option Stop). unwrap_or one (Frame fault)) (sym said ∙ faulty)

-- the end after the last piece, as the joiner says it
pub last_said : {old new : Joining} {piece : List ℕ} (text : List ℕ) (ending : Option Stop)
    → TakesAll old piece new → HasTaken text old
    → IfSome ending (λ stop. (text : List ℕ) → HasTaken text new
    → stop ≡ frame_stop (front new.layout text).fault)
    → IfSome ending (λ stop. stop ≡ frame_stop (front old.layout (text ++ piece)).fault)
last_said text None takes stood said = tt
last_said {piece = piece} text (Some stop) takes stood said =
    subst (λ layout. stop ≡ frame_stop (front layout (text ++ piece)).fault) takes.layout_is
    (said (text ++ piece) (takes.stands text stood))

-- where no end was known, none was said
pub none_said : (ending ended : Option Stop) → IfSome ended (λ said. ending ≡ Some said)
    → ending ≡ None → ended ≡ None
none_said ending None said none = refl
none_said ending (Some stop) said none =
    absurd (true≢false (ap (λ (one : Option Stop). is_some one) (sym said ∙ none)))

-- an import that has said no end may stop anyhow
pub piece_end : (layout : Layout) (text piece : List ℕ) (entry : ImportEntry) (result : Option Stop)
    → entry.ended ≡ None → SaidEnd layout (text ++ piece) result entry
piece_end layout text piece entry result none =
    subst (λ (ended : Option Stop). IfSome ended (λ said. said
    ≡ unwrap_or result (frame_stop (front layout (text ++ piece)).fault))) (sym none) tt
