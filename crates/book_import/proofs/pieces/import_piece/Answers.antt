use Rattle.std.proofs.Common.{◌∙◌, ◌++◌, [], ap, append-nil, arith, List, ℕ, None, Option, Err, Ok, refl}
use Rattle.std.proofs.Common.{Some, is_some, subst, sym, true≢false, ◌≡◌}
use Rattle.std.specs.Prelude.{IfSome}
use Rattle.smf_frames.specs.declared.fault.FrameFault.{FrameFault}
use Rattle.book_model.specs.Words.{Front, front, HasTaken}
use Rattle.book_model.specs.declared.fault.LedgerFault.TheVariants.{Memory}
use Rattle.book_model.specs.declared.note.Stop.TheVariants.{Frame, Ledger}
use Rattle.book_import.specs.declared.import_entry.ImportEntry.{ImportEntry}
use Rattle.book_import.specs.declared.read_bytes.ReadBytes.{ReadBytes}
use Rattle.book_import.specs.EntryWork.{note_of}
use Rattle.book_import.specs.Groups.{Breaks}
use Rattle.book_import.proofs.GroupStands.{still_has}
use Rattle.book_import.proofs.PieceGroupLemmas.{group_of, group_said, last_said, none_said, piece_broken}
use Rattle.book_import.proofs.PieceGroupLemmas.{piece_end, piece_led, piece_refused, piece_unhandled}
use Rattle.book_import.proofs.PieceGroupLemmas.{records_follow}
use Rattle.book_import.proofs.pieces.import_piece.Goals as goal

pub returns-in_default-clause-handled : goal.returns-in_default-clause-handled
returns-in_default-clause-handled g c = λ text stood has.
    piece_unhandled (g.L.Ledger.seen c.args.ledger.now) c.args.joiner.now text c.args.piece.now
    c.args.entry.now c.args.entry.now c.args.receipt.now refl stood

pub returns-in_default-read-clause-handled : goal.returns-in_default-read-clause-handled
returns-in_default-read-clause-handled g c = λ text stood has.
    piece_unhandled (g.L.Ledger.seen c.args.ledger.now) c.args.joiner.now text c.args.piece.now
    c.args.entry.now c.read.new.self c.args.receipt.now c.in_default-read.ensures.rest stood

pub returns-in-Err-clause-handled : goal.returns-in-Err-clause-handled
returns-in-Err-clause-handled g c = λ text stood has.
    let seen = g.L.Ledger.seen c.args.ledger.now in
    let now = g.L.Ledger.seen c.handle_group.new.ledger in
    let gathered = c.in-Ok.ensures.gathers text stood in
    let layout = c.args.joiner.now.layout in
    let piece = c.args.piece.now in
    piece_refused seen now layout text piece c.args.entry.now c.handle_group.new.entry
    c.args.receipt.now c.handle_group.new.receipt gathered c.in-Err.fault
    (records_follow c.in-Ok.group.broken c.in-Ok.ensures.taken c.in-Ok.ensures.broken text stood)
    (group_of seen now layout text piece c.args.entry.now c.handle_group.new.entry c.args.receipt.now
    c.handle_group.new.receipt gathered c.read.new.self (Err c.in-Err.fault) c.in-Ok-read.ensures.rest
    (c.in-Err.ensures.handled layout text piece gathered (c.in-Ok-read.ensures.more text has)))

pub returns-in-None-clause-handled : goal.returns-in-None-clause-handled
returns-in-None-clause-handled g c = λ text stood has.
    let seen = g.L.Ledger.seen c.args.ledger.now in
    let now = g.L.Ledger.seen c.handle_group.new.ledger in
    let gathered = c.in-Ok.ensures.gathers text stood in
    let layout = c.args.joiner.now.layout in
    let piece = c.args.piece.now in
    piece_led seen now layout text piece c.args.entry.now c.handle_group.new.entry c.args.receipt.now
    c.handle_group.new.receipt gathered
    (group_of seen now layout text piece c.args.entry.now c.handle_group.new.entry c.args.receipt.now
    c.handle_group.new.receipt gathered c.read.new.self (Ok tt) c.in-Ok-read.ensures.rest
    (c.in_default-handle_group.ensures.handled layout text piece gathered
    (c.in-Ok-read.ensures.more text has)))

pub returns-clause-handled : goal.returns-clause-handled
returns-clause-handled g c = λ text stood has.
    let seen = g.L.Ledger.seen c.args.ledger.now in
    let now = g.L.Ledger.seen c.handle_group.new.ledger in
    let gathered = c.in-Ok.ensures.gathers text stood in
    let layout = c.args.joiner.now.layout in
    let piece = c.args.piece.now in
    let breaks = subst (λ (broken : Option FrameFault). IfSome broken (λ fault. (text more : List ℕ)
    → HasTaken text c.args.joiner.now → Breaks layout (text ++ c.args.piece.now) more fault))
    c.in-Some.is c.in-Ok.ensures.broken in
    piece_broken seen now layout text piece c.args.entry.now c.handle_group.new.entry
    c.args.receipt.now c.handle_group.new.receipt gathered c.in-Some.fault
    (λ more. breaks text more stood)
    (group_of seen now layout text piece c.args.entry.now c.handle_group.new.entry c.args.receipt.now
    c.handle_group.new.receipt gathered c.read.new.self (Ok tt) c.in-Ok-read.ensures.rest
    (c.in_default-handle_group.ensures.handled layout text piece gathered
    (c.in-Ok-read.ensures.more text has)))

pub returns-clause-counts : goal.returns-clause-counts
returns-clause-counts g c = λ text stood.
    let layout = c.args.joiner.now.layout in
    let whole = text ++ c.args.piece.now in
    let breaks = subst (λ (broken : Option FrameFault). IfSome broken (λ fault. (text more : List ℕ)
    → HasTaken text c.args.joiner.now → Breaks layout (text ++ c.args.piece.now) more fault))
    c.in-Some.is c.in-Ok.ensures.broken in (
      ap (λ bytes. (front layout bytes).is_broken) (sym (append-nil whole))
          ∙ ap (λ (f : Front). f.is_broken) (breaks text [] stood),
      c.in_default-handle_group.ensures.more,
    )

-- the note of the import
pub returns-in_default-read-clause-note : goal.returns-in_default-read-clause-note
returns-in_default-read-clause-note g c = ap note_of c.in_default-read.ensures.rest

pub returns-in-Err-clause-note : goal.returns-in-Err-clause-note
returns-in-Err-clause-note g c = c.in-Err.ensures.note ∙ ap note_of c.in-Ok-read.ensures.rest

pub returns-in-None-clause-note : goal.returns-in-None-clause-note
returns-in-None-clause-note g c =
    c.in_default-handle_group.ensures.note ∙ ap note_of c.in-Ok-read.ensures.rest

pub returns-clause-note : goal.returns-clause-note
returns-clause-note g c =
    c.in_default-handle_group.ensures.note ∙ ap note_of c.in-Ok-read.ensures.rest

-- what it has read
pub returns-in-None-clause-read : goal.returns-in-None-clause-read
returns-in-None-clause-read g c = λ none bytes has.
    still_has (bytes ++ c.args.piece.now) c.handle_group.new.entry c.read.new.self
    c.in_default-handle_group.ensures.note c.in_default-handle_group.ensures.read
    (c.in-Ok-read.ensures.more bytes has)

pub returns-in-Err-clause-length : goal.returns-in-Err-clause-length
returns-in-Err-clause-length g c =
    omega (
      arith,
      ap (λ (bytes : ReadBytes). bytes.length) c.in-Err.ensures.read,
      c.in-Ok-read.ensures.longer,
    )

pub returns-in-None-clause-length : goal.returns-in-None-clause-length
returns-in-None-clause-length g c =
    omega (
      arith,
      ap (λ (bytes : ReadBytes). bytes.length) c.in_default-handle_group.ensures.read,
      c.in-Ok-read.ensures.longer,
    )

pub returns-clause-length : goal.returns-clause-length
returns-clause-length g c =
    omega (
      arith,
      ap (λ (bytes : ReadBytes). bytes.length) c.in_default-handle_group.ensures.read,
      c.in-Ok-read.ensures.longer,
    )

-- the end that it has said
pub handle_group-requires-clause-fresh : goal.handle_group-requires-clause-fresh
handle_group-requires-clause-fresh g c =
    ap (λ (entry : ImportEntry). entry.ended) c.in-Ok-read.ensures.rest ∙ c.requires.fresh

pub returns-in-None-clause-goes_on : goal.returns-in-None-clause-goes_on
returns-in-None-clause-goes_on g c = λ other none.
    none_said c.group_end-ending.result c.handle_group.new.entry.ended
    c.in_default-handle_group.ensures.ended (c.group_end-ending.ensures.unknown other c.in-None.is)

pub returns-in_default-clause-ended : goal.returns-in_default-clause-ended
returns-in_default-clause-ended g c = λ text stood.
    piece_end c.args.joiner.now.layout text c.args.piece.now c.args.entry.now
    (Some (Ledger Memory)) c.requires.fresh

pub returns-in_default-read-clause-ended : goal.returns-in_default-read-clause-ended
returns-in_default-read-clause-ended g c = λ text stood.
    piece_end c.args.joiner.now.layout text c.args.piece.now c.read.new.self
    (Some (Ledger Memory))
    (ap (λ (entry : ImportEntry). entry.ended) c.in_default-read.ensures.rest ∙ c.requires.fresh)

pub returns-in-Err-clause-ended : goal.returns-in-Err-clause-ended
returns-in-Err-clause-ended g c = λ text stood.
    piece_end c.args.joiner.now.layout text c.args.piece.now c.handle_group.new.entry
    (Some (Ledger c.in-Err.fault))
    c.in-Err.ensures.refused

pub returns-in-None-clause-ended : goal.returns-in-None-clause-ended
returns-in-None-clause-ended g c = λ text stood.
    let layout = c.args.joiner.now.layout in
    let ending = c.group_end-ending.result in
    group_said layout text c.args.piece.now None ending c.handle_group.new.entry.ended tt
    (λ none. last_said text ending (c.in-Ok.ensures.taken c.in-None.is) stood
    (c.group_end-ending.ensures.last c.in-None.is))
    c.in_default-handle_group.ensures.ended

pub returns-clause-ended : goal.returns-clause-ended
returns-clause-ended g c = λ text stood.
    let layout = c.args.joiner.now.layout in
    let ending = c.group_end-ending.result in
    group_said layout text c.args.piece.now (Some c.in-Some.fault) ending
    c.handle_group.new.entry.ended
    (subst (λ (broken : Option FrameFault). IfSome broken (λ fault. ending ≡ Some (Frame fault)))
    c.in-Some.is c.group_end-ending.ensures.broken)
    (λ none. absurd (true≢false (ap (λ (one : Option FrameFault). is_some one) none)))
    c.in_default-handle_group.ensures.ended
