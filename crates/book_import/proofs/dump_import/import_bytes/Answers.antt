use Rattle.std.proofs.Common.{◌≡◌, ◌≤◌, ◌<◌, ◌+◌, ◌-◌, ◌++◌, ◌∙◌, ◌∷◌, List, ℕ, zero, suc, length, min, arith}
use Rattle.std.proofs.Common.{lit≤, subst, sym, ap, None, [], append-nil, length-append, length-drop, refl}
use Rattle.std.proofs.Common.{Bool, Option, true, false, true≢false, Some}
use Rattle.std.specs.Prelude.{◌==◌, IfSome}
use Rattle.std.proofs.lemmas.Bool.{eqb-true}
use Rattle.std.proofs.lemmas.List.{length-take}
use Rattle.smf_frames.proofs.JoinerStates.{front_of_nothing}
use Rattle.book_core.specs.Transition.{IsTransition}
use Rattle.book_model.specs.declared.note.Stop.{Stop}
use Rattle.book_model.specs.Words.{Front, Note, front, note_given}
use Rattle.book_import.specs.declared.import_entry.ImportEntry.{ImportEntry}
use Rattle.book_import.specs.declared.receipt.Receipt.{Receipt}
use Rattle.book_import.specs.Dumps.{frame_stop}
use Rattle.book_import.specs.EntryWork.{note_of}
use Rattle.book_import.specs.ImportEntries.{BooksInPieces, ImportsOf}
use Rattle.book_import.specs.ReadLimits.{read_length}
use Rattle.book_import.specs.Receipts.{counted}
use Rattle.book_import.specs.Pieces.{CountsPiece, SaidEnd}
use Rattle.book_import.proofs.EndLemmas.{SaidStop}
use Rattle.book_import.proofs.FeedLemmas.{holds_here}
use Rattle.book_import.proofs.PiecewiseLemmas.{all_in_pieces, joins_ended, joins_more, joins_nothing}
use Rattle.book_import.proofs.PiecewiseLemmas.{joins_stopped_before, none_imported, pieces_go_on}
use Rattle.book_import.proofs.PiecewiseLemmas.{still_counted, stopped_in_pieces}
use Rattle.book_import.proofs.dump_import.import_bytes.Goals as goal

-- there is something left
some_left : (left : ℕ) → (left == 0) ≡ false → 0 < left
some_left zero is = absurd (true≢false is)
some_left (suc less) is = omega arith

-- there is nothing left of some bytes
none_left : (rest : List ℕ) → (length rest == 0) ≡ true → rest ≡ []
none_left [] none = refl
none_left (byte ∷ rest) none = absurd (omega (arith, eqb-true (length (byte ∷ rest)) 0 none))

all_passed : (passed rest bytes : List ℕ) → passed ++ rest ≡ bytes → (length rest == 0) ≡ true
    → passed ≡ bytes
all_passed passed rest bytes parts none =
    sym (append-nil passed) ∙ ap (λ rest. passed ++ rest) (sym (none_left rest none)) ∙ parts

-- while some is left, no end was said
open_while : (entry : ImportEntry) (rest : List ℕ) (end : Stop) → 0 < length rest
    → IfSome entry.ended (λ said. (rest ≡ []) × (said ≡ end)) → entry.ended ≡ None
open_while entry rest end some said =
    by_ended entry.ended refl said
  where
    by_ended : (ended : Option Stop) → entry.ended ≡ ended
        → IfSome ended (λ said. (rest ≡ []) × (said ≡ end)) → entry.ended ≡ None
    by_ended None is said = is
    by_ended (Some stop) is said = absurd (omega (arith, some, ap length said.0))

-- the end that was said is that of the dump
said_last : (entry : ImportEntry) (rest : List ℕ) (end stop : Stop)
    → IfSome entry.ended (λ said. (rest ≡ []) × (said ≡ end)) → stop ≡ end → SaidStop entry stop
said_last entry rest end stop said is =
    by_ended entry.ended said
  where
    by_ended : (ended : Option Stop) → IfSome ended (λ said. (rest ≡ []) × (said ≡ end))
        → IfSome ended (λ said. said ≡ stop)
    by_ended None said = tt
    by_ended (Some one) said = said.1 ∙ sym is

-- an end is said with the last piece alone
end_next : (entry : ImportEntry) (later : List ℕ) (is_last : Bool) (end : Stop)
    → is_last ≡ (length later == 0) → (is_last ≡ false → entry.ended ≡ None)
    → IfSome entry.ended (λ said. said ≡ end)
    → IfSome entry.ended (λ said. (later ≡ []) × (said ≡ end))
end_next entry later true end is fresh said =
    by_ended entry.ended said
  where
    by_ended : (ended : Option Stop) → IfSome ended (λ said. said ≡ end)
        → IfSome ended (λ said. (later ≡ []) × (said ≡ end))
    by_ended None said = tt
    by_ended (Some stop) said = (none_left later (sym is), said)
end_next entry later false end is fresh said =
    subst (λ (ended : Option Stop). IfSome ended (λ said. (later ≡ []) × (said ≡ end)))
    (sym (fresh refl)) tt

pub returns-in_default-clause-booked : goal.returns-in_default-clause-booked
returns-in_default-clause-booked g c =
    none_imported (g.L.Ledger.seen c.args.ledger.now) (note_given c.args.note) c.args.layout None
    c.args.bytes.now c.stopped.result c.stopped.ensures

pub returns-in_default-clause-pieces : goal.returns-in_default-clause-pieces
returns-in_default-clause-pieces g c =
    let seen = g.L.Ledger.seen c.args.ledger.now in
    all_in_pieces (note_given c.args.note) c.args.layout seen seen [] c.args.bytes.now
    c.args.bytes.now c.stopped.result refl
    (subst (λ (f : Front). length f.records ≤ counted c.stopped.result)
    (sym (front_of_nothing c.args.layout)) (omega arith))
    (none_imported seen (note_given c.args.note) c.args.layout None [] c.stopped.result
    c.stopped.ensures)

pub loop-rest-init : goal.loop-rest-init
loop-rest-init g c = record {
  note = c.new-entry.ensures.note;
  joins = (
    [],
    refl,
    subst (λ (receipt : Receipt). counted receipt ≤ 0) (sym c.stopped-receipt.ensures) (lit≤ tt),
    joins_nothing (g.L.Ledger.seen c.args.ledger.now) c.args.layout c.in-Ok.joiner
        c.new-entry.result c.stopped-receipt.result c.new-entry.ensures.begun
        c.new-entry.ensures.ended c.in-Ok.ensures.value c.in-Ok.ensures.stands c.in-Ok.ensures.found
        c.stopped-receipt.ensures,
    subst (λ (f : Front). length f.records ≤ counted c.stopped-receipt.result)
        (sym c.in-Ok.ensures.found) (omega arith),
    c.new-entry.ensures.read,
    omega (arith, c.new-entry.ensures.length),
    subst (λ (ended : Option Stop). IfSome ended (λ said. (c.args.bytes.now ≡ [])
        × (said ≡ frame_stop (front c.args.layout []).fault))) (sym c.new-entry.ensures.ended) tt,
  );
}

pub import_piece-requires-clause-few : goal.import_piece-requires-clause-few
import_piece-requires-clause-few g c =
    let joins = c.loop-rest.invariant.joins in
    let rest = c.loop-rest.rest.now in
    let piece : length c.next_part.result.0.now ≡ min read_length (length rest) =
    ap length c.next_part.ensures.first ∙ length-take read_length rest in
    let all : length joins.0 + length rest ≡ length c.args.bytes.now =
    sym (length-append joins.0 rest) ∙ ap length joins.1 in
    omega (arith, joins.2, piece, all)

pub import_piece-requires-clause-short : goal.import_piece-requires-clause-short
import_piece-requires-clause-short g c =
    let joins = c.loop-rest.invariant.joins in
    let rest = c.loop-rest.rest.now in
    let piece : length c.next_part.result.0.now ≡ min read_length (length rest) =
    ap length c.next_part.ensures.first ∙ length-take read_length rest in
    let all : length joins.0 + length rest ≡ length c.args.bytes.now =
    sym (length-append joins.0 rest) ∙ ap length joins.1 in
    omega (arith, joins.6, piece, all)

pub import_piece-requires-clause-fresh : goal.import_piece-requires-clause-fresh
import_piece-requires-clause-fresh g c =
    let joins = c.loop-rest.invariant.joins in
    let rest = c.loop-rest.rest.now in
    open_while c.loop-rest.entry rest (frame_stop (front c.args.layout joins.0).fault)
    (some_left (length rest) (sym c.is_empty.ensures ∙ c.loop-rest-test.true)) joins.7

pub returns-in-Some-clause-booked : goal.returns-in-Some-clause-booked
returns-in-Some-clause-booked g c =
    let seen = g.L.Ledger.seen c.args.ledger.now in
    let next = g.L.Ledger.seen c.import_piece.new.ledger in
    let last = g.L.Ledger.seen c.end_import.new.ledger in
    let joins = c.loop-rest.invariant.joins in
    let piece = c.next_part.result.0.now in
    let later = c.next_part.result.1.now in
    let told = c.end_import.result in
    let after = c.import_piece.new.entry in
    let stop = c.in-Some.stop in
    subst (λ (import : Option Note). IsTransition seen last
    (ImportsOf import seen.naming c.args.layout None c.args.bytes.now told))
    (c.in-Some.ensures.note ∙ c.loop-rest.invariant.note)
    (subst (λ all. IsTransition seen last
    (ImportsOf (note_of after) seen.naming c.args.layout None all told))
    (pieces_go_on joins.0 c.loop-rest.rest.now piece later c.args.bytes.now read_length joins.1
    c.next_part.ensures.first c.next_part.ensures.later)
    (joins_stopped_before seen (g.L.Ledger.seen c.loop-rest.ledger) c.loop-rest.entry
    c.loop-rest.receipt joins.3 joins.5 next last piece after c.import_piece.new.receipt told stop
    c.in-Some.ensures.handled
    (holds_here joins.3 (λ l text. SaidEnd l (text ++ piece) (Some stop) after)
    c.in-Some.ensures.ended) c.end_import.ensures.ends later None))

pub returns-in-Some-clause-pieces : goal.returns-in-Some-clause-pieces
returns-in-Some-clause-pieces g c =
    let seen = g.L.Ledger.seen c.args.ledger.now in
    let next = g.L.Ledger.seen c.import_piece.new.ledger in
    let last = g.L.Ledger.seen c.end_import.new.ledger in
    let joins = c.loop-rest.invariant.joins in
    let rest = c.loop-rest.rest.now in
    let piece = c.next_part.result.0.now in
    let later = c.next_part.result.1.now in
    let after = c.import_piece.new.entry in
    let stop = c.in-Some.stop in
    let long : length piece ≡ min read_length (length rest) =
    ap length c.next_part.ensures.first ∙ length-take read_length rest in
    let more = holds_here joins.3 (λ l text. CountsPiece l text piece c.loop-rest.receipt
    c.import_piece.new.receipt (Some stop)) c.in-Some.ensures.counts in
    subst (λ (import : Option Note). BooksInPieces import c.args.layout c.args.bytes.now seen last
    c.end_import.result) (c.in-Some.ensures.note ∙ c.loop-rest.invariant.note)
    (stopped_in_pieces seen (g.L.Ledger.seen c.loop-rest.ledger) c.loop-rest.entry
    c.loop-rest.receipt joins.3 joins.5 next last piece later c.args.bytes.now after
    c.import_piece.new.receipt c.end_import.result stop c.in-Some.ensures.handled
    (holds_here joins.3 (λ l text. SaidEnd l (text ++ piece) (Some stop) after)
    c.in-Some.ensures.ended) c.end_import.ensures.ends c.end_import.ensures.told
    (pieces_go_on joins.0 rest piece later c.args.bytes.now read_length joins.1
    c.next_part.ensures.first c.next_part.ensures.later)
    (omega (arith, long)) joins.4 more.1)

pub loop-rest-smaller : goal.loop-rest-smaller
loop-rest-smaller g c =
    let rest = c.loop-rest.rest.now in
    let some : 0 < length rest = some_left (length rest)
    (sym c.is_empty.ensures ∙ c.loop-rest-test.true) in
    let later : length c.next_part.result.1.now ≡ length rest - read_length =
    ap length c.next_part.ensures.later ∙ length-drop read_length rest in
    omega (arith, some, later)

pub loop-rest-preserved : goal.loop-rest-preserved
loop-rest-preserved g c =
    let joins = c.loop-rest.invariant.joins in
    let piece = c.next_part.result.0.now in
    let later = c.next_part.result.1.now in
    let more = c.in-None.ensures in
    let after = c.import_piece.new.entry in
    record {
      note = more.note ∙ c.loop-rest.invariant.note;
      joins = (
        joins.0 ++ piece,
        pieces_go_on joins.0 c.loop-rest.rest.now piece later c.args.bytes.now read_length joins.1
            c.next_part.ensures.first c.next_part.ensures.later,
        omega (arith, joins.2, more.counted, length-append joins.0 piece),
        joins_more (g.L.Ledger.seen c.args.ledger.now) (g.L.Ledger.seen c.loop-rest.ledger)
            c.loop-rest.entry c.loop-rest.receipt joins.3 joins.5
            (g.L.Ledger.seen c.import_piece.new.ledger) after c.import_piece.new.receipt
            (more.taken refl) more.handled,
        omega (
          arith,
          joins.4,
          holds_here joins.3 (λ l text. CountsPiece l text piece c.loop-rest.receipt
              c.import_piece.new.receipt None) more.counts,
        ),
        more.read refl joins.0 joins.5,
        omega (arith, joins.6, more.length, length-append joins.0 piece),
        end_next after later c.is_empty-is_last.result
            (frame_stop (front c.args.layout (joins.0 ++ piece)).fault) c.is_empty-is_last.ensures
            (λ fresh. more.goes_on fresh refl)
            (holds_here joins.3 (λ l text. SaidEnd l (text ++ piece) None after) more.ended),
      );
    }

pub returns-clause-booked : goal.returns-clause-booked
returns-clause-booked g c =
    let seen = g.L.Ledger.seen c.args.ledger.now in
    let last = g.L.Ledger.seen c.end_import-2.new.ledger in
    let joins = c.loop-rest.invariant.joins in
    let told = c.end_import-2.result in
    let stop = c.dump_end.result in
    let rest = c.loop-rest.rest.now in
    let end = frame_stop (front c.args.layout joins.0).fault in
    subst (λ (import : Option Note). IsTransition seen last
    (ImportsOf import seen.naming c.args.layout None c.args.bytes.now told)) c.loop-rest.invariant.note
    (subst (λ all. IsTransition seen last
    (ImportsOf (note_of c.loop-rest.entry) seen.naming c.args.layout None all told))
    (all_passed joins.0 rest c.args.bytes.now joins.1 (sym c.is_empty.ensures ∙ c.loop-rest-test.false))
    (joins_ended seen (g.L.Ledger.seen c.loop-rest.ledger) c.loop-rest.entry c.loop-rest.receipt
    joins.3 joins.5 last told stop None c.dump_end.ensures.stop c.dump_end.ensures.other
    (said_last c.loop-rest.entry rest end stop joins.7
    (holds_here joins.3 (λ l text. stop ≡ frame_stop (front l text).fault) c.dump_end.ensures.stop))
    c.end_import-2.ensures.ends))

pub returns-clause-pieces : goal.returns-clause-pieces
returns-clause-pieces g c =
    let seen = g.L.Ledger.seen c.args.ledger.now in
    let last = g.L.Ledger.seen c.end_import-2.new.ledger in
    let joins = c.loop-rest.invariant.joins in
    let told = c.end_import-2.result in
    let stop = c.dump_end.result in
    let rest = c.loop-rest.rest.now in
    let end = frame_stop (front c.args.layout joins.0).fault in
    let entry = c.loop-rest.entry in
    subst (λ (import : Option Note). BooksInPieces import c.args.layout c.args.bytes.now seen last told)
    c.loop-rest.invariant.note
    (all_in_pieces (note_of entry) c.args.layout seen last joins.0 rest c.args.bytes.now told joins.1
    (still_counted (note_of entry) (length (front c.args.layout joins.0).records) c.loop-rest.receipt
    (record c.loop-rest.receipt { stop = stop }) told joins.4 (omega arith)
    c.end_import-2.ensures.told)
    (joins_ended seen (g.L.Ledger.seen c.loop-rest.ledger) entry c.loop-rest.receipt joins.3 joins.5
    last told stop None c.dump_end.ensures.stop c.dump_end.ensures.other
    (said_last entry rest end stop joins.7
    (holds_here joins.3 (λ l text. stop ≡ frame_stop (front l text).fault) c.dump_end.ensures.stop))
    c.end_import-2.ensures.ends))
