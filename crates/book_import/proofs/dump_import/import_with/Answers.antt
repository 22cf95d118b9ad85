use Rattle.std.proofs.Common.{◌≤◌, ◌++◌, ◌∙◌, take, length, arith, lit≤, subst, sym, Some, None}
use Rattle.std.proofs.Common.{◌≡◌, ◌<◌, ℕ, [], append-nil, length-append, length-take-le, refl, rules}
use Rattle.std.proofs.Common.{true≢false}
use Rattle.std.specs.Io.KnownBytes.{Consumes}
use Rattle.std.proofs.KnownBytes.{Consumes-trans, Consumes-nil}
use Rattle.streams.specs.Sources.{reader_of}
use Rattle.streams.specs.InputOutput.{input}
use Rattle.book_model.specs.Words.{Front, note_given}
use Rattle.book_import.specs.declared.receipt.Receipt.{Receipt}
use Rattle.book_import.specs.ReadLimits.{cut_of}
use Rattle.book_import.specs.Receipts.{counted}
use Rattle.book_import.specs.Pieces.{CountsPiece, SaidEnd}
use Rattle.book_import.proofs.EndLemmas.{none_stop}
use Rattle.book_import.proofs.FeedLemmas.{holds_here}
use Rattle.book_import.proofs.PiecewiseLemmas.{joins_nothing, joins_more, joins_stopped, joins_ended}
use Rattle.book_import.proofs.PiecewiseLemmas.{imported_of, no_room}
use Rattle.book_import.proofs.ReachLemmas.{read_to_end, read_to_stop}
use Rattle.book_import.proofs.dump_import.import_with.Goals as goal

pub returns-in_default-clause-booked : goal.returns-in_default-clause-booked
returns-in_default-clause-booked g c =
    no_room (g.L.Ledger.seen c.args.ledger.now) (note_given c.args.note) g.most c.args.layout
    c.args.reads (cut_of c.args.source.now)
    (input g.R.Read.remaining c.args.source.now c.args.source.now) c.stopped.result c.stopped.ensures
    refl refl (search rules) (search rules)

pub read_into-requires-clause-room : goal.read_into-requires-clause-room
read_into-requires-clause-room g c =
    subst (λ (n : ℕ). 0 < n) (sym c.loop.invariant.room) (search rules)

pub loop-init : goal.loop-init
loop-init g c =
    let seen = g.L.Ledger.seen c.args.ledger.now in
    record {
      room = search rules;
      asked = omega arith;
      failed = search rules;
      ended = search rules;
      few = subst (λ (receipt : Receipt). counted receipt ≤ 0) (sym c.stopped-receipt.ensures)
          (lit≤ tt);
      short = omega (arith, c.new-entry.ensures.length);
      note = c.new-entry.ensures.note;
      fresh = c.new-entry.ensures.ended;
      joins = (
        [],
        Consumes-nil _,
        joins_nothing seen c.args.layout c.in-Ok.joiner c.new-entry.result c.stopped-receipt.result
            c.new-entry.ensures.begun c.new-entry.ensures.ended
            c.in-Ok.ensures.value c.in-Ok.ensures.stands c.in-Ok.ensures.found
            c.stopped-receipt.ensures,
        omega arith,
        subst (λ (f : Front). length f.records ≤ counted c.stopped-receipt.result)
            (sym c.in-Ok.ensures.found) (omega arith),
        c.new-entry.ensures.read,
      );
    }

pub returns-in_default-read_into-clause-booked : goal.returns-in_default-read_into-clause-booked
returns-in_default-read_into-clause-booked g c =
    let joins = c.loop.invariant.joins in
    let ended = c.in_default-read_into.ensures in
    let cut = cut_of c.read_into.new.source in
    let stop = c.reading_end.result in
    let told = c.end_import.result in
    let read = record c.loop.receipt { stop = stop } in
    let seen = g.L.Ledger.seen c.args.ledger.now in
    let last = g.L.Ledger.seen c.end_import.new.ledger in
    imported_of seen last (note_given c.args.note) c.loop.entry g.most c.args.layout c.args.reads cut
    (input g.R.Read.remaining c.args.source.now c.read_into.new.source) joins.0 read told
    c.loop.invariant.note c.end_import.ensures.told
    (read_to_end g.most c.args.layout c.args.reads joins.0 c.loop.receipt read stop
    (input g.R.Read.remaining c.args.source.now c.read_into.new.source)
    refl c.reading_end.ensures.other joins.2.whole joins.4
    (omega (arith, joins.3, ended.asked, c.loop.invariant.asked))
    (λ failed unended. absurd (true≢false (sym (ended.none refl failed) ∙ unended)))
    (subst (Consumes (g.R.Read.remaining (reader_of c.args.source.now))
    (g.R.Read.remaining (reader_of c.read_into.new.source))) (append-nil joins.0)
    (Consumes-trans _ _ _ joins.0 [] joins.1 ended.taken)))
    (joins_ended seen (g.L.Ledger.seen c.loop.ledger) c.loop.entry c.loop.receipt joins.2 joins.5 last
    told stop cut c.reading_end.ensures.stop c.reading_end.ensures.other
    (none_stop c.loop.entry stop c.loop.invariant.fresh) c.end_import.ensures.ends)

pub returns-clause-booked : goal.returns-clause-booked
returns-clause-booked g c =
    let joins = c.loop.invariant.joins in
    let cut = cut_of c.loop.source in
    let stop = c.reading_end-2.result in
    let told = c.end_import-2.result in
    let read = record c.loop.receipt { stop = stop } in
    let seen = g.L.Ledger.seen c.args.ledger.now in
    let last = g.L.Ledger.seen c.end_import-2.new.ledger in
    imported_of seen last (note_given c.args.note) c.loop.entry g.most c.args.layout c.args.reads cut
    (input g.R.Read.remaining c.args.source.now c.loop.source) joins.0 read told
    c.loop.invariant.note c.end_import-2.ensures.told
    (read_to_end g.most c.args.layout c.args.reads joins.0 c.loop.receipt read stop
    (input g.R.Read.remaining c.args.source.now c.loop.source)
    refl c.reading_end-2.ensures.other joins.2.whole joins.4
    (omega (arith, joins.3, c.loop.invariant.asked))
    (λ failed unended. omega (arith, c.loop.invariant.asked))
    joins.1)
    (joins_ended seen (g.L.Ledger.seen c.loop.ledger) c.loop.entry c.loop.receipt joins.2 joins.5 last
    told stop cut c.reading_end-2.ensures.stop c.reading_end-2.ensures.other
    (none_stop c.loop.entry stop c.loop.invariant.fresh) c.end_import-2.ensures.ends)

pub returns-in-Some-import_piece-clause-booked : goal.returns-in-Some-import_piece-clause-booked
returns-in-Some-import_piece-clause-booked g c =
    let joins = c.loop.invariant.joins in
    let part = take c.in-Some.count c.read_into.new.piece in
    let came = c.in-Some.ensures in
    let room : length c.read_into.new.piece ≡ g.most = search rules in
    let stopped = c.in-Some-import_piece.ensures in
    let stop = c.in-Some-import_piece.stop in
    let cut = cut_of c.read_into.new.source in
    let told = c.end_import-in-Some-import_piece.result in
    let after = c.import_piece.new.entry in
    let read = record c.import_piece.new.receipt { stop = stop } in
    let seen = g.L.Ledger.seen c.args.ledger.now in
    let next = g.L.Ledger.seen c.import_piece.new.ledger in
    let last = g.L.Ledger.seen c.end_import-in-Some-import_piece.new.ledger in
    imported_of seen last (note_given c.args.note) after g.most c.args.layout c.args.reads cut
    (input g.R.Read.remaining c.args.source.now c.read_into.new.source) (joins.0 ++ part) read told
    (stopped.note ∙ c.loop.invariant.note) c.end_import-in-Some-import_piece.ensures.told
    (read_to_stop g.most c.args.layout c.args.reads joins.0 part c.loop.receipt
    c.import_piece.new.receipt read stop
    (input g.R.Read.remaining c.args.source.now c.read_into.new.source)
    refl joins.2.whole joins.4
    (holds_here joins.2 (λ l text. CountsPiece l text part c.loop.receipt
    c.import_piece.new.receipt (Some stop)) stopped.counts)
    (omega (
      arith,
      room,
      came.came.1,
      length-take-le c.in-Some.count c.read_into.new.piece came.came.1,
    ))
    (omega (arith, joins.3, came.asked, c.loop.invariant.asked))
    came.failed came.ended
    (Consumes-trans _ _ _ joins.0 part joins.1 came.taken))
    (joins_stopped seen (g.L.Ledger.seen c.loop.ledger) c.loop.entry c.loop.receipt joins.2 joins.5
    next last part after c.import_piece.new.receipt told stop stopped.handled
    (holds_here joins.2 (λ l text. SaidEnd l (text ++ part) (Some stop) after) stopped.ended)
    c.end_import-in-Some-import_piece.ensures.ends cut)

pub loop-preserved : goal.loop-preserved
loop-preserved g c =
    let joins = c.loop.invariant.joins in
    let part = take c.in-Some.count c.read_into.new.piece in
    let room : length c.read_into.new.piece ≡ g.most = search rules in
    let more = c.in_default-import_piece.ensures in
    record {
      room = room;
      asked = omega (arith, c.in-Some.ensures.asked, c.loop.invariant.asked);
      failed = c.in-Some.ensures.failed;
      ended = c.in-Some.ensures.ended;
      few = omega (
        arith,
        room,
        c.requires,
        c.loop.invariant.few,
        more.counted,
        c.in-Some.ensures.came.1,
        length-take-le c.in-Some.count c.read_into.new.piece c.in-Some.ensures.came.1,
      );
      short = omega (
        arith,
        room,
        c.requires,
        c.loop.invariant.short,
        more.length,
        c.in-Some.ensures.came.1,
        length-take-le c.in-Some.count c.read_into.new.piece c.in-Some.ensures.came.1,
      );
      note = more.note ∙ c.loop.invariant.note;
      fresh = more.goes_on refl refl;
      joins = (
        joins.0 ++ part,
        Consumes-trans _ _ _ joins.0 part joins.1 c.in-Some.ensures.taken,
        joins_more (g.L.Ledger.seen c.args.ledger.now) (g.L.Ledger.seen c.loop.ledger) c.loop.entry
            c.loop.receipt joins.2 joins.5 (g.L.Ledger.seen c.import_piece.new.ledger)
            c.import_piece.new.entry c.import_piece.new.receipt (more.taken refl) more.handled,
        omega (
          arith,
          joins.3,
          c.in-Some.ensures.came.0,
          length-append joins.0 part,
          length-take-le c.in-Some.count c.read_into.new.piece c.in-Some.ensures.came.1,
        ),
        omega (
          arith,
          joins.4,
          holds_here joins.2 (λ l text. CountsPiece l text part c.loop.receipt
              c.import_piece.new.receipt None) more.counts,
        ),
        more.read refl joins.0 joins.5,
      );
    }
