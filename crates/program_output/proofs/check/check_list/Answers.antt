use Rattle.std.proofs.Common.{◌++◌, ◌∙◌, take, arith, subst, sym, [], refl}
use Rattle.std.proofs.Common.{append-nil, length-append, length-take-le, true≢false}
use Rattle.std.specs.Io.KnownBytes.{Consumes}
use Rattle.std.proofs.KnownBytes.{Consumes-trans}
use Rattle.std.proofs.lemmas.Result.{err_from_is_err_and}
use Rattle.streams.specs.Sinks.{writer_of}
use Rattle.streams.specs.Sources.{reader_of}
use Rattle.book_model.specs.declared.note.Stop.TheVariants.{Frame}
use Rattle.program_output.specs.Listings.{TakesOrBreaks, listed_count}
use Rattle.program_output.proofs.CheckLemmas.{no_check, lists_more, check_ended, check_broken}
use Rattle.program_output.proofs.CheckLemmas.{check_cut, no_books}
use Rattle.program_output.proofs.check.check_list.Goals as goal

pub returns-in_err-joiner-clause-check : goal.returns-in_err-joiner-clause-check
returns-in_err-joiner-clause-check g c =
    let failed = err_from_is_err_and c.from_residual.result c.from_residual.ensures.1 in
    rw failed.1 (no_check _ failed.0 refl)

pub returns-in_err-listing-clause-check : goal.returns-in_err-listing-clause-check
returns-in_err-listing-clause-check g c =
    let failed = err_from_is_err_and c.from_residual-in_err-listing.result
    c.from_residual-in_err-listing.ensures.1 in
    rw failed.1 (no_check _ failed.0 refl)

pub returns-in_default-clause-check : goal.returns-in_default-clause-check
returns-in_default-clause-check g c =
    let lists = c.loop.invariant.lists in
    let from = g.R.Read.remaining (reader_of c.args.source.now) in
    let left = g.R.Read.remaining (reader_of c.read_piece.new.source) in
    let ended = c.in_default.ensures in
    check_ended lists.0 c.loop.joiner c.loop.listing
    (g.W.Write.contents (writer_of c.args.sink.now))
    (g.W.Write.contents (writer_of c.loop.sink))
    (g.W.Write.contents (writer_of c.end.new.sink)) c.reading_end.result c.end.result lists.2
    c.loop.invariant.waits c.reading_end.ensures.stop c.reading_end.ensures.other
    c.end.ensures.written c.end.ensures.told
    (subst (Consumes from left) (append-nil lists.0)
    (Consumes-trans from _ left lists.0 [] lists.1 ended.taken))
    (omega (arith, lists.3, ended.asked, c.loop.invariant.asked))
    (λ failed unended. absurd (true≢false (sym (ended.none refl failed) ∙ unended)))

pub returns-clause-check : goal.returns-clause-check
returns-clause-check g c =
    let lists = c.loop.invariant.lists in
    check_ended lists.0 c.loop.joiner c.loop.listing
    (g.W.Write.contents (writer_of c.args.sink.now))
    (g.W.Write.contents (writer_of c.loop.sink))
    (g.W.Write.contents (writer_of c.end-2.new.sink)) c.reading_end-2.result c.end-2.result lists.2
    c.loop.invariant.waits c.reading_end-2.ensures.stop c.reading_end-2.ensures.other
    c.end-2.ensures.written c.end-2.ensures.told lists.1
    (omega (arith, lists.3, c.loop.invariant.asked))
    (λ failed unended. omega (arith, c.loop.invariant.asked))

pub returns-in-Ok-Some-clause-check : goal.returns-in-Ok-Some-clause-check
returns-in-Ok-Some-clause-check g c =
    let lists = c.loop.invariant.lists in
    let part = take c.in-Some.count c.read_piece.new.piece in
    let came = c.in-Some.ensures in
    let breaks = subst (λ found. TakesOrBreaks c.loop.joiner part found
    c.list_piece.new.joiner) c.in-Ok-Some.field-0-is c.in-Ok-Some.ensures.taken in
    check_broken lists.0 part c.loop.joiner c.loop.listing c.list_piece.new.listing
    (g.W.Write.contents (writer_of c.args.sink.now))
    (g.W.Write.contents (writer_of c.loop.sink))
    (g.W.Write.contents (writer_of c.list_piece.new.sink)) lists.2 c.loop.invariant.waits
    c.in-Ok-Some.ensures.grown
    (Consumes-trans _ _ _ lists.0 part lists.1 came.taken)
    (omega (arith, lists.3, came.asked, c.loop.invariant.asked))
    (omega (
      arith,
      came.came.1,
      length-take-le c.in-Some.count c.read_piece.new.piece
          came.came.1,
    )) came.failed came.ended
    (g.W.Write.contents (writer_of c.end-in-Ok-Some.new.sink)) c.in-Ok-Some.fault
    c.end-in-Ok-Some.result breaks c.in-Ok-Some.ensures.listed c.end-in-Ok-Some.ensures.written
    c.end-in-Ok-Some.ensures.told

pub returns-in-Err-clause-check : goal.returns-in-Err-clause-check
returns-in-Err-clause-check g c =
    let lists = c.loop.invariant.lists in
    let part = take c.in-Some.count c.read_piece.new.piece in
    let came = c.in-Some.ensures in
    check_cut lists.0 part c.loop.joiner c.loop.listing c.list_piece.new.listing
    (g.W.Write.contents (writer_of c.args.sink.now))
    (g.W.Write.contents (writer_of c.loop.sink))
    (g.W.Write.contents (writer_of c.list_piece.new.sink)) lists.2 c.loop.invariant.waits
    c.in-Err.ensures.grown
    (Consumes-trans _ _ _ lists.0 part lists.1 came.taken)
    (omega (arith, lists.3, came.asked, c.loop.invariant.asked))
    (omega (
      arith,
      came.came.1,
      length-take-le c.in-Some.count c.read_piece.new.piece
          came.came.1,
    )) came.failed came.ended c.in-Err.fault c.in-Err.ensures.listed

pub loop-preserved : goal.loop-preserved
loop-preserved g c =
    let lists = c.loop.invariant.lists in
    let part = take c.in-Some.count c.read_piece.new.piece in
    let done = c.in-Ok-None.ensures in
    record {
      asked = omega (arith, c.in-Some.ensures.asked, c.loop.invariant.asked);
      failed = c.in-Some.ensures.failed;
      ended = c.in-Some.ensures.ended;
      unwritten = done.failed;
      few = omega (
        arith,
        c.loop.invariant.few,
        done.count,
        c.in-Some.ensures.came.1,
        length-take-le c.in-Some.count c.read_piece.new.piece c.in-Some.ensures.came.1,
      );
      waits = done.waits;
      lists = (
        lists.0 ++ part,
        Consumes-trans _ _ _ lists.0 part lists.1 c.in-Some.ensures.taken,
        lists_more c.loop.listing c.list_piece.new.listing
            (g.W.Write.contents (writer_of c.args.sink.now))
            (g.W.Write.contents (writer_of c.loop.sink))
            (g.W.Write.contents (writer_of c.list_piece.new.sink)) lists.2
            (subst (λ found. TakesOrBreaks c.loop.joiner part found
            c.list_piece.new.joiner) c.in-Ok-None.field-0-is done.taken) done.listed,
        omega (
          arith,
          lists.3,
          c.in-Some.ensures.came.0,
          length-append lists.0 part,
          length-take-le c.in-Some.count c.read_piece.new.piece c.in-Some.ensures.came.1,
        ),
      );
    }

-- no books stop a check, wherever it ends
pub returns-in_default-clause-stop : goal.returns-in_default-clause-stop
returns-in_default-clause-stop g c =
    no_books c.reading_end.result (listed_count c.loop.listing) c.loop.listing c.end.result c.end.ensures.told
    c.reading_end.ensures.other

pub returns-clause-stop : goal.returns-clause-stop
returns-clause-stop g c =
    no_books c.reading_end-2.result (listed_count c.loop.listing) c.loop.listing c.end-2.result
    c.end-2.ensures.told c.reading_end-2.ensures.other

pub returns-in-Ok-Some-clause-stop : goal.returns-in-Ok-Some-clause-stop
returns-in-Ok-Some-clause-stop g c =
    no_books (Frame c.in-Ok-Some.fault) (listed_count c.list_piece.new.listing)
    c.list_piece.new.listing c.end-in-Ok-Some.result c.end-in-Ok-Some.ensures.told refl
