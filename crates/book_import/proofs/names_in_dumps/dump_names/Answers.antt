use Rattle.std.proofs.Common.{◌++◌, ◌∙◌, List, ℕ, [], append-nil, arith, refl, rules, subst, sym, take}
use Rattle.std.proofs.Common.{true≢false}
use Rattle.std.specs.Prelude.{IfSome}
use Rattle.std.specs.Io.KnownBytes.{Consumes}
use Rattle.std.proofs.KnownBytes.{Consumes-trans, Consumes-nil}
use Rattle.streams.specs.Sources.{reader_of}
use Rattle.book_model.specs.Words.{HasTaken}
use Rattle.book_import.specs.Groups.{Breaks}
use Rattle.book_import.specs.ReadLimits.{cut_of}
use Rattle.book_import.proofs.FeedLemmas.{stop_is}
use Rattle.book_import.proofs.NameLemmas.{is_broken, named_here, names_more, names_nothing, stop_broken}
use Rattle.book_import.proofs.ReachLemmas.{ends_early, ends_late}
use Rattle.book_import.proofs.names_in_dumps.dump_names.Goals as goal

pub loop-init : goal.loop-init
loop-init g c = record {
  asked = omega arith;
  failed = search rules;
  ended = search rules;
  joins = (
    [],
    Consumes-nil _,
    names_nothing (g.N.Naming.name_of c.args.naming.now) c.args.layout c.in_ok-joiner.joiner
        c.new-names.result.items c.in_ok-joiner.ensures.value c.in_ok-joiner.ensures.stands
        c.in_ok-joiner.ensures.found c.new-names.ensures.items,
  );
}

-- no more came
pub returns-in_default-clause-named : goal.returns-in_default-clause-named
returns-in_default-clause-named g c =
    let joins = c.loop.invariant.joins in
    let from = g.R.Read.remaining (reader_of c.args.source.now) in
    let left = g.R.Read.remaining (reader_of c.read_piece.new.source) in
    let ended = c.in_default.ensures in
    record {
      bytes = joins.0;
      taken = subst (Consumes from left) (append-nil joins.0)
          (Consumes-trans from _ left joins.0 [] joins.1 ended.taken);
      names = joins.2.done;
      stop = stop_is joins.2 (cut_of c.read_piece.new.source) c.reading_end.ensures.stop;
      ends = ends_late joins.2.whole
          (λ failed unended. absurd (true≢false (sym (ended.none refl failed) ∙ unended)));
    }

-- all reads were made
pub returns-clause-named : goal.returns-clause-named
returns-clause-named g c =
    let joins = c.loop.invariant.joins in
    record {
      bytes = joins.0;
      taken = joins.1;
      names = joins.2.done;
      stop = stop_is joins.2 (cut_of c.loop.source) c.reading_end-2.ensures.stop;
      ends = ends_late joins.2.whole (λ failed unended. omega (arith, c.loop.invariant.asked));
    }

-- a descriptor has a fault
pub returns-in-Ok-Some-clause-named : goal.returns-in-Ok-Some-clause-named
returns-in-Ok-Some-clause-named g c =
    let naming = g.N.Naming.name_of c.args.naming.now in
    let joins = c.loop.invariant.joins in
    let part = take c.in-Some.count c.read_piece.new.piece in
    let came = c.in-Some.ensures in
    let fault = c.in-Ok-Some.fault in
    let named = c.in-Ok-Some.ensures.named in
    let breaks = subst (λ found. IfSome found (λ fault. (text later : List ℕ)
    → HasTaken text c.loop.joiner → Breaks c.loop.joiner.layout (text ++ part) later fault))
    c.in-Ok-Some.field-0-is c.in-Ok-Some.ensures.broken in
    record {
      bytes = joins.0 ++ part;
      taken = Consumes-trans _ _ _ joins.0 part joins.1 came.taken;
      names = named_here naming joins.2 part named;
      stop = stop_broken naming joins.2 part named fault breaks (cut_of c.read_piece.new.source);
      ends = ends_early (is_broken naming joins.2 part named fault breaks) came.failed came.ended;
    }

pub loop-preserved : goal.loop-preserved
loop-preserved g c =
    let naming = g.N.Naming.name_of c.args.naming.now in
    let joins = c.loop.invariant.joins in
    let part = take c.in-Some.count c.read_piece.new.piece in
    let came = c.in-Some.ensures in
    record {
      asked = omega (arith, came.asked, c.loop.invariant.asked);
      failed = came.failed;
      ended = came.ended;
      joins = (
        joins.0 ++ part,
        Consumes-trans _ _ _ joins.0 part joins.1 came.taken,
        names_more naming joins.2 part c.in-Ok-None.ensures.named
            (c.in-Ok-None.ensures.taken c.in-Ok-None.field-0-is),
      );
    }
