use Rattle.std.proofs.Common.{◌-◌, ◌≤◌, arith, drop, length, length-drop, length-take-le}
use Rattle.book_lists.proofs.WritingLemmas.{taken_more}
use Rattle.program_output.proofs.error_line.hand_all.Goals as goal

pub writes-preserved : goal.writes-preserved
writes-preserved g c =
    let bytes = c.args.bytes.now in
    let left = length bytes - c.writes.written in
    let rest = drop c.writes.written bytes in
    let all : left ≤ length rest = simp length-drop (omega arith) in
    record {
      within = omega (
        arith,
        c.write_once-count.ensures.bound,
        c.writes-test.true,
        length-drop c.writes.written bytes,
        length-take-le left rest all,
      );
      grown = taken_more (g.E.Write.contents c.args.writer.now) (g.E.Write.contents c.writes.writer)
          (g.E.Write.contents c.write_once-count.new.writer) bytes c.writes.written
          c.write_once-count.result c.writes.invariant.grown c.write_once-count.ensures.taken;
    }
