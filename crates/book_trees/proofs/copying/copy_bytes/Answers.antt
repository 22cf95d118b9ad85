use Rattle.std.proofs.Common.{◌≡◌, ◌<◌, ◌≤◌, ◌+◌, length, arith, subst}
use Rattle.std.proofs.lemmas.Grind.{common_steps}
use Rattle.sqlite_disk.specs.Disk.{Holds}
use Rattle.book_trees.specs.Copies.{BeginsAs}
use Rattle.book_trees.proofs.CopyLemmas.{copied_more, read_twice, same_length}
use Rattle.book_trees.proofs.copying.copy_bytes.Goals as goal

pub loop-done-preserved : goal.loop-done-preserved
loop-done-preserved g c =
    let held = c.loop-done.invariant in
    let at = c.loop-done.done in
    let piece = c.read_at.new.buf in
    let long : length piece ≡ c.min-size.result = grind (arith, common_steps) in
    let some : 0 < c.min-size.result = grind (arith, common_steps) in
    let within : at + c.min-size.result ≤ c.args.len = grind (arith, common_steps) in
    let inside : at + length piece ≤ c.args.len = omega (arith, long, within) in
    let filled : 0 < length piece = omega (arith, long, some) in (
      read_twice c.args.from.now c.loop-done.from c.read_at.new.self held.0 (record {
        seen = c.read_at.ensures.seen;
        clean = c.read_at.ensures.clean;
        crash = c.read_at.ensures.crash;
      }),
      c.read_at.ensures.usable,
      c.write_at.ensures.usable,
      within,
      grind (arith, common_steps),
      same_length at c.args.len (g.B.Disk.seen c.loop-done.to) (g.B.Disk.seen c.write_at.new.self)
          piece c.write_at.ensures.others inside held.5,
      λ clean.
          subst (λ n. BeginsAs (at + n) c.args.len (g.A.Disk.seen c.args.from.now)
          (g.B.Disk.seen c.write_at.new.self)) long
          (copied_more at c.args.len (g.A.Disk.seen c.args.from.now) (g.B.Disk.seen c.loop-done.to)
          (g.B.Disk.seen c.write_at.new.self) piece
          (subst (λ file. Holds file at piece) held.0.seen
          (c.in_ok-read_at.ensures.read clean (grind (arith, common_steps))))
          (c.in_ok-write_at.ensures.written filled)
          c.write_at.ensures.others inside (held.6 (c.read_at.ensures.clean clean))),
    )
