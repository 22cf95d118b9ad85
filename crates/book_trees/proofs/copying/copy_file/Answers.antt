use Rattle.std.proofs.Common.{◌∙◌, ap, arith, length, sym}
use Rattle.book_trees.proofs.CopyLemmas.{copied_whole, copy_synced}
use Rattle.book_trees.proofs.CopyLemmas.{read_twice}
use Rattle.book_trees.proofs.copying.copy_file.Goals as goal

pub returns-clause-read : goal.returns-clause-read
returns-clause-read g c =
    read_twice c.args.from.now c.len.new.self c.copy_bytes.new.from (record {
      seen = c.len.ensures.seen;
      clean = c.len.ensures.clean;
      crash = c.len.ensures.crash;
    }) c.copy_bytes.ensures.read

pub returns-clause-copied : goal.returns-clause-copied
returns-clause-copied g c =
    copy_synced g.A.Disk g.B.Disk c.copy_bytes.new.from c.copy_bytes.new.to c.sync.new.self
    c.sync.result c.sync.ensures.durable c.sync.ensures.seen (λ clean.
    let began = c.copy_bytes.ensures.read.clean clean in
    copied_whole c.in_ok-len.len (g.A.Disk.seen c.len.new.self)
    (g.B.Disk.seen c.copy_bytes.new.to)
    (c.in_ok-len.ensures.len began ∙ ap length (sym c.len.ensures.seen))
    (c.in_ok-copy_bytes.ensures.copied clean) ∙ sym c.copy_bytes.ensures.read.seen)

-- what was said of the length is so of an honest file
pub copy_bytes-requires-clause-whole : goal.copy_bytes-requires-clause-whole
copy_bytes-requires-clause-whole g c = λ clean.
    let told = c.in_ok-len.ensures.len clean in
    let same = ap length c.len.ensures.seen in
    omega (arith, told, same)
