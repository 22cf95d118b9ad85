use Rattle.book_files.proofs.log.Log.keep_if_unused.Goals as goal

pub keep-requires : goal.keep-requires
keep-requires g c = c.in-Ok.ensures c.if-is_unused.true
