use Rattle.std.proofs.lemmas.Str.Pattern.{ends_text}
use Rattle.book_files.proofs.names.ends_as.Goals as goal

pub returns : goal.returns
returns c = ends_text c.ends_with.result c.args.end.now c.args.path.now c.ends_with.ensures.cases
