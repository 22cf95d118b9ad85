use Rattle.std.proofs.Common.{inr, refl}
use Rattle.without_books.proofs.FirstByteLemmas.{looked_at}
use Rattle.without_books.proofs.first_bytes.look_at.Goals as goal

pub returns-in-Ok-clause-looked : goal.returns-in-Ok-clause-looked
returns-in-Ok-clause-looked g c =
    looked_at c.args.layout c.in-Ok.first.end _ _ c.in-Ok.first.bytes.items c.looks_misread.result
    c.unwrap_or-is_misread.result c.in-Ok.ensures.few c.in-Ok.ensures.filled c.in-Ok.ensures.taken
    c.looks_misread.ensures c.unwrap_or-is_misread.ensures

pub returns-in-Err-clause-looked : goal.returns-in-Err-clause-looked
returns-in-Err-clause-looked g c = inr refl
