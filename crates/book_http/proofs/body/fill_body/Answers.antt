use Rattle.std.proofs.Common.{rules, arith, ◌≡◌, ◌∙◌, ◌<◌, ◌++◌, length, take, drop}
use Rattle.book_http.proofs.BodyLemmas.{copied_front, due_behind_front, fill_comes}
use Rattle.book_http.proofs.ReadLemmas.{read_as}
use Rattle.book_http.proofs.body.fill_body.Goals as goal

pub returns-clause-reads : goal.returns-clause-reads
returns-clause-reads g c =
    let front = c.args.front.now in
    let size = length c.args.body.now in
    let had = c.min-had.result in
    let copied = c.copy_from_slice.new.self ++ drop had c.args.body.now in
    let rest : had < size → had ≡ length front = λ less. omega (arith, c.min-had.ensures) in
    let long : length copied ≡ size = search rules in
    let same : take had copied ≡ take had front =
    copied_front front c.copy_from_slice.new.self (drop had c.args.body.now) had
    (omega (arith, c.min-had.ensures)) (search rules) in
    let long_still : length c.fill.new.body ≡ size = search rules in
    read_as (rw long at c.fill.ensures.reads) (due_behind_front front had size rest)
    (λ came fills. fill_comes front came c.fill.new.body had size c.fill.result
    (omega (arith, c.min-had.ensures)) (omega (arith, c.min-had.ensures)) rest long_still
    (c.fill.ensures.kept ∙ same) fills)
