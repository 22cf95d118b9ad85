use Rattle.std.proofs.Common.{rules, ◌≡◌, ◌∙◌, [], ap}
use Rattle.book_http.proofs.Words.{writer_of, response_by, form_kind, gathered, office_reply}
use Rattle.book_http.proofs.Words.{reply_of}
use Rattle.book_http.proofs.GatherLemmas.{gathered_answered}
use Rattle.book_http.proofs.office_answers.gather_details.Goals as goal

pub returns : goal.returns
returns g c =
    let old = g.L.Ledger.seen c.args.ledger.now in
    let new = g.L.Ledger.seen c.write_details-told.new.ledger in
    let details = c.args.details.now in
    let told = c.write_details-told.result in
    let empty : (writer_of c.new-text.result).items ≡ [] = search rules in
    gathered_answered details old new told (writer_of c.new-text.result).items
    (writer_of c.write_details-told.new.sink).items (reply_of c.answer_of.result) empty
    (c.answer_of.ensures
    ∙ ap (λ kind. office_reply kind (response_by c.gathered.result)) c.form_kind-kind.ensures
    ∙ ap (office_reply (form_kind details.form))
    (c.gathered.ensures ∙ ap (λ taken. gathered told taken.items) c.into_inner.ensures.writer))
    c.write_details-told.ensures.written
