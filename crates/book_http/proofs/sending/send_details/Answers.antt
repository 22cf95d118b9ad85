use Rattle.std.proofs.Common.{◌∙◌, ap, inl, inr, refl, subst, None}
use Rattle.book_http.specs.declared.status.Status.TheVariants.{Done}
use Rattle.book_http.proofs.Words.{Appends, writer_of, answer_head}
use Rattle.book_http.proofs.StreamLemmas.{details_sent, head_sent}
use Rattle.book_http.proofs.sending.send_details.Goals as goal

-- the head is not written, or not whole
pub returns-in_default-clause-sent : goal.returns-in_default-clause-sent
returns-in_default-clause-sent g c =
    let held = g.W.Write.contents (writer_of c.args.sink.now) in
    let holds = g.W.Write.contents (writer_of c.write_text.new.sink) in
    let kind = c.form_kind.ensures in
    let text = c.as_str.ensures.value ∙ c.answer_head-head.ensures
    ∙ ap (λ kind. answer_head Done kind None c.args.size) kind in
    let front = rw text at c.in_default.ensures.prefix in
    head_sent c.args.details c.args.size (g.L.Ledger.seen c.args.ledger.now) held holds front.0 front.1
    front.2

-- the text is written, or a prefix of it
pub returns-clause-sent : goal.returns-clause-sent
returns-clause-sent g c =
    let held = g.W.Write.contents (writer_of c.args.sink.now) in
    let between = g.W.Write.contents (writer_of c.write_text.new.sink) in
    let holds = g.W.Write.contents (writer_of c.write_details.new.sink) in
    let text = c.as_str.ensures.value ∙ c.answer_head-head.ensures
    ∙ ap (λ kind. answer_head Done kind None c.args.size) c.form_kind.ensures in
    details_sent c.args.details c.args.size _ _ held between holds c.write_details.result
    c.served_as.result c.served_as.ensures
    (subst (Appends held between) text c.in-Ok.ensures.whole.0) c.write_details.ensures.written

pub returns-in_default-clause-some : goal.returns-in_default-clause-some
returns-in_default-clause-some g c =
    let text = c.as_str.ensures.value ∙ c.answer_head-head.ensures
    ∙ ap (λ kind. answer_head Done kind None c.args.size) c.form_kind.ensures in
    let front = rw text at c.in_default.ensures.prefix in
    inl (record { told = refl; count = front.0; short = front.1; grown = front.2 })

pub returns-clause-some : goal.returns-clause-some
returns-clause-some g c =
    let held = g.W.Write.contents (writer_of c.args.sink.now) in
    let between = g.W.Write.contents (writer_of c.write_text.new.sink) in
    let text = c.as_str.ensures.value ∙ c.answer_head-head.ensures
    ∙ ap (λ kind. answer_head Done kind None c.args.size) c.form_kind.ensures in
    inr (record {
      between = between;
      headed = subst (Appends held between) text c.in-Ok.ensures.whole.0;
      came = c.write_details.result;
      some = c.write_details.ensures.some;
      told = c.served_as.ensures;
    })
