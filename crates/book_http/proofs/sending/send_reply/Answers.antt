use Rattle.std.proofs.Common.{◌∙◌, subst}
use Rattle.book_http.proofs.AnswerLemmas.{front_behind}
use Rattle.book_http.proofs.Words.{Appends, writer_of}
use Rattle.book_http.proofs.sending.send_reply.Goals as goal

pub returns-in_default-write_bytes-clause-sent : goal.returns-in_default-write_bytes-clause-sent
returns-in_default-write_bytes-clause-sent g c =
    let held = g.W.Write.contents (writer_of c.args.sink.now) in
    let between = g.W.Write.contents (writer_of c.write_text.new.sink) in
    let holds = g.W.Write.contents (writer_of c.write_bytes.new.sink) in
    let text = c.as_str.ensures.value ∙ c.answer_head-head.ensures in
    let front = c.in_default-write_bytes.ensures.prefix in
    front_behind held between holds _ c.args.body.now front.0 front.1
    (subst (Appends held between) text c.in-Ok.ensures.whole.0) front.2
