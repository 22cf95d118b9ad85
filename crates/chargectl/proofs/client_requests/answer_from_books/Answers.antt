use Rattle.std.proofs.Common.{◌∙◌, ap, arith, reverse, subst}
use Rattle.streams.specs.Failures.{HasFailed}
use Rattle.chargectl.specs.ClientRequests.{EndsBy}
use Rattle.chargectl.proofs.ClientLemmas.{answered_from, begun_by, count_open, failed_open, led_open}
use Rattle.chargectl.proofs.ClientLemmas.{length_behind, nobody_counted, sent_open}
use Rattle.chargectl.proofs.client_requests.answer_from_books.Goals as goal

pub end_request-served-requires : goal.end_request-served-requires
end_request-served-requires g c =
    let contents = g.W.Write.contents in
    let opened = c.open-answer in
    let visit = opened.new.visit in
    failed_open g.C.Arrivals.left c.args.arrivals visit.arrivals c.args.request
    (contents c.args.writer) (contents visit.writer) (∥ HasFailed g.W.Writer.may_answer visit.writer ∥₁) _
    (reverse visit.later.items) opened.result.answer opened.ensures.came

pub returns-clause-from : goal.returns-clause-from
returns-clause-from g c =
    let contents = g.W.Write.contents in
    let opened = c.open-answer in
    let visit = opened.new.visit in
    let told = opened.result.answer in
    let held = contents c.args.writer in
    let shown = contents visit.writer in
    let later = reverse visit.later.items in
    let Failed = ∥ HasFailed g.W.Writer.may_answer visit.writer ∥₁ in
    let ended = c.end_request-served in
    answered_from g.S.Repository.shelf c.args.book.now c.args.repository.now opened.new.self
    c.args.request held shown (contents ended.result.1) told ended.result.0 later
    opened.ensures.opened opened.ensures.there
    (sent_open g.C.Arrivals.left c.args.arrivals visit.arrivals c.args.request held shown Failed _
    later told opened.ensures.came (λ same. ap (λ visit. contents visit.writer) same))
    (led_open g.C.Arrivals.left c.args.arrivals visit.arrivals c.args.request held shown Failed _
    later told opened.ensures.came
    (λ same. ap (λ visit. reverse visit.later.items) same ∙ ap reverse c.new-nobody.ensures.items))
    (subst (λ early. EndsBy early told shown (contents ended.result.1) ended.result.0)
    c.may_be_early-early.ensures ended.ensures.ends)

pub returns-clause-count : goal.returns-clause-count
returns-clause-count g c =
    let contents = g.W.Write.contents in
    let opened = c.open-answer in
    let visit = opened.new.visit in
    let later = reverse visit.later.items in
    let counted = count_open g.C.Arrivals.left c.args.arrivals visit.arrivals c.args.request
    (contents c.args.writer) (contents visit.writer) (∥ HasFailed g.W.Writer.may_answer visit.writer ∥₁) _
    later opened.result.answer opened.ensures.came
    (λ same. nobody_counted g.C.Arrivals.left c.args.arrivals visit.arrivals later
    (ap (λ visit. visit.arrivals) same)
    (ap (λ visit. reverse visit.later.items) same ∙ ap reverse c.new-nobody.ensures.items)) in
    let long = length_behind c.end_request-served.result.0 later in
    omega (arith, counted, long)

pub returns-clause-answered : goal.returns-clause-answered
returns-clause-answered g c =
    let contents = g.W.Write.contents in
    let opened = c.open-answer in
    let visit = opened.new.visit in
    let told = opened.result.answer in
    let held = contents c.args.writer in
    let shown = contents visit.writer in
    let later = reverse visit.later.items in
    let Failed = ∥ HasFailed g.W.Writer.may_answer visit.writer ∥₁ in
    let ended = c.end_request-served in
    begun_by c.args.request held shown (contents ended.result.1) told ended.result.0
    (sent_open g.C.Arrivals.left c.args.arrivals visit.arrivals c.args.request held shown Failed _
    later told opened.ensures.came (λ same. ap (λ visit. contents visit.writer) same))
    (subst (λ early. EndsBy early told shown (contents ended.result.1) ended.result.0)
    c.may_be_early-early.ensures ended.ensures.ends)
