use Rattle.std.proofs.Common.{◌∙◌, ap, reverse, subst}
use Rattle.streams.specs.Failures.{HasFailed}
use Rattle.book_core.specs.Transition.{IsTransition}
use Rattle.book_http.specs.Requested.{WholeRequest}
use Rattle.chargectl.specs.ClientRequests.{AreLed, AsksBehind, AsksOpen, ComesOpen, may_lead}
use Rattle.chargectl.proofs.ClientLemmas.{all_asked, led_behind}
use Rattle.chargectl.proofs.client_requests.OpenRequestVisit.visit.Goals as goal

pub returns-clause-done : goal.returns-clause-done
returns-clause-done g c =
    let seen = g.L.Ledger.seen in
    let contents = g.W.Write.contents in
    let request = c.args.self.now.request in
    let asked = c.ask_open-told in
    let behind = c.ask_behind in
    let old = seen c.args.books.now in
    let leads = c.may_lead-leads.ensures
    ∙ ap (λ reports. may_lead reports asked.result.0) c.is_report-reports.ensures in
    all_asked seen c.args.books.now asked.new.books behind.new.books request
    (contents c.args.self.now.writer) (contents asked.result.1) (reverse behind.result.items)
    asked.result.0
    (subst (λ (request : WholeRequest). IsTransition old (seen asked.new.books)
    (AsksOpen old.naming request (contents c.args.self.now.writer) (contents asked.result.1)
    asked.result.0)) c.replace-request.ensures.value asked.ensures.done)
    (subst
    (λ leads. AsksBehind seen leads asked.new.books behind.new.books (reverse behind.result.items)) leads
    behind.ensures.behind)

pub returns-clause-came : goal.returns-clause-came
returns-clause-came g c =
    let contents = g.W.Write.contents in
    let request = c.args.self.now.request in
    let asked = c.ask_open-told in
    let behind = c.ask_behind in
    let leads = c.may_lead-leads.ensures
    ∙ ap (λ reports. may_lead reports asked.result.0) c.is_report-reports.ensures in
    record {
      first = subst (λ (request : WholeRequest). ComesOpen request (contents c.args.self.now.writer)
          (contents asked.result.1) (∥ HasFailed g.W.Writer.may_answer asked.result.1 ∥₁)
          asked.result.0) c.replace-request.ensures.value asked.ensures.came;
      led = subst (λ leads. AreLed leads (reverse behind.result.items)) leads
          (led_behind g.L.Ledger.seen c.may_lead-leads.result asked.new.books behind.new.books
          (reverse behind.result.items) behind.ensures.behind);
      count = behind.ensures.count;
    }
