use Rattle.chargectl.proofs.client_requests.ask_open.Goals as goal

pub returns-in-Report-clause-done : goal.returns-in-Report-clause-done
returns-in-Report-clause-done g c = rw c.in-Report.is c.ask_report.ensures.done

pub returns-in-Report-clause-came : goal.returns-in-Report-clause-came
returns-in-Report-clause-came g c = rw c.in-Report.is c.ask_report.ensures.came
