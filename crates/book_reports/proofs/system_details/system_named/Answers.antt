use Rattle.book_reports.proofs.SystemLemmas.{system_read}
use Rattle.book_reports.proofs.system_details.system_named.Goals as goal

pub returns : goal.returns
returns g c =
    system_read c.args.name.now c.record_named.result c.system_by.result
    c.record_named.ensures.bytes c.system_by.ensures
