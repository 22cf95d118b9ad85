use Rattle.std.proofs.Common.{map, subst, sym}
use Rattle.book_model.specs.Words.{IsDay}
use Rattle.book_model.proofs.Lemmas.{day_kept}
use Rattle.book_reports.proofs.Words.{on_ok_weaker, tariff_shown, map_push, HasKept, kept_of}
use Rattle.book_reports.proofs.bill_tariffs.KeptStepStepListedTariff.add.Goals as goal

pub join-requires : goal.join-requires
join-requires c = subst IsDay (sym (day_kept c.args.tariff.now.day c.requires)) c.requires

-- with one more tariff
pub returns-clause-added : goal.returns-clause-added
returns-clause-added c =
    let tariff = c.args.tariff.now in
    on_ok_weaker c.join.result
    (λ joined tariffs kept.
    subst (λ read. HasKept c.join.new.self (kept_of c.args.self.now.days read))
    (map_push tariff_shown tariffs tariff) (joined (map tariff_shown tariffs) kept))
    (rw (day_kept tariff.day c.requires, c.as_str.ensures.value) at c.join.ensures.joined)
