use Rattle.std.proofs.Common.{◌≡◌, ◌∙◌, ◌+◌, SFits, Some, ap, ap₂, of_z, refl, rules, subst, sym}
use Rattle.std.proofs.Common.{to_z, w32, option_map}
use Rattle.book_model.proofs.Std.{to_z-of_z}
use Rattle.book_model.specs.Words.{TariffSeen}
use Rattle.book_reports.proofs.TariffLemmas.{SeeksOn, seek_begun, seek_more, text_found, text_gone}
use Rattle.book_reports.proofs.TariffLemmas.{text_lost, text_refused}
use Rattle.book_reports.proofs.Words.{tariff_shown, call_failed, passed_on}
use Rattle.book_reports.proofs.ruling_texts.tariff_text.Goals as goal

pub returns-in_err-next : goal.returns-in_err-next
returns-in_err-next g c =
    call_failed c.from_residual.result c.from_residual.ensures.1 (λ book. refl) (λ book. refl)
    (λ book is. cc is) c.in_err-next.ensures.tariff

pub loop-before-init : goal.loop-before-init
loop-before-init g c =
    let seen = g.L.Ledger.seen in
    subst (λ day. SeeksOn (seen c.args.ledger.now) (seen c.tariff_at.new.ledger) 0 c.in_ok-next.next day)
    (sym (to_z-of_z w32 c.args.day c.ranges.day))
    (seek_begun (seen c.args.ledger.now) (seen c.tariff_at.new.ledger) c.in_ok-next.next c.args.day
    c.in_ok-next.ensures.tariff)

pub returns-in_default : goal.returns-in_default
returns-in_default g c =
    let far = rw (to_z-of_z w32 c.args.day c.ranges.day) at c.loop-before.invariant in
    text_gone far c.in_default.is

pub returns-then-begins-day : goal.returns-then-begins-day
returns-then-begins-day g c =
    let far = rw (to_z-of_z w32 c.args.day c.ranges.day) at c.loop-before.invariant in
    let begins = c.in-Some.tariff.day in
    let fits : SFits w32 begins = search rules in
    let same : begins ≡ c.args.day =
    sym (to_z-of_z w32 begins fits) ∙ ap (to_z w32) c.if-begins-day.true
    ∙ to_z-of_z w32 c.args.day c.ranges.day in
    text_found far c.into_bytes.result
    (ap (option_map tariff_shown) c.in-Some.is
    ∙ ap₂ (λ day text. Some (TariffSeen day text)) same
    (ap (λ vec. vec.items) (sym c.into_bytes.ensures.value)))

pub returns-in_err-next-2 : goal.returns-in_err-next-2
returns-in_err-next-2 g c =
    let far = rw (to_z-of_z w32 c.args.day c.ranges.day) at c.loop-before.invariant in
    rw (passed_on c.from_residual-in_err-next-2.result c.from_residual-in_err-next-2.ensures.1)
    (text_refused far (g.L.Ledger.seen c.tariff_at-in-loop-before.new.ledger)
    c.in_err-next-2.field-0.0 c.in_err-next-2.ensures.tariff)

pub loop-before-preserved : goal.loop-before-preserved
loop-before-preserved g c =
    let fits = to_z-of_z w32 c.args.day c.ranges.day in
    let far = rw fits at c.loop-before.invariant in
    let seen = g.L.Ledger.seen in
    subst (λ day. SeeksOn (seen c.args.ledger.now) (seen c.tariff_at-in-loop-before.new.ledger)
    (c.loop-before.before + 1) c.in_ok-next-2.next day) (sym fits)
    (seek_more far (seen c.tariff_at-in-loop-before.new.ledger) c.in-Some.tariff
    c.in_ok-next-2.next c.in-Some.is (λ same. c.if-begins-day.false (ap (of_z w32) same))
    c.in_ok-next-2.ensures.tariff)

pub returns : goal.returns
returns g c =
    let far = rw (to_z-of_z w32 c.args.day c.ranges.day) at c.loop-before.invariant in text_lost far
