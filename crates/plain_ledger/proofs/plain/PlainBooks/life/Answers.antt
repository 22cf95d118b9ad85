use Rattle.std.proofs.Common.{◌∙◌, ap, arith}
use Rattle.plain_ledger.specs.Treatments.{treatment_at}
use Rattle.plain_ledger.specs.PlainLives.{closed_shares, turns_at}
use Rattle.plain_ledger.proofs.LifeLemmas.{life-told}
use Rattle.plain_ledger.proofs.plain.PlainBooks.life.Goals as goal

pub returns : goal.returns
returns g c =
    let ledger = c.args.self.now in
    let counted = ledger.counted in
    let number = c.open_number.ensures.number in
    life-told ledger.kept ledger.rising c.args.name.now c.args.held.now c.requires ledger.posted
    ledger.closed.items c.in_ok-period_end.period_end c.in_ok-life.life.items
    c.push_turn.new.turns.items c.treatment-share.result c.open_number.result
    c.in_ok-period_end.ensures
    (c.in_ok-life.ensures
    ∙ ap (λ closed. turns_at 1 (closed_shares c.args.name.now closed)) c.deref.ensures.value)
    (omega (arith, number, counted)) (c.treatment-share.ensures
    ∙ ap (λ posted. treatment_at c.in_ok-period_end.period_end posted c.args.held.now)
    c.contains.ensures) c.in_ok-push_turn.ensures
