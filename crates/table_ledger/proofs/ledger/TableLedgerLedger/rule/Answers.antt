use Rattle.std.proofs.Common.{FitsSigned, refl, rules, subst, w64}
use Rattle.book_model.specs.declared.ruling.Ruling.{Ruling}
use Rattle.book_model.specs.Words.{MayBeAsked, note_given, ruling_asked}
use Rattle.book_model.proofs.Lemmas.{day_kept}
use Rattle.book_model.proofs.Std.{to_z-of_z}
use Rattle.table_ledger.specs.LedgerState.{ledger_state}
use Rattle.table_ledger.proofs.OneCall.{call_reopen}
use Rattle.table_ledger.proofs.RuledCalls.{HasTried, has_tried, rule_settled}
use Rattle.table_ledger.proofs.ledger.TableLedgerLedger.rule.Goals.{in-Adopt, in-Choose, in-Close}
use Rattle.table_ledger.proofs.ledger.TableLedgerLedger.rule.Goals.{in-Credit, in-Replace, in-Tariff}
use Rattle.table_ledger.proofs.ledger.TableLedgerLedger.rule.Goals.{in-Withhold}
use Rattle.table_ledger.proofs.ledger.TableLedgerLedger.rule.Goals as goal

pub returns-then-self : goal.returns-then-self
returns-then-self g c =
    call_reopen (ledger_state g.N.Naming.name_of c.args.self.now) c.if-self.true

pub returns : goal.returns
returns g c =
    let name_of = g.N.Naming.name_of in
    let old = c.args.self.now in
    let new = c.match-ruling.self in
    let noted = note_given c.args.note.now in
    let ruling = c.args.ruling in
    let names = name_of old.naming in
    let tried = c.match-ruling.tried in
    let has : HasTried name_of old new noted ruling tried = elim c.match-ruling.branch [
      | in-Tariff w ↦ has_tried name_of old new noted ruling tried _ _ _ w.self-is w.in-Tariff.is
          w.tried-is
          (record { naming = refl; reopen = refl; tries = w.try_tariff-tried.ensures.tries names })
      | in-Close w ↦
          let is_day = subst (λ (ruling : Ruling). MayBeAsked (ruling_asked ruling)) w.in-Close.is
          c.requires in
          let kept = day_kept w.in-Close.through is_day in
          has_tried name_of old new noted ruling tried _ _ _ w.self-is w.in-Close.is w.tried-is
          (record {
            naming = refl;
            reopen = refl;
            tries = rw kept at w.try_close-tried.ensures.tries names;
          })
      | in-Choose w ↦ has_tried name_of old new noted ruling tried _ _ _ w.self-is w.in-Choose.is
          w.tried-is
          (record { naming = refl; reopen = refl; tries = w.try_choose-tried.ensures.tries names })
      | in-Adopt w ↦ has_tried name_of old new noted ruling tried _ _ _ w.self-is w.in-Adopt.is
          w.tried-is
          (record { naming = refl; reopen = refl; tries = w.try_adopt-tried.ensures.tries names })
      | in-Replace w ↦ has_tried name_of old new noted ruling tried _ _ _ w.self-is w.in-Replace.is
          w.tried-is
          (record { naming = refl; reopen = refl; tries = w.try_replace-tried.ensures.tries names })
      | in-Withhold w ↦ has_tried name_of old new noted ruling tried _ _ _ w.self-is
          w.in-Withhold.is w.tried-is
          (record { naming = refl; reopen = refl; tries = w.try_withhold-tried.ensures.tries names })
      | in-Credit w ↦
          let amount = w.in-Credit.amount in
          let fits : FitsSigned w64 amount = search rules in
          let kept = to_z-of_z w64 amount fits in
          has_tried name_of old new noted ruling tried _ _ _ w.self-is w.in-Credit.is w.tried-is
          (record {
            naming = refl;
            reopen = refl;
            tries = rw kept at w.try_credit-tried.ensures.tries names;
          })
    ] in
    rule_settled name_of old new noted ruling tried {last = c.finish.new.tables.store}
    {flag = c.finish.new.must_reopen} has c.if-self.false g.met.S.Store.settled
    c.finish.ensures.settles
