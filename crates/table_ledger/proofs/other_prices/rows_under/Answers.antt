use Rattle.std.proofs.Common.{◌++◌, ◌∷◌, [], refl, subst}
use Rattle.table_ledger.proofs.Words.{SumsUp, costs_of}
use Rattle.table_ledger.proofs.OtherPriceLemmas.{passed_all, passed_dear, passed_on}
use Rattle.table_ledger.proofs.LooksRefused.{look_given_up, look_refused}
use Rattle.table_ledger.proofs.TryLemmas.{looks_known, saw_found, saw_none, saw_so, saw_then}
use Rattle.table_ledger.proofs.other_prices.rows_under.Goals as goal

-- none is left: these are the rows
pub returns-then-not-there : goal.returns-then-not-there
returns-then-not-there g c = record {
  looks =
      let old = g.S.Store.view c.records.tables.store in
      let new = g.S.Store.view c.next_record.new.self.store in
      looks_known (saw_then c.records.invariant.seen
      (saw_found (rw c.if-not-there.true at c.in_ok-there.ensures.looks)))
      (λ tables known. passed_all c.args.tariff.now c.args.test.now old new c.records.sums
      c.records._steps tables c.next_record.new.row c.in_ok-rows.rows known.1 known.0
      c.in_ok-rows.ensures);
}

-- with it they cost more than the books can hold
pub returns-then-not-room : goal.returns-then-not-room
returns-then-not-room g c = record {
  looks =
      let old = g.S.Store.view c.records.tables.store in
      let new = g.S.Store.view c.next_record.new.self.store in
      let terms = c.args.tariff.now in
      let test = c.args.test.now in
      let more = c.add_counted.new.sums in
      looks_known (saw_then c.records.invariant.seen
      (saw_found (rw c.if-not-there.false at c.in_ok-there.ensures.looks)))
      (λ tables known. passed_dear terms test old new c.records.sums c.records._steps tables
      c.next_record.new.row known.0 known.1 more (λ passed came one is are.
      subst (SumsUp more (costs_of terms test (passed ++ one ∷ [])))
      c.if-not-room.true (c.in_ok-room.ensures.counted passed came one is are)));
}

-- the pass goes on
pub records-preserved : goal.records-preserved
records-preserved g c =
    let old = g.S.Store.view c.records.tables.store in
    let new = g.S.Store.view c.next_record.new.self.store in
    let terms = c.args.tariff.now in
    let test = c.args.test.now in
    let more = c.add_counted.new.sums in
    record {
      passing = c.in_ok-there.ensures.passing;
      seen = saw_so (saw_then c.records.invariant.seen
          (saw_found (rw c.if-not-there.false at c.in_ok-there.ensures.looks)))
          (λ tables known. passed_on terms test old new c.records.sums c.records._steps tables
          c.next_record.new.row known.0 known.1 more (λ passed came one is are.
          subst (SumsUp more (costs_of terms test (passed ++ one ∷ [])))
          c.if-not-room.false (c.in_ok-room.ensures.counted passed came one is are)));
    }

-- ---- a look that fails leaves all as it was

pub returns-in_err-start_pass : goal.returns-in_err-start_pass
returns-in_err-start_pass g c = record {
  looks = look_refused _ c.from_residual.ensures.0 saw_none c.in_err-start_pass.ensures.looks;
}

pub returns-in_err-there : goal.returns-in_err-there
returns-in_err-there g c = record {
  looks = look_refused _ c.from_residual-in_err-there.ensures.0 c.records.invariant.seen
      c.in_err-there.ensures.looks;
}

pub returns-in_err-rows : goal.returns-in_err-rows
returns-in_err-rows g c = record {
  looks = look_given_up _ c.from_residual-in_err-rows.ensures.0
      (saw_then c.records.invariant.seen (saw_found c.in_ok-there.ensures.looks));
}

pub returns-in_err-room : goal.returns-in_err-room
returns-in_err-room g c = record {
  looks = look_given_up _ c.from_residual-in_err-room.ensures.0
      (saw_then c.records.invariant.seen (saw_found c.in_ok-there.ensures.looks));
}

pub returns : goal.returns
returns g c = record {
  looks = look_given_up _ refl c.records.invariant.seen;
}
