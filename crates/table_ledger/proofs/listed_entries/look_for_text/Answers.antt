use Rattle.std.proofs.Common.{◌∙◌, arith, refl, sym, w32}
use Rattle.book_model.proofs.Std.{to_z-of_z}
use Rattle.table_ledger.proofs.EntryTries.{passed_none, passed_on, text_found, text_none}
use Rattle.table_ledger.proofs.LooksRefused.{look_given_up, look_refused}
use Rattle.table_ledger.proofs.TryLemmas.{looks_known, saw_found, saw_none, saw_so, saw_then}
use Rattle.table_ledger.proofs.listed_entries.look_for_text.Goals as goal

-- none is passed at first
pub rows-init : goal.rows-init
rows-init g c =
    rw (to_z-of_z w32 c.args.day c.ranges.day) (saw_so saw_none
    (λ tables nothing. passed_none c.args.day c.args.number c.args.count tables))

-- it begins on the day
pub returns-then-began_on : goal.returns-then-began_on
returns-then-began_on g c = record {
  looks =
      let day = to_z-of_z w32 c.args.day c.ranges.day in
      let begins = rw day at c.began_on.ensures in
      looks_known (saw_then (rw day at c.rows.invariant)
      (saw_found (rw c.in-Some.is at c.in_ok-tariff.ensures.looks)))
      (λ tables known. text_found c.args.day c.args.number c.args.count c.rows.passed tables known.0
      c.in-Some.tariff known.1 (sym begins ∙ c.if-began_on.true));
}

-- it is passed
pub rows-preserved : goal.rows-preserved
rows-preserved g c =
    let day = to_z-of_z w32 c.args.day c.ranges.day in
    let begins = rw day at c.began_on.ensures in
    rw day (saw_so (saw_then (rw day at c.rows.invariant)
    (saw_found (rw c.in-Some.is at c.in_ok-tariff.ensures.looks)))
    (λ tables known. passed_on c.args.day c.args.number c.args.count c.rows.passed tables known.0
    c.in-Some.tariff known.1 (sym begins ∙ c.if-began_on.false)))

-- no more are left
pub returns : goal.returns
returns g c = record {
  looks = looks_known (rw (to_z-of_z w32 c.args.day c.ranges.day) at c.rows.invariant)
      (λ tables known. text_none c.args.day c.args.number c.args.count c.rows.passed tables known
      (omega (arith, c.rows-test.false)));
}

-- ---- a look that fails leaves all as it was

pub returns-in_err-tariff : goal.returns-in_err-tariff
returns-in_err-tariff g c = record {
  looks = look_refused _ c.from_residual.ensures.0 c.rows.invariant
      c.in_err-tariff.ensures.looks;
}

pub returns-in_default : goal.returns-in_default
returns-in_default g c = record {
  looks = look_given_up _ refl
      (saw_then c.rows.invariant (saw_found c.in_ok-tariff.ensures.looks));
}
