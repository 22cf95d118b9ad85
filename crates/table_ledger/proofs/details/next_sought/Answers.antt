use Rattle.std.proofs.Common.{◌∙◌, SFits, ap, rules, sym, true, w32, int_lt, not, ℤ}
use Rattle.book_model.proofs.Std.{option_map_or, to_z-of_z}
use Rattle.table_ledger.proofs.DetailTries.{sought_found, sought_none, sought_on, sought_past}
use Rattle.table_ledger.proofs.TryLemmas.{looks_known, saw_found, saw_so, saw_then}
use Rattle.table_ledger.proofs.details.next_sought.Goals as goal

-- none is left
pub returns-in_default : goal.returns-in_default
returns-in_default g c = record {
  looks = looks_known (saw_then c.details.invariant
      (saw_found (rw c.in_default.is at c.in_ok-detail.ensures.looks)))
      (λ tables known. sought_none c.args.sought.now c.details.start tables known.0 known.1);
}

-- the period is past
pub returns-then-not-is_through : goal.returns-then-not-is_through
returns-then-not-is_through g c = record {
  looks =
      let sought = c.args.sought.now in
      let day = c.in-Some.detail.priced.day in
      let fits : SFits w32 day = search rules in
      let past = ap (λ (day : ℤ). option_map_or (λ close. not (int_lt close day)) sought.through
      true) (sym (to_z-of_z w32 day fits)) ∙ sym c.is_through.ensures ∙ c.if-not-is_through.true in
      looks_known (saw_then c.details.invariant
      (saw_found (rw c.in-Some.is at c.in_ok-detail.ensures.looks)))
      (λ tables known. sought_past sought c.details.start tables known.0 c.in-Some.detail known.1
      past);
}

-- it is one of them
pub returns-then-seeks : goal.returns-then-seeks
returns-then-seeks g c = record {
  looks = looks_known (saw_then c.details.invariant
      (saw_found (rw c.in-Some.is at c.in_ok-detail.ensures.looks)))
      (λ tables known. sought_found c.args.sought.now c.details.start tables known.0
      c.in-Some.detail known.1 (sym c.seeks.ensures ∙ c.if-seeks.true));
}

-- it is passed
pub details-preserved : goal.details-preserved
details-preserved g c =
    saw_so (saw_then c.details.invariant
    (saw_found (rw c.in-Some.is at c.in_ok-detail.ensures.looks)))
    (λ tables known. sought_on c.args.sought.now c.details.start tables known.0
    c.in-Some.detail known.1 c.after-start.result (sym c.seeks.ensures ∙ c.if-seeks.false)
    c.after-start.ensures)
