use Rattle.std.proofs.Common.{◌∙◌, ap, refl, subst}
use Rattle.book_core.specs.Words.{ruled_in}
use Rattle.book_model.specs.declared.trail.Trail.{Trail}
use Rattle.book_model.specs.Words.{record_with, trail_outcome, trail_shown}
use Rattle.table_model.specs.Words.{tables_of}
use Rattle.table_ledger.specs.TrailReads.{IsKin}
use Rattle.table_ledger.proofs.AcceptTries.{saw_as}
use Rattle.table_ledger.proofs.Answering.{makes_answer, makes_refused}
use Rattle.table_ledger.proofs.TrailTries.{by_stored, is_trail, no_record, reckoned_is}
use Rattle.table_ledger.proofs.TryLemmas.{saw_then, saw_found, saw_none, try_answered, try_refused}
use Rattle.table_ledger.proofs.Words.{opens}
use Rattle.table_ledger.proofs.GivenUp.{given_up}
use Rattle.table_ledger.proofs.trails.try_trail_of.Goals as goal

-- there is none
pub returns-in_default-clause-tries : goal.returns-in_default-clause-tries
returns-in_default-clause-tries g c = λ naming.
    let name = c.args.name.now in
    try_answered (trail_outcome naming name)
    (saw_as name c.in_default.is c.in_ok-stored.ensures.looks) (opens refl refl)
    (λ book at known. makes_refused trail_shown (trail_outcome naming name book) _
    (no_record at name known))

-- no tariff is in force on its day
pub returns-in_default-reckon_in-clause-tries : goal.returns-in_default-reckon_in-clause-tries
returns-in_default-reckon_in-clause-tries g c = λ naming.
    let name = c.args.name.now in
    let stored = c.in-Some.stored in
    let usage = c.of_usage-usage.ensures ∙ c.deref-2.ensures.value ∙ c.in_ok-bytes.ensures.bytes
    ∙ ap record_with c.deref.ensures.value in
    let reckoned = reckoned_is (ruled_in c.args.summary.now.rulings) c.reckon_in.ensures.value
    c.tariffs.ensures usage c.in_default-reckon_in.is in
    try_answered (trail_outcome naming name)
    (saw_as name c.in-Some.is c.in_ok-stored.ensures.looks) (opens refl refl)
    (λ book at known. makes_refused trail_shown (trail_outcome naming name book) _
    (by_stored at name stored _ known reckoned))

-- the records of its identity are not read
pub returns-in_err-kin-clause-tries : goal.returns-in_err-kin-clause-tries
returns-in_err-kin-clause-tries g c = λ naming.
    try_refused _ c.from_residual-in_err-kin.ensures.0 (saw_found c.in_ok-stored.ensures.looks)
    c.in_err-kin.ensures.looks

-- its lines are not read
pub returns-in_err-life-clause-tries : goal.returns-in_err-life-clause-tries
returns-in_err-life-clause-tries g c = λ naming.
    try_refused _ c.from_residual-in_err-life.ensures.0
    (saw_then (saw_found c.in_ok-stored.ensures.looks) (saw_found c.in_ok-kin.ensures.looks))
    c.in_err-life.ensures.looks

-- it is its trail
pub returns-clause-tries : goal.returns-clause-tries
returns-clause-tries g c = λ naming.
    let name = c.args.name.now in
    let stored = c.in-Some.stored in
    let ruled = ruled_in c.args.summary.now.rulings in
    let bytes = c.in_ok-bytes.ensures.bytes ∙ ap record_with c.deref.ensures.value in
    let usage = c.of_usage-usage.ensures ∙ c.deref-2.ensures.value ∙ bytes in
    let reckoned = reckoned_is ruled c.reckon_in.ensures.value
    c.tariffs.ensures usage c.in-Some-reckon_in.is in
    let trail : Trail = record {
      bytes = c.in_ok-bytes.bytes;
      period = c.period_of_day.result;
      reckoning = c.in-Some-reckon_in.reckoning;
      members = c.in_ok-kin.kin.members;
      choices = c.in_ok-kin.kin.choices;
      life = c.in_ok-life.life;
    } in
    try_answered (trail_outcome naming name)
    (saw_then (saw_then (saw_as name c.in-Some.is c.in_ok-stored.ensures.looks)
    (saw_found c.in_ok-kin.ensures.looks)) (saw_found c.in_ok-life.ensures.looks))
    (opens refl refl)
    (λ book at known.
    let kin = subst (λ own. IsKin own (tables_of naming book) c.in_ok-kin.kin)
    c.deref-3.ensures.value known.0.1 in
    makes_answer trail_shown (trail_outcome naming name book) trail
    (is_trail at name stored trail known.0.0 reckoned bytes c.period_of_day.ensures.number
    kin.members kin.choices known.1) refl)

-- ---- what is not read leaves all as it was

pub returns-in_err-stored-clause-tries : goal.returns-in_err-stored-clause-tries
returns-in_err-stored-clause-tries g c = λ naming.
    try_refused _ c.from_residual.ensures.0 saw_none
    c.in_err-stored.ensures.looks

pub returns-in_err-bytes-clause-tries : goal.returns-in_err-bytes-clause-tries
returns-in_err-bytes-clause-tries g c = λ naming.
    given_up _ c.from_residual-in_err-bytes.ensures.0 (saw_found c.in_ok-stored.ensures.looks)
