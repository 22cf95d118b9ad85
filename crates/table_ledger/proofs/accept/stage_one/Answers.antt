use Rattle.std.proofs.Common.{refl}
use Rattle.table_ledger.proofs.AcceptTries.{price_is, saw_as, stage_full, stage_kept, stage_known}
use Rattle.table_ledger.proofs.AcceptTries.{stage_unpriced}
use Rattle.table_ledger.proofs.StageLemmas.{stage_undone, stage_unseen, stages_where}
use Rattle.table_ledger.proofs.TryLemmas.{saw_none}
use Rattle.table_ledger.proofs.accept.stage_one.Goals as goal

pub returns-in-Some-clause-stages : goal.returns-in-Some-clause-stages
returns-in-Some-clause-stages g c =
    λ held amount rows. stage_known _ _ _ _ c.requires.usage c.name_of-name.ensures c.args.came held amount rows
    c.in-Some.stored
    c.known_or_clash.result c.known_or_clash.ensures
    (saw_as c.name_of-name.result c.in-Some.is c.in_ok-stored.ensures.looks)

pub returns-in_default-price_in-clause-stages : goal.returns-in_default-price_in-clause-stages
returns-in_default-price_in-clause-stages g c =
    let price = price_is c.price_in.ensures.value c.tariffs.ensures c.of_usage-usage.ensures
    c.in_default-price_in.is in
    λ held amount rows. stage_unpriced _ _ _ _ c.requires.usage c.name_of-name.ensures c.args.came held amount rows price
    (saw_as c.name_of-name.result c.in_default.is c.in_ok-stored.ensures.looks)

pub returns-then-is_full-clause-stages : goal.returns-then-is_full-clause-stages
returns-then-is_full-clause-stages g c =
    let price = price_is c.price_in.ensures.value c.tariffs.ensures c.of_usage-usage.ensures
    c.in-Some-price_in.is in
    λ held amount rows. stage_full _ _ _ _ c.requires.usage c.name_of-name.ensures c.args.came held amount rows
    c.in-Some-price_in.priced price
    c.is_full.ensures c.if-is_full.true
    (saw_as c.name_of-name.result c.in_default.is c.in_ok-stored.ensures.looks)

pub returns-in_err-write_new-clause-stages : goal.returns-in_err-write_new-clause-stages
returns-in_err-write_new-clause-stages g c =
    λ held amount rows. stages_where
    (stage_undone _ c.from_residual-in_err-write_new.ensures.0
    (saw_as c.name_of-name.result c.in_default.is c.in_ok-stored.ensures.looks)
    c.in_err-write_new.ensures.does)

pub returns-clause-stages : goal.returns-clause-stages
returns-clause-stages g c =
    let price = price_is c.price_in.ensures.value c.tariffs.ensures c.of_usage-usage.ensures
    c.in-Some-price_in.is in
    λ held amount rows. stage_kept _ _ _ _ c.requires.usage c.name_of-name.ensures c.args.came held amount rows
    c.in-Some-price_in.priced price
    c.is_full.ensures c.if-is_full.false _ c.in-Some-price_in.ensures.bounds
    (saw_as c.name_of-name.result c.in_default.is c.in_ok-stored.ensures.looks)
    c.in_ok-write_new.ensures.does
    (record {
      rulings = refl;
      choices = refl;
      replaced = refl;
      credits = refl;
      held = refl;
      total = refl;
    })

-- what is not read leaves all as it was
pub returns-in_err-stored-clause-stages : goal.returns-in_err-stored-clause-stages
returns-in_err-stored-clause-stages g c =
    λ held amount rows. stages_where
    (stage_unseen _ c.from_residual.ensures.0 saw_none c.in_err-stored.ensures.looks)
