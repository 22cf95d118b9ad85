-- A ruling that a ledger is asked for: which one it is decides what is tried on the ledger's parts.
use Rattle.std.proofs.Common.{◌≡◌, Bool, false, Option, Result, subst, sym}
use Rattle.book_model.specs.declared.ruling.Ruling.{Ruling}
use Rattle.book_model.specs.Words.{Naming, Note, rule_outcome, ruling_asked}
use Rattle.book_core.specs.Words.{IsCall}
use Rattle.table_ledger.proofs.Words.{AttemptsOne, Finishes, Ghosts, LeavesTheLast, LedgerFault, Ruled}
use Rattle.table_ledger.proofs.Words.{StoreError, seen_on, state, state_on}
use Rattle.table_ledger.specs.LedgerState.{seen_in}
use Rattle.table_ledger.specs.declared.ledger.TableLedger.{TableLedger}
use Rattle.table_ledger.proofs.OneCall.{call_settled}

-- it was tried on a ledger's parts, whose naming stays, and whether it is to be reopened
pub record HasTried {S N : Type 0} {ghosts : Ghosts S} (name_of : N → Naming)
    (old new : TableLedger S N ghosts) (noted : Option Note) (ruling : Ruling)
    (tried : Result (Result Ruled LedgerFault) StoreError) : Type 0 where
  pub naming : name_of new.naming ≡ name_of old.naming
  pub reopen : new.must_reopen ≡ old.must_reopen
  pub tries : AttemptsOne (λ (ruled : Ruled). ruled) (name_of old.naming) old.summary new.summary
      (state ghosts old.tables.store) (state ghosts new.tables.store)
      (rule_outcome (name_of old.naming) noted (ruling_asked ruling)) tried

module _ {S N : Type 0} {ghosts : Ghosts S} (name_of : N → Naming) (old new : TableLedger S N ghosts)
    (noted : Option Note) (ruling : Ruling)
    (tried : Result (Result Ruled LedgerFault) StoreError) where
  -- by what is so of the ruling that it is
  pub has_tried : (made : TableLedger S N ghosts) (own : Ruling)
      (given : Result (Result Ruled LedgerFault) StoreError) → new ≡ made → ruling ≡ own
      → tried ≡ given → HasTried name_of old made noted own given
      → HasTried name_of old new noted ruling tried
  has_tried made own given self is answer has =
      subst (λ ledger. HasTried name_of old ledger noted ruling tried) (sym self)
      (subst (λ ruling. HasTried name_of old made noted ruling tried) (sym is)
      (subst (HasTried name_of old made noted own) (sym answer) has))

  -- What was tried is settled: that is the call.
  pub rule_settled : {last : S} {flag : Bool} {result : Result Ruled LedgerFault}
      → HasTried name_of old new noted ruling tried → old.must_reopen ≡ false
      → ((store : S) → LeavesTheLast (ghosts.view store) (ghosts.recovers store))
      → Finishes ghosts new.tables.store last new.must_reopen flag tried result
      → IsCall (λ (ruled : Ruled). ruled) (seen_in name_of old)
      (seen_on (state_on ghosts (name_of new.naming) last flag new.summary)) result
      (rule_outcome (name_of old.naming) noted (ruling_asked ruling))
  rule_settled {last} {flag} {result} has is_open leaves settles =
      subst (λ names. IsCall (λ (ruled : Ruled). ruled) (seen_in name_of old)
      (seen_on (state_on ghosts names last flag new.summary)) result
      (rule_outcome (name_of old.naming) noted (ruling_asked ruling))) (sym has.naming)
      (call_settled ghosts old.tables.store is_open leaves
      (subst (λ before. Finishes ghosts new.tables.store last before flag tried result) has.reopen
      settles) has.tries)
