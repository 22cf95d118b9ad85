-- Rulings whose day has to be near: the newest day is read, and then the ruling is asked for, or not.
use Rattle.std.proofs.Common.{◌≡◌, ◌∙◌, Bool, true, false, List, [], Option, Some, Result, Ok, Err}
use Rattle.std.proofs.Common.{refl, subst, ℤ}
use Rattle.book_model.specs.Words.{Book, Event, Naming}
use Rattle.book_core.specs.Words.{Calls, IsCall, NoEvent, Seen, IsTransition, Then}
use Rattle.book_core.proofs.TransitionLemmas.{fails, no_work, work_then}
use Rattle.book_lists.proofs.WritingLemmas.{same_value}
use Rattle.office.specs.Requests.{IsAskableRuling}
use Rattle.chargectl.specs.declared.near_rulings.NearAnswer.{NearAnswer}
use Rattle.chargectl.specs.declared.near_rulings.NearAnswer.TheVariants as nears
use Rattle.chargectl.specs.Commands.{AsksOnceBy}
use Rattle.chargectl.specs.Far.{far_outcome}
use Rattle.chargectl.specs.NearRulings.{AsksIfNear, AsksNear}
use Rattle.chargectl.proofs.DryRunLemmas.{no_refusal, read_first, refused_only}
use Rattle.chargectl.proofs.FarLemmas.{failed_of}
use Rattle.chargectl.proofs.Words.{LedgerFault, work_as, Answer, Asked}

-- nothing was asked for, since the day is far
pub far_left : (seen : Seen) (asked : Asked) (far : Bool) → far ≡ true
    → IsTransition seen seen (AsksIfNear seen.naming asked far nears.Far)
far_left seen asked far is =
    work_as seen seen NoEvent (AsksIfNear seen.naming asked far nears.Far)
    (λ was before events now none. (is, none)) (no_work seen)

-- the ruling was asked for, since it is not
pub near_done : (old new : Seen) (asked : Asked) (far : Bool) (told : Result Answer LedgerFault)
    → far ≡ false → IsTransition old new (AsksOnceBy old.naming asked (Some []) told)
    → IsTransition old new (AsksIfNear old.naming asked far (nears.Told told))
near_done old new asked far told not_far work =
    work_as old new (AsksOnceBy old.naming asked (Some []) told)
    (AsksIfNear old.naming asked far (nears.Told told))
    (λ was before events now made. (not_far, made)) work

-- so it was by the book that was looked at
near_of : (naming : Naming) (today : Option ℤ) (asked : Asked) (far : Bool) (near : NearAnswer)
    (was : Bool) (before : Book) (events : List Event) (now : Bool)
    → (far_outcome today asked before).answer ≡ Ok far
    → AsksIfNear naming asked far near was before events now
    → AsksNear naming today asked near was before events now
near_of naming today asked far (nears.Told told) was before events now said made = record {
  once = made.1;
  near = λ fresh free. same_value said ∙ made.0;
}
near_of naming today asked far nears.Far was before events now said made = record {
  none = made.1;
  far = same_value said ∙ made.0;
}

-- the newest day was read, and then the ruling was asked for, or not
pub near_asked : (old mid new : Seen) (today : Option ℤ) (asked : Asked) (far : Bool)
    (near : NearAnswer) → IsCall (λ (far : Bool). far) old mid (Ok far) (far_outcome today asked)
    → IsTransition mid new (AsksIfNear mid.naming asked far near)
    → IsTransition old new (AsksNear old.naming today asked near)
near_asked old mid new today asked far near one next =
    work_as old new
    (Then (Calls (λ (far : Bool). far) (far_outcome today asked) (Ok far))
    (AsksIfNear old.naming asked far near)) (AsksNear old.naming today asked near)
    (λ was before events now. read_first (AsksNear old.naming today asked near) (λ book. refl) was before
    events now (near_of old.naming today asked far near was before events now))
    (work_then old mid new (Calls (λ (far : Bool). far) (far_outcome today asked) (Ok far))
    (AsksIfNear old.naming asked far near) one.work
    (subst (λ naming. IsTransition mid new (AsksIfNear naming asked far near)) one.work.naming next))

-- or it could not be read
pub near_failed : (old new : Seen) (today : Option ℤ) (asked : Asked) (fault : LedgerFault)
    → IsAskableRuling asked
    → IsCall (λ (far : Bool). far) old new (Err fault) (far_outcome today asked)
    → IsTransition old new (AsksNear old.naming today asked (nears.Told (Err fault)))
near_failed old new today asked fault may call =
    work_as old new (Calls (λ (far : Bool). far) (far_outcome today asked) (Err fault))
    (AsksNear old.naming today asked (nears.Told (Err fault)))
    (λ was before events now called. record {
      once = (failed_of old.naming today asked fault may was before events now called).once;
      near = λ fresh free. absurd (no_refusal (refused_only (fails (λ (far : Bool). far)
          (far_outcome today asked) fault was before events now called) fresh free));
    }) call.work
