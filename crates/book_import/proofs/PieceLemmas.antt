-- Work that follows other work.
use Rattle.std.proofs.Common.{◌≡◌, ◌∙◌, Bool, List, ◌++◌, refl, sym, ap, subst, append_assoc}
use Rattle.book_model.specs.Words.{Book, Event, after_all}
use Rattle.book_core.specs.Transition.{Transition, NoEvent, Then}
use Rattle.book_core.proofs.TransitionLemmas.{Implies, after_all-append}
use Rattle.book_import.specs.Pieces.{Follows}

-- after the first work, and nothing more
pub behind_nothing : (First : Transition) → Implies NoEvent (Follows First First)
behind_nothing First was before events is none begun early before_is first =
    subst (λ late. First was begun (late ++ early) is) (sym none.none)
    (subst (λ now. First was begun early now) (sym none.same) first)

-- and then other work
pub behind_then : (First Made Next Other : Transition) → Implies (Then Made Next) Other
    → Implies (Then (Follows First Made) Next) (Follows First Other)
behind_then First Made Next Other implies was before events is both begun early before_is first =
    implies was begun (events ++ early) is (record {
      between = both.between;
      early = both.early ++ early;
      late = both.late;
      first = both.first begun early before_is first;
      next = subst (λ book. Next both.between book both.late is)
          (ap (after_all both.early) before_is ∙ sym (after_all-append both.early early begun))
          both.next;
      all = ap (λ made. made ++ early) both.all ∙ append_assoc both.late both.early early;
    })

-- such work leaves open books open, and those that are to be reopened so
abbrev pub LeavesSame : Transition → Type 0
LeavesSame First =
    (was : Bool) (before : Book) (events : List Event) (is : Bool) → First was before events is
    → is ≡ was

-- the first work, and then what comes after it
pub behind_done : (First Made : Transition) → LeavesSame First
    → Implies (Then First (Follows First Made)) Made
behind_done First Made leaves was before events is both =
    let same : both.between ≡ was = leaves was before both.early both.between both.first in
    let next : Follows First Made was (after_all both.early before) both.late is =
    subst (λ between. Follows First Made between (after_all both.early before) both.late is) same
    both.next in
    let first : First was before both.early was =
    subst (λ between. First was before both.early between) same both.first in
    subst (λ made. Made was before made is) (sym both.all) (next before both.early refl first)
