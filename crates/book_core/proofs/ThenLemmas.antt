-- Work of several parts, one after another.
use Rattle.std.proofs.Common.{◌∙◌, [], ◌++◌, refl, sym, ap, subst, append_assoc, append-nil}
use Rattle.book_model.specs.Words.{after_all}
use Rattle.book_core.specs.Transition.{Transition, NoEvent, Then}
use Rattle.book_core.proofs.TransitionLemmas.{Implies, after_all-append}

-- the first two of three parts, seen as one
pub first_two : {First Next Last : Transition}
    → Implies (Then First (Then Next Last)) (Then (Then First Next) Last)
first_two {First} {Next} {Last} was before events is both =
    let inner = both.next in
    record {
      between = inner.between;
      early = inner.early ++ both.early;
      late = inner.late;
      first = record {
        between = both.between;
        early = both.early;
        late = inner.early;
        first = both.first;
        next = inner.first;
        all = refl;
      };
      next = subst (λ book. Last inner.between book inner.late is)
          (sym (after_all-append inner.early both.early before)) inner.next;
      all = both.all ∙ ap (λ late. late ++ both.early) inner.all
          ∙ append_assoc inner.late inner.early both.early;
    }

-- the last two of three parts, seen as one
pub last_two : {First Next Last : Transition}
    → Implies (Then (Then First Next) Last) (Then First (Then Next Last))
last_two {First} {Next} {Last} was before events is both =
    let inner = both.first in
    record {
      between = inner.between;
      early = inner.early;
      late = both.late ++ inner.late;
      first = inner.first;
      next = record {
        between = both.between;
        early = inner.late;
        late = both.late;
        first = inner.next;
        next = subst (λ book. Last both.between book both.late is)
            (ap (λ events. after_all events before) inner.all
            ∙ after_all-append inner.late inner.early before) both.next;
        all = refl;
      };
      all = both.all ∙ ap (λ early. both.late ++ early) inner.all
          ∙ sym (append_assoc both.late inner.late inner.early);
    }

-- the later part, seen as other work
pub next_as : {First Next Other : Transition} → Implies Next Other
    → Implies (Then First Next) (Then First Other)
next_as implies was before events is both = record {
  between = both.between;
  early = both.early;
  late = both.late;
  first = both.first;
  next = implies both.between (after_all both.early before) both.late is both.next;
  all = both.all;
}

-- the earlier part, seen as other work
pub first_as : {First Other Next : Transition} → Implies First Other
    → Implies (Then First Next) (Then Other Next)
first_as implies was before events is both = record {
  between = both.between;
  early = both.early;
  late = both.late;
  first = implies was before both.early both.between both.first;
  next = both.next;
  all = both.all;
}

-- work that nothing came after
pub then_nothing : (First : Transition) → Implies (Then First NoEvent) First
then_nothing First was before events is both =
    subst (λ events. First was before events is)
    (sym (both.all ∙ ap (λ late. late ++ both.early) both.next.none))
    (subst (λ now. First was before both.early now) (sym both.next.same) both.first)

-- work that nothing came before
pub nothing_then : (Next : Transition) → Implies (Then NoEvent Next) Next
nothing_then Next was before events is both =
    subst (λ events. Next was before events is)
    (sym (both.all ∙ ap (λ early. both.late ++ early) both.first.none ∙ append-nil both.late))
    (subst (λ was. Next was before both.late is) both.first.same
    (subst (λ early. Next both.between (after_all early before) both.late is) both.first.none
    both.next))

-- work, and then nothing
pub nothing_more : (First : Transition) → Implies First (Then First NoEvent)
nothing_more First was before events is first = record {
  between = is;
  early = events;
  late = [];
  first = first;
  next = record { none = refl; same = refl };
  all = refl;
}
