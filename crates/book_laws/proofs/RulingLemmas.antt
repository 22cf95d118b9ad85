-- Withheld works net to nothing, and the credits of a closed period stay.
use Rattle.std.proofs.Common.{◌≡◌, ℕ, ◌<◌, List, [], ◌∷◌, ◌++◌, refl, sym, ap, ◌∙◌, pos, arith}
use Rattle.std.proofs.Common.{length, subst, ◌+◌, ◌≤◌}
use Rattle.std.proofs.Common.{Bool, true, false, not, ◌&&◌, ◌||◌, cond, filter, Option, Some, None}
use Rattle.std.proofs.Common.{All, if◌then◌else◌, nat_le, Result, Ok, Err}
use Rattle.std.proofs.Math.Bool.{and-true}
use Rattle.book_model.proofs.Std.{All-head, All-tail, last_or, list_any, option_map_or}
use Rattle.book_model.specs.declared.answer.Ruled.{Ruled}
use Rattle.book_model.specs.declared.answer.Ruled.TheVariants.{Already, Done}
use Rattle.book_model.specs.declared.fault.LedgerFault.{LedgerFault}
use Rattle.book_model.specs.declared.fault.LedgerFault.TheVariants.{Full, NotDisputed}
use Rattle.book_model.specs.Words.{Book, Choice, is_chosen, is_preferred, is_unrivalled}
use Rattle.book_model.specs.Words.{most_choices, share_identity}
use Rattle.book_model.specs.Words.{Event, Rulings, book_after, closes, credits_asked, credits_in}
use Rattle.book_model.specs.Words.{open_by, rulings, PeriodClosed}
use Rattle.book_model.proofs.ChosenLemmas.{withheld_uncharged}
use Rattle.book_model.proofs.CreditLemmas.{credits_stand_apart}
use Rattle.book_model.proofs.HistoryLemmas.{closed_once_more}
use Rattle.book_model.proofs.MadeByCallsLemmas.{rulings_are}
use Rattle.book_laws.specs.NetCounts.{one_if}
use Rattle.book_laws.specs.RulingLaws.{ClosedCreditsStay, CreditsChangeBillsAlone}
use Rattle.book_laws.specs.RulingLaws.{UnusedChangesNothing, WithheldNetsToNothing}
use Rattle.book_laws.proofs.NetLemmas.{charged_once}

-- the law of withheld works
pub withheld_nets_to_nothing : WithheldNetsToNothing
withheld_nets_to_nothing history bytes withheld =
    charged_once history bytes
    ∙ ap (λ charged. pos (one_if charged))
    (withheld_uncharged (book_after history).rulings (book_after history).held bytes withheld)

-- an event takes away no close
closes_stay : (event : Event) (older : List Event)
    → length (closes older) ≤ length (closes (event ∷ older))
closes_stay (PeriodClosed said day) older = omega (arith, closed_once_more said day older)
closes_stay event older = omega arith

-- one event more, and any events
stays : (later earlier : List Event) (number : ℕ) → number < open_by (rulings earlier)
    → credits_in number (rulings (later ++ earlier)) ≡ credits_in number (rulings earlier)
stays [] earlier number closed = refl
stays (event ∷ later) earlier number closed =
    let older = later ++ earlier in
    let grown = grows later earlier in
    credits_stand_apart.closed older event number (omega arith)
    ∙ stays later earlier number closed
  where
    grows : (later earlier : List Event)
        → open_by (rulings earlier) < open_by (rulings (later ++ earlier)) + 1
    grows [] earlier = omega arith
    grows (event ∷ later) earlier =
        let before = grows later earlier in
        let more = closes_stay event (later ++ earlier) in
        omega arith

-- the law of credits
pub closed_credits_stay : ClosedCreditsStay
closed_credits_stay later earlier number centre closed =
    let was : number < open_by (rulings earlier) =
    subst (λ (ruled : Rulings). number < open_by ruled) (rulings_are earlier) closed.is_past in
    ap (λ (ruled : Rulings). credits_asked centre (credits_in number ruled))
    (rulings_are (later ++ earlier))
    ∙ ap (credits_asked centre) (stays later earlier number was)
    ∙ ap (λ (ruled : Rulings). credits_asked centre (credits_in number ruled))
    (sym (rulings_are earlier))

-- the law of what credits leave
pub credits_change_bills_alone : CreditsChangeBillsAlone
credits_change_bills_alone = record {
  bills = λ naming book number of period centre amount reason. refl;
  charges = λ book number centre amount reason. refl;
  adjustments = λ naming book number centre amount reason. refl;
  disputes = λ naming book centre amount reason. refl;
  periods = λ book centre amount reason. refl;
}

-- where each choice is of a record, the last one is
last_counts : (p : Choice → Bool) (choices : List Choice) (was : Option Choice)
    → option_map_or (λ (choice : Choice). not choice.counts) was false ≡ false
    → All (λ (choice : Choice). choice.counts ≡ true) choices
    → option_map_or (λ (choice : Choice). not choice.counts) (last_or was (filter p choices)) false
    ≡ false
last_counts p [] was before all = before
last_counts p (first ∷ choices) was before all =
    let own = All-head (λ (choice : Choice). choice.counts ≡ true) first choices all in
    let rest = All-tail (λ (choice : Choice). choice.counts ≡ true) first choices all in
    elim (p first) as (λ b. option_map_or (λ (choice : Choice). not choice.counts)
    (last_or was (cond b (first ∷ filter p choices) (filter p choices))) false ≡ false) [
      | true ↦ last_counts p choices (Some first) (ap not own) rest
      | false ↦ last_counts p choices was before rest
    ]

-- and none is of none
none_of_none : (p : Choice → Bool) (choices : List Choice)
    → All (λ (choice : Choice). choice.counts ≡ true) choices
    → list_any (λ (choice : Choice). not choice.counts && p choice) choices ≡ false
none_of_none p [] all = refl
none_of_none p (first ∷ choices) all =
    let own = All-head (λ (choice : Choice). choice.counts ≡ true) first choices all in
    let rest = none_of_none p choices
    (All-tail (λ (choice : Choice). choice.counts ≡ true) first choices all) in
    λ i. (not (own i) && p first) || rest i

-- the answer to a choice by two tests
abbrev by_two : Bool → Bool → Book → Result Ruled LedgerFault
by_two decided chosen book =
    if decided then Err NotDisputed
    else if chosen then Ok Already
    else if nat_le most_choices (length book.rulings.choices) then Err Full
    else Ok Done

-- the law of rulings that are not used
pub unused_changes_nothing : UnusedChangesNothing
unused_changes_nothing = record {
  undisputed = λ rulings held bytes all.
      ap (λ withheld. not withheld && is_preferred rulings held bytes)
      (last_counts (λ (choice : Choice). share_identity rulings bytes choice.chosen) rulings.choices
      None refl all);
  answer = λ book bytes all.
      let lone : Bool = is_unrivalled book.rulings book.held bytes in
      let chosen : Bool = is_chosen book.rulings bytes in
      let withheld = last_counts
      (λ (choice : Choice). share_identity book.rulings bytes choice.chosen) book.rulings.choices None
      refl all in
      let was = none_of_none
      (λ (choice : Choice). share_identity book.rulings bytes choice.chosen) book.rulings.choices
      all in
      (λ i. by_two (lone && not (was i)) (chosen && not (withheld i)) book)
      ∙ (λ i. by_two (and-true lone i) (and-true chosen i) book);
}
