use Rattle.std.proofs.Common.{◌≡◌, ◌∙◌, ◌++◌, ◌∷◌, [], true, false, ap, sym, map, List}
use Rattle.book_model.specs.Words.{dispute_shown, same_bytes}
use Rattle.table_ledger.proofs.JoinLemmas.{joined_same, joined_other, joined_show}
use Rattle.table_ledger.proofs.Words.{Dispute, Variant, stored_entry}
use Rattle.table_ledger.proofs.disputes.join.Goals as goal

pub returns-in_ok-push-3-clause-joined : goal.returns-in_ok-push-3-clause-joined
returns-in_ok-push-3-clause-joined c =
    let last = c.in-Some.last in
    let same : same_bytes last.identity.items c.args.stored.now.identity.items ≡ true =
    (λ i. same_bytes (sym c.as_slice.ensures.value i) (sym c.as_slice-2.ensures.value i))
    ∙ sym c.eq.ensures ∙ c.if-eq.true in
    let members = c.in_ok-push-2.ensures.items
    ∙ ap (λ (one : Variant). last.members.items ++ one ∷ []) c.in_ok-variant.ensures.read in
    ap (λ (all : List Dispute). map dispute_shown all) c.in_ok-push-3.ensures.items
    ∙ joined_same c.args.found.now.items c.pop.new.self.items last _
    (stored_entry c.args.stored.now) c.in-Some.ensures.items same
    (λ i. record { identity = last.identity.items; members = members i })

pub returns-in_ok-push-5-clause-joined : goal.returns-in_ok-push-5-clause-joined
returns-in_ok-push-5-clause-joined c =
    let last = c.in-Some.last in
    let differ : same_bytes last.identity.items c.args.stored.now.identity.items ≡ false =
    (λ i. same_bytes (sym c.as_slice.ensures.value i) (sym c.as_slice-2.ensures.value i))
    ∙ sym c.eq.ensures ∙ c.if-eq.false in
    ap (λ (all : List Dispute). map dispute_shown all) (c.in_ok-push-5.ensures.items
    ∙ ap (λ (front : List Dispute). front ++ c.in_ok-single_dispute-2.field-0 ∷ [])
    c.in_ok-push-4.ensures.items)
    ∙ joined_other c.args.found.now.items c.pop.new.self.items last c.in_ok-single_dispute-2.field-0
    (stored_entry c.args.stored.now) c.in-Some.ensures.items differ c.in_ok-single_dispute-2.ensures.made

-- if the disputes can be shown and the record can, then all of them can
pub returns-in_ok-push-3-clause-shown : goal.returns-in_ok-push-3-clause-shown
returns-in_ok-push-3-clause-shown c = λ shown all.
    joined_show _ _ _ (returns-in_ok-push-3-clause-joined c) shown all

pub returns-in_ok-push-5-clause-shown : goal.returns-in_ok-push-5-clause-shown
returns-in_ok-push-5-clause-shown c = λ shown all.
    joined_show _ _ _ (returns-in_ok-push-5-clause-joined c) shown all
