-- The rows of disputes, one after the other.
use Rattle.std.proofs.Common.{◌≡◌, ◌∙◌, ℕ, ◌+◌, ◌<◌, ◌≤◌, List, [], ◌∷◌, ◌++◌, length, map, take}
use Rattle.std.proofs.Common.{get_or, arith, append_assoc, ap, subst, sym, inl, inr}
use Rattle.std.proofs.lemmas.Grind.{common_steps}
use Rattle.std.proofs.lemmas.List.{get_or-map, length-map, length-take-le, take_more}
use Rattle.book_model.specs.declared.dispute.Dispute.{Dispute}
use Rattle.book_model.specs.Words.{AreDisputes, Disputed, IsDispute, dispute_shown, identity_length}
use Rattle.report_texts.specs.DisputeTables.{dispute_rows, rows_from}

-- the identity of a dispute that can be shown has all its parts
pub long_enough : (disputed : Disputed) → IsDispute disputed
    → identity_length ≤ length disputed.identity
long_enough disputed is = elim is.identity [ inl one ↦ omega arith | inr other ↦ omega arith ]

-- the dispute at an index, as it is shown
item_shown : (disputes : List Dispute) (i : ℕ) (dispute : Dispute) → i < length disputes
    → dispute ≡ get_or disputes i dispute
    → get_or (map dispute_shown disputes) i (dispute_shown dispute) ≡ dispute_shown dispute
item_shown disputes i dispute inside is =
    get_or-map dispute_shown disputes i dispute (dispute_shown dispute) inside
    ∙ ap dispute_shown (sym is)

-- it can be shown, as all can
pub shown_at : (disputes : List Dispute) (i : ℕ) (dispute : Dispute)
    → AreDisputes (map dispute_shown disputes) → i < length disputes
    → dispute ≡ get_or disputes i dispute → IsDispute (dispute_shown dispute)
shown_at disputes i dispute all inside is =
    subst IsDispute (item_shown disputes i dispute inside is)
    (all i (dispute_shown dispute) (simp length-map inside))

-- the rows of one more dispute end with its own
rows-append : (number : ℕ) (disputes : List Disputed) (last : Disputed)
    → rows_from number (disputes ++ last ∷ [])
    ≡ rows_from number disputes ++ dispute_rows (number + length disputes) last
rows-append number [] last = grind (arith, common_steps)
rows-append number (first ∷ rest) last =
    grind (arith, common_steps, append_assoc, rows-append (number + 1) rest last)

next_rows : (disputes : List Disputed) (i : ℕ) (other : Disputed) → i < length disputes
    → rows_from 1 (take (i + 1) disputes)
    ≡ rows_from 1 (take i disputes) ++ dispute_rows (i + 1) (get_or disputes i other)
next_rows disputes i other below =
    let next = get_or disputes i other in
    grind (
      arith,
      common_steps,
      take_more disputes i other below,
      length-take-le,
      rows-append 1 (take i disputes) next,
    )

-- after i disputes the rows of number i + 1 come next
pub one_more_dispute : (disputes : List Dispute) (i : ℕ) (dispute : Dispute) → i < length disputes
    → dispute ≡ get_or disputes i dispute
    → rows_from 1 (take (i + 1) (map dispute_shown disputes))
    ≡ rows_from 1 (take i (map dispute_shown disputes))
    ++ dispute_rows (i + 1) (dispute_shown dispute)
one_more_dispute disputes i dispute inside is =
    next_rows (map dispute_shown disputes) i (dispute_shown dispute) (simp length-map inside)
    ∙ ap (λ one. rows_from 1 (take i (map dispute_shown disputes)) ++ dispute_rows (i + 1) one)
    (item_shown disputes i dispute inside is)
