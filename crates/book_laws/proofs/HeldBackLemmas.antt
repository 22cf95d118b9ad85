-- Whichever record of each dispute is taken, what these cost a centre together lies between the two
-- amounts that are held back.
use Rattle.std.proofs.Common.{◌≡◌, ℕ, ◌≤◌, min, max, List, [], ◌∷◌, map, refl, ap, true, false}
use Rattle.std.proofs.Common.{true≢false, Bool, cond, ◌||◌, Option, unwrap_or, arith, All, Contains}
use Rattle.std.proofs.Common.{fold, sum_by, if◌then◌else◌}
use Rattle.book_model.proofs.Std.{list_any, reduce, All-cons, All-contains, All-head, All-nil}
use Rattle.book_model.proofs.Std.{All-tail, sum_by-cons}
use Rattle.book_model.specs.declared.dispute.Variant.{Variant}
use Rattle.book_model.specs.Words.{Disputed, amount_for, disputes_for, greatest_for, held_back_in}
use Rattle.book_model.specs.Words.{is_paid_by, least_for}
use Rattle.book_laws.specs.BillLaws.{HeldBackBounds, IsWithin}

-- the least of some numbers is none of them or less,
least_of : {X : Type 0} (f : X → ℕ) (first : ℕ) (xs : List X)
    → (fold min first (map f xs) ≤ first) × All (λ x. fold min first (map f xs) ≤ f x) xs
least_of f first [] = (omega arith, All-nil (λ x. first ≤ f x))
least_of f first (x ∷ xs) =
    let rest = least_of f (min first (f x)) xs in
    let below = rest.0 in
    let least : ℕ = fold min (min first (f x)) (map f xs) in
    (omega arith, All-cons (λ y. least ≤ f y) x xs (omega arith) rest.1)

-- and the greatest one of them or more
greatest_of : {X : Type 0} (f : X → ℕ) (first : ℕ) (xs : List X)
    → (first ≤ fold max first (map f xs)) × All (λ x. f x ≤ fold max first (map f xs)) xs
greatest_of f first [] = (omega arith, All-nil (λ x. f x ≤ first))
greatest_of f first (x ∷ xs) =
    let rest = greatest_of f (max first (f x)) xs in
    let above = rest.0 in
    let greatest : ℕ = fold max (max first (f x)) (map f xs) in
    (omega arith, All-cons (λ y. f y ≤ greatest) x xs (omega arith) rest.1)

module _ (centre : Option (List ℕ)) where
  abbrev cost : Variant → ℕ
  cost member = amount_for centre member

  abbrev is_paid : Variant → Bool
  is_paid member = is_paid_by centre member.priced

  -- so it is with the records of a dispute
  least_is : (members : List Variant)
      → All (λ member. unwrap_or (reduce min (map cost members)) 0 ≤ cost member) members
  least_is [] = All-nil (λ member. 0 ≤ cost member)
  least_is (first ∷ others) =
      let rest = least_of cost (cost first) others in
      All-cons (λ member. fold min (cost first) (map cost others) ≤ cost member) first others
      rest.0 rest.1

  greatest_is : (members : List Variant)
      → All (λ member. cost member ≤ unwrap_or (reduce max (map cost members)) 0) members
  greatest_is [] = All-nil (λ member. cost member ≤ 0)
  greatest_is (first ∷ others) =
      let rest = greatest_of cost (cost first) others in
      All-cons (λ member. cost member ≤ fold max (cost first) (map cost others)) first others
      rest.0 rest.1

  -- where the centre pays for none of them, each costs it nothing
  none_paid : (members : List Variant) → list_any is_paid members ≡ false
      → All (λ member. cost member ≡ 0) members
  none_paid [] none = All-nil (λ member. cost member ≡ 0)
  none_paid (first ∷ others) none =
      elim (is_paid first) as (λ b. is_paid first ≡ b → (b || list_any is_paid others) ≡ false
      → All (λ member. cost member ≡ 0) (first ∷ others)) [
        | true ↦ λ paid never. absurd (true≢false never)
        | false ↦ λ unpaid rest.
            All-cons (λ member. cost member ≡ 0) first others
            (ap (λ b. if b then first.priced.amount else 0) unpaid) (none_paid others rest)
      ] refl none

  -- one more dispute
  one_more : (dispute : Disputed) (others : List Disputed) (chosen : Disputed → Variant)
      → Contains dispute.members (chosen dispute)
      → IsWithin (held_back_in centre others) (sum_by (λ other. cost (chosen other)) others)
      → IsWithin (held_back_in centre (dispute ∷ others))
      (sum_by (λ other. cost (chosen other)) (dispute ∷ others))
  one_more dispute others chosen among within =
      let member : Variant = chosen dispute in
      let own = disputes_for centre others in
      let all = sum_by-cons (λ other. cost (chosen other)) dispute others in
      let low = within.least in
      let high = within.greatest in
      let total : ℕ = sum_by (λ other. cost (chosen other)) (dispute ∷ others) in
      let Bound : List Disputed → Type 0 = λ some.
      (sum_by (least_for centre) some ≤ total) × (total ≤ sum_by (greatest_for centre) some) in
      let both : Bound (disputes_for centre (dispute ∷ others)) =
      elim (list_any is_paid dispute.members)
      as (λ b. list_any is_paid dispute.members ≡ b → Bound (cond b (dispute ∷ own) own)) [
        | true ↦ λ paid.
            let least = All-contains (λ member. least_for centre dispute ≤ cost member)
            dispute.members member (least_is dispute.members) among in
            let greatest = All-contains (λ member. cost member ≤ greatest_for centre dispute)
            dispute.members member (greatest_is dispute.members) among in
            let leasts = sum_by-cons (least_for centre) dispute own in
            let greatests = sum_by-cons (greatest_for centre) dispute own in
            (omega arith, omega arith)
        | false ↦ λ unpaid.
            let nothing = All-contains (λ member. cost member ≡ 0) dispute.members member
            (none_paid dispute.members unpaid) among in
            (omega arith, omega arith)
      ] refl in
      record { least = both.0; greatest = both.1 }

-- the law
pub held_back_bounds : HeldBackBounds
held_back_bounds centre [] chosen among = record { least = omega arith; greatest = omega arith }
held_back_bounds centre (dispute ∷ others) chosen among =
    let P : Disputed → Type 0 = λ dispute. Contains dispute.members (chosen dispute) in
    one_more centre dispute others chosen (All-head P dispute others among)
    (held_back_bounds centre others chosen (All-tail P dispute others among))
