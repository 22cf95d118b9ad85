-- What the fields of a joiner show of what it holds.
use Rattle.std.proofs.Common.{◌≡◌, ℕ, ◌+◌, ◌-◌, ◌≤◌, ◌<◌, Bool, true, false, cond, nat_eq, List, []}
use Rattle.std.proofs.Common.{◌++◌, length, take, drop, refl, sym, ap, ◌∙◌, arith}
use Rattle.std.proofs.Common.{length-append, length-drop, append-nil, Option, Some, None, inl, inr}
use Rattle.std.proofs.lemmas.Bool.{cases_lt, ne_eqb}
use Rattle.std.proofs.lemmas.List.{length-take-le, drop_all}
use Rattle.smf_frames.specs.Faults.{descriptor_fault, end_fault}
use Rattle.smf_frames.specs.Front.{data_len}
use Rattle.smf_frames.specs.Joining.{Joining, fault_held}
use Rattle.smf_frames.specs.JoinerFields.{Fields, Invariant, begun_in, pending_bytes, joining_in}
use Rattle.smf_frames.proofs.Steps.{fault_same}

-- how much data is begun
pub begun_len : {fields : Fields} → Invariant fields → fields.is_begun ≡ true
    → Some (fields.data_end - 4) ≡ data_len (begun_in fields)
begun_len {fields} keeps begun =
    let begun_data : List ℕ = drop 4 (take fields.data_end fields.joined) in
    let len_is : length begun_data ≡ fields.data_end - 4 =
    length-drop 4 (take fields.data_end fields.joined)
    ∙ ap (λ n. n - 4) (length-take-le fields.data_end fields.joined keeps.marked) in
    ap Some (sym len_is) ∙ ap (λ b. data_len (cond b (Some begun_data) None)) (sym begun)

-- where the descriptor is not whole, nothing after it is held
pub held_short : {fields : Fields} → Invariant fields → fields.received < 4
    → drop fields.data_end fields.joined ≡ []
held_short {fields} keeps short =
    elim (cases_lt fields.data_end (length fields.joined)) [
      | inl more ↦ let is = keeps.whole more in absurd (omega arith)
      | inr all ↦ drop_all fields.data_end fields.joined all
    ]

-- that many bytes of the descriptor are held
pub received_len : {fields : Fields} → Invariant fields
    → length (take fields.received fields.descriptor) ≡ fields.received
received_len {fields} keeps =
    length-take-le fields.received fields.descriptor (omega (arith, keeps.received_four, keeps.four))

-- then what is held are bytes of the descriptor alone
held_is_got : {fields : Fields} → Invariant fields → fields.received < 4
    → take fields.received fields.descriptor ≡ pending_bytes fields
held_is_got {fields} keeps short =
    sym (ap (λ b. take fields.received fields.descriptor ++ b) (held_short keeps short)
    ∙ append-nil (take fields.received fields.descriptor))

-- so the tests of a descriptor look at its own bytes alone
fault_is : {fields : Fields} → Invariant fields → (begun : Option ℕ)
    → descriptor_fault fields.layout begun fields.left (take fields.received fields.descriptor)
    ≡ descriptor_fault fields.layout begun fields.left (pending_bytes fields)
fault_is {fields} keeps begun =
    elim (cases_lt fields.received 4) [
      | inl short ↦ ap (descriptor_fault fields.layout begun fields.left) (held_is_got keeps short)
      | inr long ↦ sym (fault_same fields.layout begun fields.left
          (take fields.received fields.descriptor) (drop fields.data_end fields.joined)
          (omega (arith, received_len keeps)))
    ]

-- and so do those of the end
end_is : {fields : Fields} → Invariant fields → (begun : Option ℕ)
    → end_fault begun fields.left (take fields.received fields.descriptor)
    ≡ end_fault begun fields.left (pending_bytes fields)
end_is {fields} keeps begun =
    let front : List ℕ = take fields.received fields.descriptor in
    let behind : List ℕ = drop fields.data_end fields.joined in
    elim (cases_lt fields.received 4) [
      | inl short ↦ ap (end_fault begun fields.left) (held_is_got keeps short)
      | inr long ↦
          let here : nat_eq (length front) 0 ≡ false =
          ne_eqb _ 0 (omega (arith, received_len keeps)) in
          let there : nat_eq (length (front ++ behind)) 0 ≡ false =
          ne_eqb _ 0 (omega (arith, received_len keeps, length-append front behind)) in
          rw (here, there) refl
    ]

-- both tests describe what the joiner holds, where they are given how much data is begun
pub tests_held : {fields : Fields} → Invariant fields → {joining : Joining}
    → joining_in fields ≡ joining → {begun : Option ℕ} → begun ≡ data_len joining.position.begun
    → (descriptor_fault fields.layout begun fields.left (take fields.received fields.descriptor)
    ≡ fault_held joining)
    × (end_fault begun fields.left (take fields.received fields.descriptor)
    ≡ end_fault (data_len joining.position.begun) joining.position.left joining.held)
tests_held {fields} keeps is told =
    let front : List ℕ = take fields.received fields.descriptor in
    let begun_is = told ∙ ap (λ (j : Joining). data_len j.position.begun) (sym is) in (
      ap (λ begun. descriptor_fault fields.layout begun fields.left front) begun_is
          ∙ fault_is keeps _ ∙ ap fault_held is,
      ap (λ begun. end_fault begun fields.left front) begun_is ∙ end_is keeps _
          ∙ ap (λ (j : Joining). end_fault (data_len j.position.begun) j.position.left j.held) is,
    )

-- how much is held
pub held_len : {fields : Fields} → Invariant fields
    → length (pending_bytes fields) ≡ fields.received + (length fields.joined - fields.data_end)
held_len {fields} keeps = omega (
  arith,
  length-append (take fields.received fields.descriptor) (drop fields.data_end fields.joined),
  received_len keeps,
  length-drop fields.data_end fields.joined,
)

-- four bytes are held only where the descriptor is whole
pub four_held : {fields : Fields} → Invariant fields → 4 ≤ length (pending_bytes fields)
    → fields.received ≡ 4
four_held {fields} keeps four =
    elim (cases_lt fields.received 4) [
      | inl short ↦
          let none = held_short keeps short in
          absurd (omega (
            arith,
            held_len keeps,
            length-drop fields.data_end fields.joined,
            ap length none,
          ))
      | inr long ↦ omega (arith, keeps.received_four)
    ]

-- no record stands
pub not_standing : (stands : Bool) (joined : List ℕ) → cond stands (Some joined) None ≡ None
    → stands ≡ false
not_standing true joined none = absurd cc
not_standing false joined none = refl
