use Rattle.std.proofs.Common.{◌∙◌, refl, sym, take_all, arith, ◌≡◌, ℕ, ◌-◌, List, [], ◌++◌, length}
use Rattle.std.proofs.Common.{take, ap, subst, true, false, true≢false, Option, Some, None, is_some}
use Rattle.std.proofs.Common.{replicate, append-nil}
use Rattle.plain_ledger.proofs.identity.Identity.in_force.Goals as goal
use Rattle.std.proofs.Math.Seq.{take-append_seam}
use Rattle.book_model.specs.Words.{identity_length, identity2_length}
use Rattle.plain_ledger.specs.PaddedIdentities.{IsPaddedIdentity, padded_identity}
use Rattle.book_core.specs.Identities.{identity_in}

-- what is at the start
front_of : (front zeros : List ℕ) (len : ℕ) → length front ≡ len → take len (front ++ zeros) ≡ front
front_of front zeros len long =
    ap (λ n. take n (front ++ zeros)) (sym long) ∙ take-append_seam front zeros

-- bytes at the start of zeros are kept as an identity is
padded_at_front : (front zeros : List ℕ) (len : ℕ) → length front ≡ len
    → replicate (identity2_length - len) 0 ≡ zeros → IsPaddedIdentity (front ++ zeros) len
padded_at_front front zeros len long fill =
    let seam = front_of front zeros len long in
    record {
      lasts = ap length seam ∙ long;
      zeros = ap padded_identity seam
          ∙ ap (λ n. front ++ replicate (identity2_length - n) 0) long
          ∙ ap (λ behind. front ++ behind) fill;
    }

-- so are all of them
padded_all : (second : List ℕ) → length second ≡ identity2_length
    → IsPaddedIdentity second identity2_length
padded_all second long =
    subst (λ bytes. IsPaddedIdentity bytes identity2_length) (append-nil second)
    (padded_at_front second [] identity2_length long refl)

-- where the second rule was adopted, all bytes are the identity
all_in_force : (adopted : Option ℕ) (second : List ℕ) → is_some adopted ≡ true
    → second ≡ identity_in adopted second
all_in_force None second some = absurd (true≢false (sym some))
all_in_force (Some period) second some = refl

-- where it was not, those at the start are
front_in_force : (adopted : Option ℕ) (second front zeros : List ℕ)
    → is_some adopted ≡ false → length front ≡ identity_length
    → front ≡ take identity_length second
    → take identity_length (front ++ zeros) ≡ identity_in adopted second
front_in_force None second front zeros none long is =
    front_of front zeros identity_length long ∙ is
front_in_force (Some period) second front zeros none long is = absurd (true≢false none)

pub invariant_of-result : goal.invariant_of-result
invariant_of-result c = padded_all c.args.second.now (omega arith)

pub returns-then-is_some : goal.returns-then-is_some
returns-then-is_some c =
    take_all 32 c.args.second.now (omega arith)
    ∙ all_in_force c.args.adopted c.args.second.now (sym c.is_some.ensures ∙ c.if-is_some.true)

pub invariant_of-result-2 : goal.invariant_of-result-2
invariant_of-result-2 c =
    padded_at_front c.copy_from_slice.new.self _ 24 c.copy_from_slice.ensures.len refl

pub returns : goal.returns
returns c =
    front_in_force c.args.adopted c.args.second.now c.copy_from_slice.new.self _
    (sym c.is_some.ensures ∙ c.if-is_some.false) c.copy_from_slice.ensures.len
    c.copy_from_slice.ensures.after
