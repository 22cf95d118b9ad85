-- What survives two calls.
use Rattle.std.proofs.Common.{inl, inr, arith}
use Rattle.tree_rows.proofs.Calls.{closes_both}
use Rattle.table_ledger.proofs.Words.{Trees, State, HasCleanDisk, Survives}

-- the disk was clean before a call, if it is after it
pub clean_before : {old new : State} {Commits : Trees → Type 0} → Survives old new Commits
    → HasCleanDisk new → HasCleanDisk old
clean_before survives clean =
    let less = survives.clean in
    omega (arith, less, clean)

-- what survives two calls, by what each may commit
pub survives_both : {first middle last : State} {One Other Both : Trees → Type 0}
    → Survives first middle One → Survives middle last Other
    → (HasCleanDisk last → (trees : Trees) → One trees → Both trees)
    → (HasCleanDisk last → (trees : Trees) → Other trees → Both trees)
    → Survives first last Both
survives_both {first} {middle} {last} one two early late = record {
  clean = (let a = one.clean in let b = two.clean in omega (arith, a, b));
  shield = λ shielded. two.shield (one.shield shielded);
  counts = (let a = one.counts in let b = two.counts in omega (arith, a, b));
  closes = λ clean is_open. closes_both one.counts two.counts
      (one.closes (clean_before two clean) is_open) (two.closes clean);
  crash = λ clean trees left.
      let before : HasCleanDisk middle = clean_before two clean in
      elim (two.crash clean trees left) [
        | inl earlier ↦ elim (one.crash before trees earlier) [
          | inl first ↦ inl first
          | inr made ↦ inr (early clean trees made)
        ]
        | inr made ↦ inr (late clean trees made)
      ];
}

-- a second call that commits nothing
pub survives_then : {first middle last : State} {Commits : Trees → Type 0}
    → Survives first middle Commits → Survives middle last (λ trees. ⊥)
    → Survives first last Commits
survives_then one two =
    survives_both one two (λ clean trees made. made) (λ clean trees none. absurd none)

-- what is known of a commit may be described in other words
pub survives_so : {first last : State} {One Other : Trees → Type 0} → Survives first last One
    → (HasCleanDisk last → (trees : Trees) → One trees → Other trees) → Survives first last Other
survives_so one so = record {
  clean = one.clean;
  shield = one.shield;
  counts = one.counts;
  closes = one.closes;
  crash = λ clean trees left. elim (one.crash clean trees left) [
    | inl first ↦ inl first
    | inr made ↦ inr (so clean trees made)
  ];
}

-- nothing else survives when there is no call
pub survives_none : {state : State} {Commits : Trees → Type 0} → Survives state state Commits
survives_none {state} = record {
  clean = omega arith;
  shield = λ shielded. shielded;
  counts = omega arith;
  closes = λ clean is_open. inl is_open;
  crash = λ clean trees left. inl left;
}
