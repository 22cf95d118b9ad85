-- How far a joiner has come in a piece, step by step.
use Rattle.std.proofs.Common.{lit<, ◌≡◌, ℕ, ◌+◌, ◌≤◌, ◌<◌, Bool, false, List, [], ◌++◌, length}
use Rattle.std.proofs.Common.{take, drop, refl, sym, ap, ◌∙◌, arith, length-append, length-drop}
use Rattle.std.proofs.Common.{take-add, subst, Option, Some, None, ◌⊎◌, inl, inr}
use Rattle.std.specs.Prelude.{is_some, IfSome, IsSome}
use Rattle.std.proofs.lemmas.List.{drop-drop, length-take-le}
use Rattle.smf_frames.specs.declared.fault.FrameFault.{FrameFault}
use Rattle.smf_frames.specs.declared.next.Next.TheVariants.{Stops}
use Rattle.smf_frames.specs.Front.{data_len, next_of}
use Rattle.smf_frames.specs.Joining.{Joining, next_held, fault_held}
use Rattle.smf_frames.specs.JoinerSteps.{holding, Steps, over_block, over_segment, IsStep}
use Rattle.smf_frames.proofs.LastingFaults.{descriptor_stays}
use Rattle.smf_frames.proofs.ReaderWaits.{short_stops}
use Rattle.smf_frames.proofs.JoinerAdvance.{GoesOver, goes_then, stepped}

-- a descriptor's fault is there with more bytes held
pub still_fails : (joining : Joining) (bytes : List ℕ) (fault : FrameFault)
    → fault_held joining ≡ Some fault → fault_held (holding joining bytes) ≡ Some fault
still_fails joining bytes fault fails =
    descriptor_stays joining.layout (data_len joining.position.begun) joining.position.left joining.held
    bytes (ap (λ f. is_some f) fails) ∙ fails

-- so where it has none with more bytes, it has none
none_before : (joining : Joining) (bytes : List ℕ) → fault_held (holding joining bytes) ≡ None
    → fault_held joining ≡ None
none_before joining bytes passes = by (fault_held joining) refl
  where
    by : (found : Option FrameFault) → fault_held joining ≡ found → found ≡ None
    by None is = refl
    by (Some fault) is = let fails = still_fails joining bytes fault is in absurd cc

-- past a step the descriptor had no fault
steps_passes : (joining new : Joining) → Steps joining new → fault_held joining ≡ None
steps_passes joining new (over_block holds) = holds.passes
steps_passes joining new (over_segment holds) = holds.on.passes

-- How far a joiner has come in a piece, which it began as `old`: over some bytes, none of which it
-- holds.
pub record Went (old : Joining) (piece rest : List ℕ) (now : Joining) : Type 0 where
  pub taken : ℕ
  pub within : taken ≤ length piece
  pub rest_is : rest ≡ drop taken piece
  pub none : old.ready ≡ None
  pub passes : fault_held old ≡ None
  pub goes : GoesOver old (take taken piece) now
  pub empty : now.held ≡ []

-- or nowhere yet
abbrev pub Fed : Joining → List ℕ → List ℕ → Joining → Type 0
Fed old piece rest now = ((rest ≡ piece) × (now ≡ old)) ⊎ Went old piece rest now

-- where no record stands now, none stood where the piece began
pub fed_none : (old now : Joining) (piece rest : List ℕ) → Fed old piece rest now
    → now.ready ≡ None → old.ready ≡ None
fed_none old now piece rest (inl begins) none =
    subst (λ (j : Joining). j.ready ≡ None) begins.1 none
fed_none old now piece rest (inr went) none = went.none

-- and where the descriptor that is held now has no fault, none had one there
pub fed_passes : (old now : Joining) (piece rest more : List ℕ) → Fed old piece rest now
    → fault_held (holding now more) ≡ None → fault_held old ≡ None
fed_passes old now piece rest more (inl begins) passes =
    subst (λ (j : Joining). fault_held j ≡ None) begins.1 (none_before now more passes)
fed_passes old now piece rest more (inr went) passes = went.passes

-- a step on from there
pub fed_step : (old now new : Joining) (piece rest later : List ℕ) (n : ℕ)
    → Fed old piece rest now → now.ready ≡ None → IsStep now rest (Some n) new
    → later ≡ drop n rest → Went old piece later new
fed_step old now new piece rest later n (inl begins) none step later_is =
    let one = stepped now (take n rest) new step.1 in
    record {
      taken = n;
      within = omega (arith, step.0, ap length begins.0);
      rest_is = later_is ∙ ap (drop n) begins.0;
      none = fed_none old now piece rest (inl begins) none;
      passes = fed_passes old now piece rest (take n rest) (inl begins)
          (steps_passes _ new step.1);
      goes = subst (λ bytes. GoesOver old (take n bytes) new) begins.0
          (subst (λ j. GoesOver j (take n rest) new) begins.1 one.goes);
      empty = one.empty;
    }
fed_step old now new piece rest later n (inr went) none step later_is =
    let one = stepped now (take n rest) new step.1 in
    record {
      taken = went.taken + n;
      within = omega (
        arith,
        step.0,
        ap length went.rest_is,
        length-drop went.taken piece,
        went.within,
      );
      rest_is = later_is ∙ ap (drop n) went.rest_is ∙ drop-drop n went.taken piece;
      none = went.none;
      passes = went.passes;
      goes = subst (λ bytes. GoesOver old bytes new)
          (ap (λ r. take went.taken piece ++ take n r) went.rest_is
          ∙ sym (take-add went.taken n piece))
          (goes_then old now new (take went.taken piece) (take n rest) none went.goes one.goes);
      empty = one.empty;
    }

-- a step leaves less of what is held and of the rest
pub step_shrinks : (now new : Joining) (rest later : List ℕ) (n : ℕ)
    → IsStep now rest (Some n) new → later ≡ drop n rest
    → length new.held + length later < length now.held + length rest
step_shrinks now new rest later n step later_is =
    let one = stepped now (take n rest) new step.1 in
    omega (
      arith,
      ap length one.empty,
      ap length later_is,
      length-drop n rest,
      one.moves,
      length-append now.held (take n rest),
      length-take-le n rest step.0,
    )

-- a joiner that holds nothing waits
pub empty_waits : (joining : Joining) → joining.held ≡ [] → next_held joining ≡ Stops
empty_waits joining empty =
    let begun = data_len joining.position.begun in
    subst (λ held. next_of joining.layout begun joining.position.left held ≡ Stops) (sym empty)
    (short_stops joining.layout begun joining.position.left [] (lit< tt))

-- what has to be true of a record that stands is true where none does
pub none_if_some : (P : List ℕ → Type 0) (ready : Option (List ℕ)) → ready ≡ None
    → IfSome ready P
none_if_some P None is = tt
none_if_some P (Some one) is = absurd cc

-- a record stands, or none does
pub not_both : (ready : Option (List ℕ)) → IsSome ready → ready ≡ None → ⊥
not_both None some is = absurd (let never = some in cc)
not_both (Some one) some is = cc

-- the code's answer that none stands
pub none_stands : (ready : Option (List ℕ)) (stands : Bool) → stands ≡ is_some ready
    → stands ≡ false → ready ≡ None
none_stands None stands is none = refl
none_stands (Some one) stands is none = absurd cc
