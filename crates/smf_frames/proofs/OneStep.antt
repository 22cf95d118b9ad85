-- What one step of a joiner does over the rest of a piece.
use Rattle.std.proofs.Common.{◌≡◌, ℕ, ◌+◌, ◌-◌, ◌≤◌, ◌<◌, List, ◌++◌, length, take, drop}
use Rattle.std.proofs.Common.{sym, ap, ◌∙◌, arith, length-append, length-drop, append_assoc}
use Rattle.std.proofs.Common.{take-add, subst, Some, None}
use Rattle.std.proofs.lemmas.List.{take_all, take-append-drop}
use Rattle.smf_frames.specs.Segment.{named_len}
use Rattle.smf_frames.specs.Front.{data_len}
use Rattle.smf_frames.specs.Joining.{Joining, fault_held}
use Rattle.smf_frames.specs.JoinerSteps.{holding, past_block, past_segment, HoldsBlock, OnSegment}
use Rattle.smf_frames.specs.JoinerSteps.{HoldsSegment, HoldsLess, Steps, over_block, over_segment}
use Rattle.smf_frames.specs.JoinerSteps.{IsStep}
use Rattle.smf_frames.proofs.DescriptorNumbers.{names_same}
use Rattle.smf_frames.proofs.Steps.{fault_same}

-- bytes that are held one after another
holding_twice : (joining : Joining) (bytes more : List ℕ)
    → holding (holding joining bytes) more ≡ holding joining (bytes ++ more)
holding_twice joining bytes more = λ i. record {
  layout = joining.layout;
  position = joining.position;
  held = append_assoc joining.held bytes more i;
  ready = joining.ready;
}

-- with more bytes after it the same descriptor is held
on_more : (mid : Joining) (more : List ℕ) → OnSegment mid
    → OnSegment (holding mid more) × (named_len (mid.held ++ more) ≡ named_len mid.held)
on_more mid more on = (
  record {
    four = omega (arith, length-append mid.held more, on.four);
    passes = fault_same mid.layout (data_len mid.position.begun) mid.position.left mid.held more on.four
        ∙ on.passes;
    due = on.due;
  },
  (names_same mid.held more on.four).len,
)

-- a whole segment
pub holds_segment : (mid new : Joining) (more : List ℕ) → OnSegment mid
    → length mid.held ≤ named_len mid.held
    → length more ≡ named_len mid.held - length mid.held → new ≡ holding mid more
    → HoldsSegment new
holds_segment mid new more on enough len_is new_is =
    let later = on_more mid more on in
    subst HoldsSegment (sym new_is) (record {
      on = later.0;
      named = omega (arith, length-append mid.held more, later.1);
    })

-- A step of a joiner over the rest of a piece, when it holds a prefix of it first.
module _ (old mid : Joining) (rest : List ℕ) (n : ℕ)
    (mid_is : mid ≡ holding old (take n rest)) where
  -- with what follows the prefix, it holds all
  holding_on : (more : List ℕ) → more ≡ drop n rest → holding mid more ≡ holding old rest
  holding_on more more_is =
      (λ i. holding (mid_is i) (more_is i)) ∙ holding_twice old (take n rest) (drop n rest)
      ∙ ap (holding old) (take-append-drop n rest)

  -- less than a descriptor
  pub step_short : (length mid.held < 4 → n ≡ length rest) → length mid.held < 4
      → fault_held mid ≡ None → IsStep old rest None mid
  step_short all short passes =
      let is : mid ≡ holding old rest =
      mid_is ∙ ap (holding old) (take_all n rest (omega (arith, all short))) in
      (is, subst HoldsLess is (record { passes = passes; less = λ four. absurd (omega arith) }))

  -- a descriptor that its block awaits
  pub step_block : (new : Joining) → n ≤ length rest → HoldsBlock mid → new ≡ past_block mid
      → IsStep old rest (Some n) new
  step_block new within holds new_is =
      (within, subst (λ j. Steps j new) mid_is (subst (Steps mid) (sym new_is) (over_block holds)))

  -- less than a segment
  pub step_less : (new : Joining) (more : List ℕ) → more ≡ drop n rest → OnSegment mid
      → length more < named_len mid.held - length mid.held → new ≡ holding mid more
      → IsStep old rest None new
  step_less new more more_is on less new_is =
      let is = holding_on more more_is in
      let later = on_more mid more on in (
        new_is ∙ is,
        subst HoldsLess is (record {
          passes = later.0.passes;
          less = λ four. (on.due, omega (arith, length-append mid.held more, later.1));
        }),
      )

  -- past a whole segment
  pub step_segment : (whole new : Joining) (later more : List ℕ) (m : ℕ) → later ≡ drop n rest
      → more ≡ take m later → n ≤ length rest → m ≤ length later
      → whole ≡ holding mid more → HoldsSegment whole → new ≡ past_segment whole
      → IsStep old rest (Some (n + m)) new
  step_segment whole new later more m later_is more_is within there whole_is holds new_is =
      let is : whole ≡ holding old (take (n + m) rest) =
      whole_is ∙ (λ i. holding (mid_is i) (more_is i))
      ∙ ap (λ b. holding (holding old (take n rest)) (take m b)) later_is
      ∙ holding_twice old (take n rest) (take m (drop n rest))
      ∙ ap (holding old) (sym (take-add n m rest)) in (
        omega (arith, ap length later_is, length-drop n rest),
        subst (λ j. Steps j new) is (subst (Steps whole) (sym new_is) (over_segment holds)),
      )
