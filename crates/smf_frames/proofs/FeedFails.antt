-- What a joiner answers to a piece with a fault at a descriptor.
use Rattle.std.proofs.Common.{◌≡◌, ℕ, List, [], ◌++◌, take, drop, refl, sym, ap, ◌∙◌, append_assoc}
use Rattle.std.proofs.Common.{append-nil, subst, Some, None, Result, Err, inl, inr}
use Rattle.std.specs.Option.{option_to_list}
use Rattle.std.proofs.lemmas.List.{take-append-drop}
use Rattle.smf_frames.specs.declared.fault.FrameFault.{FrameFault}
use Rattle.smf_frames.specs.Front.{Front, prepend, front_from, front}
use Rattle.smf_frames.specs.Joining.{Joining, HasTaken, fault_held, broken_by}
use Rattle.smf_frames.specs.Feeding.{Feeds}
use Rattle.smf_frames.specs.JoinerSteps.{holding, IsFailed}
use Rattle.smf_frames.proofs.LastingFaults.{front_lasts}
use Rattle.smf_frames.proofs.JoinerAdvance.{fault_breaks, fault_waits}
use Rattle.smf_frames.proofs.JoinerStates.{records_over, stands_over}
use Rattle.smf_frames.proofs.FeedSteps.{Fed, fed_none, still_fails, empty_waits, none_if_some}
use Rattle.smf_frames.proofs.FeedSteps.{not_both}

-- a fault breaks the front of the text and the rest, and the joiner stands after both
record FailsOver (text rest : List ℕ) (now : Joining) (fault : FrameFault) (new : Joining) : Type 0
  where
    breaks : front now.layout (text ++ rest) ≡ broken_by (front now.layout text).records fault
    stands : HasTaken (text ++ rest) new

-- where a descriptor of the rest fails
fails_over : (text rest : List ℕ) (now new : Joining) (fault : FrameFault)
    → HasTaken text now → now.ready ≡ None → IsFailed now rest fault new
    → FailsOver text rest now fault new
fails_over text rest now new fault stands none failed = record {
  breaks = breaks;
  stands = subst (HasTaken (text ++ rest)) (sym failed.is) (record {
    goes_on = λ more. ap (front now.layout) (append_assoc text rest more)
        ∙ stands.goes_on (rest ++ more)
        ∙ ap (prepend records) (found more)
        ∙ ap (λ r. prepend r (broken_by [] fault)) (sym (ap (λ (f : Front). f.records) breaks))
        ∙ ap (prepend (front now.layout (text ++ rest)).records) (sym (again more));
    waits = fault_waits (holding now (take failed.n rest)) fault fails;
    stands = none_if_some _ now.ready none;
  });
}
  where
    records : List (List ℕ)
    records = (front now.layout text).records

    held : List ℕ
    held = now.held ++ take failed.n rest

    fails : fault_held (holding now (take failed.n rest)) ≡ Some fault
    fails = subst (λ j. fault_held j ≡ Some fault) failed.is failed.fails

    again : (more : List ℕ)
        → front_from now.layout now.position (held ++ more) ≡ broken_by [] fault
    again more = fault_breaks now.layout now.position held more fault fails

    found : (more : List ℕ)
        → front_from now.layout now.position (now.held ++ (rest ++ more)) ≡ broken_by [] fault
    found more =
        ap (λ b. front_from now.layout now.position (now.held ++ b))
        (ap (λ b. b ++ more) (sym (take-append-drop failed.n rest))
        ∙ append_assoc (take failed.n rest) (drop failed.n rest) more)
        ∙ ap (front_from now.layout now.position)
        (sym (append_assoc now.held (take failed.n rest) (drop failed.n rest ++ more)))
        ∙ again (drop failed.n rest ++ more)

    breaks : front now.layout (text ++ rest) ≡ broken_by records fault
    breaks = stands.goes_on rest
        ∙ ap (λ b. prepend records (front_from now.layout now.position (now.held ++ b)))
        (sym (append-nil rest))
        ∙ ap (prepend records) (found [])
        ∙ (λ i. broken_by (append-nil records i) fault)

-- after which bytes a joiner stands, so far in a piece
record Reached (text piece rest : List ℕ) (old now : Joining) : Type 0 where
  seen : List ℕ
  parts : seen ++ rest ≡ text ++ piece
  stands : HasTaken seen now
  layout_is : now.layout ≡ old.layout
  records : (front old.layout seen).records ≡ (front old.layout text).records

-- where it has come so far, and no record stands
reached : (text piece rest : List ℕ) (old now : Joining) → HasTaken text old
    → now.ready ≡ None → Fed old piece rest now → Reached text piece rest old now
reached text piece rest old now stands none (inl begins) = record {
  seen = text;
  parts = ap (λ b. text ++ b) begins.0;
  stands = subst (HasTaken text) (sym begins.1) stands;
  layout_is = ap (λ (j : Joining). j.layout) begins.1;
  records = refl;
}
reached text piece rest old now stands none (inr went) = record {
  seen = text ++ take went.taken piece;
  parts = append_assoc text (take went.taken piece) rest
      ∙ ap (λ b. text ++ b) (ap (λ r. take went.taken piece ++ r) went.rest_is
      ∙ take-append-drop went.taken piece);
  stands = stands_over text (take went.taken piece) old now stands went.goes
      (empty_waits now went.empty) (none_if_some _ now.ready none);
  layout_is = went.goes.layout_is;
  records = records_over text (take went.taken piece) old now stands went.goes
      (empty_waits now went.empty)
      ∙ ap (λ s. (front old.layout text).records ++ option_to_list s) none
      ∙ append-nil (front old.layout text).records;
}

-- a later fault breaks the front of the text and all of the piece
breaks_piece : (text piece rest : List ℕ) (old now new : Joining) (fault : FrameFault)
    → HasTaken text old → now.ready ≡ None → Fed old piece rest now
    → IsFailed now rest fault new
    → front old.layout (text ++ piece) ≡ broken_by (front old.layout text).records fault
breaks_piece text piece rest old now new fault stands none fed failed =
    let so_far = reached text piece rest old now stands none fed in
    let here = (fails_over so_far.seen rest now new fault so_far.stands none failed).breaks in
    ap (front old.layout) (sym so_far.parts)
    ∙ subst (λ l. front l (so_far.seen ++ rest)
    ≡ broken_by (front l so_far.seen).records fault) so_far.layout_is here
    ∙ ap (λ records. broken_by records fault) so_far.records

-- an answer is one fault
same_answer : (answer : Result ℕ FrameFault) (fault other : FrameFault) → answer ≡ Err fault
    → answer ≡ Err other → fault ≡ other
same_answer answer fault other one two = cc

-- and so is a fault that is held
same_fault : (fault other : FrameFault) → Some fault ≡ Some other → fault ≡ other
same_fault fault other is = cc

-- a fault that is held where the piece begins is the one that is found
found_for_good : (piece rest : List ℕ) (old now new : Joining) (fault other : FrameFault)
    → fault_held old ≡ Some other → Fed old piece rest now → IsFailed now rest fault new
    → fault ≡ other
found_for_good piece rest old now new fault other fails (inl begins) failed =
    let bytes = take failed.n rest in
    let here : fault_held (holding now bytes) ≡ Some fault =
    subst (λ j. fault_held j ≡ Some fault) failed.is failed.fails in
    let there : fault_held (holding now bytes) ≡ Some other =
    still_fails now bytes other
    (subst (λ j. fault_held j ≡ Some other) (sym begins.1) fails) in
    same_fault fault other (sym here ∙ there)
found_for_good piece rest old now new fault other fails (inr went) failed =
    absurd (let never = sym went.passes ∙ fails in cc)

-- the layout stays
same_layout : (piece rest : List ℕ) (old now : Joining) → Fed old piece rest now
    → now.layout ≡ old.layout
same_layout piece rest old now (inl begins) = ap (λ (j : Joining). j.layout) begins.1
same_layout piece rest old now (inr went) = went.goes.layout_is

-- the answer of a joiner that finds a fault
pub feeds_fault : (old now new : Joining) (piece rest : List ℕ) (fault : FrameFault)
    → Fed old piece rest now → now.ready ≡ None → IsFailed now rest fault new
    → Feeds old piece (Err fault) new
feeds_fault old now new piece rest fault fed none failed = record {
  waits = λ some. absurd (not_both old.ready some (fed_none old now piece rest fed none));
  within = tt;
  layout_stays = ap (λ (j : Joining). j.layout) failed.is ∙ same_layout piece rest old now fed;
  stands = λ text stands.
      let so_far = reached text piece rest old now stands none fed in
      subst (λ b. HasTaken b new) so_far.parts
      (fails_over so_far.seen rest now new fault so_far.stands none failed).stands;
  records = λ text stands _. ap (λ (f : Front). f.records) (breaks text stands)
      ∙ sym (ap (λ s. (front old.layout text).records ++ option_to_list s) none_now
      ∙ append-nil (front old.layout text).records);
  soonest = tt;
  all = tt;
  moves = tt;
  unbroken = tt;
  fault = λ text other stands _. (
    λ is. breaks text stands ∙ ap (broken_by (front old.layout text).records)
        (same_answer (Err fault) fault other refl is),
    λ is. ap Err (same_fault fault other
        (ap (λ (f : Front). f.fault) (sym (breaks text stands) ∙ is))),
  );
  lasting = λ text stands _ more. front_lasts old.layout (text ++ piece) more
      (ap (λ (f : Front). f.is_broken) (breaks text stands));
  for_good = λ other fails _. ap Err
      (found_for_good piece rest old now new fault other fails fed failed);
  broken = (failed.fails, none_now);
}
  where
    none_now : new.ready ≡ None
    none_now = ap (λ (j : Joining). j.ready) failed.is ∙ none

    breaks : (text : List ℕ) → HasTaken text old
        → front old.layout (text ++ piece) ≡ broken_by (front old.layout text).records fault
    breaks text stands = breaks_piece text piece rest old now new fault stands none fed failed
