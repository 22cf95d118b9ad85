-- What a joiner answers to a piece when it takes bytes of it.
use Rattle.std.proofs.Common.{◌≡◌, ℕ, ◌-◌, ◌≤◌, ◌<◌, true, false, List, [], ◌∷◌, ◌++◌, length, take}
use Rattle.std.proofs.Common.{drop, refl, sym, ap, ◌∙◌, arith, length-append, length-drop}
use Rattle.std.proofs.Common.{append_assoc, append-nil, subst, Option, Some, None, Ok, ◌⊎◌, inl}
use Rattle.std.proofs.Common.{inr}
use Rattle.std.specs.Prelude.{is_some, IfSome, IsSome}
use Rattle.std.specs.Option.{option_to_list}
use Rattle.std.proofs.lemmas.Bool.{cases_lt}
use Rattle.std.proofs.lemmas.List.{take_all, take-take, take-append-drop, length-take-le}
use Rattle.smf_frames.specs.declared.fault.FrameFault.{FrameFault}
use Rattle.smf_frames.specs.declared.next.Next.TheVariants.{Stops}
use Rattle.smf_frames.specs.Front.{Front, prepend, front_from, front}
use Rattle.smf_frames.specs.Joining.{Joining, HasTaken, next_held, fault_held, broken_by}
use Rattle.smf_frames.specs.Feeding.{Feeds}
use Rattle.smf_frames.specs.JoinerSteps.{holding, IsStep}
use Rattle.smf_frames.proofs.JoinerAdvance.{GoesOver, goes_less, goes_then, less_waits}
use Rattle.smf_frames.proofs.JoinerStates.{records_over, stands_over, soonest_over, unbroken_after}
use Rattle.smf_frames.proofs.FeedSteps.{Fed, fed_none, fed_passes, empty_waits, none_if_some}
use Rattle.smf_frames.proofs.FeedSteps.{not_both}

-- the same list with one more element is not that list
longer : (records more : List (List ℕ)) (one : List ℕ) → (records ++ one ∷ []) ++ more ≡ records
    → {A : Type 0} → A
longer records more one is =
    absurd (omega (
      arith,
      ap length is,
      length-append (records ++ one ∷ []) more,
      length-append records (one ∷ []),
    ))

-- A joiner with no fault went over some bytes of a piece. It waits now; a record stands and nothing
-- is held, or none stands, all is taken and no fault is held.
record Takes (old : Joining) (piece : List ℕ) (n : ℕ) (new : Joining) : Type 0 where
  none : old.ready ≡ None
  passes : fault_held old ≡ None
  within : n ≤ length piece
  goes : GoesOver old (take n piece) new
  waits : next_held new ≡ Stops
  empty : IfSome new.ready (λ _. new.held ≡ [])
  all : new.ready ≡ None → (n ≡ length piece) × (fault_held new ≡ None)

module _ (text piece : List ℕ) (old new : Joining) (n : ℕ) (stands : HasTaken text old)
    (takes : Takes old piece n new) where
  -- it stands after the text and those bytes
  stands_behind : HasTaken (text ++ take n piece) new
  stands_behind =
      stands_over text (take n piece) old new stands takes.goes takes.waits takes.empty

  -- and the record that stands is the one that they complete
  completes : (front old.layout (text ++ take n piece)).records
      ≡ (front old.layout text).records ++ option_to_list new.ready
  completes = records_over text (take n piece) old new stands takes.goes takes.waits

  -- where none stands then, the front is not broken
  whole_is : new.ready ≡ None → (front old.layout (text ++ piece)).is_broken ≡ false
  whole_is none =
      ap (λ b. (front old.layout (text ++ b)).is_broken)
      (sym (take_all n piece (omega (arith, (takes.all none).0))))
      ∙ ap (λ l. (front l (text ++ take n piece)).is_broken) (sym takes.goes.layout_is)
      ∙ unbroken_after (text ++ take n piece) new stands_behind (takes.all none).1

  -- where one does, bytes were taken
  moved : (ready : Option (List ℕ)) → new.ready ≡ ready → IsSome ready
      → (0 < n) ⊎ (n ≤ 0) → 0 < n
  moved ready is some (inl more) = more
  moved None is some (inr nothing) = absurd (let never = some in cc)
  moved (Some one) is some (inr nothing) =
      let records = (front old.layout text).records in
      let n_is : n ≡ 0 = omega arith in
      let empty_is : take n piece ≡ [] = ap (λ m. take m piece) n_is in
      longer records [] one
      (append-nil (records ++ one ∷ [])
      ∙ ap (λ s. records ++ option_to_list s) (sym is)
      ∙ sym completes
      ∙ ap (λ b. (front old.layout (text ++ b)).records) empty_is
      ∙ ap (λ b. (front old.layout b).records) (append-nil text))

  -- the front of all of the piece has the record that stands
  has_more : (one : List ℕ) → new.ready ≡ Some one
      → (front old.layout (text ++ piece)).records ≡ (front old.layout text).records
      → {A : Type 0} → A
  has_more one is same =
      let records = (front old.layout text).records in
      let seen = text ++ take n piece in
      let first : (front old.layout seen).records ≡ records ++ one ∷ [] =
      completes ∙ ap (λ s. records ++ option_to_list s) is in
      let parts : seen ++ drop n piece ≡ text ++ piece =
      append_assoc text (take n piece) (drop n piece)
      ∙ ap (λ b. text ++ b) (take-append-drop n piece) in
      let later = subst (λ l. (more : List ℕ) → front l (seen ++ more)
      ≡ prepend (front l seen).records (front_from l new.position (new.held ++ more)))
      takes.goes.layout_is stands_behind.goes_on (drop n piece) in
      let found = (front_from old.layout new.position (new.held ++ drop n piece)).records in
      longer records found one
      (ap (λ r. r ++ found) (sym first)
      ∙ sym (ap (λ (f : Front). f.records) later)
      ∙ ap (λ b. (front old.layout b).records) parts
      ∙ same)

  -- so no fault breaks the front after the records of the text
  breaks_not : (fault : FrameFault)
      → front old.layout (text ++ piece) ≡ broken_by (front old.layout text).records fault
      → (ready : Option (List ℕ)) → new.ready ≡ ready → ⊥
  breaks_not fault is None none_now =
      let here = whole_is none_now in
      let said = ap (λ (f : Front). f.is_broken) is in
      cc
  breaks_not fault is (Some one) some_now =
      has_more one some_now (ap (λ (f : Front). f.records) is)

-- the answer of a joiner that takes bytes
takes_feeds : (old new : Joining) (piece : List ℕ) (n : ℕ) → Takes old piece n new
    → Feeds old piece (Ok n) new
takes_feeds old new piece n takes = record {
  waits = λ some. absurd (not_both old.ready some takes.none);
  within = takes.within;
  layout_stays = takes.goes.layout_is;
  stands = λ text stands. stands_behind text piece old new n stands takes;
  records = λ text stands _. completes text piece old new n stands takes;
  soonest = λ text k stands below.
      ap (λ b. (front old.layout (text ++ b)).records) (sym (take-take k n piece (omega arith)))
      ∙ soonest_over text (take n piece) old new stands takes.goes k
      (omega (arith, length-take-le n piece takes.within));
  all = λ none_now. (takes.all none_now).0;
  moves = λ text stands _ some.
      moved text piece old new n stands takes new.ready refl some (cases_lt 0 n);
  unbroken = λ text stands none_now. whole_is text piece old new n stands takes none_now;
  fault = λ text fault stands _. (
    λ is. absurd cc,
    λ is. absurd (breaks_not text piece old new n stands takes fault is new.ready refl),
  );
  lasting = tt;
  for_good = λ fault fails _. absurd (let never = sym takes.passes ∙ fails in cc);
  broken = tt;
}

-- where a record stands after the bytes, or stood before them
pub feeds_standing : (old new : Joining) (piece rest : List ℕ) → Fed old piece rest new
    → is_some new.ready ≡ true → Feeds old piece (Ok (length piece - length rest)) new
feeds_standing old new piece rest (inl begins) some =
    subst (λ n. Feeds old piece (Ok n) new) (omega (arith, ap length begins.0)) (record {
      waits = λ _. (refl, begins.1);
      within = omega arith;
      layout_stays = ap (λ (j : Joining). j.layout) begins.1;
      stands = λ text stands. subst (λ b. HasTaken b new) (sym (append-nil text))
          (subst (HasTaken text) (sym begins.1) stands);
      records = λ text stands none. absurd (stood none);
      soonest = λ text k stands below. absurd (omega arith);
      all = λ none. absurd (stands_now none);
      moves = λ text stands none some_now. absurd (stood none);
      unbroken = λ text stands none. absurd (stands_now none);
      fault = λ text fault stands none. absurd (stood none);
      lasting = tt;
      for_good = λ fault fails none. absurd (stood none);
      broken = tt;
    })
  where
    stands_now : new.ready ≡ None → ⊥
    stands_now none = let never = ap (λ s. is_some s) none in cc

    stood : old.ready ≡ None → ⊥
    stood none = stands_now (ap (λ (j : Joining). j.ready) begins.1 ∙ none)
feeds_standing old new piece rest (inr went) some =
    subst (λ n. Feeds old piece (Ok n) new)
    (omega (arith, ap length went.rest_is, length-drop went.taken piece, went.within))
    (takes_feeds old new piece went.taken (record {
      none = went.none;
      passes = went.passes;
      within = went.within;
      goes = went.goes;
      waits = empty_waits new went.empty;
      empty = if_some new.ready;
      all = λ none. absurd (let never = ap (λ s. is_some s) none in cc);
    }))
  where
    if_some : (ready : Option (List ℕ)) → IfSome ready (λ _. new.held ≡ [])
    if_some None = tt
    if_some (Some one) = went.empty

-- over all of the piece, where all of its rest is held
over_all : (old now new : Joining) (piece rest : List ℕ) → Fed old piece rest now
    → now.ready ≡ None → GoesOver now rest new → GoesOver old piece new
over_all old now new piece rest (inl begins) none here =
    subst (λ bytes. GoesOver old bytes new) begins.0
    (subst (λ j. GoesOver j rest new) begins.1 here)
over_all old now new piece rest (inr went) none here =
    subst (λ bytes. GoesOver old bytes new)
    (ap (λ r. take went.taken piece ++ r) went.rest_is ∙ take-append-drop went.taken piece)
    (goes_then old now new (take went.taken piece) rest none went.goes here)

-- where all is taken, and more is to come
pub feeds_all : (old now new : Joining) (piece rest : List ℕ) → Fed old piece rest now
    → now.ready ≡ None → IsStep now rest None new
    → Feeds old piece (Ok (length piece)) new
feeds_all old now new piece rest fed none step =
    takes_feeds old new piece (length piece) (record {
      none = fed_none old now piece rest fed none;
      passes = fed_passes old now piece rest rest fed step.1.passes;
      within = omega arith;
      goes = subst (λ bytes. GoesOver old bytes new)
          (sym (take_all (length piece) piece (omega arith)))
          (over_all old now new piece rest fed none
          (subst (GoesOver now rest) (sym step.0) (goes_less now rest none step.1)));
      waits = subst (λ j. next_held j ≡ Stops) (sym step.0) (less_waits (holding now rest) step.1);
      empty = subst (λ (j : Joining). IfSome j.ready (λ _. j.held ≡ [])) (sym step.0)
          (none_if_some _ now.ready none);
      all = λ _. (refl, subst (λ j. fault_held j ≡ None) (sym step.0) step.1.passes);
    })
