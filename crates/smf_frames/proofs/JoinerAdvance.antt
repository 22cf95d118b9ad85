-- How a joiner continues over the bytes that come.
use Rattle.std.proofs.Common.{◌≡◌, ℕ, ◌+◌, ◌-◌, ◌≤◌, ◌<◌, Bool, true, false, cond, List, [], ◌∷◌}
use Rattle.std.proofs.Common.{◌++◌, length, take, drop, refl, sym, ap, ◌∙◌, arith, length-append}
use Rattle.std.proofs.Common.{length-drop, append_assoc, subst, Option, Some, None, inl, inr}
use Rattle.std.specs.Prelude.{is_some}
use Rattle.std.specs.Option.{option_to_list}
use Rattle.std.proofs.lemmas.Bool.{le-ltb, cases_lt}
use Rattle.std.proofs.lemmas.List.{take_at, drop_at, take-append-drop, take-append-le}
use Rattle.std.proofs.Math.Seq.{take-append-add}
use Rattle.smf_frames.specs.declared.dump.Layout.{Layout}
use Rattle.smf_frames.specs.declared.fault.FrameFault.{FrameFault}
use Rattle.smf_frames.specs.declared.next.Next.TheVariants.{Stops, Block, Segment}
use Rattle.smf_frames.specs.Framed.{record_with}
use Rattle.smf_frames.specs.Segment.{named_len, kind_of, goes_on}
use Rattle.smf_frames.specs.Faults.{is_block_due, descriptor_fault}
use Rattle.smf_frames.specs.Front.{Front, Progress, data_len, prepend, front_from, completed}
use Rattle.smf_frames.specs.Front.{joined_with, after_segment, after_block}
use Rattle.smf_frames.specs.Joining.{Joining, next_held, fault_held, broken_by}
use Rattle.smf_frames.specs.JoinerSteps.{holding, made, past_block, past_segment, HoldsBlock}
use Rattle.smf_frames.specs.JoinerSteps.{HoldsSegment, HoldsLess, Steps, over_block, over_segment}
use Rattle.smf_frames.proofs.Steps.{segment_before, block_before}
use Rattle.smf_frames.proofs.ReaderWays.{next_at, front_stops, front_block, front_segment}
use Rattle.smf_frames.proofs.LastingFaults.{descriptor_stays}
use Rattle.smf_frames.proofs.ReaderWaits.{short_stops, less_stops, before_stops}

-- A joiner continues over these bytes, and is then another one: whatever bytes follow, the record
-- that stands then comes first, and then what is found from its place; and it is not whole sooner.
pub record GoesOver (old : Joining) (bytes : List ℕ) (new : Joining) : Type 0 where
  pub layout_is : new.layout ≡ old.layout
  pub on : (more : List ℕ) → front_from old.layout old.position (old.held ++ (bytes ++ more))
      ≡ prepend (option_to_list new.ready)
      (front_from old.layout new.position (new.held ++ more))
  pub soonest : (k : ℕ) → k < length bytes
      → (front_from old.layout old.position (old.held ++ take k bytes)).records ≡ []

-- where a reader stops there is no record
pub stops_without : (layout : Layout) (position : Progress) (bytes : List ℕ)
    → next_at layout position bytes ≡ Stops → (front_from layout position bytes).records ≡ []
stops_without layout position bytes stops =
    ap (λ (f : Front). f.records) (front_stops layout position bytes stops)

-- a joiner that holds less than one of them waits
pub less_waits : (joining : Joining) → HoldsLess joining → next_held joining ≡ Stops
less_waits joining less =
    elim (cases_lt (length joining.held) 4) [
      | inl short ↦ short_stops joining.layout (data_len joining.position.begun) joining.position.left
          joining.held short
      | inr long ↦ let is = less.less long in
          less_stops joining.layout (data_len joining.position.begun) joining.position.left joining.held
          is.0 is.1
    ]

-- what is found where a block's descriptor is held
block_is : (joining : Joining) → HoldsBlock joining
    → next_held joining ≡ Block (named_len joining.held)
block_is joining holds =
    rw (holds.passes, le-ltb (length joining.held) 4 (omega (arith, holds.four)), holds.due) refl

-- and where a segment is
segment_is : (joining : Joining) → HoldsSegment joining
    → next_held joining ≡ Segment (length joining.held)
segment_is joining holds = rw (
  holds.on.passes,
  le-ltb (length joining.held) 4 holds.on.four,
  holds.on.due,
  le-ltb (length joining.held) (named_len joining.held) (omega (arith, holds.named)),
) (ap Segment (sym holds.named))

-- the record that a segment makes
made_one : (begun : Option (List ℕ)) (segment : List ℕ)
    → completed begun segment ≡ option_to_list (made begun segment)
made_one begun segment = by (goes_on (kind_of segment)) (record_with (joined_with begun segment))
  where
    by : (goes : Bool) (one : List ℕ)
        → cond goes [] (one ∷ []) ≡ option_to_list (cond goes None (Some one))
    by true one = refl
    by false one = refl

module _ (old : Joining) (bytes : List ℕ) where
  -- what a joiner holds with bytes that come
  abbrev all : List ℕ
  all = old.held ++ bytes

  -- Where that is at most one descriptor or one segment, no record is whole sooner; so the joiner
  -- continues over the bytes, if it finds what it should after them.
  goes_tight : (new : Joining) → new.layout ≡ old.layout
      → ((more : List ℕ) → front_from old.layout old.position (all ++ more)
      ≡ prepend (option_to_list new.ready)
      (front_from old.layout new.position (new.held ++ more)))
      → (4 < length all → (is_block_due old.layout old.position.left ≡ false)
      × (length all ≤ named_len all))
      → GoesOver old bytes new
  goes_tight new layout_is finds tight = record {
    layout_is = layout_is;
    on = λ more. ap (front_from old.layout old.position) (sym (append_assoc old.held bytes more))
        ∙ finds more;
    soonest = λ k below.
        let front : List ℕ = old.held ++ take k bytes in
        let whole : front ++ drop k bytes ≡ all =
        append_assoc old.held (take k bytes) (drop k bytes)
        ∙ ap (λ b. old.held ++ b) (take-append-drop k bytes) in
        stops_without old.layout old.position front
        (before_stops old.layout (data_len old.position.begun) old.position.left front (drop k bytes)
        (omega (arith, length-drop k bytes))
        (subst (λ all. 4 < length all → (is_block_due old.layout old.position.left ≡ false)
        × (length all ≤ named_len all)) (sym whole) tight));
  }

  -- bytes that are held
  pub goes_less : old.ready ≡ None → HoldsLess (holding old bytes)
      → GoesOver old bytes (holding old bytes)
  goes_less none less =
      goes_tight (holding old bytes) refl
      (λ more. ap (λ s. prepend (option_to_list s)
      (front_from old.layout old.position (all ++ more))) (sym none))
      (λ long. let is = less.less (omega arith) in (is.0, omega (arith, is.1)))

  -- past a block's descriptor
  goes_block : HoldsBlock (holding old bytes)
      → GoesOver old bytes (past_block (holding old bytes))
  goes_block holds =
      goes_tight (past_block (holding old bytes)) refl
      (λ more. front_block old.layout old.position (all ++ more) (named_len all)
      (block_before old.layout (data_len old.position.begun) old.position.left all more (named_len all)
      (block_is (holding old bytes) holds))
      ∙ ap (front_from old.layout (after_block old.position (named_len all)))
      (drop_at all more 4 holds.four))
      (λ long. absurd (omega (arith, holds.four)))

  -- past a segment
  goes_segment : HoldsSegment (holding old bytes)
      → GoesOver old bytes (past_segment (holding old bytes))
  goes_segment holds =
      let n : ℕ = length all in
      goes_tight (past_segment (holding old bytes)) refl
      (λ more. front_segment old.layout old.position (all ++ more) n
      (segment_before old.layout (data_len old.position.begun) old.position.left all more n
      (segment_is (holding old bytes) holds))
      ∙ (λ i. prepend (completed old.position.begun (take_at all more n refl i))
      (front_from old.layout (after_segment old.position (take_at all more n refl i))
      (drop_at all more n refl i)))
      ∙ ap (λ records. prepend records
      (front_from old.layout (after_segment old.position all) more))
      (made_one old.position.begun all))
      (λ long. (holds.on.due, omega (arith, holds.named)))

-- past either: nothing is held then
pub record Stepped (old : Joining) (bytes : List ℕ) (new : Joining) : Type 0 where
  pub goes : GoesOver old bytes new
  pub empty : new.held ≡ []
  pub moves : 4 ≤ length (old.held ++ bytes)

pub stepped : (old : Joining) (bytes : List ℕ) (new : Joining) → Steps (holding old bytes) new
    → Stepped old bytes new
stepped old bytes new (over_block holds) =
    record { goes = goes_block old bytes holds; empty = refl; moves = omega (arith, holds.four) }
stepped old bytes new (over_segment holds) =
    record { goes = goes_segment old bytes holds; empty = refl; moves = holds.on.four }

-- over some bytes, and then over more
pub goes_then : (first middle last : Joining) (bytes more : List ℕ) → middle.ready ≡ None
    → GoesOver first bytes middle → GoesOver middle more last
    → GoesOver first (bytes ++ more) last
goes_then first middle last bytes more none one two = record {
  layout_is = two.layout_is ∙ one.layout_is;
  on = λ rest. ap (λ b. front_from first.layout first.position (first.held ++ b))
      (append_assoc bytes more rest)
      ∙ from_middle (more ++ rest)
      ∙ subst (λ l. front_from l middle.position (middle.held ++ (more ++ rest))
      ≡ prepend (option_to_list last.ready) (front_from l last.position (last.held ++ rest)))
      one.layout_is (two.on rest);
  soonest = soonest;
}
  where
    from_middle : (rest : List ℕ)
        → front_from first.layout first.position (first.held ++ (bytes ++ rest))
        ≡ front_from first.layout middle.position (middle.held ++ rest)
    from_middle rest = one.on rest ∙ ap (λ s. prepend (option_to_list s)
        (front_from first.layout middle.position (middle.held ++ rest))) none

    later : (k : ℕ) → length bytes ≤ k → k < length (bytes ++ more)
        → (front_from first.layout first.position (first.held ++ take k (bytes ++ more))).records
        ≡ []
    later k past below =
        let m : ℕ = k - length bytes in
        let k_is : length bytes + m ≡ k = omega arith in
        let cut : take k (bytes ++ more) ≡ bytes ++ take m more =
        ap (λ n. take n (bytes ++ more)) (sym k_is) ∙ take-append-add bytes more m in
        ap (λ b. (front_from first.layout first.position (first.held ++ b)).records) cut
        ∙ ap (λ (f : Front). f.records) (from_middle (take m more))
        ∙ subst (λ l. (front_from l middle.position (middle.held ++ take m more)).records ≡ [])
        one.layout_is (two.soonest m (omega (arith, length-append bytes more)))

    soonest : (k : ℕ) → k < length (bytes ++ more)
        → (front_from first.layout first.position (first.held ++ take k (bytes ++ more))).records
        ≡ []
    soonest k below =
        elim (cases_lt k (length bytes)) [
          | inl within ↦
              let cut : take k (bytes ++ more) ≡ take k bytes =
              take-append-le k bytes more (omega arith) in
              ap (λ b. (front_from first.layout first.position (first.held ++ b)).records) cut
              ∙ one.soonest k within
          | inr past ↦ later k past below
        ]

-- a fault at a descriptor that is held breaks the front, whatever bytes follow
pub fault_breaks : (layout : Layout) (position : Progress) (held more : List ℕ) (fault : FrameFault)
    → descriptor_fault layout (data_len position.begun) position.left held ≡ Some fault
    → front_from layout position (held ++ more) ≡ broken_by [] fault
fault_breaks layout position held more fault fails =
    let begun : Option ℕ = data_len position.begun in
    let still : descriptor_fault layout begun position.left (held ++ more) ≡ Some fault =
    descriptor_stays layout begun position.left held more (ap (λ f. is_some f) fails) ∙ fails in
    let stops : next_at layout position (held ++ more) ≡ Stops = rw still refl in
    front_stops layout position (held ++ more) stops ∙ rw still refl

-- and a joiner that holds such a descriptor waits for good
pub fault_waits : (joining : Joining) (fault : FrameFault) → fault_held joining ≡ Some fault
    → next_held joining ≡ Stops
fault_waits joining fault fails = rw fails refl
