-- Where a reader waits for more bytes.
use Rattle.std.proofs.Common.{◌≡◌, ℕ, ◌+◌, ◌-◌, ◌≤◌, ◌<◌, Bool, true, false, cond, nat_lt, List}
use Rattle.std.proofs.Common.{◌++◌, length, refl, sym, ap, ◌∙◌, arith, length-append, Option}
use Rattle.std.proofs.Common.{Some, None, inl, inr}
use Rattle.std.specs.Prelude.{is_some, unwrap_or}
use Rattle.std.proofs.lemmas.Bool.{lt-ltb, le-ltb, ltb-false, cases_lt}
use Rattle.smf_frames.specs.Framed.{most_data}
use Rattle.smf_frames.specs.declared.dump.Layout.{Layout}
use Rattle.smf_frames.specs.declared.fault.FrameFault.{FrameFault}
use Rattle.smf_frames.specs.declared.fault.FrameFault.TheVariants.{SegmentCrossesBlock}
use Rattle.smf_frames.specs.declared.next.Next.{Next}
use Rattle.smf_frames.specs.declared.next.Next.TheVariants.{Stops}
use Rattle.smf_frames.specs.Segment.{named_len, kind_of}
use Rattle.smf_frames.specs.Faults.{is_block_due, lacks_room, block_fault, segment_fault}
use Rattle.smf_frames.specs.Faults.{descriptor_fault}
use Rattle.smf_frames.specs.Front.{next_of}
use Rattle.smf_frames.proofs.DescriptorNumbers.{names_same}
use Rattle.smf_frames.proofs.Steps.{descriptor_by, passes_segment}

-- the ladder of a step, where a descriptor is not there
short_by : (lacks short : Bool) (fault : Option FrameFault) (next : Next) → short ≡ true
    → cond (is_some (cond lacks (Some SegmentCrossesBlock) (cond short None fault))) Stops
    (cond short Stops next) ≡ Stops
short_by true short fault next is = refl
short_by false true fault next is = refl
short_by false false fault next is = absurd cc

-- the ladder of a step, where a segment is not whole
less_by : (broken short due cut : Bool) (block segment : Next) → due ≡ false → cut ≡ true
    → cond broken Stops (cond short Stops (cond due block (cond cut Stops segment))) ≡ Stops
less_by true short due cut block segment is less = refl
less_by false true due cut block segment is less = refl
less_by false false true cut block segment is less = absurd cc
less_by false false false true block segment is less = refl
less_by false false false false block segment is less = absurd cc

module _ (layout : Layout) (begun left : Option ℕ) where
  -- fewer bytes than a descriptor has stop a reader
  pub short_stops : (bytes : List ℕ) → length bytes < 4 → next_of layout begun left bytes ≡ Stops
  short_stops bytes short =
      short_by (lacks_room left) (nat_lt (length bytes) 4) _ _ (lt-ltb (length bytes) 4 short)

  -- so does less than a segment
  pub less_stops : (bytes : List ℕ) → is_block_due layout left ≡ false
      → length bytes < named_len bytes → next_of layout begun left bytes ≡ Stops
  less_stops bytes due less =
      less_by _ _ (is_block_due layout left) (nat_lt (length bytes) (named_len bytes)) _ _ due
      (lt-ltb (length bytes) (named_len bytes) less)

  -- before the end of a descriptor or a segment a reader stops
  pub before_stops : (front more : List ℕ) → 0 < length more
      → (4 < length (front ++ more) → (is_block_due layout left ≡ false)
      × (length (front ++ more) ≤ named_len (front ++ more)))
      → next_of layout begun left front ≡ Stops
  before_stops front more some tight =
      let total = length-append front more in
      elim (cases_lt (length front) 4) [
        | inl short ↦ short_stops front short
        | inr long ↦
            let names = (names_same front more long).len in
            let within = tight (omega arith) in
            less_stops front within.0 (omega (arith, within.1))
      ]

  -- what the descriptor of a segment shows that has no fault: the lengths that it names
  pub passes_shows : (bytes : List ℕ) → descriptor_fault layout begun left bytes ≡ None
      → 4 ≤ length bytes → is_block_due layout left ≡ false
      → (4 ≤ named_len bytes) × (unwrap_or begun 0 + (named_len bytes - 4) ≤ most_data)
  passes_shows bytes passes long due =
      let of_segment = segment_fault begun left (named_len bytes) (kind_of bytes) in
      let own =
      (descriptor_by (lacks_room left) (nat_lt (length bytes) 4) (is_block_due layout left)
      (block_fault bytes) of_segment (ap (λ f. is_some f) passes)
      (le-ltb (length bytes) 4 long)).1 in
      let tests = passes_segment _ _ _ _ _
      (ap (λ d. cond d (block_fault bytes) of_segment) (sym due) ∙ own) in (
        ltb-false (named_len bytes) 4 tests.0,
        ltb-false most_data (unwrap_or begun 0 + (named_len bytes - 4)) tests.4,
      )
