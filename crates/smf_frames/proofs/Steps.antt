-- What the tests show of a step that a reader takes, and the other way round; and that more bytes
-- after it change nothing of it.
use Rattle.std.proofs.Common.{◌≡◌, ℕ, ◌+◌, ◌-◌, ◌≤◌, ◌<◌, Bool, true, false, not, ◌&&◌, cond}
use Rattle.std.proofs.Common.{nat_lt, List, ◌++◌, length, refl, sym, ap, ◌∙◌, Option, Some, None}
use Rattle.std.proofs.Common.{arith, length-append, true≢false}
use Rattle.std.specs.Prelude.{is_some, is_none, unwrap_or, nat_le}
use Rattle.std.proofs.lemmas.Bool.{ltb-false, leb-false, le-ltb, lt-leb}
use Rattle.smf_frames.specs.declared.dump.Layout.{Layout}
use Rattle.smf_frames.specs.declared.dump.Layout.TheVariants.{Rdw, Bdw}
use Rattle.smf_frames.specs.declared.fault.FrameFault.{FrameFault}
use Rattle.smf_frames.specs.declared.fault.FrameFault.TheVariants.{SegmentLength, BlockLength}
use Rattle.smf_frames.specs.declared.fault.FrameFault.TheVariants.{ExtendedBlock}
use Rattle.smf_frames.specs.declared.fault.FrameFault.TheVariants.{SegmentCrossesBlock}
use Rattle.smf_frames.specs.declared.fault.FrameFault.TheVariants.{OrphanSegment, MissingLast}
use Rattle.smf_frames.specs.declared.fault.FrameFault.TheVariants.{RecordTooLong}
use Rattle.smf_frames.specs.declared.next.Next.TheVariants.{Stops, Block, Segment}
use Rattle.smf_frames.specs.Number.{number}
use Rattle.smf_frames.specs.Framed.{most_data}
use Rattle.smf_frames.specs.Segment.{named_len, kind_of, begins_record}
use Rattle.smf_frames.specs.Faults.{is_block_due, lacks_room, crosses_block, is_too_long}
use Rattle.smf_frames.specs.Faults.{block_fault, segment_fault, descriptor_fault}
use Rattle.smf_frames.specs.Front.{next_of}
use Rattle.smf_frames.proofs.DescriptorNumbers.{names_same}

-- a segment of this length that a reader takes: no test speaks against it, and it is there
pub record TakesSegment (layout : Layout) (begun left : Option ℕ) (bytes : List ℕ)
    (len : ℕ) : Type 0 where
  pub room : lacks_room left ≡ false
  pub four : 4 ≤ length bytes
  pub due : is_block_due layout left ≡ false
  pub named : named_len bytes ≡ len
  pub long : 4 ≤ len
  pub fits : crosses_block left len ≡ false
  pub joins : (is_none begun && not (begins_record (kind_of bytes))) ≡ false
  pub begins : (is_some begun && begins_record (kind_of bytes)) ≡ false
  pub short : unwrap_or begun 0 + (len - 4) ≤ most_data
  pub there : len ≤ length bytes

-- the same of the descriptor of a block of this length
pub record TakesBlock (layout : Layout) (left : Option ℕ) (bytes : List ℕ) (len : ℕ) : Type 0 where
  pub layout_is : layout ≡ Bdw
  pub none_left : left ≡ None
  pub four : 4 ≤ length bytes
  pub plain : number bytes 0 1 < 128
  pub named : named_len bytes ≡ len
  pub long : 4 ≤ len

-- Each ladder of tests by the answers of its tests. A segment is taken where all say no,
segment_by : (broken short due cut : Bool) (named len : ℕ)
    → cond broken Stops (cond short Stops (cond due (Block named) (cond cut Stops (Segment named))))
    ≡ Segment len
    → (broken ≡ false) × (short ≡ false) × (due ≡ false) × (cut ≡ false) × (named ≡ len)
segment_by true short due cut named len taken = absurd cc
segment_by false true due cut named len taken = absurd cc
segment_by false false true cut named len taken = absurd cc
segment_by false false false true named len taken = absurd cc
segment_by false false false false named len taken = (refl, refl, refl, refl, cc)

-- a block's descriptor where one is due,
block_by : (broken short due cut : Bool) (named len : ℕ)
    → cond broken Stops (cond short Stops (cond due (Block named) (cond cut Stops (Segment named))))
    ≡ Block len
    → (broken ≡ false) × (short ≡ false) × (due ≡ true) × (named ≡ len)
block_by true short due cut named len taken = absurd cc
block_by false true due cut named len taken = absurd cc
block_by false false true cut named len taken = (refl, refl, refl, cc)
block_by false false false true named len taken = absurd cc
block_by false false false false named len taken = absurd cc

-- and a descriptor that is there has no fault where it has room and its own tests pass.
pub descriptor_by : (lacks short due : Bool) (of_block of_segment : Option FrameFault)
    → is_some (cond lacks (Some SegmentCrossesBlock)
    (cond short None (cond due of_block of_segment))) ≡ false
    → short ≡ false → (lacks ≡ false) × (cond due of_block of_segment ≡ None)
descriptor_by true short due of_block of_segment passes there = absurd cc
descriptor_by false true due of_block of_segment passes there = absurd cc
descriptor_by false false due of_block of_segment passes there =
    (refl, none (cond due of_block of_segment) passes)
  where
    none : (fault : Option FrameFault) → is_some fault ≡ false → fault ≡ None
    none None passes = refl
    none (Some fault) passes = absurd cc

-- where no test of a segment's descriptor is failed, none says yes
pub passes_segment : (a b c d e : Bool)
    → cond a (Some SegmentLength) (cond b (Some SegmentCrossesBlock) (cond c (Some OrphanSegment)
    (cond d (Some MissingLast) (cond e (Some RecordTooLong) None)))) ≡ None
    → (a ≡ false) × (b ≡ false) × (c ≡ false) × (d ≡ false) × (e ≡ false)
passes_segment true b c d e passes = absurd cc
passes_segment false true c d e passes = absurd cc
passes_segment false false true d e passes = absurd cc
passes_segment false false false true e passes = absurd cc
passes_segment false false false false true passes = absurd cc
passes_segment false false false false false passes = (refl, refl, refl, refl, refl)

-- the same of a block's descriptor
passes_block : (a b : Bool) → cond a (Some ExtendedBlock) (cond b (Some BlockLength) None) ≡ None
    → (a ≡ false) × (b ≡ false)
passes_block true b passes = absurd cc
passes_block false true passes = absurd cc
passes_block false false passes = (refl, refl)

-- a block is due in the one layout, and where none is begun
block_due : (layout : Layout) (left : Option ℕ) → is_block_due layout left ≡ true
    → (layout ≡ Bdw) × (left ≡ None)
block_due Rdw left due = absurd cc
block_due Bdw None due = (refl, refl)
block_due Bdw (Some n) due = absurd cc

module _ (layout : Layout) (begun left : Option ℕ) (bytes : List ℕ) (len : ℕ) where
  -- what the tests show of a segment that is taken
  pub takes_segment : next_of layout begun left bytes ≡ Segment len
      → TakesSegment layout begun left bytes len
  takes_segment taken =
      let of_segment = segment_fault begun left (named_len bytes) (kind_of bytes) in
      let tests = segment_by _ _ _ _ (named_len bytes) len taken in
      let passes =
      descriptor_by (lacks_room left) _ _ (block_fault bytes) of_segment tests.0 tests.1 in
      let own : of_segment ≡ None =
      ap (λ due. cond due (block_fault bytes) of_segment) (sym tests.2) ∙ passes.1 in
      let parts = passes_segment _ _ _ _ _ own in
      let named : named_len bytes ≡ len = tests.4 in
      record {
        room = passes.0;
        four = ltb-false (length bytes) 4 tests.1;
        due = tests.2;
        named = named;
        long = ltb-false len 4 (ap (λ n. nat_lt n 4) (sym named) ∙ parts.0);
        fits = ap (crosses_block left) (sym named) ∙ parts.1;
        joins = parts.2;
        begins = parts.3;
        short = ltb-false most_data (unwrap_or begun 0 + (len - 4))
            (ap (is_too_long begun) (sym named) ∙ parts.4);
        there = ltb-false (length bytes) len (ap (nat_lt (length bytes)) (sym named) ∙ tests.3);
      }

  -- what the tests show of a block's descriptor that is taken
  pub takes_block : next_of layout begun left bytes ≡ Block len → TakesBlock layout left bytes len
  takes_block taken =
      let of_segment = segment_fault begun left (named_len bytes) (kind_of bytes) in
      let tests = block_by _ _ _ _ (named_len bytes) len taken in
      let passes =
      descriptor_by (lacks_room left) _ _ (block_fault bytes) of_segment tests.0 tests.1 in
      let own : block_fault bytes ≡ None =
      ap (λ due. cond due (block_fault bytes) of_segment) (sym tests.2) ∙ passes.1 in
      let parts = passes_block _ _ own in
      let due = block_due layout left tests.2 in
      record {
        layout_is = due.0;
        none_left = due.1;
        four = ltb-false (length bytes) 4 tests.1;
        plain = leb-false 128 (number bytes 0 1) parts.0;
        named = tests.3;
        long = ltb-false len 4 (ap (λ n. nat_lt n 4) (sym tests.3) ∙ parts.1);
      }

  -- a segment against which no test speaks is taken
  pub segment_taken : TakesSegment layout begun left bytes len
      → next_of layout begun left bytes ≡ Segment len
  segment_taken takes =
      let there : nat_lt (length bytes) 4 ≡ false = le-ltb (length bytes) 4 takes.four in
      let short : is_too_long begun len ≡ false =
      le-ltb most_data (unwrap_or begun 0 + (len - 4)) takes.short in
      let passes : descriptor_fault layout begun left bytes ≡ None =
      rw (
        takes.room,
        there,
        takes.due,
        takes.named,
        le-ltb len 4 takes.long,
        takes.fits,
        takes.joins,
        takes.begins,
        short,
      ) refl in
      rw (passes, there, takes.due, takes.named, le-ltb (length bytes) len takes.there) refl

  -- the descriptor of a block against which no test speaks is taken
  pub block_taken : TakesBlock layout left bytes len → next_of layout begun left bytes ≡ Block len
  block_taken takes = rw (takes.layout_is, takes.none_left) (at_due)
    where
      at_due : next_of Bdw begun None bytes ≡ Block len
      at_due = rw (
        le-ltb (length bytes) 4 takes.four,
        lt-leb 128
            (number bytes 0 1) takes.plain,
        takes.named,
        le-ltb len 4 takes.long,
      ) refl

-- the four bytes of a descriptor are there with more bytes after them
four_there : (bytes more : List ℕ) → 4 ≤ length bytes
    → nat_lt (length (bytes ++ more)) 4 ≡ nat_lt (length bytes) 4
four_there bytes more long =
    le-ltb (length (bytes ++ more)) 4 (omega (arith, length-append bytes more))
    ∙ sym (le-ltb (length bytes) 4 long)

module _ (layout : Layout) (begun left : Option ℕ) (bytes more : List ℕ) where
  -- the tests of a descriptor look at four bytes
  pub fault_same : 4 ≤ length bytes
      → descriptor_fault layout begun left (bytes ++ more)
      ≡ descriptor_fault layout begun left bytes
  fault_same long =
      let same = names_same bytes more long in
      λ i. cond (lacks_room left) (Some SegmentCrossesBlock)
      (cond (four_there bytes more long i) None
      (cond (is_block_due layout left)
      (cond (nat_le 128 (same.first i)) (Some ExtendedBlock)
      (cond (nat_lt (same.len i) 4) (Some BlockLength) None))
      (segment_fault begun left (same.len i) (same.kind i))))

  -- what is whole is there, whatever bytes follow
  next_same : 4 ≤ length bytes
      → (is_block_due layout left ≡ false → named_len bytes ≤ length bytes)
      → next_of layout begun left (bytes ++ more) ≡ next_of layout begun left bytes
  next_same long whole =
      let len = (names_same bytes more long).len in
      let cut : is_block_due layout left ≡ false
      → nat_lt (length (bytes ++ more)) (named_len bytes)
      ≡ nat_lt (length bytes) (named_len bytes) = λ due.
      le-ltb (length (bytes ++ more)) (named_len bytes)
      (omega (arith, length-append bytes more, whole due))
      ∙ sym (le-ltb (length bytes) (named_len bytes) (whole due)) in
      (λ i. cond (is_some (fault_same long i)) Stops (cond (four_there bytes more long i) Stops
      (cond (is_block_due layout left) (Block (len i))
      (cond (nat_lt (length (bytes ++ more)) (len i)) Stops (Segment (len i))))))
      ∙ ap (λ next. cond (is_some (descriptor_fault layout begun left bytes)) Stops
      (cond (nat_lt (length bytes) 4) Stops next))
      (by (is_block_due layout left) (named_len bytes) cut)
    where
      by : (due : Bool) (named : ℕ)
          → (due ≡ false → nat_lt (length (bytes ++ more)) named ≡ nat_lt (length bytes) named)
          → cond due (Block named)
          (cond (nat_lt (length (bytes ++ more)) named) Stops (Segment named))
          ≡ cond due (Block named) (cond (nat_lt (length bytes) named) Stops (Segment named))
      by true named cut = refl
      by false named cut = ap (λ short. cond short Stops (Segment named)) (cut refl)

  -- so does a whole segment,
  pub segment_before : (len : ℕ) → next_of layout begun left bytes ≡ Segment len
      → next_of layout begun left (bytes ++ more) ≡ Segment len
  segment_before len is =
      let takes = takes_segment layout begun left bytes len is in
      next_same takes.four (λ due. omega (arith, takes.named, takes.there)) ∙ is

  -- and a block's descriptor
  pub block_before : (len : ℕ) → next_of layout begun left bytes ≡ Block len
      → next_of layout begun left (bytes ++ more) ≡ Block len
  block_before len is =
      let takes = takes_block layout begun left bytes len is in
      next_same takes.four
      (λ due. absurd (true≢false
      ((λ i. is_block_due (sym takes.layout_is i) (sym takes.none_left i)) ∙ due)))
      ∙ is
