-- The fields of a joiner after a segment.
use Rattle.std.proofs.Common.{◌≡◌, ℕ, ◌+◌, ◌≤◌, Bool, true, false, cond, List, [], ◌++◌}
use Rattle.std.proofs.Common.{length, take, drop, refl, sym, ap, ◌∙◌, arith, length-drop, subst}
use Rattle.std.proofs.Common.{Option, Some, None}
use Rattle.std.specs.Prelude.{unwrap_or, not}
use Rattle.std.proofs.lemmas.List.{take_all, length-take-le, take_at, drop_at, take-append-drop}
use Rattle.std.proofs.lemmas.List.{drop-append-le, drop_all}
use Rattle.smf_frames.specs.Framed.{most_data, record_with}
use Rattle.smf_frames.specs.Segment.{named_len, kind_of, goes_on}
use Rattle.smf_frames.specs.Front.{data_len, joined_with, begun_after, left_after}
use Rattle.smf_frames.specs.Joining.{Joining}
use Rattle.smf_frames.specs.JoinerFields.{Fields, Invariant, begun_in, pending_bytes, joining_in}
use Rattle.smf_frames.specs.JoinerSteps.{OnSegment, HoldsSegment, past_segment, made}
use Rattle.smf_frames.proofs.DescriptorNumbers.{names_same}
use Rattle.smf_frames.proofs.ReaderWaits.{passes_shows}
use Rattle.smf_frames.proofs.HeldFields.{held_len, four_held, not_standing}

-- the data that is begun ends at the mark
marked_len : (fields : Fields) → Invariant fields → fields.stands ≡ false
    → unwrap_or (data_len (begun_in fields)) 0 + 4 ≡ fields.data_end
marked_len fields keeps none = by fields.is_begun refl
  where
    by : (begun : Bool) → fields.is_begun ≡ begun
        → unwrap_or (data_len (cond begun (Some (drop 4 (take fields.data_end fields.joined))) None)) 0
        + 4 ≡ fields.data_end
    by true is = omega (
      arith,
      length-drop 4 (take fields.data_end fields.joined),
      length-take-le fields.data_end fields.joined keeps.marked,
      keeps.behind,
    )
    by false is = omega (arith, keeps.fresh is none)

-- there is room for what a segment lacks
pub room_left : {fields : Fields} → Invariant fields → (joining : Joining)
    → joining_in fields ≡ joining → joining.ready ≡ None → OnSegment joining
    → (n : ℕ) → length joining.held + n ≤ named_len joining.held
    → length fields.joined + n ≤ most_data + 4
room_left {fields} keeps joining is = subst HasRoom is here
  where
    HasRoom : Joining → Type 0
    HasRoom j = j.ready ≡ None → OnSegment j
        → (n : ℕ) → length j.held + n ≤ named_len j.held
        → length fields.joined + n ≤ most_data + 4

    here : HasRoom (joining_in fields)
    here none on n fit =
        let held : List ℕ = pending_bytes fields in
        let shows = passes_shows fields.layout (data_len (begun_in fields)) fields.left held
        on.passes on.four on.due in
        omega (
          arith,
          shows.0,
          shows.1,
          marked_len fields keeps (not_standing fields.stands fields.joined none),
          held_len keeps,
          four_held keeps on.four,
          keeps.marked,
        )

-- so all that is joined with a whole segment finds room
pub room_of_segment : {fields : Fields} → Invariant fields → (joining : Joining)
    → joining_in fields ≡ joining → joining.ready ≡ None → HoldsSegment joining
    → length fields.joined ≤ most_data + 4
room_of_segment keeps joining is none holds =
    let room = room_left keeps joining is none holds.on 0 (omega (arith, holds.named)) in
    omega arith

-- what is held where the descriptor is whole: it names the same, and all that is joined is the data
record SegmentHeld (fields : Fields) : Type 0 where
  kind : kind_of (pending_bytes fields) ≡ kind_of fields.descriptor
  named : named_len (pending_bytes fields) ≡ named_len fields.descriptor
  inside : joined_with (begun_in fields) (pending_bytes fields) ≡ drop 4 fields.joined

segment_held : (fields : Fields) → Invariant fields → fields.stands ≡ false
    → 4 ≤ length (pending_bytes fields) → SegmentHeld fields
segment_held fields keeps none four =
    let same = names_same fields.descriptor behind (omega (arith, keeps.four)) in
    record {
      kind = ap (λ front. kind_of (front ++ behind)) front_is ∙ same.kind;
      named = ap (λ front. named_len (front ++ behind)) front_is ∙ same.len;
      inside = ap (λ more. unwrap_or (begun_in fields) [] ++ more) behind_is
          ∙ by fields.is_begun refl;
    }
  where
    behind : List ℕ
    behind = drop fields.data_end fields.joined

    front_is : take fields.received fields.descriptor ≡ fields.descriptor
    front_is = take_all fields.received fields.descriptor
        (omega (arith, four_held keeps four, keeps.four))

    behind_is : drop 4 (pending_bytes fields) ≡ drop fields.data_end fields.joined
    behind_is = drop_at (take fields.received fields.descriptor) (drop fields.data_end fields.joined) 4
        (ap length front_is ∙ keeps.four)

    by : (begun : Bool) → fields.is_begun ≡ begun
        → unwrap_or (cond begun (Some (drop 4 (take fields.data_end fields.joined))) None) []
        ++ drop fields.data_end fields.joined ≡ drop 4 fields.joined
    by true is =
        sym (drop-append-le 4 (take fields.data_end fields.joined) (drop fields.data_end fields.joined)
        (omega (arith, length-take-le fields.data_end fields.joined keeps.marked, keeps.behind)))
        ∙ ap (drop 4) (take-append-drop fields.data_end fields.joined)
    by false is = ap (λ n. drop n fields.joined) (keeps.fresh is none)

-- the fields after a segment: nothing of a descriptor is there
abbrev pub passed : Fields → Option ℕ → Bool → List ℕ → ℕ → Bool → Fields
passed fields left is_begun joined data_end stands = record {
  layout = fields.layout;
  left = left;
  is_begun = is_begun;
  joined = joined;
  data_end = data_end;
  descriptor = fields.descriptor;
  received = 0;
  stands = stands;
  room = fields.room;
}

-- what is true of all fields is true of these
pub passed_keeps : {fields : Fields} → Invariant fields → length fields.joined ≤ most_data + 4
    → (left : Option ℕ) (is_begun stands : Bool) (joined : List ℕ) (data_end : ℕ)
    → data_end ≡ length fields.joined → length joined ≡ length fields.joined → is_begun ≡ not stands
    → Invariant (passed fields left is_begun joined data_end stands)
passed_keeps keeps short left is_begun stands joined data_end mark_is len_is begun_is = record {
  room = keeps.room;
  behind = omega (arith, keeps.behind, keeps.marked);
  marked = omega arith;
  short = omega arith;
  fresh = λ none not_standing. absurd (neither stands is_begun begun_is none not_standing);
  four = keeps.four;
  received_four = omega arith;
  whole = λ more. absurd (omega arith);
  due = λ _. omega arith;
  fits = omega arith;
  alone = λ ready. (begun_is ∙ ap not ready, omega arith, refl);
}
  where
    neither : (s b : Bool) → b ≡ not s → b ≡ false → s ≡ false → ⊥
    neither true b is none ready = cc
    neither false b is none ready = cc

module _ {fields : Fields} (keeps : Invariant fields) (holds : HoldsSegment (joining_in fields))
    (none : fields.stands ≡ false) where
  -- after a whole segment nothing is held, and what is left of the block is less
  behind_segment : (is_begun stands : Bool) (joined : List ℕ)
      → length joined ≡ length fields.joined
      → cond is_begun (Some (drop 4 (take (length fields.joined) joined))) None
      ≡ begun_after (begun_in fields) (pending_bytes fields)
      → cond stands (Some joined) None ≡ made (begun_in fields) (pending_bytes fields)
      → joining_in (passed fields (left_after fields.left (named_len fields.descriptor)) is_begun
      joined (length fields.joined) stands)
      ≡ past_segment (joining_in fields)
  behind_segment is_begun stands joined same_len begun_is made_is =
      let held = segment_held fields keeps none holds.on.four in
      λ i. record {
        layout = fields.layout;
        position = record {
          begun = begun_is i;
          left = ap (left_after fields.left) (sym held.named ∙ sym holds.named) i;
        };
        held = drop_all (length fields.joined) joined (omega arith) i;
        ready = made_is i;
      }

  -- where its record continues, these are the fields of the joiner after the segment
  pub passed_on : goes_on (kind_of fields.descriptor) ≡ true
      → joining_in (passed fields (left_after fields.left (named_len fields.descriptor)) true
      fields.joined (length fields.joined) false)
      ≡ past_segment (joining_in fields)
  passed_on goes =
      let joined : List ℕ = fields.joined in
      let all : List ℕ = joined_with (begun_in fields) (pending_bytes fields) in
      let is = segment_held fields keeps none holds.on.four in
      let on : goes_on (kind_of (pending_bytes fields)) ≡ true = ap goes_on is.kind ∙ goes in
      behind_segment true false joined refl
      (ap (λ bytes. Some (drop 4 bytes)) (take_all (length joined) joined (omega arith))
      ∙ ap Some (sym is.inside) ∙ ap (λ b. cond b (Some all) None) (sym on))
      (ap (λ b. cond b None (Some (record_with all))) (sym on))

  -- and where it is whole now, with its descriptor written before its data
  pub passed_whole : goes_on (kind_of fields.descriptor) ≡ false
      → (whole : List ℕ) → whole ≡ record_with (drop 4 fields.joined)
      → length whole ≡ length fields.joined
      → joining_in (passed fields (left_after fields.left (named_len fields.descriptor)) false
      whole (length fields.joined) true)
      ≡ past_segment (joining_in fields)
  passed_whole goes whole whole_is same_len =
      let all : List ℕ = joined_with (begun_in fields) (pending_bytes fields) in
      let is = segment_held fields keeps none holds.on.four in
      let off : goes_on (kind_of (pending_bytes fields)) ≡ false = ap goes_on is.kind ∙ goes in
      behind_segment false true whole same_len
      (ap (λ b. cond b (Some all) None) (sym off))
      (ap Some (whole_is ∙ ap record_with (sym is.inside))
      ∙ ap (λ b. cond b None (Some (record_with all))) (sym off))

-- a record has as many bytes as its data after a descriptor
pub described_len : (joined : List ℕ) → 4 ≤ length joined
    → length (record_with (drop 4 joined)) ≡ length joined
described_len joined long = omega (arith, length-drop 4 joined)

-- what is written over all of a list
pub written_over : (whole joined : List ℕ) (len : ℕ) → length whole ≡ length joined
    → len ≡ length joined → take len (whole ++ drop (length whole) joined) ≡ whole
written_over whole joined len same len_is =
    take_at whole (drop (length whole) joined) len (same ∙ sym len_is)
