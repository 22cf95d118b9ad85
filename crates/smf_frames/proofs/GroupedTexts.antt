-- A reader gets past each text that is groups of segments, with their records.
use Rattle.std.proofs.Common.{◌≡◌, ℕ, ◌+◌, ◌-◌, ◌≤◌, ◌<◌, false, cond, List, [], ◌∷◌}
use Rattle.std.proofs.Common.{◌++◌, length, map, take, drop, refl, sym, ap, ◌∙◌, arith, subst}
use Rattle.std.proofs.Common.{length-drop, length-append, append_assoc, append-nil, Option, Some}
use Rattle.std.proofs.Common.{None}
use Rattle.std.specs.Prelude.{All}
use Rattle.std.specs.List.{concat, flat_map}
use Rattle.std.proofs.lemmas.Bool.{le-ltb, ne_eqb}
use Rattle.std.proofs.lemmas.List.{take_at, drop_at, drop-append-le}
use Rattle.std.proofs.lemmas.List.Elements.{All-head, All-tail}
use Rattle.smf_frames.specs.declared.dump.Layout.{Layout}
use Rattle.smf_frames.specs.declared.dump.Layout.TheVariants.{Rdw, Bdw}
use Rattle.smf_frames.specs.declared.next.Next.TheVariants.{Block, Segment}
use Rattle.smf_frames.specs.Segment.{named_len, IsSegment}
use Rattle.smf_frames.specs.Block.{IsBlock}
use Rattle.smf_frames.specs.Layouts.{HasBlocks, no_block, begun_block, whole_block, HasSegments}
use Rattle.smf_frames.specs.Group.{group_record}
use Rattle.smf_frames.specs.Lawful.{IsCut}
use Rattle.smf_frames.specs.Faults.{is_block_due, lacks_room, crosses_block}
use Rattle.smf_frames.specs.Front.{Progress, start, data_len, completed, begun_after, left_of_block}
use Rattle.smf_frames.specs.Front.{left_after, after_segment}
use Rattle.smf_frames.proofs.Steps.{segment_taken, block_taken, segment_before, block_before}
use Rattle.smf_frames.proofs.ReaderWays.{progress_at, next_at, Way, here, past_block, past_segment}
use Rattle.smf_frames.proofs.ReaderWays.{way_same, way-append}
use Rattle.smf_frames.proofs.JoinedGroups.{MayJoin, AllJoin, records_along, begun_along, join_apart}
use Rattle.smf_frames.proofs.JoinedGroups.{records_along-append, begun_along-append, data_in, groups_join}

-- there is room for a segment of this length
pub record HasRoomFor (layout : Layout) (left : Option ℕ) (len : ℕ) : Type 0 where
  pub room : lacks_room left ≡ false
  pub due : is_block_due layout left ≡ false
  pub fits : crosses_block left len ≡ false

-- the same of segments one after another
abbrev pub HasRoom : Layout → Option ℕ → List (List ℕ) → Type 0
HasRoom layout left [] = Unit {0}
HasRoom layout left (segment ∷ segments) =
    HasRoomFor layout left (length segment) × HasRoom layout
    (left_after left (length segment)) segments

-- what is left of a block after segments
abbrev pub left_along : Option ℕ → List (List ℕ) → Option ℕ
left_along left [] = left
left_along left (segment ∷ segments) = left_along (left_after left (length segment)) segments

-- a whole segment that may come here is what comes here
next_segment : (layout : Layout) (progress : Progress) (segment more : List ℕ) → IsSegment segment
    → MayJoin progress.begun segment
    → HasRoomFor layout progress.left (length segment)
    → next_at layout progress (segment ++ more) ≡ Segment (length segment)
next_segment layout progress segment more is may room =
    let begun : Option ℕ = data_len progress.begun in
    segment_before layout begun progress.left segment more (length segment)
    (segment_taken layout begun progress.left segment (length segment) (record {
      room = room.room;
      four = is.descriptor;
      due = room.due;
      named = is.named;
      long = is.descriptor;
      fits = room.fits;
      joins = may.joins;
      begins = may.begins;
      short = may.short;
      there = omega arith;
    }))

-- a way over a segment, and on from the end of it
way_segment : (layout : Layout) (progress last : Progress) (segment bytes rest : List ℕ)
    (records : List (List ℕ))
    → next_at layout progress (segment ++ bytes) ≡ Segment (length segment)
    → Way layout (after_segment progress segment) bytes records last rest
    → Way layout progress (segment ++ bytes) (completed progress.begun segment ++ records) last rest
way_segment layout progress last segment bytes rest records is way =
    let n : ℕ = length segment in
    let front_is : segment ≡ take n (segment ++ bytes) = sym (take_at segment bytes n refl) in
    let back_is : bytes ≡ drop n (segment ++ bytes) = sym (drop_at segment bytes n refl) in
    let on : Way layout (after_segment progress (take n (segment ++ bytes)))
    (drop n (segment ++ bytes)) records last rest =
    subst (λ s. Way layout (after_segment progress s)
    (drop n (segment ++ bytes)) records last rest) front_is
    (subst (λ b. Way layout (after_segment progress segment) b records last rest) back_is
    way) in
    subst (λ s. Way layout progress (segment ++ bytes)
    (completed progress.begun s ++ records) last rest) (sym front_is) (past_segment n is on)

-- a way over segments that pass the tests
way_run : (layout : Layout) (begun : Option (List ℕ)) (left : Option ℕ) (segments : List (List ℕ))
    (more : List ℕ)
    → All IsSegment segments → AllJoin begun segments → HasRoom layout left segments
    → Way layout (progress_at left begun) (concat segments ++ more) (records_along begun segments)
    (progress_at (left_along left segments) (begun_along begun segments)) more
way_run layout begun left [] more are join room = here
way_run layout begun left (segment ∷ segments) more are join room =
    let content : List ℕ = concat segments ++ more in
    let is = next_segment layout (progress_at left begun) segment content
    (All-head IsSegment segment segments are) join.0 room.0 in
    let on =
    way_run layout (begun_after begun segment) (left_after left (length segment)) segments more
    (All-tail IsSegment segment segments are) join.1 room.1 in
    way_same (sym (append_assoc segment (concat segments) more)) refl refl
    (way_segment layout (progress_at left begun) _ segment content more
    (records_along (begun_after begun segment) segments) is on)

-- where the layout has no blocks there is room for all segments
run_room : (segments : List (List ℕ))
    → HasRoom Rdw None segments × (left_along None segments ≡ None)
run_room [] = (tt, refl)
run_room (segment ∷ segments) =
    let rest =
    run_room segments in ((record { room = refl; due = refl; fits = refl }, rest.0), rest.1)

-- what is left of a block that has something left
pub left_some : (n : ℕ) → 0 < n → left_of_block n ≡ Some n
left_some n some = ap (λ t. cond t None (Some n)) (ne_eqb n 0 (omega arith))

-- a block has room for segments that are not longer than what is left of it
block_room : (n : ℕ) (segments : List (List ℕ)) → All IsSegment segments
    → length (concat segments) ≤ n
    → HasRoom Bdw (left_of_block n)
    segments × (left_along (left_of_block n) segments ≡ left_of_block
    (n - length (concat segments)))
block_room n [] are fit = let all : n ≡ n - 0 = omega arith in (tt, ap left_of_block all)
block_room n (segment ∷ segments) are fit =
    let is = All-head IsSegment segment segments are in
    let total = length-append segment (concat segments) in
    let some : left_of_block n ≡ Some n = left_some n (omega (arith, is.descriptor)) in
    let rest = block_room (n - length segment) segments (All-tail IsSegment segment segments are)
    (omega arith) in
    let left : n - length segment - length (concat segments) ≡ n - length
    (segment ++ concat segments) = omega arith in
    let here : HasRoomFor Bdw (Some n) (length segment) = record {
      room = le-ltb n 4 (omega (arith, is.descriptor));
      due = refl;
      fits = le-ltb n (length segment) (omega arith);
    } in (
      subst (λ l. HasRoom Bdw l (segment ∷ segments)) (sym some) (here, rest.0),
      ap (λ l. left_along l (segment ∷ segments)) some ∙ rest.1 ∙ ap left_of_block left,
    )

-- the descriptor of a block is what comes where a block is due
next_block : (begun : Option (List ℕ)) (block more : List ℕ) (segments : List (List ℕ)) (left : ℕ)
    → IsBlock block segments left
    → next_at Bdw (progress_at None begun) (block ++ more) ≡ Block (named_len block)
next_block begun block more segments left is =
    let named = is.named in
    block_before Bdw (data_len begun) None block more (named_len block)
    (block_taken Bdw (data_len begun) None block (named_len block) (record {
      layout_is = refl;
      none_left = refl;
      four = is.descriptor;
      plain = is.plain;
      named = refl;
      long = omega (arith, is.descriptor);
    }))

-- a way over the descriptor of a block, and the segments in it
way_block : (begun : Option (List ℕ)) (block more : List ℕ) (segments : List (List ℕ)) (left : ℕ)
    → IsBlock block segments left → AllJoin begun segments
    → Way Bdw (progress_at None begun) (block ++ more) (records_along begun segments)
    (progress_at (left_of_block left) (begun_along begun segments)) more
way_block begun block more segments left is join =
    let n : ℕ = named_len block - 4 in
    let inside : length (concat segments) + 4 ≡ length block =
    omega (arith, sym (ap length is.content), length-drop 4 block, is.descriptor) in
    let named = is.named in
    let room = block_room n segments is.whole (omega arith) in
    let after : n - length (concat segments) ≡ left = omega arith in
    let behind_is : drop 4 (block ++ more) ≡ concat segments ++ more =
    drop-append-le 4 block more is.descriptor ∙ ap (λ b. b ++ more) is.content in
    past_block (named_len block) (next_block begun block more segments left is)
    (way_same (sym behind_is) refl
    (ap (λ l. progress_at l (begun_along begun segments)) (room.1 ∙ ap left_of_block after))
    (way_run Bdw begun (left_of_block n) segments more is.whole join room.0))

-- a way over blocks
way_blocks : (text more : List ℕ) (segments : List (List ℕ)) (left : Option ℕ)
    (begun : Option (List ℕ))
    → HasBlocks text segments left → AllJoin begun segments
    → Way Bdw (progress_at None begun) (text ++ more) (records_along begun segments)
    (progress_at left (begun_along begun segments)) more
way_blocks text more segments left begun no_block join = here
way_blocks text more segments left begun (begun_block block inside n some is) join =
    way_same refl refl (ap (λ l. progress_at l (begun_along begun inside)) (left_some n some))
    (way_block begun block more inside n is join)
way_blocks text more segments left begun (whole_block block on inside later l is rest) join =
    let apart = join_apart begun inside later join in
    let first = way_block begun block (on ++ more) inside 0 is apart.0 in
    let second = way_blocks on more later l (begun_along begun inside) rest apart.1 in
    way_same (sym (append_assoc block on more)) (sym (records_along-append begun inside later))
    (ap (progress_at l) (sym (begun_along-append begun inside later))) (way-append first second)

-- a way over the segments of a text
way_segments : (layout : Layout) (text more : List ℕ) (segments : List (List ℕ)) (left : Option ℕ)
    → HasSegments layout text segments left → AllJoin None segments
    → Way layout start (text ++ more) (records_along None segments)
    (progress_at left (begun_along None segments)) more
way_segments Rdw text more segments left run join =
    let room = run_room segments in
    way_same (ap (λ b. b ++ more) (sym run.0.parts)) refl
    (ap (λ l. progress_at l (begun_along None segments)) (room.1 ∙ sym run.1))
    (way_run Rdw None None segments more run.0.whole join room.0)
way_segments Bdw text more segments left blocks join =
    way_blocks text more segments left None blocks join

-- a reader gets past a text that is groups of segments, with their records
pub cut_way : (layout : Layout) (text more : List ℕ) (groups : List (List (List ℕ)))
    (begun : List (List ℕ)) (left : Option ℕ)
    → IsCut layout text groups begun left
    → Way layout start (text ++ more) (map group_record groups) (progress_at left (data_in begun)) more
cut_way layout text more groups begun left cut =
    let joins = groups_join groups begun cut.whole cut.begins in
    way_same refl (joins.made ∙ append-nil (map group_record groups))
    (ap (progress_at left) joins.left)
    (way_segments layout text more (flat_map (λ group. group) groups ++ begun) left cut.segments
    (joins.join tt))
