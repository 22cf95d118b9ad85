-- The segments of a text with one more segment after it, or with the descriptor of a block.
use Rattle.std.proofs.Common.{◌≡◌, ℕ, zero, suc, ◌-◌, ◌≤◌, ◌<◌, List, [], ◌∷◌, ◌++◌, length, refl}
use Rattle.std.proofs.Common.{sym, ap, ◌∙◌, arith, subst, length-append, append_assoc, append-nil}
use Rattle.std.proofs.Common.{Option, None}
use Rattle.std.specs.List.{concat}
use Rattle.std.proofs.lemmas.Bool.{ltb-false}
use Rattle.std.proofs.lemmas.List.{drop_all, drop-append-le}
use Rattle.std.proofs.lemmas.List.Elements.{All-nil, All-push}
use Rattle.smf_frames.specs.declared.dump.Layout.{Layout}
use Rattle.smf_frames.specs.declared.dump.Layout.TheVariants.{Rdw, Bdw}
use Rattle.smf_frames.specs.Number.{number}
use Rattle.smf_frames.specs.Segment.{named_len, IsSegment}
use Rattle.smf_frames.specs.Block.{IsBlock}
use Rattle.smf_frames.specs.Layouts.{HasBlocks, no_block, begun_block, whole_block, HasSegments}
use Rattle.smf_frames.specs.Front.{left_of_block, left_after}
use Rattle.smf_frames.proofs.DescriptorNumbers.{names_same}
use Rattle.smf_frames.proofs.GroupedTexts.{HasRoomFor, left_some}

-- the descriptor of a block
pub record IsDescriptor (bytes : List ℕ) : Type 0 where
  pub four : length bytes ≡ 4
  pub plain : number bytes 0 1 < 128
  pub long : 4 ≤ named_len bytes

-- segments joined end to end, and one more
concat_push : (segments : List (List ℕ)) (segment : List ℕ)
    → concat (segments ++ segment ∷ []) ≡ concat segments ++ segment
concat_push [] segment = append-nil segment
concat_push (first ∷ segments) segment =
    ap (λ b. first ++ b) (concat_push segments segment)
    ∙ sym (append_assoc first (concat segments) segment)

-- a block with one more segment
block_push : (block segment : List ℕ) (segments : List (List ℕ)) (left : ℕ)
    → IsBlock block segments left → IsSegment segment
    → length segment ≤ left → IsBlock (block ++ segment) (segments ++ segment ∷ [])
    (left - length segment)
block_push block segment segments left is more fits =
    let same = names_same block segment is.descriptor in
    let total = length-append block segment in
    let named = is.named in
    record {
      descriptor = omega (arith, is.descriptor);
      plain = subst (λ n. n < 128) (sym same.first) is.plain;
      named = same.len ∙ named ∙ omega arith;
      content = drop-append-le 4 block segment is.descriptor ∙ ap (λ b. b ++ segment) is.content
          ∙ sym (concat_push segments segment);
      whole = All-push IsSegment segments segment is.whole more;
    }

-- the same blocks, of a text and segments that are the same
blocks_same : {text text' : List ℕ} {segments segments' : List (List ℕ)} {left : Option ℕ}
    → text ≡ text' → segments ≡ segments'
    → HasBlocks text segments left → HasBlocks text' segments' left
blocks_same {text} {text'} {segments} {segments'} {left} same_text same_segments blocks =
    subst (λ t. HasBlocks t segments' left) same_text
    (subst (λ s. HasBlocks text s left) same_segments blocks)

-- a block with that much left
block_left : (block : List ℕ) (segments : List (List ℕ)) (left : ℕ) → IsBlock block segments left
    → HasBlocks block segments (left_of_block left)
block_left block segments zero is =
    blocks_same (append-nil block) (append-nil segments)
    (whole_block block [] segments [] None is no_block)
block_left block segments (suc n) is =
    let some : 0 < suc n = omega arith in
    subst (λ l. HasBlocks block segments l) (sym (left_some (suc n) some))
    (begun_block block segments (suc n) some is)

-- blocks with one more segment
blocks_push : (text segment : List ℕ) (segments : List (List ℕ)) (left : Option ℕ)
    → HasBlocks text segments left
    → IsSegment segment → HasRoomFor Bdw left (length segment)
    → HasBlocks (text ++ segment) (segments ++ segment ∷ []) (left_after left (length segment))
blocks_push text segment segments left no_block is room = let due = room.due in absurd cc
blocks_push text segment segments left (begun_block block inside n some block_is) is room =
    block_left (block ++ segment) (inside ++ segment ∷ []) (n - length segment)
    (block_push block segment inside n block_is is (ltb-false n (length segment) room.fits))
blocks_push text segment segments left (whole_block block on inside later l block_is rest) is room =
    blocks_same (sym (append_assoc block on segment))
    (sym (append_assoc inside later (segment ∷ [])))
    (whole_block block (on ++ segment) inside (later ++ segment ∷ [])
    (left_after l (length segment)) block_is
    (blocks_push on segment later l rest is room))

-- a text with one more segment
pub segments_push : (layout : Layout) (text segment : List ℕ) (segments : List (List ℕ))
    (left : Option ℕ)
    → HasSegments layout text segments left → IsSegment segment
    → HasRoomFor layout left (length segment)
    → HasSegments layout (text ++ segment) (segments ++ segment ∷ [])
    (left_after left (length segment))
segments_push Rdw text segment segments left run is room = (
  record {
    whole = All-push IsSegment segments segment run.0.whole is;
    parts = ap (λ b. b ++ segment) run.0.parts ∙ sym (concat_push segments segment);
  },
  ap (λ l. left_after l (length segment)) run.1,
)
segments_push Bdw text segment segments left blocks is room =
    blocks_push text segment segments left blocks is room

-- blocks with the descriptor of one more
blocks_begin : (text descriptor : List ℕ) (segments : List (List ℕ)) (left : Option ℕ)
    → HasBlocks text segments left
    → IsDescriptor descriptor → left ≡ None
    → HasBlocks (text ++ descriptor) segments (left_of_block (named_len descriptor - 4))
blocks_begin text descriptor segments left no_block is none =
    block_left descriptor [] (named_len descriptor - 4) (record {
      descriptor = omega (arith, is.four);
      plain = is.plain;
      named = omega (arith, is.four, is.long);
      content = drop_all 4 descriptor (omega (arith, is.four));
      whole = All-nil IsSegment;
    })
blocks_begin text descriptor segments left (begun_block block inside n some block_is) is none =
    absurd cc
blocks_begin text descriptor segments left
    (whole_block block on inside later l block_is rest) is none =
    blocks_same (sym (append_assoc block on descriptor)) refl
    (whole_block block (on ++ descriptor) inside later
    (left_of_block (named_len descriptor - 4)) block_is
    (blocks_begin on descriptor later l rest is none))

-- a text with the descriptor of one more block
pub segments_begin : (layout : Layout) (text descriptor : List ℕ) (segments : List (List ℕ))
    (left : Option ℕ)
    → HasSegments layout text segments left → IsDescriptor descriptor → layout ≡ Bdw → left ≡ None
    → HasSegments layout (text ++ descriptor) segments (left_of_block (named_len descriptor - 4))
segments_begin Rdw text descriptor segments left run is layout_is none = absurd cc
segments_begin Bdw text descriptor segments left blocks is layout_is none =
    blocks_begin text descriptor segments left blocks is none
