-- What a reader has taken of a text is groups of segments, and the records that it has are theirs.
use Rattle.std.proofs.Common.{◌≡◌, ℕ, ◌-◌, ◌≤◌, ◌<◌, not, ◌&&◌, List, [], ◌∷◌, ◌++◌, length, map}
use Rattle.std.proofs.Common.{take, drop, refl, sym, ap, ◌∙◌, arith, subst, append_assoc}
use Rattle.std.proofs.Common.{append-nil, Option, None, inl, inr}
use Rattle.std.specs.Prelude.{is_some, is_none}
use Rattle.std.specs.List.{flat_map}
use Rattle.std.proofs.lemmas.Bool.{cond-true, cond-false, cases_Bool}
use Rattle.std.proofs.lemmas.List.{take-append-drop, length-take-le, map_push}
use Rattle.std.proofs.lemmas.List.Concat.{flat_map-append}
use Rattle.std.proofs.lemmas.List.Elements.{All-nil, All-push}
use Rattle.smf_frames.specs.declared.dump.Layout.{Layout}
use Rattle.smf_frames.specs.declared.dump.Layout.TheVariants.{Rdw, Bdw}
use Rattle.smf_frames.specs.declared.next.Next.TheVariants.{Block, Segment}
use Rattle.smf_frames.specs.Number.{number}
use Rattle.smf_frames.specs.Framed.{record_with}
use Rattle.smf_frames.specs.Segment.{named_len, kind_of, begins_record, goes_on, IsSegment}
use Rattle.smf_frames.specs.Layouts.{no_block, HasSegments}
use Rattle.smf_frames.specs.Group.{nothing, IsGroup, group_record}
use Rattle.smf_frames.specs.Lawful.{IsCut}
use Rattle.smf_frames.specs.Faults.{crosses_block}
use Rattle.smf_frames.specs.Front.{Progress, start, data_len, completed, begun_after, left_of_block}
use Rattle.smf_frames.specs.Front.{left_after, after_segment, after_block}
use Rattle.smf_frames.proofs.DescriptorNumbers.{names_same}
use Rattle.smf_frames.proofs.Steps.{takes_segment, takes_block}
use Rattle.smf_frames.proofs.ReaderWays.{progress_at, next_at, Way, here, past_block, past_segment}
use Rattle.smf_frames.proofs.JoinedGroups.{MayJoin, data_in}
use Rattle.smf_frames.proofs.BegunGroups.{joined_push, data_in_push, group_goes_on, group_ends}
use Rattle.smf_frames.proofs.GroupedTexts.{HasRoomFor}
use Rattle.smf_frames.proofs.LongerTexts.{IsDescriptor, segments_push, segments_begin}

-- what one more segment makes of a text that is groups of segments
record Grows (layout : Layout) (text segment : List ℕ) (groups : List (List (List ℕ)))
    (begun : List (List ℕ)) (left : Option ℕ) : Type 0 where
  more : List (List (List ℕ))
  after : List (List ℕ)
  cut : IsCut layout (text ++ segment) more after (left_after left (length segment))
  made : map group_record more ≡ map group_record groups ++ completed (data_in begun) segment
  is : begun_after (data_in begun) segment ≡ data_in after

-- a segment that passes the tests continues the begun group, or makes it whole
cut_grows : (layout : Layout) (text segment : List ℕ) (groups : List (List (List ℕ)))
    (begun : List (List ℕ)) (left : Option ℕ)
    → IsCut layout text groups begun left → IsSegment segment → MayJoin (data_in begun) segment
    → HasRoomFor layout left (length segment) → Grows layout text segment groups begun left
cut_grows layout text segment groups begun left cut is may
    room = elim (cases_Bool (goes_on (kind_of segment))) [
      | inl on ↦ record {
        more = groups;
        after = begun ++ segment ∷ [];
        cut = record {
          segments = subst Now (append_assoc flat begun (segment ∷ [])) pushed;
          whole = cut.whole;
          begins = group_goes_on begun segment cut.begins may on;
        };
        made = sym (append-nil (map group_record groups))
            ∙ ap (λ made. map group_record groups ++ made)
            (sym (cond-true (goes_on (kind_of segment)) _ _ on));
        is = cond-true (goes_on (kind_of segment)) _ _ on ∙ sym (data_in_push begun segment);
      }
      | inr off ↦ record {
        more = groups ++ (begun ++ segment ∷ []) ∷ [];
        after = [];
        cut = record {
          segments = subst Now regroup pushed;
          whole = All-push IsGroup groups (begun ++ segment ∷ []) cut.whole
              (group_ends begun segment cut.begins may off);
          begins = record { kinds = nothing; short = omega arith };
        };
        made = map_push group_record groups (begun ++ segment ∷ [])
            ∙ ap (λ joined. map group_record groups ++ record_with joined ∷ [])
            (joined_push begun segment)
            ∙ ap (λ made. map group_record groups ++ made)
            (sym (cond-false (goes_on (kind_of segment)) _ _ off));
        is = cond-false (goes_on (kind_of segment)) _ _ off;
      }
    ]
  where
    Now : List (List ℕ) → Type 0
    Now segments = HasSegments layout (text ++ segment) segments (left_after left (length segment))

    flat : List (List ℕ)
    flat = flat_map (λ group. group) groups

    pushed : Now (flat ++ begun ++ segment ∷ [])
    pushed = segments_push layout text segment (flat ++ begun) left cut.segments is room

    regroup : flat ++ begun ++ segment ∷ [] ≡ flat_map (λ group. group)
        (groups ++ (begun ++ segment ∷ []) ∷ []) ++ []
    regroup = append_assoc flat begun (segment ∷ [])
        ∙ ap (λ last. flat ++ last) (sym (append-nil (begun ++ segment ∷ [])))
        ∙ sym (flat_map-append (λ group. group) groups ((begun ++ segment ∷ []) ∷ []))
        ∙ sym (append-nil (flat_map (λ group. group) (groups ++ (begun ++ segment ∷ []) ∷ [])))

-- a segment that a reader takes
record IsTaken (layout : Layout) (progress : Progress) (segment : List ℕ) : Type 0 where
  is : IsSegment segment
  may : MayJoin progress.begun segment
  room : HasRoomFor layout progress.left (length segment)

-- what the tests show of it
taken_segment : (layout : Layout) (progress : Progress) (bytes : List ℕ) (len : ℕ)
    → next_at layout progress bytes ≡ Segment len
    → IsTaken layout progress (take len bytes)
taken_segment layout progress bytes len taken =
    let begun : Option ℕ = data_len progress.begun in
    let takes = takes_segment layout begun progress.left bytes len taken in
    let total : length (take len bytes) ≡ len = length-take-le len bytes takes.there in
    let all : take len bytes ++ drop len bytes ≡ bytes = take-append-drop len bytes in
    let same = names_same (take len bytes) (drop len bytes) (omega (arith, takes.long)) in
    let kind : kind_of (take len bytes) ≡ kind_of bytes = sym same.kind ∙ ap kind_of all in
    let named : named_len (take len bytes) ≡ len = sym same.len ∙ ap named_len all ∙ takes.named in
    record {
      is = record { descriptor = omega (arith, takes.long); named = named ∙ sym total };
      may = record {
        joins = ap (λ k. is_none begun && not (begins_record k)) kind ∙ takes.joins;
        begins = ap (λ k. is_some begun && begins_record k) kind ∙ takes.begins;
        short = omega (arith, takes.short);
      };
      room = record {
        room = takes.room;
        due = takes.due;
        fits = ap
            (crosses_block progress.left) total ∙ takes.fits;
      };
    }

-- the descriptor of a block that a reader takes
taken_descriptor : (layout : Layout) (progress : Progress) (bytes : List ℕ) (len : ℕ)
    → next_at layout progress bytes ≡ Block len
    → IsDescriptor (take 4 bytes) × (named_len (take 4 bytes) ≡ len)
taken_descriptor layout progress bytes len taken =
    let takes = takes_block layout (data_len progress.begun) progress.left bytes len taken in
    let four : length (take 4 bytes) ≡ 4 = length-take-le 4 bytes takes.four in
    let all : take 4 bytes ++ drop 4 bytes ≡ bytes = take-append-drop 4 bytes in
    let same = names_same (take 4 bytes) (drop 4 bytes) (omega arith) in
    let named : named_len (take 4 bytes) ≡ len = sym same.len ∙ ap named_len all ∙ takes.named in
    let first : number (take 4 bytes) 0 1 ≡ number bytes 0 1 =
    sym same.first ∙ ap (λ b. number b 0 1) all in (
      record {
        four = four;
        plain = subst (λ n. n < 128) (sym first) takes.plain;
        long = subst (λ n. 4 ≤ n) (sym named) takes.long;
      },
      named,
    )

-- A way that begins after groups of segments ends after groups of segments, and the records on it
-- are those of the groups that it adds.
pub record Cut (layout : Layout) (text : List ℕ) (groups : List (List (List ℕ)))
    (records : List (List ℕ)) (last : Progress) (bytes rest : List ℕ) : Type 0 where
  pub prefix : List ℕ
  pub more : List (List (List ℕ))
  pub begun : List (List ℕ)
  pub left : Option ℕ
  pub parts : text ++ bytes ≡ prefix ++ rest
  pub cut : IsCut layout prefix more begun left
  pub made : map group_record more ≡ map group_record groups ++ records
  pub is : last ≡ progress_at left (data_in begun)

-- each step of the way adds to them
way_on : {layout : Layout} {progress last : Progress} {bytes rest : List ℕ}
    {records : List (List ℕ)}
    → Way layout progress bytes records last rest
    → (text : List ℕ) (groups : List (List (List ℕ))) (begun : List (List ℕ)) (left : Option ℕ)
    → IsCut layout text groups begun left
    → progress ≡ progress_at left (data_in begun) → Cut layout text groups records last bytes rest
way_on here text groups begun left cut is = record {
  prefix = text;
  more = groups;
  begun = begun;
  left = left;
  parts = refl;
  cut = cut;
  made = sym (append-nil (map group_record groups));
  is = is;
}
way_on {layout} {progress} {bytes = bytes}
    (past_block len taken way) text groups begun left cut is =
    let descriptor : List ℕ = take 4 bytes in
    let segments : List (List ℕ) = flat_map (λ group. group) groups ++ begun in
    let takes = takes_block layout (data_len progress.begun) progress.left bytes len taken in
    let taken_is = taken_descriptor layout progress bytes len taken in
    let left_is : left ≡ None = sym (ap (λ (p : Progress). p.left) is) ∙ takes.none_left in
    let begins : HasSegments layout (text ++ descriptor) segments (left_of_block (len - 4)) =
    subst (λ n. HasSegments layout (text ++ descriptor) segments (left_of_block (n - 4)))
    taken_is.1
    (segments_begin layout text descriptor segments left cut.segments taken_is.0 takes.layout_is
    left_is) in
    let later = way_on way (text ++ descriptor) groups begun (left_of_block (len - 4))
    (record { segments = begins; whole = cut.whole; begins = cut.begins })
    (ap (λ p. after_block p len) is) in
    record {
      prefix = later.prefix;
      more = later.more;
      begun = later.begun;
      left = later.left;
      parts = ap (λ b. text ++ b) (sym (take-append-drop 4 bytes))
          ∙ sym (append_assoc text descriptor (drop 4 bytes)) ∙ later.parts;
      cut = later.cut;
      made = later.made;
      is = later.is;
    }
way_on {layout} {progress} {bytes = bytes}
    (past_segment {records = records} len taken way) text groups begun left cut is =
    let segment : List ℕ = take len bytes in
    let taken_is = taken_segment layout progress bytes len taken in
    let data_is : progress.begun ≡ data_in begun = ap (λ (p : Progress). p.begun) is in
    let left_is : progress.left ≡ left = ap (λ (p : Progress). p.left) is in
    let grows = cut_grows layout text segment groups begun left cut taken_is.is
    (subst (λ b. MayJoin b segment) data_is taken_is.may)
    (subst (λ l. HasRoomFor layout l (length segment)) left_is taken_is.room) in
    let left_now : Option ℕ = left_after left (length segment) in
    let later = way_on way (text ++ segment) grows.more grows.after left_now grows.cut
    (ap (λ p. after_segment p segment) is ∙ ap (progress_at left_now) grows.is) in
    let made : map group_record grows.more ++ records ≡ map group_record
    groups ++ (completed progress.begun segment ++ records) =
    ap (λ made. made ++ records) grows.made
    ∙ append_assoc (map group_record groups) (completed (data_in begun) segment) records
    ∙ ap (λ b. map group_record groups ++ (completed b segment ++ records)) (sym data_is) in
    record {
      prefix = later.prefix;
      more = later.more;
      begun = later.begun;
      left = later.left;
      parts = ap (λ b. text ++ b) (sym (take-append-drop len bytes))
          ∙ sym (append_assoc text segment (drop len bytes)) ∙ later.parts;
      cut = later.cut;
      made = later.made ∙ made;
      is = later.is;
    }

-- nothing is no segment
no_segments : (layout : Layout) → HasSegments layout [] [] None
no_segments Rdw = (record { whole = All-nil IsSegment; parts = refl }, refl)
no_segments Bdw = no_block

-- what a reader has taken is groups of segments
pub way_cut : {layout : Layout} {last : Progress} {text rest : List ℕ} {records : List (List ℕ)}
    → Way layout start text records last rest → Cut layout [] [] records last text rest
way_cut {layout} way =
    way_on way [] [] [] None (record {
      segments = no_segments layout;
      whole = All-nil IsGroup;
      begins = record { kinds = nothing; short = omega arith };
    }) refl
