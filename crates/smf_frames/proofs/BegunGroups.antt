-- What a segment that passes the tests makes of a begun group: the group continues, or it is
-- whole.
use Rattle.std.proofs.Common.{◌≡◌, ℕ, ◌≤◌, true, false, not, List, [], ◌∷◌, ◌++◌, length, map, refl}
use Rattle.std.proofs.Common.{sym, ap, ◌∙◌, arith, subst, length-drop, length-append, append-nil}
use Rattle.std.proofs.Common.{Some}
use Rattle.std.specs.Prelude.{unwrap_or, All}
use Rattle.std.proofs.lemmas.List.{map_push}
use Rattle.std.proofs.lemmas.List.Concat.{flat_map-append}
use Rattle.std.proofs.lemmas.List.Elements.{All-nil, All-push}
use Rattle.smf_frames.specs.declared.descriptor.SegmentKind.{SegmentKind}
use Rattle.smf_frames.specs.declared.descriptor.SegmentKind.TheVariants.{Complete, First, Last}
use Rattle.smf_frames.specs.declared.descriptor.SegmentKind.TheVariants.{Between}
use Rattle.smf_frames.specs.Framed.{most_data, data_of}
use Rattle.smf_frames.specs.Segment.{kind_of, begins_record, goes_on}
use Rattle.smf_frames.specs.Group.{AreWhole, alone, spanned, AreBegun, nothing, spanning, joined}
use Rattle.smf_frames.specs.Group.{IsGroup, IsBegunGroup}
use Rattle.smf_frames.specs.Front.{data_len, joined_with}
use Rattle.smf_frames.proofs.JoinedGroups.{MayJoin, data_in}

-- the data of a group that is begun, or no data
data_in_or : (segments : List (List ℕ)) → unwrap_or (data_in segments) [] ≡ joined segments
data_in_or [] = refl
data_in_or (segment ∷ segments) = refl

-- how much that is
data_len_or : (segments : List (List ℕ))
    → unwrap_or (data_len (data_in segments)) 0 ≡ length (joined segments)
data_len_or [] = refl
data_len_or (segment ∷ segments) = refl

-- the data with one more segment
pub joined_push : (segments : List (List ℕ)) (segment : List ℕ)
    → joined (segments ++ segment ∷ []) ≡ joined_with (data_in segments) segment
joined_push segments segment =
    flat_map-append data_of segments (segment ∷ [])
    ∙ ap (λ d. joined segments ++ d) (append-nil (data_of segment))
    ∙ ap (λ d. d ++ data_of segment) (sym (data_in_or segments))

-- a group with one more segment is begun
pub data_in_push : (segments : List (List ℕ)) (segment : List ℕ)
    → data_in (segments ++ segment ∷ []) ≡ Some (joined_with (data_in segments) segment)
data_in_push [] segment = ap (λ d. Some d) (joined_push [] segment)
data_in_push (first ∷ segments) segment = ap (λ d. Some d) (joined_push (first ∷ segments) segment)

-- the kind of a segment that may come where nothing is begun, by whether its record continues
first_kind : (kind : SegmentKind) → not (begins_record kind) ≡ false
    → ((goes_on kind ≡ true) → kind ≡ First) × ((goes_on kind ≡ false) → kind ≡ Complete)
first_kind Complete e = (λ on. absurd cc, λ off. refl)
first_kind First e = (λ on. refl, λ off. absurd cc)
first_kind Last e = absurd cc
first_kind Between e = absurd cc

-- the same where a record is begun
later_kind : (kind : SegmentKind) → begins_record kind ≡ false
    → ((goes_on kind ≡ true) → kind ≡ Between) × ((goes_on kind ≡ false) → kind ≡ Last)
later_kind Complete e = absurd cc
later_kind First e = absurd cc
later_kind Last e = (λ on. absurd cc, λ off. refl)
later_kind Between e = (λ on. refl, λ off. absurd cc)

-- the kinds of a begun group with one more
kinds_on : (kinds : List SegmentKind) → AreBegun kinds
    → (head : SegmentKind) (rest : List SegmentKind) → kinds ≡ head ∷ rest
    → AreBegun (head ∷ rest ++ Between ∷ []) × AreWhole (head ∷ rest ++ Last ∷ [])
kinds_on kinds nothing head rest is = absurd cc
kinds_on kinds (spanning middle between) head rest is =
    let starts : First ≡ head = cc in
    let same : middle ≡ rest = cc in
    let amid : All (λ kind. kind ≡ Between) rest =
    subst (λ ks. All (λ kind. kind ≡ Between) ks) same between in (
      subst (λ kind. AreBegun (kind ∷ rest ++ Between ∷ [])) starts
          (spanning (rest ++ Between ∷ [])
          (All-push (λ kind. kind ≡ Between) rest Between amid refl)),
      subst (λ kind. AreWhole (kind ∷ rest ++ Last ∷ [])) starts (spanned rest amid),
    )

-- a segment that passes the tests finds room
push_short : (segments : List (List ℕ)) (segment : List ℕ) → MayJoin (data_in segments) segment
    → length (joined (segments ++ segment ∷ [])) ≤ most_data
push_short segments segment may = omega (
  arith,
  ap length (flat_map-append data_of segments (segment ∷ [])),
  length-append (joined segments) (data_of segment ++ []),
  length-append (data_of segment) [],
  length-drop 4 segment,
  data_len_or segments,
  may.short,
)

-- The kinds of a group with one more segment: what has to be shown of them is shown of the kind of
-- the segment where it comes first, and of the kinds of a begun group with that kind where it comes
-- later.
kinds_push : (P : List SegmentKind → Type 0) (lone later : SegmentKind) → P (lone ∷ [])
    → ((head : SegmentKind) (rest : List SegmentKind) → AreBegun (head ∷ rest)
    → P (head ∷ rest ++ later ∷ []))
    → (segments : List (List ℕ)) (segment : List ℕ)
    → (not (begins_record (kind_of segment)) ≡ false → kind_of segment ≡ lone)
    → (begins_record (kind_of segment) ≡ false → kind_of segment ≡ later)
    → AreBegun (map kind_of segments) → MayJoin (data_in segments) segment
    → P (map kind_of (segments ++ segment ∷ []))
kinds_push P lone later one more [] segment is_lone is_later begun may =
    subst (λ k. P (k ∷ [])) (sym (is_lone may.joins)) one
kinds_push P lone later one more (first ∷ rest) segment is_lone is_later begun may =
    subst (λ ks. P (kind_of first ∷ ks)) (sym (map_push kind_of rest segment))
    (subst (λ k. P (kind_of first ∷ map kind_of rest ++ k ∷ [])) (sym (is_later may.begins))
    (more (kind_of first) (map kind_of rest) begun))

-- where the record continues, the group is still begun
pub group_goes_on : (segments : List (List ℕ)) (segment : List ℕ) → IsBegunGroup segments
    → MayJoin (data_in segments) segment
    → goes_on (kind_of segment) ≡ true → IsBegunGroup (segments ++ segment ∷ [])
group_goes_on segments segment begun may on = record {
  kinds = kinds_push AreBegun First Between (spanning [] (All-nil (λ k. k ≡ Between)))
      (λ head rest begun. (kinds_on (head ∷ rest) begun head rest refl).0) segments segment
      (λ first. (first_kind (kind_of segment) first).0 on)
      (λ later. (later_kind (kind_of segment) later).0 on) begun.kinds may;
  short = push_short segments segment may;
}

-- where it ends, the group is whole
pub group_ends : (segments : List (List ℕ)) (segment : List ℕ) → IsBegunGroup segments
    → MayJoin (data_in segments) segment
    → goes_on (kind_of segment) ≡ false → IsGroup (segments ++ segment ∷ [])
group_ends segments segment begun may off = record {
  kinds = kinds_push AreWhole Complete Last alone
      (λ head rest begun. (kinds_on (head ∷ rest) begun head rest refl).1) segments segment
      (λ first. (first_kind (kind_of segment) first).1 off)
      (λ later. (later_kind (kind_of segment) later).1 off) begun.kinds may;
  short = push_short segments segment may;
}
