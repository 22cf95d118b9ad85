-- How segments join to records as a reader takes them one after another: whole groups and a begun
-- one are what its tests let pass.
use Rattle.std.proofs.Common.{◌≡◌, ℕ, ◌+◌, ◌-◌, ◌≤◌, true, false, not, ◌&&◌, List, [], ◌∷◌, ◌++◌}
use Rattle.std.proofs.Common.{length, map, refl, sym, ap, ◌∙◌, arith, subst, length-drop}
use Rattle.std.proofs.Common.{length-append, append_assoc, append-nil, Option, Some, None}
use Rattle.std.specs.Prelude.{is_some, is_none, unwrap_or, All}
use Rattle.std.specs.List.{flat_map}
use Rattle.std.proofs.lemmas.Bool.{cond-true, cond-false}
use Rattle.std.proofs.lemmas.List.Elements.{All-head, All-tail}
use Rattle.smf_frames.specs.declared.descriptor.SegmentKind.{SegmentKind}
use Rattle.smf_frames.specs.declared.descriptor.SegmentKind.TheVariants.{Complete, First, Last}
use Rattle.smf_frames.specs.declared.descriptor.SegmentKind.TheVariants.{Between}
use Rattle.smf_frames.specs.Framed.{most_data, data_of, record_with}
use Rattle.smf_frames.specs.Segment.{kind_of, begins_record, goes_on}
use Rattle.smf_frames.specs.Group.{AreWhole, alone, spanned, AreBegun, nothing, spanning, joined}
use Rattle.smf_frames.specs.Group.{IsGroup, IsBegunGroup, group_record}
use Rattle.smf_frames.specs.Front.{data_len, joined_with, completed, begun_after}

-- a segment with a kind and a length that no test rejects
pub record MayJoin (begun : Option (List ℕ)) (segment : List ℕ) : Type 0 where
  pub joins : (is_none (data_len begun) && not (begins_record (kind_of segment))) ≡ false
  pub begins : (is_some (data_len begun) && begins_record (kind_of segment)) ≡ false
  pub short : unwrap_or (data_len begun) 0 + (length segment - 4) ≤ most_data

-- the same of segments one after another
abbrev pub AllJoin : Option (List ℕ) → List (List ℕ) → Type 0
AllJoin begun [] = Unit {0}
AllJoin begun (segment ∷ segments) =
    MayJoin begun segment × AllJoin (begun_after begun segment) segments

-- the records that segments complete
abbrev pub records_along : Option (List ℕ) → List (List ℕ) → List (List ℕ)
records_along begun [] = []
records_along begun (segment ∷ segments) =
    completed begun segment ++ records_along (begun_after begun segment) segments

-- the data of the record that is begun after segments
abbrev pub begun_along : Option (List ℕ) → List (List ℕ) → Option (List ℕ)
begun_along begun [] = begun
begun_along begun (segment ∷ segments) = begun_along (begun_after begun segment) segments

-- the data of a group that is begun
abbrev pub data_in : List (List ℕ) → Option (List ℕ)
data_in [] = None
data_in (segment ∷ segments) = Some (joined (segment ∷ segments))

-- the tests pass segments that come after others
pub join_apart : (begun : Option (List ℕ)) (segments later : List (List ℕ))
    → AllJoin begun (segments ++ later)
    → AllJoin begun segments × AllJoin (begun_along begun segments) later
join_apart begun [] later join = (tt, join)
join_apart begun (segment ∷ segments) later join =
    let rest =
    join_apart (begun_after begun segment) segments later join.1 in ((join.0, rest.0), rest.1)

-- the records of segments, and of those after them
pub records_along-append : (begun : Option (List ℕ)) (segments later : List (List ℕ))
    → records_along begun (segments ++ later) ≡ records_along begun segments ++ records_along
    (begun_along begun segments) later
records_along-append begun [] later = refl
records_along-append begun (segment ∷ segments) later =
    ap (λ records. completed begun segment ++ records)
    (records_along-append (begun_after begun segment) segments later)
    ∙ sym (append_assoc (completed begun segment)
    (records_along (begun_after begun segment) segments) _)

-- what is begun after all of them
pub begun_along-append : (begun : Option (List ℕ)) (segments later : List (List ℕ))
    → begun_along begun (segments ++ later) ≡ begun_along (begun_along begun segments) later
begun_along-append begun [] later = refl
begun_along-append begun (segment ∷ segments) later =
    begun_along-append (begun_after begun segment) segments later

-- The first of these segments join to these records, and what is left of them is `later`.
pub record JoinsTo (begun : Option (List ℕ)) (segments : List (List ℕ)) (records : List (List ℕ))
    (after : Option (List ℕ)) (later : List (List ℕ)) : Type 0 where
  pub join : AllJoin after later → AllJoin begun segments
  pub made : records_along begun segments ≡ records ++ records_along after later
  pub left : begun_along begun segments ≡ begun_along after later

-- a segment that continues a record, or begins one
goes : (begun : Option (List ℕ)) (segment : List ℕ) → goes_on (kind_of segment) ≡ true
    → (begun_after begun segment ≡ Some (joined_with begun segment))
    × (completed begun segment ≡ [])
goes begun segment on =
    (cond-true (goes_on (kind_of segment)) _ _ on, cond-true (goes_on (kind_of segment)) _ _ on)

-- a segment that ends a record
ends : (begun : Option (List ℕ)) (segment : List ℕ) → goes_on (kind_of segment) ≡ false
    → (begun_after begun segment ≡ None)
    × (completed begun segment ≡ record_with (joined_with begun segment) ∷ [])
ends begun segment off =
    (cond-false (goes_on (kind_of segment)) _ _ off, cond-false (goes_on (kind_of segment)) _ _ off)

-- segments, the first of which continues a record, or begins one
joins_on : (begun : Option (List ℕ)) (segment : List ℕ) (segments records later : List (List ℕ))
    (after : Option (List ℕ)) → MayJoin begun segment
    → goes_on (kind_of segment) ≡ true
    → JoinsTo (Some (joined_with begun segment)) segments records after later
    → JoinsTo begun (segment ∷ segments) records after later
joins_on begun segment segments records later after may on rest =
    let is = goes begun segment on in record {
      join = λ all. (may, subst (λ b. AllJoin b segments) (sym is.0) (rest.join all));
      made = ap (λ made. made ++ records_along (begun_after begun segment) segments) is.1
          ∙ ap (λ b. records_along b segments) is.0 ∙ rest.made;
      left = ap (λ b. begun_along b segments) is.0 ∙ rest.left;
    }

-- segments, the first of which ends a record
joins_end : (begun : Option (List ℕ)) (segment : List ℕ) (later : List (List ℕ))
    → MayJoin begun segment → goes_on (kind_of segment) ≡ false
    → JoinsTo begun (segment ∷ later) (record_with (joined_with begun segment) ∷ []) None later
joins_end begun segment later may off =
    let is = ends begun segment off in record {
      join = λ all. (may, subst (λ b. AllJoin b later) (sym is.0) all);
      made = ap (λ made. made ++ records_along (begun_after begun segment) later) is.1
          ∙ ap (λ b. record_with (joined_with begun segment) ∷ records_along b later) is.0;
      left = ap (λ b. begun_along b later) is.0;
    }

-- a segment that may come first
first_may : (segment : List ℕ) → begins_record (kind_of segment) ≡ true
    → length (data_of segment) ≤ most_data → MayJoin None segment
first_may segment begins short = record {
  joins = ap not begins;
  begins = refl;
  short = omega (arith, length-drop 4 segment);
}

-- one that may come later
later_may : (begun segment : List ℕ) → begins_record (kind_of segment) ≡ false
    → length begun + length (data_of segment) ≤ most_data → MayJoin (Some begun) segment
later_may begun segment begins short = record {
  joins = refl;
  begins = begins;
  short = omega (arith, length-drop 4 segment);
}

-- where there is room for segments, there is room for the first, and after it for the others
short_apart : (begun segment : List ℕ) (segments : List (List ℕ))
    → length begun + length (joined (segment ∷ segments)) ≤ most_data
    → (length begun + length (data_of segment) ≤ most_data)
    × (length (begun ++ data_of segment) + length (joined segments) ≤ most_data)
short_apart begun segment segments short =
    let total = length-append (data_of segment) (joined segments) in
    let total_begun = length-append begun (data_of segment) in (omega arith, omega arith)

-- segments, the first of which is neither the first nor the last of its group
between_joins : (begun segment : List ℕ) {segments records later : List (List ℕ)}
    {after : Option (List ℕ)} → kind_of segment ≡ Between
    → length begun + length (data_of segment) ≤ most_data
    → JoinsTo (Some (begun ++ data_of segment)) segments records after later
    → JoinsTo (Some begun) (segment ∷ segments) records after later
between_joins begun segment {segments} {records} {later} {after} amid short rest =
    let may = later_may begun segment (ap begins_record amid) short in
    joins_on (Some begun) segment segments records later after may (ap goes_on amid) rest

-- the end of a spanned group
rest_joins : (middle : List SegmentKind) (begun : List ℕ) (segments later : List (List ℕ))
    → All (λ kind. kind ≡ Between) middle
    → map kind_of segments ≡ middle ++ Last ∷ []
    → length begun + length (joined segments) ≤ most_data
    → JoinsTo (Some begun) (segments ++ later)
    (record_with (begun ++ joined segments) ∷ []) None later
rest_joins middle begun [] later between kinds short = absurd (no_kinds middle kinds)
  where
    no_kinds : (middle : List SegmentKind) → [] ≡ middle ++ Last ∷ [] → ⊥
    no_kinds [] e = cc
    no_kinds (kind ∷ middle) e = cc
rest_joins [] begun (segment ∷ []) later between kinds short =
    let last : kind_of segment ≡ Last = cc in
    let may = later_may begun segment (ap begins_record last)
    (omega (arith, length-append (data_of segment) [])) in
    subst (λ d. JoinsTo (Some begun) (segment ∷ later) (record_with (begun ++ d) ∷ []) None later)
    (sym (append-nil (data_of segment)))
    (joins_end (Some begun) segment later may (ap goes_on last))
rest_joins [] begun (segment ∷ next ∷ segments) later between kinds short = absurd cc
rest_joins (kind ∷ middle) begun (segment ∷ segments) later between kinds short =
    let is : kind_of segment ≡ kind = cc in
    let more : map kind_of segments ≡ middle ++ Last ∷ [] = cc in
    let amid : kind_of segment ≡ Between = is ∙ All-head (λ k. k ≡ Between) kind middle between in
    let fit = short_apart begun segment segments short in
    subst (λ d. JoinsTo (Some begun) (segment ∷ (segments ++ later))
    (record_with d ∷ []) None later) (append_assoc begun (data_of segment) (joined segments))
    (between_joins begun segment amid fit.0
    (rest_joins middle (begun ++ data_of segment) segments later
    (All-tail (λ k. k ≡ Between) kind middle between) more fit.1))

-- the segments after the first of a group that is begun
begun_joins : (middle : List SegmentKind) (begun : List ℕ) (segments : List (List ℕ))
    → All (λ kind. kind ≡ Between) middle
    → map kind_of segments ≡ middle → length begun + length (joined segments) ≤ most_data
    → JoinsTo (Some begun) segments [] (Some (begun ++ joined segments)) []
begun_joins middle begun [] between kinds short =
    subst (λ d. JoinsTo (Some begun) [] [] (Some d) []) (sym (append-nil begun))
    (record { join = λ all. all; made = refl; left = refl })
begun_joins [] begun (segment ∷ segments) between kinds short = absurd cc
begun_joins (kind ∷ middle) begun (segment ∷ segments) between kinds short =
    let is : kind_of segment ≡ kind = cc in
    let more : map kind_of segments ≡ middle = cc in
    let amid : kind_of segment ≡ Between = is ∙ All-head (λ k. k ≡ Between) kind middle between in
    let fit = short_apart begun segment segments short in
    subst (λ d. JoinsTo (Some begun) (segment ∷ segments) [] (Some d) [])
    (append_assoc begun (data_of segment) (joined segments))
    (between_joins begun segment amid fit.0
    (begun_joins middle (begun ++ data_of segment) segments
    (All-tail (λ k. k ≡ Between) kind middle between) more fit.1))

-- a group joins to its record
group_joins : (kinds : List SegmentKind) (segments later : List (List ℕ)) → AreWhole kinds
    → map kind_of segments ≡ kinds
    → length (joined segments) ≤ most_data
    → JoinsTo None (segments ++ later) (group_record segments ∷ []) None later
group_joins kinds [] later alone is short = absurd cc
group_joins kinds (segment ∷ []) later alone is short =
    let complete : kind_of segment ≡ Complete = cc in
    let may = first_may segment (ap begins_record complete)
    (omega (arith, length-append (data_of segment) [])) in
    subst (λ d. JoinsTo None (segment ∷ later) (record_with d ∷ []) None later)
    (sym (append-nil (data_of segment)))
    (joins_end None segment later may (ap goes_on complete))
group_joins kinds (segment ∷ next ∷ segments) later alone is short = absurd cc
group_joins kinds [] later (spanned middle between) is short = absurd cc
group_joins kinds (segment ∷ segments) later (spanned middle between) is short =
    let first : kind_of segment ≡ First = cc in
    let rest : map kind_of segments ≡ middle ++ Last ∷ [] = cc in
    let total = length-append (data_of segment) (joined segments) in
    let may = first_may segment (ap begins_record first) (omega arith) in
    joins_on None segment (segments ++ later) _ later None may (ap goes_on first)
    (rest_joins middle (data_of segment) segments later between rest (omega arith))

-- a begun group joins to what is begun
begun_group_joins : (kinds : List SegmentKind) (segments : List (List ℕ)) → AreBegun kinds
    → map kind_of segments ≡ kinds
    → length (joined segments) ≤ most_data → JoinsTo None segments [] (data_in segments) []
begun_group_joins kinds [] begun is short = record { join = λ all. all; made = refl; left = refl }
begun_group_joins kinds (segment ∷ segments) nothing is short = absurd cc
begun_group_joins kinds (segment ∷ segments) (spanning middle between) is short =
    let first : kind_of segment ≡ First = cc in
    let rest : map kind_of segments ≡ middle = cc in
    let total = length-append (data_of segment) (joined segments) in
    let may = first_may segment (ap begins_record first) (omega arith) in
    joins_on None segment segments [] [] _ may (ap goes_on first)
    (begun_joins middle (data_of segment) segments between rest (omega arith))

-- whole groups and a begun one pass the tests, and join to their records and to what is begun
pub groups_join : (groups : List (List (List ℕ))) (begun : List (List ℕ)) → All IsGroup groups
    → IsBegunGroup begun
    → JoinsTo None (flat_map (λ group. group) groups ++ begun) (map group_record groups)
    (data_in begun) []
groups_join [] begun whole begins =
    begun_group_joins (map kind_of begun) begun begins.kinds refl begins.short
groups_join (group ∷ groups) begun whole begins =
    let here = All-head IsGroup group groups whole in
    let rest = groups_join groups begun (All-tail IsGroup group groups whole) begins in
    let this = group_joins (map kind_of group) group
    (flat_map (λ g. g) groups ++ begun) here.kinds refl here.short in
    subst (λ segments. JoinsTo None segments (map group_record (group ∷ groups)) (data_in begun) [])
    (sym (append_assoc group (flat_map (λ g. g) groups) begun))
    (record {
      join = λ all. this.join (rest.join all);
      made = this.made ∙ ap (λ made. group_record group ∷ made) rest.made;
      left = this.left ∙ rest.left;
    })
