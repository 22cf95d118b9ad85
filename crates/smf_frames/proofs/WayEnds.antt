-- Where ways end: none continues past the place where a reader stops, and of those at whose end no
-- record is begun one is the last.
use Rattle.std.proofs.Common.{◌≡◌, ℕ, ◌≤◌, Bool, true, false, cond, List, [], ◌∷◌, ◌++◌, length}
use Rattle.std.proofs.Common.{take, drop, refl, sym, ap, ◌∙◌, arith, subst, Option, Some, None, ◌⊎◌}
use Rattle.std.proofs.Common.{inl, inr}
use Rattle.smf_frames.specs.declared.dump.Layout.{Layout}
use Rattle.smf_frames.specs.declared.next.Next.{Next}
use Rattle.smf_frames.specs.declared.next.Next.TheVariants.{Stops, Block, Segment}
use Rattle.smf_frames.specs.Framed.{record_with}
use Rattle.smf_frames.specs.Segment.{kind_of, goes_on}
use Rattle.smf_frames.specs.Front.{Progress, joined_with, completed, begun_after, after_segment}
use Rattle.smf_frames.specs.Front.{after_block}
use Rattle.smf_frames.proofs.ReaderWays.{next_at, block_shortens, segment_shortens, Way, here, past_block}
use Rattle.smf_frames.proofs.ReaderWays.{past_segment}

-- what comes at the start of a text is one thing, of one length
same_block : (m n : ℕ) (next : Next) → next ≡ Block m → next ≡ Block n → m ≡ n
same_block m n next one other = cc

-- the same of a segment
same_segment : (m n : ℕ) (next : Next) → next ≡ Segment m → next ≡ Segment n → m ≡ n
same_segment m n next one other = cc

-- so two ways past a block's descriptor go on from one place,
on_past_block : {layout : Layout} (progress : Progress) (bytes : List ℕ) {end : Progress}
    {tail : List ℕ} {more : List (List ℕ)} (len n : ℕ)
    → next_at layout progress bytes ≡ Block len → next_at layout progress bytes ≡ Block n
    → Way layout (after_block progress n) (drop 4 bytes) more end tail
    → Way layout (after_block progress len) (drop 4 bytes) more end tail
on_past_block {layout} progress bytes {end} {tail} {more} len n is other way =
    subst (λ k. Way layout (after_block progress k) (drop 4 bytes) more end tail)
    (same_block n len (next_at layout progress bytes) other is) way

-- and so do two ways past a segment
on_past_segment : {layout : Layout} (progress : Progress) (bytes : List ℕ) {end : Progress}
    {tail : List ℕ} {more : List (List ℕ)} (len n : ℕ)
    → next_at layout progress bytes ≡ Segment len → next_at layout progress bytes ≡ Segment n
    → Way layout (after_segment progress (take n bytes)) (drop n bytes) more end tail
    → Way layout (after_segment progress (take len bytes)) (drop len bytes) more end tail
on_past_segment {layout} progress bytes {end} {tail} {more} len n is other way =
    subst (λ k. Way layout (after_segment progress (take k bytes)) (drop k bytes) more end tail)
    (same_segment n len (next_at layout progress bytes) other is) way

-- a way leaves no more of a text than there is
way_shortens : {layout : Layout} {progress last : Progress} {bytes rest : List ℕ}
    {records : List (List ℕ)}
    → Way layout progress bytes records last rest → length rest ≤ length bytes
way_shortens here = omega arith
way_shortens {layout} {progress} {bytes = bytes} (past_block len is way) =
    omega (arith, way_shortens way, block_shortens layout progress bytes len is)
way_shortens {layout} {progress} {bytes = bytes} (past_segment len is way) =
    omega (arith, way_shortens way, segment_shortens layout progress bytes len is)

-- no way continues past the place where a reader stops
pub no_way_on : {layout : Layout} {progress last end : Progress} {bytes rest tail : List ℕ}
    {records more : List (List ℕ)}
    → Way layout progress bytes records last rest → next_at layout last rest ≡ Stops
    → Way layout progress bytes more end tail → length rest ≤ length tail
no_way_on here stops here = omega arith
no_way_on here stops (past_block n other on) = absurd cc
no_way_on here stops (past_segment n other on) = absurd cc
no_way_on {layout} {progress} {bytes = bytes} (past_block len is way) stops here =
    omega (arith, way_shortens way, block_shortens layout progress bytes len is)
no_way_on {progress = progress} {bytes = bytes} (past_block len is way) stops
    (past_block n other on) =
    no_way_on way stops (on_past_block progress bytes len n is other on)
no_way_on (past_block len is way) stops (past_segment n other on) = absurd cc
no_way_on {layout} {progress} {bytes = bytes} (past_segment len is way) stops here =
    omega (arith, way_shortens way, segment_shortens layout progress bytes len is)
no_way_on (past_segment len is way) stops (past_block n other on) = absurd cc
no_way_on {progress = progress} {bytes = bytes} (past_segment len is way) stops
    (past_segment n other on) =
    no_way_on way stops (on_past_segment progress bytes len n is other on)

-- two ways that leave as much of a text are the same
pub same_way : {layout : Layout} {progress last end : Progress} {bytes rest tail : List ℕ}
    {records more : List (List ℕ)}
    → Way layout progress bytes records last rest → Way layout progress bytes more end tail
    → length rest ≡ length tail
    → (records ≡ more) × (last ≡ end) × (rest ≡ tail)
same_way here here same = (refl, refl, refl)
same_way {layout} {progress} {bytes = bytes} here (past_block n other on) same =
    absurd (omega (arith, way_shortens on, block_shortens layout progress bytes n other))
same_way {layout} {progress} {bytes = bytes} here (past_segment n other on) same =
    absurd (omega (arith, way_shortens on, segment_shortens layout progress bytes n other))
same_way {layout} {progress} {bytes = bytes} (past_block len is way) here same =
    absurd (omega (arith, way_shortens way, block_shortens layout progress bytes len is))
same_way {progress = progress} {bytes = bytes} (past_block len is way)
    (past_block n other on) same =
    same_way way (on_past_block progress bytes len n is other on) same
same_way (past_block len is way) (past_segment n other on) same = absurd cc
same_way {layout} {progress} {bytes = bytes} (past_segment len is way) here same =
    absurd (omega (arith, way_shortens way, segment_shortens layout progress bytes len is))
same_way (past_segment len is way) (past_block n other on) same = absurd cc
same_way {layout} {progress} {bytes = bytes} (past_segment len is way)
    (past_segment {records = more} n other on) same =
    let later = same_way way (on_past_segment progress bytes len n is other on) same in
    let length_is : n ≡ len = same_segment n len (next_at layout progress bytes) other is in
    let made = completed progress.begun (take len bytes) in (
      ap (λ records. made ++ records) later.0
          ∙ ap (λ k. completed progress.begun (take k bytes) ++ more)
          (sym length_is),
      later.1,
      later.2,
    )

-- no way leads to a place where no record is begun, and none is completed
pub record NeverWhole (layout : Layout) (progress : Progress) (bytes : List ℕ)
    (records : List (List ℕ)) : Type 0 where
  pub none : records ≡ []
  pub never : (more : List (List ℕ)) (end : Progress) (tail : List ℕ)
      → Way layout progress bytes more end tail → end.begun ≡ None → ⊥

-- the last place on the ways at which no record is begun; by then these records are completed
pub record LastWhole (layout : Layout) (progress : Progress) (bytes : List ℕ)
    (records : List (List ℕ)) : Type 0 where
  pub last : Progress
  pub rest : List ℕ
  pub way : Way layout progress bytes records last rest
  pub whole : last.begun ≡ None
  pub latest : (more : List (List ℕ)) (end : Progress) (tail : List ℕ)
      → Way layout progress bytes more end tail
      → end.begun ≡ None → length rest ≤ length tail

-- the ways from a place lead to a last such place, or to none
abbrev pub Whole : Layout → Progress → List ℕ → List (List ℕ) → Type 0
Whole layout progress bytes records =
    NeverWhole layout progress bytes records ⊎ LastWhole layout progress bytes records

-- no record is begun, or one is
cases_begun : (begun : Option (List ℕ))
    → (begun ≡ None) ⊎ ((joined : List ℕ) × (begun ≡ Some joined))
cases_begun None = inl refl
cases_begun (Some joined) = inr (joined, refl)

-- a segment after which a record is begun completes none
completes_none : (begun : Option (List ℕ)) (segment : List ℕ)
    → (begun_after begun segment ≡ None → ⊥) → completed begun segment ≡ []
completes_none begun segment never = by_kind (goes_on (kind_of segment)) never
  where
    by_kind : (goes : Bool) → (cond goes (Some (joined_with begun segment)) None ≡ None → ⊥)
        → cond goes [] (record_with (joined_with begun segment) ∷ []) ≡ []
    by_kind true never = refl
    by_kind false never = absurd (never refl)

-- where a reader stops
whole_here : (layout : Layout) (progress : Progress) (bytes : List ℕ)
    → next_at layout progress bytes ≡ Stops
    → Whole layout progress bytes []
whole_here layout progress bytes stops = elim (cases_begun progress.begun) [
  | inl none ↦ inr (record {
    last = progress;
    rest = bytes;
    way = here;
    whole = none;
    latest = λ more end tail way whole. no_way_on here stops way;
  })
  | inr begun ↦ inl
      (record {
        none = refl;
        never = λ more end tail way whole. never more end tail way whole
            begun.0 begun.1;
      })
]
  where
    never : (more : List (List ℕ)) (end : Progress) (tail : List ℕ)
        → Way layout progress bytes more end tail → end.begun ≡ None
        → (joined : List ℕ) → progress.begun ≡ Some joined → ⊥
    never more end tail here whole joined begun = absurd cc
    never more end tail (past_block n other on) whole joined begun = absurd cc
    never more end tail (past_segment n other on) whole joined begun = absurd cc

-- each way from one place ends there, or continues from the next
abbrev GoesOn : Layout → Progress → List ℕ → Progress → List ℕ → Type 0
GoesOn layout progress bytes next behind =
    (more : List (List ℕ)) (end : Progress) (tail : List ℕ)
    → Way layout progress bytes more end tail
    → ((end ≡ progress) × (tail ≡ bytes))
    ⊎ ((further : List (List ℕ)) × Way layout next behind further end tail)

-- a step of a reader from one place to the next, on which these records are completed
record Past (layout : Layout) (progress : Progress) (bytes : List ℕ) (next : Progress)
    (behind : List ℕ) (made : List (List ℕ)) : Type 0 where
  shortens : length behind ≤ length bytes
  over : (records : List (List ℕ)) (last : Progress) (rest : List ℕ)
      → Way layout next behind records last rest
      → Way layout progress bytes (made ++ records) last rest
  on : GoesOn layout progress bytes next behind

-- the step past the descriptor of a block
block_passed : {layout : Layout} (progress : Progress) (bytes : List ℕ) (len : ℕ)
    → next_at layout progress bytes ≡ Block len
    → Past layout progress bytes (after_block progress len) (drop 4 bytes) []
block_passed {layout} progress bytes len is = record {
  shortens = omega (arith, block_shortens layout progress bytes len is);
  over = λ records last rest way. past_block len is way;
  on = on;
}
  where
    on : GoesOn layout progress bytes (after_block progress len) (drop 4 bytes)
    on more end tail here = inl (refl, refl)
    on more end tail (past_block n other way) =
        inr (more, on_past_block progress bytes len n is other way)
    on more end tail (past_segment n other way) = absurd cc

-- the step past a segment
segment_passed : {layout : Layout} (progress : Progress) (bytes : List ℕ) (len : ℕ)
    → next_at layout progress bytes ≡ Segment len
    → Past layout progress bytes (after_segment progress (take len bytes)) (drop len bytes)
    (completed progress.begun (take len bytes))
segment_passed {layout} progress bytes len is = record {
  shortens = omega (arith, segment_shortens layout progress bytes len is);
  over = λ records last rest way. past_segment len is way;
  on = on;
}
  where
    on : GoesOn layout progress bytes (after_segment progress (take len bytes)) (drop len bytes)
    on more end tail here = inl (refl, refl)
    on more end tail (past_block n other way) = absurd cc
    on more end tail (past_segment {records = further} n other way) =
        inr (further, on_past_segment progress bytes len n is other way)

-- Past such a step: where the ways lead to a last such place, that is the last one; where they lead
-- to none, and none is completed, it is here if no record is begun.
whole_past : {layout : Layout} {progress next : Progress} {bytes behind : List ℕ}
    {made records : List (List ℕ)} → Past layout progress bytes next behind made
    → (NeverWhole layout next behind records → made ≡ [])
    → Whole layout next behind records → Whole layout progress bytes (made ++ records)
whole_past past makes_none (inr found) = inr (record {
  last = found.last;
  rest = found.rest;
  way = past.over _ _ _ found.way;
  whole = found.whole;
  latest = λ more end tail way whole. elim (past.on more end tail way) [
    | inl stays ↦ omega (arith, way_shortens found.way, past.shortens, ap length stays.1)
    | inr goes ↦ found.latest goes.0 end tail goes.1 whole
  ];
})
whole_past {layout} {progress} {bytes = bytes} {records = records} past makes_none (inl never) =
    let none = ap (λ all. all ++ records) (makes_none never) ∙ never.none in
    elim (cases_begun progress.begun) [
      | inl whole ↦ inr (record {
        last = progress;
        rest = bytes;
        way = subst (λ all. Way layout progress bytes all progress bytes) (sym none) here;
        whole = whole;
        latest = λ more end tail way whole. elim (past.on more end tail way) [
          | inl stays ↦ omega (arith, ap length stays.1)
          | inr goes ↦ absurd (never.never goes.0 end tail goes.1 whole)
        ];
      })
      | inr begun ↦ inl (record {
        none = none;
        never = λ more end tail way whole. elim (past.on more end tail way) [
          | inl stays ↦
              let is = sym begun.1 ∙ ap (λ (p : Progress). p.begun) (sym stays.0) ∙ whole in
              absurd cc
          | inr goes ↦ never.never goes.0 end tail goes.1 whole
        ];
      })
    ]

-- along a way to where a reader stops
whole_on : {layout : Layout} {progress last : Progress} {bytes rest : List ℕ}
    {records : List (List ℕ)}
    → Way layout progress bytes records last rest → next_at layout last rest ≡ Stops
    → Whole layout progress bytes records
whole_on {layout} {progress} {bytes = bytes} here stops = whole_here layout progress bytes stops
whole_on {progress = progress} {bytes = bytes} (past_block len is way) stops =
    whole_past (block_passed progress bytes len is) (λ never. refl) (whole_on way stops)
whole_on {progress = progress} {bytes = bytes} (past_segment len is way) stops =
    whole_past (segment_passed progress bytes len is)
    (λ never. completes_none progress.begun (take len bytes)
    (never.never [] (after_segment progress (take len bytes)) (drop len bytes) here))
    (whole_on way stops)

-- From a place where no record is begun the ways lead to a last such place, and the records that
-- are completed by then are all that ever are.
pub last_whole : {layout : Layout} {progress last : Progress} {bytes rest : List ℕ}
    {records : List (List ℕ)}
    → Way layout progress bytes records last rest → next_at layout last rest ≡ Stops
    → progress.begun ≡ None
    → LastWhole layout progress bytes records
last_whole {progress = progress} {bytes = bytes} way stops whole = elim (whole_on way stops) [
  | inl none ↦ absurd (none.never [] progress bytes here whole)
  | inr found ↦ found
]
