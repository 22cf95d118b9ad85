-- The way of a reader through a text, step by step.
use Rattle.std.proofs.Common.{◌≡◌, ℕ, zero, suc, ◌+◌, ◌≤◌, ◌<◌, List, [], ◌++◌, length, take, drop}
use Rattle.std.proofs.Common.{refl, sym, ap, ◌∙◌, arith, subst, length-drop, append_assoc, Option}
use Rattle.smf_frames.specs.declared.dump.Layout.{Layout}
use Rattle.smf_frames.specs.declared.next.Next.{Next}
use Rattle.smf_frames.specs.declared.next.Next.TheVariants.{Stops, Block, Segment}
use Rattle.smf_frames.specs.Front.{Front, Progress, next_of, data_len, prepend, stopped, front_at}
use Rattle.smf_frames.specs.Front.{front_within, front_from, completed, after_segment, after_block}
use Rattle.smf_frames.proofs.Steps.{takes_segment, takes_block}

-- a reader that is in the middle of these
abbrev pub progress_at : Option ℕ → Option (List ℕ) → Progress
progress_at left begun = record { begun = begun; left = left }

-- what a reader finds at the start of a text
abbrev pub next_at : Layout → Progress → List ℕ → Next
next_at layout progress bytes = next_of layout (data_len progress.begun) progress.left bytes

-- the front after records is the front after the first of them, after the others
pub prepend-append : (records later : List (List ℕ)) (front : Front)
    → prepend (records ++ later) front ≡ prepend records (prepend later front)
prepend-append records later front = λ i. record {
  records = append_assoc records later front.records i;
  fault = front.fault;
  is_broken = front.is_broken;
}

-- a step leaves less of a text
pub block_shortens : (layout : Layout) (progress : Progress) (bytes : List ℕ) (len : ℕ)
    → next_at layout progress bytes ≡ Block len
    → length (drop 4 bytes) + 4 ≤ length bytes
block_shortens layout progress bytes len is =
    let takes = takes_block layout (data_len progress.begun) progress.left bytes len is in
    omega (arith, length-drop 4 bytes, takes.four)

-- so does a segment
pub segment_shortens : (layout : Layout) (progress : Progress) (bytes : List ℕ) (len : ℕ)
    → next_at layout progress bytes ≡ Segment len
    → length (drop len bytes) + 4 ≤ length bytes
segment_shortens layout progress bytes len is =
    let takes = takes_segment layout (data_len progress.begun) progress.left bytes len is in
    omega (arith, length-drop len bytes, takes.long, takes.there)

-- two fronts are one at a step, if they are one on every shorter text
at_agrees : (layout : Layout) (f g : Progress → List ℕ → Front) (progress : Progress)
    (bytes : List ℕ) (next : Next)
    → next_at layout progress bytes ≡ next
    → ((p : Progress) (rest : List ℕ) → length rest + 4 ≤ length bytes → f p rest ≡ g p rest)
    → front_at layout f progress bytes next ≡ front_at layout g progress bytes next
at_agrees layout f g progress bytes Stops is agree = refl
at_agrees layout f g progress bytes (Block len) is agree =
    agree _ _ (block_shortens layout progress bytes len is)
at_agrees layout f g progress bytes (Segment len) is agree =
    ap (prepend (completed progress.begun (take len bytes)))
    (agree _ _ (segment_shortens layout progress bytes len is))

-- any number of steps above the length of the text is enough
steps_enough : (m n : ℕ) (layout : Layout) (progress : Progress) (bytes : List ℕ) → length bytes < m
    → length bytes < n
    → front_within m layout progress bytes ≡ front_within n layout progress bytes
unfolding front_within
steps_enough zero n layout progress bytes below_m below_n = absurd (omega arith)
steps_enough (suc m) zero layout progress bytes below_m below_n = absurd (omega arith)
steps_enough (suc m) (suc n) layout progress bytes below_m below_n =
    at_agrees layout (front_within m layout) (front_within n layout) progress bytes
    (next_at layout progress bytes) refl
    (λ p rest shorter. steps_enough m n layout p rest (omega arith) (omega arith))

-- the front of a text is what comes at its start, and then the front of what follows
front_step : (layout : Layout) (progress : Progress) (bytes : List ℕ)
    → front_from layout progress bytes ≡ front_at layout (front_from layout) progress bytes
    (next_at layout progress bytes)
unfolding front_from front_within
front_step layout progress bytes =
    at_agrees layout (front_within (length bytes) layout) (front_from layout) progress bytes
    (next_at layout progress bytes) refl
    (λ p rest shorter. steps_enough (length bytes) (suc (length rest)) layout p rest (omega arith)
    (omega arith))

-- the front where a reader stops
pub front_stops : (layout : Layout) (progress : Progress) (bytes : List ℕ)
    → next_at layout progress bytes ≡ Stops
    → front_from layout progress bytes ≡ stopped layout progress bytes
front_stops layout progress bytes is =
    front_step layout progress bytes ∙ ap (front_at layout (front_from layout) progress bytes) is

-- the front at the descriptor of a block
pub front_block : (layout : Layout) (progress : Progress) (bytes : List ℕ) (len : ℕ)
    → next_at layout progress bytes ≡ Block len
    → front_from layout progress bytes ≡ front_from layout (after_block progress len) (drop 4 bytes)
front_block layout progress bytes len is =
    front_step layout progress bytes ∙ ap (front_at layout (front_from layout) progress bytes) is

-- the front at a segment
pub front_segment : (layout : Layout) (progress : Progress) (bytes : List ℕ) (len : ℕ)
    → next_at layout progress bytes ≡ Segment len
    → front_from layout progress bytes
    ≡ prepend (completed progress.begun (take len bytes))
    (front_from layout (after_segment progress (take len bytes)) (drop len bytes))
front_segment layout progress bytes len is =
    front_step layout progress bytes ∙ ap (front_at layout (front_from layout) progress bytes) is

-- A reader gets from a place in a text, where it is in the middle of something, to a later
-- place, and these records are completed on its way.
pub data Way (layout : Layout) : Progress → List ℕ → List (List ℕ) → Progress → List ℕ
    → Type 0 where
  here : {progress : Progress} {bytes : List ℕ} → Way layout progress bytes [] progress bytes
  past_block : {progress last : Progress} {bytes rest : List ℕ} {records : List (List ℕ)} (len : ℕ)
      → next_at layout progress bytes ≡ Block len
      → Way layout (after_block progress len) (drop 4 bytes) records last rest
      → Way layout progress bytes records last rest
  past_segment : {progress last : Progress} {bytes rest : List ℕ} {records : List (List ℕ)}
      (len : ℕ)
      → next_at layout progress bytes ≡ Segment len
      → Way layout (after_segment progress (take len bytes)) (drop len bytes) records last rest
      → Way layout progress bytes (completed progress.begun (take len bytes) ++ records) last rest

-- the same way, between places that are the same
pub way_same : {layout : Layout} {progress last last' : Progress} {bytes bytes' rest : List ℕ}
    {records records' : List (List ℕ)}
    → bytes ≡ bytes' → records ≡ records' → last ≡ last'
    → Way layout progress bytes records last rest → Way layout progress bytes' records' last' rest
way_same {layout} {progress} {last} {last'} {bytes} {bytes'} {rest} {records}
    {records'} same_bytes same_records same_last way =
    subst (λ b. Way layout progress b records' last' rest) same_bytes
    (subst (λ r. Way layout progress bytes r last' rest) same_records
    (subst (λ p. Way layout progress bytes records p rest) same_last way))

-- two ways, one after the other
pub way-append : {layout : Layout} {first middle last : Progress} {bytes between rest : List ℕ}
    {records later : List (List ℕ)}
    → Way layout first bytes records middle between → Way layout middle between later last rest
    → Way layout first bytes (records ++ later) last rest
way-append here on = on
way-append (past_block len is way) on = past_block len is (way-append way on)
way-append {first = first} {bytes = bytes} {later = later}
    (past_segment {records = records} len is way) on =
    way_same refl (sym (append_assoc (completed first.begun (take len bytes)) records later)) refl
    (past_segment len is (way-append way on))

-- the front at the start of a way is the records on it, and then the front at its end
pub front_way : {layout : Layout} {progress last : Progress} {bytes rest : List ℕ}
    {records : List (List ℕ)}
    → Way layout progress bytes records last rest
    → front_from layout progress bytes ≡ prepend records (front_from layout last rest)
front_way here = refl
front_way {layout} {progress} {bytes = bytes} (past_block len is way) =
    front_block layout progress bytes len is ∙ front_way way
front_way {layout} {progress} {last} {bytes} {rest} (past_segment {records = records} len is way) =
    let first : List (List ℕ) = completed progress.begun (take len bytes) in
    front_segment layout progress bytes len is ∙ ap (prepend first) (front_way way)
    ∙ sym (prepend-append first records (front_from layout last rest))

-- a way to where a reader stops
pub record Leads (layout : Layout) (progress : Progress) (bytes : List ℕ) : Type 0 where
  pub records : List (List ℕ)
  pub last : Progress
  pub rest : List ℕ
  pub way : Way layout progress bytes records last rest
  pub stops : next_at layout last rest ≡ Stops

-- from a place where this holds, if it holds from the place in every shorter text
leads_at : (layout : Layout) (progress : Progress) (bytes : List ℕ) (next : Next)
    → next_at layout progress bytes ≡ next
    → ((p : Progress) (rest : List ℕ) → length rest + 4 ≤ length bytes → Leads layout p rest)
    → Leads layout progress bytes
leads_at layout progress bytes Stops is on = record
    { records = []; last = progress; rest = bytes; way = here; stops = is }
leads_at layout progress bytes (Block len) is on =
    let later = on (after_block progress len) (drop 4 bytes)
    (block_shortens layout progress bytes len is) in
    record {
      records = later.records;
      last = later.last;
      rest = later.rest;
      way = past_block len is
          later.way;
      stops = later.stops;
    }
leads_at layout progress bytes (Segment len) is on =
    let later = on (after_segment progress (take len bytes)) (drop len bytes)
    (segment_shortens layout progress bytes len is) in
    record {
      records = completed progress.begun (take len bytes) ++ later.records;
      last = later.last;
      rest = later.rest;
      way = past_segment len is later.way;
      stops = later.stops;
    }

-- from a text shorter than n
leads_within : (n : ℕ) (layout : Layout) (progress : Progress) (bytes : List ℕ) → length bytes < n
    → Leads layout progress bytes
leads_within zero layout progress bytes below = absurd (omega arith)
leads_within (suc n) layout progress bytes below =
    leads_at layout progress bytes (next_at layout progress bytes) refl
    (λ p rest shorter. leads_within n layout p rest (omega arith))

-- every text has a way to where a reader stops
pub leads : (layout : Layout) (progress : Progress) (bytes : List ℕ) → Leads layout progress bytes
leads layout progress bytes = leads_within (suc (length bytes)) layout progress bytes (omega arith)
