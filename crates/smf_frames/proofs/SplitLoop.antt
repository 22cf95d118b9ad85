-- What a loop over a dump keeps: the records so far, and then the front of the rest, are the front
-- of the dump.
use Rattle.std.proofs.Common.{◌≡◌, ℕ, ◌+◌, ◌-◌, ◌≤◌, Bool, true, false, cond, List, [], ◌++◌}
use Rattle.std.proofs.Common.{length, take, drop, refl, sym, ap, ◌∙◌, arith, length-drop}
use Rattle.std.proofs.Common.{length-append, append-nil, Option, Some, None}
use Rattle.std.specs.Prelude.{is_some, unwrap_or}
use Rattle.std.proofs.lemmas.List.{length-take-le}
use Rattle.smf_frames.specs.declared.dump.Layout.{Layout}
use Rattle.smf_frames.specs.declared.next.Next.{Next}
use Rattle.smf_frames.specs.declared.next.Next.TheVariants.{Stops, Block, Segment}
use Rattle.smf_frames.specs.Framed.{most_data}
use Rattle.smf_frames.specs.Segment.{kind_of, goes_on}
use Rattle.smf_frames.specs.Faults.{descriptor_fault, fault_at}
use Rattle.smf_frames.specs.Front.{Front, next_of, data_len, prepend, front_from, joined_with}
use Rattle.smf_frames.specs.Front.{completed, begun_after, left_of_block, left_after}
use Rattle.smf_frames.proofs.ReaderWays.{progress_at, next_at, prepend-append, front_stops, front_block}
use Rattle.smf_frames.proofs.ReaderWays.{front_segment}

-- the records so far, and then the front of the rest, are this front
abbrev pub FrontSoFar : Layout → List (List ℕ) → Option (List ℕ) → Option ℕ → List ℕ → Front
    → Type 0
FrontSoFar layout records begun left rest whole =
    prepend records (front_from layout (progress_at left begun) rest) ≡ whole

module _ (layout : Layout) (records : List (List ℕ)) (begun : Option (List ℕ)) (len left : Option ℕ)
    (rest : List ℕ) (whole : Front) (len_is : len ≡ data_len begun)
    (so_far : FrontSoFar layout records begun left rest whole) where
  -- what comes at the reader's place
  here : (next : Next) → next ≡ next_of layout len left rest
      → next_at layout (progress_at left begun) rest ≡ next
  here next is = ap (λ l. next_of layout l left rest) (sym len_is) ∙ sym is

  -- where the reader stops
  pub so_far_stop : (found : Front) → Stops ≡ next_of layout len left rest
      → found.records ≡ records → found.fault ≡ fault_at layout (data_len begun) left rest
      → found.is_broken ≡ is_some (descriptor_fault layout (data_len begun) left rest)
      → found ≡ whole
  so_far_stop found stops made fault broken =
      let all : found.records ≡ records ++ [] = made ∙ sym (append-nil records) in
      let is : found ≡ prepend records (front_from layout (progress_at left begun) rest) =
      (λ i. record { records = all i; fault = fault i; is_broken = broken i })
      ∙ ap (prepend records)
      (sym (front_stops layout (progress_at left begun) rest (here Stops stops))) in
      is ∙ so_far

  -- after the descriptor of a block
  pub so_far_block : (after : Option ℕ) (later : List ℕ) (n : ℕ)
      → Block n ≡ next_of layout len left rest → after ≡ left_of_block (n - 4)
      → later ≡ drop 4 rest → FrontSoFar layout records begun after later whole
  so_far_block after later n taken after_is later_is =
      ap (prepend records) ((λ i. front_from layout (progress_at (after_is i) begun) (later_is i))
      ∙ sym (front_block layout (progress_at left begun) rest n (here (Block n) taken)))
      ∙ so_far

  -- after a segment
  pub so_far_segment : (more : List (List ℕ)) (after : Option (List ℕ)) (left' : Option ℕ)
      (segment later : List ℕ) (n : ℕ)
      → Segment n ≡ next_of layout len left rest → segment ≡ take n rest
      → later ≡ drop n rest → n ≤ length rest
      → more ≡ records ++ completed begun segment → after ≡ begun_after begun segment
      → left' ≡ left_after left n
      → FrontSoFar layout more after left' later whole
  so_far_segment more after left' segment later n taken segment_is later_is there more_is after_is
      left_is =
      let total : length (take n rest) ≡ n = length-take-le n rest there in
      let begun_is : after ≡ begun_after begun (take n rest) =
      after_is ∙ ap (begun_after begun) segment_is in
      let left_now : left' ≡ left_after left (length (take n rest)) =
      left_is ∙ ap (left_after left) (sym total) in
      let made : more ≡ records ++ completed begun (take n rest) =
      more_is ∙ ap (λ s. records ++ completed begun s) segment_is in
      (λ i. prepend (made i)
      (front_from layout (progress_at (left_now i) (begun_is i)) (later_is i)))
      ∙ prepend-append records (completed begun (take n rest)) _
      ∙ ap (prepend records)
      (sym (front_segment layout (progress_at left begun) rest n (here (Segment n) taken)))
      ∙ so_far

-- the data stay short enough
pub short_after : (begun after : Option (List ℕ)) (len : Option ℕ) (segment rest : List ℕ) (n : ℕ)
    → len ≡ data_len begun → segment ≡ take n rest → n ≤ length rest
    → after ≡ begun_after begun segment → unwrap_or len 0 + (n - 4) ≤ most_data
    → unwrap_or (data_len after) 0 ≤ most_data
short_after begun after len segment rest n len_is segment_is there after_is short =
    let total : length segment ≡ n = ap length segment_is ∙ length-take-le n rest there in
    let joined : length (joined_with begun segment) ≡ unwrap_or len 0 + (n - 4) =
    length-append (unwrap_or begun []) (drop 4 segment)
    ∙ sum (data_or begun ∙ ap (λ l. unwrap_or l 0) (sym len_is))
    (length-drop 4 segment ∙ ap (λ l. l - 4) total) in
    by_kind (goes_on (kind_of segment)) joined after_is
  where
    sum : {a b c d : ℕ} → a ≡ b → c ≡ d → a + c ≡ b + d
    sum e f = λ i. e i + f i

    data_or : (begun : Option (List ℕ)) → length (unwrap_or begun []) ≡ unwrap_or (data_len begun) 0
    data_or None = refl
    data_or (Some joined) = refl

    by_kind : (goes : Bool) → length (joined_with begun segment) ≡ unwrap_or len 0 + (n - 4)
        → after ≡ cond goes (Some (joined_with begun segment)) None
        → unwrap_or (data_len after) 0 ≤ most_data
    by_kind true joined e = let is = ap (λ b. unwrap_or (data_len b) 0) e in omega arith
    by_kind false joined e = let is = ap (λ b. unwrap_or (data_len b) 0) e in omega arith
