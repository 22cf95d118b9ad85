-- After which bytes a joiner stands: at the start, after what it takes, with the record released,
-- at a fault, and at the end.
use Rattle.std.proofs.Common.{lit<, ◌≡◌, ℕ, ◌<◌, false, All, arith, length-append, List, [], ◌∷◌}
use Rattle.std.proofs.Common.{◌++◌, length, take, sym, ap, ◌∙◌, append_assoc, append-nil, subst}
use Rattle.std.proofs.Common.{Option, Some, None}
use Rattle.std.specs.Prelude.{is_some, IfSome}
use Rattle.std.specs.Option.{option_to_list}
use Rattle.std.proofs.Math.Seq.{get_or-append_seam}
use Rattle.smf_frames.specs.declared.dump.Layout.{Layout}
use Rattle.smf_frames.specs.declared.next.Next.TheVariants.{Stops}
use Rattle.smf_frames.specs.Framed.{IsFramed}
use Rattle.smf_frames.specs.Faults.{fault_at}
use Rattle.smf_frames.specs.Front.{Front, start, data_len, prepend, stopped, front_from, front}
use Rattle.smf_frames.specs.Joining.{Joining, HasTaken, nothing_joined, nothing_found, next_held}
use Rattle.smf_frames.specs.Joining.{fault_held}
use Rattle.smf_frames.proofs.ReaderWays.{next_at, prepend-append, front_stops}
use Rattle.smf_frames.proofs.Fronts.{front_framed}
use Rattle.smf_frames.proofs.ReaderWaits.{short_stops}
use Rattle.smf_frames.proofs.JoinerAdvance.{GoesOver, stops_without}

-- the front at the start of a dump
pub front_of_nothing : (layout : Layout) → front layout [] ≡ nothing_found
front_of_nothing layout =
    front_stops layout start [] (short_stops layout None None [] (lit< tt))

-- at the start
pub stands_start : (layout : Layout) → HasTaken [] (nothing_joined layout)
stands_start layout = record {
  goes_on = λ more. ap (λ records. prepend records (front layout more))
      (sym (ap (λ (f : Front). f.records) (front_of_nothing layout)));
  waits = short_stops layout None None [] (lit< tt);
  stands = tt;
}

-- a record that stands is framed, as the records of each front are
pub standing_framed : (text : List ℕ) (joining : Joining) → HasTaken text joining
    → (one : List ℕ) → joining.ready ≡ Some one → IsFramed one
standing_framed text joining stands one is =
    let found = (front joining.layout text).records in
    let last : (joining.held ≡ []) × (earlier : List (List ℕ)) × (found ≡ earlier ++ one ∷ []) =
    subst (λ ready. IfSome ready (λ one. (joining.held ≡ []) × (earlier : List (List ℕ))
    × (found ≡ earlier ++ one ∷ []))) is stands.stands in
    let framed = subst (All IsFramed) last.2 (front_framed joining.layout text) in
    subst IsFramed (get_or-append_seam last.1 one [] [])
    (framed (length last.1) [] (omega (arith, length-append last.1 (one ∷ []))))

module _ (text : List ℕ) (joining : Joining) (stands : HasTaken text joining) where
  -- the front of the text itself: its records are known, and why there are no more is what is held
  pub front_after : front joining.layout text ≡ prepend (front joining.layout text).records
      (stopped joining.layout joining.position joining.held)
  front_after =
      let layout = joining.layout in
      ap (front layout) (sym (append-nil text)) ∙ stands.goes_on []
      ∙ ap (λ b. prepend (front layout text).records (front_from layout joining.position b))
      (append-nil joining.held)
      ∙ ap (prepend (front layout text).records)
      (front_stops layout joining.position joining.held stands.waits)

  -- so its fault is that of the end, where the descriptor that is held has none
  pub fault_after : (front joining.layout text).fault
      ≡ fault_at joining.layout (data_len joining.position.begun) joining.position.left joining.held
  fault_after = ap (λ (f : Front). f.fault) front_after

  -- and where the descriptor that is held has no fault, the front is not broken
  pub unbroken_after : fault_held joining ≡ None → (front joining.layout text).is_broken ≡ false
  unbroken_after passes =
      ap (λ (f : Front). f.is_broken) front_after ∙ ap (λ f. is_some f) passes

module _ (text bytes : List ℕ) (old new : Joining) (stands : HasTaken text old)
    (goes : GoesOver old bytes new) where
  -- what follows a text, where a joiner went on over some bytes
  over : (more : List ℕ) → front old.layout ((text ++ bytes) ++ more)
      ≡ prepend ((front old.layout text).records ++ option_to_list new.ready)
      (front_from old.layout new.position (new.held ++ more))
  over more =
      let records = (front old.layout text).records in
      ap (front old.layout) (append_assoc text bytes more) ∙ stands.goes_on (bytes ++ more)
      ∙ ap (prepend records) (goes.on more)
      ∙ sym (prepend-append records (option_to_list new.ready) _)

  -- the records of the text and the bytes
  pub records_over : next_held new ≡ Stops
      → (front old.layout (text ++ bytes)).records
      ≡ (front old.layout text).records ++ option_to_list new.ready
  records_over waits =
      let records = (front old.layout text).records ++ option_to_list new.ready in
      let here : next_at old.layout new.position (new.held ++ []) ≡ Stops =
      ap (next_at old.layout new.position) (append-nil new.held)
      ∙ subst (λ l. next_at l new.position new.held ≡ Stops) goes.layout_is waits in
      ap (λ b. (front old.layout b).records) (sym (append-nil (text ++ bytes)))
      ∙ ap (λ (f : Front). f.records) (over [])
      ∙ ap (λ later. records ++ later)
      (stops_without old.layout new.position (new.held ++ []) here)
      ∙ append-nil records

  -- after the bytes over which a joiner went on
  pub stands_over : next_held new ≡ Stops → IfSome new.ready (λ _. new.held ≡ [])
      → HasTaken (text ++ bytes) new
  stands_over waits empty = record {
    goes_on = λ more. subst (λ l. front l ((text ++ bytes) ++ more)
        ≡ prepend (front l (text ++ bytes)).records (front_from l new.position (new.held ++ more)))
        (sym goes.layout_is)
        (over more
        ∙ ap (λ records. prepend records (front_from old.layout new.position (new.held ++ more)))
        (sym (records_over waits)));
    waits = waits;
    stands = last new.ready empty
        (subst (λ l. (front l (text ++ bytes)).records
        ≡ (front old.layout text).records ++ option_to_list new.ready)
        (sym goes.layout_is) (records_over waits));
  }
    where
      last : (ready : Option (List ℕ)) → IfSome ready (λ _. new.held ≡ [])
          → (front new.layout (text ++ bytes)).records
          ≡ (front old.layout text).records ++ option_to_list ready
          → IfSome ready (λ one. (new.held ≡ []) × (earlier : List (List ℕ))
          × ((front new.layout (text ++ bytes)).records ≡ earlier ++ one ∷ []))
      last None empty is = tt
      last (Some one) empty is = (empty, (front old.layout text).records, is)

  -- no record is whole sooner
  pub soonest_over : (k : ℕ) → k < length bytes
      → (front old.layout (text ++ take k bytes)).records ≡ (front old.layout text).records
  soonest_over k below =
      let records = (front old.layout text).records in
      ap (λ (f : Front). f.records) (stands.goes_on (take k bytes))
      ∙ ap (λ later. records ++ later) (goes.soonest k below)
      ∙ append-nil records
