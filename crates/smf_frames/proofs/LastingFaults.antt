-- A fault at a descriptor stays, and the front before it, whatever bytes follow.
use Rattle.std.proofs.Common.{◌≡◌, ℕ, Bool, true, false, cond, nat_lt, List, [], ◌++◌}
use Rattle.std.proofs.Common.{length, refl, sym, ap, ◌∙◌, append_assoc}
use Rattle.std.proofs.Common.{Option, Some, None, inl, inr}
use Rattle.std.specs.Prelude.{is_some, IsTrue}
use Rattle.std.specs.Option.{option_or}
use Rattle.std.proofs.lemmas.Bool.{cond-true, lt-ltb, cases_lt}
use Rattle.smf_frames.specs.declared.dump.Layout.{Layout}
use Rattle.smf_frames.specs.declared.fault.FrameFault.{FrameFault}
use Rattle.smf_frames.specs.declared.fault.FrameFault.TheVariants.{SegmentCrossesBlock}
use Rattle.smf_frames.specs.declared.next.Next.TheVariants.{Stops}
use Rattle.smf_frames.specs.Faults.{lacks_room}
use Rattle.smf_frames.specs.Faults.{descriptor_fault, end_fault, fault_at}
use Rattle.smf_frames.specs.Longest.{Front}
use Rattle.smf_frames.specs.Front.{start, data_len, prepend, stopped, front}
use Rattle.smf_frames.proofs.Steps.{fault_same}
use Rattle.smf_frames.proofs.ReaderWays.{next_at, Way, way_same, front_way, front_stops, leads}
use Rattle.smf_frames.proofs.GroupedTexts.{cut_way}
use Rattle.smf_frames.proofs.TakenGroups.{way_cut}
use Rattle.smf_frames.proofs.Fronts.{front_led}

-- without the four bytes of a descriptor the one fault is that they have no room
lacks_by : (lacks short : Bool) (fault other : Option FrameFault) → short ≡ true
    → is_some (cond lacks (Some SegmentCrossesBlock) (cond short None fault)) ≡ true
    → cond lacks (Some SegmentCrossesBlock) other
    ≡ cond lacks (Some SegmentCrossesBlock) (cond short None fault)
lacks_by true short fault other is broken = refl
lacks_by false true fault other is broken = absurd cc
lacks_by false false fault other is broken = absurd cc

-- the fault at a descriptor
pub descriptor_stays : (layout : Layout) (begun left : Option ℕ) (bytes more : List ℕ)
    → is_some (descriptor_fault layout begun left bytes) ≡ true
    → descriptor_fault layout begun left (bytes ++ more) ≡ descriptor_fault layout begun left bytes
descriptor_stays layout begun left bytes more broken =
    elim (cases_lt (length bytes) 4) [
      | inl short ↦ lacks_by (lacks_room left) (nat_lt (length bytes) 4) _ _
          (lt-ltb (length bytes) 4 short) broken
      | inr long ↦ fault_same layout begun left bytes more long
    ]

-- the fault before such bytes
fault_stays : (layout : Layout) (begun left : Option ℕ) (bytes more : List ℕ)
    → is_some (descriptor_fault layout begun left bytes) ≡ true
    → fault_at layout begun left (bytes ++ more) ≡ fault_at layout begun left bytes
fault_stays layout begun left bytes more broken =
    ap (λ fault. option_or fault (end_fault begun left (bytes ++ more)))
    (descriptor_stays layout begun left bytes more broken)
    ∙ some_or (descriptor_fault layout begun left bytes) broken
  where
    some_or : (fault : Option FrameFault) → is_some fault ≡ true
        → option_or fault (end_fault begun left (bytes ++ more)) ≡ option_or fault
        (end_fault begun left bytes)
    some_or None some = absurd cc
    some_or (Some fault) some = refl

-- the front before it
pub front_lasts : (layout : Layout) (text more : List ℕ) → IsTrue (front layout text).is_broken
    → front layout (text ++ more) ≡ front layout text
front_lasts layout text more broken =
    let led = leads layout start text in
    let begun : Option ℕ = data_len led.last.begun in
    let left : Option ℕ = led.last.left in
    let cut = way_cut led.way in
    let behind_is : cut.prefix ++ (led.rest ++ more) ≡ text ++ more =
    sym (append_assoc cut.prefix led.rest more) ∙ ap (λ b. b ++ more) (sym cut.parts) in
    let way : Way layout start (text ++ more) led.records led.last (led.rest ++ more) =
    way_same behind_is cut.made (sym cut.is)
    (cut_way layout cut.prefix (led.rest ++ more) cut.more cut.begun cut.left cut.cut) in
    let here : is_some (descriptor_fault layout begun left led.rest) ≡ true =
    sym (ap (λ (f : Front). f.is_broken) (front_led layout text led)) ∙ broken in
    let stays = descriptor_stays layout begun left led.rest more here in
    let stops : next_at layout led.last (led.rest ++ more) ≡ Stops =
    cond-true (is_some (descriptor_fault layout begun left (led.rest ++ more))) _ _
    (ap (λ f. is_some f) stays ∙ here) in
    let same : stopped layout led.last (led.rest ++ more) ≡ stopped layout led.last led.rest =
    λ i. record {
      records = [];
      fault = fault_stays layout begun left led.rest more here i;
      is_broken = is_some (stays i);
    } in
    front_way way
    ∙ ap (prepend led.records) (front_stops layout led.last (led.rest ++ more) stops ∙ same)
    ∙ sym (front_led layout text led)
