-- That the first bytes of a dump tell how it looks, and that it looks so by the standard.
use Rattle.std.proofs.Common.{◌≡◌, ℕ, Bool, true, false, not, ◌&&◌, nat_lt, List, [], ◌∷◌}
use Rattle.std.proofs.Common.{◌++◌, length, map, refl, sym, ap, subst, ◌∙◌, append_assoc}
use Rattle.std.proofs.Common.{append-nil, lit<, arith, Option, Some, None, ◌↔◌, ◌==◌, if◌then◌else◌}
use Rattle.std.proofs.Common.{is_some, slice_get, IsSome, IfOk, Result, Ok, Err, eqb-true, ltb-true}
use Rattle.std.proofs.Common.{lt-ltb}
use Rattle.std.proofs.lemmas.Bool.{and_from}
use Rattle.book_model.proofs.Std.{option_or}
use Rattle.smf_frames.specs.declared.fault.FrameFault.TheVariants.{MissingLast, Truncated}
use Rattle.smf_frames.specs.Segment.{descriptor_len}
use Rattle.smf_frames.specs.Faults.{descriptor_fault, end_fault}
use Rattle.smf_frames.specs.Group.{group_record}
use Rattle.smf_frames.specs.Lawful.{IsCut, MayGoOn}
use Rattle.smf_frames.specs.Longest.{Longest, data_begun}
use Rattle.smf_frames.specs.Front.{start, data_len, stopped}
use Rattle.smf_frames.proofs.ReaderWays.{Way, way_same, front_way, front_stops, leads, progress_at}
use Rattle.smf_frames.proofs.ReaderWaits.{short_stops}
use Rattle.smf_frames.proofs.JoinedGroups.{data_in}
use Rattle.smf_frames.proofs.GroupedTexts.{cut_way}
use Rattle.smf_frames.proofs.TakenGroups.{way_cut}
use Rattle.smf_frames.proofs.Fronts.{front_led, is_front}
use Rattle.book_model.specs.Words.{Layout, Rdw, Bdw, FrameFault, Front, prepend, front_from, front}
use Rattle.program_output.specs.Layouts.{ends_segment, is_filled, looks_like, IsDumpIn, is_block}
use Rattle.program_output.specs.Layouts.{first_record, is_misread, FirstBytesTell, HasBlockFirst}

-- the records of a text come first, whatever bytes follow it
record ComeFirst (layout : Layout) (text more : List ℕ) : Type 0 where
  later : List (List ℕ)
  is : (front layout (text ++ more)).records ≡ (front layout text).records ++ later

records_first : (layout : Layout) (text more : List ℕ) → ComeFirst layout text more
records_first layout text more =
    let led = leads layout start text in
    let cut = way_cut led.way in
    let behind_is : cut.prefix ++ (led.rest ++ more) ≡ text ++ more =
    sym (append_assoc cut.prefix led.rest more) ∙ ap (λ b. b ++ more) (sym cut.parts) in
    let way : Way layout start (text ++ more) led.records led.last (led.rest ++ more) =
    way_same behind_is cut.made (sym cut.is)
    (cut_way layout cut.prefix (led.rest ++ more) cut.more cut.begun cut.left cut.cut) in
    let later = (front_from layout led.last (led.rest ++ more)).records in
    let own : (front layout text).records ≡ led.records =
    ap (λ (f : Front). f.records) (front_led layout text led) ∙ append-nil led.records in
    record {
      later = later;
      is = ap (λ (f : Front). f.records) (front_way way) ∙ ap (λ r. r ++ later) (sym own);
    }

-- the first of a list stays the first
first_stays : (records later : List (List ℕ)) → IsSome (slice_get records 0)
    → slice_get (records ++ later) 0 ≡ slice_get records 0
first_stays [] later some = absurd cc
first_stays (one ∷ records) later some = refl

-- the first bytes of a dump tell
pub first_tells : (layout : Layout) (text : List ℕ) → FirstBytesTell layout text (is_misread layout text)
first_tells Rdw text some more =
    let first = records_first Rdw text more in
    ap is_block (ap (λ r. slice_get r 0) first.is ∙ first_stays (front Rdw text).records first.later some)
first_tells Bdw text some more = refl

-- nothing is left where the end of a dump is not inside a segment
ends_by : (begun : Option ℕ) (empty : Bool)
    → ends_segment (if not empty then Some Truncated
    else if is_some begun then Some MissingLast else None) ≡ true
    → empty ≡ true
ends_by begun true ends = refl
ends_by begun false ends = absurd cc

-- bytes with which a dump ends so are all read, and no block is begun
ends_whole : (begun left : Option ℕ) (bytes : List ℕ) → ends_segment (end_fault begun left bytes) ≡ true
    → (left ≡ None) × (bytes ≡ [])
ends_whole begun None [] ends = (refl, refl)
ends_whole begun None (one ∷ bytes) ends =
    let none : length (one ∷ bytes) ≡ 0 =
    eqb-true (length (one ∷ bytes)) 0 (ends_by begun (length (one ∷ bytes) == 0) ends) in
    absurd (omega (arith, none))
ends_whole begun (Some left) bytes ends = absurd cc

-- without a fault at a descriptor, that is the fault of the end
at_end : (fault other : Option FrameFault) → not (is_some fault) ≡ true → option_or fault other ≡ other
at_end None other none = refl
at_end (Some fault) other none = absurd cc

both : (one other : Bool) → one && other ≡ true → (one ≡ true) × (other ≡ true)
both true true is = (refl, refl)
both true false is = absurd cc
both false other is = absurd cc

-- what looks like a dump is one by the standard
looks_so : (layout : Layout) (bytes : List ℕ) → looks_like layout bytes ≡ true → IsDumpIn layout bytes
looks_so layout bytes looks =
    let found = is_front layout bytes in
    let read : Longest (MayGoOn layout) bytes = found.read in
    let begun : Option ℕ = data_begun read.has.begun in
    let long = both (nat_lt descriptor_len (length bytes)) (is_filled (front layout bytes)) looks in
    let filled = both (not (front layout bytes).is_broken) (ends_segment (front layout bytes).fault) long.1 in
    let sound : not (is_some (descriptor_fault layout begun read.has.left read.rest)) ≡ true =
    ap not (sym found.broken) ∙ filled.0 in
    let ends : ends_segment (end_fault begun read.has.left read.rest) ≡ true =
    ap ends_segment (sym (found.fault
    ∙ at_end (descriptor_fault layout begun read.has.left read.rest) (end_fault begun read.has.left read.rest) sound))
    ∙ filled.1 in
    let whole = ends_whole begun read.has.left read.rest ends in
    let all : read.prefix ≡ bytes =
    sym (read.parts ∙ ap (λ rest. read.prefix ++ rest) whole.1 ∙ append-nil read.prefix) in
    record {
      some = ltb-true descriptor_len (length bytes) long.0;
      may = record {
        groups = read.has.groups;
        begun = read.has.begun;
        left = read.has.left;
        cut = subst (λ text. IsCut layout text read.has.groups read.has.begun read.has.left) all read.has.cut;
      };
      whole = whole.0;
    }

-- where a reader stops at the end of whole segments
filled_end : (layout : Layout) (begun : Option (List ℕ)) (records : List (List ℕ))
    → is_filled (prepend records (stopped layout (progress_at None begun) [])) ≡ true
filled_end layout None records = refl
filled_end layout (Some joined) records = refl

-- and the other way round
is_so : (layout : Layout) (bytes : List ℕ) → IsDumpIn layout bytes → looks_like layout bytes ≡ true
is_so layout bytes dump =
    let made : List (List ℕ) = map group_record dump.may.groups in
    let way : Way layout start bytes made (progress_at None (data_in dump.may.begun)) [] =
    way_same (append-nil bytes) refl (ap (λ left. progress_at left (data_in dump.may.begun)) dump.whole)
    (cut_way layout bytes [] dump.may.groups dump.may.begun dump.may.left dump.may.cut) in
    let last = progress_at None (data_in dump.may.begun) in
    let is : front layout bytes ≡ prepend made (stopped layout last []) =
    front_way way ∙ ap (prepend made)
    (front_stops layout last [] (short_stops layout (data_len last.begun) None [] (lit< tt))) in
    let filled : is_filled (front layout bytes) ≡ true =
    ap is_filled is ∙ filled_end layout (data_in dump.may.begun) made in
    and_from (nat_lt descriptor_len (length bytes)) (is_filled (front layout bytes))
    (lt-ltb descriptor_len (length bytes) dump.some) filled

-- so the first record of a dump that is misread is a dump in blocks by the standard,
block_first : (bytes : List ℕ) (found : Option (List ℕ)) → first_record Rdw bytes ≡ found
    → is_block found ≡ true → HasBlockFirst Rdw bytes
block_first bytes None there is = absurd cc
block_first bytes (Some first) there is =
    record { segments = refl; first = first; there = there; block = looks_so Bdw first is }

misread_so : (layout : Layout) (bytes : List ℕ) → is_misread layout bytes ≡ true
    → HasBlockFirst layout bytes
misread_so Rdw bytes is = block_first bytes (first_record Rdw bytes) refl is
misread_so Bdw bytes is = absurd cc

-- and no other dump is misread
so_misread : (layout : Layout) (bytes : List ℕ) → HasBlockFirst layout bytes
    → is_misread layout bytes ≡ true
so_misread Rdw bytes has = ap is_block has.there ∙ is_so Bdw has.first has.block
so_misread Bdw bytes has =
    let other = has.segments in
    cc

-- so it is of segments, where memory sufficed,
pub standard_of : {E : Type 0} (layout : Layout) (bytes : List ℕ) (result : Result Bool E)
    → layout ≡ Rdw
    → IfOk result (λ is. is ≡ is_misread Rdw bytes)
    → IfOk result (λ is. (is ≡ true) ↔ HasBlockFirst layout bytes)
standard_of layout bytes (Ok found) named is =
    subst (λ l. (found ≡ true) ↔ HasBlockFirst l bytes) (sym named)
    (subst (λ (b : Bool). (b ≡ true) ↔ HasBlockFirst Rdw bytes) (sym is)
    (misread_so Rdw bytes, so_misread Rdw bytes))
standard_of layout bytes (Err none) named is = tt

-- and of blocks, which are not misread
pub blocks_standard : (layout : Layout) (bytes : List ℕ) → layout ≡ Bdw
    → (false ≡ true) ↔ HasBlockFirst layout bytes
blocks_standard layout bytes named =
    subst (λ l. (false ≡ true) ↔ HasBlockFirst l bytes) (sym named)
    (misread_so Bdw bytes, so_misread Bdw bytes)

-- and the first bytes of a dump in segments tell
pub tells_of : {E : Type 0} (layout : Layout) (bytes : List ℕ) (result : Result Bool E) → layout ≡ Rdw
    → IfOk result (λ is. is ≡ is_misread Rdw bytes)
    → IfOk result (λ is. FirstBytesTell layout bytes is)
tells_of layout bytes (Ok found) named is =
    subst (λ l. FirstBytesTell l bytes found) (sym named)
    (subst (λ (b : Bool). FirstBytesTell Rdw bytes b) (sym is) (first_tells Rdw bytes))
tells_of layout bytes (Err none) named is = tt
