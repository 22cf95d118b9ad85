use Rattle.std.proofs.Common.{◌≡◌, length, arith, sym, ap, ◌∙◌, subst, true, not, drop}
use Rattle.smf_frames.specs.Framed.{record_with}
use Rattle.smf_frames.specs.Segment.{goes_on, named_len}
use Rattle.smf_frames.specs.Front.{left_after}
use Rattle.smf_frames.specs.Joining.{Joining}
use Rattle.smf_frames.specs.JoinerFields.{joining_in}
use Rattle.smf_frames.specs.JoinerSteps.{HoldsSegment, past_segment}
use Rattle.smf_frames.proofs.HeldFields.{not_standing}
use Rattle.smf_frames.proofs.PassedFields.{room_of_segment, passed_keeps, passed_on, passed_whole}
use Rattle.smf_frames.proofs.PassedFields.{described_len, written_over}
use Rattle.smf_frames.proofs.joiner.Joiner.pass_segment.Goals as goal

pub describe-requires-clause-short : goal.describe-requires-clause-short
describe-requires-clause-short c =
    let room = room_of_segment c.self.invariant c.args.self.now c.self.view_is c.requires.none
    c.requires.holds in
    omega (arith, ap length c.deref_mut.ensures.value)

pub invariant_of-self : goal.invariant_of-self
invariant_of-self c =
    let j = c.self.inside in
    let room = room_of_segment c.self.invariant c.args.self.now c.self.view_is c.requires.none
    c.requires.holds in
    let len_is : j.joined.len ≡ length j.joined.items = omega (arith, j.joined.ok.0) in
    let whole_is : c.describe.new.bytes ≡ record_with (drop 4 j.joined.items) =
    c.describe.ensures ∙ ap (λ b. record_with (drop 4 b)) c.deref_mut.ensures.value in
    let same : length c.describe.new.bytes ≡ length j.joined.items =
    ap length whole_is ∙ described_len j.joined.items
    (omega (arith, c.self.invariant.behind, c.self.invariant.marked)) in
    passed_keeps c.self.invariant room c.left_after-self-inside.result
    c.goes_on-self-inside.result true _ c.len-self-inside.result
    (c.len-self-inside.ensures ∙ len_is)
    (ap length (written_over c.describe.new.bytes j.joined.items j.joined.len same len_is) ∙ same)
    c.if-not-self.true

pub invariant_of-self-else-not-self : goal.invariant_of-self-else-not-self
invariant_of-self-else-not-self c =
    let j = c.self.inside in
    let room = room_of_segment c.self.invariant c.args.self.now c.self.view_is c.requires.none
    c.requires.holds in
    let none = not_standing j.stands j.joined.items
    (ap (λ (k : Joining). k.ready) c.self.view_is ∙ c.requires.none) in
    passed_keeps c.self.invariant room c.left_after-self-inside.result
    c.goes_on-self-inside.result j.stands j.joined.items c.len-self-inside.result
    (c.len-self-inside.ensures ∙ omega (arith, j.joined.ok.0)) (omega arith)
    (c.if-not-self.false ∙ ap not (sym none))

pub returns-then-not-self : goal.returns-then-not-self
returns-then-not-self c =
    let j = c.self.inside in
    let holds = subst HoldsSegment (sym c.self.view_is) c.requires.holds in
    let none = not_standing j.stands j.joined.items
    (ap (λ (k : Joining). k.ready) c.self.view_is ∙ c.requires.none) in
    let len_is : j.joined.len ≡ length j.joined.items = omega (arith, j.joined.ok.0) in
    let left_is : c.left_after-self-inside.result ≡ left_after j.left (named_len j.descriptor) =
    c.left_after-self-inside.ensures ∙ ap (left_after j.left) c.named_len.ensures in
    let whole_is : c.describe.new.bytes ≡ record_with (drop 4 j.joined.items) =
    c.describe.ensures ∙ ap (λ b. record_with (drop 4 b)) c.deref_mut.ensures.value in
    let same : length c.describe.new.bytes ≡ length j.joined.items =
    ap length whole_is ∙ described_len j.joined.items
    (omega (arith, c.self.invariant.behind, c.self.invariant.marked)) in
    let mark_is : c.len-self-inside.result ≡ length j.joined.items =
    c.len-self-inside.ensures ∙ len_is in
    (λ i. joining_in (record {
      layout = j.layout;
      left = left_is i;
      is_begun = c.if-not-self.true i;
      joined = written_over c.describe.new.bytes j.joined.items j.joined.len same len_is i;
      data_end = mark_is i;
      descriptor = j.descriptor;
      received = 0;
      stands = true;
      room = 0;
    }))
    ∙ passed_whole c.self.invariant holds none
    (ap goes_on (sym c.kind_of.ensures) ∙ sym c.goes_on-self-inside.ensures ∙ c.if-not-self.true)
    c.describe.new.bytes whole_is same
    ∙ ap past_segment c.self.view_is

pub returns-else-not-self : goal.returns-else-not-self
returns-else-not-self c =
    let j = c.self.inside in
    let holds = subst HoldsSegment (sym c.self.view_is) c.requires.holds in
    let none = not_standing j.stands j.joined.items
    (ap (λ (k : Joining). k.ready) c.self.view_is ∙ c.requires.none) in
    let left_is : c.left_after-self-inside.result ≡ left_after j.left (named_len j.descriptor) =
    c.left_after-self-inside.ensures ∙ ap (left_after j.left) c.named_len.ensures in
    let mark_is : c.len-self-inside.result ≡ length j.joined.items =
    c.len-self-inside.ensures ∙ omega (arith, j.joined.ok.0) in
    (λ i. joining_in (record {
      layout = j.layout;
      left = left_is i;
      is_begun = c.if-not-self.false i;
      joined = j.joined.items;
      data_end = mark_is i;
      descriptor = j.descriptor;
      received = 0;
      stands = none i;
      room = 0;
    }))
    ∙ passed_on c.self.invariant holds none
    (ap goes_on (sym c.kind_of.ensures) ∙ sym c.goes_on-self-inside.ensures ∙ c.if-not-self.false)
    ∙ ap past_segment c.self.view_is
