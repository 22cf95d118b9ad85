use Rattle.std.proofs.Common.{◌≤◌, ◌<◌, ◌∙◌, arith, sym, ap, subst, Err, List, ℕ, length, get_or, Vec, Global}
use Rattle.std.proofs.Common.{Bor, None, Option, Some, is_some, refl, true≢false, ◌≡◌}
use Rattle.std.specs.Prelude.{All, IfSome, OnErr}
use Rattle.std.proofs.lemmas.Result.{err_from_is_err_and}
use Rattle.std.proofs.lemmas.List.Elements.{All-drop}
use Rattle.smf_type30.specs.declared.record_class.Class.{Class}
use Rattle.smf_type30.specs.declared.record_class.Class.TheVariants.{DumpHeader}
use Rattle.book_model.specs.declared.note.Stop.{Stop}
use Rattle.book_model.specs.Words.{IsUsageRecord}
use Rattle.book_core.specs.Transition.{IsTransition}
use Rattle.book_import.specs.Groups.{HandlesGroup, left_in, usage_of}
use Rattle.book_import.specs.Receipts.{count_ahead}
use Rattle.book_core.specs.Submissions.{records_in}
use Rattle.book_import.proofs.GroupWork.{group_begins, group_done}
use Rattle.book_import.proofs.GroupStands.{ahead_few, all_counted, entry_refused, stands_other}
use Rattle.book_import.proofs.GroupStands.{stands_refused, stands_so, stands_usage, usage_waits}
use Rattle.book_import.proofs.submitting.handle_group.Goals as goal
use Rattle.book_import.proofs.submitting.handle_group.Goals.{in-Usage+in_ok-accepted, in_default}

pub loop-class-init : goal.loop-class-init
loop-class-init g c = record {
  usable = subst (λ waiting. All (λ (one : Vec ℕ Global). IsUsageRecord one.items) waiting)
      (sym c.as_slice-waiting.ensures.value) c.args.group.now.usable;
  counts = omega arith;
  ahead_is = c.count_ahead-ahead.ensures.value
      ∙ ap (λ (classes : List Class). count_ahead classes c.args.receipt.now)
      c.as_slice-classes.ensures.value;
  waits = λ records is. is.usage ∙ ap records_in (sym c.as_slice-waiting.ensures.value);
  note = refl;
  read = refl;
  last = λ some.
      absurd (true≢false (sym some
      ∙ ap (λ (ended : Option Stop). is_some ended) c.requires.fresh));
  ended = subst (λ (ended : Option Stop). IfSome ended (λ said. c.args.ending ≡ Some said))
      (sym c.requires.fresh) tt;
  goes = λ layout text piece gathered has.
      group_begins (g.L.Ledger.seen c.args.ledger.now) layout text piece c.args.entry.now
      c.args.receipt.now (usage_of gathered.records) _ c.new-pending.ensures;
}

pub next_answer-requires-clause-some : goal.next_answer-requires-clause-some
next_answer-requires-clause-some g c =
    let classes = c.deref-class-items.ensures.value in
    let i = c.loop-class.class-index in
    usage_waits c.loop-class.invariant DumpHeader
    (subst (λ (all : List Class). i < length all) classes c.loop-class-test.true)
    (ap (λ (all : List Class). get_or all i DumpHeader) classes) c.in-Usage.is c.requires.stands

pub returns-in_err-accepted-clause-handled : goal.returns-in_err-accepted-clause-handled
returns-in_err-accepted-clause-handled g c = λ layout text piece gathered has.
    let p = err_from_is_err_and c.from_residual.result c.from_residual.ensures.1 in
    let begins = g.L.Ledger.seen c.args.ledger.now in
    let now = g.L.Ledger.seen c.next_answer.new.ledger in
    let classes = c.deref-class-items.ensures.value in
    let i = c.loop-class.class-index in
    subst (λ result. IsTransition begins now (HandlesGroup begins.naming layout text piece
    gathered.records c.args.entry.now c.next_answer.new.entry c.args.receipt.now c.loop-class.receipt
    result)) (sym (p.1 ∙ ap Err p.2))
    (stands_refused c.loop-class.invariant DumpHeader
    (subst (λ (all : List Class). i < length all) classes c.loop-class-test.true)
    (ap (λ (all : List Class). get_or all i DumpHeader) classes) now
    (left_in c.next_answer.new.pending) c.in_err-accepted.field-0.0 c.next_answer.new.entry
    c.in-Usage.is c.in_err-accepted.ensures.asks c.in_err-accepted.ensures.after layout text piece
    gathered has)

pub returns-in_err-accepted-clause-note : goal.returns-in_err-accepted-clause-note
returns-in_err-accepted-clause-note g c =
    let classes = c.deref-class-items.ensures.value in
    let i = c.loop-class.class-index in
    let refused = entry_refused c.loop-class.invariant DumpHeader
    (subst (λ (all : List Class). i < length all) classes c.loop-class-test.true)
    (ap (λ (all : List Class). get_or all i DumpHeader) classes) (left_in c.next_answer.new.pending)
    c.in_err-accepted.field-0.0 c.next_answer.new.entry c.in-Usage.is c.requires.stands
    c.in_err-accepted.ensures.after in
    refused.note

pub returns-in_err-accepted-clause-read : goal.returns-in_err-accepted-clause-read
returns-in_err-accepted-clause-read g c =
    let classes = c.deref-class-items.ensures.value in
    let i = c.loop-class.class-index in
    let refused = entry_refused c.loop-class.invariant DumpHeader
    (subst (λ (all : List Class). i < length all) classes c.loop-class-test.true)
    (ap (λ (all : List Class). get_or all i DumpHeader) classes) (left_in c.next_answer.new.pending)
    c.in_err-accepted.field-0.0 c.next_answer.new.entry c.in-Usage.is c.requires.stands
    c.in_err-accepted.ensures.after in
    refused.read

pub returns-in_err-accepted-clause-ended : goal.returns-in_err-accepted-clause-ended
returns-in_err-accepted-clause-ended g c =
    let classes = c.deref-class-items.ensures.value in
    let i = c.loop-class.class-index in
    let refused = entry_refused c.loop-class.invariant DumpHeader
    (subst (λ (all : List Class). i < length all) classes c.loop-class-test.true)
    (ap (λ (all : List Class). get_or all i DumpHeader) classes) (left_in c.next_answer.new.pending)
    c.in_err-accepted.field-0.0 c.next_answer.new.entry c.in-Usage.is c.requires.stands
    c.in_err-accepted.ensures.after in
    subst (λ (ended : Option Stop). IfSome ended (λ said. c.args.ending ≡ Some said))
    (sym refused.none) tt

pub returns-in_err-accepted-clause-refused : goal.returns-in_err-accepted-clause-refused
returns-in_err-accepted-clause-refused g c =
    let p = err_from_is_err_and c.from_residual.result c.from_residual.ensures.1 in
    let classes = c.deref-class-items.ensures.value in
    let i = c.loop-class.class-index in
    let refused = entry_refused c.loop-class.invariant DumpHeader
    (subst (λ (all : List Class). i < length all) classes c.loop-class-test.true)
    (ap (λ (all : List Class). get_or all i DumpHeader) classes) (left_in c.next_answer.new.pending)
    c.in_err-accepted.field-0.0 c.next_answer.new.entry c.in-Usage.is c.requires.stands
    c.in_err-accepted.ensures.after in
    subst (λ result. OnErr result (c.next_answer.new.entry.ended ≡ None)) (sym (p.1 ∙ ap Err p.2))
    refused.none

pub count_both-requires-clause-ahead : goal.count_both-requires-clause-ahead
count_both-requires-clause-ahead g c =
    let classes = c.deref-class-items.ensures.value in
    let i = c.loop-class.class-index in
    omega (
      arith,
      c.requires.few,
      ahead_few c.loop-class.invariant
          (subst (λ (all : List Class). i < length all) classes c.loop-class-test.true),
    )

pub split_at-requires : goal.split_at-requires
split_at-requires g c =
    let classes = c.deref-class-items.ensures.value in
    let i = c.loop-class.class-index in
    let some : 0 < length c.loop-class.waiting.now =
    usage_waits c.loop-class.invariant DumpHeader
    (subst (λ (all : List Class). i < length all) classes c.loop-class-test.true)
    (ap (λ (all : List Class). get_or all i DumpHeader) classes) c.in-Usage.is c.requires.stands in
    omega (arith, some)

pub loop-class-preserved : goal.loop-class-preserved
loop-class-preserved g c =
    let classes = c.deref-class-items.ensures.value in
    let i = c.loop-class.class-index in
    let within = subst (λ (all : List Class). i < length all) classes c.loop-class-test.true in
    let here = ap (λ (all : List Class). get_or all i DumpHeader) classes in
    let stands = c.loop-class.invariant in
    elim c.match-class.branch [
      | in-Usage+in_ok-accepted w ↦
          stands_so (ap (λ ledger. g.L.Ledger.seen ledger) w.ledger-is) w.receipt-is w.ahead-is
          (ap (λ (b : Bor (List (Vec ℕ Global))). b.now) w.waiting-is ∙ w.split_at.ensures.back)
          (ap left_in w.pending-is) w.entry-is
          (stands_usage stands DumpHeader within here (g.L.Ledger.seen w.next_answer.new.ledger)
          (left_in w.next_answer.new.pending) w.in_ok-accepted.accepted w.next_answer.new.entry
          w.in-Usage.is c.requires.stands w.in_ok-accepted.ensures.asks w.in_ok-accepted.ensures.after
          w.count_both.ensures.value w.count_both.ensures.counts w.count_both.ensures.ahead
          (All-drop (λ (one : Vec ℕ Global). IsUsageRecord one.items) 1 c.loop-class.waiting.now
          stands.usable))
      | in_default w ↦
          stands_so (ap (λ ledger. g.L.Ledger.seen ledger) w.ledger-is) w.receipt-is w.ahead-is
          (ap (λ (b : Bor (List (Vec ℕ Global))). b.now) w.waiting-is) (ap left_in w.pending-is)
          w.entry-is
          (stands_other stands DumpHeader within here w.in_default.not-Usage
          w.count_class.ensures.value w.count_class.ensures.counts)
    ]

pub returns-clause-handled : goal.returns-clause-handled
returns-clause-handled g c = λ layout text piece gathered has.
    let stands = c.loop-class.invariant in
    group_done (g.L.Ledger.seen c.args.ledger.now) layout text piece c.args.entry.now
    c.args.receipt.now (g.L.Ledger.seen c.loop-class.ledger) gathered.records
    c.loop-class.class-index c.loop-class.entry (left_in c.loop-class.pending) c.loop-class.receipt
    (all_counted gathered.records c.loop-class.class-index gathered.is
    (subst (λ (all : List Class). length all ≤ c.loop-class.class-index)
    c.deref-class-items.ensures.value c.loop-class-test.false))
    (stands.goes layout text piece gathered has)

pub returns-clause-note : goal.returns-clause-note
returns-clause-note g c = c.loop-class.invariant.note

pub returns-clause-read : goal.returns-clause-read
returns-clause-read g c = c.loop-class.invariant.read

pub returns-clause-ended : goal.returns-clause-ended
returns-clause-ended g c = c.loop-class.invariant.ended
