use Rattle.std.proofs.Common.{◌+◌, ◌∙◌, ap, arith, drop, refl, sym}
use Rattle.std.proofs.lemmas.List.{drop_all}
use Rattle.smf_type30.specs.declared.record_class.Class.TheVariants.{DumpHeader}
use Rattle.book_import.specs.Receipts.{count_ahead, count_class}
use Rattle.book_import.proofs.GatheringLemmas.{ahead_step}
use Rattle.book_import.proofs.records.count_ahead.Goals as goal

pub loop-class-init : goal.loop-class-init
loop-class-init c = record { value = refl; few = omega arith }

pub loop-class-preserved-in-Usage : goal.loop-class-preserved-in-Usage
loop-class-preserved-in-Usage c =
    let classes = c.args.classes.now in
    let i = c.loop-class.class-index in
    let ahead = c.loop-class.ahead in
    record {
      value = ap (λ class. count_ahead (drop (i + 1) classes) (count_class class ahead))
          (sym c.in-Usage.is)
          ∙ sym (ahead_step classes i DumpHeader ahead c.loop-class-test.true)
          ∙ c.loop-class.invariant.value;
      few = omega (arith, c.loop-class.invariant.few);
    }

pub loop-class-preserved : goal.loop-class-preserved
loop-class-preserved c =
    let classes = c.args.classes.now in
    let i = c.loop-class.class-index in
    record {
      value = ap (count_ahead (drop (i + 1) classes)) c.count_class.ensures.value
          ∙ sym (ahead_step classes i DumpHeader c.loop-class.ahead c.loop-class-test.true)
          ∙ c.loop-class.invariant.value;
      few = omega (arith, c.loop-class.invariant.few, c.count_class.ensures.counts);
    }

pub returns-clause-value : goal.returns-clause-value
returns-clause-value c =
    ap (λ rest. count_ahead rest c.loop-class.ahead)
    (sym (drop_all c.loop-class.class-index c.args.classes.now c.loop-class-test.false))
    ∙ c.loop-class.invariant.value
