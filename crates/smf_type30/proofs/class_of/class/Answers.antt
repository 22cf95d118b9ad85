use Rattle.std.proofs.Common.{◌∙◌, sym}
use Rattle.smf_type30.proofs.UsageFacts.{class_told, no_accounts, usage_measures_work}
use Rattle.smf_type30.proofs.class_of.class.Goals as goal

pub returns-in-2-clause-class : goal.returns-in-2-clause-class
returns-in-2-clause-class c =
    class_told _ _ 2 c.in-Some.ensures.succeeds c.in-Some.ensures.value c.in-2.is

pub returns-in-3-clause-class : goal.returns-in-3-clause-class
returns-in-3-clause-class c =
    class_told _ _ 3 c.in-Some.ensures.succeeds c.in-Some.ensures.value c.in-3.is

pub returns-in-7-clause-class : goal.returns-in-7-clause-class
returns-in-7-clause-class c =
    class_told _ _ 7 c.in-Some.ensures.succeeds c.in-Some.ensures.value c.in-7.is

pub returns-in-30 : goal.returns-in-30
returns-in-30 c =
    let bytes = c.args.bytes.now in
    let read = c.in-Some.ensures in
    let same = c.class_of_work.ensures
    ∙ class_told bytes c.in-Some.header 30 read.succeeds read.value c.in-30.is in
    record {
      class = same;
      work = λ usage. usage_measures_work bytes (sym same ∙ usage);
      accounts = λ damaged. no_accounts bytes (sym same ∙ damaged);
    }
