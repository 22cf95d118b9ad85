use Rattle.std.proofs.Common.{◌∙◌, subst, sym, w32}
use Rattle.std.proofs.lemmas.Int.{to_z-of_z}
use Rattle.tree_tables.specs.declared.detail_rows.DetailStart.TheVariants.{Day}
use Rattle.tree_tables.specs.LateRecords.{FindsCounted}
use Rattle.tree_tables.proofs.LateWalk.{among_details, next_by_mark, past_marks}
use Rattle.tree_tables.proofs.Looking.{looks_after_look, looks_so, looks_told}
use Rattle.tree_tables.proofs.tables.TreeTables.next_late.Goals as goal

-- the walk goes on among the details
pub returns-in-Some : goal.returns-in-Some
returns-in-Some g c = record {
  looks = looks_told c.next_counted.result c.next_counted.ensures.looks
      (λ tables found counted. among_details c.args.first c.args.last.now tables c.in-Some.start
      (sym c.next_start.ensures ∙ c.in-Some.is) found counted);
}

-- or among the records that are not charged
pub returns-in-Some-2 : goal.returns-in-Some-2
returns-in-Some-2 g c = record {
  looks = looks_so (rw c.in-Some-2.is at c.in_ok-stored.ensures.looks)
      (λ tables next. next_by_mark c.args.first c.args.last.now tables
      (sym c.next_start.ensures ∙ c.in_default.is) c.in-Some-2.stored next);
}

-- of which none is left: it goes on with the first detail
pub returns : goal.returns
returns g c =
    let none = rw c.in_default-2.is at c.in_ok-stored.ensures.looks in
    record {
      looks = looks_after_look c.next_counted-2.result none c.next_counted-2.ensures.looks
          (λ tables found past counted. past_marks c.args.first c.args.last.now tables
          (sym c.next_start.ensures ∙ c.in_default.is) past found
          (subst (λ day. FindsCounted (Day day) tables found)
          (to_z-of_z w32 c.args.first c.ranges.first) counted));
    }
