use Rattle.std.proofs.Common.{◌≡◌, ◌∙◌, None, Ok, false, ap, refl, subst, sym, IfErr, IsErr, OnErr}
use Rattle.std.proofs.Common.{OnOk}
use Rattle.streams.specs.Sinks.{has_failed, writer_of}
use Rattle.chargectl.specs.Commands.{IsFileFault, first_fault}
use Rattle.chargectl.specs.StreamedLists.{ListsBy, list_end}
use Rattle.chargectl.proofs.OutputLemmas.{list_failed, open_failed, some_open}
use Rattle.chargectl.proofs.StreamedListLemmas.{came_kept, opened_kept}
use Rattle.chargectl.proofs.Words.{Keeps, HasFailed}
use Rattle.chargectl.proofs.streamed_lists.write_list.Goals as goal

pub returns : goal.returns
returns g c =
    let contents = g.O.Write.contents in
    let list = c.args.list in
    let book = c.args.book.now in
    let old = g.S.Repository.shelf c.args.repository.now in
    let new = g.S.Repository.shelf c.open-answer.new.self in
    let held = contents (writer_of c.new.result) in
    let has = contents (writer_of c.open-answer.new.visit.sink) in
    let holds = contents c.flushed.new.output in
    let told = c.open-answer.result.answer in
    let came = c.open-answer.ensures.came in
    let old_mark = has_failed c.new.result in
    let new_mark = has_failed c.open-answer.new.visit.sink in
    let some = some_open list held has old_mark new_mark _ told came in
    let Failed = ∥ HasFailed g.O.Writer.may_answer c.flushed.new.output ∥₁ in
    let kept : Keeps has holds =
    subst (λ output. Keeps (contents output) holds) c.into_inner-output.ensures.writer
    c.flushed.ensures.kept in
    let still : IsErr (list_end told) → holds ≡ has =
    λ bad. ap contents (c.flushed.ensures.same (subst (λ came. IsErr came) (sym c.list_end.ensures) bad)
    ∙ c.into_inner-output.ensures.writer) in
    subst (λ held. ListsBy list book old new held holds Failed (Ok (record {
      came = c.flushed.result;
      has_log = c.open-answer.result.has_log;
      is_change = false;
      notice = None;
    })))
    (ap contents c.new.ensures.writer)
    (record {
      told = told;
      flushed = c.flushed.result;
      done = opened_kept list book old new held has holds kept told still c.open-answer.ensures.opened;
      there = c.open-answer.ensures.there;
      some = came_kept list book old new held has holds kept _ told
          (λ same. ap (λ listing. contents (writer_of listing.sink)) same) still some;
      lost = λ lost. list_failed (λ output. ∥ HasFailed g.O.Writer.may_answer output ∥₁)
          c.into_inner-output.result c.flushed.new.output told c.list_end.result
          c.list_end.ensures c.flushed.ensures.same lost
          (c.into_inner-output.ensures.cause
          (open_failed list held has old_mark new_mark _ told came c.new.ensures.failed lost));
      ends = c.flushed.ensures.ends
          ∙ ap (λ came. first_fault came c.flushed.result) c.list_end.ensures;
      output = subst (λ came. OnOk came (IfErr c.flushed.result IsFileFault)) c.list_end.ensures
          c.flushed.ensures.output;
      failed = subst (λ came. OnOk came (OnErr c.flushed.result Failed)) c.list_end.ensures
          c.flushed.ensures.failed;
      log = c.open-answer.ensures.log;
      change = refl;
      notice = refl;
    })
