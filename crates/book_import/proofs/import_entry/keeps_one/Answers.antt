use Rattle.std.proofs.Common.{◌∙◌, ◌||◌, ◌+◌, ap, drop, refl, sym}
use Rattle.std.proofs.lemmas.List.{drop_all}
use Rattle.book_model.specs.declared.answer.Accepted.TheVariants.{Kept}
use Rattle.book_import.specs.EntryWork.{is_kept, keeps_one}
use Rattle.book_import.proofs.EntryLemmas.{kept_not, kept_step}
use Rattle.book_import.proofs.import_entry.keeps_one.Goals as goal

pub loop-answer-init : goal.loop-answer-init
loop-answer-init c = refl

pub returns-in-Kept : goal.returns-in-Kept
returns-in-Kept c =
    let answers = c.args.answers.now in
    let i = c.loop-answer.answer-index in
    sym (sym c.loop-answer.invariant ∙ kept_step answers i Kept c.loop-answer-test.true
    ∙ ap (λ answer. is_kept answer || keeps_one (drop (i + 1) answers)) c.in-Kept.is)

pub loop-answer-preserved : goal.loop-answer-preserved
loop-answer-preserved c =
    let answers = c.args.answers.now in
    let i = c.loop-answer.answer-index in
    ap (λ kept. kept || keeps_one (drop (i + 1) answers)) (sym (kept_not _ c.in_default.not-Kept))
    ∙ sym (kept_step answers i Kept c.loop-answer-test.true)
    ∙ c.loop-answer.invariant

pub returns : goal.returns
returns c =
    ap keeps_one (sym (drop_all c.loop-answer.answer-index c.args.answers.now c.loop-answer-test.false))
    ∙ c.loop-answer.invariant
