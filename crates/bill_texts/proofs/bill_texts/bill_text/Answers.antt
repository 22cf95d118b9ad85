use Rattle.std.proofs.Common.{◌≡◌, ◌∙◌, ◌++◌, List, Some, ap, codes, string_bytes, ℕ}
use Rattle.std.proofs.lemmas.Result.{IfOk-weaker}
use Rattle.book_model.specs.Words.{BillSeen, bill_shown}
use Rattle.report_texts.specs.Centres.{centre_title}
use Rattle.report_texts.specs.Periods.{title_line}
use Rattle.bill_texts.specs.BillSheets.{centre_sheet}
use Rattle.bill_texts.specs.BillTexts.{bill_text, head_lines, sheet_lines}
use Rattle.bill_texts.specs.SheetTexts.{parts_text}
use Rattle.bill_texts.proofs.bill_texts.bill_text.Goals as goal

-- its parts stand one after the other
pub returns : goal.returns
returns c =
    let bill : BillSeen = bill_shown c.args.bill.now in
    let centre = c.args.centre in
    let title : List ℕ =
    title_line (centre_title (codes "BILL") centre) c.args.period c.args.through in
    let head : List ℕ = head_lines c.args.period (Some centre) c.args.through bill in
    let front : c.push_head_lines.new.out ≡ title ++ head =
    c.push_head_lines.ensures
    ∙ ap (λ text. text ++ head)
    (c.push_centre_title.ensures ∙ ap (λ text. text ++ title) c.new-out.ensures) in
    let sheet : c.push_sheet.new.out
    ≡ title ++ head ++ sheet_lines (centre_sheet centre bill) bill.held_back =
    c.push_sheet.ensures
    ∙ (λ i. front i ++ sheet_lines (c.in_ok-sheet.ensures i) bill.held_back) in
    let all : c.push_parts.new.out ≡ bill_text centre c.args.period c.args.through bill =
    c.push_parts.ensures ∙ (λ i. sheet i ++ parts_text (c.in_ok-parts.ensures.parts i)) in
    IfOk-weaker c.finish.result (λ text. string_bytes text ≡ c.push_parts.new.out) _
    (λ text is. is ∙ all) c.finish.ensures
