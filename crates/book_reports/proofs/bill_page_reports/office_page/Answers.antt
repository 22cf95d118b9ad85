use Rattle.std.proofs.Common.{◌≡◌, IfOk, string_bytes, subst}
use Rattle.book_model.specs.Words.{bill_shown}
use Rattle.bill_texts.specs.BillSheets.{office_sheet}
use Rattle.bill_pages.specs.BillPages.{head_shown, office_bill_page}
use Rattle.book_reports.proofs.bill_page_reports.office_page.Goals as goal

-- the page is that of the head and the sheet which the definitions give
pub returns : goal.returns
returns c =
    let found = c.args.found.now in
    let made = c.office_bill_page.result in
    let head = head_shown c.head_of-head.result in
    let sheet = office_sheet (bill_shown found.bill) in
    subst (λ one. IfOk made (λ page. string_bytes page ≡ office_bill_page one sheet))
    c.head_of-head.ensures.head
    (subst (λ one. IfOk made (λ page. string_bytes page ≡ office_bill_page head one))
    c.in_ok-sheet.ensures c.office_bill_page.ensures)
