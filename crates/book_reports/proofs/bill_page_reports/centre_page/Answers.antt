use Rattle.std.proofs.Common.{◌≡◌, IfOk, string_bytes, subst}
use Rattle.book_model.specs.Words.{bill_shown}
use Rattle.bill_texts.specs.BillSheets.{centre_parts, centre_sheet}
use Rattle.bill_texts.specs.Sheets.{sheet_shown}
use Rattle.bill_pages.specs.BillPages.{centre_bill_page, head_shown}
use Rattle.book_reports.proofs.bill_page_reports.centre_page.Goals as goal

-- the page is that of the head, the sheet and the parts which the definitions give
pub returns : goal.returns
returns c =
    let found = c.args.found.now in
    let made = c.centre_bill_page.result in
    let head = head_shown c.head_of-head.result in
    let parts = centre_parts (bill_shown found.bill) in
    let sheet = centre_sheet c.args.centre (bill_shown found.bill) in
    subst (λ one. IfOk made (λ page. string_bytes page ≡ centre_bill_page one sheet parts))
    c.head_of-head.ensures.head
    (subst (λ one. IfOk made (λ page. string_bytes page ≡ centre_bill_page head one parts))
    c.in_ok-sheet.ensures
    (subst (λ one. IfOk made (λ page. string_bytes page
    ≡ centre_bill_page head (sheet_shown c.in_ok-sheet.sheet) one))
    c.in_ok-parts.ensures.parts c.centre_bill_page.ensures.page))
