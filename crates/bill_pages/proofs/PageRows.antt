-- Each row of a bill's sheet, and of what its sums are made of, stands on the bill's page.
use Rattle.std.proofs.Common.{◌≡◌, true, Contains, List, ℕ, ◌++◌, None, Option, codes, flat_map, length}
use Rattle.std.proofs.Common.{nat_lt, refl, subst, sym}
use Rattle.bill_texts.specs.declared.part.Layout.{Layout}
use Rattle.bill_texts.specs.Sheets.{Fields, PartSeen, PartsSeen, SheetSeen}
use Rattle.bill_pages.specs.BillPages.{HeadSeen, bill_name, bill_top, box_of, head_page, held_page}
use Rattle.bill_pages.specs.BillPages.{page_start, sums_box}
use Rattle.bill_pages.specs.SheetPages.{body_end, body_start, both_terms, line_page, part_head}
use Rattle.bill_pages.specs.SheetPages.{part_lines, part_page, parts_page, terms_page, total_page}
use Rattle.bill_pages.specs.ShownAlike.{StandsIn, parts_in, terms_in}
use Rattle.bill_pages.proofs.StandLemmas.{behind_three, each_stands, has_some, if_shown, in_order}
use Rattle.bill_pages.proofs.StandLemmas.{stands_twice, two_between}

-- a row stands in the table of its part
pub in_part_lines : (period : List ℕ) (part : PartSeen) (row : Fields) → Contains part.rows row
    → StandsIn (line_page period part.layout row) (part_lines period part)
unfolding part_lines
in_part_lines period part row among =
    let lines : List ℕ = flat_map (line_page period part.layout) part.rows in
    let start : List ℕ = part_head part ++ body_start part.layout in
    stands_twice (line_page period part.layout row) lines (part_lines period part)
    (each_stands (line_page period part.layout) part.rows row among) (record {
      front = start;
      behind = body_end part.layout ++ total_page part.layout part.total ++ codes "</table>\n";
      is = behind_three (start ++ lines) (body_end part.layout)
          (total_page part.layout part.total) (codes "</table>\n");
    })

in_part_page : (period : List ℕ) (part : PartSeen) (row : Fields) → Contains part.rows row
    → StandsIn (line_page period part.layout row) (part_page period part)
unfolding part_page
in_part_page period part row among =
    if_shown (line_page period part.layout row) (part_lines period part)
    (nat_lt 0 (length part.rows)) (has_some part.rows row among)
    (in_part_lines period part row among)

-- all parts, one after another
all_pages : (period : List ℕ) (parts : PartsSeen)
    → parts_page period parts ≡ flat_map (part_page period) (parts_in parts)
unfolding parts_page
all_pages period parts =
    in_order (part_page period parts.steps_by_shift) (part_page period parts.jobs_by_shift)
    (part_page period parts.steps_by_day) (part_page period parts.jobs_by_day)
    (part_page period parts.late) (part_page period parts.reversed) (part_page period parts.credits)

-- so it stands in these
pub in_pages : (period : List ℕ) (parts : PartsSeen) (part : PartSeen) (row : Fields)
    → Contains (parts_in parts) part → Contains part.rows row
    → StandsIn (line_page period part.layout row) (parts_page period parts)
in_pages period parts part row among its =
    subst (StandsIn (line_page period part.layout row)) (sym (all_pages period parts))
    (stands_twice (line_page period part.layout row) (part_page period part)
    (flat_map (part_page period) (parts_in parts)) (in_part_page period part row its)
    (each_stands (part_page period) (parts_in parts) part among))

-- the prices and the percents stand one after the other, where there are prices
in_both : (period : List ℕ) (sheet : SheetSeen) (part : PartSeen) (row : Fields)
    → Contains (terms_in sheet) part → Contains part.rows row
    → StandsIn (line_page period part.layout row) (both_terms period sheet)
unfolding both_terms
in_both period sheet part row among its =
    let line : List ℕ = line_page period part.layout row in
    let terms : List ℕ = flat_map (part_page period) (terms_in sheet) in
    stands_twice line terms (both_terms period sheet)
    (stands_twice line (part_page period part) terms (in_part_page period part row its)
    (each_stands (part_page period) (terms_in sheet) part among)) (record {
      front = codes "<div class='both'>\n";
      behind = codes "</div>\n";
      is = two_between (codes "<div class='both'>\n") (part_page period sheet.prices)
          (part_page period sheet.percents) (codes "</div>\n");
    })

pub in_terms_page : (period : List ℕ) (sheet : SheetSeen) (part : PartSeen) (row : Fields)
    → nat_lt 0 (length sheet.prices.rows) ≡ true
    → Contains (terms_in sheet) part → Contains part.rows row
    → StandsIn (line_page period part.layout row) (terms_page period sheet)
unfolding terms_page
in_terms_page period sheet part row priced among its =
    if_shown (line_page period part.layout row) (both_terms period sheet)
    (nat_lt 0 (length sheet.prices.rows)) priced (in_both period sheet part row among its)

-- the sums of a centre stand in the box above
pub in_top : (head : HeadSeen) (sheet : SheetSeen) (row : Fields) → sheet.sums.total ≡ None
    → Contains sheet.sums.rows row
    → StandsIn (sums_box head.letterhead.currency sheet.sums.layout row) (bill_top head sheet)
unfolding bill_top
in_top head sheet row none its =
    let currency : Option (List ℕ) = head.letterhead.currency in
    let layout : Layout = sheet.sums.layout in
    stands_twice (sums_box currency layout row)
    (box_of currency layout sheet.sums.rows sheet.sums.total) (bill_top head sheet)
    (subst
    (λ total. StandsIn (sums_box currency layout row) (box_of currency layout sheet.sums.rows total))
    (sym none) (each_stands (sums_box currency layout) sheet.sums.rows row its)) (record {
      front = page_start (bill_name head) layout ++ head_page (bill_name head) head;
      behind = held_page head.held;
      is = refl;
    })
