-- Each row of a bill's sheet, and of what its sums are made of, stands in the bill's text.
use Rattle.std.proofs.Common.{◌≡◌, Contains, List, ℕ, [], ◌++◌, Option, ap, append-nil, flat_map}
use Rattle.std.proofs.Common.{length, nat_lt, refl, subst, sym}
use Rattle.book_model.proofs.PermutedSets.{first_or}
use Rattle.book_model.specs.declared.bill.HeldBack.{HeldBack}
use Rattle.bill_texts.specs.BillTexts.{held_back_line, sheet_lines}
use Rattle.bill_texts.specs.SheetTexts.{heading, part_lines, part_text, parts_text, row_text, title}
use Rattle.bill_texts.specs.SheetTexts.{terms_text, total_text}
use Rattle.bill_texts.specs.Sheets.{Fields, PartSeen, PartsSeen, SheetSeen}
use Rattle.bill_pages.specs.ShownAlike.{StandsIn, parts_in, parts_on, terms_in}
use Rattle.bill_pages.proofs.StandLemmas.{behind_two, each_stands, has_some, if_shown, in_order}
use Rattle.bill_pages.proofs.StandLemmas.{stands_twice}

-- a row stands in the lines of its part
in_lines : (part : PartSeen) (row : Fields) → Contains part.rows row
    → StandsIn (row_text part.layout row) (part_lines part)
unfolding part_lines
in_lines part row among =
    stands_twice (row_text part.layout row) (flat_map (row_text part.layout) part.rows)
    (part_lines part) (each_stands (row_text part.layout) part.rows row among) (record {
      front = title part.name ++ heading part.layout;
      behind = total_text part.layout part.total;
      is = refl;
    })

in_part_text : (part : PartSeen) (row : Fields) → Contains part.rows row
    → StandsIn (row_text part.layout row) (part_text part)
unfolding part_text
in_part_text part row among =
    if_shown (row_text part.layout row) (part_lines part) (nat_lt 0 (length part.rows))
    (has_some part.rows row among) (in_lines part row among)

-- all parts, one after another
all_texts : (parts : PartsSeen) → parts_text parts ≡ flat_map part_text (parts_in parts)
unfolding parts_text
all_texts parts =
    in_order (part_text parts.steps_by_shift) (part_text parts.jobs_by_shift)
    (part_text parts.steps_by_day) (part_text parts.jobs_by_day) (part_text parts.late)
    (part_text parts.reversed) (part_text parts.credits)

-- so it stands in these
pub in_texts : (parts : PartsSeen) (part : PartSeen) (row : Fields) → Contains (parts_in parts) part
    → Contains part.rows row → StandsIn (row_text part.layout row) (parts_text parts)
in_texts parts part row among its =
    subst (StandsIn (row_text part.layout row)) (sym (all_texts parts))
    (stands_twice (row_text part.layout row) (part_text part) (flat_map part_text (parts_in parts))
    (in_part_text part row its) (each_stands part_text (parts_in parts) part among))

-- the prices and the percents stand one after the other
both_terms : (sheet : SheetSeen) → terms_text sheet ≡ flat_map part_text (terms_in sheet)
unfolding terms_text
both_terms sheet =
    ap (λ z. part_text sheet.prices ++ z) (sym (append-nil (part_text sheet.percents)))

in_terms_text : (sheet : SheetSeen) (part : PartSeen) (row : Fields)
    → Contains (terms_in sheet) part → Contains part.rows row
    → StandsIn (row_text part.layout row) (terms_text sheet)
in_terms_text sheet part row among its =
    subst (StandsIn (row_text part.layout row)) (sym (both_terms sheet))
    (stands_twice (row_text part.layout row) (part_text part) (flat_map part_text (terms_in sheet))
    (in_part_text part row its) (each_stands part_text (terms_in sheet) part among))

-- so does each row of a sheet in its lines
in_sums : (sheet : SheetSeen) (held : Option HeldBack) (row : Fields)
    → Contains sheet.sums.rows row
    → StandsIn (row_text sheet.sums.layout row) (sheet_lines sheet held)
unfolding sheet_lines
in_sums sheet held row its =
    stands_twice (row_text sheet.sums.layout row) (part_lines sheet.sums) (sheet_lines sheet held)
    (in_lines sheet.sums row its) (record {
      front = [];
      behind = held_back_line held ++ terms_text sheet;
      is = behind_two (part_lines sheet.sums) (held_back_line held) (terms_text sheet);
    })

in_terms : (sheet : SheetSeen) (held : Option HeldBack) (part : PartSeen) (row : Fields)
    → Contains (terms_in sheet) part → Contains part.rows row
    → StandsIn (row_text part.layout row) (sheet_lines sheet held)
unfolding sheet_lines
in_terms sheet held part row among its =
    let front : List ℕ = part_lines sheet.sums ++ held_back_line held in
    stands_twice (row_text part.layout row) (terms_text sheet) (sheet_lines sheet held)
    (in_terms_text sheet part row among its) (record {
      front = front;
      behind = [];
      is = sym (append-nil (front ++ terms_text sheet));
    })

pub in_sheet_lines : (sheet : SheetSeen) (held : Option HeldBack) (part : PartSeen) (row : Fields)
    → Contains (parts_on sheet) part → Contains part.rows row
    → StandsIn (row_text part.layout row) (sheet_lines sheet held)
in_sheet_lines sheet held part row among its =
    first_or sheet.sums (terms_in sheet) part among
    (λ same.
    subst (λ (one : PartSeen). Contains one.rows row
    → StandsIn (row_text one.layout row) (sheet_lines sheet held)) same (in_sums sheet held row) its)
    (λ later. in_terms sheet held part row later its)
