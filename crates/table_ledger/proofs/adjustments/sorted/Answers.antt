use Rattle.std.proofs.Common.{◌≡◌, ◌∙◌, ◌++◌, ℕ, List, ap, drop, length, take, take_at}
use Rattle.book_model.specs.declared.line.Line.{Line}
use Rattle.book_model.specs.Words.{by_line, members, set_of}

-- lines that were lent to be put in order are in order
put_back : {lines lent back : List Line} {len : ℕ} → length back ≡ length lent → length lent ≡ len
    → back ≡ members (set_of by_line lent) → lent ≡ lines
    → take len (back ++ drop (length back) lines) ≡ members (set_of by_line lines)
put_back {lines} {lent} {back} {len} as_many all sorted same =
    take_at back (drop (length back) lines) len (as_many ∙ all)
    ∙ sorted ∙ ap (λ (lines : List Line). members (set_of by_line lines)) same
