use Rattle.std.proofs.Common.{arith, inl, inr, refl, sym, true≢false}
use Rattle.without_books.proofs.tariff_texts.text_of.Goals as goal

pub returns-then-len-gt-MAX_TEXT-clause-refused : goal.returns-then-len-gt-MAX_TEXT-clause-refused
returns-then-len-gt-MAX_TEXT-clause-refused c =
    inl (refl, omega (arith, c.len.ensures, c.if-len-gt-MAX_TEXT.true))

pub returns-clause-refused : goal.returns-clause-refused
returns-clause-refused c =
    inr (refl, λ is. true≢false (sym (c.in-Err.ensures.succeeds is)))
