use Rattle.std.proofs.Common.{◌<◌, length, [], All, sym, ◌∙◌, subst}
use Rattle.std.proofs.lemmas.List.{length-map, get_or-map}
use Rattle.book_model.specs.Words.{IsFramed, texts, IsUsage}
use Rattle.std.proofs.Common.{◌≡◌, ℕ, List, ap, get_or, Vec, Global}
use Rattle.tests_ledgers.proofs.books.accept_each.Goals as goal

-- the text of the vector at an index
text_at : (vectors : List (Vec ℕ Global)) (i : ℕ) (vector : Vec ℕ Global) → i < length vectors
    → vector ≡ get_or vectors i vector
    → get_or (texts vectors) i [] ≡ vector.items
text_at vectors i vector within is = get_or-map (λ v. v.items) vectors i vector [] within
    ∙ ap (λ v. v.items) (sym is)

pub accept-requires : goal.accept-requires
accept-requires g c =
    let i = c.loop-bytes.bytes-index in
    let records = c.deref-bytes-items.result.now in
    let within : i < length (texts records) = simp length-map (c.loop-bytes-test.true) in
    let framed : All IsFramed (texts records) =
    subst (λ vectors. All IsFramed (texts vectors)) (sym c.deref-bytes-items.ensures.value)
    c.in_ok-dump.ensures.framed in
    let is = sym c.deref-in-Usage.ensures.value in
    record {
      framed = subst IsFramed (text_at records i c.bytes-item.result c.loop-bytes-test.true
          c.bytes-item.is ∙ is) (framed i [] within);
      usage = subst IsUsage (c.deref.ensures.value ∙ is)
          (sym c.class.ensures.class ∙ c.in-Usage.is);
    }
