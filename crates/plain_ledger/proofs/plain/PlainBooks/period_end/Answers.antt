use Rattle.std.proofs.Common.{◌∙◌, [], ap, refl, option_map}
use Rattle.book_model.specs.Words.{Choice}
use Rattle.plain_ledger.specs.Choices.{last_at, last_of}
use Rattle.plain_ledger.specs.Plain.{is_shared, rulings_of}
use Rattle.plain_ledger.proofs.plain.PlainBooks.period_end.Goals as goal

pub returns : goal.returns
returns g c =
    let adopted = c.adopted-adopted.ensures in
    record {
      adopted = adopted;
      shared = λ identity. c.in_ok-shared_identities.ensures identity
          ∙ ap (λ adopted. is_shared (rulings_of [] adopted) c.args.self.now.held.entries identity)
          adopted;
      chosen = λ identity. c.in_ok-last_chosen.ensures identity
          ∙ (λ i. last_of (rulings_of (c.deref.ensures.value i) (adopted i)) identity);
      counts = λ identity. c.in_ok-last_counts.ensures identity
          ∙ (λ i. option_map (λ (choice : Choice). choice.counts)
          (last_at (rulings_of (c.deref-2.ensures.value i) (adopted i)) identity));
      last = c.last_close.ensures;
      through = refl;
    }
