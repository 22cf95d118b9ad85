use Rattle.std.proofs.Common.{◌≡◌, ◌∙◌, ◌+◌, ◌++◌, [], ◌∷◌, ℕ, List, Bool, true, false, cond, ap}
use Rattle.std.proofs.Common.{append-nil, map, sym, take, filter}
use Rattle.book_model.specs.declared.trail.NamedChoice.{NamedChoice}
use Rattle.book_model.specs.Words.{choice_named, name_of, same_bytes}
use Rattle.plain_ledger.specs.Choices.{choice_of, is_of}
use Rattle.plain_ledger.specs.Plain.{rulings_of}
use Rattle.plain_ledger.specs.declared.chosen.ChosenRecord.{ChosenRecord}
use Rattle.plain_ledger.proofs.TrailLemmas.{made-more}
use Rattle.plain_ledger.proofs.choices.choices_with.Given.{Over}
use Rattle.plain_ledger.proofs.choices.choices_with.Goals.{After-eq, then-eq+in_ok-push, else-eq}
use Rattle.plain_ledger.proofs.choices.choices_with.Goals as goal

-- the choices with one more
more : (g : Over) (c : After-eq g) (passes : Bool) → c.eq.result ≡ passes
    → map (λ choice. choice_named (g.N.Naming.name_of c.args.naming.now) (choice_of choice))
    (filter (is_of (rulings_of [] c.args.adopted) c.args.identity.now)
    (take (c.loop-choice.choice-index + 1) c.args.choices.now))
    ≡ c.loop-choice.named.items ++ cond passes
    (choice_named (g.N.Naming.name_of c.args.naming.now) (choice_of c.choice-item.result) ∷ []) []
more g c passes is =
    made-more (λ (choice : ChosenRecord).
    choice_named (g.N.Naming.name_of c.args.naming.now) (choice_of choice))
    (is_of (rulings_of [] c.args.adopted) c.args.identity.now) c.args.choices.now
    c.loop-choice.choice-index c.choice-item.result passes c.loop-choice-test.true c.choice-item.is
    (ap (same_bytes c.args.identity.now) (sym c.identity_by.ensures) ∙ sym c.eq.ensures ∙ is)
    ∙ ap (λ some. some ++ cond passes
    (choice_named (g.N.Naming.name_of c.args.naming.now) (choice_of c.choice-item.result) ∷ []) [])
    (sym c.loop-choice.invariant)

pub loop-choice-preserved : goal.loop-choice-preserved
loop-choice-preserved g c =
    let at = goal.at.loop-choice-preserved g c in
    elim c.if-eq.branch [
      | then-eq+in_ok-push w ↦
          let named : List ℕ → NamedChoice =
          λ name. record {
            period = c.choice-item.result.period;
            name = name;
            counts = c.choice-item.result.counts;
          } in
          ap (λ (v : _). v.items) w.named-is ∙ w.in_ok-push.ensures.items
          ∙ ap (λ name. c.loop-choice.named.items ++ named name ∷ []) (w.name_of.ensures
          ∙ ap (name_of (g.N.Naming.name_of c.args.naming.now)) w.deref.ensures.value)
          ∙ sym (more g at.After-eq true w.if-eq.true)
      | else-eq w ↦
          ap (λ (v : _). v.items) w.named-is ∙ sym (append-nil c.loop-choice.named.items)
          ∙ sym (more g at.After-eq false w.if-eq.false)
    ]
