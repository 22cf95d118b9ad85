use Rattle.std.proofs.Common.{◌≡◌, ◌∙◌, refl, subst, sym, true}
use Rattle.std.specs.Prelude.{if◌then◌else◌}
use Rattle.book_import.proofs.import_entry.ImportEntry.hear.Goals as goal

pub returns-then-not-keeps_one : goal.returns-then-not-keeps_one
returns-then-not-keeps_one c =
    subst (λ kept. c.args.self.now
    ≡ (if kept then record c.args.self.now { begun = true; ended = c.args.ending }
    else c.args.self.now)) (sym c.if-not-keeps_one.true ∙ c.keeps_one.ensures) refl

pub returns : goal.returns
returns c =
    subst (λ kept. record c.args.self.now { begun = true; ended = c.args.ending }
    ≡ (if kept then record c.args.self.now { begun = true; ended = c.args.ending }
    else c.args.self.now)) (sym c.if-not-keeps_one.false ∙ c.keeps_one.ensures) refl
