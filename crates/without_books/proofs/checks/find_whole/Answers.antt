use Rattle.std.proofs.Common.{◌∙◌, inr, refl, sym}
use Rattle.without_books.proofs.CheckLemmas.{found_torn}
use Rattle.without_books.proofs.checks.find_whole.Goals as goal

-- what the reader had is what the file holds
pub returns-then-has_torn : goal.returns-then-has_torn
returns-then-has_torn g c =
    inr (
      c.requires,
      refl,
      found_torn c.args.dump.layout _ ((g.F.Inputs.held c.args.inputs.now).holds c.args.dump.file.now) _ _ _
          c.list_dump.result.0 c.in_ok-reader.ensures c.list_dump.ensures
          (sym c.has_torn.ensures ∙ c.if-has_torn.true),
    )
