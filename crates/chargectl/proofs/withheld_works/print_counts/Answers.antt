use Rattle.std.proofs.Common.{◌∙◌, subst}
use Rattle.streams.specs.Failures.{HasFailed}
use Rattle.chargectl.specs.Commands.{IsPrinted}
use Rattle.chargectl.proofs.withheld_works.print_counts.Goals as goal

-- the line is the one of the counts
pub returns : goal.returns
returns g c =
    let contents = g.O.Write.contents in
    let output = c.print_text-written.new.output in
    record {
      written = c.print_text-written.result;
      printed = subst (λ text. IsPrinted text (contents c.args.output) (contents output)
          (∥ HasFailed g.O.Writer.may_answer output ∥₁) c.print_text-written.result)
          (c.as_str.ensures.value ∙ c.withheld_line_text-line.ensures) c.print_text-written.ensures;
      ends = c.ended_at.ensures;
    }
