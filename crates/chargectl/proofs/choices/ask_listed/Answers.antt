use Rattle.std.proofs.Common.{inr}
use Rattle.chargectl.proofs.ListLemmas.{not_listed}
use Rattle.chargectl.proofs.choices.ask_listed.Goals as goal

pub returns-in_err-listed : goal.returns-in_err-listed
returns-in_err-listed g c =
    not_listed c.args.tried c.args.withheld
    ((g.F.Inputs.held c.args.inputs.now).holds c.args.file.now) c.args.book.now
    (g.S.Repository.shelf c.args.repository.now)
    c.from_residual-in_err-listed.result c.in_err-listed.field-0.0
    c.from_residual-in_err-listed.ensures.0 c.from_residual-in_err-listed.ensures.1
    (inr c.in_err-listed.ensures.refused)

pub returns : goal.returns
returns g c = record {
  names = c.in_ok-listed.listed.names.items;
  lines = c.in_ok-listed.listed.lines.items;
  listed = c.in_ok-listed.ensures.listed;
  all = c.in_ok-listed.ensures.all;
  placed = c.in_ok-listed.ensures.placed;
  numbered = c.answer_names.ensures.lines;
  came = c.answer_names.ensures.came;
}
