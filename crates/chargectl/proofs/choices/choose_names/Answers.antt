use Rattle.std.proofs.Common.{refl}
use Rattle.book_model.specs.Words.{note_given}
use Rattle.chargectl.proofs.choices.choose_names.Goals as goal

pub returns-clause-came : goal.returns-clause-came
returns-clause-came g c =
    let opened = c.open-answer in
    record {
      said = note_given c.args.note;
      told = opened.result.answer;
      done = opened.ensures.opened;
      there = opened.ensures.there;
      says = c.chosen_in.ensures;
      log = opened.ensures.log;
      change = refl;
    }
