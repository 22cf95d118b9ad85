use Rattle.std.proofs.Common.{refl}
use Rattle.book_model.specs.Words.{note_given}
use Rattle.chargectl.proofs.import_works.withhold_entry.Goals as goal

pub returns : goal.returns
returns g c =
    let opened = c.open-answer in
    record {
      said = note_given c.args.note;
      told = opened.result.answer;
      done = opened.ensures.opened;
      there = opened.ensures.there;
      says = c.told_in.ensures;
      stop = refl;
      log = opened.ensures.log;
    }
