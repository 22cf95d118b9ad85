use Rattle.std.proofs.Common.{refl}
use Rattle.book_model.specs.Words.{note_given}
use Rattle.chargectl.proofs.withheld_works.withhold_named.Goals as goal

pub returns : goal.returns
returns g c =
    let opened = c.open-answer in
    record {
      said = note_given c.args.note;
      done = opened.ensures.opened;
      there = opened.ensures.there;
      stop = refl;
      log = opened.ensures.log;
    }
