use Rattle.std.proofs.Common.{◌∙◌, ap}
use Rattle.book_model.specs.Words.{with}
use Rattle.plain_ledger.specs.MadeEntries.{kept_of}
use Rattle.plain_ledger.proofs.MadeLemmas.{with_one}
use Rattle.plain_ledger.proofs.made_entries.with_one.Goals as goal

-- the copy comes last
pub returns : goal.returns
returns c =
    ap kept_of c.in_ok-push.ensures.items
    ∙ with_one c.args.kept.items c.in_ok-own.own
    ∙ ap (with (kept_of c.args.kept.items)) c.in_ok-own.ensures.items
