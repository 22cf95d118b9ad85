use Rattle.smf_text.specs.Day.{day_text_of}
use Rattle.text_drafts.proofs.draft.Draft.push_day.Given as goal

-- the piece is the day
abbrev pub ghost-push_made : goal.ghost-push_made
ghost-push_made a = day_text_of a.value.now
