use Rattle.smf_text.specs.CodePage.{show_text}
use Rattle.html_text.specs.Escaping.{escaped}
use Rattle.html_text.proofs.escaping.push_shown.Given as goal

-- the piece is the bytes as a page shows them
abbrev pub ghost-leave_out : goal.ghost-leave_out
ghost-leave_out a = escaped (show_text a.value.now.now)
