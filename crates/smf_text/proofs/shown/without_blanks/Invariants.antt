use Rattle.std.proofs.Common.{◌≡◌, ◌≤◌, length, take}
use Rattle.smf_text.specs.CodePage as spec
use Rattle.smf_text.proofs.shown.without_blanks.Given as goal

-- only blanks were dropped so far
abbrev pub invariant-loop-end : goal.invariant-loop-end
invariant-loop-end l =
    (l.end ≤ length l.bytes)
    × (spec.without_blanks (take l.end l.bytes) ≡ spec.without_blanks l.bytes)

abbrev pub decreases-loop-end : goal.decreases-loop-end
decreases-loop-end l = l.end
