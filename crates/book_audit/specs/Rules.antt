-- The rule of identity of books: what their row says of it, and which work a record measures by it.
use Rattle.std.specs.Prelude.{ℕ, Bool, true, false, ◌==◌, ◌&&◌, nat_le, nat_lt, List, Option, Some}
use Rattle.std.specs.Prelude.{None, if◌then◌else◌}
use Rattle.book_model.specs.Words.{identity_of, identity2_of, first_rule, second_rule, last_period}
use Rattle.table_model.specs.Words.{never_adopted}
use Rattle.book_audit.specs.declared.identity_rule.IdentityRule.{IdentityRule}
use Rattle.book_audit.specs.declared.identity_rule.IdentityRule.TheVariants.{First, SecondSince}

-- such a period may be open
abbrev pub may_be_open : ℕ → Bool
may_be_open period = nat_lt 0 period && nat_le period last_period

-- The rule for a number and a period of adoption: the first was never adopted, and the second in
-- a period. No books have another pair.
abbrev pub rule_of : ℕ → ℕ → Option IdentityRule
rule_of number adopted =
    if (number == first_rule) && (adopted == never_adopted) then Some First
    else if (number == second_rule) && may_be_open adopted then Some (SecondSince adopted)
    else None

-- it was adopted no later than in this period, if it was adopted at all
abbrev pub is_by : ℕ → IdentityRule → Bool
is_by period First = true
is_by period (SecondSince adopted) = nat_le adopted period

-- it was adopted in this period or later, so that identities that were equal then may now differ
abbrev pub may_split : ℕ → IdentityRule → Bool
may_split period First = false
may_split period (SecondSince adopted) = nat_le period adopted

-- which work a record measures
abbrev pub identity_under : IdentityRule → List ℕ → List ℕ
identity_under First bytes = identity_of bytes
identity_under (SecondSince adopted) bytes = identity2_of bytes

-- the second rule was adopted
abbrev pub is_adopted : IdentityRule → Bool
is_adopted First = false
is_adopted (SecondSince adopted) = true
