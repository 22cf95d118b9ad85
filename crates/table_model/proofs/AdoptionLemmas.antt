-- Identities by the second rule, and how the row of the book determines the rule.
use Rattle.std.proofs.Common.{ℕ, ap, Option, if◌then◌else◌, is_some, unwrap_or}
use Rattle.book_model.specs.Words.{first_rule, second_rule}
use Rattle.table_model.specs.Words.{never_adopted, row_record}
use Rattle.table_model.specs.AnswerLaws.{AdoptionsFollow}
use Rattle.table_model.proofs.FitsLemmas.{numbers_fit}
use Rattle.smf_type30.proofs.IdentityLength.{identity2-long}
use Rattle.table_model.proofs.RulingsReading.{adopted_back}

-- the rule in force, by the period of its adoption
abbrev rule_since : Option ℕ → ℕ
rule_since adopted = if is_some adopted then second_rule else first_rule

-- that period, in the row of the book
abbrev since : Option ℕ → ℕ
since adopted = unwrap_or adopted never_adopted

-- the law
pub adoptions_follow : AdoptionsFollow
adoptions_follow = record {
  renamed = λ naming book name row whole found.
      identity2-long (row_record row)
      ((numbers_fit naming book whole).records name row found).usage.usage;
  first = λ naming book none. (ap rule_since none, ap since none);
  second = λ naming book period some. (ap rule_since some, ap since some);
  told = λ naming book. adopted_back book.rulings book.held;
}
