use Rattle.std.proofs.Common.{◌≡◌, ◌∙◌, ◌||◌, ◌+◌, Bool, true, false, if◌then◌else◌, Ok, Err, refl}
use Rattle.std.proofs.Common.{sym, ap, subst, nat_le, nat_lt, ℕ, List, None}
use Rattle.std.specs.BTreeMap.{insert_entry}
use Rattle.book_model.specs.declared.answer.Accepted.TheVariants.{Known}
use Rattle.book_model.specs.declared.fault.LedgerFault.TheVariants.{DigestClash}
use Rattle.book_model.specs.Words.{accept_priced, keep, after_any, most_held, most_cost}
use Rattle.book_model.specs.Words.{accept_event, by_bytes, same_bytes, price_under, has}
use Rattle.book_model.proofs.AnswerLemmas.{answers_itself, accept_calls}
use Rattle.plain_ledger.specs.Plain.{AreBooked, CacheIsHeld, held_in, record_of}
use Rattle.plain_ledger.specs.PlainBook.{book_in, book_with}
use Rattle.plain_ledger.specs.Treatments.{AreNamed, under_name}
use Rattle.plain_ledger.proofs.AcceptLemmas.{accept_answer-found, accept_answer-missing}
use Rattle.plain_ledger.proofs.AcceptLemmas.{accept_answer-priced, kept_with}
use Rattle.plain_ledger.proofs.BookLemmas.{book-kept}
use Rattle.plain_ledger.proofs.CacheLemmas.{one_held, still_held}
use Rattle.plain_ledger.proofs.NameLemmas.{still_named}
use Rattle.plain_ledger.proofs.plain.PlainBooks.keep_named.Goals as goal

-- a record with a name that one has is no event
no_event : (bytes : List ℕ) (same : Bool)
    → accept_event bytes (if same then Ok Known else Err DigestClash) ≡ None
no_event bytes true = refl
no_event bytes false = refl

pub returns-in-Some : goal.returns-in-Some
returns-in-Some g c =
    let book = book_in c.args.self.now in
    let names = g.N.Naming.name_of c.args.self.now.naming in
    let bytes = c.args.bytes.now in
    let found = c.in-Some.held.now in
    record {
      call = accept_calls names bytes book book c.known_or_clash.result
          (answers_itself _ _ (accept_answer-found c.args.self.now.kept c.args.self.now.rising bytes
          c.name_of-name.result found c.name_of-name.ensures (sym c.in-Some.ensures.value)
          ∙ sym c.known_or_clash.ensures))
          (ap (λ event. after_any event book)
          (sym (ap (accept_event bytes) c.known_or_clash.ensures
          ∙ no_event bytes (same_bytes (record_of found) bytes))));
      naming = refl;
    }

pub returns-in_default-price_in : goal.returns-in_default-price_in
returns-in_default-price_in g c =
    let usage = c.requires.same in
    let price = c.in_default-price_in.ensures.value
    ∙ (λ i. price_under (c.tariffs.ensures i) (usage i)) in
    let book = book_in c.args.self.now in
    record {
      call = accept_calls (g.N.Naming.name_of c.args.self.now.naming) c.args.bytes.now book book _
          (accept_answer-missing c.args.self.now.kept c.args.self.now.rising c.args.bytes.now
          c.name_of-name.result c.name_of-name.ensures (sym c.in_default.ensures.value)
          ∙ ap (accept_priced book) (sym price))
          refl;
      naming = refl;
    }

pub returns-then-is_full : goal.returns-then-is_full
returns-then-is_full g c =
    let usage = c.requires.same in
    let price = c.in-Some-price_in.ensures.value
    ∙ (λ i. price_under (c.tariffs.ensures i) (usage i)) in
    let amount = c.in-Some-price_in.priced.amount in
    let book = book_in c.args.self.now in
    record {
      call = accept_calls (g.N.Naming.name_of c.args.self.now.naming) c.args.bytes.now book book _
          (accept_answer-priced c.args.self.now.kept c.args.self.now.rising c.args.bytes.now
          c.name_of-name.result c.in-Some-price_in.priced _ c.name_of-name.ensures
          (sym c.in_default.ensures.value) (sym price)
          (ap (λ n. nat_le most_held n || nat_lt most_cost (c.args.self.now.total + amount))
          (sym c.len-count.ensures.len)
          ∙ sym c.is_full.ensures ∙ c.if-is_full.true))
          refl;
      naming = refl;
    }

pub invariant_of-self-2 : goal.invariant_of-self-2
invariant_of-self-2 g c =
    let usage = c.requires.same in
    let price = c.in-Some-price_in.ensures.value
    ∙ (λ i. price_under (c.tariffs.ensures i) (usage i)) in
    let amount = c.in-Some-price_in.priced.amount in
    let ledger = c.args.self.now in
    let names = g.N.Naming.name_of ledger.naming in
    record {
      rising = c.in_ok-insert.ensures.ordered;
      kept = subst
          (λ entries. AreBooked names (book_in ledger).rulings entries (ledger.total + amount))
          (sym c.in_ok-insert.ensures.entries)
          (kept_with ledger.kept ledger.rising c.args.bytes.now c.name_of-name.result
          c.in_ok-held.held c.in-Some-price_in.priced
          c.name_of-name.ensures (sym c.in_default.ensures.value)
          (sym price) c.in_ok-held.ensures.bytes c.in_ok-held.ensures.priced
          (ap (λ n. nat_le most_held n || nat_lt most_cost (ledger.total + amount))
          (sym c.len-count.ensures.len)
          ∙ sym c.is_full.ensures ∙ c.if-is_full.false));
      recalls =
          let name = c.name_of-name.result in
          let held = c.in_ok-held.held in
          let missing = sym c.in_default.ensures.value in
          let after = insert_entry by_bytes ledger.held.entries name held in
          subst (λ entries. CacheIsHeld entries c.remember.new.self) (sym c.in_ok-insert.ensures.entries)
          (c.remember.ensures (has (held_in after))
          (still_held ledger.held.entries name held missing ledger.cache ledger.recalls)
          (one_held ledger.held.entries name held missing _ c.in_ok-record.ensures.cases));
      named = subst (λ entries. AreNamed entries ledger.posted ledger.closed.items)
          (sym c.in_ok-insert.ensures.entries)
          (still_named ledger.held.entries c.name_of-name.result c.in_ok-held.held
          (sym c.in_default.ensures.value) ledger.posted ledger.closed.items ledger.named
          (λ other. ap (under_name other) (sym c.in_ok-insert.ensures.entries)
          ∙ c.in_ok-insert.ensures.updates.0 other));
      few = ledger.few;
      few_replaced = ledger.few_replaced;
      few_credits = ledger.few_credits;
      counted = ledger.counted;
    }

pub returns : goal.returns
returns g c =
    let ledger = c.args.self.now in
    let usage = c.requires.same in
    let price = c.in-Some-price_in.ensures.value
    ∙ (λ i. price_under (c.tariffs.ensures i) (usage i)) in
    let amount = c.in-Some-price_in.priced.amount in
    let missing = sym c.in_default.ensures.value in
    record {
      call = accept_calls (g.N.Naming.name_of ledger.naming) c.args.bytes.now (book_in ledger) _ _
          (accept_answer-priced ledger.kept ledger.rising c.args.bytes.now
          c.name_of-name.result c.in-Some-price_in.priced _ c.name_of-name.ensures missing
          (sym price) (ap (λ n. nat_le most_held n || nat_lt most_cost (ledger.total + amount))
          (sym c.len-count.ensures.len)
          ∙ sym c.is_full.ensures ∙ c.if-is_full.false))
          (ap (λ entries. book_with (book_in ledger).rulings entries ledger.posted ledger.closed.items)
          c.in_ok-insert.ensures.entries
          ∙ book-kept (book_in ledger).rulings ledger.held.entries ledger.posted ledger.closed.items
          c.name_of-name.result c.in_ok-held.held missing ledger.named
          ∙ ap (λ bytes. keep bytes (book_in ledger)) c.in_ok-held.ensures.bytes);
      naming = refl;
    }
