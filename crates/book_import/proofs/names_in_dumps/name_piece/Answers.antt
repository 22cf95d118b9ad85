use Rattle.std.proofs.Common.{ℕ, Vec, Global, subst, sym}
use Rattle.std.specs.Prelude.{All}
use Rattle.book_model.specs.Words.{IsUsageRecord}
use Rattle.book_import.proofs.NameLemmas.{group_named}
use Rattle.book_import.proofs.names_in_dumps.name_piece.Goals as goal

pub push_names-requires : goal.push_names-requires
push_names-requires g c =
    subst (λ usage. All (λ (one : Vec ℕ Global). IsUsageRecord one.items) usage)
    (sym c.deref.ensures.value) c.in_ok-group.group.usable

pub returns-clause-named : goal.returns-clause-named
returns-clause-named g c = λ text stood.
    group_named (g.N.Naming.name_of c.args.naming.now) (c.in_ok-group.ensures.gathers text stood)
    (rw c.deref.ensures.value at c.in_ok-push_names.ensures)

pub returns-clause-taken : goal.returns-clause-taken
returns-clause-taken g c = λ whole. c.in_ok-group.ensures.taken whole

pub returns-clause-broken : goal.returns-clause-broken
returns-clause-broken g c = c.in_ok-group.ensures.broken
