use Rattle.std.proofs.Common.{rules, ◌++◌, ◌∷◌, [], ◌∙◌, Some, ap}
use Rattle.std.proofs.KnownBytes.{Consumes-nil}
use Rattle.std.specs.Io.Iter.{bytes_remaining}
use Rattle.program_output.proofs.NameLemmas.{fault_is}
use Rattle.without_books.specs.Faults.{names_fault}
use Rattle.chargectl.specs.Choices.{IsListFault}
use Rattle.chargectl.proofs.ListLemmas.{all_refused, byte_came, front_refused, no_list}
use Rattle.chargectl.proofs.choices.read_names.Goals as goal

pub loop-byte-init : goal.loop-byte-init
loop-byte-init g c = ([], c.new-list.ensures, Consumes-nil _)

pub loop-byte-preserved : goal.loop-byte-preserved
loop-byte-preserved g c =
    let remaining = bytes_remaining g.R.Read.remaining in
    let so_far = c.loop-byte.invariant in
    let byte = c.in_ok-byte.field-0 in (
      so_far.0 ++ byte ∷ [],
      c.in_ok-push.ensures.read so_far.0 so_far.1,
      byte_came _ (remaining c.loop-byte.byte-iterator) (remaining c.next.new.self) so_far.0
          c.next.result byte so_far.2 c.next.ensures.steps
          (c.in-Some.is ∙ ap Some c.in_ok-byte.was),
    )

pub returns-in_err-push-clause-refused : goal.returns-in_err-push-clause-refused
returns-in_err-push-clause-refused g c =
    let remaining = bytes_remaining g.R.Read.remaining in
    let had = g.R.Read.remaining c.args.reader in
    let so_far = c.loop-byte.invariant in
    let byte = c.in_ok-byte.field-0 in
    let why = c.in_err-push.field-0.0 in
    fault_is c.from_residual-in_err-push.result (names_fault why) (IsListFault had)
    c.from_residual-in_err-push.ensures.1
    (no_list had (so_far.0 ++ byte ∷ []) why (c.in_err-push.ensures.refused so_far.0 [] so_far.1)
    (front_refused had _ (remaining c.next.new.self) so_far.0 byte why
    (byte_came _ (remaining c.loop-byte.byte-iterator) (remaining c.next.new.self) so_far.0
    c.next.result byte so_far.2 c.next.ensures.steps (c.in-Some.is ∙ ap Some c.in_ok-byte.was))
    (search rules) (λ more. c.in_err-push.ensures.refused so_far.0 more so_far.1)))

pub returns-in_err-end-clause-refused : goal.returns-in_err-end-clause-refused
returns-in_err-end-clause-refused g c =
    let had = g.R.Read.remaining c.args.reader in
    let so_far = c.loop-byte.invariant in
    let why = c.in_err-end.field-0.0 in
    let refused = c.in_err-end.ensures.refused so_far.0 so_far.1 in
    fault_is c.from_residual-in_err-end.result (names_fault why) (IsListFault had)
    c.from_residual-in_err-end.ensures.1
    (no_list had so_far.0 why refused
    (all_refused had _ _ so_far.0 why so_far.2 (search rules) c.in-None.ensures.steps refused))
