use Rattle.std.proofs.Common.{inl, inr, refl, subst}
use Rattle.std.specs.Io.KnownBytes.{Keeps}
use Rattle.std.specs.IoError.{error_kind}
use Rattle.office.specs.declared.request.Asked.TheVariants as asks
use Rattle.command_line.specs.declared.request.BookRequest.TheVariants as book
use Rattle.without_books.specs.Faults.{io_fault}
use Rattle.without_books.specs.FirstBytes.{IsLookedAt, whole_remaining}
use Rattle.without_books.specs.Inputs.{watched_remaining}
use Rattle.chargectl.proofs.CommandLemmas.{not_asked}
use Rattle.chargectl.proofs.book_commands.import_dump.Goals as goal

-- a dump that had to be whole, and is torn
pub returns-in_err-expect_whole : goal.returns-in_err-expect_whole
returns-in_err-expect_whole g c =
    not_asked (g.F.Inputs.held c.args.inputs.now) (book.Import c.args.dump) c.args.book.now
    (g.S.Repository.shelf c.args.repository.now) c.from_residual-in_err-expect_whole.result
    c.in_err-expect_whole.field-0.0 c.from_residual-in_err-expect_whole.ensures.0
    c.from_residual-in_err-expect_whole.ensures.1 (inr c.in_err-expect_whole.ensures)

-- a file that is not opened
pub returns-in_err-input : goal.returns-in_err-input
returns-in_err-input g c =
    let why = error_kind c.in_err-input.field-0.0 in
    not_asked (g.F.Inputs.held c.args.inputs.now) (book.Import c.args.dump) c.args.book.now
    (g.S.Repository.shelf c.args.repository.now) c.from_residual-in_err-input.result (io_fault why)
    c.from_residual-in_err-input.ensures.0 c.from_residual-in_err-input.ensures.1
    (inr (inl (why, refl)))

pub returns : goal.returns
returns g c =
    let came = c.ask_books-answered.ensures.answered in
    let looked = c.look_at-reader in
    let remaining = watched_remaining g.F.Input.Read.remaining in
    record {
      asked = asks.Import c.args.dump.layout c.args.note;
      words = refl;
      had = whole_remaining remaining looked.result.reader;
      came = record {
        told = came.told;
        done = came.done;
        there = came.there;
        says = came.says;
        log = came.log;
        change = came.change;
      };
      dump = subst (λ had. Keeps had (whole_remaining remaining looked.result.reader))
          c.in_ok-input.ensures looked.ensures.bytes;
      notice = (
        looked.result.is_misread,
        subst (λ had. IsLookedAt c.args.dump.layout had looked.result.is_misread)
            c.in_ok-input.ensures looked.ensures.looked,
        c.answer_notice-answered.ensures,
      );
    }
