use Rattle.std.proofs.Common.{◌≡◌, ◌∙◌, ap, sym, subst, map, true, List, [], Option, IfSome}
use Rattle.std.proofs.Common.{IsSomeAnd, string_bytes}
use Rattle.clap.specs.Faults.{fault_of, is_simple_and_free}
use Rattle.clap.specs.Kinds.{HasKind}
use Rattle.clap.specs.Simple.{app_of, is_simple, subcommand_of, subcommand_rows_of}
use Rattle.command_line.proofs.Shared.{App, Row, Text, HasWordsOf, app_for}
use Rattle.command_line.specs.Requests.{IsRequest}
use Rattle.command_line.proofs.EnteredLemmas.{words_of_command}
use Rattle.command_line.proofs.ReadLemmas.{read_ok, read_err}
use Rattle.command_line.proofs.command_line.requested_by.Goals as goal

pub returns-in-Ok-try_get_matches_from : goal.returns-in-Ok-try_get_matches_from
returns-in-Ok-try_get_matches_from c =
    let table = c.all_commands.result.now in
    let program = c.args.program.now in
    let words = map string_bytes c.args.words.now in
    let app = app_for program c.args.highest table in
    let matches = c.in-Ok-try_get_matches_from.matches in
    let line : app_of c.in-Ok.line ≡ app = c.in-Ok.ensures in
    let known = c.all_commands.ensures in
    let simple : is_simple_and_free (app_of c.in-Ok.line) ≡ true =
    ap is_simple_and_free line ∙ known.free program c.args.highest in
    let plain : is_simple (app_of c.in-Ok.line) ≡ true =
    ap is_simple line ∙ known.simple program c.args.highest in
    let none : fault_of app words ≡ [] =
    ap (λ (app : App). fault_of app words) (sym line)
    ∙ c.in-Ok-try_get_matches_from.ensures.kinds simple in
    let met : subcommand_rows_of matches ≡ subcommand_of app words =
    (c.in-Ok-try_get_matches_from.ensures.matches plain).1
    ∙ ap (λ (app : App). subcommand_of app words) line in
    record {
      table = table;
      is = known.is;
      read = read_ok (subcommand_of app words) (fault_of app words) c.new.result
          c.matched_request.result c.ok_or.result c.ok_or.ensures.value none
          (c.matched_request.ensures.some
          (subst (λ (o : Option (Text × List Row)). IsSomeAnd o (λ found. HasWordsOf found.0 found.1))
          (sym met) (words_of_command program c.args.highest table words
          (known.alone program c.args.highest) known.is none)))
          (subst (λ (o : Option (Text × List Row)). IfSome c.matched_request.result (λ asked.
          IsSomeAnd o (λ found. IsRequest found.0 found.1 asked))) met
          c.matched_request.ensures.request);
    }

pub returns-in-Err : goal.returns-in-Err
returns-in-Err c =
    let table = c.all_commands.result.now in
    let words = map string_bytes c.args.words.now in
    let app = app_for c.args.program.now c.args.highest table in
    let line : app_of c.in-Ok.line ≡ app = c.in-Ok.ensures in
    let simple : is_simple_and_free (app_of c.in-Ok.line) ≡ true =
    ap is_simple_and_free line ∙ c.all_commands.ensures.free c.args.program.now c.args.highest in
    record {
      table = table;
      is = c.all_commands.ensures.is;
      read = read_err (subcommand_of app words) (fault_of app words) c.in-Err.error c.fault_in.result
          (subst (λ (app : App). HasKind (fault_of app words) c.in-Err.error) line
          (c.in-Err.ensures.kinds simple))
          c.fault_in.ensures.said c.fault_in.ensures.memory;
    }
